pub mod Hypotheses
