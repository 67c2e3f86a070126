mod Faults
mod Looks
mod Memory
mod PrintedNumbers
mod PrintedRatios
mod Refusals
mod RowFacts
mod Slashes
