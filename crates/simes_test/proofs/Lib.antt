pub mod SimesWeights
pub mod SimesLaws
pub mod SimesSets
pub mod Rankings
pub mod OneOutcome
