pub mod Components
pub mod LoadedNumbers
