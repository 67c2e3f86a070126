pub mod Looks
pub mod Studies
pub mod StudyAnswers
pub mod StudyCalls
pub mod StudyContents
pub mod StudyStatements
pub mod StudyView
