pub mod CommandAnswers
pub mod Session
