pub mod Undo
mod FlatAnswers
pub mod AsItCame
pub mod Histories
pub mod Judged
