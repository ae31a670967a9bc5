pub mod DayQuestions
pub mod Before
