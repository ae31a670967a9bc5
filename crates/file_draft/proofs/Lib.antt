pub mod DraftBlocks
pub mod Headers
pub mod Cover
pub mod DraftCalendars
pub mod DraftRecords
pub mod DraftQuestions
