pub mod Trimming
pub mod NoticeValues
pub mod NoticeForms
pub mod NoticeLengths
pub mod Marks
pub mod SameWords
