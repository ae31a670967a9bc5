pub mod VerdictTexts
pub mod EntryLines
pub mod InputLines
pub mod VerdictLength
pub mod FirstBytes
pub mod YesText
