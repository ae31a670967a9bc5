pub mod LineWords
pub mod NumberWords
pub mod EntryForms
