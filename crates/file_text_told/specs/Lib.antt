pub mod ComposeTexts
pub mod Whole
