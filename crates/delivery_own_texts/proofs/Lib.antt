pub mod OwnTexts
