pub mod TextsInBuffer
pub mod TermsTexts
