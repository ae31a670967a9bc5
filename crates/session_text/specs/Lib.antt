pub mod TermsText
pub mod Buffer
