pub mod TermsPassing
pub mod TermsRuns
