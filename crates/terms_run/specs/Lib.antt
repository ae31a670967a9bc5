pub mod TermsOutcomes
