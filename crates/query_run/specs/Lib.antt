pub mod QueryOutcomes
