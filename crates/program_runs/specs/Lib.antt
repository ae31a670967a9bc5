pub mod AnsweredRuns
