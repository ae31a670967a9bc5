pub mod ComposeRuns
