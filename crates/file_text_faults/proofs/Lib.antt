pub mod FirstIdleRun
pub mod First
