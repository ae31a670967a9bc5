pub mod RefusedCalls
pub mod Making
