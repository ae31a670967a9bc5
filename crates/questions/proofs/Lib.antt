pub mod Bools
pub mod Asks
pub mod Search
pub mod Refusals
pub mod Chains
