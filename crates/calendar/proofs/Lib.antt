pub mod Bits
pub mod Covered
pub mod Clean
pub mod Closing
pub mod Weeks
pub mod NextExchangeDay
pub mod SecondMap
pub mod Reopening
