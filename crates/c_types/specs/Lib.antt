pub mod Flat
pub mod AsItCame
pub mod Histories
pub mod Judged
