pub mod Seeking
pub mod RisingIds
pub mod LoadAnswers
pub mod Accepting
pub mod Halving
mod SameIds
