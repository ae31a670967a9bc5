pub mod ShortLines
pub mod BadLinesTold
