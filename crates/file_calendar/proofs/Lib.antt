pub mod Filling
pub mod CalendarBlocks
