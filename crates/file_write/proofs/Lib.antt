pub mod Buffers
pub mod WriteAnswer
pub mod ZeroBytes
pub mod ProductRecords
pub mod Shapes
pub mod Holding
pub mod Same
