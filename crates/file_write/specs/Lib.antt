pub mod Writing
pub mod FilesWritten
