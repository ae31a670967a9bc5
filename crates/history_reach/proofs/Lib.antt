pub mod FrontMoves
pub mod Twice
pub mod Closures
