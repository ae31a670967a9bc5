pub mod Maps
mod Ranges
