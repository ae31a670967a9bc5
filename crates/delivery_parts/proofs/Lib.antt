pub mod PlaceParts
pub mod Wholes
pub mod Next
pub mod Few
pub mod Handing
