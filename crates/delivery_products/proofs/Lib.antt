pub mod ProductPlaces
pub mod IdFound
