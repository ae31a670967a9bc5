pub mod Items
pub mod LineFields
pub mod LineEnds
