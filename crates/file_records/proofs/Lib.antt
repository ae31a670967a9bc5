pub mod RecordParts
pub mod RecordPlaces
