pub mod RecordsStored
pub mod ListLines
pub mod Seeds
pub mod Where
