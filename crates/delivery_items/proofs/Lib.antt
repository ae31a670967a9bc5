mod FieldsParted
mod ItemForms
pub mod LongItems
pub mod LineEnds
