pub mod LineFeeding
pub mod CommandForms
pub mod BytePlaces
