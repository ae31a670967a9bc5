pub mod CommandLines
pub mod BytePlaces
pub mod InputRest
