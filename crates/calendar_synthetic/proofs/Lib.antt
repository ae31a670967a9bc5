mod EachDay
pub mod CleanCalendars
