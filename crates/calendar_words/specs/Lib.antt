pub mod DayWords
