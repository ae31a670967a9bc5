pub mod NoticesStored
pub mod NoticeEnds
pub mod NoticesSoFar
