mod NoticesSaid
mod Delivering
pub mod DemandAfterNotices
pub mod RefusedOpening
