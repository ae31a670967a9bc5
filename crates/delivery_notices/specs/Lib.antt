pub mod Notices
pub mod NoticeLists
pub mod NoticeReading
