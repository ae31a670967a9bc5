pub mod TransferAnswers
pub mod ReadsGoing
