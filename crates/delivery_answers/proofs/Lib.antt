pub mod ReplyTexts
pub mod QuestionHeld
pub mod ReplyLengths
pub mod ReplyRefusals
