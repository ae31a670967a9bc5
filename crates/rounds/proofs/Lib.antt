mod QueuePlaces
mod Distinct
pub mod Queues
mod QueueQuestions
pub mod Rights
pub mod Waiting
mod WorkedQueues
