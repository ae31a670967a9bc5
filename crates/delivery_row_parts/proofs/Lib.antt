pub mod PartsTaken
