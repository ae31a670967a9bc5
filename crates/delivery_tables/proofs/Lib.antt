pub mod NoticesOnTable
pub mod CallsHeld
pub mod Comments
