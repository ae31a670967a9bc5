pub mod LineHeld
