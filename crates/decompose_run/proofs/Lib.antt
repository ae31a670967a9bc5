pub mod FileFirstBytes
