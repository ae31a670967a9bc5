pub mod DecomposeRefusals
