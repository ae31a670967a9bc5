pub mod WholeInputs
