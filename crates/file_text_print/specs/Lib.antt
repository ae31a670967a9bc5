pub mod Contents
pub mod WholeText
