pub mod Building
pub mod TextLengths
pub mod PrintedLines
pub mod WholeText
