pub mod TextLengths
