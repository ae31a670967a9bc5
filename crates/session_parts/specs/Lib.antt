pub mod TermsParts
