mod BytesOnLine
pub mod ReportLengths
pub mod ReportLines
