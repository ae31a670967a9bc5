pub mod LongQuestions
pub mod Answering
pub mod QueryStandings
pub mod NoticeCounts
pub mod QueriedTables
