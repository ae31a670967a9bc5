pub mod RefusalsTold
