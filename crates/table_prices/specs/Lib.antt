pub mod TablePrices
