pub mod PriceQuestions
