pub mod MeasureQuestions
pub mod ValueKept
