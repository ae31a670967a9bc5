pub mod QuestionLines
