mod QuestionForms
