-- `is_word` says whether a word is a name: `==` compares their lengths, and then byte by byte (`told_bytes`).
use Rattle.delivery_lines.proofs.SameWords.{told_bytes}
use Rattle.delivery_questions.specs.QuestionLines.{is_word}
use Rattle.delivery_questions.proofs.is_word.Goals as goal

pub returns : goal.returns
unfolding is_word
returns c = told_bytes c.args.word.now c.args.name.now _ c.eq.ensures
