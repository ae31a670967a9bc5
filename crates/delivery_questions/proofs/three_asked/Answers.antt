-- `three_asked` asks by the name in the middle: `last` (`three-last`), `due` (`three-due`), `tick`
-- (`three-tick`), and any other is a bad line (`three-none`); each return cites what `is_word` said so far.
use mathlib.Core.Path.{◌∙◌, sym}
use Rattle.delivery_questions.proofs.QuestionForms.{three-last, three-due, three-tick, three-none}
use Rattle.delivery_questions.proofs.three_asked.Goals as goal

pub returns-then-is_word-3 : goal.returns-then-is_word-3
returns-then-is_word-3 c = c.tick_asked.ensures ∙ three-tick _ _ _
    (sym c.is_word.ensures ∙
    c.if-is_word.false)
    (sym c.is_word-2.ensures ∙ c.if-is_word-2.false)
    (sym c.is_word-3.ensures ∙ c.if-is_word-3.true)

pub returns : goal.returns
returns c = c.bare_held.ensures ∙ three-none _ _ _
    (sym c.is_word.ensures ∙
    c.if-is_word.false)
    (sym c.is_word-2.ensures ∙ c.if-is_word-2.false)
    (sym c.is_word-3.ensures ∙ c.if-is_word-3.false)

pub returns-then-is_word : goal.returns-then-is_word
returns-then-is_word c = c.last_asked.ensures ∙ three-last _ _ _ (sym c.is_word.ensures ∙ c.if-is_word.true)

pub returns-then-is_word-2 : goal.returns-then-is_word-2
returns-then-is_word-2 c = c.due_asked.ensures ∙ three-due _ _ _
    (sym c.is_word.ensures ∙ c.if-is_word.false)
    (sym c.is_word-2.ensures ∙ c.if-is_word-2.true)
