-- `cash_asked` reads a question for cash. Another name (`cash-nameless`) or a number that is missing among
-- the contracts and the two prices (`cash-none`) is a bad line; else the question holds them (`cash-is`).
use mathlib.Core.Path.{◌∙◌, ap}
use Rattle.questions.proofs.Bools.{said-no, said-yes}
use Rattle.delivery_questions.specs.QuestionLines.{cash_word, is_word}
use Rattle.delivery_questions.proofs.QuestionForms.{cash-nameless, cash-none, cash-is}
use Rattle.delivery_questions.proofs.cash_asked.Goals as goal

pub returns-then-not-is_word : goal.returns-then-not-is_word
returns-then-not-is_word c = c.bare_held.ensures ∙ cash-nameless _ _ _ _ _
    (said-no (c.is_word.ensures ∙ ap (is_word cash_word) c.word_at.ensures) c.if-not-is_word.true)

pub returns-then-not-contracts-agreed : goal.returns-then-not-contracts-agreed
returns-then-not-contracts-agreed c = c.bare_held-then-not-contracts-agreed.ensures ∙ cash-none _ _ _ _ _
    (said-yes (c.is_word.ensures ∙
    ap (is_word cash_word) c.word_at.ensures)
    c.if-not-is_word.false) _ _ _
    c.number_in-contracts.ensures c.price_in-agreed.ensures
    c.price_in-last.ensures c.if-not-contracts-agreed.true

pub returns : goal.returns
returns c = cash-is _ _ _ _ _ (said-yes
    (c.is_word.ensures ∙
    ap (is_word cash_word) c.word_at.ensures)
    c.if-not-is_word.false) _ _ _ c.number_in-contracts.ensures
    c.price_in-agreed.ensures c.price_in-last.ensures c.if-not-contracts-agreed.false
