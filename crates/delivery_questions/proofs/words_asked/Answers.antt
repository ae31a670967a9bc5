-- `words_asked` asks by the number of words. Each return cites the tests before it: a first word that is no id (`idless`),
-- two words for a size, three for a day or a price, five for cash, and any other number is a bad line (`no_words`).
use mathlib.Core.Path.{◌∙◌, sym}
use Rattle.questions.proofs.Bools.{said-no, said-yes}
use Rattle.delivery_questions.proofs.QuestionForms.{idless, two-words, three-words, five-words, no_words}
use Rattle.delivery_questions.proofs.words_asked.Goals as goal

pub returns-then-not-is_id_in : goal.returns-then-not-is_id_in
returns-then-not-is_id_in c = c.bare_held.ensures ∙ idless _ (said-no c.is_id_in.ensures c.if-not-is_id_in.true)

pub returns-then-words-eq2 : goal.returns-then-words-eq2
returns-then-words-eq2 c = c.size_asked.ensures ∙ rw (c.word_at.ensures, c.id_word-id.ensures)
    (two-words _ (said-yes c.is_id_in.ensures c.if-not-is_id_in.false)
    (sym c.word_count-words.ensures ∙ c.if-words-eq2.true))

pub returns-then-words-eq3 : goal.returns-then-words-eq3
returns-then-words-eq3 c =
    c.three_asked.ensures ∙ rw (
      c.word_at-then-words-eq3.ensures,
      c.word_at-then-words-eq3-2.ensures,
      c.id_word-id.ensures,
    )
    (three-words _ (said-yes c.is_id_in.ensures
    c.if-not-is_id_in.false)
    (λ z. c.if-words-eq2.false (c.word_count-words.ensures ∙ z))
    (sym c.word_count-words.ensures ∙ c.if-words-eq3.true))

pub returns-then-words-eq5 : goal.returns-then-words-eq5
returns-then-words-eq5 c =
    c.cash_asked.ensures ∙ rw c.id_word-id.ensures
    (five-words _ (said-yes c.is_id_in.ensures
    c.if-not-is_id_in.false) (λ z. c.if-words-eq2.false (c.word_count-words.ensures ∙ z))
    (λ z. c.if-words-eq3.false (c.word_count-words.ensures ∙ z)) (sym c.word_count-words.ensures ∙ c.if-words-eq5.true))

pub returns : goal.returns
returns c =
    c.bare_held-2.ensures ∙ no_words _ (said-yes c.is_id_in.ensures
    c.if-not-is_id_in.false) (λ z. c.if-words-eq2.false (c.word_count-words.ensures ∙ z))
    (λ z. c.if-words-eq3.false (c.word_count-words.ensures ∙ z)) (λ z. c.if-words-eq5.false (c.word_count-words.ensures ∙ z))
