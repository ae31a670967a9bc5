-- `words_line` gives what the words say: two words are a letter with a date (`two-words`), five a measure
-- (`five-words`), any other line is bad (`no_words`); each return cites what `is_letter_form` said.
use mathlib.Core.Path.{◌∙◌, sym}
use Rattle.delivery_lines.proofs.NoticeForms.{two-words, five-words, no_words}
use Rattle.delivery_lines.proofs.words_line.Goals as goal

pub returns-then-is_letter_form : goal.returns-then-is_letter_form
returns-then-is_letter_form c =
    c.day_notice.ensures ∙ rw (c.byte_at.ensures, c.date_in-date.ensures, c.word_at.ensures)
    (two-words _ (sym c.is_letter_form.ensures ∙ c.if-is_letter_form.true))

pub returns-then-is_letter_form-2 : goal.returns-then-is_letter_form-2
returns-then-is_letter_form-2 c =
    c.measure_line.ensures ∙ five-words _ (sym c.is_letter_form.ensures ∙ c.if-is_letter_form.false)
    (sym c.is_letter_form-2.ensures ∙ c.if-is_letter_form-2.true)

pub returns : goal.returns
returns c =
    c.notice_day_held.ensures ∙ no_words _ (sym c.is_letter_form.ensures ∙ c.if-is_letter_form.false)
    (sym c.is_letter_form-2.ensures ∙ c.if-is_letter_form-2.false)
