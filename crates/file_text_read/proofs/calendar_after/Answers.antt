-- The calendar after an entry: opened by Y, made by S, with a day closed by C or X, else as it was.
-- The five returns are the cases of `calendar_after_entry`; each cites the letters that were ruled out before it and what its call ensures.
use mathlib.Core.Path.{◌≡◌, refl, ◌∙◌, ap}
use Rattle.std.specs.Prelude.{Result, Ok, Err}
use Rattle.std.specs.Result.{result_unwrap_or}
use Rattle.questions.specs.Refusals.{result_answer}
use Rattle.questions.specs.declared.Refusal.{Refusal}
use Rattle.calendar.specs.Trading.{zero_calendar}
use borrow.Author.Tests.{eq-eqb, ne_eqb}
use Rattle.questions.specs.Questions.{Answer}
use Rattle.calendar.specs.declared.Calendar.{Calendar}
use Rattle.file_text_read.specs.Lists.{calendar_after_entry}
use Rattle.file_text_read.proofs.calendar_after.Goals as goal

-- the made-up calendar, or zeros where none is made
made_or_zeros : (made : Result Calendar Refusal) {cal zeros : Calendar} {a : Answer Calendar}
    → cal ≡ result_unwrap_or made zeros → zeros ≡ zero_calendar → result_answer zero_calendar made ≡ a → cal ≡ a.value
made_or_zeros (Ok _) e z m = e ∙ ap (λ (a : Answer Calendar). a.value) m
made_or_zeros (Err _) e z m = e ∙ z ∙ ap (λ (a : Answer Calendar). a.value) m

pub returns-then-letter-eq89 : goal.returns-then-letter-eq89
unfolding calendar_after_entry
returns-then-letter-eq89 c = rw (eq-eqb _ 89 c.if-letter-eq89.true) c.open_calendar.ensures

pub returns-then-letter-eq83 : goal.returns-then-letter-eq83
unfolding calendar_after_entry
returns-then-letter-eq83 c =
    rw (ne_eqb _ 89 c.if-letter-eq89.false, eq-eqb _ 83 c.if-letter-eq83.true) (made_or_zeros c.make.result c.unwrap_or.ensures c.zero_calendar.ensures c.make.ensures)

pub returns-then-letter-eq67 : goal.returns-then-letter-eq67
unfolding calendar_after_entry
returns-then-letter-eq67 c = rw (ne_eqb _ 89 c.if-letter-eq89.false, ne_eqb _ 83 c.if-letter-eq83.false, eq-eqb _ 67 c.if-letter-eq67.true)
    c.close_day.ensures

pub returns-then-letter-eq88 : goal.returns-then-letter-eq88
unfolding calendar_after_entry
returns-then-letter-eq88 c =
    rw (
      ne_eqb _ 89 c.if-letter-eq89.false,
      ne_eqb _ 83 c.if-letter-eq83.false,
      ne_eqb _ 67 c.if-letter-eq67.false,
      eq-eqb _ 88 c.if-letter-eq88.true,
    ) c.close_exchange_day.ensures

pub returns : goal.returns
unfolding calendar_after_entry
returns c =
    rw (ne_eqb _ 89 c.if-letter-eq89.false, ne_eqb _ 83 c.if-letter-eq83.false, ne_eqb _ 67 c.if-letter-eq67.false, ne_eqb _ 88 c.if-letter-eq88.false) refl
