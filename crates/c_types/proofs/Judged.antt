-- An open by the file's own verdict is the open of the file; by any verdict, a refused one gives back a table of zeros.
-- Assumes nothing.
use Prim.Native.Nat.{ℕ}
use mathlib.Core.Path.{◌≡◌, refl, ap}
use mathlib.Core.List.{List}
use borrow.Author.Tests.{ne_eqb}
use Rattle.questions.specs.Questions.{first_no}
use Rattle.file_calendar.specs.declared.FileCalendar.{FileCalendar}
use Rattle.file_calendar.specs.Calendars.{calendar_answer}
use Rattle.file_load.specs.Load.{judge_call}
use Rattle.table_opening.specs.Opening.{asks_in}
use Rattle.table.specs.declared.Outcome.{Outcome}
use Rattle.table.specs.Table.{answered, refused_with, zero_table, open_call, open_in}
use Rattle.table.proofs.Opens.{open_is}
use Rattle.c_types.specs.Flat.{flat_table, flat_outcome}
use Rattle.c_types.specs.Judged.{flat_open_in, OpenByVerdict}
use Rattle.c_types.proofs.AsItCame.{answered-same}

module _ (judged : FileCalendar) (f id : List ℕ) (date : ℕ) where
  same-file : calendar_answer judged ≡ judge_call f → flat_open_in judged f id date ≡ flat_outcome (open_call f id date)
  same-file e = rw e (ap flat_outcome (open_is f id date))

  number : (judged.refusal ≡ 0 → ⊥) → (flat_open_in judged f id date).refusal ≡ judged.refusal
  unfolding open_in answered asks_in first_no
  number no_zero = rw (ne_eqb judged.refusal 0 no_zero, ne_eqb judged.refusal 0 no_zero) refl

  refused : ((open_in (calendar_answer judged) f id date).refusal ≡ 0 → ⊥)
      → open_in (calendar_answer judged) f id date ≡ refused_with zero_table (first_no (asks_in (calendar_answer judged) f id date))
  unfolding open_in
  refused = answered-same zero_table (asks_in (calendar_answer judged) f id date) _ refl

  -- an open by the file's own verdict is an open that asks 1 to 8; by a refusal it has that number; refused, a table of zeros
  pub judged-before : OpenByVerdict judged f id date
  judged-before =
      record {
        same-file = same-file;
        number = number;
        zeros = λ no_zero. ap (λ (o : Outcome). flat_table o.table) (refused no_zero);
      }
