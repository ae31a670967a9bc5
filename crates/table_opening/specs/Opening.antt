-- What the call that opens a table asks of a file, and what it finds there
-- (01, Questions, in order, 'Open'; Master file, 'Open finds its record by id'; 02, note 3).
-- Assumes nothing.
use Rattle.std.specs.Prelude.{ℕ, cond, List, [], ◌∷◌, ◌++◌, Result, Ok, Err, eqb, replicate}
use Rattle.questions.specs.Questions.{Ask, ask, first_no, Answer}
use Rattle.calendar.specs.Trading.{in_cover, zero_calendar}
use Rattle.calendar.specs.declared.Calendar.{Calendar}
use Rattle.product.specs.Fields.{zero_product}
use Rattle.listing.specs.Rules.{unused, places15}
use Rattle.listing.specs.Months.{fresh_of, all_in_cover, week_into_cover}
use Rattle.file_calendar.specs.Calendars.{calendar_of}
use Rattle.file_load.specs.Load.{load_asks, found, product_of}
use Rattle.file_load.specs.Halves.{found_by_halves, product_by_halves}
use Rattle.product.specs.declared.Product.{Product}
use Rattle.listing.specs.declared.Maturity.{Maturity}
use Rattle.table_opening.specs.declared.Findings.{Findings}
use Rattle.table_opening.specs.declared.ListedFindings.{ListedFindings}

-- '9, 11, 16'; '24, after 11, in opening kind 5' (02, note 3):
-- what open asks after the questions of load
abbrev pub opening_asks : List ℕ → List ℕ → ℕ → List Ask
opening_asks f id date =
    ask 9 (found f id)
    ∷ ask 11 (in_cover (calendar_of f).cover date)
    ∷ ask 24 (week_into_cover (product_of f id).kind (calendar_of f).cover date)
    ∷ ask 16 (all_in_cover (calendar_of f) (product_of f id).kind (product_of f id).group date)
    ∷ []

-- 'Open: 1–9, 11, 16', where 1–8 are those of load
unfoldable pub open_asks : List ℕ → List ℕ → ℕ → List Ask
open_asks f id date = load_asks f ++ opening_asks f id date

-- what an open finds: the number of the refusal, 0 where there is none; the product, the file's calendar, and the fresh listing, zeros with a refusal
pub record Opening : Type 0 where
  pub refusal : ℕ
  pub product : Product
  pub calendar : Calendar
  pub fresh : List Maturity

-- the same but for the calendar
pub record Listed : Type 0 where
  pub refusal : ℕ
  pub product : Product
  pub fresh : List Maturity

-- with a refusal: its number, and zeros
abbrev pub refused_opening : ℕ → Opening
refused_opening number = record { refusal = number; product = zero_product; calendar = zero_calendar; fresh = replicate 15 unused }

-- the record's product, the file's calendar, and the fresh listing on the date; refused with the number of the first question answered no
unfoldable pub opening_of : List ℕ → List ℕ → ℕ → Opening
opening_of f id date =
    cond (eqb (first_no (open_asks f id date)) 0)
    (record {
      refusal = 0;
      product = product_of f id;
      calendar = calendar_of f;
      fresh = places15 (fresh_of (calendar_of f) (product_of f id).kind (product_of f id).group date);
    })
    (refused_opening (first_no (open_asks f id date)))

-- the questions of open where a verdict on 1 to 8 is at hand: its number, 0 where all are answered yes, and its calendar.
-- Whether the verdict is the file's is not asked. 9 is asked by halves, which in a file that load accepts is 9
unfoldable pub asks_in : Answer Calendar → List ℕ → List ℕ → ℕ → List Ask
asks_in verdict f id date =
    ask verdict.refusal (eqb verdict.refusal 0)
    ∷ ask 9 (found_by_halves f id)
    ∷ ask 11 (in_cover verdict.value.cover date)
    ∷ ask 24 (week_into_cover (product_by_halves f id).kind verdict.value.cover date)
    ∷ ask 16 (all_in_cover verdict.value (product_by_halves f id).kind (product_by_halves f id).group date)
    ∷ []

-- what is found in a file by a verdict; by the file's own it is `opening_of`
unfoldable pub opening_in : Answer Calendar → List ℕ → List ℕ → ℕ → Opening
opening_in verdict f id date =
    cond (eqb (first_no (asks_in verdict f id date)) 0)
    (record {
      refusal = 0;
      product = product_by_halves f id;
      calendar = verdict.value;
      fresh = places15 (fresh_of verdict.value (product_by_halves f id).kind (product_by_halves f id).group date);
    })
    (refused_opening (first_no (asks_in verdict f id date)))

-- the same but for the calendar: an accepted opening has the verdict's, a refused one a calendar of zeros
unfoldable pub listing_in : Answer Calendar → List ℕ → List ℕ → ℕ → Listed
listing_in verdict f id date =
    let o = opening_in verdict f id date in
    record { refusal = o.refusal; product = o.product; fresh = o.fresh }

-- as the code gives it: what is found, or the number of the refusal
abbrev pub opening_result : Opening → Result Findings ℕ
opening_result o = cond (eqb o.refusal 0) (Ok (record { product = o.product; calendar = o.calendar; fresh = o.fresh })) (Err o.refusal)

-- the same but for the calendar
abbrev pub listed_result : Listed → Result ListedFindings ℕ
listed_result l = cond (eqb l.refusal 0) (Ok (record { product = l.product; fresh = l.fresh })) (Err l.refusal)
