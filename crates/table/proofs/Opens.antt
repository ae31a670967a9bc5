-- What the call that opens a table comes to, and the table of an accepted one.
-- Assumes nothing.
use mathlib.Core.Path.{◌≡◌, refl, ◌∙◌, sym, ap}
use mathlib.Core.Bool.{true}
use mathlib.Core.List.{List}
use Prim.Native.Nat.{ℕ, zero, suc}
use native.Mathlib.Omega.{arith}
use lib.Dec.{eqb-suc-zero}
use lib.ListN.{take}
use Rattle.std.specs.Prelude.{Ok, Err}
use Rattle.questions.specs.Questions.{Ask, first_no, Answer}
use Rattle.calendar.specs.declared.Calendar.{Calendar}
use Rattle.listing.specs.Months.{places_of_kind, all_in_cover}
use Rattle.listing.proofs.Fresh.{fresh-listed}
use Rattle.file_calendar.specs.Calendars.{calendar_of}
use Rattle.file_load.specs.Load.{load_asks, judge_call, product_of}
use Rattle.file_load.specs.Halves.{product_by_halves}
use Rattle.file_load.proofs.Halving.{halves_product}
use Rattle.table_opening.specs.declared.Findings.{Findings}
use Rattle.table_opening.specs.Opening.{Opening, opening_result, open_asks, asks_in, opening_in}
use Rattle.table_opening.proofs.Opened.{result-err, result-ok, OpenedFrom, opened-from, OpenedIn, opened_in, verdict-no, verdict-yes}
use Rattle.table.specs.declared.Table.{Table}
use Rattle.table.specs.declared.Outcome.{Outcome}
use Rattle.table.specs.Table.{refused_with, answered, zero_table, opened_with, opened_table, open_call, open_in}
use Rattle.table.proofs.TableQuestions.{answered-no, answered-yes}

-- an accepted call has no question answered no
pub refusal_is : (t : Table) (asks : List Ask) (o : Outcome) → (answered t asks o).refusal ≡ 0 → first_no asks ≡ 0
refusal_is t asks o e = go (first_no asks) refl
  where
    go : (n : ℕ) → first_no asks ≡ n → first_no asks ≡ 0
    go zero q = q
    go (suc n) q = absurd (omega (arith, e, ap (λ (x : Outcome). x.refusal) (answered-no t asks o n q)))

module _ (verdict : Answer Calendar) (f id : List ℕ) (date : ℕ) where
  -- an accepted open by a verdict has a complete listing
  in_whole : first_no (asks_in verdict f id date) ≡ 0 → all_in_cover verdict.value (product_by_halves f id).kind (product_by_halves f id).group date ≡ true
  in_whole q = (opened_in verdict f id date q).whole

  module _ (o : Opening) (is : o ≡ opening_in verdict f id date) where
    -- a refused opening gives the zero table with its refusal
    pub in-refused : (o.refusal ≡ 0 → ⊥) → refused_with zero_table o.refusal ≡ open_in verdict f id date
    unfolding open_in opening_in
    in-refused h = go (first_no (asks_in verdict f id date)) refl
      where
        go : (n : ℕ) → first_no (asks_in verdict f id date) ≡ n → refused_with zero_table o.refusal ≡ open_in verdict f id date
        go zero q = absurd (h (ap (λ (x : Opening). x.refusal) is ∙ rw q))
        go (suc n) q =
            let r : o.refusal ≡ suc n = ap (λ (x : Opening). x.refusal) is ∙ rw (q, eqb-suc-zero n) in
            rw r (sym (answered-no zero_table (asks_in verdict f id date) _ n q))

    -- an accepted opening gives the table opened with its product, its calendar and as many fresh maturities as the kind has places
    pub in-accepted : o.refusal ≡ 0 → opened_with o.product o.calendar date (take (places_of_kind o.product.kind) o.fresh) ≡ open_in verdict f id date
    unfolding open_in opening_in
    in-accepted h = go (first_no (asks_in verdict f id date)) refl
      where
        go : (n : ℕ) → first_no (asks_in verdict f id date) ≡ n
            → opened_with o.product o.calendar date (take (places_of_kind o.product.kind) o.fresh) ≡ open_in verdict f id date
        go zero q = rw (is, q) (rw (fresh-listed verdict.value (product_by_halves f id).kind (product_by_halves f id).group date _ refl (in_whole q))
            (sym (answered-yes zero_table (asks_in verdict f id date) _ q)))
        go (suc n) q =
            let r : o.refusal ≡ suc n = ap (λ (x : Opening). x.refusal) is ∙ rw (q, eqb-suc-zero n) in
            absurd (omega (arith, h))

  -- a refused opening gives the zero table with its number
  pub result-refused : (n : ℕ) → opening_result (opening_in verdict f id date) ≡ Err n → refused_with zero_table n ≡ open_in verdict f id date
  result-refused n e =
      let (q, h) = result-err (opening_in verdict f id date).refusal n _ e in
      ap (refused_with zero_table) (sym q) ∙ in-refused (opening_in verdict f id date) refl (λ z. h (sym q ∙ z))

  -- an accepted one gives the table that is opened with what is found
  pub result-accepted : (o : Findings) → opening_result (opening_in verdict f id date) ≡ Ok o
      → opened_with o.product o.calendar date (take (places_of_kind o.product.kind) o.fresh) ≡ open_in verdict f id date
  result-accepted o e =
      let (z, q) = result-ok (opening_in verdict f id date).refusal _ o e in
      ap (λ (x : Findings). opened_with x.product x.calendar date (take (places_of_kind x.product.kind) x.fresh)) (sym q)
      ∙ in-accepted (opening_in verdict f id date) refl z

-- with the file's own verdict it is the open of the file
pub open_is : (f id : List ℕ) (date : ℕ) → open_in (judge_call f) f id date ≡ open_call f id date
unfolding open_in open_call answered
open_is f id date = go (first_no (load_asks f)) refl
  where
    go : (n : ℕ) → first_no (load_asks f) ≡ n → open_in (judge_call f) f id date ≡ open_call f id date
    go zero e = rw (verdict-yes f id date e).0 (rw ((verdict-yes f id date e).1, halves_product f id e) refl)
    go (suc n) e = rw ((verdict-no f id date n e).0, (verdict-no f id date n e).1, eqb-suc-zero n) refl

-- what an accepted open found
pub accepted-from : (f id : List ℕ) (date : ℕ) → (open_call f id date).refusal ≡ 0 → OpenedFrom f id date
unfolding open_call
accepted-from f id date e = opened-from f id date (refusal_is zero_table (open_asks f id date) _ e)

-- the table of an accepted open
pub opened-table : (f id : List ℕ) (date : ℕ) → (open_call f id date).refusal ≡ 0 → (open_call f id date).table ≡ opened_table (product_of f id) (calendar_of f) date
unfolding open_call opened_table
opened-table f id date e = ap (λ (x : Outcome). x.table) (answered-yes zero_table (open_asks f id date) _ (refusal_is zero_table (open_asks f id date) _ e))

-- an accepted open by a verdict: what its questions leave, and its table
pub accepted-in : (verdict : Answer Calendar) (f id : List ℕ) (date : ℕ) → (open_in verdict f id date).refusal ≡ 0 → OpenedIn verdict f id date
unfolding open_in
accepted-in verdict f id date e = opened_in verdict f id date (refusal_is zero_table (asks_in verdict f id date) _ e)

-- the table of an accepted open by a verdict is the opened table of the product found by halves, the calendar and the date
pub opened-table-in : (verdict : Answer Calendar) (f id : List ℕ) (date : ℕ) → (open_in verdict f id date).refusal ≡ 0
    → (open_in verdict f id date).table ≡ opened_table (product_by_halves f id) verdict.value date
unfolding open_in opened_table
opened-table-in verdict f id date e = ap (λ (x : Outcome). x.table)
    (answered-yes zero_table (asks_in verdict f id date) _ (refusal_is zero_table (asks_in verdict f id date) _ e))
