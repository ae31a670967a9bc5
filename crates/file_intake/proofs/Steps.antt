-- Laws of one block that is taken: days, refusals, states.
-- Assumes nothing.
use Prim.Native.Nat.{ℕ, suc, ◌+◌, ◌*◌, ◌≤◌, ◌<◌}
use mathlib.Core.Path.{◌≡◌, refl, ◌∙◌, sym, ap}
use mathlib.Core.Bool.{Bool, true, false, not, ◌&&◌}
use mathlib.Core.List.{List}
use native.Mathlib.Numerals.{add-one}
use native.Mathlib.Omega.{arith}
use lib.Dec.{eqb, leb, ltb}
use lib.ListN.{length}
use borrow.Author.Tests.{eq-eqb, ne_eqb, eqb-true, leb-true, ltb-true, lt-ltb, le-ltb}
use Rattle.questions.specs.Questions.{first_no, answer}
use Rattle.questions.proofs.Bools.{both}
use Rattle.days.specs.Gregorian.{weekday_of}
use Rattle.days.specs.Dates.{year_start}
use Rattle.file_blocks.specs.Blocks.{year_of_block}
use Rattle.file_calendar.specs.Calendars.{map_bit}
use Rattle.file_intake.specs.declared.Intake.{Intake}
use Rattle.file_intake.specs.Intake.{day_trades, idle_next, idle_through, plausible, may_take, all_taken, finish_call, too_early}

-- a test that asks for 512 bytes first, of a block that has them
pub of-block : {r test : Bool} (b : List ℕ) → length b ≡ 512 → r ≡ (eqb (length b) 512 && test) → r ≡ test
of-block b h e = rw (eq-eqb (length b) 512 h) at e

module _ (b : List ℕ) (n start w : ℕ) (s : start ≡ year_start (year_of_block b)) (e : w ≡ weekday_of (start + n)) where
  week : w ≡ weekday_of (year_start (year_of_block b) + n)
  week = e ∙ ap (λ (d : ℕ). weekday_of (d + n)) s

  -- a Saturday or a Sunday is no trading day
  pub weekend : 5 ≤ w → false ≡ day_trades b n
  unfolding day_trades
  weekend h = rw (sym week, le-ltb w 5 h)

  -- a Monday to Friday is a trading day exactly where its bit in the first map is not set
  pub weekday-trades : (r : Bool) → w < 5 → r ≡ map_bit 16 b n → not r ≡ day_trades b n
  unfolding day_trades
  weekday-trades r h q = rw (sym week, lt-ltb w 5 h, q)

module _ (b : List ℕ) (idle : ℕ) where
  -- before the first day of a block's year the days without trading are those before the block
  pub through-none : idle ≡ idle_through b idle 0
  unfolding idle_through
  through-none = refl

  -- one day more
  pub through-more : (n run r : ℕ) (t : Bool) → t ≡ day_trades b n → run ≡ idle_through b idle n → r ≡ idle_next t run → r ≡ idle_through b idle (n + 1)
  unfolding idle_through
  through-more n run r t e f g = g ∙ rw (e, f, add-one n)

  -- a day with fewer than seven days without trading up to it is answered yes in question 6
  pub week-goes-on : (n r : ℕ) → r ≡ idle_through b idle (n + 1) → r < 7 → ltb (idle_through b idle (suc n)) 7 ≡ true
  week-goes-on n r e h = lt-ltb (idle_through b idle (suc n)) 7 (omega (arith, e ∙ ap (idle_through b idle) (add-one n), h))

  -- a day with seven days without trading up to it is answered no in question 6
  pub week-ends : (n r : ℕ) → r ≡ idle_through b idle (n + 1) → 7 ≤ r → ltb (idle_through b idle (suc n)) 7 ≡ false
  week-ends n r e h = le-ltb (idle_through b idle (suc n)) 7 (omega (arith, e ∙ ap (idle_through b idle) (add-one n), h))

-- what a plausible state has
pub record Fits (s : Intake) : Type 0 where
  -- at most 128 blocks are announced
  pub announced : s.announced ≤ 128
  -- the lowest refusal is at most 8
  pub lowest : s.lowest ≤ 8
  -- the state has no more years than blocks taken
  pub years : s.years ≤ s.taken
  -- at most seven days without trading are counted
  pub idle : s.idle ≤ 7
  -- the state has at most 15 records for each block taken
  pub records : s.records ≤ 15 * s.taken

-- a plausible state has its numbers within these bounds
pub fits : (s : Intake) → plausible s ≡ true → Fits s
unfolding plausible
fits s e =
    let (a, p) = both (leb 2 s.announced) _ e in
    let (b, q) = both (leb s.announced 128) _ p in
    let (c, r) = both (leb s.taken s.announced) _ q in
    let (d, t) = both (leb s.lowest 8) _ r in
    let (f, u) = both (leb s.years s.taken) _ t in
    let (g, h) = both (leb s.idle 7) (leb s.records (15 * s.taken)) u in
    record {
      announced = leb-true _ _ b;
      lowest = leb-true _ _ d;
      years = leb-true _ _ f;
      idle = leb-true _ _ g;
      records = leb-true _ _ h;
    }

-- what a block that may be taken needs
pub takeable : (s : Intake) (b : List ℕ) → may_take s b ≡ true
    → (s.taken < 128) × (s.years ≤ s.taken) × (s.idle ≤ 7) × (s.records ≤ 15 * s.taken) × (length b ≡ 512)
takeable s b e =
    let (p, q) = both (plausible s) (ltb s.taken s.announced && eqb (length b) 512) e in
    let (t, l) = both (ltb s.taken s.announced) (eqb (length b) 512) q in
    let x = fits s p in
    (omega (arith, ltb-true s.taken s.announced t, x.announced), x.years, x.idle, x.records, eqb-true (length b) 512 l)

module _ (s : Intake) where
  -- once all blocks are taken, the lowest refusal is at most 8
  pub lowest-small : all_taken s ≡ true → s.lowest ≤ 8
  lowest-small e = (fits s (both (plausible s) (eqb s.taken s.announced) e).0).lowest

  -- a final call before all announced blocks are taken, or of a state that is not plausible, gets 1
  pub finish-early : all_taken s ≡ false → finish_call s ≡ too_early
  unfolding finish_call answer first_no
  finish-early e = rw e

  -- a final call after all blocks, with a lowest refusal, gets that number and counts of 0
  pub finish-refused : all_taken s ≡ true → (s.lowest ≡ 0 → ⊥) → finish_call s ≡ record { refusal = s.lowest; value = record { years = 0; records = 0 } }
  unfolding finish_call answer first_no
  finish-refused e h = rw (e, ne_eqb s.lowest 0 h, ne_eqb s.lowest 0 h)

  -- a final call after all blocks, without a refusal, gets the state's counts of years and of records
  pub finish-accepted : all_taken s ≡ true → s.lowest ≡ 0 → finish_call s ≡ record { refusal = 0; value = record { years = s.years; records = s.records } }
  unfolding finish_call answer first_no
  finish-accepted e h = rw (e, eq-eqb s.lowest 0 h)
