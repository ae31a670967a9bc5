-- Question 6 block by block: the days without trading that a year ends with go on in the next.
-- Assumes nothing.
use Prim.Native.Nat.{ℕ, zero, suc, ◌+◌, ◌-◌, ◌≤◌, ◌<◌}
use mathlib.Core.Path.{◌≡◌, refl, ◌∙◌, sym, ap, ap₂}
use mathlib.Core.Bool.{Bool, true, false, not, ◌&&◌, ◌||◌}
use mathlib.Core.Logic.{◌⊎◌, inl, inr}
use mathlib.Core.List.{List}
use native.Mathlib.Nat.{le_refl, add-zero, add-suc}
use native.Mathlib.Omega.{arith}
use lib.Dec.{ltb}
use lib.ListN.{get_or}
use borrow.Author.Tests.{le-leb, lt-ltb, eqb-true, ne_eqb}
use Rattle.questions.specs.Search.{every}
use Rattle.questions.proofs.Bools.{and_both, same_test, lt-or-ge}
use Rattle.questions.proofs.Search.{every-at, every-all, every-none}
use Rattle.days.specs.Dates.{year_of, year_start, day_in_year}
use Rattle.days.proofs.Years.{year-start-le, year-start-most, year-from, year-until}
use Rattle.calendar.specs.Trading.{cover_start, cover_end, in_cover, closed_on, trading_day, every_week}
use Rattle.calendar_words.proofs.DayWords.{every-same}
use Rattle.file_blocks.specs.Blocks.{block_count, block_of, is_calendar, year_of_block}
use Rattle.file_calendar.specs.Calendars.{year_count, map_bit, calendar_blocks, weeks_right}
use Rattle.file_calendar.proofs.CalendarBlocks.{Ordered, calendar-is, calendar-block, block-year, closed_is}
use Rattle.file_intake.specs.declared.Intake.{Intake}
use Rattle.file_intake.specs.Intake.{day_trades, days_of, idle_next, idle_through, weeks_go_on, with_block, state_after}
use Rattle.file_intake.proofs.Order.{product_at}
use Rattle.file_intake.proofs.IdleRuns.{every-parts, idle_of, weeks-same}

-- all of one number more pass exactly where those before and the further one pass
pub every-suc : (g : ℕ → Bool) (n : ℕ) → every (suc n) g ≡ (every n g && g n)
unfolding every
every-suc g n = refl

-- the days of a block go on from the days before it
through : (test : ℕ → Bool) (s m : ℕ) (b : List ℕ) (n : ℕ) → ((j : ℕ) → j < n → test (s + (m + j)) ≡ day_trades b j)
    → idle_through b (idle_of test s m) n ≡ idle_of test s (m + n)
unfolding idle_through
through test s m b zero h = ap (idle_of test s) (sym (add-zero m))
through test s m b (suc n) h =
    ap₂ idle_next (sym (h n (le_refl (suc n)))) (through test s m b n (λ j l. h j (omega arith)))
    ∙ ap (idle_of test s) (sym (add-suc m n))

module _ (f : List ℕ) (o : Ordered f) (low : 2000 ≤ year_of_block (block_of f 0)) (high : year_of_block (block_of f 0) + year_count f ≤ 2100) where
  abbrev first : ℕ
  first = year_of_block (block_of f 0)

  abbrev start : ℕ
  start = year_start first

  abbrev trades : ℕ → Bool
  trades = trading_day (calendar_blocks f)

  -- the days of the cover before year k
  abbrev base : ℕ → ℕ
  base k = year_start (first + k) - start

  base-up : (k : ℕ) → start ≤ year_start (first + k)
  base-up k = year-start-le first (first + k) (omega arith)

  base-next : (k : ℕ) → k < year_count f → base (suc k) ≡ base k + days_of (block_of f k)
  base-next k h =
      let y : first + suc k ≡ first + k + 1 = omega arith in
      rw (block-year f o k h, y) (omega (arith, base-up k, year-start-le (first + k) (first + k + 1) (omega arith)))

  -- a day of year k
  module _ (k n : ℕ) (h : k < year_count f) (l : n < days_of (block_of f k)) where
    abbrev day : ℕ
    day = year_start (first + k) + n

    before-next : day < year_start (first + k + 1)
    before-next = omega (arith, ap (λ (y : ℕ). year_start (y + 1) - year_start y) (block-year f o k h))

    day-small : day < 36525
    day-small = omega (arith, before-next, year-start-most (first + k + 1))

    day-year : year_of day ≡ first + k
    day-year =
        omega (arith, year-from (first + k) day day-small (omega arith), year-until (first + k + 1) day before-next)

    day-number : day_in_year day ≡ n
    unfolding day_in_year
    day-number = rw day-year (omega arith)

    day-covered : in_cover (calendar_blocks f).cover day ≡ true
    unfolding in_cover cover_start cover_end
    day-covered =
        and_both (le-leb start day (omega (arith, base-up k)))
        (lt-ltb day (year_start (first + year_count f)) (omega (arith, before-next, year-start-le (first + k + 1) (first + year_count f) (omega arith))))

    day-closed : closed_on (calendar_blocks f) day ≡ map_bit 16 (block_of f k) n
    day-closed =
        let y : first + k - first ≡ k = omega arith in
        closed_is f o day day-covered ∙ rw (day-year, day-number, y)

    day-trades : trades day ≡ day_trades (block_of f k) n
    unfolding trading_day day_trades
    day-trades = rw (day-covered, day-closed, block-year f o k h)

  block-day : (k n : ℕ) → k < year_count f → n < days_of (block_of f k) → trades (start + (base k + n)) ≡ day_trades (block_of f k) n
  block-day k n h l =
      let e : start + (base k + n) ≡ year_start (first + k) + n = omega (arith, base-up k) in
      ap trades e ∙ day-trades k n h l

  abbrev state : ℕ → Intake
  state k = state_after f (block_count f) k

  idle-step : (k : ℕ) → k < year_count f → (state (suc k)).idle ≡ idle_through (block_of f k) (state k).idle (days_of (block_of f k))
  unfolding state_after with_block
  idle-step k h = rw (calendar-block f o k h)

  idle-start : (state 0).idle ≡ 0
  unfolding state_after
  idle-start = refl

  idle-state : (k : ℕ) → k ≤ year_count f → (state k).idle ≡ idle_of trades start (base k)
  idle-state zero h =
      let e : year_start (first + 0) - start ≡ 0 = rw (add-zero first) (omega arith) in
      idle-start ∙ ap (idle_of trades start) (sym e)
  idle-state (suc k) h =
      idle-step k h
      ∙ ap (λ (i : ℕ). idle_through (block_of f k) i (days_of (block_of f k))) (idle-state k (omega arith))
      ∙ through trades start (base k) (block_of f k) (days_of (block_of f k)) (λ j l. block-day k j h l)
      ∙ ap (idle_of trades start) (sym (base-next k h))

  -- no count comes to seven on day i
  abbrev quiet : ℕ → Bool
  quiet i = ltb (idle_of trades start (suc i)) 7

  abbrev goes_on : ℕ → Bool
  goes_on k = not (is_calendar (block_of f k)) || weeks_go_on (state k).idle (block_of f k)

  block-weeks : (k : ℕ) → k < year_count f → goes_on k ≡ every (days_of (block_of f k)) (λ n. quiet (base k + n))
  unfolding weeks_go_on
  block-weeks k h =
      rw (calendar-block f o k h, idle-state k (omega arith))
      (every-same (λ n. ltb (idle_through (block_of f k) (idle_of trades start (base k)) (suc n)) 7) (λ n. quiet (base k + n)) (days_of (block_of f k))
      (λ n l. ap (λ (i : ℕ). ltb i 7) (through trades start (base k) (block_of f k) (suc n) (λ j g. block-day k j h (omega arith)) ∙
      ap (idle_of trades start) (add-suc (base k) n))))

  weeks-blocks : (k : ℕ) → k ≤ year_count f → every k goes_on ≡ every (base k) quiet
  weeks-blocks zero h =
      let e : year_start (first + 0) - start ≡ 0 = rw (add-zero first) (omega arith) in
      every-none goes_on ∙ sym (ap (λ (n : ℕ). every n quiet) e ∙ every-none quiet)
  weeks-blocks (suc k) h =
      every-suc goes_on k ∙ ap₂ ◌&&◌ (weeks-blocks k (omega arith)) (block-weeks k h)
      ∙ sym (every-parts quiet (base k) (days_of (block_of f k)))
      ∙ ap (λ (n : ℕ). every n quiet) (sym (base-next k h))

  -- the blocks after the calendar blocks have no days
  no-days : (k : ℕ) → year_count f ≤ k → k < block_count f → goes_on k ≡ true
  no-days k h l =
      let two : get_or (block_of f k) 0 0 ≡ 2 = eqb-true _ _ (product_at f o k h l) in
      let c : is_calendar (block_of f k) ≡ false = ne_eqb (get_or (block_of f k) 0 0) 1 (λ z. omega arith) in
      rw c

  all_blocks : every (block_count f) goes_on ≡ every (year_count f) goes_on
  all_blocks =
      same_test (every (block_count f) goes_on) (every (year_count f) goes_on)
      (λ e. every-all goes_on (year_count f) (λ k h. every-at goes_on (block_count f) k e (omega (arith, o.fewer))))
      (λ e. every-all goes_on (block_count f) (λ k h. side e k h (lt-or-ge k (year_count f))))
    where
      side : every (year_count f) goes_on ≡ true → (k : ℕ) → k < block_count f → (k < year_count f) ⊎ (year_count f ≤ k) → goes_on k ≡ true
      side e k h (inl l) = every-at goes_on (year_count f) k e l
      side e k h (inr l) = no-days k l h

  -- 6, block by block and over the file
  pub weeks-right : every (block_count f) goes_on ≡ weeks_right f
  unfolding weeks_right every_week cover_start cover_end
  weeks-right =
      all_blocks ∙ weeks-blocks (year_count f) (le_refl (year_count f)) ∙ weeks-same trades start (base (year_count f))
      ∙ ap every_week (sym (calendar-is f o))
