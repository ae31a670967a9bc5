-- Every made-up calendar is clean, and every seven days in its cover hold a trading day.
-- Assumes nothing.
use Prim.Native.Nat.{ℕ, zero, suc, ◌+◌, ◌-◌, ◌/◌, ◌%◌, ◌^◌, ◌≤◌, ◌<◌}
use mathlib.Core.Path.{◌≡◌, refl, ◌∙◌, ap}
use mathlib.Core.Bool.{Bool, true, false}
use mathlib.Core.Logic.{◌⊎◌, inl, inr}
use mathlib.Core.List.{[]}
use native.Mathlib.Nat.{zero-div}
use native.Mathlib.Omega.{arith}
use lib.ListN.{get_or, replicate, get_or-replicate, length-replicate, get_or-eq_default}
use borrow.Author.Tests.{lt-ltb, le-leb}
use Rattle.questions.proofs.Asks.{no-asks, first-yes, accepted}
use Rattle.questions.proofs.Bools.{and_both, lt-or-ge}
use Rattle.questions.proofs.Search.{every-all, some_at}
use Rattle.days.specs.Gregorian.{weekday_of}
use Rattle.calendar.specs.declared.Cover.{Cover}
use Rattle.calendar.specs.declared.Calendar.{Calendar}
use Rattle.calendar.specs.Bits.{bit_at}
use Rattle.calendar.specs.Trading.{valid_cover, cover_start, cover_end, in_cover, slot_of, closed_on, trading_day, may_be_closed, clean_slot, clean, some_trades}
use Rattle.calendar.specs.Trading.{every_week, close_day, open_calendar, zero_calendar}
use Rattle.calendar.proofs.Clean.{bits-zero}
use Rattle.calendar.proofs.Closing.{close-cover, close-exchange, clean_close}
use Rattle.calendar_synthetic.proofs.EachDay.{weekend, undrawn, spared, closes}
use Rattle.calendar_synthetic.specs.Generated.{value_at, calendar_at, made, made_from, made_asks, made_call, Passes}

-- a map of zeros has no bit
no_byte : (n i : ℕ) → ◌≡◌ {A = ℕ} (get_or (replicate n 0) i 0) 0
no_byte n i = go (lt-or-ge i n)
  where
    go : (i < n) ⊎ (n ≤ i) → ◌≡◌ {A = ℕ} (get_or (replicate n 0) i 0) 0
    go (inl h) = get_or-replicate n i 0 0 h
    go (inr h) = get_or-eq_default (replicate n 0) 0 (omega (arith, length-replicate {A = ℕ} n 0))

no-bit : (slot : ℕ) → bit_at (replicate 736 0) slot ≡ false
unfolding bit_at
no-bit slot = simp (no_byte 736 (slot / 8), zero-div (2 ^ (7 - slot % 8)))

module _ (cover : Cover) where
  open-clean : clean (open_calendar cover) ≡ true
  unfolding clean open_calendar
  open-clean = every-all (clean_slot (open_calendar cover)) 5888 (λ s h. rw (no-bit s) (bits-zero (may_be_closed cover s)))

  -- with nothing closed, a Monday to Friday of the cover trades
  open-trades : (d : ℕ) → cover_start cover ≤ d → d < cover_end cover → weekday_of d < 5 → trading_day (open_calendar cover) d ≡ true
  unfolding trading_day closed_on in_cover open_calendar
  open-trades d a b w =
      rw (le-leb (cover_start cover) d a, lt-ltb d (cover_end cover) b, lt-ltb (weekday_of d) 5 w, no-bit (slot_of cover d))

  -- of seven days, the first or the third is a Monday to Friday
  open-week : (s : ℕ) → cover_start cover ≤ s → s + 7 ≤ cover_end cover → some_trades (open_calendar cover) s 7 ≡ true
  open-week s a b = go (lt-or-ge (weekday_of s) 5)
    where
      go : (weekday_of s < 5) ⊎ (5 ≤ weekday_of s) → some_trades (open_calendar cover) s 7 ≡ true
      go (inl w) =
          let e : s + 0 ≡ s = omega arith in
          some_at (λ i. trading_day (open_calendar cover) (s + i)) 7 0 (ap (trading_day (open_calendar cover)) e ∙ open-trades s a (omega arith) w) (omega arith)
      go (inr w) = some_at (λ i. trading_day (open_calendar cover) (s + i)) 7 2 (open-trades (s + 2) (omega arith) (omega arith) (omega arith)) (omega arith)

  open-weeks : every_week (open_calendar cover) ≡ true
  unfolding every_week open_calendar
  open-weeks =
      every-all (λ k. some_trades (open_calendar cover) (cover_start cover + k) 7) (cover_end cover - cover_start cover - 6)
      (λ k h. open-week (cover_start cover + k) (omega arith) (omega arith))

-- what every visit keeps
pub record Sane (cover : Cover) (cal : Calendar) : Type 0 where
  -- the calendar has the given cover
  pub same : cal.cover ≡ cover
  -- the calendar passes question 5
  pub closures : clean cal ≡ true
  -- the calendar passes question 6
  pub weeks : every_week cal ≡ true
  -- the second map is zero
  pub second : cal.exchange ≡ replicate 736 0

visit-keeps : (cover : Cover) (cal : Calendar) (day value : ℕ) → in_cover cover day ≡ true → Sane cover cal → Sane cover (calendar_at cal day value)
visit-keeps cover cal day value i s = at-weekday (lt-or-ge (weekday_of day) 5)
  where
    kept : cal ≡ calendar_at cal day value → Sane cover (calendar_at cal day value)
    kept e = rw (← e) s

    closed : weekday_of day < 5 → every_week (close_day cal day) ≡ true → Sane cover (close_day cal day)
    closed w k =
        record {
          same = close-cover cal day ∙ s.same;
          closures = clean_close cal day s.closures (ap (λ (c : Cover). in_cover c day) s.same ∙ i) (lt-ltb (weekday_of day) 5 w);
          weeks = k;
          second = close-exchange cal day ∙ s.second;
        }

    tested : weekday_of day < 5 → value / 16777216 < 8 → (b : Bool) → every_week (close_day cal day) ≡ b → Sane cover (calendar_at cal day value)
    tested w d true e = rw (← closes cal day value w d e) (closed w e)
    tested w d false e = kept (spared cal day value e)

    at_value : weekday_of day < 5 → (value / 16777216 < 8) ⊎ (8 ≤ value / 16777216) → Sane cover (calendar_at cal day value)
    at_value w (inl d) = tested w d (every_week (close_day cal day)) refl
    at_value w (inr d) = kept (undrawn cal day value d)

    at-weekday : (weekday_of day < 5) ⊎ (5 ≤ weekday_of day) → Sane cover (calendar_at cal day value)
    at-weekday (inl w) = at_value w (lt-or-ge (value / 16777216) 8)
    at-weekday (inr w) = kept (weekend cal day value w)

walk-keeps : (cover : Cover) (n day value : ℕ) (cal : Calendar) → ((d : ℕ) → day ≤ d → d < day + n → in_cover cover d ≡ true) → Sane cover cal
    → Sane cover (made n day value cal)
unfolding made
walk-keeps cover zero day value cal i s = s
walk-keeps cover (suc n) day value cal i s =
    walk-keeps cover n (suc day) (value_at day value) (calendar_at cal day (value_at day value)) (λ d a b. i d (omega arith) (omega arith))
    (visit-keeps cover cal day (value_at day value) (i day (omega arith) (omega arith)) s)

made-sane : (seed : ℕ) (cover : Cover) → Sane cover (made_from seed cover)
unfolding in_cover open_calendar
made-sane seed cover =
    walk-keeps cover (cover_end cover - cover_start cover) (cover_start cover) seed (open_calendar cover)
    (λ d a b. and_both (le-leb (cover_start cover) d a) (lt-ltb d (cover_end cover) (omega arith)))
    (record { same = refl; closures = open-clean cover; weeks = open-weeks cover; second = refl })

-- for every seed and every valid cover, the made-up calendar is accepted and passes questions 5 and 6
pub passes : (seed : ℕ) (cover : Cover) → valid_cover cover ≡ true → Passes seed cover
unfolding made_call
passes seed cover v =
    let e = accepted (made_asks cover) zero_calendar (made_from seed cover) (first-yes 4 [] v ∙ no-asks) in
    let s = made-sane seed cover in
    record { accepted = rw e; cover-kept = rw e s.same; closures = rw e s.closures; weeks = rw e s.weeks; second = rw e s.second }
