-- A day that is closed between two trading days which lie at most seven days apart leaves every seven days a trading day.
-- Assumes nothing.
use mathlib.Core.Path.{◌≡◌, refl, ◌∙◌, sym, ap}
use mathlib.Core.Bool.{Bool, true, false, ◌&&◌, cond}
use mathlib.Core.List.{List, []}
use mathlib.Core.Logic.{◌⊎◌, inl, inr}
use Prim.Native.Nat.{ℕ, zero, suc, ◌+◌, ◌-◌, ◌≤◌, ◌<◌}
use native.Mathlib.Numerals.{add-one}
use native.Mathlib.Omega.{arith}
use lib.Dec.{leb}
use borrow.Author.Tests.{le-leb, lt-leb, leb-true}
use Rattle.questions.specs.Search.{every, first_from}
use Rattle.questions.proofs.Bools.{lt-or-ge, both}
use Rattle.questions.proofs.Search.{Passing, every-at, every-all, some_at, some_one}
use Rattle.calendar.specs.declared.Calendar.{Calendar}
use Rattle.calendar.specs.declared.Cover.{Cover}
use Rattle.calendar.specs.Trading.{calendar_with, closed_on, cover_start, cover_end, trading_day, some_trades, every_week, close_day}
use Rattle.calendar.proofs.Closing.{close-cover, trading-other}
use Rattle.calendar.proofs.SecondMap.{with_second}
use Rattle.table.specs.Table.{steps_back, steps_on, trades_around}

module _ (cal : Calendar) (day : ℕ) where
  -- a trading day other than the closed one, in the seven days from s on
  holds : (s x : ℕ) → s ≤ x → x < s + 7 → (x ≡ day → ⊥) → trading_day cal x ≡ true → some_trades (close_day cal day) s 7 ≡ true
  holds s x a b n t =
      let e : s + (x - s) ≡ x = omega arith in
      some_at (λ i. trading_day (close_day cal day) (s + i)) 7 (x - s) (ap (trading_day (close_day cal day)) e ∙ trading-other cal day x n ∙ t) (omega arith)

  module _ (back on : ℕ) (b1 : 1 ≤ back) (b2 : back ≤ day) (b : trading_day cal (day - back) ≡ true) (o1 : 1 ≤ on) (o : trading_day cal (day + on) ≡ true)
      (near : back + on ≤ 7) where
    week-holds : (s : ℕ) → some_trades cal s 7 ≡ true → some_trades (close_day cal day) s 7 ≡ true
    week-holds s w = before (lt-or-ge day s)
      where
        p : Passing (λ i. trading_day cal (s + i)) 7
        p = some_one (λ i. trading_day cal (s + i)) 7 w

        inside : s ≤ day → day < s + 7 → (day - back < s) ⊎ (s ≤ day - back) → some_trades (close_day cal day) s 7 ≡ true
        inside l m (inl k) = holds s (day + on) (omega arith) (omega arith) (λ e. omega arith) o
        inside l m (inr k) = holds s (day - back) k (omega arith) (λ e. omega arith) b

        after : s ≤ day → (day < s + 7) ⊎ (s + 7 ≤ day) → some_trades (close_day cal day) s 7 ≡ true
        after l (inl m) = inside l m (lt-or-ge (day - back) s)
        after l (inr m) = holds s (s + p.at) (omega arith) (omega (arith, p.below)) (λ e. omega (arith, p.below)) p.passes

        before : (day < s) ⊎ (s ≤ day) → some_trades (close_day cal day) s 7 ≡ true
        before (inl m) = holds s (s + p.at) (omega arith) (omega (arith, p.below)) (λ e. omega arith) p.passes
        before (inr l) = after l (lt-or-ge day (s + 7))

    around : every_week cal ≡ true → every_week (close_day cal day) ≡ true
    unfolding every_week
    around w =
        ap (λ (c : Cover). every (cover_end c - cover_start c - 6) (λ k. some_trades (close_day cal day) (cover_start c + k) 7)) (close-cover cal day) ∙
        every-all (λ k. some_trades (close_day cal day) (cover_start cal.cover + k) 7) (cover_end cal.cover - cover_start cal.cover - 6)
        (λ k h. week-holds (cover_start cal.cover + k)
        (every-at (λ k. some_trades cal (cover_start cal.cover + k) 7) (cover_end cal.cover - cover_start cal.cover - 6) k w h))

-- ---- the search for the nearest trading day

module _ (f : ℕ → Bool) where
  -- a search at a step before the seventh ends where the test passes, and goes on to the next step elsewhere
  pub first_next : (n : ℕ) → n < 7 → first_from f 7 (7 - n) n ≡ cond (f n) n (first_from f 7 (7 - (n + 1)) (n + 1))
  unfolding first_from
  first_next n h =
      let e : 7 - n ≡ suc (7 - (n + 1)) = omega arith in
      rw (e, add-one n) refl

  -- a search ends at the step where the test passes
  pub first-at : (n r : ℕ) → n < 7 → first_from f 7 (7 - n) n ≡ r → f n ≡ true → n ≡ r
  first-at n r h e t = sym (first_next n h ∙ rw t refl) ∙ e

  -- a search goes on to the next step where the test does not pass
  pub first_on : (n r : ℕ) → n < 7 → first_from f 7 (7 - n) n ≡ r → f n ≡ false → first_from f 7 (7 - (n + 1)) (n + 1) ≡ r
  first_on n r h e t = sym (first_next n h ∙ rw t refl) ∙ e

  -- a search that comes to the seventh step gives 7
  pub first-end : (n r : ℕ) → 7 ≤ n → first_from f 7 (7 - n) n ≡ r → 7 ≡ r
  unfolding first_from
  first-end n r h e =
      let z : 7 - n ≡ 0 = omega arith in
      rw z at e

  -- a search whose test passes at no further step gives 7
  pub first-none : (m k r : ℕ) → ((j : ℕ) → k ≤ j → f j ≡ false) → first_from f 7 m k ≡ r → 7 ≡ r
  unfolding first_from
  first-none zero k r none e = e
  first-none (suc m) k r none e = first-none m (suc k) r (λ j l. none j (omega arith)) (rw (none k (omega arith)) at e)

  first-most : (m k : ℕ) → k + m ≤ 7 → first_from f 7 m k ≤ 7
  unfolding first_from
  first-most zero k h = omega arith
  first-most (suc m) k h = go (f k) (first-most m (suc k) (omega arith))
    where
      go : (b : Bool) → first_from f 7 m (suc k) ≤ 7 → cond b k (first_from f 7 m (suc k)) ≤ 7
      go true i = omega arith
      go false i = i

  -- where it ends before 7, it found a day that passes
  first_found : (m k : ℕ) → first_from f 7 m k < 7 → (k ≤ first_from f 7 m k) × (f (first_from f 7 m k) ≡ true)
  unfolding first_from
  first_found zero k h = absurd (omega arith)
  first_found (suc m) k h = go (f k) refl h (first_found m (suc k))
    where
      go : (b : Bool) → f k ≡ b → cond b k (first_from f 7 m (suc k)) < 7
          → (first_from f 7 m (suc k) < 7 → (suc k ≤ first_from f 7 m (suc k)) × (f (first_from f 7 m (suc k)) ≡ true))
          → (k ≤ cond b k (first_from f 7 m (suc k))) × (f (cond b k (first_from f 7 m (suc k))) ≡ true)
      go true e l i = (omega arith, e)
      go false e l i = (omega (arith, (i l).0), (i l).1)

  first-least : (m k : ℕ) → k + m ≤ 7 → k ≤ first_from f 7 m k
  unfolding first_from
  first-least zero k h = omega arith
  first-least (suc m) k h = go (f k) (first-least m (suc k) (omega arith))
    where
      go : (b : Bool) → suc k ≤ first_from f 7 m (suc k) → k ≤ cond b k (first_from f 7 m (suc k))
      go true i = omega arith
      go false i = omega arith

-- the tests of the two searches
abbrev pub back_test : Calendar → ℕ → ℕ → Bool
back_test cal day n = leb n day && trading_day cal (day - n)

-- the test of the search after a day: so many days after it is a trading day
abbrev pub on_test : Calendar → ℕ → ℕ → Bool
on_test cal day n = trading_day cal (day + n)

-- a search on its way
pub record Searching (f : ℕ → Bool) (n r : ℕ) : Type 0 where
  -- the search from this step on gives this result
  pub is : first_from f 7 (7 - n) n ≡ r

module _ (cal : Calendar) (day : ℕ) where
  -- the search before a day starts at one day and gives the steps back
  pub back-starts : Searching (back_test cal day) 1 (steps_back cal day)
  unfolding steps_back
  back-starts = record { is = refl }

  -- no day is so many before
  pub back_none : (n r : ℕ) → day < n → Searching (back_test cal day) n r → 7 ≡ r
  back_none n r h s = first-none (back_test cal day) (7 - n) n r (λ j l. rw (lt-leb j day (omega arith)) refl) s.is

  back-most : steps_back cal day ≤ 7
  unfolding steps_back
  back-most = first-most (back_test cal day) 6 1 (omega arith)

  -- from day 36525 on the search after a day gives 7
  pub on-late : 36525 ≤ day → 7 ≡ steps_on cal day
  unfolding steps_on
  on-late h = rw (le-leb 36525 day h) refl

  on-is : day < 36525 → first_from (on_test cal day) 7 6 1 ≡ steps_on cal day
  unfolding steps_on
  on-is h = rw (lt-leb 36525 day h) refl

  -- the search after a day below 36525 starts at one day and gives the steps on
  pub on-starts : day < 36525 → Searching (on_test cal day) 1 (steps_on cal day)
  on-starts h = record { is = on-is h }

  on-most : steps_on cal day ≤ 7
  unfolding steps_on
  on-most = go (leb 36525 day)
    where
      go : (b : Bool) → cond b 7 (first_from (on_test cal day) 7 6 1) ≤ 7
      go true = omega arith
      go false = first-most (on_test cal day) 6 1 (omega arith)

  -- the steps back and the steps on are together at most 14
  pub both_most : (back on : ℕ) → back ≡ steps_back cal day → on ≡ steps_on cal day → back + on ≤ 14
  both_most back on b o = omega (arith, back-most, on-most)

  on-found : steps_on cal day < 7 → (1 ≤ steps_on cal day) × (trading_day cal (day + steps_on cal day) ≡ true)
  unfolding steps_on
  on-found h = go (leb 36525 day) h
    where
      go : (b : Bool) → cond b 7 (first_from (on_test cal day) 7 6 1) < 7
          → (1 ≤ cond b 7 (first_from (on_test cal day) 7 6 1)) × (trading_day cal (day + cond b 7 (first_from (on_test cal day) 7 6 1)) ≡ true)
      go true l = absurd (omega arith)
      go false l = first_found (on_test cal day) 6 1 l

  back_found : steps_back cal day < 7 → (1 ≤ steps_back cal day) × ((leb (steps_back cal day) day && trading_day cal (day - steps_back cal day)) ≡ true)
  unfolding steps_back
  back_found h = first_found (back_test cal day) 6 1 h

  back-least : 1 ≤ steps_back cal day
  unfolding steps_back
  back-least = first-least (back_test cal day) 6 1 (omega arith)

  on-least : 1 ≤ steps_on cal day
  unfolding steps_on
  on-least = go (leb 36525 day)
    where
      go : (b : Bool) → 1 ≤ cond b 7 (first_from (on_test cal day) 7 6 1)
      go true = omega arith
      go false = first-least (on_test cal day) 6 1 (omega arith)

  -- a day closed between two trading days at most seven days apart leaves every seven days a trading day
  pub around-of : trades_around cal day ≡ true → every_week cal ≡ true → every_week (close_day cal day) ≡ true
  unfolding trades_around
  around-of a w =
      let n : steps_back cal day + steps_on cal day ≤ 7 = leb-true (steps_back cal day + steps_on cal day) 7 a in
      let b = back_found (omega (arith, on-least)) in
      let o = on-found (omega (arith, back-least)) in
      let (l, t) = both (leb (steps_back cal day) day) (trading_day cal (day - steps_back cal day)) b.1 in
      around cal day (steps_back cal day) (steps_on cal day) b.0 (leb-true (steps_back cal day) day l) t o.0 o.1 n w

-- the second map takes no part in it
pub trades-second : (cal : Calendar) (second : List ℕ) (day : ℕ) → trades_around (with_second cal second) day ≡ trades_around cal day
unfolding trades_around steps_back steps_on trading_day closed_on
trades-second cal second day = refl

-- by the cover and the first map alone
pub around-in : (cal : Calendar) (day : ℕ) (b : Bool) → b ≡ trades_around (calendar_with cal.cover cal.closed) day → b ≡ true → every_week cal ≡ true
    → true ≡ every_week (close_day cal day)
around-in cal day b e t w = sym (around-of cal day (sym (trades-second cal [] day) ∙ sym e ∙ t) w)

module _ (f : ℕ → Bool) (n r : ℕ) (h : n < 7) (s : Searching f n r) where
  -- the result is the step where the test passes
  pub search-at : f n ≡ true → n ≡ r
  search-at t = first-at f n r h s.is t

  -- a search whose test does not pass at a step continues at the next step with the same result
  pub search-on : f n ≡ false → Searching f (n + 1) r
  search-on t = record { is = first_on f n r h s.is t }

-- a search that has come to the seventh step has the result 7
pub search-end : (f : ℕ → Bool) (n r : ℕ) → 7 ≤ n → Searching f n r → 7 ≡ r
search-end f n r h s = first-end f n r h s.is
