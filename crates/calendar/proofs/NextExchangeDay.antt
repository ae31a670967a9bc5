-- The search for the first exchange day after a day starts with the next day; the n-th is the first after the one before. With a second map of zeros
-- it is the n-th trading day.
-- Assumes nothing.
use mathlib.Core.Path.{◌≡◌, refl, ◌∙◌, sym, ap, fun_ext}
use mathlib.Core.Bool.{Bool, true, false, and-false, or-false}
use Rattle.std.specs.Option.{MatchOption, unwrap_or}
use Rattle.std.specs.declared.option.Option.{Option}
use Rattle.std.specs.declared.option.Option.TheVariants.{None, Some}
use Prim.Native.Nat.{ℕ, zero, suc, ◌+◌, ◌-◌, ◌≤◌, ◌<◌}
use native.Mathlib.Numerals.{add-one}
use native.Mathlib.Omega.{arith}
use Rattle.questions.proofs.Search.{first-is, search-none}
use Rattle.questions.proofs.Bools.{lt-or-ge}
use mathlib.Core.Logic.{◌⊎◌, inl, inr}
use Rattle.std.specs.Prelude.{min}
use Rattle.questions.specs.Search.{first_from}
use Rattle.calendar.specs.Bits.{bit_at}
use Rattle.calendar.specs.declared.Calendar.{Calendar}
use Rattle.calendar.specs.Trading.{cover_end, in_cover, slot_of, trading_day, in_second_map, exchange_day, next_day, nth_day, nth_trading_day, next_exchange_day}
use Rattle.calendar.specs.Trading.{nth_exchange_day}

-- among numbers of which none passes, the first that passes is `none`
first-fails : (f : ℕ → Bool) (none n d : ℕ) → ((k : ℕ) → d ≤ k → k < d + n → f k ≡ false) → first_from f none n d ≡ none
unfolding first_from
first-fails f none zero d h = refl
first-fails f none (suc n) d h = rw (h d (omega arith) (omega arith)) (first-fails f none n (suc d) (λ k a b. h k (omega arith) (omega arith)))

-- what `find` gives over the numbers from s on, below e, and `none` where it finds nothing, is the first that passes
pub first-found : (f : ℕ → Bool) (none s e : ℕ) (r : Option ℕ)
    → MatchOption r ((k : ℕ) → s ≤ k → k < e → f k ≡ false)
    (λ i. (s ≤ i) × (i < e) × (f i ≡ true) × ((k : ℕ) → s ≤ k → k < i → f k ≡ false)) → unwrap_or r none ≡ first_from f none (e - s) s
first-found f none s e None h = sym (first-fails f none (e - s) s (λ k a b. h k a (omega arith)))
first-found f none s e (Some i) h =
    let q : s + (i - s) ≡ i = omega (arith, h.0) in
    sym (first-is f none (e - s) s (i - s) (omega (arith, h.0, h.1)) (λ j l. h.3 (s + j) (omega arith) (omega arith)) (ap f q ∙ h.2) ∙ q)

-- the search of exchange days from the day after a day to the cover's end gives the next exchange day
pub next_start : (cal : Calendar) (day e : ℕ) → e ≡ cover_end cal.cover
    → first_from (exchange_day cal) 36525 (e - (day + 1)) (day + 1) ≡ next_exchange_day cal day
unfolding next_exchange_day next_day
next_start cal day e q = rw (add-one day, q)

-- the same from the day after, of 16 bits: 65,535 stands for a day after it, which no cover has
pub next_from : (cal : Calendar) (day s e : ℕ) → s ≡ min (day + 1) 65535 → (e ≡ cover_end cal.cover) × (e ≤ 36525)
    → first_from (exchange_day cal) 36525 (e - s) s ≡ next_exchange_day cal day
next_from cal day s e m h = go (lt-or-ge day 65535)
  where
    go : (day < 65535) ⊎ (65535 ≤ day) → first_from (exchange_day cal) 36525 (e - s) s ≡ next_exchange_day cal day
    go (inl l) =
        let q : s ≡ day + 1 = omega (arith, m) in
        ap (λ (n : ℕ). first_from (exchange_day cal) 36525 (e - n) n) q ∙ next_start cal day e h.0
    go (inr l) =
        search-none (exchange_day cal) 36525 e s (omega (arith, m, h.1)) ∙
        sym (search-none (exchange_day cal) 36525 e (day + 1) (omega (arith, h.1))) ∙ next_start cal day e h.0

-- the next exchange day after the i-th exchange day is the exchange day of the number after i
pub nth-more : (cal : Calendar) (i day d : ℕ) → d ≡ nth_exchange_day cal i day → next_exchange_day cal d ≡ nth_exchange_day cal (i + 1) day
unfolding next_exchange_day nth_exchange_day nth_day
nth-more cal i day d e = rw (add-one i, e)

-- a calendar whose second map is zero
module _ (cal : Calendar) (zero : (s : ℕ) → bit_at cal.exchange s ≡ false) where
  old-day : (d : ℕ) → exchange_day cal d ≡ trading_day cal d
  unfolding exchange_day in_second_map
  old-day d = rw (zero (slot_of cal.cover d), and-false (in_cover cal.cover d)) (or-false (trading_day cal d))

  -- 'An old file, whose second map is zero, yields its old due days' (02, note 4), of its calendar
  pub old-days : (n d : ℕ) → nth_exchange_day cal n d ≡ nth_trading_day cal n d
  unfolding nth_exchange_day
  old-days n d = ap (λ (test : ℕ → Bool). nth_day test (cover_end cal.cover) n d) (fun_ext old-day)
