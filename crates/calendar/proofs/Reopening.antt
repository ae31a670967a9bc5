-- Reopening a day changes that day alone, and can only add a trading day.
-- Assumes nothing.
use mathlib.Core.Path.{◌≡◌, refl, sym}
use mathlib.Core.Bool.{Bool, true, false, not, ◌&&◌, cond}
use Prim.Native.Nat.{ℕ}
use lib.Dec.{eqb, ltb}
use borrow.Author.Tests.{eqb-true, eqb-false, not-true}
use Rattle.questions.proofs.Bools.{clash, both}
use Rattle.questions.proofs.Search.{every-at, every-all}
use Rattle.days.specs.Gregorian.{weekday_of}
use Rattle.calendar.specs.declared.Calendar.{Calendar}
use Rattle.calendar.specs.Bits.{bit_at, clear_bit}
use Rattle.calendar.specs.Trading.{in_cover, slot_of, closed_on, trading_day, every_week, may_be_closed, bits_clean, clean_slot, clean, reopen_day}
use Rattle.calendar.proofs.Bits.{clear-here, clear-other, clear-before}
use Rattle.calendar.proofs.Clean.{bits-zero}
use Rattle.calendar.proofs.Weeks.{weeks-more}

module _ (cal : Calendar) (d : ℕ) where
  -- reopening a day leaves the cover as it is
  pub reopen-cover : (reopen_day cal d).cover ≡ cal.cover
  unfolding reopen_day
  reopen-cover = refl

  -- a bit of either map that is 1 afterwards was 1
  pub closed-bits : (s : ℕ) → bit_at (reopen_day cal d).closed s ≡ true → bit_at cal.closed s ≡ true
  unfolding reopen_day
  closed-bits s t = go (in_cover cal.cover d) t
    where
      go : (b : Bool) → bit_at (cond b (clear_bit cal.closed (slot_of cal.cover d)) cal.closed) s ≡ true → bit_at cal.closed s ≡ true
      go true t = clear-before cal.closed (slot_of cal.cover d) s t
      go false t = t

  -- a bit that is 1 in the second map after a day is reopened is 1 in it before
  pub exchange-bits : (s : ℕ) → bit_at (reopen_day cal d).exchange s ≡ true → bit_at cal.exchange s ≡ true
  unfolding reopen_day
  exchange-bits s t = go (in_cover cal.cover d) t
    where
      go : (b : Bool) → bit_at (cond b (clear_bit cal.exchange (slot_of cal.cover d)) cal.exchange) s ≡ true → bit_at cal.exchange s ≡ true
      go true t = clear-before cal.exchange (slot_of cal.cover d) s t
      go false t = t

  -- a day that is closed afterwards was closed
  pub closed-before : (e : ℕ) → closed_on (reopen_day cal d) e ≡ true → closed_on cal e ≡ true
  unfolding closed_on
  closed-before e t =
      let (a, b) = both (in_cover (reopen_day cal d).cover e) (bit_at (reopen_day cal d).closed (slot_of (reopen_day cal d).cover e)) t in
      rw (rw reopen-cover at a, closed-bits (slot_of cal.cover e) (rw reopen-cover at b))

  -- so a trading day stays one
  pub trading-stays : (e : ℕ) → trading_day cal e ≡ true → trading_day (reopen_day cal d) e ≡ true
  unfolding trading_day reopen_day
  trading-stays e t =
      let (a, s) = both (in_cover cal.cover e) (ltb (weekday_of e) 5 && not (closed_on cal e)) t in
      let (w, n) = both (ltb (weekday_of e) 5) (not (closed_on cal e)) s in
      rw (a, w) (go (closed_on (reopen_day cal d) e) refl n)
    where
      go : (b : Bool) → closed_on (reopen_day cal d) e ≡ b → not (closed_on cal e) ≡ true → not b ≡ true
      go true q n = clash (closed-before e q) (not-true (closed_on cal e) n)
      go false q n = refl

  -- the day is open again: a Monday to Friday of the cover trades
  pub trading-again : in_cover cal.cover d ≡ true → ltb (weekday_of d) 5 ≡ true → trading_day (reopen_day cal d) d ≡ true
  unfolding trading_day closed_on reopen_day
  trading-again e w = rw (e, w, clear-here cal.closed (slot_of cal.cover d))

  -- question 5 stays answered yes: the day has no bit in either map, every other day has its own
  pub clean-reopen : clean cal ≡ true → clean (reopen_day cal d) ≡ true
  unfolding clean reopen_day
  clean-reopen k = every-all (clean_slot (reopen_day cal d)) 5888
      (λ s h. go s (in_cover cal.cover d) (eqb s (slot_of cal.cover d)) refl (every-at (clean_slot cal) 5888 s k h))
    where
      at : ℕ
      at = slot_of cal.cover d

      go : (s : ℕ) (b q : Bool) → eqb s at ≡ q → bits_clean (may_be_closed cal.cover s) (bit_at cal.closed s) (bit_at cal.exchange s) ≡ true
          → bits_clean (may_be_closed cal.cover s) (bit_at (cond b (clear_bit cal.closed at) cal.closed) s)
          (bit_at (cond b (clear_bit cal.exchange at) cal.exchange) s) ≡ true
      go s false q e t = t
      go s true true e t =
          let p : s ≡ at = eqb-true s at e in
          rw (p, clear-here cal.closed at, clear-here cal.exchange at) (bits-zero (may_be_closed cal.cover at))
      go s true false e t = rw (clear-other cal.closed at s (eqb-false s at e), clear-other cal.exchange at s (eqb-false s at e)) t

  -- and so does question 6
  pub weeks-reopen : every_week cal ≡ true → every_week (reopen_day cal d) ≡ true
  weeks-reopen e = weeks-more (reopen_day cal d) cal (sym reopen-cover) trading-stays e

  -- where nothing is cleared: a day outside the cover
  pub reopen-out : in_cover cal.cover d ≡ false → cal ≡ reopen_day cal d
  unfolding reopen_day
  reopen-out e = rw e
