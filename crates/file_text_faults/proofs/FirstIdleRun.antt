-- Days that do not trade, one by one, and the first run of them.
-- Assumes nothing.
use mathlib.Core.Path.{◌≡◌, refl, ◌∙◌, sym, ap}
use mathlib.Core.Bool.{Bool, false, not}
use Prim.Native.Nat.{ℕ, ◌+◌, ◌-◌, ◌≤◌, ◌<◌}
use native.Mathlib.Numerals.{add-one}
use native.Mathlib.Omega.{arith}
use Rattle.questions.specs.Search.{some, first_from}
use Rattle.questions.proofs.Search.{search-none}
use Rattle.calendar.specs.declared.Calendar.{Calendar}
use Rattle.calendar.specs.Trading.{calendar_with, cover_start, cover_end, trading_day, closed_on, some_trades}
use Rattle.file_text_faults.specs.Faults.{first_idle}

-- of no numbers, none passes the test
pub none_yet : (f : ℕ → Bool) → some 0 f ≡ false
unfolding some
none_yet f = refl

-- where none of the first n numbers passes and number n does not, none of the first n + 1 does
pub none_more : (f : ℕ → Bool) (n : ℕ) → some n f ≡ false → f n ≡ false → some (n + 1) f ≡ false
unfolding some
none_more f n a b = rw (add-one, a, b) refl

-- once seven numbers are tested and none passes, none of seven does
pub none-all : (f : ℕ → Bool) (n : ℕ) → n ≤ 7 → 7 ≤ n → some n f ≡ false → false ≡ some 7 f
none-all f n a b e = let q : n ≡ 7 = omega arith in sym (ap (λ (k : ℕ). some k f) (sym q) ∙ e)

-- the search of the code, from the cover's start
pub search-start : (cal : Calendar) (start end : ℕ) → start ≡ cover_start cal.cover → end ≡ cover_end cal.cover
    → first_from (λ d. not (some_trades cal d 7)) 36525 (end - 6 - start) start ≡ first_idle cal
unfolding first_idle
search-start cal start end e q = rw (e, q) refl

-- a cover whose end is before day 6 has no run of seven days without trading, for which 36,525 stands
pub no_run : (cal : Calendar) (end : ℕ) → end ≡ cover_end cal.cover → end < 6 → 36525 ≡ first_idle cal
unfolding first_idle
no_run cal end q h =
    sym (ap (λ (e : ℕ). first_from (λ d. not (some_trades cal d 7)) 36525 (e - 6 - cover_start cal.cover) (cover_start cal.cover)) (sym q) ∙ search-none
    (λ d. not (some_trades cal d 7)) 36525 (end - 6) (cover_start cal.cover) (omega arith))

-- the second map plays no part
pub idle-second : (cal : Calendar) → first_idle (calendar_with cal.cover cal.closed) ≡ first_idle cal
unfolding first_idle trading_day closed_on
idle-second cal = refl
