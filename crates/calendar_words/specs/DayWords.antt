-- Words of days: numbers whose bits are days, the first day the highest bit.
-- Assumes nothing.
use Rattle.std.specs.Prelude.{ℕ, zero, suc, ◌+◌, ◌-◌, ◌*◌, ◌/◌, ◌%◌, ◌^◌, ◌<◌, ◌≡◌, Bool, not, ◌&&◌, cond, List, eqb, ltb, get_or}
use Rattle.questions.specs.Search.{every, some}
use Rattle.days.specs.Gregorian.{weekday_of}
use Rattle.calendar.specs.Bits.{bit_at}

-- day p of a word of w days
abbrev pub day_bit : ℕ → ℕ → ℕ → Bool
day_bit w x p = eqb (x / 2 ^ (w - 1 - p) % 2) 1

-- the word of w days in which those have their bit that pass a test
unfoldable pub day_word : ℕ → (ℕ → Bool) → ℕ
day_word zero test = 0
day_word (suc w) test = 2 * day_word w test + cond (test w) 1 0

-- eight weeks of the map of year k, the j-th of six: a word of 56 days; 0 for a year after the 16 maps, or a j from 6 on
unfoldable pub weeks_of : List ℕ → ℕ → ℕ → ℕ
weeks_of map k j = cond (ltb k 16 && ltb j 6) (day_word 56 (λ p. bit_at map (368 * k + 56 * j + p))) 0

-- the rest of the map of year k, after six times eight weeks: a word of 32 days; 0 for a year after the 16 maps
unfoldable pub rest_of : List ℕ → ℕ → ℕ
rest_of map k = cond (ltb k 16) (day_word 32 (λ p. bit_at map (368 * k + 336 + p))) 0

-- the Saturdays and Sundays of the 64 days from a day on
unfoldable pub weekends_from : ℕ → ℕ
weekends_from day = day_word 64 (λ p. not (ltb (weekday_of (day + p)) 5))

-- a word of 64 days without its first w, followed by a word of w days; 0 where w is not below 64, or the second has more than w days
unfoldable pub moved_on : ℕ → ℕ → ℕ → ℕ
moved_on x next w =
    cond (ltb w 64 && ltb next (2 ^ w))
    (day_word 64 (λ p. cond (ltb p (64 - w)) (day_bit 64 x (w + p)) (day_bit w next (p - (64 - w))))) 0

-- no seven days in a row of a word of 64 have their bit
unfoldable pub no_seven : ℕ → Bool
no_seven x = not (some 58 (λ p. every 7 (λ i. day_bit 64 x (p + i))))

-- the word has the bits of a map from a slot on
abbrev pub Shows : List ℕ → ℕ → ℕ → ℕ → Type 0
Shows map slot w x = (p : ℕ) → p < w → day_bit w x p ≡ bit_at map (slot + p)

-- the n bytes from a place on as one number, the first the highest
unfoldable pub bytes_from : List ℕ → ℕ → ℕ → ℕ
bytes_from b at zero = 0
bytes_from b at (suc n) = bytes_from b at n * 256 + get_or b (at + n) 0 % 256

-- a word of 64 days from a day on has the Saturdays and Sundays
abbrev pub Weekends : ℕ → ℕ → Type 0
Weekends day x = (p : ℕ) → p < 64 → day_bit 64 x p ≡ not (ltb (weekday_of (day + p)) 5)
