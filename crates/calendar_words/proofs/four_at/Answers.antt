-- Four bytes of the maps as one number, the first the highest, below 2^32. The definition's four steps are the code's sum, by arithmetic; the places
-- and the sizes are found by search, each from the bounds that `wide` ensures.
use Rattle.calendar_words.specs.DayWords.{bytes_from}
use native.Mathlib.Nat.{add-zero}
use native.Mathlib.Omega.{arith}
use Rattle.calendar_words.proofs.four_at.Goals as goal

-- ---- the sum
pub returns : goal.returns
unfolding bytes_from
returns c = (rw (add-zero _) (omega arith), omega arith)
