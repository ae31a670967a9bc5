-- The day after the cover's last, at most 36,525. A sum of first year and years from 2100 on ends on 36,525 (`year-start-past`), so that it may stop
-- at 65,535.
use Rattle.std.specs.Prelude.{min}
use Rattle.days.proofs.Years.{year-start-past}
use Rattle.days.specs.Dates.{year_start}
use Rattle.questions.proofs.Bools.{lt-or-ge}
use Rattle.calendar.specs.Trading.{cover_end}
use mathlib.Core.Logic.{◌⊎◌, inl, inr}
use native.Mathlib.Omega.{arith}
use mathlib.Core.Path.{◌≡◌, ◌∙◌, sym, ap}
use Prim.Native.Nat.{ℕ, ◌≤◌, ◌<◌}
use Rattle.calendar.proofs.cover_end.Goals as goal

-- a year of 16 bits at most stands for every later one
capped : (y : ℕ) → year_start (min y 65535) ≡ year_start y
capped y = go (lt-or-ge y 65535)
  where
    go : (y < 65535) ⊎ (65535 ≤ y) → year_start (min y 65535) ≡ year_start y
    go (inl l) = let e : min y 65535 ≡ y = omega arith in ap year_start e
    go (inr l) = year-start-past (min y 65535) (omega arith) ∙ sym (year-start-past y (omega arith))

pub returns : goal.returns
unfolding cover_end
returns c = (c.year_start.ensures.0 ∙ ap year_start c.saturating_add.ensures ∙ capped _, c.year_start.ensures.1)
