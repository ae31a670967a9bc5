-- Line n of the text: the cover, then the days, then the places for records.
-- The three returns are these three cases (line-cover, line-day, line-place); a day of the cover is at most day 36525, so its number fits.
use native.Mathlib.Omega.{arith}
use mathlib.Core.Path.{ap}
use Prim.Native.Nat.{ℕ, ◌+◌, ◌-◌}
use Rattle.file_text_print.proofs.Building.{line-cover, line-day, line-place}
use Rattle.file_text_print.proofs.line_at.Goals as goal

pub returns-then-n-eq0 : goal.returns-then-n-eq0
returns-then-n-eq0 c = line-cover _ _ _ _ c.if-n-eq0.true c.cover_line.ensures

pub overflow_cast-n : goal.overflow_cast-n
overflow_cast-n c = omega (arith, c.cover_days-days.ensures.1)

pub overflow_add-cover_start : goal.overflow_add-cover_start
overflow_add-cover_start c = omega (arith, c.cover_start.ensures.0, c.cover_days-days.ensures.1)

pub returns-then-n-days : goal.returns-then-n-days
returns-then-n-days c =
    line-day _ _ _ _ c.if-n-eq0.false _ c.cover_days-days.ensures.0 c.if-n-days.true _
    (ap (λ (start : ℕ). start + (c.args.n - 1)) c.cover_start.ensures.0) c.day_line.ensures

pub returns : goal.returns
returns c = line-place _ _ _ _ c.if-n-eq0.false _ c.cover_days-days.ensures.0 c.if-n-days.false
    c.place_line.ensures
