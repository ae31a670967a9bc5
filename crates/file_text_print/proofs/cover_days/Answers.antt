-- How many days a cover has, and that they end by day 36525.
-- The first `return` is a cover that ends before it starts: the difference is 0. The second is the difference of the days that the two calls ensure.
use native.Mathlib.Omega.{arith}
use mathlib.Core.Path.{◌≡◌, sym}
use Prim.Native.Nat.{◌-◌}
use Rattle.calendar.specs.Trading.{cover_start, cover_end}
use Rattle.file_text_print.specs.Contents.{cover_days}
use Rattle.file_text_print.proofs.cover_days.Goals as goal

pub returns-then-end-start : goal.returns-then-end-start
unfolding cover_days
returns-then-end-start c =
    let cover = c.args.cover in
    let a = c.cover_start-start.ensures in
    let b = c.cover_end-end.ensures in
    let e : cover_end cover - cover_start cover ≡ 0 = omega (arith, a.0, b.0) in
    (sym e, omega (arith, a.0, a.1))

pub returns : goal.returns
unfolding cover_days
returns c =
    let a = c.cover_start-start.ensures in
    let b = c.cover_end-end.ensures in
    (rw (a.0, b.0), omega (arith, a.0, b.0, b.1))
