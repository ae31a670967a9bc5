-- The word ends with the last eight days before year k. Before the cover's first year no day is in the cover, so any word does (`first-before`); else
-- they are the last of the rest of year k − 1 (`last-eight`), which is a year of the valid cover (`year-in-cover`).
use Rattle.calendar_words.proofs.Windows.{first-before, last-eight, year-in-cover}
use Rattle.calendar.proofs.Covered.{years}
use Rattle.calendar.specs.Trading.{calendar_with}
use Rattle.days.specs.Dates.{year_start}
use mathlib.Core.Path.{◌≡◌, ap}
use Prim.Native.Nat.{◌+◌, ◌-◌}
use native.Mathlib.Omega.{arith}
use Rattle.calendar_checks.proofs.days_before.Goals as goal

pub returns-then-k-eq0 : goal.returns-then-k-eq0
returns-then-k-eq0 c =
    let start = c in
    first-before (calendar_with start.args.cover start.args.closed.now) _ _ c.if-k-eq0.true

pub overflow_add-first : goal.overflow_add-first
overflow_add-first c =
    let start = c in
    omega (arith, year-in-cover start.args.cover (start.args.k - 1) start.requires.1 (omega arith))

pub rest_length-requires : goal.rest_length-requires
rest_length-requires c =
    let start = c in
    let t = year-in-cover start.args.cover (start.args.k - 1) start.requires.1 (omega arith) in
    (omega (arith, t), omega (arith, t))

pub rest_days-requires : goal.rest_days-requires
rest_days-requires c =
    let start = c in
    (omega (arith, years start.args.cover start.requires.1), omega (arith, c.rest_length.ensures))

pub returns : goal.returns
returns c =
    let start = c in
    let cal = calendar_with start.args.cover start.args.closed.now in
    let k = start.args.k - 1 in
    let l = c.rest_length.ensures in
    let e : cal.cover.first_year + k + 1 ≡ cal.cover.first_year + start.args.k = omega arith in
    rw (← ap year_start e) (last-eight cal k start.requires.1 (omega arith) c.rest_length.result c.rest_days.result l.0 l.1 l.2
    c.rest_days.ensures.0)
