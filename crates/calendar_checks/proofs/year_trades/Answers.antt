-- A yes carries the runs from those that end before year k to those that end with it. The loop keeps `Next`: the window ends with the last eight
-- days of the first j times eight weeks, and a yes so far carries the runs to the end of these weeks. A turn is `next-weeks`;
-- a no claims nothing.
use Rattle.calendar_words.proofs.Equations.{weekends-are, weeks-shows, weeks-below, moved}
use Rattle.calendar_words.proofs.Windows.{next-first, next-weeks, year-in-cover}
use Rattle.questions.proofs.Bools.{said-yes}
use Rattle.calendar.specs.Trading.{calendar_with}
use Rattle.calendar.proofs.Covered.{years}
use mathlib.Core.Path.{◌≡◌}
use Prim.Native.Nat.{◌*◌, ◌<◌}
use native.Mathlib.Omega.{arith}
use Rattle.calendar_checks.proofs.year_trades.Goals as goal

-- ---- before the loop: the weekends and the days before the year
pub overflow_add-cover : goal.overflow_add-cover
overflow_add-cover c = omega (arith, year-in-cover c.args.cover c.args.k c.requires.1 c.requires.0)

pub loop-j-init : goal.loop-j-init
loop-j-init c = next-first _ _ _ c.days_before-window.ensures

-- ---- the next eight weeks
pub loop-j-preserved : goal.loop-j-preserved
loop-j-preserved c =
    let at_moved = c.before.before in
    let at-weeks = at_moved.before in
    let at-loop = at-weeks.before.before in
    let at-weekends = at-loop.before.before in
    let start = at-weekends in
    let cal = calendar_with start.args.cover start.args.closed.now in
    let l = at-weeks.loop-j-test.true in
    let k : start.args.k < 16 = omega (arith, years start.args.cover start.requires.1, start.requires.0) in
    next-weeks cal start.args.k start.requires.1 start.requires.0 at-loop.loop-j.j at-loop.loop-j.window at-weeks.weeks_of.result
    at_moved.moved_on-window.result at-weekends.weekends_from-weekends.result l
    at-loop.loop-j.invariant (weeks-shows _ _ _ _ at-weeks.weeks_of.ensures k l)
    (moved _ _ _ (omega arith) (weeks-below _ _ _ _ at-weeks.weeks_of.ensures) _ at_moved.moved_on-window.ensures)
    (rw at-weekends.year_start.ensures.0 at (weekends-are _ _ at-weekends.weekends_from-weekends.ensures))
    (said-yes c.no_seven.ensures c.if-not-no_seven.false)

-- ---- after the loop: the rest of the year
pub rest_trades-requires : goal.rest_trades-requires
rest_trades-requires c =
    let at-loop = c.before in
    let start = at-loop in
    let cal = calendar_with start.args.cover start.args.closed.now in
    let e : 56 * at-loop.loop-j.j ≡ 336 = omega (arith, c.loop-j-test.false) in
    (start.requires.0, start.requires.1, rw e at at-loop.loop-j.invariant.ends)

pub returns : goal.returns
returns c = λ e u.
    let at-loop = c in
    let q : 56 * at-loop.loop-j.j ≡ 336 = omega (arith, c.loop-j-test.false) in
    c.rest_trades.ensures e (rw q at (at-loop.loop-j.invariant.trades u))
