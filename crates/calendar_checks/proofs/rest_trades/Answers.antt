-- A yes carries the runs from those that end in the first 336 days of year k to those that end with the year. `next-year` gives it from the window
-- moved on by the rest of the year, in which no seven days in a row are closed or of a weekend.
use Rattle.calendar_words.proofs.Equations.{weekends-are, moved}
use Rattle.calendar_words.proofs.Windows.{next-year, year-in-cover}
use Rattle.calendar.specs.Trading.{calendar_with}
use Rattle.calendar.proofs.Covered.{years}
use mathlib.Core.Path.{◌∙◌, sym}
use native.Mathlib.Omega.{arith}
use Rattle.calendar_checks.proofs.rest_trades.Goals as goal

-- ---- the year, its rest and its end
pub overflow_add-year : goal.overflow_add-year
overflow_add-year c = omega (arith, year-in-cover c.args.cover c.args.k c.requires.1 c.requires.0)

pub rest_length-length-requires : goal.rest_length-length-requires
rest_length-length-requires c =
    let t = year-in-cover c.args.cover c.args.k c.requires.1 c.requires.0 in
    (t.low, t.high)

pub rest_days-next-requires : goal.rest_days-next-requires
rest_days-next-requires c =
    let start = c in
    (omega (arith, years start.args.cover start.requires.1, start.requires.0), omega (arith, c.rest_length-length.ensures))

pub overflow_add-year-2 : goal.overflow_add-year-2
overflow_add-year-2 c =
    let args = c.args in
    omega (arith, year-in-cover args.cover args.k c.requires.1 c.requires.0)

-- ---- a yes
pub returns : goal.returns
returns c = λ e u.
    let at-weekends = c.before in
    let at_moved = at-weekends.before in
    let at-end = at_moved.before in
    let at_rest = at-end.before in
    let at_length = at_rest.before in
    let start = at_length in
    let cal = calendar_with start.args.cover start.args.closed.now in
    let l = at_length.rest_length-length.ensures in
    next-year cal start.args.k start.requires.1 start.requires.0 at_length.rest_length-length.result start.args.window at_rest.rest_days-next.result
    at_moved.moved_on.result at-weekends.weekends_from.result
    l.0 l.2 start.requires.2 at_rest.rest_days-next.ensures.0
    (moved _ _ _ (omega (arith, l)) at_rest.rest_days-next.ensures.1 _ at_moved.moved_on.ensures)
    (rw at-end.year_start-end.ensures.0 at (weekends-are _ _ at-weekends.weekends_from.ensures)) (sym c.no_seven.ensures ∙ e) u
