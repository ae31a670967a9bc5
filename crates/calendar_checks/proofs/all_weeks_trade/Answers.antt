-- Question 6 over the whole cover: `weeks_trade` from the cover's first day to its end, which is not before it (`start-end`).
use Rattle.calendar.proofs.Covered.{start-end}
use Rattle.calendar.specs.Trading.{every_week}
use native.Mathlib.Omega.{arith}
use Rattle.calendar_checks.proofs.all_weeks_trade.Goals as goal

pub weeks_trade-requires : goal.weeks_trade-requires
weeks_trade-requires c =
    let s = c.cover_start.ensures.0 in
    let e = c.cover_end.ensures.0 in
    let start = c in
    (omega arith, omega (arith, start-end start.args.cover), omega arith, c.cover_end.ensures.1)

pub returns : goal.returns
unfolding every_week
returns c = rw (← c.cover_start.ensures.0, ← c.cover_end.ensures.0) c.weeks_trade.ensures
