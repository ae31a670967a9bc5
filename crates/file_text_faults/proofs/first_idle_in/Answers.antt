-- A search from the cover's first day on: no run that begins before the day looked at is without trading.
use native.Mathlib.Omega.{arith}
use mathlib.Core.Path.{sym, ap, ◌∙◌}
use mathlib.Core.Bool.{not}
use Rattle.questions.proofs.Search.{search-none, search-here, search-next}
use Rattle.file_text_faults.proofs.FirstIdleRun.{search-start, no_run}
use Rattle.file_text_faults.proofs.first_idle_in.Goals as goal

pub returns-then-end-lt6 : goal.returns-then-end-lt6
returns-then-end-lt6 c = no_run _ _ c.cover_end-end.ensures.0 c.if-end-lt6.true

pub loop-day-init : goal.loop-day-init
loop-day-init c = search-start _ _ _ c.cover_start-day.ensures.0 c.cover_end-end.ensures.0

pub some_trades-requires : goal.some_trades-requires
some_trades-requires c = omega (arith, c.cover_end-end.ensures.1)

pub returns : goal.returns
returns c = sym (search-none _ _ _ _ c.loop-day-test.false) ∙ c.loop-day.invariant

pub returns-then-not-some_trades : goal.returns-then-not-some_trades
returns-then-not-some_trades c =
    sym (search-here _ _ _ _ c.loop-day-test.true (ap not (sym c.some_trades.ensures ∙ c.if-not-some_trades.true)))
    ∙ c.loop-day.invariant

pub loop-day-preserved : goal.loop-day-preserved
loop-day-preserved c =
    search-next _ _ _ _ c.loop-day-test.true (ap not (sym c.some_trades.ensures ∙ c.if-not-some_trades.false))
    ∙ c.loop-day.invariant
