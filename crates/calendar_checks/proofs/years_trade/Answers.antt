-- A yes says that every run of seven days in the cover holds a trading day; a no claims nothing. Each year that answers yes carries the runs from those
-- that end before it to those that end with it; so all years carry them to the last year's end (`carried`), and these are all (`all-trade`).
use Rattle.std.proofs.Common.{rules, ◌+◌, arith}
use Rattle.std.specs.Prelude.{⊤}
use Rattle.std.proofs.lemmas.Iterator.{cases_from_all, YieldsList-from_range}
use Rattle.calendar_checks.proofs.Ranges.{carried}
use Rattle.calendar_words.proofs.Windows.{none_yet, all-trade, year_first, TradesUntil}
use Rattle.calendar.specs.Trading.{calendar_with, cover_end}
use mathlib.Core.Path.{refl}
use Rattle.calendar_checks.proofs.years_trade.Goals as goal

pub returns : goal.returns
unfolding cover_end
returns c = λ e.
    let cal = calendar_with c.args.cover c.args.closed.now in
    let each = cases_from_all _ _ c.all.result (λ k. TradesUntil cal (year_first cal.cover k) → TradesUntil cal (year_first cal.cover (k + 1))) (λ k. ⊤) c.all.ensures.ran
    (YieldsList-from_range 0 c.args.cover.years c.args.cover.years refl (omega arith))
    (λ x q k. search rules) (λ x q k. tt) in
    all-trade cal (carried c.args.cover.years _ (λ k. TradesUntil cal (year_first cal.cover k)) c.all.result each e (none_yet cal))
