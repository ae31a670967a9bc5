-- Question 6. Runs depend on the first map alone (`weeks-second`), so each `return` gives what the call on that map ensures: the loop over the days,
-- or the quick look, which counts only where it says yes and is asked only of a valid cover.
use Rattle.calendar.proofs.SecondMap.{weeks-second}
use Rattle.questions.proofs.Bools.{said-yes}
use mathlib.Core.Path.{◌∙◌, sym}
use mathlib.Core.List.{[]}
use Rattle.calendar_checks.proofs.every_week_trades.Goals as goal

pub returns-then-not-is_valid_cover : goal.returns-then-not-is_valid_cover
returns-then-not-is_valid_cover c = c.all_weeks_trade.ensures ∙ weeks-second _ []

pub years_trade-requires : goal.years_trade-requires
years_trade-requires c =
    let at-else = c in
    said-yes at-else.is_valid_cover.ensures at-else.if-not-is_valid_cover.false

pub returns-then-years_trade : goal.returns-then-years_trade
returns-then-years_trade c = sym (sym (weeks-second _ []) ∙ c.years_trade.ensures c.if-years_trade.true)

pub returns : goal.returns
returns c = c.all_weeks_trade-2.ensures ∙ weeks-second _ []
