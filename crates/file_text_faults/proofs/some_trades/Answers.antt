-- The days so far are no trading days; a trading day among the seven is found.
use native.Mathlib.Omega.{arith}
use mathlib.Core.Path.{sym, ◌∙◌}
use Rattle.questions.proofs.Search.{some_at}
use Rattle.file_text_faults.proofs.FirstIdleRun.{none_yet, none_more, none-all}
use Rattle.file_text_faults.proofs.some_trades.Goals as goal

pub loop-i-init : goal.loop-i-init
loop-i-init c = none_yet _

pub returns-then-is_trading_day_in : goal.returns-then-is_trading_day_in
returns-then-is_trading_day_in c = sym (some_at _ 7 _ (sym c.is_trading_day_in.ensures ∙ c.if-is_trading_day_in.true) c.loop-i-test.true)

pub loop-i-preserved : goal.loop-i-preserved
loop-i-preserved c = none_more _ _ c.loop-i.invariant (sym c.is_trading_day_in.ensures ∙ c.if-is_trading_day_in.false)

pub returns : goal.returns
returns c = none-all _ _ (omega arith) c.loop-i-test.false c.loop-i.invariant
