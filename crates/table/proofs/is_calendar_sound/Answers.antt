-- The answer is that of the definition's three tests in its order: the cover, the clean maps, every week with a trading day.
-- A `return` with no cites the yeses before it.
use Rattle.questions.proofs.Bools.{said-no, said-yes}
use Rattle.table.proofs.is_calendar_sound.Goals as goal

pub returns-then-not-is_valid_cover : goal.returns-then-not-is_valid_cover
returns-then-not-is_valid_cover c = rw (said-no c.is_valid_cover.ensures c.if-not-is_valid_cover.true)

pub returns-then-not-is_clean : goal.returns-then-not-is_clean
returns-then-not-is_clean c = rw (
  said-yes c.is_valid_cover.ensures c.if-not-is_valid_cover.false,
  said-no c.is_clean.ensures c.if-not-is_clean.true,
)

pub returns : goal.returns
returns c = rw (
  said-yes c.is_valid_cover.ensures c.if-not-is_valid_cover.false,
  said-yes c.is_clean.ensures c.if-not-is_clean.false,
) c.every_week_trades.ensures
