-- True exactly where the id of row `i` is not in the file and no row before has it.
-- A known id is a no (`known-id`); for an unknown one the answer is that of `stands_first` (`unknown-id`).
use mathlib.Core.Path.{◌∙◌, sym}
use borrow.Author.Tests.{not-true, not-false}
use Rattle.delivery_receipts.proofs.Gathering.{known-id, unknown-id}
use Rattle.delivery_receipts.proofs.is_first_unknown.Goals as goal

pub returns-then-not-is_unknown : goal.returns-then-not-is_unknown
returns-then-not-is_unknown c = known-id _ _ _ (not-false _ (sym c.is_unknown.ensures ∙ c.if-not-is_unknown.true))

pub returns : goal.returns
returns c = unknown-id _ _ _ (not-true _ (sym c.is_unknown.ensures ∙ c.if-not-is_unknown.false)) _ c.stands_first.ensures
