-- `handle` gives taken tables that are a right queue: they are those of the queue's own call, of which `taken-right` says it.
use Rattle.rounds.proofs.Rights.{taken-right}
use mathlib.Core.Path.{◌∙◌}
use Rattle.compare_rounds.proofs.calls.handle.Goals as goal

pub returns : goal.returns
returns c = rw (c.for_c-h.ensures ∙ c.handle.ensures) (taken-right _ _)
