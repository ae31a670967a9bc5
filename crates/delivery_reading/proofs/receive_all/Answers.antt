-- The last line is taken where no read failed.
use mathlib.Core.Path.{refl, sym, ◌∙◌}
use Rattle.questions.proofs.Bools.{clash}
use Rattle.delivery_reading.proofs.receive_all.Goals as goal

pub returns-then-has_failed : goal.returns-then-has_failed
returns-then-has_failed c = (refl, λ n. clash (sym c.has_failed.ensures ∙ c.if-has_failed.true) n)
