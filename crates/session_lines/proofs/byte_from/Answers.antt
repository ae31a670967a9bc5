-- `byte_from` gives the place of the first such byte from a place on, or the end: it stands so many bytes further on as the first in the rest
-- (`ahead`), or the rest has none (`no_further`). From a place past the end nothing is searched.
use Rattle.session_lines.proofs.BytePlaces.{ahead, no_further}
use Rattle.session_lines.proofs.byte_from.Goals as goal
use native.Mathlib.Omega.{arith}
use mathlib.Core.Path.{sym, ◌∙◌}

pub returns-in-Some : goal.returns-in-Some
returns-in-Some c = (λ h. ahead _ _ _ _ h (sym c.first_place.ensures ∙ c.in-Some.is), λ h. absurd (omega arith))

pub returns-in-None : goal.returns-in-None
returns-in-None c = (λ h. no_further _ _ _ h (sym c.first_place.ensures ∙ c.in-None.is), λ h. absurd (omega arith))
