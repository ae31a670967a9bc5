-- The text of an outcome is that of its parts.
use Rattle.session_text.specs.TermsText.{outcome_text}
use Rattle.session_text.proofs.print_outcome.Goals as goal

pub shape_of-out : goal.shape_of-out
shape_of-out c = c.print_call.ensures.long

pub returns : goal.returns
unfolding outcome_text
returns c = c.print_call.ensures
