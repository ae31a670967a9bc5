-- A line with a space and a number more: what `extend` and then `with_decimal` ensure (`then`).
use Rattle.file_text_print.proofs.Building.{then, one}
use Rattle.session_text.specs.TermsText.{spaced}
use Rattle.file_text_print.proofs.with_spaced.Goals as goal

pub returns : goal.returns
unfolding spaced
returns c = then (one _ _ _ c.extend.ensures) c.with_decimal.ensures
