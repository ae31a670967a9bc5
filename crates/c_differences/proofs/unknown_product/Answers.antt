-- No bytes of another row; of the first one with an unknown id the library's line.
use mathlib.Core.Path.{◌∙◌, ap}
use Rattle.questions.proofs.Bools.{said-no, said-yes}
use Rattle.c_delivery.specs.Delivered.{text_line}
use Rattle.c_differences.proofs.ProductDifferences.{none-unknown, one-unknown}
use Rattle.c_differences.proofs.unknown_product.Goals as goal

pub returns-then-not-is_first_unknown : goal.returns-then-not-is_first_unknown
returns-then-not-is_first_unknown c =
    c.text_line.ensures
    ∙ ap text_line (c.empty_line.ensures ∙ none-unknown _ _ _ (said-no c.is_first_unknown.ensures c.if-not-is_first_unknown.true))

pub returns : goal.returns
returns c =
    c.text_line-2.ensures
    ∙ ap text_line
    (one-unknown _ _ _ (said-yes c.is_first_unknown.ensures c.if-not-is_first_unknown.false) _
    c.id_in.ensures _ c.unknown_line.ensures.is)
