-- `unflat_product` gives the product of zeros where the kind's number is refused (`product-no`), else the product with the kind
-- that it is (`product-yes`).
use mathlib.Core.Path.{◌∙◌}
use Rattle.product.proofs.KindNumbers.{kind-there, kind-refused}
use Rattle.c_types.proofs.FlatAnswers.{product-no, product-yes}
use Rattle.c_types.proofs.unflat_product.Goals as goal

pub returns-in_default : goal.returns-in_default
returns-in_default c = c.zero_product.ensures ∙ product-no _ (kind-refused _ _ c.try_from.ensures _ c.in_default.is)

pub returns : goal.returns
returns c =
    let there = kind-there _ _ c.try_from.ensures _ c.in-Ok.is in
    rw there.1 (product-yes _ there.0)
