-- None without a table, else the places of its kind.
use Rattle.c_differences.proofs.ProductDifferences.{none-listed, some-listed}
use Rattle.c_differences.proofs.listed_count.Goals as goal

pub returns-then-d-ne0 : goal.returns-then-d-ne0
returns-then-d-ne0 c = none-listed _ c.if-d-ne0.true

pub returns : goal.returns
returns c = some-listed _ c.if-d-ne0.false _ c.unflat_product-p.ensures _ c.places_of_kind-n.ensures.0
