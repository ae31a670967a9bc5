-- Question 7, of a product: `fields_right` of its fields and its kind's number, as the definition has it.
use Rattle.product.specs.Fields.{product_right}
use Rattle.product.proofs.product_right.Goals as goal

pub returns : goal.returns
unfolding product_right
returns c = rw (c.fields_right.ensures, c.kind_number.ensures)
