-- The product of record k of block n: what `record_at` and `product_from` ensure, put together, is `product_at`.
use Rattle.file_load.specs.Products.{product_at}
use Rattle.file_load.proofs.product_at.Goals as goal

pub returns : goal.returns
unfolding product_at
returns c = simp (c.product_from.ensures, c.record_at.ensures)
