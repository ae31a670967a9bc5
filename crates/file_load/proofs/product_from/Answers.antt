-- The product that a record's bytes say: each field is what its call ensures of those bytes.
-- The kind is the value of the answer of `try_from` (kind-value).
use Rattle.product.proofs.KindNumbers.{kind-value}
use Rattle.file_load.specs.Products.{product_from}
use Rattle.file_load.proofs.product_from.Goals as goal

pub returns : goal.returns
unfolding product_from
returns c =
    simp (
      c.three_at-currency.ensures,
      c.field_at-tick.ensures,
      c.size_at-size.ensures,
      c.kind_or_future-kind.ensures,
      kind-value c.try_from.result c.byte_at.result c.try_from.ensures,
      c.byte_at.ensures,
      c.four_at-market.ensures,
      c.four_at-group.ensures,
      c.four_at-id.ensures,
    )
