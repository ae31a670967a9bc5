-- The records after an entry: only a product has one.
-- The first `return` is another entry (no-product), the second what `store` ensures of the product's record (one_product).
use Rattle.file_text_read.proofs.RecordsStored.{no-product, one_product}
use Rattle.file_text_read.proofs.store_entry.Goals as goal

pub returns-then-e-ne80 : goal.returns-then-e-ne80
returns-then-e-ne80 c = no-product _ _ _ c.if-e-ne80.true

pub returns : goal.returns
returns c =
    one_product c.args.records.now c.args.size c.args.e _ _ c.if-e-ne80.false
    c.store.ensures
