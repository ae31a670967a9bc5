-- A table and its flat form stand for each other.
-- Assumes nothing.
use mathlib.Core.Path.{◌≡◌, refl}
use mathlib.Core.Bool.{true}
use Rattle.product.specs.Fields.{kind_right}
use Rattle.product.specs.declared.Product.{Product}
use Rattle.product.proofs.KindNumbers.{kind-right, kind-back, number-back}
use Rattle.file_write.specs.Writing.{record_bytes}
use Rattle.c_types.specs.declared.FlatProduct.{FlatProduct}
use Rattle.c_types.specs.declared.FlatTable.{FlatTable}
use Rattle.c_types.specs.Flat.{unflat_product, flat_product, flat_table, unflat_table, record_flat, FlatUndo}

product-back : (p : Product) → unflat_product (flat_product p) ≡ p
unfolding unflat_product
product-back p = rw (kind-right p.kind, kind-back p.kind) refl

product-forth : (p : FlatProduct) → kind_right p.kind ≡ true → flat_product (unflat_product p) ≡ p
unfolding unflat_product
product-forth p right = rw (right, number-back p.kind right) refl

-- a flat table whose product's kind number is a kind is the flat form of the table that it stands for
pub table-forth : (t : FlatTable) → kind_right t.product.kind ≡ true → flat_table (unflat_table t) ≡ t
table-forth t right = rw (product-forth t.product right) refl

same-record : (p : Product) → record_flat (flat_product p) ≡ record_bytes p
unfolding record_flat record_bytes
same-record p = refl

-- tables and products and their flat forms stand for each other, and a product's record is that of its flat form
pub undo : FlatUndo
undo =
    record {
      product-back = product-back;
      product-forth = product-forth;
      table-back = λ t. rw (product-back t.product) refl;
      table-forth = table-forth;
      same-record = same-record;
    }
