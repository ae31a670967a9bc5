-- The products of a master file (01, Master file; 02, note 11).
-- Assumes nothing.
use Rattle.std.specs.Prelude.{ℕ, Bool, ◌&&◌, List, get_or, eqb}
use Rattle.product.specs.Fields.{kind_of}
use Rattle.product.specs.declared.Product.{Product}
use Rattle.file_blocks.specs.Blocks.{block_of, number_at}
use Rattle.file_records.specs.Records.{record_of, three_bytes, four_bytes, size_at}

-- two ids are the same
unfoldable pub same_id : List ℕ → List ℕ → Bool
same_id a b = eqb (get_or a 0 0) (get_or b 0 0) && eqb (get_or a 1 0) (get_or b 1 0) && eqb (get_or a 2 0) (get_or b 2 0) && eqb (get_or a 3 0) (get_or b 3 0)

-- the product that a record's bytes say
unfoldable pub product_from : List ℕ → Product
product_from r =
    record {
      id = four_bytes r 0;
      group = four_bytes r 4;
      market = four_bytes r 8;
      kind = kind_of (get_or r 12 0);
      size = size_at r;
      tick = number_at r 15;
      currency = three_bytes r 17;
    }

-- the product of record k of block n; all zeros where the file has no such place
unfoldable pub product_at : List ℕ → ℕ → ℕ → Product
product_at f n k = product_from (record_of (block_of f n) k)
