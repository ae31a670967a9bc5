-- The rows of a table in a lent buffer.
-- Assumes nothing.
use Rattle.std.specs.Prelude.{ℕ, zero, suc, ◌+◌, ◌≡◌, Bool, cond, List, [], ◌++◌, leb, length, take, drop, get_or}
use Rattle.product.specs.declared.Kind.{Kind}
use Rattle.listing.specs.declared.Maturity.{Maturity}
use Rattle.listing.specs.Rules.{unused}
use Rattle.table.specs.declared.Table.{Table}
use Rattle.delivery_rows.specs.Delivery.{delivery_row, row_text, table_rows, rows_text}

-- of a buffer before and after: the text stands from `at` on, `next` is the place after it, and nothing else is changed
pub record RowsIn (before after : List ℕ) (at next : ℕ) (text : List ℕ) : Type 0 where
  pub is : take next after ≡ take at before ++ text
  pub to : next ≡ at + length text
  pub unchanged : drop next after ≡ drop next before
  pub long : length after ≡ length before

-- only the code needs it: the rows of the first n maturities
unfoldable pub rows_first : List ℕ → Kind → List Maturity → ℕ → List ℕ
rows_first id kind ms zero = []
rows_first id kind ms (suc n) = rows_first id kind ms n ++ row_text (delivery_row id kind (get_or ms n unused))

-- there is room for any table's rows: 15 rows of at most 39 bytes
unfoldable pub has_room : List ℕ → ℕ → Bool
has_room out at = leb (at + 1024) (length out)

-- the rows of a table where there is room for them, else nothing
unfoldable pub rows_or_none : List ℕ → ℕ → List ℕ → Table → List ℕ
rows_or_none out at id t = cond (has_room out at) (rows_text (table_rows id t)) []
