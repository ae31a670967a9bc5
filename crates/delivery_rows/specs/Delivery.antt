-- The rows of a delivery: the tables of all products of a master file after the notices
-- (docs/DELIVERY.md, Meaning and `deliver`, from which the quotations are; 01, Master file; The table; Questions; 02, notes 2, 3, 9 and 11).
-- Assumes nothing.
use Rattle.std.specs.Prelude.{ℕ, zero, suc, ◌/◌, ◌%◌, ◌<◌, ◌≡◌, Bool, true, ◌&&◌, cond, List, [], ◌∷◌, ◌++◌, map, eqb, length, get_or}
use Rattle.product.specs.declared.Kind.{Kind}
use Rattle.listing.specs.declared.Maturity.{Maturity}
use Rattle.listing.specs.Rules.{unused}
use Rattle.file_ids.specs.Ids.{place_count, is_record, id_at}
use Rattle.file_load.specs.Products.{product_at}
use Rattle.file_load.specs.Load.{product_of}
use Rattle.table.specs.declared.Table.{Table}
use Rattle.table.specs.Table.{listed_in, open_call}
use Rattle.history.specs.Book.{Call}
use Rattle.history.specs.History.{FromFile}
use Rattle.session_text.specs.TermsText.{decimal, day_text, name_text}
use Rattle.file_text_print.specs.Contents.{id_text}
use Rattle.delivery_notices.specs.Notices.{Notice}
use Rattle.delivery_tables.specs.Tables.{calls_for, table_after}

-- a row: a product's id and kind, and a maturity of its table
pub record Row : Type 0 where
  pub id : List ℕ
  pub kind : Kind
  pub maturity : Maturity

-- the row of a maturity
abbrev pub delivery_row : List ℕ → Kind → Maturity → Row
delivery_row id kind m = record { id = id; kind = kind; maturity = m }

-- 'maturities rising':
-- the rows of a table
unfoldable pub table_rows : List ℕ → Table → List Row
table_rows id t = map (delivery_row id t.product.kind) (listed_in t)

-- 'A product whose opening is refused has no table':
-- a place that holds a record whose product opens on the date
unfoldable pub opens_at : List ℕ → ℕ → ℕ → Bool
opens_at f date p = is_record f p && eqb (open_call f (id_at f p) date).refusal 0

-- the rows of the product at a place, after the notices; none where there is no product, or it has no table
unfoldable pub place_rows : List ℕ → ℕ → List Notice → ℕ → List Row
place_rows f date ns p = cond (opens_at f date p) (table_rows (id_at f p) (table_after f (id_at f p) date ns)) []

-- 'in the file's order':
-- the rows of the first n places
unfoldable pub rows_to : List ℕ → ℕ → List Notice → ℕ → List Row
rows_to f date ns zero = []
rows_to f date ns (suc n) = rows_to f date ns n ++ place_rows f date ns n

-- the rows of the whole file
abbrev pub delivery : List ℕ → ℕ → List Notice → List Row
delivery f date ns = rows_to f date ns (place_count f)

-- 'AXA,2,2008-04,2008-04-18,0':
-- product, number, maturity, last trading day and days back, with commas, 44, and a line feed, 10
unfoldable pub row_text : Row → List ℕ
row_text r =
    id_text r.id
    ++ ((44 ∷ [])
    ++ (decimal r.maturity.number
    ++ ((44 ∷ [])
    ++ (name_text r.kind r.maturity.key
    ++ ((44 ∷ []) ++ (day_text r.maturity.day ++ ((44 ∷ []) ++ (decimal r.maturity.back ++ (10 ∷ [])))))))))

-- the rows one after the other
unfoldable pub rows_text : List Row → List ℕ
rows_text [] = []
rows_text (r ∷ rs) = row_text r ++ rows_text rs

-- 'product,number,maturity,last_trading_day,days_back', 'a heading that is always there',
-- and a line feed
unfoldable pub delivery_heading : List ℕ
delivery_heading =
    112 ∷ 114 ∷ 111 ∷ 100 ∷ 117 ∷ 99 ∷ 116 ∷ 44 ∷ 110 ∷ 117 ∷ 109 ∷ 98 ∷ 101 ∷ 114 ∷ 44 ∷ 109 ∷ 97 ∷ 116 ∷ 117 ∷ 114 ∷ 105 ∷ 116 ∷ 121 ∷ 44
    ∷ 108 ∷ 97 ∷ 115 ∷ 116 ∷ 95 ∷ 116 ∷ 114 ∷ 97 ∷ 100 ∷ 105 ∷ 110 ∷ 103 ∷ 95 ∷ 100 ∷ 97 ∷ 121 ∷ 44
    ∷ 100 ∷ 97 ∷ 121 ∷ 115 ∷ 95 ∷ 98 ∷ 97 ∷ 99 ∷ 107 ∷ 10 ∷ []

-- of a row: it is a maturity of the table of the product at a place, and that table has the history that demand 3 asks for
pub record RowOfTable (f : List ℕ) (date : ℕ) (ns : List Notice) (r : Row) : Type 0 where
  pub place : ℕ
  pub holds : is_record f place ≡ true
  pub id : r.id ≡ id_at f place
  -- the product that the id finds is the one at the place
  pub product : product_of f r.id ≡ product_at f (place / 15) (place % 15)
  -- the kind, which says whether a month or a Friday is printed, is that product's
  pub kind : r.kind ≡ (product_of f r.id).kind
  -- the maturity is one of those that the table lists
  pub at : ℕ
  pub below : at < length (listed_in (table_after f r.id date ns))
  pub maturity : r.maturity ≡ get_or (listed_in (table_after f r.id date ns)) at unused
  -- demand 3 of the product's calls among the notices, and of any more
  pub opened : (open_call f r.id date).refusal ≡ 0
  pub history : (ds : List Call) → FromFile f r.id date (calls_for r.id ns) ds

-- every row of a delivery is of a table for which demand 3 holds with the notices as its list
pub record EveryRow (f : List ℕ) (date : ℕ) (ns : List Notice) : Type 0 where
  pub each : (i : ℕ) (none : Row) → i < length (delivery f date ns) → RowOfTable f date ns (get_or (delivery f date ns) i none)
