-- A delivery judged by its own notices: what `deliver` prints is read back row by row, and compared with the tables that it was printed from
-- (docs/DELIVERY.md, `deliver`, Rows from elsewhere and What is proved, from which the quotations are).
-- Assumes nothing.
use Rattle.std.specs.Prelude.{ℕ, ◌≡◌, true, false, List, [], ◌∷◌, ◌++◌, map}
use Rattle.questions.specs.Questions.{first_no}
use Rattle.product.specs.Fields.{is_weekly}
use Rattle.file_ids.specs.Ids.{is_record, id_at}
use Rattle.file_load.specs.Load.{load_asks, found}
use Rattle.table.specs.declared.Table.{Table}
use Rattle.table.specs.Table.{listed_in}
use Rattle.session_text.specs.TermsText.{decimal, day_text, name_text}
use Rattle.file_text_print.specs.Contents.{id_text}
use Rattle.session_lines.specs.CommandLines.{lines_from}
use Rattle.delivery_notices.specs.Notices.{text_told}
use Rattle.delivery_tables.specs.Tables.{table_after}
use Rattle.delivery_rows.specs.Delivery.{Row, row_text, rows_text, delivery_heading, opens_at, delivery}
use Rattle.delivery_parts.specs.PlaceParts.{deliver_text}
use Rattle.delivery_items.specs.declared.ItemRead.{ItemRead}
use Rattle.delivery_items.specs.Items.{line_read}
use Rattle.delivery_differences.specs.declared.DeliveredRow.{DeliveredRow}
use Rattle.delivery_differences.specs.Differences.{AnyOrder, OfNote12}
use Rattle.delivery_receipts.specs.Receipts.{Received, received_of, form_fits, receipt_of}
use Rattle.delivery_receipts.specs.Receiving.{rows_for}
use Rattle.delivery_reports.specs.Reports as reports

-- 'AXA,2,2008-04,2008-04-18,0':
-- the line of a row, without its line feed
unfoldable pub row_line : Row → List ℕ
row_line r =
    id_text r.id
    ++ (44
    ∷ (decimal r.maturity.number
    ++ (44 ∷ (name_text r.kind r.maturity.key ++ (44 ∷ (day_text r.maturity.day ++ (44 ∷ decimal r.maturity.back)))))))

-- what is read of it: a good row of five fields, with the id, the maturity, the day, the number and the days back that were printed
abbrev pub item_back : Row → ItemRead
item_back r =
    record {
      there = true;
      id = r.id;
      weekly = is_weekly r.kind;
      key = r.maturity.key;
      day = r.maturity.day;
      full = true;
      number = r.maturity.number;
      back = r.maturity.back;
    }

-- some rows as they are received
abbrev pub received : List Row → List Received
received rows = map (λ (r : Row). received_of (item_back r)) rows

-- of a row of a file's product: its text is one line, and the line says the row again
pub record ReadBack (f : List ℕ) (r : Row) : Type 0 where
  pub line : (rest : List ℕ) → lines_from [] (row_text r ++ rest) ≡ row_line r ∷ lines_from [] rest
  pub says : line_read (row_line r) ≡ record { empty = false; heading = false; item = item_back r }
  -- its maturity has 'the form that its product's kind' has
  pub fits : form_fits f (item_back r) ≡ true
  -- its id is in the file
  pub known : found f r.id ≡ true

-- the same of each of some rows
pub data EachBack (f : List ℕ) : List Row → Type 0 where
  none : EachBack f []
  more : {r : Row} {rs : List Row} → ReadBack f r → EachBack f rs → EachBack f (r ∷ rs)

-- 'under a heading that is always there',
-- some rows
abbrev pub under_heading : List Row → List ℕ
under_heading rows = delivery_heading ++ rows_text rows

-- the rows that `deliver` prints of a file after a text of notices
abbrev pub printed_rows : List ℕ → List ℕ → List Row
printed_rows f notices = delivery f (text_told notices).date (text_told notices).notices

-- the product at a place opens on the date of the `O`
abbrev pub opens_in : List ℕ → List ℕ → ℕ → Type 0
opens_in f notices p = opens_at f (text_told notices).date p ≡ true

-- its table after the notices
abbrev pub table_in : List ℕ → List ℕ → ℕ → Table
table_in f notices p = table_after f (id_at f p) (text_told notices).date (text_told notices).notices

-- the rows of that product among those of an input
abbrev pub rows_in : List ℕ → List ℕ → ℕ → List DeliveredRow
rows_in f input p = rows_for (id_at f p) (receipt_of f input).rows

-- 'One line for a key that differs':
-- the lines that are found of that product
abbrev pub found_in : List ℕ → List ℕ → List ℕ → ℕ → List ℕ
found_in f notices input p =
    let t = table_in f notices p in
    reports.report_from t.product.kind (id_at f p) (listed_in t) (rows_in f input p) 0

-- of a text that has these rows, in this order: all are received, and nothing is found
pub record OwnRows (f notices : List ℕ) (rows : List Row) (text : List ℕ) : Type 0 where
  pub each : EachBack f rows
  -- every row is received as it was printed, no line is bad, and no row is one too many
  pub all : (receipt_of f text).rows ≡ received rows
  pub bads : (receipt_of f text).bads ≡ []
  pub over : (receipt_of f text).over ≡ false
  -- 'A reconciliation of what `deliver` prints, as texts, with any order of its rows, finds nothing for a product that opened'
  pub nothing : (p : ℕ) → opens_in f notices p → found_in f notices text p ≡ []
  -- and there is no row of any other product
  pub others : (p : ℕ) → is_record f p ≡ true → opens_at f (text_told notices).date p ≡ false → rows_in f text p ≡ []

-- of a file and a text of notices
pub record OwnDelivery (f notices : List ℕ) : Type 0 where
  -- 'with any order of its rows'
  pub any : first_no (load_asks f) ≡ 0 → (rows : List Row) → AnyOrder (printed_rows f notices) rows → OwnRows f notices rows (under_heading rows)
  -- 'what `deliver` prints' itself
  pub own : first_no (load_asks f) ≡ 0 → (text_told notices).bad ≡ 0 → OwnRows f notices (printed_rows f notices) (deliver_text f notices)
  -- 'and finds none of the four only where the rows are a reordering of the fresh listing':
  -- of every input
  pub only : (input : List ℕ) (p : ℕ) → opens_in f notices p → OfNote12 (table_in f notices p) (rows_in f input p)
