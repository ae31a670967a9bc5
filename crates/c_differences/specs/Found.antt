-- Rows of a delivery from elsewhere and their differences, as programs in other languages ask for them:
-- the rows line by line, and the lines of one product (docs/DELIVERY.md, `reconcile`, from which the quotations are).
-- Assumes nothing.
use Rattle.std.specs.Prelude.{ℕ, ◌≤◌, ◌<◌, ◌≡◌, Bool, true, false, not, ◌&&◌, ◌||◌, cond, List, [], ◌++◌, eqb, leb, length, drop}
use Rattle.product.specs.Fields.{kind_right}
use Rattle.listing.specs.declared.Maturity.{Maturity}
use Rattle.listing.specs.Months.{places_of_kind}
use Rattle.table.specs.Table.{sound, listed_in}
use Rattle.delivery_lines.specs.NoticeLines.{mark_length}
use Rattle.delivery_items.specs.Items.{empty_long}
use Rattle.delivery_receipts.specs.declared.Receiving.{Receiving}
use Rattle.delivery_receipts.specs.Receipts.{Received, rest_received}
use Rattle.delivery_receipts.specs.Receiving.{Lists, room_in, receipt_in, told_of, SameLengths, rows_for}
use Rattle.delivery_reports.specs.declared.ReportProgress.{ReportProgress}
use Rattle.delivery_reports.specs.Reports.{ReportLinesIn}
use Rattle.c_types.specs.declared.FlatProduct.{FlatProduct}
use Rattle.c_types.specs.Flat.{unflat_product, unflat_table}
use Rattle.c_delivery.specs.declared.FlatDelivered.{FlatDelivered}
use Rattle.c_differences.specs.declared.FlatReceipt.{FlatReceipt}
use Rattle.c_differences.specs.declared.FoundLines.{FoundLines}

-- 'nor does one byte order mark before the first line':
-- where the next line begins
unfoldable pub line_start : List ℕ → ℕ → ℕ
line_start text next = cond (eqb next 0) (mark_length text) next

-- the state as the library holds it; no line of the next call is bad yet
abbrev pub receiving_of : FlatReceipt → Receiving
receiving_of s = record { rows = s.rows; begun = s.begun; lines = s.lines; over = s.over; bad = 0 }

-- the state for other languages, with the place of the next line
abbrev pub receipt_from : Receiving → ℕ → FlatReceipt
receipt_from s next = record { next = next; rows = s.rows; lines = s.lines; bad = s.bad; begun = s.begun; over = s.over }

-- before the first line
abbrev pub no_flat_receipt : FlatReceipt
no_flat_receipt = record { next = 0; rows = 0; lines = 0; bad = 0; begun = false; over = false }

-- of a state and six lists before and after some lines more of a text:
-- what was received so far and the rest of the text come to the same, whichever lines were told as bad before
pub record ReceivedIn (f : List ℕ) (s : FlatReceipt) (text : List ℕ) (before after : Lists) (r : FlatReceipt) : Type 0 where
  pub is : (bads : List ℕ)
      → rest_received (room_in before) f (receipt_in (receiving_of s) before bads) empty_long (drop (line_start text s.next) text)
      ≡ rest_received (room_in before) f (receipt_in (receiving_of r) after (bads ++ told_of r.bad)) empty_long (drop (line_start text r.next) text)
  -- it goes on, and not past the text's end
  pub on : line_start text s.next < length text → line_start text s.next < r.next
  pub within : r.next ≤ length text
  pub lengths : SameLengths before after

-- calls from the first line on, with the bad lines that were told; at the text's end they brought what the definition says (proofs, Whole: `whole-text`)
pub data Readings (f text : List ℕ) (lists : Lists) : FlatReceipt → Lists → List ℕ → Type 0 where
  first : Readings f text lists no_flat_receipt lists []
  next : {s r : FlatReceipt} {before after : Lists} {bads : List ℕ}
      → Readings f text lists s before bads → ReceivedIn f s text before after r → Readings f text lists r after (bads ++ told_of r.bad)

-- the product has a kind, and its table, where there is one, is sound
unfoldable pub judgeable : FlatProduct → FlatDelivered → Bool
judgeable p d = kind_right p.kind && (not (eqb d.refusal 0) || sound (unflat_table d.table))

-- 'Rows of a product without a table are `extra`':
-- the maturities that a product has listed
unfoldable pub listed_of : FlatDelivered → List Maturity
listed_of d = cond (eqb d.refusal 0) (listed_in (unflat_table d.table)) []

-- how many they are
unfoldable pub listed_count : FlatDelivered → ℕ
listed_count d = cond (eqb d.refusal 0) (places_of_kind (unflat_table d.table).product.kind) 0

-- a list of so many numbers has room for the places of so many rows
unfoldable pub room_for : ℕ → ℕ → Bool
room_for rows places = leb rows 65536 && leb rows places

-- nothing was looked for
abbrev pub no_lines : ℕ → FoundLines
no_lines refusal = record { refusal = refusal; fits = false; next = 65536; lines = 0; length = 0 }

-- what stands in the buffer
abbrev pub found_progress : FoundLines → ReportProgress
found_progress r = record { next = r.next; length = r.length; lines = r.lines }

-- of a product, its table and the rows that were received:
-- the lines of its differences stand in the buffer, or nothing was looked for and the buffer is untouched;
-- 10 where the product has no kind or its table is not sound
pub record DifferencesIn (p : FlatProduct) (d : FlatDelivered) (received : List Received) (rows from : ℕ) (places places' before after : List ℕ)
    (r : FoundLines) : Type 0 where
  pub refusal : r.refusal ≡ cond (judgeable p d) 0 10
  pub fits : r.fits ≡ (judgeable p d && room_for rows (length places))
  pub found : r.fits ≡ true
      → ReportLinesIn (unflat_product p).kind (unflat_product p).id (listed_of d) (rows_for (unflat_product p).id received) from before after (found_progress r)
  pub idle : r.fits ≡ false → (r ≡ no_lines r.refusal) × (after ≡ before)
  pub places-long : length places' ≡ length places
  pub out-long : length after ≡ length before
