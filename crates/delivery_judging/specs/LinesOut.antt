-- How many bytes are written of the products and of the ids that are not in the file, and how many lines.
-- Which bytes they are is required where they are written. Only the code needs these.
-- Assumes nothing.
use Rattle.std.specs.Prelude.{ℕ, ◌*◌, ◌≤◌, ◌≡◌, true, List, map, length, take}
use Rattle.streams.specs.declared.output.Sent.{Sent}
use Rattle.streams.specs.Transfers.{Grew}
use Rattle.product.specs.declared.Kind.{Kind}
use Rattle.listing.specs.declared.Maturity.{Maturity}
use Rattle.file_ids.specs.Ids.{is_record, id_at}
use Rattle.table.specs.declared.Outcome.{Outcome}
use Rattle.delivery_notices.specs.Notices.{NoticesTold}
use Rattle.delivery_notices.specs.NoticeLists.{notices_to, notice_held}
use Rattle.delivery_parts.specs.PlaceParts.{parts_text}
use Rattle.delivery_differences.specs.declared.DeliveredRow.{DeliveredRow}
use Rattle.delivery_reports.specs.Reports.{report_from, differing_from}
use Rattle.delivery_receipts.specs.Receiving.{Lists, received_to}
use Rattle.delivery_reconciled.specs.declared.PlaceListed.{PlaceListed}
use Rattle.delivery_reconciled.specs.Reconciled.{sum_to, kind_at, listed_at, keys_at, place_text}
use Rattle.delivery_reconciled.specs.Standings.{id_row_text, row_count}
use Rattle.delivery_judging.specs.declared.LinesPrinted.{LinesPrinted}

-- where standard output took it, so many bytes more were written
abbrev pub Wrote : Sent → ℕ → Sent → Type 0
Wrote s n r = r.open ≡ true → (s.open ≡ true) × Grew s.bytes n r.bytes

-- the lines of a product by its maturities and rows
pub record KeysOut (kind : Kind) (id : List ℕ) (listed : List Maturity) (rows : List DeliveredRow) (s : Sent) (r : LinesPrinted) : Type 0 where
  pub text : Wrote s (length (report_from kind id listed rows 0)) r.sent
  pub lines : r.lines ≡ length (differing_from listed rows 0)

-- what a place holds: with at most 6,554 notices, where the lists hold those of a t, the maturities that its table lists
pub record PlaceLists (opening : List ℕ → ℕ → Outcome) (f : List ℕ) (p date count : ℕ) (calls ids : List ℕ) (r : PlaceListed) : Type 0 where
  pub holds : count ≤ 6554 → r.holds ≡ is_record f p
  pub id : r.id ≡ id_at f p
  pub kind : r.kind ≡ kind_at f p
  pub listed : count ≤ 6554 → r.holds ≡ true → (t : NoticesTold) → date ≡ t.date → notices_to calls ids count ≡ map notice_held t.notices
      → take r.listed r.maturities ≡ listed_at opening f t p

-- two lists hold the notices of t, which may be any, and there is room for the places of the rows
pub record Held (date count : ℕ) (calls ids : List ℕ) (rows places : ℕ) (t : NoticesTold) : Type 0 where
  pub few : count ≤ 6554
  pub most : rows ≤ 65536
  pub room : rows ≤ places
  pub dated : date ≡ t.date
  pub notices : notices_to calls ids count ≡ map notice_held t.notices

-- the lines of the product at a place
pub record PlaceOut (opening : List ℕ → ℕ → Outcome) (f : List ℕ) (date count : ℕ) (calls ids : List ℕ) (a : Lists) (rows places p : ℕ) (s : Sent)
    (r : LinesPrinted) : Type 0 where
  pub text : (t : NoticesTold) → Held date count calls ids rows places t → Wrote s (length (place_text opening f t (received_to a rows) p)) r.sent
  pub lines : (t : NoticesTold) → Held date count calls ids rows places t → r.lines ≡ length (keys_at opening f t (received_to a rows) p)
  pub few : r.lines ≤ 65536

-- the lines of the products at the first n places
pub record PlacesOut (opening : List ℕ → ℕ → Outcome) (f : List ℕ) (date count : ℕ) (calls ids : List ℕ) (a : Lists) (rows places n : ℕ) (s : Sent)
    (r : LinesPrinted) : Type 0 where
  pub text : (t : NoticesTold) → Held date count calls ids rows places t → Wrote s (length (parts_text (place_text opening f t (received_to a rows)) n)) r.sent
  pub lines : (t : NoticesTold) → Held date count calls ids rows places t → r.lines ≡ sum_to (λ p. length (keys_at opening f t (received_to a rows) p)) n
  pub few : r.lines ≤ 65536 * n

-- the lines of the ids that are not in the file, of the first n rows
pub record StrangersOut (f ids : List ℕ) (n : ℕ) (s : Sent) (r : LinesPrinted) : Type 0 where
  pub text : Wrote s (length (parts_text (id_row_text f ids) n)) r.sent
  pub lines : r.lines ≡ sum_to (row_count f ids) n
