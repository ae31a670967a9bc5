-- What is promised of the calls for a place, and for the ids that are not in the file. Only the code needs these.
-- Assumes nothing.
use Rattle.std.specs.Prelude.{ℕ, ◌+◌, ◌≤◌, ◌<◌, ◌≡◌, Bool, true, ◌&&◌, cond, List, [], ◌++◌, map, leb, ltb, length, take, drop, replicate}
use Rattle.product.specs.declared.Kind.{Kind}
use Rattle.listing.specs.Rules.{unused}
use Rattle.file_ids.specs.Ids.{is_record, id_at}
use Rattle.table.specs.declared.Outcome.{Outcome}
use Rattle.delivery_notices.specs.Notices.{NoticesTold}
use Rattle.delivery_notices.specs.NoticeLists.{notices_to, notice_held}
use Rattle.delivery_parts.specs.PlaceParts.{parts_text}
use Rattle.delivery_reports.specs.declared.ReportProgress.{ReportProgress}
use Rattle.delivery_reports.specs.Reports.{unknown_text}
use Rattle.delivery_products.specs.IdList.{id_in}
use Rattle.delivery_receipts.specs.Receiving.{first_unknown}
use Rattle.delivery_reconciled.specs.declared.PlaceListed.{PlaceListed}
use Rattle.delivery_reconciled.specs.Reconciled.{kind_at, listed_at, sum_to}

-- a place with no table
abbrev pub nothing_listed : Bool → Bool → List ℕ → Kind → PlaceListed
nothing_listed fits holds id kind =
    record { fits = fits; holds = holds; id = id; kind = kind; listed = 0; maturities = replicate 15 unused }

-- of a place: the id and the kind of its product,
-- and, where the buffer has room for the refusals and the lists hold the notices of a t, the maturities that its table lists
pub record ListedIn (opening : List ℕ → ℕ → Outcome) (f : List ℕ) (p date count : ℕ) (calls ids refusals refusals' : List ℕ) (r : PlaceListed) : Type 0 where
  pub fits : r.fits ≡ leb count (length refusals)
  pub holds : r.fits ≡ true → r.holds ≡ is_record f p
  pub id : r.id ≡ id_at f p
  pub kind : r.kind ≡ kind_at f p
  pub listed : r.fits ≡ true → r.holds ≡ true → (t : NoticesTold) → date ≡ t.date → notices_to calls ids count ≡ map notice_held t.notices
      → take r.listed r.maturities ≡ listed_at opening f t p
  pub long : length refusals' ≡ length refusals

-- the line of row i of a list of ids, where it is the first with its id and that is not in the file
unfoldable pub id_row_text : List ℕ → List ℕ → ℕ → List ℕ
id_row_text f ids i = cond (first_unknown f ids i) (unknown_text (id_in ids i)) []

-- and 1 for that line
unfoldable pub row_count : List ℕ → List ℕ → ℕ → ℕ
row_count f ids i = cond (first_unknown f ids i) 1 0

-- there is a row more, and room for its line: none has 64 bytes
unfoldable pub another_stranger : ℕ → ℕ → List ℕ → ℕ → Bool
another_stranger next n out length' = ltb next n && leb (length' + 64) (length out)

-- of a buffer before and after: the lines of the rows from one on, up to the next, stand at its start
pub record StrangersIn (f ids : List ℕ) (n from : ℕ) (before after : List ℕ) (r : ReportProgress) : Type 0 where
  -- what the rows before the first have, and what was written, is what the rows before the next have
  pub is : parts_text (id_row_text f ids) r.next ≡ parts_text (id_row_text f ids) from ++ take r.length after
  -- how many lines were written
  pub lines : sum_to (row_count f ids) r.next ≡ sum_to (row_count f ids) from + r.lines
  -- it stands at the buffer's start, and nothing else is changed
  pub fits : r.length ≤ length after
  pub unchanged : drop r.length after ≡ drop r.length before
  pub long : length after ≡ length before
  -- with room for a line it goes on, and not past the last row
  pub moves : 64 ≤ length before → from < n → from < r.next
  pub within : from ≤ n → r.next ≤ n
  -- a row that is not among the n has no line
  pub idle : n ≤ from → (r ≡ record { next = from; length = 0; lines = 0 }) × (after ≡ before)
