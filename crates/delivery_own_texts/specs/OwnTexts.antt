-- A delivery judged by its own notices: the two texts of the program `reconcile` where its input is what `deliver` prints
-- (docs/DELIVERY.md, `reconcile` and What is proved, from which the quotations are).
-- Assumes nothing.
use Rattle.std.specs.Prelude.{ℕ, ◌≡◌, List, ◌++◌, length}
use Rattle.questions.specs.Questions.{first_no}
use Rattle.file_ids.specs.Ids.{place_count, record_count}
use Rattle.file_load.specs.Load.{load_asks}
use Rattle.table.specs.Table.{open_call}
use Rattle.delivery_notices.specs.Notices.{text_told}
use Rattle.delivery_rows.specs.Delivery.{Row}
use Rattle.delivery_parts.specs.PlaceParts.{deliver_text, parts_text}
use Rattle.delivery_differences.specs.Differences.{AnyOrder}
use Rattle.delivery_reports.specs.Reports.{differences_heading}
use Rattle.delivery_reconciled.specs.Reconciled.{opening_text, summary_text, reconcile_text, reconcile_told}
use Rattle.delivery_own.specs.Own.{under_heading, printed_rows}

-- 'refused openings as above',
-- of all products of a file
abbrev pub openings_told : List ℕ → List ℕ → List ℕ
openings_told f notices =
    let t = text_told notices in
    parts_text (opening_text (open_call f) f t.opened t.date) (place_count f)

-- of an input that has these rows: `reconcile` finds nothing
pub record FindsNothing (f notices : List ℕ) (rows : List Row) (input : List ℕ) : Type 0 where
  -- standard output: the heading and no line under it, of no product, whether it opened or not, and of no id that is not in the file
  pub output : reconcile_text f notices input ≡ differences_heading
  -- standard error: refused openings, no bad line, and last the products of the file, the rows, 0 differ, 0 bad
  pub told : reconcile_told f notices input ≡ openings_told f notices ++ summary_text (record_count f) (length rows) 0 0

-- 'A reconciliation of what `deliver` prints, as texts, with any order of its rows, finds nothing for a product that opened',
-- nor for any other: of a file that is accepted, and notices without a bad line
pub record OwnTexts (f notices : List ℕ) : Type 0 where
  -- 'with any order of its rows'
  pub any : first_no (load_asks f) ≡ 0 → (text_told notices).bad ≡ 0 → (rows : List Row) → AnyOrder (printed_rows f notices) rows
      → FindsNothing f notices rows (under_heading rows)
  -- 'what `deliver` prints' itself
  pub own : first_no (load_asks f) ≡ 0 → (text_told notices).bad ≡ 0 → FindsNothing f notices (printed_rows f notices) (deliver_text f notices)
