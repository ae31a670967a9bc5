-- A delivery as a whole, and place by place (docs/DELIVERY.md, Meaning and `deliver`, from which the quotations are).
-- Assumes nothing.
use Rattle.std.specs.Prelude.{ℕ, zero, suc, ◌+◌, ◌≤◌, ◌≡◌, Bool, true, false, not, ◌&&◌, cond, List, [], ◌++◌, map, eqb, leb, length, take, replicate}
use Rattle.questions.specs.Questions.{first_no}
use Rattle.file_ids.specs.Ids.{place_count, is_record, id_at}
use Rattle.file_load.specs.Load.{load_asks}
use Rattle.table.specs.declared.Outcome.{Outcome}
use Rattle.history.specs.History.{table_run}
use Rattle.delivery_notices.specs.Notices.{NoticesTold, text_told}
use Rattle.delivery_notices.specs.NoticeLists.{notices_to, notice_held}
use Rattle.delivery_tables.specs.Tables.{calls_for, refusals_for}
use Rattle.delivery_rows.specs.Delivery.{Row, delivery_heading, rows_text, table_rows, place_rows, delivery}
use Rattle.delivery_refusals.specs.Refusals.{master_text, bad_notice_text, refused_notice_text, refusals_text, place_refusals, refusals_to, refusal_lines}
use Rattle.delivery_refusals.specs.Refusals.{unknown_measures}
use Rattle.delivery_parts.specs.declared.PlacePart.{PlacePart}

-- 'under a heading that is always there'; 'nothing else is printed, no heading either':
-- standard output, the rows; of a file that is refused and of notices with a bad line nothing
unfoldable pub deliver_text : List ℕ → List ℕ → List ℕ
deliver_text f notices =
    let t = text_told notices in
    cond (eqb (first_no (load_asks f)) 0 && eqb t.bad 0) (delivery_heading ++ rows_text (delivery f t.date t.notices)) []

-- 'A `master.bin` that is refused: .. it is judged before the notices are read':
-- standard error, `master.bin: NO n`, or the first bad line, or the refused calls
unfoldable pub deliver_refusals : List ℕ → List ℕ → List ℕ
deliver_refusals f notices =
    let t = text_told notices in
    cond (eqb (first_no (load_asks f)) 0)
    (cond (eqb t.bad 0) (refusals_to f t (place_count f) ++ unknown_measures f t.notices) (bad_notice_text t.bad))
    (master_text (first_no (load_asks f)))

-- '1 something was refused, bad or differs': something is told
unfoldable pub deliver_refused : List ℕ → List ℕ → Bool
deliver_refused f notices = not (eqb (length (deliver_refusals f notices)) 0)

-- n parts one after the other
unfoldable pub parts_text : (ℕ → List ℕ) → ℕ → List ℕ
parts_text part zero = []
parts_text part (suc n) = parts_text part n ++ part n

-- two buffers have room for a place's rows, and for the refusals of so many notices
abbrev pub part_fits : ℕ → ℕ → ℕ → Bool
part_fits count refusals out = leb count refusals && leb 1024 out

-- a place that gives nothing
abbrev pub no_part : Bool → PlacePart
no_part fits = record { fits = fits; holds = false; id = replicate 4 0; refusal = 0; length = 0 }

-- the rows of the product at a place, by what an id and a date open; by what the file opens they are `place_rows`
unfoldable pub rows_by : (List ℕ → ℕ → Outcome) → List ℕ → NoticesTold → ℕ → List Row
rows_by opening f t p =
    cond (is_record f p && eqb (opening (id_at f p) t.date).refusal 0)
    (table_rows (id_at f p) (table_run (opening (id_at f p) t.date).table (calls_for (id_at f p) t.notices))) []

-- the lines of its refused calls likewise; by what the file opens they are `place_refusals`
unfoldable pub refusals_by : (List ℕ → ℕ → Outcome) → List ℕ → NoticesTold → ℕ → List ℕ
refusals_by opening f t p =
    cond (is_record f p)
    (cond (eqb (opening (id_at f p) t.date).refusal 0)
    (refusals_text (id_at f p) t.notices (refusals_for (id_at f p) (opening (id_at f p) t.date).table t.notices))
    (refused_notice_text t.opened (opening (id_at f p) t.date).refusal (id_at f p))) []

-- of a place: where the buffers have room and the lists hold the notices of a text, the rows stand at the start of the one,
-- and the lines of the refused calls, of which there are none where the place holds no record, are those of the other
pub record PlaceIn (opening : List ℕ → ℕ → Outcome) (f : List ℕ) (p date count : ℕ) (calls ids refusals refusals' out out' : List ℕ)
    (r : PlacePart) : Type 0 where
  pub fits : r.fits ≡ part_fits count (length refusals) (length out)
  pub rows : r.fits ≡ true → (t : NoticesTold) → date ≡ t.date → notices_to calls ids count ≡ map notice_held t.notices
      → take r.length out' ≡ rows_text (rows_by opening f t p)
  pub told : r.fits ≡ true → (t : NoticesTold) → date ≡ t.date → notices_to calls ids count ≡ map notice_held t.notices
      → cond r.holds (refusal_lines r.id t.opened r.refusal calls refusals' (count + 1)) [] ≡ refusals_by opening f t p
  pub within : r.length ≤ length out'
  pub out-long : length out' ≡ length out
  pub refusals-long : length refusals' ≡ length refusals

-- the parts make up the whole: a run hands out the heading and the rows of each place,
-- and of each place the lines of its refused calls, then those of the measures of unknown ids
pub record WholeDelivery (f notices : List ℕ) (t : NoticesTold) : Type 0 where
  pub rows : deliver_text f notices
      ≡ cond (eqb (first_no (load_asks f)) 0 && eqb t.bad 0)
      (delivery_heading ++ parts_text (λ p. rows_text (place_rows f t.date t.notices p)) (place_count f)) []
  pub refusals : deliver_refusals f notices
      ≡ cond (eqb (first_no (load_asks f)) 0)
      (cond (eqb t.bad 0) (parts_text (place_refusals f t) (place_count f) ++ unknown_measures f t.notices) (bad_notice_text t.bad))
      (master_text (first_no (load_asks f)))
