-- What a place gives is the definition's: nothing without a record, the opening's refusal alone, or the rows and the refused calls of its table.
-- Assumes nothing.
use mathlib.Core.Path.{◌≡◌, refl, ◌∙◌, sym, ap}
use mathlib.Core.Bool.{Bool, true, false}
use mathlib.Core.List.{List, [], map}
use Prim.Native.Nat.{ℕ, ◌+◌, ◌≤◌}
use native.Mathlib.Omega.{arith}
use lib.Dec.{leb}
use lib.ListN.{length, length-take}
use borrow.Author.Tests.{eq-eqb, ne_eqb, le-leb, leb-true}
use Rattle.questions.specs.Questions.{Answer}
use Rattle.questions.proofs.Bools.{both, clash}
use Rattle.calendar.specs.declared.Calendar.{Calendar}
use Rattle.file_ids.specs.Ids.{is_record, id_at}
use Rattle.file_load.specs.Load.{judge_call}
use Rattle.table.specs.declared.Table.{Table}
use Rattle.table.specs.declared.Outcome.{Outcome}
use Rattle.table.specs.Table.{open_in}
use Rattle.table.proofs.Opens.{open_is}
use Rattle.history.specs.History.{table_run}
use Rattle.delivery_notices.specs.Notices.{NoticesTold}
use Rattle.delivery_notices.specs.NoticeLists.{notices_to, notice_held}
use Rattle.delivery_tables.specs.declared.Delivered.{Delivered}
use Rattle.delivery_tables.specs.Tables.{calls_for, refusals_for, NoticesMade, Delivers}
use Rattle.delivery_tables.proofs.CallsHeld.{run-same, refusals-same}
use Rattle.delivery_rows.specs.Delivery.{rows_text, table_rows, opens_at, place_rows}
use Rattle.delivery_rows.specs.Printed.{RowsIn, has_room, rows_or_none}
use Rattle.delivery_refusals.specs.Refusals.{refusal_told, refusals_text, product_refusals, place_refusals, refusal_lines}
use Rattle.delivery_parts.specs.declared.PlacePart.{PlacePart}
use Rattle.delivery_parts.specs.PlaceParts.{part_fits, no_part, rows_by, refusals_by, PlaceIn}
use Rattle.delivery_parts.proofs.Wholes.{notices-length, notices-told, opening-told}

no-row : rows_text [] ≡ []
unfolding rows_text
no-row = refl

-- by the file's own verdict a place gives what the file opens
pub rows-own : (verdict : Answer Calendar) (f : List ℕ) (t : NoticesTold) (p : ℕ) → verdict ≡ judge_call f
    → rows_by (open_in verdict f) f t p ≡ place_rows f t.date t.notices p
unfolding rows_by place_rows opens_at
rows-own verdict f t p e = rw (e, open_is f (id_at f p) t.date) refl

-- by the file's own verdict the lines of a place's refused calls are those of the file
pub refusals-own : (verdict : Answer Calendar) (f : List ℕ) (t : NoticesTold) (p : ℕ) → verdict ≡ judge_call f
    → refusals_by (open_in verdict f) f t p ≡ place_refusals f t p
unfolding refusals_by place_refusals product_refusals
refusals-own verdict f t p e = rw (e, open_is f (id_at f p) t.date) refl

module _ (opening : List ℕ → ℕ → Outcome) (f : List ℕ) (t : NoticesTold) (p : ℕ) where
  rows_empty : is_record f p ≡ false → [] ≡ rows_text (rows_by opening f t p)
  unfolding rows_by
  rows_empty e = rw e (sym no-row)

  told-empty : is_record f p ≡ false → [] ≡ refusals_by opening f t p
  unfolding refusals_by
  told-empty e = rw e refl

  module _ (h : is_record f p ≡ true) where
    rows-refused : ((opening (id_at f p) t.date).refusal ≡ 0 → ⊥) → [] ≡ rows_text (rows_by opening f t p)
    unfolding rows_by
    rows-refused n = rw (h, ne_eqb (opening (id_at f p) t.date).refusal 0 n) (sym no-row)

    rows-open : (opening (id_at f p) t.date).refusal ≡ 0
        → rows_text (table_rows (id_at f p) (table_run (opening (id_at f p) t.date).table (calls_for (id_at f p) t.notices))) ≡ rows_text (rows_by opening f t p)
    unfolding rows_by
    rows-open z = rw (h, eq-eqb (opening (id_at f p) t.date).refusal 0 z) refl

    told-refused : ((opening (id_at f p) t.date).refusal ≡ 0 → ⊥)
        → refusal_told t.opened (opening (id_at f p) t.date).refusal (id_at f p) ≡ refusals_by opening f t p
    unfolding refusals_by refusal_told
    told-refused n = rw (h, ne_eqb (opening (id_at f p) t.date).refusal 0 n) refl

    told-open : (opening (id_at f p) t.date).refusal ≡ 0
        → refusals_text (id_at f p) t.notices (refusals_for (id_at f p) (opening (id_at f p) t.date).table t.notices) ≡ refusals_by opening f t p
    unfolding refusals_by
    told-open z = rw (h, eq-eqb (opening (id_at f p) t.date).refusal 0 z) refl

room-here : (out : List ℕ) → 1024 ≤ length out → has_room out 0 ≡ true
unfolding has_room
room-here out h = le-leb 1024 (length out) h

rows-printed : (out : List ℕ) (id : List ℕ) (t : Table) → 1024 ≤ length out → rows_or_none out 0 id t ≡ rows_text (table_rows id t)
unfolding rows_or_none
rows-printed out id t h = rw (room-here out h) refl

module _ (opening : List ℕ → ℕ → Outcome) (f : List ℕ) (p date count : ℕ) (calls ids refusals out : List ℕ) where
  -- without room in the two buffers a place gives nothing, and the buffers stay as they are
  pub place-idle : (b : Bool) → b ≡ part_fits count (length refusals) (length out) → b ≡ false → (r : PlacePart) → r ≡ no_part false
      → PlaceIn opening f p date count calls ids refusals refusals out out r
  place-idle b q n r e =
      record {
        fits = rw e (sym n ∙ q);
        rows = λ y. clash y (rw e refl);
        told = λ y. clash y (rw e refl);
        within = rw e (omega arith);
        out-long = refl;
        refusals-long = refl;
      }

  module _ (b : Bool) (q : b ≡ part_fits count (length refusals) (length out)) (y : b ≡ true) where
    -- with room in the buffers a place without a record gives nothing
    pub place-empty : is_record f p ≡ false → (r : PlacePart) → r ≡ no_part true → PlaceIn opening f p date count calls ids refusals refusals out out r
    place-empty h r e =
        record {
          fits = rw e (sym y ∙ q);
          rows = λ z t d n. rw e (rows_empty opening f t p h);
          told = λ z t d n. rw e (told-empty opening f t p h);
          within = rw e (omega arith);
          out-long = refl;
          refusals-long = refl;
        }

    few : count ≤ length refusals
    few = leb-true count (length refusals) (both (leb count (length refusals)) (leb 1024 (length out)) (sym q ∙ y)).0

    wide : 1024 ≤ length out
    wide = leb-true 1024 (length out) (both (leb count (length refusals)) (leb 1024 (length out)) (sym q ∙ y)).1

    module _ (h : is_record f p ≡ true) (id : List ℕ) (i : id ≡ id_at f p) (refusals' : List ℕ) (d : Delivered)
        (m : Delivers opening id date (notices_to calls ids count) refusals refusals' d) where
      -- a place whose product has a refused opening gives that refusal and no rows
      pub place-refused : (d.refusal ≡ 0 → ⊥)
          → PlaceIn opening f p date count calls ids refusals refusals' out out
          (record { fits = true; holds = true; id = id; refusal = d.refusal; length = 0 })
      place-refused n =
          record {
            fits = sym y ∙ q;
            rows = λ z t e s. rows-refused opening f t p h (closed t e);
            told = λ z t e s.
                opening-told id t.opened d.refusal calls refusals' count (ne_eqb d.refusal 0 n)
                ∙ rw (number t e, i) (told-refused opening f t p h (closed t e));
            within = omega arith;
            out-long = refl;
            refusals-long = m.long;
          }
        where
          number : (t : NoticesTold) → date ≡ t.date → d.refusal ≡ (opening (id_at f p) t.date).refusal
          number t e = m.refusal ∙ rw (i, e) refl

          closed : (t : NoticesTold) → date ≡ t.date → (opening (id_at f p) t.date).refusal ≡ 0 → ⊥
          closed t e z = n (number t e ∙ z)

      -- a place whose product is opened gives the rows of its table and the lines of its refused calls
      pub place-rows : d.refusal ≡ 0 → (out' : List ℕ) (n : ℕ) → RowsIn out out' 0 n (rows_or_none out 0 id d.table)
          → PlaceIn opening f p date count calls ids refusals refusals' out out' (record { fits = true; holds = true; id = id; refusal = 0; length = n })
      place-rows z out' n w =
          record {
            fits = sym y ∙ q;
            rows = λ e t g s. w.is ∙ rw (rows-printed out id d.table wide) (rows_are t g s);
            told = λ e t g s. told-are t g s;
            within = fits_in;
            out-long = w.long;
            refusals-long = m.long;
          }
        where
          made : NoticesMade (opening id date).table id (notices_to calls ids count) refusals refusals' d.table
          made = m.made (m.fits ∙ rw (notices-length calls ids count) (le-leb count (length refusals) few))

          opened : (t : NoticesTold) → date ≡ t.date → (opening (id_at f p) t.date).refusal ≡ 0
          opened t g = sym (m.refusal ∙ rw (i, g) refl) ∙ z

          table_is : (t : NoticesTold) → date ≡ t.date → notices_to calls ids count ≡ map notice_held t.notices
              → d.table ≡ table_run (opening (id_at f p) t.date).table (calls_for (id_at f p) t.notices)
          table_is t g s = made.table ∙ rw (s, i, g) (run-same (id_at f p) (opening (id_at f p) t.date).table t.notices)

          rows_are : (t : NoticesTold) → date ≡ t.date → notices_to calls ids count ≡ map notice_held t.notices
              → rows_text (table_rows id d.table) ≡ rows_text (rows_by opening f t p)
          rows_are t g s = rw (table_is t g s, i) (rows-open opening f t p h (opened t g))

          told-are : (t : NoticesTold) → date ≡ t.date → notices_to calls ids count ≡ map notice_held t.notices
              → refusal_lines id t.opened 0 calls refusals' (count + 1) ≡ refusals_by opening f t p
          told-are t g s =
              notices-told id t.opened calls ids refusals' count t.notices (refusals_for id (opening id date).table t.notices)
              (omega (arith, few, m.long)) s
              (made.refusals ∙ rw s (refusals-same id (opening id date).table t.notices))
              ∙ rw (i, g) (told-open opening f t p h (opened t g))

          fits_in : n ≤ length out'
          fits_in = omega (arith, length-take n out', ap length w.is, w.to)
