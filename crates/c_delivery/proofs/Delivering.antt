-- The table of a product after the notices and its rows: where nothing is missing, the library's calls give what is said here; else nothing is done.
-- Assumes nothing.
use mathlib.Core.Path.{◌≡◌, refl, ◌∙◌, sym, ap}
use mathlib.Core.Bool.{Bool, true, false, ◌&&◌, cond}
use mathlib.Core.List.{List, []}
use Prim.Native.Nat.{ℕ, ◌≤◌, ◌<◌}
use native.Mathlib.Omega.{arith}
use lib.Dec.{eqb, leb}
use lib.ListN.{length, take}
use borrow.Author.Tests.{le-leb, lt-leb}
use Rattle.questions.proofs.Bools.{both, clash}
use Rattle.table.specs.declared.Table.{Table}
use Rattle.table.specs.declared.Outcome.{Outcome}
use Rattle.table.specs.Table.{sound}
use Rattle.history.specs.History.{table_run}
use Rattle.delivery_notices.specs.Notices.{Notice}
use Rattle.delivery_tables.specs.declared.Delivered.{Delivered}
use Rattle.delivery_tables.specs.Tables.{calls_for, NoticesMade, Delivers}
use Rattle.delivery_rows.specs.Printed.{RowsIn, has_room, rows_or_none}
use Rattle.c_types.specs.declared.FlatTable.{FlatTable}
use Rattle.c_types.specs.Flat.{flat_table}
use Rattle.c_delivery.specs.declared.Notices.{Notices}
use Rattle.c_delivery.specs.declared.FlatDelivered.{FlatDelivered}
use Rattle.c_delivery.specs.Delivered.{ready, not_delivered, delivered_by, DeliveredIn, rows_of, writes, rows_reply, RowsWritten}

module _ (opening : List ℕ → ℕ → Outcome) (id : List ℕ) (n : Notices) (ns : List Notice) (before : List ℕ) where
  by-none : ready n (length before) ≡ false → delivered_by opening id n ns (length before) ≡ not_delivered
  unfolding delivered_by
  by-none e = rw e refl

  by-some : ready n (length before) ≡ true
      → delivered_by opening id n ns (length before) ≡ record {
        fits = true;
        refusal = (opening id n.date).refusal;
        table = flat_table
            (table_run (opening id n.date).table (calls_for id ns));
      }
  unfolding delivered_by
  by-some e = rw e refl

  -- where the notices were not read, a line is bad or the buffer is too short, no notice is taken and the buffer is untouched
  pub not-ready : ready n (length before) ≡ false → (r : FlatDelivered) → r ≡ not_delivered → DeliveredIn opening id n ns before before r
  not-ready e r q =
      record {
        is = q ∙ sym (by-none e);
        refusals = λ f. clash f (ap (λ (d : FlatDelivered). d.fits) q);
        unchanged = λ f. refl;
        idle = λ f. refl;
        long = refl;
      }

  room-is : ready n (length before) ≡ true → leb n.count (length before) ≡ true
  unfolding ready
  room-is e =
      let a : (n.fits ≡ true) × ((eqb n.bad 0 && leb n.count (length before)) ≡ true) = both n.fits
      (eqb n.bad 0 && leb n.count (length before)) e in
      (both (eqb n.bad 0) (leb n.count (length before)) a.1).1

  module _ (e : ready n (length before) ≡ true) (many : length ns ≡ n.count) (after : List ℕ) (d : Delivered)
      (x : Delivers opening id n.date ns before after d) where
    made : NoticesMade (opening id n.date).table id ns before after d.table
    made = x.made (x.fits ∙ ap (λ (k : ℕ). leb k (length before)) many ∙ room-is e)

    -- with notices read, no line bad and room, the table is that after them, and the buffer starts with each notice's refusal number
    pub delivered : (t : FlatTable) → t ≡ flat_table d.table
        → DeliveredIn opening id n ns before after (record { fits = true; refusal = d.refusal; table = t })
    delivered t q =
        record {
          is =
              ap (λ (k : ℕ). record { fits = true; refusal = k; table = t }) x.refusal
              ∙ ap (λ (u : FlatTable). record { fits = true; refusal = (opening id n.date).refusal; table = u }) (q ∙ ap flat_table made.table)
              ∙ sym (by-some e);
          refusals = λ f. ap (λ (k : ℕ). take k after) (sym many) ∙ made.refusals;
          unchanged = λ f. rw (← many) made.unchanged;
          idle = λ f. clash refl f;
          long = x.long;
        }

-- ---- rows

module _ (t : Table) (before : List ℕ) where
  unsound-reply : sound t ≡ false → rows_reply t (length before) ≡ record { refusal = 10; fits = false; length = 0 }
  unfolding rows_reply
  unsound-reply e = rw e refl

  unsound-text : sound t ≡ false → cond (writes t (length before)) (rows_of t) [] ≡ []
  unfolding writes
  unsound-text e = rw e refl

  -- of a table that is not sound the answer is 10, and nothing is written
  pub not_sound : (s : Bool) → s ≡ sound t → s ≡ false → RowsWritten t before before (record { refusal = 10; fits = false; length = 0 })
  not_sound s e f =
      let z : sound t ≡ false = sym e ∙ f in
      record { is = sym (unsound-reply z); text = sym (unsound-text z); unchanged = refl; long = refl }

  module _ (y : sound t ≡ true) where
    short-reply : length before < 1024 → rows_reply t (length before) ≡ record { refusal = 0; fits = false; length = 0 }
    unfolding rows_reply
    short-reply h = rw (y, lt-leb 1024 (length before) h) refl

    short-text : length before < 1024 → cond (writes t (length before)) (rows_of t) [] ≡ []
    unfolding writes
    short-text h = rw (y, lt-leb 1024 (length before) h) refl

    -- of a sound table nothing is written where the buffer has fewer than 1,024 bytes
    pub no_room : length before < 1024 → RowsWritten t before before (record { refusal = 0; fits = false; length = 0 })
    no_room h = record { is = sym (short-reply h); text = sym (short-text h); unchanged = refl; long = refl }

    module _ (h : 1024 ≤ length before) where
      long-reply : rows_reply t (length before) ≡ record { refusal = 0; fits = true; length = length (rows_of t) }
      unfolding rows_reply
      long-reply = rw (y, le-leb 1024 (length before) h) refl

      long-text : cond (writes t (length before)) (rows_of t) [] ≡ rows_of t
      unfolding writes
      long-text = rw (y, le-leb 1024 (length before) h) refl

      rows_are : rows_or_none before 0 t.product.id t ≡ rows_of t
      unfolding rows_or_none has_room
      rows_are = rw (le-leb 1024 (length before) h) refl

      -- of a sound table, with room for 1,024 bytes, all rows stand at the buffer's start
      pub all-rows : (after : List ℕ) (n : ℕ) → RowsIn before after 0 n (rows_or_none before 0 t.product.id t)
          → RowsWritten t before after (record { refusal = 0; fits = true; length = n })
      all-rows after n x =
          let k : n ≡ length (rows_or_none before 0 t.product.id t) = omega (arith, x.to) in
          record {
            is = ap (λ (i : ℕ). record { refusal = 0; fits = true; length = i }) (k ∙ ap length rows_are) ∙ sym long-reply;
            text = x.is ∙ rows_are ∙ sym long-text;
            unchanged = x.unchanged;
            long = x.long;
          }
