-- The table that is given after a text of notices is that of demand 3 with the notices as its list.
-- The lists hold the notices, and a notice as it is held answers as the notice.
-- Assumes nothing.
use mathlib.Core.Path.{◌≡◌, refl, ◌∙◌, ap}
use mathlib.Core.Bool.{true, ◌&&◌}
use mathlib.Core.List.{List, [], map}
use Prim.Native.Nat.{ℕ}
use lib.Dec.{eqb, leb}
use lib.ListN.{length}
use borrow.Author.Tests.{eqb-true}
use Rattle.questions.proofs.Bools.{both}
use Rattle.table.specs.declared.Table.{Table}
use Rattle.table.specs.Table.{sound, open_call}
use Rattle.history.specs.History.{table_run, FromFile}
use Rattle.history.proofs.FromFile.{from-file}
use Rattle.delivery_notices.specs.Notices.{Notice, text_told}
use Rattle.delivery_notices.specs.NoticeLists.{notices_to, notice_held}
use Rattle.delivery_tables.specs.Tables.{calls_for, refusals_for}
use Rattle.delivery_tables.proofs.CallsHeld.{run-same, refusals-same}
use Rattle.c_types.specs.Flat.{flat_table}
use Rattle.c_delivery.specs.declared.Notices.{Notices}
use Rattle.c_delivery.specs.Delivered.{ready, delivered_by, NoticesIn, OfDemand3}
use Rattle.c_delivery.proofs.NoticesSaid.{read-good}

module _ (n : Notices) (room : ℕ) (e : ready n room ≡ true) where
  ready-parts : (n.fits ≡ true) × (n.bad ≡ 0)
  unfolding ready
  ready-parts =
      let a : (n.fits ≡ true) × ((eqb n.bad 0 && leb n.count room) ≡ true) = both n.fits (eqb n.bad 0 && leb n.count room) e in
      (a.0, eqb-true n.bad 0 (both (eqb n.bad 0) (leb n.count room) a.1).0)

  ready-table : (f id : List ℕ) (ns : List Notice)
      → (delivered_by (open_call f) id n ns room).table ≡ flat_table (table_run (open_call f id n.date).table (calls_for id ns))
  unfolding delivered_by
  ready-table f id ns = rw e refl

module _ (f text id calls calls' ids ids' : List ℕ) (n : Notices) (room : ℕ) (x : NoticesIn text calls calls' ids ids' n) (e : ready n room ≡ true)
    (opens : (open_call f id (text_told text).date).refusal ≡ 0) where
  abbrev ns : List Notice
  ns = notices_to calls' ids' n.count

  are : ns ≡ map notice_held (text_told text).notices
  are = let p = ready-parts n room e in x.held p.0 p.1

  date-is : n.date ≡ (text_told text).date
  date-is = let p = ready-parts n room e in (read-good text (length calls) (length ids) n x.is p.0 p.1).0

  -- of every list of notices that stand for those of the text, the run is that of the text
  runs : (t : Table) → table_run t (calls_for id ns) ≡ table_run t (calls_for id (text_told text).notices)
  runs t = ap (λ (l : List Notice). table_run t (calls_for id l)) are ∙ run-same id t (text_told text).notices

  refuses : (t : Table) → refusals_for id t ns ≡ refusals_for id t (text_told text).notices
  refuses t = ap (refusals_for id t) are ∙ refusals-same id t (text_told text).notices

  -- with an accepted opening the table given is that of demand 3 with the notices as its list, of which demand 3 holds
  pub of-demand-3 : OfDemand3 f text id n ns room
  of-demand-3 =
      let h : FromFile f id (text_told text).date (calls_for id (text_told text).notices) [] = from-file f id (text_told text).date opens
      (calls_for id (text_told text).notices) [] in
      record {
        table =
            ready-table n room e f id ns
            ∙ ap (λ (d : ℕ). flat_table (table_run (open_call f id d).table (calls_for id ns))) date-is
            ∙ ap flat_table (runs (open_call f id (text_told text).date).table);
        refusals =
            ap (λ (d : ℕ). refusals_for id (open_call f id d).table ns) date-is ∙ refuses (open_call f id (text_told text).date).table;
        history = λ ds. from-file f id (text_told text).date opens (calls_for id (text_told text).notices) ds;
        is-sound = ap (λ (t : Table). sound (table_run t (calls_for id (text_told text).notices))) h.opened ∙ h.demand.stays-sound;
      }
