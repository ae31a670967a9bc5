-- A product whose opening is refused gets a table of zeros: no call is accepted on the table of zeros, which is not sound.
-- Assumes nothing.
use mathlib.Core.Path.{◌≡◌, refl, ◌∙◌, sym, ap}
use mathlib.Core.Bool.{Bool, true, false}
use mathlib.Core.List.{List, [], ◌∷◌}
use Prim.Native.Nat.{ℕ}
use lib.ListN.{replicate}
use Rattle.questions.specs.Questions.{Answer}
use Rattle.calendar.specs.declared.Calendar.{Calendar}
use Rattle.calendar.specs.Trading.{zero_calendar}
use Rattle.product.specs.Fields.{kind_right}
use Rattle.listing.specs.Rules.{unused}
use Rattle.table.specs.declared.Table.{Table}
use Rattle.table.specs.declared.Outcome.{Outcome}
use Rattle.table_opening.specs.Opening.{asks_in}
use Rattle.table.specs.Table.{sound, zero_table, open_in}
use Rattle.table.proofs.TableQuestions.{roll-10, close-10}
use Rattle.table.proofs.Reopened.{reopen-10}
use Rattle.table_measures.specs.declared.Measured.{Measured}
use Rattle.table_measures.proofs.MeasureQuestions.{measure-10}
use Rattle.history.specs.Book.{Call, roll, close, reopen, measure}
use Rattle.history.specs.History.{table_call, table_run}
use Rattle.delivery_notices.specs.Notices.{Notice}
use Rattle.delivery_tables.specs.Tables.{calls_for}
use Rattle.c_types.specs.declared.FlatTable.{FlatTable}
use Rattle.c_types.specs.Flat.{unflat_product, unflat_table, flat_table}
use Rattle.c_types.proofs.AsItCame.{on-flat, answered-same}
use Rattle.c_delivery.specs.declared.Notices.{Notices}
use Rattle.c_delivery.specs.Delivered.{ready, delivered_by, NoTable}

-- a flat table that stands for the table of zeros: its kind is no kind
abbrev kindless : FlatTable
kindless =
    record {
      product = record { id = replicate 4 0; group = replicate 4 0; market = replicate 4 0; kind = 6; currency = replicate 3 0; size = 0; tick = 0 };
      calendar = zero_calendar;
      date = 0;
      given = 0;
      maturities = replicate 15 unused;
    }

stands : unflat_table kindless ≡ zero_table
unfolding unflat_product zero_table
stands = refl

no_kind : kind_right 6 ≡ false
no_kind = refl

zeros-unsound : sound zero_table ≡ false
zeros-unsound = ap sound (sym stands) ∙ (on-flat kindless).no_kind no_kind

unsound-same : (t : Table) → sound t ≡ false → (c : Call) → (table_call t c).table ≡ t
unsound-same t e (roll date) = ap (λ (o : Outcome). o.table) (roll-10 t date e)
unsound-same t e (close day) = ap (λ (o : Outcome). o.table) (close-10 t day e)
unsound-same t e (reopen day) = ap (λ (o : Outcome). o.table) (reopen-10 t day e)
unsound-same t e (measure p q price) = sym (ap (λ (m : Measured). m.table) (measure-10 t p q price e))

unsound-run : (cs : List Call) (t : Table) → sound t ≡ false → table_run t cs ≡ t
unfolding table_run
unsound-run [] t e = refl
unsound-run (c ∷ cs) t e = ap (λ (u : Table). table_run u cs) (unsound-same t e c) ∙ unsound-run cs t e

refused : (verdict : Answer Calendar) (f id : List ℕ) (date : ℕ) → ((open_in verdict f id date).refusal ≡ 0 → ⊥) → (open_in verdict f id date).table ≡ zero_table
unfolding open_in
refused verdict f id date r = ap (λ (o : Outcome). o.table) (answered-same zero_table (asks_in verdict f id date) _ refl r)

module _ (verdict : Answer Calendar) (f id : List ℕ) (n : Notices) (ns : List Notice) (room : ℕ) where
  by : (b : Bool) → ready n room ≡ b → (open_in verdict f id n.date).table ≡ zero_table
      → (delivered_by (open_in verdict f) id n ns room).table ≡ flat_table zero_table
  unfolding delivered_by
  by true e z = rw (e, z) (ap flat_table (unsound-run (calls_for id ns) zero_table zeros-unsound))
  by false e z = rw e refl

  -- by any verdict on any file, a product whose opening is refused gets a table of zeros
  pub no_table : NoTable verdict f id n ns room
  no_table =
      record { zeros = λ r. by (ready n room) refl (refused verdict f id n.date r) }
