-- What the code holds of a product is what is known of it: found in the file, and delivered by a verdict and two lists.
-- Assumes nothing.
use mathlib.Core.Path.{◌≡◌, refl, ◌∙◌, sym, ap}
use mathlib.Core.Bool.{Bool, true, false, ◌&&◌, cond}
use mathlib.Core.List.{List, [], map}
use Prim.Native.Nat.{ℕ, ◌≤◌}
use lib.Dec.{leb}
use lib.ListN.{length}
use borrow.Author.Tests.{le-leb}
use Rattle.std.specs.Option.{is_some, unwrap_or}
use Rattle.std.proofs.Common.{Option, Some, None}
use Rattle.product.specs.declared.Product.{Product}
use Rattle.product.specs.Fields.{is_weekly}
use Rattle.file_calendar.specs.declared.FileCalendar.{FileCalendar}
use Rattle.file_calendar.specs.Calendars.{calendar_answer}
use Rattle.file_load.specs.declared.Found.TheVariants.{At, Nothing}
use Rattle.file_load.specs.Products.{product_at}
use Rattle.file_load.specs.Load.{found, find_call, find_answer, product_of, judge_call}
use Rattle.table.specs.declared.Table.{Table}
use Rattle.table.specs.declared.Outcome.{Outcome}
use Rattle.table.specs.Table.{open_call, open_in}
use Rattle.table.proofs.Opens.{open_is}
use Rattle.history.specs.History.{table_run}
use Rattle.delivery_products.proofs.IdFound.{find-there, find-product, find_none}
use Rattle.delivery_notices.specs.declared.NoticesTaken.{NoticesTaken}
use Rattle.delivery_notices.specs.Notices.{NoticesTold}
use Rattle.delivery_notices.specs.NoticeLists.{notices_to, notice_held}
use Rattle.delivery_tables.specs.declared.Delivered.{Delivered}
use Rattle.delivery_tables.specs.Tables.{calls_for, Delivers}
use Rattle.delivery_tables.proofs.CallsHeld.{run-same}
use Rattle.delivery_parts.proofs.Wholes.{notices-length}
use Rattle.delivery_queries.specs.Queries.{standing_of, standing_by, standing_in}

-- ---- the file

module _ (f id : List ℕ) where
  -- an id that the file has at a place is that of a product, which is weekly exactly where its kind is
  pub known-here : (block place : ℕ) → find_answer (At block place) ≡ find_call f id → (p : Product) → p ≡ product_at f block place → (weekly : Bool)
      → weekly ≡ is_weekly p.kind → Some weekly ≡ cond (found f id) (Some (is_weekly (product_of f id).kind)) None
  known-here block place e p q weekly w =
      let t = find-there f id block place e in
      rw (t, ← find-product f id block place e, ← q) (ap Some w)

  -- an id that the file has at no place is that of none
  pub known-not : find_answer Nothing ≡ find_call f id → None ≡ cond (found f id) (Some (is_weekly (product_of f id).kind)) None
  known-not e = let n = find_none f id e in rw n refl

-- a product is there where it is known whether it is weekly, and only one that is there is weekly
known_is : (there weekly : Bool) → is_some (cond there (Some weekly) None) ≡ there
known_is true weekly = refl
known_is false weekly = refl

weekly-is : (there weekly : Bool) → unwrap_or (cond there (Some weekly) None) false ≡ (there && weekly)
weekly-is true weekly = refl
weekly-is false weekly = refl

-- ---- the table

no-calls : (t : Table) (id : List ℕ) → t ≡ table_run t (calls_for id [])
unfolding table_run calls_for
no-calls t id = refl

module _ (judged : FileCalendar) (f : List ℕ) (t : NoticesTaken) (calls ids : List ℕ) (before after : List ℕ) (id : List ℕ) where
  opening : List ℕ → ℕ → Outcome
  opening = open_in (calendar_answer judged) f

  table_is : (d : Delivered) → Delivers (open_in (calendar_answer judged) f) id t.date (notices_to calls ids t.count) before after d
      → d.table ≡ table_run (open_in (calendar_answer judged) f id t.date).table (calls_for id (cond (leb t.count (length before))
      (notices_to calls ids t.count) []))
  table_is d m = go d.fits refl
    where
      fits : d.fits ≡ leb t.count (length before)
      fits = m.fits ∙ ap (λ (n : ℕ). leb n (length before)) (notices-length calls ids t.count)

      go : (b : Bool) → d.fits ≡ b → d.table
          ≡ table_run (open_in (calendar_answer judged) f id t.date).table (calls_for id (cond (leb t.count (length before)) (notices_to calls ids
          t.count) []))
      go true e = rw (sym fits ∙ e) (m.made e).table
      go false e = rw (sym fits ∙ e) ((m.idle e).0 ∙ no-calls (open_in (calendar_answer judged) f id t.date).table id)

  -- what is found of an id in the file and delivered of its table is what is known of the product
  pub stands : (w : Option Bool) (d : Delivered) → w ≡ cond (found f id) (Some (is_weekly (product_of f id).kind)) None
      → (known weekly : Bool) → known ≡ is_some w → weekly ≡ unwrap_or w false
      → Delivers (open_in (calendar_answer judged) f) id t.date (notices_to calls ids t.count) before after d
      → record { known = known; weekly = weekly; refusal = d.refusal; table = d.table } ≡ standing_in judged f t calls ids (length before) id
  unfolding standing_in standing_by
  stands w d e known weekly k v m =
      rw (
        rw e at k ∙ known_is (found f id) (is_weekly (product_of f id).kind),
        rw e at v ∙ weekly-is (found f id) (is_weekly (product_of f id).kind),
        m.refusal,
        table_is d m,
      ) refl

-- ---- by the file's own verdict, and by the notices of a text

-- by the file's own verdict, and with room for the refusals, what the lists hold of a product is what is known of it
pub standing-own : (judged : FileCalendar) (f : List ℕ) (t : NoticesTaken) (calls ids : List ℕ) (room : ℕ) (told : NoticesTold) → calendar_answer judged
    ≡ judge_call f → t.count ≤ room
    → t.date ≡ told.date → notices_to calls ids t.count ≡ map notice_held told.notices
    → (id : List ℕ) → standing_in judged f t calls ids room id ≡ standing_of f told.date told.notices id
unfolding standing_in standing_by standing_of
standing-own judged f t calls ids room told v h d n id =
    rw (v, le-leb t.count room h, d, n, open_is f id told.date, run-same id (open_call f id told.date).table told.notices) refl
