-- The calls of a delivery as programs in other languages make them:
-- a product by its place, the notices of a text, the table of a product after them, its rows, and the lines of refused calls
-- (docs/DELIVERY.md, from which the quotations are).
-- Assumes nothing.
use Rattle.std.specs.Prelude.{ℕ, ◌≡◌, Bool, true, false, ◌&&◌, cond, List, [], map, eqb, leb, length, take, drop}
use Rattle.questions.specs.Questions.{Answer}
use Rattle.calendar.specs.declared.Calendar.{Calendar}
use Rattle.product.specs.declared.Product.{Product}
use Rattle.table.specs.declared.Table.{Table}
use Rattle.table.specs.declared.Outcome.{Outcome}
use Rattle.table.specs.Table.{sound, zero_table, open_call, open_in}
use Rattle.history.specs.Book.{Call}
use Rattle.history.specs.History.{table_run, FromFile}
use Rattle.session_lines.specs.declared.Line.{Line}
use Rattle.delivery_notices.specs.declared.NoticesTaken.{NoticesTaken}
use Rattle.delivery_notices.specs.Notices.{Notice, text_told}
use Rattle.delivery_notices.specs.NoticeLists.{notices_to, notice_held, lists_fit}
use Rattle.delivery_tables.specs.Tables.{calls_for, table_after, refusals_for}
use Rattle.delivery_rows.specs.Delivery.{rows_text, table_rows}
use Rattle.c_types.specs.Flat.{flat_product, flat_table}
use Rattle.c_delivery.specs.declared.ProductReply.{ProductReply}
use Rattle.c_delivery.specs.declared.Notices.{Notices}
use Rattle.c_delivery.specs.declared.FlatDelivered.{FlatDelivered}
use Rattle.c_delivery.specs.declared.TextReply.{TextReply}
use Rattle.c_delivery.specs.declared.TextLine.{TextLine}

-- an answer with a product, which is all zeros with a refusal, flat
abbrev pub product_reply : Answer Product → ProductReply
product_reply a = record { refusal = a.refusal; product = flat_product a.value }

-- nothing but whether there was room, and the number of a bad line
abbrev pub no_notices : Bool → ℕ → Notices
no_notices fits bad = record { fits = fits; date = 0; opened = 0; count = 0; bad = bad }

-- what is said of a text with a bad line, 0 where there is none, its date, the line of its opening and the count of its notices:
-- of one with a bad line, of which 'nothing else is printed', that line's number alone
unfoldable pub said_notices : ℕ → ℕ → ℕ → ℕ → Notices
said_notices bad date opened count =
    cond (eqb bad 0) (record { fits = true; date = date; opened = opened; count = count; bad = 0 }) (no_notices true bad)

-- the same of what the code read
unfoldable pub notices_of : NoticesTaken → Notices
notices_of t = cond t.fits (said_notices t.bad t.date t.opened t.count) (no_notices false 0)

-- what is said of a text of notices where two lists have such lengths; nothing is read where one is too short
unfoldable pub notices_read : List ℕ → ℕ → ℕ → Notices
notices_read text calls ids =
    let t = text_told text in
    cond (lists_fit calls ids) (said_notices t.bad t.date t.opened (length t.notices)) (no_notices false 0)

-- of a text and two lists before and after: the lists hold its notices where there is room and no line is bad, and are untouched without room
pub record NoticesIn (text calls calls' ids ids' : List ℕ) (r : Notices) : Type 0 where
  pub is : r ≡ notices_read text (length calls) (length ids)
  pub held : r.fits ≡ true → r.bad ≡ 0 → notices_to calls' ids' r.count ≡ map notice_held (text_told text).notices
  pub idle : r.fits ≡ false → (calls' ≡ calls) × (ids' ≡ ids)
  pub calls-long : length calls' ≡ length calls
  pub ids-long : length ids' ≡ length ids

-- the notices were read, none of them bad, and a buffer of so many bytes has room for their refusals
unfoldable pub ready : Notices → ℕ → Bool
ready n room = n.fits && (eqb n.bad 0 && leb n.count room)

-- no notice was taken: a table of zeros, which is not sound
abbrev pub not_delivered : FlatDelivered
not_delivered = record { fits = false; refusal = 0; table = flat_table zero_table }

-- the table of a product after the notices, by what an id and a date open
unfoldable pub delivered_by : (List ℕ → ℕ → Outcome) → List ℕ → Notices → List Notice → ℕ → FlatDelivered
delivered_by opening id n ns room =
    cond (ready n room)
    (record {
      fits = true;
      refusal = (opening id n.date).refusal;
      table = flat_table (table_run (opening id n.date).table (calls_for id ns));
    })
    not_delivered

-- of a buffer before and after: it starts with the number of each notice's refusal, or is untouched
pub record DeliveredIn (opening : List ℕ → ℕ → Outcome) (id : List ℕ) (n : Notices) (ns : List Notice) (before after : List ℕ)
    (r : FlatDelivered) : Type 0 where
  pub is : r ≡ delivered_by opening id n ns (length before)
  pub refusals : r.fits ≡ true → take n.count after ≡ refusals_for id (opening id n.date).table ns
  pub unchanged : r.fits ≡ true → drop n.count after ≡ drop n.count before
  pub idle : r.fits ≡ false → after ≡ before
  pub long : length after ≡ length before

-- 'A product whose opening is refused has no table':
-- by any verdict on any file, what is given is a table of zeros
pub record NoTable (verdict : Answer Calendar) (f id : List ℕ) (n : Notices) (ns : List Notice) (room : ℕ) : Type 0 where
  pub zeros : ((open_in verdict f id n.date).refusal ≡ 0 → ⊥) → (delivered_by (open_in verdict f) id n ns room).table ≡ flat_table zero_table

-- the rows of a table, with its product's id
abbrev pub rows_of : Table → List ℕ
rows_of t = rows_text (table_rows t.product.id t)

-- they are written where the table is sound and a buffer of so many bytes has room for any table's
unfoldable pub writes : Table → ℕ → Bool
writes t room = sound t && leb 1024 room

-- what is answered: 10 of a table that is not sound
unfoldable pub rows_reply : Table → ℕ → TextReply
rows_reply t room =
    cond (sound t) (record { refusal = 0; fits = leb 1024 room; length = length (cond (leb 1024 room) (rows_of t) []) })
    (record { refusal = 10; fits = false; length = 0 })

-- of a buffer before and after: the rows stand at its start, and nothing else is changed
pub record RowsWritten (t : Table) (before after : List ℕ) (r : TextReply) : Type 0 where
  pub is : r ≡ rows_reply t (length before)
  pub text : take r.length after ≡ cond (writes t (length before)) (rows_of t) []
  pub unchanged : drop r.length after ≡ drop r.length before
  pub long : length after ≡ length before

-- a line, flat
abbrev pub text_line : Line → TextLine
text_line l = record { bytes = l.bytes; length = l.length }

-- of a file, a text of notices and a product of the file with an accepted opening:
-- the table that is given is the one of demand 3 with the notices as its list, and demand 3 holds of it
pub record OfDemand3 (f text id : List ℕ) (n : Notices) (ns : List Notice) (room : ℕ) : Type 0 where
  pub table : (delivered_by (open_call f) id n ns room).table ≡ flat_table (table_after f id (text_told text).date (text_told text).notices)
  pub refusals : refusals_for id (open_call f id n.date).table ns ≡ refusals_for id (open_call f id (text_told text).date).table (text_told text).notices
  pub history : (ds : List Call) → FromFile f id (text_told text).date (calls_for id (text_told text).notices) ds
  -- it is sound, so its rows are written
  pub is-sound : sound (table_after f id (text_told text).date (text_told text).notices) ≡ true
