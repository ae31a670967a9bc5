-- A line taken by the code is the definition's: what the code counts is what the definition lists.
-- Assumes nothing.
use mathlib.Core.Path.{◌≡◌, refl, ◌∙◌, sym, ap}
use mathlib.Core.Bool.{Bool, true, false, not, ◌&&◌, cond, beq}
use mathlib.Core.List.{List, [], ◌∷◌, ◌++◌, append-nil}
use Prim.Native.Nat.{ℕ, ◌+◌, ◌*◌, ◌≤◌, ◌<◌}
use native.Mathlib.Omega.{arith}
use lib.Dec.{eqb, leb, ltb}
use lib.ListN.{length, take}
use borrow.Author.Tests.{ne_eqb, ltb-true, ltb-false, lt-ltb, le-ltb, leb-true}
use Rattle.questions.proofs.Bools.{both}
use Rattle.file_text_read.specs.Lists.{next_line}
use Rattle.delivery_items.specs.declared.ItemRead.{ItemRead}
use Rattle.delivery_items.specs.declared.LineRead.{LineRead}
use Rattle.delivery_items.specs.declared.LongLine.{LongLine}
use Rattle.delivery_items.specs.Items.{fields_of, field_at, no_item, maturity_read, key_read, short_item, full_item, fields_item, item_of, headed, line_read, held_read}
use Rattle.delivery_lines.specs.NoticeLines.{trimmed, is_id}
use Rattle.confirm_lines.specs.ListingLines.{date_in}
use Rattle.file_text_lines.specs.declared.NumberRead.{NumberRead}
use Rattle.file_text_lines.specs.Entries.{word_number, id_bytes}
use Rattle.product.specs.declared.Product.{Product}
use Rattle.product.specs.Fields.{is_weekly}
use Rattle.file_load.specs.declared.Found.TheVariants.{At, Nothing}
use Rattle.file_load.specs.Products.{product_at}
use Rattle.file_load.specs.Load.{find_call, find_answer}
use Rattle.delivery_products.proofs.IdFound.{find-there, find-product, find_none}
use Rattle.delivery_receipts.specs.declared.Receiving.{Receiving}
use Rattle.delivery_receipts.specs.Receipts.{received_of, form_fits, Sort, ended, empty, heading, bad, too_many, good, sort_of, line_brought, line_received}
use Rattle.delivery_receipts.specs.Receiving.{Lists, received_to, room_in, RowStored, state_brought, receiving, told_of, receipt_in, RowLineIn}
use Rattle.delivery_receipts.proofs.RowsStored.{received-long, stored_more, stored-lengths}

-- the number of a line is not 0
next-some : (n : ℕ) → eqb (next_line n) 0 ≡ false
unfolding next_line
next-some n = go (ltb n 999999999) refl
  where
    go : (b : Bool) → ltb n 999999999 ≡ b → eqb (cond b (n + 1) n) 0 ≡ false
    go true e = ne_eqb (n + 1) 0 (λ z. omega arith)
    go false e = ne_eqb n 0 (λ z. omega (arith, ltb-false n 999999999 e))

told-bad : (bads : List ℕ) (n : ℕ) → bads ++ told_of (next_line n) ≡ bads ++ (next_line n ∷ [])
told-bad bads n = rw (next-some n) refl

-- a sort that brings no row
no-row : (k : Sort) (s : Receiving) (b : Lists) (item : ItemRead) (bads : List ℕ) → (state_brought k s).rows ≡ s.rows
    → receipt_in (state_brought k s) b (bads ++ told_of (state_brought k s).bad) ≡ line_brought k (receipt_in s b bads) item
unfolding state_brought line_brought
no-row ended s b item bads e = rw (append-nil bads) refl
no-row empty s b item bads e = rw (append-nil bads) refl
no-row heading s b item bads e = rw (append-nil bads) refl
no-row bad s b item bads e = rw (told-bad bads s.lines) refl
no-row too_many s b item bads e = rw (told-bad bads s.lines) refl
no-row good s b item bads e = absurd (omega arith)

-- the one that does
is-good : (k : Sort) (s : Receiving) → ((state_brought k s).rows ≡ s.rows → ⊥) → k ≡ good
unfolding state_brought
is-good ended s n = absurd (n refl)
is-good empty s n = absurd (n refl)
is-good heading s n = absurd (n refl)
is-good bad s n = absurd (n refl)
is-good too_many s n = absurd (n refl)
is-good good s n = refl

good-row : (s : Receiving) (b a : Lists) (item : ItemRead) (bads : List ℕ) → received_to a (s.rows + 1) ≡ received_to b s.rows ++ (received_of item ∷ [])
    → receipt_in (state_brought good s) a (bads ++ told_of (state_brought good s).bad) ≡ line_brought good (receipt_in s b bads) item
unfolding state_brought line_brought
good-row s b a item bads e = rw (append-nil bads, e) refl

-- a good row has room
pub good-room : (room : ℕ) (f : List ℕ) (over begun : Bool) (count : ℕ) (r : LineRead) → sort_of room f over begun count r ≡ good → count < room
unfolding sort_of
good-room room f over begun count r e = go over r.empty (not begun && r.heading) (r.item.there && form_fits f r.item) (ltb count room) refl e
  where
    code : Sort → ℕ
    code ended = 0
    code empty = 1
    code heading = 2
    code bad = 3
    code too_many = 4
    code good = 5

    go : (o m h g t : Bool) → ltb count room ≡ t → cond o ended (cond m empty (cond h heading (cond g (cond t good too_many) bad))) ≡ good → count < room
    go true m h g t q e = absurd (omega (arith, ap code e))
    go false true h g t q e = absurd (omega (arith, ap code e))
    go false false true g t q e = absurd (omega (arith, ap code e))
    go false false false false t q e = absurd (omega (arith, ap code e))
    go false false false true false q e = absurd (omega (arith, ap code e))
    go false false false true true q e = ltb-true count room q

-- with room the lists are long enough
pub record Roomy (i : ℕ) (a : Lists) : Type 0 where
  -- the list of ids has room for the four bytes of row i
  pub ids : 4 * i + 4 ≤ length a.ids
  -- the list of keys has room for row i
  pub keys : i < length a.keys
  -- the list of days has room for row i
  pub days : i < length a.days
  -- the list that marks rows of five fields has room for row i
  pub fulls : i < length a.fulls
  -- the list of listing numbers has room for row i
  pub numbers : i < length a.numbers
  -- the list of days back has room for row i
  pub backs : i < length a.backs

-- where a row is below the room of the lists, each of the six has room for it
pub roomy : (i : ℕ) (a : Lists) → i < room_in a → Roomy i a
unfolding room_in
roomy i a h =
    go (leb 262144 (length a.ids) && (leb 65536 (length a.keys)
    && (leb 65536 (length a.days) && (leb 65536 (length a.fulls) && (leb 65536 (length a.numbers) && leb 65536 (length a.backs)))))) refl h
  where
    go : (t : Bool) → (leb 262144 (length a.ids)
        && (leb 65536 (length a.keys) && (leb 65536 (length a.days)
        && (leb 65536 (length a.fulls) && (leb 65536 (length a.numbers) && leb 65536 (length a.backs)))))) ≡ t → i < cond t 65536 0 → Roomy i a
    go false e l = absurd (omega arith)
    go true e l =
        let (x, p) = both (leb 262144 (length a.ids))
        (leb 65536 (length a.keys) && (leb 65536 (length a.days)
        && (leb 65536 (length a.fulls) && (leb 65536 (length a.numbers) && leb 65536 (length a.backs))))) e in
        let (y, q) = both (leb 65536 (length a.keys))
        (leb 65536 (length a.days) && (leb 65536 (length a.fulls) && (leb 65536 (length a.numbers) && leb 65536 (length a.backs)))) p in
        let (z, r) = both (leb 65536 (length a.days))
        (leb 65536 (length a.fulls) && (leb 65536 (length a.numbers) && leb 65536 (length a.backs))) q in
        let (u, v) = both (leb 65536 (length a.fulls)) (leb 65536 (length a.numbers) && leb 65536 (length a.backs)) r in
        let (w, t) = both (leb 65536 (length a.numbers)) (leb 65536 (length a.backs)) v in
        record {
          ids = omega (arith, leb-true 262144 (length a.ids) x);
          keys = omega (arith, leb-true 65536 (length a.keys) y);
          days = omega (arith, leb-true 65536 (length a.days) z);
          fulls = omega (arith, leb-true 65536 (length a.fulls) u);
          numbers = omega (arith, leb-true 65536 (length a.numbers) w);
          backs = omega (arith, leb-true 65536 (length a.backs) t);
        }

module _ (f : List ℕ) (s : Receiving) (l : LongLine) (b : Lists) (read : LineRead) (e : read ≡ held_read l) (r : Receiving)
    (q : r ≡ receiving (room_in b) f s read) where
  abbrev sort : Sort
  sort = sort_of (room_in b) f s.over s.begun s.rows read

  brought : r ≡ state_brought (sort_of (room_in b) f s.over s.begun s.rows read) s
  unfolding receiving
  brought = q

  received : (bads : List ℕ) → line_received (room_in b) f (receipt_in s b bads) (held_read l)
      ≡ line_brought (sort_of (room_in b) f s.over s.begun s.rows read) (receipt_in s b bads) read.item
  unfolding line_received
  received bads = rw (← e, received-long b s.rows) refl

  -- a line that adds no row leaves the lists as they are, and is received as defined
  pub none-stored : r.rows ≡ s.rows → RowLineIn f s l b b r
  none-stored n =
      record {
        is = λ bads. ap (λ (x : Receiving). receipt_in x b (bads ++ told_of x.bad)) brought ∙
            no-row sort s b read.item bads (sym (ap (λ (x : Receiving). x.rows) brought) ∙ n) ∙ sym (received bads);
        lengths = record { ids = refl; keys = refl; days = refl; fulls = refl; numbers = refl; backs = refl };
      }

  module _ (n : r.rows ≡ s.rows → ⊥) where
    it-is-good : sort_of (room_in b) f s.over s.begun s.rows read ≡ good
    it-is-good = is-good sort s (λ z. n (ap (λ (x : Receiving). x.rows) brought ∙ z))

    -- a line that adds a row has room for it in the six lists
    pub has_room : Roomy s.rows b
    has_room = roomy s.rows b (good-room (room_in b) f s.over s.begun s.rows read it-is-good)

    -- a line that adds a row is received as defined once its row is stored in the lists
    pub one-stored : (a : Lists) → RowStored s.rows read.item b a → length read.item.id ≡ 4 → RowLineIn f s l b a r
    one-stored a st four =
        let h = has_room in
        record {
          is = λ bads. ap (λ (x : Receiving). receipt_in x a (bads ++ told_of x.bad)) (brought ∙ ap (λ (k : Sort). state_brought k s) it-is-good)
              ∙ good-row s b a read.item bads (stored_more s.rows read.item b a st h.ids h.keys h.days h.fulls h.numbers
              h.backs four)
              ∙ sym (received bads ∙ ap (λ (k : Sort). line_brought k (receipt_in s b bads) read.item) it-is-good);
          lengths = stored-lengths s.rows read.item b a st h.ids h.keys h.days h.fulls h.numbers h.backs;
        }

-- ---- the state after a line, test by test

module _ (room : ℕ) (f : List ℕ) (s : Receiving) (read : LineRead) where
  -- after the end of reading a line changes nothing, and is not told as bad
  pub is-ended : s.over ≡ true → record { rows = s.rows; begun = s.begun; lines = s.lines; over = s.over; bad = 0 } ≡ receiving room f s read
  unfolding receiving sort_of state_brought
  is-ended o = rw o refl

  module _ (lines : ℕ) (n : lines ≡ next_line s.lines) (o : s.over ≡ false) where
    -- an empty line is counted and adds nothing else
    pub is-empty : read.empty ≡ true → record { rows = s.rows; begun = s.begun; lines = lines; over = false; bad = 0 } ≡ receiving room f s read
    unfolding receiving sort_of state_brought
    is-empty e = rw (n, o, e) refl

    module _ (e : read.empty ≡ false) where
      -- a heading, as the first line that is not empty, is counted and adds no row
      pub is-heading : (not s.begun && read.heading) ≡ true
          → record { rows = s.rows; begun = true; lines = lines; over = false; bad = 0 } ≡ receiving room f s read
      unfolding receiving sort_of state_brought
      is-heading h = rw (n, o, e, h) refl

      module _ (h : (not s.begun && read.heading) ≡ false) (fits : Bool) (p : fits ≡ form_fits f read.item) where
        -- a line without a row, or with a maturity of the wrong form, is bad and told by its number
        pub is-bad : (read.item.there && fits) ≡ false
            → record { rows = s.rows; begun = true; lines = lines; over = false; bad = lines } ≡ receiving room f s read
        unfolding receiving sort_of state_brought
        is-bad g = rw (n, o, e, h, ← p, g) refl

        -- a line with a row that fits adds a row, where there is room
        pub is_row : (read.item.there && fits) ≡ true → s.rows < room
            → record { rows = s.rows + 1; begun = true; lines = lines; over = false; bad = 0 } ≡ receiving room f s read
        unfolding receiving sort_of state_brought
        is_row g l = rw (n, o, e, h, ← p, g, lt-ltb s.rows room l) refl

        -- a line with a row that fits, but without room, is bad, and reading ends
        pub is-too-many : (read.item.there && fits) ≡ true → room ≤ s.rows
            → record { rows = s.rows; begun = true; lines = lines; over = true; bad = lines } ≡ receiving room f s read
        unfolding receiving sort_of state_brought
        is-too-many g l = rw (n, o, e, h, ← p, g, le-ltb s.rows room l) refl

-- ---- the form of a maturity

same_bool : (a b : Bool) → beq a b ≡ cond a b (not b)
same_bool true true = refl
same_bool true false = refl
same_bool false true = refl
same_bool false false = refl

-- of an id in the file the form of a maturity fits exactly where it is of the product's sort
pub form-here : (f : List ℕ) (item : ItemRead) (block place : ℕ) → find_answer (At block place) ≡ find_call f item.id → (p : Product)
    → p ≡ product_at f block place → (w : Bool) → w ≡ is_weekly p.kind → beq w item.weekly ≡ form_fits f item
unfolding form_fits
form-here f item block place e p q w v =
    same_bool w item.weekly ∙ rw (v, q, find-product f item.id block place e, find-there f item.id block place e) refl

-- of an id that is not in the file both forms of a maturity fit
pub form-none : (f : List ℕ) (item : ItemRead) → find_answer Nothing ≡ find_call f item.id → true ≡ form_fits f item
unfolding form_fits
form-none f item e = rw (find_none f item.id e) refl

-- ---- an id has four bytes

short-four : (a b c : List ℕ) → length (short_item a b c).id ≡ 4
unfolding short_item id_bytes
short-four a b c = go (is_id a && (not (eqb (maturity_read b).letter 0) && not (eqb (date_in c).letter 0)))
  where
    go : (t : Bool) → length (cond {A = ItemRead} t
        (record {
          there = true;
          id = id_bytes a;
          weekly = not (eqb (length b) 7);
          key = key_read b (maturity_read b).day;
          day = (date_in c).day;
          full =
              false;
          number = 0;
          back = 0;
        }) no_item).id ≡ 4
    go true = refl
    go false = refl

full-four : (item : ItemRead) (x y : NumberRead) → length item.id ≡ 4 → length (full_item item x y).id ≡ 4
unfolding full_item
full-four item x y h = go (item.there && (x.there && y.there))
  where
    go : (t : Bool) → length (cond {A = ItemRead} t
        (record { there = true; id = item.id; weekly = item.weekly; key = item.key; day = item.day; full = true; number = x.value; back = y.value })
        no_item).id ≡ 4
    go true = h
    go false = refl

pick-four : (t : Bool) (a b : ItemRead) → length a.id ≡ 4 → length b.id ≡ 4 → length (cond t a b).id ≡ 4
pick-four true a b p q = p
pick-four false a b p q = q

item-four : (text : List ℕ) → length (item_of text).id ≡ 4
unfolding item_of fields_item
item-four text =
    pick-four (leb (length text) 255) (fields_item text) no_item
    (pick-four (eqb (length (fields_of text)) 3) (short_item (field_at text 0) (field_at text 1) (field_at text 2))
    (cond (eqb (length (fields_of text)) 5)
    (full_item (short_item (field_at text 0) (field_at text 2) (field_at text 3)) (word_number (field_at text 1) 65535) (word_number (field_at text 4) 65535))
    no_item)
    (short-four (field_at text 0) (field_at text 1) (field_at text 2))
    (pick-four (eqb (length (fields_of text)) 5)
    (full_item (short_item (field_at text 0) (field_at text 2) (field_at text 3)) (word_number (field_at text 1) 65535) (word_number (field_at text 4) 65535)) no_item
    (full-four (short_item (field_at text 0) (field_at text 2) (field_at text 3)) (word_number (field_at text 1) 65535) (word_number (field_at text 4) 65535)
    (short-four (field_at text 0) (field_at text 2) (field_at text 3))) refl)) refl

-- the id of a line that is read has four bytes
pub held-four : (l : LongLine) (read : LineRead) → read ≡ held_read l → length read.item.id ≡ 4
unfolding held_read line_read
held-four l read e = rw e (go l.over)
  where
    go : (b : Bool) → length (cond {A = LineRead} b (record { empty = false; heading = headed (take l.length l.bytes); item = no_item })
        (record {
          empty = eqb (length (trimmed (take l.length l.bytes))) 0;
          heading = headed (trimmed (take l.length l.bytes));
          item =
              item_of (trimmed (take l.length l.bytes));
        })).item.id ≡ 4
    go true = refl
    go false = item-four (trimmed (take l.length l.bytes))

-- the room of six lists
pub room-is : (a : Lists) (r : ℕ) → r ≡ cond
    (leb 262144 (length a.ids) && (leb 65536 (length a.keys)
    && (leb 65536 (length a.days) && (leb 65536 (length a.fulls) && (leb 65536 (length a.numbers) && leb 65536 (length a.backs)))))) 65536 0
    → r ≡ room_in a
unfolding room_in
room-is a r e = e
