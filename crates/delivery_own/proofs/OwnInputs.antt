-- Every row of any input has a key of 16 bits: it is a month, or a day of 2000 to 2099.
-- Assumes nothing.
use mathlib.Core.Path.{◌≡◌, refl, ◌∙◌}
use mathlib.Core.List.{List, [], ◌∷◌, ◌++◌}
use mathlib.Core.Bool.{Bool, true, false, not, ◌&&◌, cond}
use Prim.Native.Nat.{ℕ, ◌+◌, ◌≤◌, ◌<◌}
use native.Mathlib.Nat.{zero-add}
use native.Mathlib.Omega.{arith}
use lib.Dec.{eqb, leb}
use lib.ListN.{length, get_or, replicate}
use borrow.Author.Tests.{ne_eqb}
use Rattle.questions.specs.Questions.{Answer}
use Rattle.days.specs.Dates.{month_of, valid_date, day_of, day_call}
use Rattle.days.proofs.MonthOfDay.{month-most}
use Rattle.days.proofs.Dates.{valid-facts, day-fits, day-accepted, day-refused}
use Rattle.file_load.specs.Products.{same_id}
use Rattle.session_lines.specs.declared.Command.{Command}
use Rattle.session_lines.specs.declared.DateRead.{DateRead}
use Rattle.session_lines.specs.CommandLines.{lines_from, year_at, two_value, no_date_read, date_form, date_at, other_line, move_form, move_command, command_at, command_of}
use Rattle.file_text_lines.specs.declared.NumberRead.{NumberRead}
use Rattle.file_text_lines.specs.Entries.{word_number, id_bytes}
use Rattle.table_vendor.specs.Vendor.{times, Short}
use Rattle.confirm_lines.specs.ListingLines.{date_in, month_in}
use Rattle.delivery_lines.specs.NoticeLines.{trimmed, unmarked, is_id}
use Rattle.delivery_items.specs.declared.ItemRead.{ItemRead}
use Rattle.delivery_items.specs.Items.{fields_of, field_at, no_item, maturity_read, key_read, short_item, full_item, fields_item, item_of, line_read}
use Rattle.delivery_differences.specs.Differences.{row_entries}
use Rattle.delivery_receipts.specs.Receipts.{Received, Receipt, no_receipt, received_of, Sort, ended, empty, heading, bad, too_many, good, sort_of, line_brought}
use Rattle.delivery_receipts.specs.Receipts.{line_received, lines_received, receipt_of}
use Rattle.delivery_receipts.specs.Receiving.{rows_for}

-- ---- a line

call_below : (y m d : ℕ) → (day_call y m d).value < 36525
unfolding day_of
call_below y m d = go (valid_date y m d) refl
  where
    go : (b : Bool) → valid_date y m d ≡ b → (day_call y m d).value < 36525
    go true e = rw (day-accepted y m d e) (omega (arith, day-fits y m d (valid-facts y m d e)))
    go false e = rw (day-refused y m d e) (omega arith)

date-below : (line : ℕ → ℕ) (at : ℕ) → (date_at line at).day < 36525
unfolding date_at
date-below line at = go (date_form line at) (eqb (day_call (year_at line at) (two_value line (at + 5)) (two_value line (at + 8))).refusal 0)
  where
    call : Answer ℕ
    call = day_call (year_at line at) (two_value line (at + 5)) (two_value line (at + 8))

    go : (a b : Bool) → (cond {A = DateRead} a (cond b (record { there = true; day = call.value }) no_date_read) no_date_read).day < 36525
    go true true = call_below (year_at line at) (two_value line (at + 5)) (two_value line (at + 8))
    go true false = omega arith
    go false b = omega arith

move-below : (line : ℕ → ℕ) (n : ℕ) → (move_command line n).day < 36525
unfolding move_command
move-below line n = go (move_form line n && (date_at line 2).there)
  where
    go : (b : Bool) → (cond {A = Command} b (record { letter = line 0; id = replicate 4 0; day = (date_at line 2).day }) other_line).day < 36525
    go true = date-below line 2
    go false = omega arith

day-below : (word : List ℕ) → (date_in word).day < 36525
unfolding date_in command_of command_at
day-below word = move-below (λ i. get_or (82 ∷ 32 ∷ word) i 0) (length (82 ∷ 32 ∷ word))

key_below : (name : List ℕ) → key_read name (maturity_read name).day < 65536
unfolding key_read maturity_read
key_below name = go (eqb (length name) 7)
  where
    go : (b : Bool) → cond b (month_of (cond {A = Command} b (month_in name) (date_in name)).day) (cond {A = Command} b (month_in name) (date_in name)).day < 65536
    go true = omega (arith, month-most (month_in name).day)
    go false = omega (arith, day-below name)

short-below : (id name last : List ℕ) → (short_item id name last).key < 65536
unfolding short_item
short-below id name last = go (is_id id && (not (eqb (maturity_read name).letter 0) && not (eqb (date_in last).letter 0)))
  where
    go : (b : Bool)
        → (cond {A = ItemRead} b
        (record {
          there = true;
          id = id_bytes id;
          weekly = not (eqb (length name) 7);
          key = key_read name (maturity_read name).day;
          day = (date_in last).day;
          full = false;
          number = 0;
          back = 0;
        })
        no_item).key < 65536
    go true = key_below name
    go false = omega arith

full-below : (item : ItemRead) (number back : NumberRead) → item.key < 65536 → (full_item item number back).key < 65536
unfolding full_item
full-below item number back h = go (item.there && (number.there && back.there))
  where
    go : (b : Bool)
        → (cond {A = ItemRead} b
        (record {
          there = true;
          id = item.id;
          weekly = item.weekly;
          key = item.key;
          day = item.day;
          full = true;
          number = number.value;
          back = back.value;
        })
        no_item).key < 65536
    go true = h
    go false = omega arith

fields-below : (text : List ℕ) → (fields_item text).key < 65536
unfolding fields_item
fields-below text = go (eqb (length (fields_of text)) 3) (eqb (length (fields_of text)) 5)
  where
    three : ItemRead
    three = short_item (field_at text 0) (field_at text 1) (field_at text 2)

    five : ItemRead
    five = full_item (short_item (field_at text 0) (field_at text 2) (field_at text 3)) (word_number (field_at text 1) 65535) (word_number (field_at text 4) 65535)

    go : (a b : Bool) → (cond {A = ItemRead} a three (cond b five no_item)).key < 65536
    go true b = short-below (field_at text 0) (field_at text 1) (field_at text 2)
    go false true =
        full-below (short_item (field_at text 0) (field_at text 2) (field_at text 3)) (word_number (field_at text 1) 65535) (word_number (field_at text 4) 65535)
        (short-below (field_at text 0) (field_at text 2) (field_at text 3))
    go false false = omega arith

line-below : (line : List ℕ) → (line_read line).item.key < 65536
unfolding line_read item_of
line-below line = go (leb (length (trimmed line)) 255)
  where
    go : (b : Bool) → (cond {A = ItemRead} b (fields_item (trimmed line)) no_item).key < 65536
    go true = fields-below (trimmed line)
    go false = omega arith

-- ---- all lines

data AllBelow : List Received → Type 0 where
  nil : AllBelow []
  one : {x : Received} {xs : List Received} → x.row.key < 65536 → AllBelow xs → AllBelow (x ∷ xs)

below_more : {xs : List Received} (x : Received) → AllBelow xs → x.row.key < 65536 → AllBelow (xs ++ (x ∷ []))
below_more x nil h = one h nil
below_more x (one g a) h = one g (below_more x a h)

brought-below : (sort : Sort) (s : Receipt) (i : ItemRead) → AllBelow s.rows → i.key < 65536 → AllBelow (line_brought sort s i).rows
unfolding line_brought
brought-below ended s i a h = a
brought-below empty s i a h = a
brought-below heading s i a h = a
brought-below bad s i a h = a
brought-below too_many s i a h = a
brought-below good s i a h = below_more (received_of i) a h

lines-below : (room : ℕ) (f : List ℕ) (s : Receipt) (lines : List (List ℕ)) → AllBelow s.rows → AllBelow (lines_received room f s lines).rows
unfolding lines_received line_received
lines-below room f s [] a = a
lines-below room f s (line ∷ lines) a =
    let sort : Sort = sort_of room f s.over s.begun (length s.rows) (line_read line) in
    lines-below room f (line_received room f s (line_read line)) lines (brought-below sort s (line_read line).item a (line-below line))

receipt-below : (f input : List ℕ) → AllBelow (receipt_of f input).rows
unfolding receipt_of
receipt-below f input = lines-below 65536 f no_receipt (lines_from [] (unmarked input)) nil

-- ---- the rows of a product

none-far : (id : List ℕ) (k : ℕ) → 65536 ≤ k → (xs : List Received) → AllBelow xs → times (row_entries (rows_for id xs)) k ≡ 0
unfolding rows_for times
none-far id k h [] nil = refl
none-far id k h (x ∷ xs) (one g a) = go (same_id x.id id) (none-far id k h xs a)
  where
    go : (b : Bool) → times (row_entries (rows_for id xs)) k ≡ 0 → times (row_entries (cond b (x.row ∷ rows_for id xs) (rows_for id xs))) k ≡ 0
    go true e = rw (ne_eqb x.row.key k (λ q. omega arith)) (zero-add (times (row_entries (rows_for id xs)) k) ∙ e)
    go false e = e

-- the keys of a product's rows in any input are 16-bit numbers
pub input-short : (f input id : List ℕ) → Short (row_entries (rows_for id (receipt_of f input).rows))
input-short f input id = record { below = λ k l. none-far id k (omega arith) (receipt_of f input).rows (receipt-below f input) }
