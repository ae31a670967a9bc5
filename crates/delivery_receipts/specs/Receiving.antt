-- The rows in lent lists, and what is promised of a line that is read into them. Only the code needs these.
-- Assumes nothing.
use Rattle.std.specs.Prelude.{ℕ, zero, suc, ◌+◌, ◌*◌, ◌≤◌, ◌≡◌, Bool, true, false, not, ◌&&◌, cond, List, [], ◌∷◌, ◌++◌, eqb, leb, length, get_or, take, set}
use Rattle.questions.specs.Search.{every}
use Rattle.file_load.specs.Products.{same_id}
use Rattle.file_load.specs.Load.{found}
use Rattle.file_text_read.specs.Lists.{next_line}
use Rattle.delivery_products.specs.IdList.{id_in}
use Rattle.delivery_items.specs.declared.ItemRead.{ItemRead}
use Rattle.delivery_items.specs.declared.LineRead.{LineRead}
use Rattle.delivery_items.specs.declared.LongLine.{LongLine}
use Rattle.delivery_items.specs.Items.{held_read}
use Rattle.delivery_differences.specs.declared.DeliveredRow.{DeliveredRow}
use Rattle.delivery_differences.specs.Differences.{row_at}
use Rattle.delivery_receipts.specs.declared.Receiving.{Receiving}
use Rattle.delivery_receipts.specs.Receipts.{Received, Receipt, Sort, ended, empty, heading, bad, too_many, good, sort_of, line_received}

-- six lent lists: ids, keys, days, whether a row has five fields, listing numbers and days back
pub record Lists : Type 0 where
  pub ids : List ℕ
  pub keys : List ℕ
  pub days : List ℕ
  pub fulls : List ℕ
  pub numbers : List ℕ
  pub backs : List ℕ

-- row i of them
abbrev pub received_at : Lists → ℕ → Received
received_at a i = record { id = id_in a.ids i; row = row_at a.keys a.days a.fulls a.numbers a.backs i }

-- the first n of them
unfoldable pub received_to : Lists → ℕ → List Received
received_to a zero = []
received_to a (suc n) = received_to a n ++ (received_at a n ∷ [])

-- they have room for 65,536 rows, or none is taken
unfoldable pub room_in : Lists → ℕ
room_in a =
    cond (leb 262144 (length a.ids)
    && (leb 65536 (length a.keys)
    && (leb 65536 (length a.days) && (leb 65536 (length a.fulls) && (leb 65536 (length a.numbers) && leb 65536 (length a.backs))))))
    65536 0

-- 1 for a row of five fields
abbrev pub full_mark : Bool → ℕ
full_mark full = cond full 1 0

-- of the lists before and after one row more, as row i
pub record RowStored (i : ℕ) (item : ItemRead) (before after : Lists) : Type 0 where
  pub ids : after.ids ≡ set (set (set (set before.ids (4 * i) (get_or item.id 0 0)) (4 * i + 1) (get_or item.id 1 0)) (4 * i + 2) (get_or item.id 2 0))
      (4 * i + 3) (get_or item.id 3 0)
  pub keys : after.keys ≡ set before.keys i item.key
  pub days : after.days ≡ set before.days i item.day
  pub fulls : after.fulls ≡ set before.fulls i (full_mark item.full)
  pub numbers : after.numbers ≡ set before.numbers i item.number
  pub backs : after.backs ≡ set before.backs i item.back

-- the code's state after a line: how many rows, whether a line was there that is not empty, how many lines,
-- whether there was a row too many, and the number of this line where it is bad, 0 where it is not
abbrev pub receiving_after : Receiving → ℕ → Bool → Bool → ℕ → Receiving
receiving_after s rows begun over told = record { rows = rows; begun = begun; lines = next_line s.lines; over = over; bad = told }

-- the code's state after a line of a sort
unfoldable pub state_brought : Sort → Receiving → Receiving
state_brought ended s = record { rows = s.rows; begun = s.begun; lines = s.lines; over = s.over; bad = 0 }
state_brought empty s = receiving_after s s.rows s.begun false 0
state_brought heading s = receiving_after s s.rows true false 0
state_brought bad s = receiving_after s s.rows true false (next_line s.lines)
state_brought too_many s = receiving_after s s.rows true true (next_line s.lines)
state_brought good s = receiving_after s (s.rows + 1) true false 0

-- and after a line that says this
unfoldable pub receiving : ℕ → List ℕ → Receiving → LineRead → Receiving
receiving room f s r = state_brought (sort_of room f s.over s.begun s.rows r) s

-- a bad line, where there is one
abbrev pub told_of : ℕ → List ℕ
told_of told = cond (eqb told 0) [] (told ∷ [])

-- what the code holds, with the bad lines that were told
abbrev pub receipt_in : Receiving → Lists → List ℕ → Receipt
receipt_in s a bads = record { rows = received_to a s.rows; begun = s.begun; lines = s.lines; bads = bads; over = s.over }

-- the lists are as long as they were
pub record SameLengths (before after : Lists) : Type 0 where
  pub ids : length after.ids ≡ length before.ids
  pub keys : length after.keys ≡ length before.keys
  pub days : length after.days ≡ length before.days
  pub fulls : length after.fulls ≡ length before.fulls
  pub numbers : length after.numbers ≡ length before.numbers
  pub backs : length after.backs ≡ length before.backs

-- of a state and lists before and after one line more: the rows are those of the definition, and so are the bad lines, whichever were told before
pub record RowLineIn (f : List ℕ) (s : Receiving) (l : LongLine) (before after : Lists) (r : Receiving) : Type 0 where
  pub is : (bads : List ℕ) → receipt_in r after (bads ++ told_of r.bad) ≡ line_received (room_in before) f (receipt_in s before bads) (held_read l)
  pub lengths : SameLengths before after

-- the places of a product's rows among the first n
unfoldable pub places_to : List ℕ → List ℕ → ℕ → List ℕ
places_to id ids zero = []
places_to id ids (suc n) = places_to id ids n ++ cond (same_id (id_in ids n) id) (n ∷ []) []

-- the rows of a product, in their order
unfoldable pub rows_for : List ℕ → List Received → List DeliveredRow
rows_for id [] = []
rows_for id (x ∷ xs) = cond (same_id x.id id) (x.row ∷ rows_for id xs) (rows_for id xs)

-- of a list before and after: with room for n places the product's stand at its start
pub record PlacesIn (id ids : List ℕ) (n : ℕ) (before after : List ℕ) (r : ℕ) : Type 0 where
  pub is : n ≤ 65536 → n ≤ length before → take r after ≡ places_to id ids n
  pub fits : r ≤ length after
  pub long : length after ≡ length before

-- 'then `product`, once for each id that is not in the file, in the order of their first rows':
-- row i is such a first row
unfoldable pub first_unknown : List ℕ → List ℕ → ℕ → Bool
first_unknown f ids i = not (found f (id_in ids i)) && every i (λ j. not (same_id (id_in ids j) (id_in ids i)))
