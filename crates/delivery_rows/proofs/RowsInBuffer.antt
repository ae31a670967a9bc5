-- Rows built as lines, and one after the other in a lent buffer.
-- Assumes nothing.
use mathlib.Core.Path.{◌≡◌, refl, sym, ap, ◌∙◌}
use mathlib.Core.Bool.{Bool, true, false, cond}
use mathlib.Core.List.{List, [], ◌∷◌, ◌++◌, map, append-nil, append_assoc}
use mathlib.Core.Logic.{◌⊎◌, inl, inr}
use Prim.Native.Nat.{ℕ, zero, suc, ◌+◌, ◌*◌, ◌-◌, ◌≤◌, ◌<◌}
use native.Mathlib.Omega.{arith}
use lib.Dec.{leb}
use lib.ListN.{length, get_or, take, drop, length-append}
use lib.Seq.{drop-drop, take-suc, paste, length-paste, take-paste, drop-paste}
use borrow.Author.Tests.{le-leb, lt-leb, leb-true}
use Rattle.questions.proofs.Bools.{lt-or-ge}
use Rattle.product.specs.declared.Kind.{Kind}
use Rattle.product.specs.Fields.{is_weekly}
use Rattle.listing.specs.declared.Maturity.{Maturity}
use Rattle.listing.specs.Rules.{unused}
use Rattle.listing.specs.Months.{places_of_kind}
use Rattle.table.specs.declared.Table.{Table}
use Rattle.session_lines.specs.declared.Line.{Line}
use Rattle.session_lines.specs.CommandLines.{empty_line}
use Rattle.session_lines.proofs.LineFeeding.{fed-holds, fed-is}
use Rattle.session_text.specs.TermsText.{in_two_digits, in_four_digits, decimal, year_month, month_text, day_text, name_text}
use Rattle.file_text_print.specs.Contents.{LineWith, id_text}
use Rattle.file_text_print.proofs.TextLengths.{decimal-short, day-long, id-short}
use Rattle.delivery_rows.specs.Delivery.{Row, delivery_row, table_rows, row_text, rows_text}
use Rattle.delivery_rows.specs.Printed.{RowsIn, rows_first, has_room, rows_or_none}

-- ---- how long a row is

month-long : (key : ℕ) → length (month_text key) ≡ 7
unfolding month_text year_month in_four_digits in_two_digits
month-long key = refl

name-short : (kind : Kind) (key : ℕ) → length (name_text kind key) ≤ 10
unfolding name_text
name-short kind key = go (is_weekly kind)
  where
    go : (b : Bool) → length (cond b (day_text key) (month_text key)) ≤ 10
    go true = omega (arith, day-long key)
    go false = omega (arith, month-long key)

row-short : (id : List ℕ) (kind : Kind) (m : Maturity) → length id ≡ 4 → length (row_text (delivery_row id kind m)) < 64
unfolding row_text
row-short id kind m e =
    omega (
      arith,
      length-append (id_text id) (44 ∷ number),
      length-append (decimal m.number) (44 ∷ name),
      length-append (name_text kind m.key) (44 ∷ day),
      length-append (day_text m.day) (44 ∷ back),
      length-append (decimal m.back) (10 ∷ []),
      id-short id,
      decimal-short m.number,
      name-short kind m.key,
      day-long m.day,
      decimal-short m.back,
    )
  where
    back : List ℕ
    back = decimal m.back ++ (10 ∷ [])

    day : List ℕ
    day = day_text m.day ++ (44 ∷ back)

    name : List ℕ
    name = name_text kind m.key ++ (44 ∷ day)

    number : List ℕ
    number = decimal m.number ++ (44 ∷ name)

-- a line that was made of a short text
module _ (text : List ℕ) (l : Line) (made : LineWith empty_line text l) (h : length text < 64) where
  line-room : length l.bytes ≡ 64
  line-room = rw made.is (fed-holds text).room

  line-count : l.length ≡ length text
  line-count = rw made.is (fed-is text h).0

  line-is : take l.length l.bytes ≡ text
  line-is = rw made.is (fed-is text h).1

-- ---- row by row

-- the state of the loop before row i
pub record Putting (id : List ℕ) (kind : Kind) (ms : List Maturity) (at : ℕ) (before : List ℕ) (next i : ℕ) (out : List ℕ) : Type 0 where
  -- the output up to the next place is what stood before the start, then the rows so far
  pub is : take next out ≡ take at before ++ rows_first id kind ms i
  -- the next place is as far from the start as the rows so far are long
  pub to : next ≡ at + length (rows_first id kind ms i)
  -- the rows so far are at most 64 bytes each
  pub small : length (rows_first id kind ms i) ≤ 64 * i
  -- the output after the rows so far is as before
  pub unchanged : drop next out ≡ drop next before
  -- the output keeps its length
  pub long : length out ≡ length before

module _ (id : List ℕ) (kind : Kind) (ms : List Maturity) (at : ℕ) (before : List ℕ) where
  -- the state before the first row
  pub begins : Putting id kind ms at before at 0 before
  unfolding rows_first
  begins = record { is = sym (append-nil (take at before)); to = omega arith; small = omega arith; unchanged = refl; long = refl }

  module _ (next i : ℕ) (out : List ℕ) (g : Putting id kind ms at before next i out) (few : i < 15) (room : at + 1024 ≤ length before) (four : length id ≡ 4)
      (l : Line)
      (made : LineWith empty_line (row_text (delivery_row id kind (get_or ms i unused))) l) where
    abbrev text : List ℕ
    text = row_text (delivery_row id kind (get_or ms i unused))

    short : length text < 64
    short = row-short id kind (get_or ms i unused) four

    -- the row's line is at most 64 bytes long and the output has 64 bytes for it
    pub fits : (l.length ≤ 64) × (next + 64 ≤ length out)
    fits = (omega (arith, short, line-count text l made short), omega (arith, g.to, g.small, g.long))

    -- the state after one more row, put at the next place
    pub goes : (r j : ℕ) (after : List ℕ) → r ≡ next + l.length → after ≡ paste out next l.bytes l.length → j ≡ i + 1
        → Putting id kind ms at before r j after
    unfolding rows_first
    goes r j after p a e =
        let k : length l.bytes ≡ 64 = line-room text l made short in
        let w : l.length ≤ 64 = fits.0 in
        let c : l.length ≡ length text = line-count text l made short in
        let q : j ≡ suc i = omega arith in
        let within : next ≤ length out = omega (arith, fits.1) in
        let len : length after ≡ length out = rw a (length-paste out next l.bytes l.length (omega (arith, w, fits.1)) (omega (arith, k, w))) in
        rw q
        (record {
          is =
              rw (p, a)
              (take-paste out next l.bytes l.length within (omega (arith, k, w)) ∙
              rw (g.is, line-is text l made short) (append_assoc (take at before) (rows_first id kind ms i) text));
          to = omega (arith, p, g.to, c, length-append (rows_first id kind ms i) text);
          small = omega (arith, g.small, short, length-append (rows_first id kind ms i) text);
          unchanged = rw (p, a)
              (drop-paste out next l.bytes l.length within (omega (arith, k, w))
              ∙ sym (drop-drop l.length next out) ∙ ap (drop l.length) g.unchanged ∙ drop-drop l.length next before);
          long = len ∙ g.long;
        })

  -- after the last row the output holds all rows
  pub ends : (next i n : ℕ) (out : List ℕ) → Putting id kind ms at before next i out → i ≡ n → RowsIn before out at next (rows_first id kind ms n)
  ends next i n out g e = rw (← e) (record { is = g.is; to = g.to; unchanged = g.unchanged; long = g.long })

-- ---- the rows of a table

rows_snoc : (rs : List Row) (r : Row) → rows_text (rs ++ (r ∷ [])) ≡ rows_text rs ++ row_text r
unfolding rows_text
rows_snoc [] r = append-nil (row_text r)
rows_snoc (x ∷ rs) r = ap (λ (t : List ℕ). row_text x ++ t) (rows_snoc rs r) ∙ sym (append_assoc (row_text x) (rows_text rs) (row_text r))

map_snoc : (id : List ℕ) (kind : Kind) (ms : List Maturity) (m : Maturity)
    → map (delivery_row id kind) (ms ++ (m ∷ [])) ≡ map (delivery_row id kind) ms ++ (delivery_row id kind m ∷ [])
map_snoc id kind [] m = refl
map_snoc id kind (x ∷ ms) m = ap (λ (rs : List Row). delivery_row id kind x ∷ rs) (map_snoc id kind ms m)

first_rows : (id : List ℕ) (kind : Kind) (ms : List Maturity) (n : ℕ) → n ≤ length ms
    → rows_first id kind ms n ≡ rows_text (map (delivery_row id kind) (take n ms))
unfolding rows_first rows_text
first_rows id kind ms zero h = refl
first_rows id kind ms (suc n) h =
    rw (take-suc ms n unused (omega arith), map_snoc id kind (take n ms) (get_or ms n unused))
    (ap (λ (t : List ℕ). t ++ row_text (delivery_row id kind (get_or ms n unused))) (first_rows id kind ms n (omega arith)) ∙
    sym (rows_snoc (map (delivery_row id kind) (take n ms)) (delivery_row id kind (get_or ms n unused))))

-- ---- whether there is room

module _ (out : List ℕ) (at : ℕ) where
  -- an output shorter than 1024 has no room
  pub too_short : length out < 1024 → has_room out at ≡ false
  unfolding has_room
  too_short h = lt-leb (at + 1024) (length out) (omega arith)

  -- in an output of 1024 or more, the code's comparison for room is the room as stated
  pub room-is : 1024 ≤ length out → leb at (length out - 1024) ≡ has_room out at
  unfolding has_room
  room-is g = go (lt-or-ge (length out) (at + 1024))
    where
      go : (length out < at + 1024) ⊎ (at + 1024 ≤ length out) → leb at (length out - 1024) ≡ leb (at + 1024) (length out)
      go (inl l) = lt-leb at (length out - 1024) (omega arith) ∙ sym (lt-leb (at + 1024) (length out) l)
      go (inr l) = le-leb at (length out - 1024) (omega arith) ∙ sym (le-leb (at + 1024) (length out) l)

  -- an output with room has 1024 bytes from the place on
  pub room-long : has_room out at ≡ true → at + 1024 ≤ length out
  unfolding has_room
  room-long e = leb-true (at + 1024) (length out) e

  module _ (id : List ℕ) (t : Table) where
    -- without room no row is put
    pub not-printed : has_room out at ≡ false → RowsIn out out at at (rows_or_none out at id t)
    unfolding rows_or_none
    not-printed e = rw e (record { is = sym (append-nil (take at out)); to = omega arith; unchanged = refl; long = refl })

    -- with room the rows of all places of the product's kind are put
    pub printed : (after : List ℕ) (next n : ℕ) → has_room out at ≡ true → n ≡ places_of_kind t.product.kind → n ≤ 15 → length t.maturities ≡ 15
        → RowsIn out after at next (rows_first id t.product.kind t.maturities n) → RowsIn out after at next (rows_or_none out at id t)
    unfolding rows_or_none table_rows
    printed after next n e k h l g =
        rw (e, ← k, ← first_rows id t.product.kind t.maturities n (omega arith)) g
