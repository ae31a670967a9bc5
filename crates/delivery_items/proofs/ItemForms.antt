-- What a line says, test by test.
-- Assumes nothing.
use mathlib.Core.Path.{◌≡◌, refl, ◌∙◌}
use mathlib.Core.Bool.{Bool, true, false, not, ◌&&◌, and-false}
use mathlib.Core.List.{List}
use Prim.Native.Nat.{ℕ, ◌-◌, ◌≤◌, ◌<◌}
use lib.Dec.{eqb, leb}
use lib.ListN.{length, get_or, take, drop}
use borrow.Author.Tests.{eq-eqb, ne_eqb, le-leb, lt-leb}
use Rattle.days.specs.Dates.{month_of}
use Rattle.session_lines.specs.declared.Command.{Command}
use Rattle.file_text_lines.specs.declared.NumberRead.{NumberRead}
use Rattle.file_text_lines.specs.Entries.{word_number, id_bytes}
use Rattle.confirm_lines.specs.ListingLines.{date_in, month_in}
use Rattle.delivery_lines.specs.NoticeLines.{trimmed, is_id}
use Rattle.delivery_items.specs.declared.ItemRead.{ItemRead}
use Rattle.delivery_items.specs.declared.LineRead.{LineRead}
use Rattle.delivery_items.specs.declared.LongLine.{LongLine}
use Rattle.delivery_items.specs.Items.{fields_of, unquoted, field_at, no_item, maturity_read, key_read, short_item, full_item, fields_item, item_of}
use Rattle.delivery_items.specs.Items.{headed, line_read, held_read}

-- ---- quotes

module _ (field : List ℕ) where
  -- a field of fewer than two bytes stays as it is
  pub short-field : length field < 2 → field ≡ unquoted field
  unfolding unquoted
  short-field h = rw (lt-leb 2 (length field) h) refl

  module _ (h : 2 ≤ length field) where
    -- a field that does not begin with a double quote stays as it is
    pub unquoted-start : (get_or field 0 0 ≡ 34 → ⊥) → field ≡ unquoted field
    unfolding unquoted
    unquoted-start e = rw (ne_eqb (get_or field 0 0) 34 e, and-false (leb 2 (length field))) refl

    -- a field that does not end with a double quote stays as it is
    pub unquoted-end : (get_or field (length field - 1) 0 ≡ 34 → ⊥) → field ≡ unquoted field
    unfolding unquoted
    unquoted-end e = rw (ne_eqb (get_or field (length field - 1) 0) 34 e, and-false (eqb (get_or field 0 0) 34), and-false (leb 2 (length field))) refl

    -- a field that begins and ends with a double quote loses both
    pub quoted : get_or field 0 0 ≡ 34 → get_or field (length field - 1) 0 ≡ 34 → take (length field - 1 - 1) (drop 1 field) ≡ unquoted field
    unfolding unquoted
    quoted a b = rw (le-leb 2 (length field) h, eq-eqb (get_or field 0 0) 34 a, eq-eqb (get_or field (length field - 1) 0) 34 b) refl

-- ---- a maturity

module _ (field : List ℕ) where
  -- a maturity of 7 characters is read as a month
  pub maturity-month : length field ≡ 7 → month_in field ≡ maturity_read field
  unfolding maturity_read
  maturity-month e = rw (eq-eqb (length field) 7 e) refl

  -- a maturity of other than 7 characters is read as the date of a Friday
  pub maturity-friday : (length field ≡ 7 → ⊥) → date_in field ≡ maturity_read field
  unfolding maturity_read
  maturity-friday e = rw (ne_eqb (length field) 7 e) refl

  -- the key of a maturity of 7 characters is the month of its day
  pub key-month : (day : ℕ) → length field ≡ 7 → month_of day ≡ key_read field day
  unfolding key_read
  key-month day e = rw (eq-eqb (length field) 7 e) refl

  -- the key of a maturity of other than 7 characters is its day
  pub key-friday : (day : ℕ) → (length field ≡ 7 → ⊥) → day ≡ key_read field day
  unfolding key_read
  key-friday day e = rw (ne_eqb (length field) 7 e) refl

-- ---- a row

module _ (id maturity last : List ℕ) (is : Bool) (first end : Command) (i : is ≡ is_id id) (p : first ≡ maturity_read maturity) (q : end ≡ date_in last) where
  -- three fields without an id, a maturity and a date are no row
  pub item-none : (is && (not (eqb first.letter 0) && not (eqb end.letter 0))) ≡ false → no_item ≡ short_item id maturity last
  unfolding short_item
  item-none t = rw (← i, ← p, ← q, t) refl

  -- three fields with an id, a maturity and a date are a row of these
  pub item-is : (is && (not (eqb first.letter 0) && not (eqb end.letter 0))) ≡ true → (four : List ℕ) (key : ℕ) → four ≡ id_bytes id
      → key ≡ key_read maturity first.day
      → record { there = true; id = four; weekly = not (eqb (length maturity) 7); key = key; day = end.day; full = false; number = 0; back = 0 }
      ≡ short_item id maturity last
  unfolding short_item
  item-is t four key a b = rw (← i, ← p, ← q, t, a, b) refl

module _ (item : ItemRead) (number back : NumberRead) where
  -- without a row of three fields, or without one of the two numbers, five fields are no row
  pub full-none : (item.there && (number.there && back.there)) ≡ false → no_item ≡ full_item item number back
  unfolding full_item
  full-none t = rw t refl

  -- five fields with a row and two numbers are that row with its listing number and its days back
  pub full_is : (item.there && (number.there && back.there)) ≡ true
      → record { there = true; id = item.id; weekly = item.weekly; key = item.key; day = item.day; full = true; number = number.value; back = back.value }
      ≡ full_item item number back
  unfolding full_item
  full_is t = rw t refl

module _ (text : List ℕ) (fields : ℕ) (e : fields ≡ length (fields_of text)) (id a b : List ℕ) (i : id ≡ field_at text 0) where
  -- a line of three fields gives the row of its id, maturity and last trading day
  pub three-fields : fields ≡ 3 → a ≡ field_at text 1 → b ≡ field_at text 2 → (r : ItemRead) → r ≡ short_item id a b → r ≡ fields_item text
  unfolding fields_item
  three-fields n p q r s = s ∙ rw (← e, n, i, p, q) refl

  -- a line of five fields gives the row of its id, number, maturity, last trading day and days back
  pub five-fields : fields ≡ 5 → a ≡ field_at text 2 → b ≡ field_at text 3 → (item : ItemRead) → item ≡ short_item id a b
      → (number back : NumberRead) → number ≡ word_number (field_at text 1) 65535 → back ≡ word_number (field_at text 4) 65535
      → (r : ItemRead) → r ≡ full_item item number back → r ≡ fields_item text
  unfolding fields_item
  five-fields n p q item s number back u v r w = w ∙ rw (s, u, v, ← e, n, i, p, q) refl

-- a line of other than three or five fields gives no row
pub other-fields : (text : List ℕ) (fields : ℕ) → fields ≡ length (fields_of text) → (fields ≡ 3 → ⊥) → (fields ≡ 5 → ⊥) → no_item ≡ fields_item text
unfolding fields_item
other-fields text fields e n m = rw (← e, ne_eqb fields 3 n, ne_eqb fields 5 m) refl

module _ (text : List ℕ) where
  -- a line of more than 255 bytes gives no row
  pub too_long : 255 < length text → no_item ≡ item_of text
  unfolding item_of
  too_long h = rw (lt-leb (length text) 255 h) refl

  -- a line of at most 255 bytes gives the row of its fields
  pub not-too-long : length text ≤ 255 → fields_item text ≡ item_of text
  unfolding item_of
  not-too-long h = rw (le-leb (length text) 255 h) refl

-- ---- a line

-- what a line says is whether it is empty, whether it is headed and its row, all without the blanks at its end
pub line-is : (line text : List ℕ) (r : LineRead) → text ≡ trimmed line → r.empty ≡ eqb (length text) 0 → r.heading ≡ headed text → r.item ≡ item_of text
    → r ≡ line_read line
unfolding line_read
line-is line text r e a b c = rw (← e) (parts r a b c)
  where
    parts : (r : LineRead) → r.empty ≡ eqb (length text) 0 → r.heading ≡ headed text → r.item ≡ item_of text
        → r ≡ record { empty = eqb (length text) 0; heading = headed text; item = item_of text }
    parts r a b c = rw (← a, ← b, ← c) refl

module _ (l : LongLine) (n : ℕ) (e : take n l.bytes ≡ take l.length l.bytes) where
  -- a line with a byte past the first 255 that is no blank is not empty, is headed by its held bytes, and gives no row
  pub held-over : l.over ≡ true → (heading : Bool) (item : ItemRead) → heading ≡ headed (take n l.bytes) → item ≡ no_item
      → record { empty = false; heading = heading; item = item } ≡ held_read l
  unfolding held_read
  held-over o heading item h i = rw (o, h, i, e) refl

  -- a line without such a byte says what its held bytes say
  pub held_whole : l.over ≡ false → (r : LineRead) → r ≡ line_read (take n l.bytes) → r ≡ held_read l
  unfolding held_read
  held_whole o r h = h ∙ rw (o, e) refl
