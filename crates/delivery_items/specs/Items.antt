-- A line of the rows that `reconcile` reads, and what it says (docs/DELIVERY.md, `reconcile`, from which the quotations are; docs/DECISIONS.md, The delivery).
-- Assumes nothing.
use Rattle.std.specs.Prelude.{ℕ, ◌+◌, ◌-◌, Bool, true, false, not, ◌&&◌, ◌||◌, cond, List, [], ◌∷◌, ◌++◌, eqb, leb, ltb, length, get_or, take, drop, set, replicate}
use Rattle.questions.specs.Search.{every}
use Rattle.days.specs.Dates.{month_of}
use Rattle.session_lines.specs.declared.Command.{Command}
use Rattle.file_text_lines.specs.declared.NumberRead.{NumberRead}
use Rattle.file_text_lines.specs.Entries.{word_number, id_bytes}
use Rattle.confirm_lines.specs.ListingLines.{date_in, month_in}
use Rattle.delivery_lines.specs.NoticeLines.{blank, trimmed, is_id}
use Rattle.delivery_items.specs.declared.ItemRead.{ItemRead}
use Rattle.delivery_items.specs.declared.LineRead.{LineRead}
use Rattle.delivery_items.specs.declared.LongLine.{LongLine}

-- 'Fields are parted by a comma, a semicolon or a tab':
-- 44, 59 and 9
abbrev pub separator : ℕ → Bool
separator byte = eqb byte 44 || (eqb byte 59 || eqb byte 9)

-- the fields of a line, after a field that has begun with some bytes; any of the three parts two fields
unfoldable pub fields_from : List ℕ → List ℕ → List (List ℕ)
fields_from begun [] = begun ∷ []
fields_from begun (byte ∷ rest) = cond (separator byte) (begun ∷ fields_from [] rest) (fields_from (begun ++ (byte ∷ [])) rest)

-- the fields of a line
abbrev pub fields_of : List ℕ → List (List ℕ)
fields_of line = fields_from [] line

-- 'each may stand in double quotes', 34:
-- a field without them
unfoldable pub unquoted : List ℕ → List ℕ
unquoted field =
    cond (leb 2 (length field) && (eqb (get_or field 0 0) 34 && eqb (get_or field (length field - 1) 0) 34))
    (take (length field - 1 - 1) (drop 1 field)) field

-- field k as it stands in the line, from 0; no bytes where there is none
unfoldable pub raw_field : List ℕ → ℕ → List ℕ
raw_field line k = get_or (fields_of line) k []

-- field k without its quotes
unfoldable pub field_at : List ℕ → ℕ → List ℕ
field_at line k = unquoted (raw_field line k)

-- another line
abbrev pub no_item : ItemRead
no_item = record { there = false; id = replicate 4 0; weekly = false; key = 0; day = 0; full = false; number = 0; back = 0 }

-- a maturity of 7 characters is a month, any other a Friday's date: its first day or the Friday
unfoldable pub maturity_read : List ℕ → Command
maturity_read field = cond (eqb (length field) 7) (month_in field) (date_in field)

-- the key of a maturity with that day
unfoldable pub key_read : List ℕ → ℕ → ℕ
key_read field day = cond (eqb (length field) 7) (month_of day) day

-- 'three fields, `product,maturity,last_trading_day`'; bad are 'a date that is none; an id that is none'
unfoldable pub short_item : List ℕ → List ℕ → List ℕ → ItemRead
short_item id maturity last =
    cond (is_id id && (not (eqb (maturity_read maturity).letter 0) && not (eqb (date_in last).letter 0)))
    (record {
      there = true;
      id = id_bytes id;
      weekly = not (eqb (length maturity) 7);
      key = key_read maturity (maturity_read maturity).day;
      day = (date_in last).day;
      full = false;
      number = 0;
      back = 0;
    })
    no_item

-- 'or the five of `deliver`', of which two are numbers: 'The two numbers are digits and at most 65,535'
unfoldable pub full_item : ItemRead → NumberRead → NumberRead → ItemRead
full_item item number back =
    cond (item.there && (number.there && back.there))
    (record {
      there = true;
      id = item.id;
      weekly = item.weekly;
      key = item.key;
      day = item.day;
      full = true;
      number = number.value;
      back = back.value;
    })
    no_item

-- the row of the fields of a line: `product,maturity,last_trading_day` or `product,number,maturity,last_trading_day,days_back`
unfoldable pub fields_item : List ℕ → ItemRead
fields_item text =
    cond (eqb (length (fields_of text)) 3) (short_item (field_at text 0) (field_at text 1) (field_at text 2))
    (cond (eqb (length (fields_of text)) 5) (full_item (short_item (field_at text 0) (field_at text 2) (field_at text 3)) (word_number (field_at text 1) 65535)
    (word_number (field_at text 4) 65535))
    no_item)

-- the row of a line without the blanks at its end; bad is a line of 'more than 255 bytes'
unfoldable pub item_of : List ℕ → ItemRead
item_of text = cond (leb (length text) 255) (fields_item text) no_item

-- the word `product`
abbrev pub product_word : List ℕ
product_word = 112 ∷ 114 ∷ 111 ∷ 100 ∷ 117 ∷ 99 ∷ 116 ∷ []

-- the bytes are that word
unfoldable pub is_product_word : List ℕ → Bool
is_product_word field = eqb (length field) 7 && every 7 (λ i. eqb (get_or field i 0) (get_or product_word i 0))

-- 'the first line that is not empty where its first field is `product`':
-- whether a line's first field is
unfoldable pub headed : List ℕ → Bool
headed text = is_product_word (field_at text 0)

-- 'Spaces, tabs and carriage returns at its end play no part':
-- what a line says
unfoldable pub line_read : List ℕ → LineRead
line_read line =
    record { empty = eqb (length (trimmed line)) 0; heading = headed (trimmed line); item = item_of (trimmed line) }

-- a line with no bytes, as the program holds it
unfoldable pub empty_long : LongLine
empty_long = record { bytes = replicate 255 0; length = 0; over = false }

-- a line with one byte more: its first 255 bytes are held, and whether one after them is no blank
unfoldable pub lengthened : LongLine → ℕ → LongLine
lengthened l byte =
    cond (ltb l.length 255) (record { bytes = set l.bytes l.length byte; length = l.length + 1; over = l.over })
    (record { bytes = l.bytes; length = l.length; over = l.over || not (blank byte) })

-- a line with all bytes of a list more, one by one
unfoldable pub fed_long : LongLine → List ℕ → LongLine
fed_long l [] = l
fed_long l (byte ∷ bytes) = fed_long (lengthened l byte) bytes

-- what a line says, as the program holds it; from an empty line fed with a line of any length this is `line_read` (proofs, Long: `any-length`)
unfoldable pub held_read : LongLine → LineRead
held_read l =
    cond l.over (record { empty = false; heading = headed (take l.length l.bytes); item = no_item })
    (line_read (take l.length l.bytes))
