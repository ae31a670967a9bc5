-- No line of the text has 64 bytes.
-- Assumes nothing.
use mathlib.Core.Path.{◌≡◌, refl}
use mathlib.Core.Bool.{Bool, true, false, cond}
use mathlib.Core.List.{List, [], ◌∷◌, ◌++◌}
use mathlib.Core.Logic.{◌⊎◌, inl, inr}
use Prim.Native.Nat.{ℕ, ◌+◌, ◌-◌, ◌/◌, ◌%◌, ◌≤◌, ◌<◌}
use native.Mathlib.Nat.{le_refl}
use native.Mathlib.Omega.{arith}
use lib.Dec.{eqb, leb}
use lib.ListN.{length, get_or, length-append}
use Rattle.questions.proofs.Bools.{lt-or-ge}
use Rattle.calendar.specs.declared.Cover.{Cover}
use Rattle.calendar.specs.declared.Calendar.{Calendar}
use Rattle.calendar.specs.Trading.{cover_start, closed_on, in_second_map}
use Rattle.file_blocks.specs.Blocks.{block_of, number_at}
use Rattle.file_records.specs.Records.{record_of, three_bytes, four_bytes}
use Rattle.file_ids.specs.Ids.{is_record}
use Rattle.session_text.specs.TermsText.{in_two_digits, in_four_digits, decimal, year_month, date_text, day_text, spaced, refusal_text}
use Rattle.session_text.specs.Buffer.{roomy, Printed}
use Rattle.session_text.proofs.TermsTexts.{decimal-1, decimal-2, decimal-3, decimal-4, decimal-5}
use Rattle.file_text_print.specs.Contents.{cover_text, marked_text, id_text, part_text, product_text, day_line, place_line, cover_days, line_text}

-- a number in decimal has at most five digits
pub decimal-short : (n : ℕ) → length (decimal n) ≤ 5
unfolding in_two_digits in_four_digits
decimal-short n = one (lt-or-ge n 10)
  where
    four : 10 ≤ n → 100 ≤ n → 1000 ≤ n → (n < 10000) ⊎ (10000 ≤ n) → length (decimal n) ≤ 5
    four a b d (inl e) = rw (decimal-4 n a b d e) (omega arith)
    four a b d (inr e) = rw (decimal-5 n a b d e) (omega arith)

    three : 10 ≤ n → 100 ≤ n → (n < 1000) ⊎ (1000 ≤ n) → length (decimal n) ≤ 5
    three a b (inl d) = rw (decimal-3 n a b d) (omega arith)
    three a b (inr d) = four a b d (lt-or-ge n 10000)

    two : 10 ≤ n → (n < 100) ⊎ (100 ≤ n) → length (decimal n) ≤ 5
    two a (inl b) = rw (decimal-2 n a b) (omega arith)
    two a (inr b) = three a b (lt-or-ge n 1000)

    one : (n < 10) ⊎ (10 ≤ n) → length (decimal n) ≤ 5
    one (inl a) = rw (decimal-1 n a) (omega arith)
    one (inr a) = two a (lt-or-ge n 100)

spaced-short : (n : ℕ) → length (spaced n) ≤ 6
unfolding spaced
spaced-short n = omega (arith, decimal-short n)

-- the text of a day has ten characters
pub day-long : (d : ℕ) → length (day_text d) ≡ 10
unfolding day_text date_text year_month in_four_digits in_two_digits
day-long d = refl

-- the text of an id is no longer than the id
pub id-short : (id : List ℕ) → length (id_text id) ≤ length id
unfolding id_text
id-short [] = omega arith
id-short (byte ∷ rest) = go (eqb byte 32) (id-short rest)
  where
    go : (b : Bool) → length (id_text rest) ≤ length rest → length (cond b [] (byte ∷ id_text rest)) ≤ length (byte ∷ rest)
    go true h = omega arith
    go false h = omega arith

part-short : (part : ℕ) → length (part_text part) ≤ 5
unfolding part_text in_four_digits in_two_digits
part-short part = go (eqb part 0)
  where
    go : (b : Bool) → length (cond b [] ((46 ∷ []) ++ in_four_digits part)) ≤ 5
    go true = omega arith
    go false = le_refl 5

cover-short : (c : Cover) → length (cover_text c) < 64
unfolding cover_text
cover-short c =
    omega (
      arith,
      length-append (spaced c.first_year) (spaced c.years ++ (10 ∷ [])),
      length-append (spaced c.years) (10 ∷ []),
      spaced-short c.first_year,
      spaced-short c.years,
    )

marked-short : (letter d : ℕ) → length (marked_text letter d) < 64
unfolding marked_text
marked-short letter d = omega (arith, length-append (day_text d) (10 ∷ []), day-long d)

product-short : (r : List ℕ) → length (product_text r) < 64
unfolding product_text four_bytes three_bytes
product-short r =
    omega (
      arith,
      length-append id (32 ∷ four_bytes r 4 ++ (32 ∷ four_bytes r 8 ++ numbers)),
      length-append (spaced (get_or r 12 0)) (spaced (number_at r 13) ++ (part_text (number_at r 20) ++ (spaced (number_at r 15) ++ end))),
      length-append (spaced (number_at r 13)) (part_text (number_at r 20) ++ (spaced (number_at r 15) ++ end)),
      length-append (part_text (number_at r 20)) (spaced (number_at r 15) ++ end),
      length-append (spaced (number_at r 15)) end,
      id-short (four_bytes r 0),
      spaced-short (get_or r 12 0),
      spaced-short (number_at r 13),
      part-short (number_at r 20),
      spaced-short (number_at r 15),
    )
  where
    id : List ℕ
    id = id_text (four_bytes r 0)

    end : List ℕ
    end = 32 ∷ three_bytes r 17 ++ (10 ∷ [])

    numbers : List ℕ
    numbers = spaced (get_or r 12 0) ++ (spaced (number_at r 13) ++ (part_text (number_at r 20) ++ (spaced (number_at r 15) ++ end)))

dayline-short : (cal : Calendar) (d : ℕ) → length (day_line cal d) < 64
unfolding day_line
dayline-short cal d = go (in_second_map cal d) (closed_on cal d)
  where
    go : (a b : Bool) → length (cond a (marked_text 88 d) (cond b (marked_text 67 d) [])) < 64
    go true b = marked-short 88 d
    go false true = marked-short 67 d
    go false false = omega arith

place_short : (f : List ℕ) (p : ℕ) → length (place_line f p) < 64
unfolding place_line
place_short f p = go (is_record f p)
  where
    go : (b : Bool) → length (cond b (product_text (record_of (block_of f (p / 15)) (p % 15))) []) < 64
    go true = product-short (record_of (block_of f (p / 15)) (p % 15))
    go false = omega arith

-- each line of the text has fewer than 64 bytes
pub line-short : (cal : Calendar) (f : List ℕ) (n : ℕ) → length (line_text cal f n) < 64
unfolding line_text
line-short cal f n = go (eqb n 0) (leb n (cover_days cal.cover))
  where
    go : (a b : Bool) → length (cond a (cover_text cal.cover)
        (cond b (day_line cal (cover_start cal.cover + (n - 1))) (place_line f (n - 1 - cover_days cal.cover)))) < 64
    go true b = cover-short cal.cover
    go false true = dayline-short cal (cover_start cal.cover + (n - 1))
    go false false = place_short f (n - 1 - cover_days cal.cover)

-- the line of a refusal has at most 9
pub refusal-short : (n : ℕ) → length (refusal_text n) ≤ 9
unfolding refusal_text
refusal-short n = omega (arith, length-append (spaced n) (10 ∷ []), spaced-short n)

-- a refusal that is printed at a buffer's start takes at most nine bytes
pub refusal-fits : {a b : List ℕ} (next n : ℕ) → Printed a b 0 next (refusal_text n) → next ≤ 9
refusal-fits {a} next n p = rw p.to (go (roomy a 0))
  where
    go : (b : Bool) → cond b (0 + length (refusal_text n)) 0 ≤ 9
    go true = omega (arith, refusal-short n)
    go false = omega arith
