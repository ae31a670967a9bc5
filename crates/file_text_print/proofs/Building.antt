-- Lines that are built text by text.
-- Assumes nothing.
use mathlib.Core.Path.{◌≡◌, refl, sym, ap, ◌∙◌}
use mathlib.Core.Bool.{true, false}
use mathlib.Core.List.{List, [], ◌∷◌, ◌++◌}
use Prim.Native.Nat.{ℕ, ◌+◌, ◌-◌, ◌/◌, ◌%◌, ◌≤◌, ◌<◌}
use native.Mathlib.Numerals.{add-one}
use lib.ListN.{length, get_or, drop}
use lib.Seq.{drop-cons, drop-length}
use borrow.Author.Tests.{eq-eqb, ne_eqb, le-leb, lt-leb}
use Rattle.calendar.specs.declared.Calendar.{Calendar}
use Rattle.calendar.specs.Trading.{cover_start, closed_on, in_second_map}
use Rattle.file_blocks.specs.Blocks.{block_of}
use Rattle.file_records.specs.Records.{record_of}
use Rattle.file_ids.specs.Ids.{is_record}
use Rattle.session_lines.specs.declared.Line.{Line}
use Rattle.session_lines.specs.CommandLines.{empty_line, extended, fed}
use Rattle.session_lines.proofs.LineFeeding.{fed-append}
use Rattle.session_text.specs.TermsText.{in_four_digits}
use Rattle.file_text_print.specs.Contents.{LineWith, cover_text, marked_text, id_text, part_text, product_text, day_line, place_line, cover_days, line_text}

-- one text after another
pub then : {l m r : Line} {t u : List ℕ} → LineWith l t m → LineWith m u r → LineWith l (t ++ u) r
then {l} {m} {r} {t} {u} e g = record { is = g.is ∙ ap (λ (x : Line). fed x u) e.is ∙ sym (fed-append l t u) }

-- one byte
pub one : (l r : Line) (byte : ℕ) → r ≡ extended l byte → LineWith l (byte ∷ []) r
unfolding fed
one l r byte e = record { is = e }

-- a text that begins a line
pub first : {l r : Line} {t : List ℕ} → l ≡ empty_line → LineWith l t r → LineWith empty_line t r
first {l} {r} {t} e g = record { is = g.is ∙ ap (λ (x : Line). fed x t) e }

-- the text of another that is the same
pub same : {X : Type 0} {l r : Line} (f : X → List ℕ) {a b : X} → LineWith l (f a) r → a ≡ b → LineWith l (f b) r
same {X} {l} f e q = record { is = e.is ∙ ap (λ (x : X). fed l (f x)) q }

-- no text
pub nothing : (r : Line) → r ≡ empty_line → LineWith empty_line [] r
unfolding fed
nothing r e = record { is = e }

-- ---- the ten-thousandths of a size

module _ (l : Line) (part : ℕ) where
  -- a size that is whole adds no text to the line
  pub part_none : part ≡ 0 → LineWith l (part_text part) l
  unfolding part_text fed
  part_none e = rw (eq-eqb part 0 e) (record { is = refl })

  -- a size that is not whole adds a point and its four digits to the line
  pub part-some : (part ≡ 0 → ⊥) → (r : Line) → LineWith l ((46 ∷ []) ++ in_four_digits part) r → LineWith l (part_text part) r
  unfolding part_text
  part-some e r g = rw (ne_eqb part 0 e) g

-- ---- the characters of an id

module _ (whole : Line) (id : List ℕ) (i : ℕ) (h : i < length id) where
  -- at a space the text of an id ends
  pub id-ends : get_or id i 0 ≡ 32 → whole ≡ fed whole (id_text (drop i id))
  unfolding id_text fed
  id-ends e = rw (drop-cons id i 0 h, eq-eqb (get_or id i 0) 32 e) refl

  -- a byte of an id that is no space is added to the line, and the id goes on
  pub id-goes-on : (get_or id i 0 ≡ 32 → ⊥) → fed (extended whole (get_or id i 0)) (id_text (drop (i + 1) id)) ≡ fed whole (id_text (drop i id))
  unfolding id_text fed
  id-goes-on n = rw (drop-cons id i 0 h, ne_eqb (get_or id i 0) 32 n, add-one i) refl

-- after its last byte the text of an id ends
pub id-whole : (whole : Line) (id : List ℕ) (i : ℕ) → i ≡ length id → whole ≡ fed whole (id_text (drop i id))
unfolding id_text fed
id-whole whole id i e = rw (e, drop-length id) refl

-- ---- a line by what stands there

module _ (cal : Calendar) (d : ℕ) (r : Line) where
  -- a day of the second map has the line of an X
  pub day-runs : in_second_map cal d ≡ true → LineWith empty_line (marked_text 88 d) r → LineWith empty_line (day_line cal d) r
  unfolding day_line
  day-runs e g = rw e g

  -- a closed day that is not of the second map has the line of a C
  pub day-closed : in_second_map cal d ≡ false → closed_on cal d ≡ true → LineWith empty_line (marked_text 67 d) r → LineWith empty_line (day_line cal d) r
  unfolding day_line
  day-closed e t g = rw (e, t) g

  -- a day that is neither closed nor of the second map has no line
  pub day-none : in_second_map cal d ≡ false → closed_on cal d ≡ false → LineWith empty_line [] r → LineWith empty_line (day_line cal d) r
  unfolding day_line
  day-none e t g = rw (e, t) g

module _ (f : List ℕ) (p : ℕ) (r : Line) where
  -- a place that holds a record has the line of its product
  pub place-held : is_record f p ≡ true → (b : List ℕ) → b ≡ record_of (block_of f (p / 15)) (p % 15) → LineWith empty_line (product_text b) r
      → LineWith empty_line (place_line f p) r
  unfolding place_line
  place-held e b q g = rw (e, ← q) g

  -- a place without a record has no line
  pub place_none : is_record f p ≡ false → LineWith empty_line [] r → LineWith empty_line (place_line f p) r
  unfolding place_line
  place_none e g = rw e g

module _ (cal : Calendar) (f : List ℕ) (n : ℕ) (r : Line) where
  -- line 0 of the text is that of the cover
  pub line-cover : n ≡ 0 → LineWith empty_line (cover_text cal.cover) r → LineWith empty_line (line_text cal f n) r
  unfolding line_text
  line-cover e g = rw (eq-eqb n 0 e) g

  module _ (z : n ≡ 0 → ⊥) (days : ℕ) (q : days ≡ cover_days cal.cover) where
    -- each line after the cover's, up to the count of days, is that of a day of the cover
    pub line-day : n ≤ days → (d : ℕ) → d ≡ cover_start cal.cover + (n - 1) → LineWith empty_line (day_line cal d) r → LineWith empty_line (line_text cal f n) r
    unfolding line_text
    line-day h d e g = rw (ne_eqb n 0 z, ← q, le-leb n days h, ← e) g

    -- each line after those of the days is that of a place
    pub line-place : days < n → LineWith empty_line (place_line f (n - 1 - days)) r → LineWith empty_line (line_text cal f n) r
    unfolding line_text
    line-place h g = rw (ne_eqb n 0 z, ← q, lt-leb n days h) g
