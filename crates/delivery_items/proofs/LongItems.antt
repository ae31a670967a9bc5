-- A line of any length, fed byte by byte: its first 255 bytes, and whether a byte after them is no blank, tell all that the line says.
-- Assumes nothing.
use mathlib.Core.Path.{◌≡◌, refl, ◌∙◌, sym, ap}
use mathlib.Core.Bool.{Bool, true, false, not, ◌&&◌, ◌||◌, cond}
use mathlib.Core.Logic.{◌⊎◌, inl, inr}
use mathlib.Core.List.{List, [], ◌∷◌, ◌++◌, append-nil}
use Prim.Native.Nat.{ℕ, zero, suc, ◌+◌, ◌-◌, ◌≤◌, ◌<◌}
use native.Mathlib.Numerals.{add-one}
use native.Mathlib.Omega.{arith}
use lib.Dec.{eqb, leb}
use lib.ListN.{length, get_or, take, drop, set, length-append, length-replicate, length-set, length-take, length-drop}
use lib.Seq.{append_snoc, take_all, take-append-le, take-suc-set}
use borrow.Author.Tests.{lt-ltb, le-ltb, lt-leb, ne_eqb, not-true, not-false}
use Rattle.questions.proofs.Bools.{lt-or-ge, or-either, clash}
use Rattle.delivery_lines.specs.NoticeLines.{blank, trimmed}
use Rattle.delivery_lines.proofs.Trimming.{trimmed-blank, trimmed-solid}
use Rattle.delivery_items.specs.declared.LongLine.{LongLine}
use Rattle.delivery_items.specs.Items.{separator, fields_from, unquoted, raw_field, field_at, no_item, item_of, is_product_word, headed, line_read, empty_long}
use Rattle.delivery_items.specs.Items.{lengthened, fed_long, held_read}

-- what a line holds that was fed some bytes
pub record Holds (l : LongLine) (line : List ℕ) : Type 0 where
  -- a line has places for 255 bytes
  pub room : length l.bytes ≡ 255
  -- at most 255 bytes are held
  pub few : l.length ≤ 255
  -- the bytes that are held are the first 255 of the line
  pub bytes : take l.length l.bytes ≡ take 255 line
  -- where fewer than 255 bytes are held, they are as many as the line has
  pub count : (l.length < 255) → length line ≡ l.length
  -- where 255 bytes are held, the line has 255 or more
  pub full : (l.length ≡ 255) → 255 ≤ length line
  -- all that says something is held, or a byte after the first 255 says something
  pub whole : l.over ≡ false → trimmed (take 255 line) ≡ trimmed line
  -- where a byte past the first 255 is no blank, the line without its blanks has more than 255 bytes and begins with those held
  pub past : l.over ≡ true → (255 < length (trimmed line)) × (take 255 (trimmed line) ≡ take 255 line)

-- ---- one byte more

trimmed-most : (line : List ℕ) → length (trimmed line) ≤ length line
unfolding trimmed
trimmed-most [] = omega arith
trimmed-most (byte ∷ rest) = go (blank byte && eqb (length (trimmed rest)) 0) (trimmed-most rest)
  where
    go : (b : Bool) → length (trimmed rest) ≤ length rest → length (cond b [] (byte ∷ trimmed rest)) ≤ suc (length rest)
    go true h = omega arith
    go false h = omega arith

-- a line of fewer than 255 bytes
module _ (l : LongLine) (line : List ℕ) (byte : ℕ) (h : Holds l line) where
  long : length (line ++ (byte ∷ [])) ≡ length line + 1
  long = length-append line (byte ∷ [])

  more-short : l.length < 255 → Holds (lengthened l byte) (line ++ (byte ∷ []))
  unfolding lengthened
  more-short s =
      let n : length line ≡ l.length = h.count s in
      let w : take 255 line ≡ line = take_all 255 line (omega (arith, n)) in
      let v : take 255 (line ++ (byte ∷ [])) ≡ line ++ (byte ∷ []) = take_all 255 (line ++ (byte ∷ [])) (omega (arith, n, long)) in
      rw (lt-ltb l.length 255 s)
      (record {
        room = length-set l.bytes l.length byte ∙ h.room;
        few = omega arith;
        bytes = ap (λ (k : ℕ). take k (set l.bytes l.length byte)) (add-one l.length) ∙
            take-suc-set l.bytes l.length byte (omega (arith, h.room)) ∙ ap (λ (x : List ℕ). x ++ (byte ∷ [])) (h.bytes ∙ w) ∙ sym v;
        count = λ q. omega (arith, n, long);
        full = λ q. omega (arith, n, long);
        whole = λ q. ap trimmed v;
        past = λ q. absurd (omega (arith, (h.past q).0, n, trimmed-most line));
      })

  -- and one of 255 or more
  more-long : 255 ≤ l.length → Holds (lengthened l byte) (line ++ (byte ∷ []))
  unfolding lengthened
  more-long s =
      let e : l.length ≡ 255 = omega (arith, h.few) in
      let f : 255 ≤ length line = h.full e in
      let v : take 255 (line ++ (byte ∷ [])) ≡ take 255 line = take-append-le 255 line (byte ∷ []) f in
      rw (le-ltb l.length 255 s)
      (record {
        room = h.room;
        few = h.few;
        bytes = h.bytes ∙ sym v;
        count = λ q. absurd (omega arith);
        full = λ q. omega (arith, long);
        whole = λ q. still (or-not l.over (not (blank byte)) q) v;
        past = λ q. gone (or-either l.over (not (blank byte)) q) f v;
      })
    where
      or-not : (a b : Bool) → (a || b) ≡ false → (a ≡ false) × (b ≡ false)
      or-not true b q = clash refl q
      or-not false b q = (refl, q)

      still : (l.over ≡ false) × (not (blank byte) ≡ false) → take 255 (line ++ (byte ∷ [])) ≡ take 255 line
          → trimmed (take 255 (line ++ (byte ∷ []))) ≡ trimmed (line ++ (byte ∷ []))
      still (o, b) v = ap trimmed v ∙ h.whole o ∙ sym (trimmed-blank line byte (not-false (blank byte) b))

      by-blank : (c : Bool) → blank byte ≡ c → l.over ≡ true → 255 ≤ length line
          → (255 < length (trimmed (line ++ (byte ∷ [])))) × (take 255 (trimmed (line ++ (byte ∷ []))) ≡ take 255 line)
      by-blank true b o f = let e = trimmed-blank line byte b in (rw e (h.past o).0, rw e (h.past o).1)
      by-blank false b o f =
          let e = trimmed-solid line byte b in
          (rw e (omega (arith, long)), rw e (take-append-le 255 line (byte ∷ []) f))

      gone : (l.over ≡ true) ⊎ (not (blank byte) ≡ true) → 255 ≤ length line → take 255 (line ++ (byte ∷ [])) ≡ take 255 line
          → (255 < length (trimmed (line ++ (byte ∷ [])))) × (take 255 (trimmed (line ++ (byte ∷ []))) ≡ take 255 (line ++ (byte ∷ [])))
      gone (inl o) f v = let p = by-blank (blank byte) refl o f in (p.0, p.1 ∙ sym v)
      gone (inr b) f v =
          let e = trimmed-solid line byte (not-true (blank byte) b) in
          (rw e (omega (arith, long)), ap (take 255) e)

  more : Holds (lengthened l byte) (line ++ (byte ∷ []))
  more = go (lt-or-ge l.length 255)
    where
      go : (l.length < 255) ⊎ (255 ≤ l.length) → Holds (lengthened l byte) (line ++ (byte ∷ []))
      go (inl s) = more-short s
      go (inr s) = more-long s

-- a line fed with more bytes holds what is held of the bytes before and these together
pub all : (l : LongLine) (before bytes : List ℕ) → Holds l before → Holds (fed_long l bytes) (before ++ bytes)
unfolding fed_long
all l before [] h = rw (append-nil before) h
all l before (byte ∷ bytes) h =
    let e : (before ++ (byte ∷ [])) ++ bytes ≡ before ++ (byte ∷ bytes) = append_snoc before byte bytes in
    rw (← e) (all (lengthened l byte) (before ++ (byte ∷ [])) bytes (more l before byte h))

-- an empty line holds no bytes
pub none : Holds empty_long []
unfolding empty_long
none =
    record {
      room = length-replicate {A = ℕ} 255 0;
      few = omega arith;
      bytes = refl;
      count = λ s. refl;
      full = λ s. absurd (omega arith);
      whole = λ s. refl;
      past = λ s. clash s refl;
    }

-- ---- the heading of a longer line

-- the bytes before the first separator
unfoldable first_of : List ℕ → List ℕ
first_of [] = []
first_of (byte ∷ rest) = cond (separator byte) [] (byte ∷ first_of rest)

first_field : (begun line : List ℕ) → get_or (fields_from begun line) 0 [] ≡ begun ++ first_of line
unfolding fields_from first_of
first_field begun [] = sym (append-nil begun)
first_field begun (byte ∷ rest) = go (separator byte) (first_field (begun ++ (byte ∷ [])) rest)
  where
    go : (b : Bool) → get_or (fields_from (begun ++ (byte ∷ [])) rest) 0 [] ≡ (begun ++ (byte ∷ [])) ++ first_of rest
        → get_or (cond b (begun ∷ fields_from [] rest) (fields_from (begun ++ (byte ∷ [])) rest)) 0 [] ≡ begun ++ cond b [] (byte ∷ first_of rest)
    go true e = sym (append-nil begun)
    go false e = e ∙ append_snoc begun byte (first_of rest)

first_taken : (n : ℕ) (line : List ℕ) → first_of (take n line) ≡ take n (first_of line)
unfolding first_of
first_taken zero line = refl
first_taken (suc n) [] = refl
first_taken (suc n) (byte ∷ rest) = go (separator byte) (first_taken n rest)
  where
    go : (b : Bool) → first_of (take n rest) ≡ take n (first_of rest) → cond b [] (byte ∷ first_of (take n rest)) ≡ take (suc n) (cond b [] (byte ∷ first_of rest))
    go true e = refl
    go false e = ap (λ (x : List ℕ). byte ∷ x) e

unquoted-long : (field : List ℕ) → length field ≤ length (unquoted field) + 2
unfolding unquoted
unquoted-long field = go (leb 2 (length field) && (eqb (get_or field 0 0) 34 && eqb (get_or field (length field - 1) 0) 34))
  where
    go : (b : Bool) → length field ≤ length (cond b (take (length field - 1 - 1) (drop 1 field)) field) + 2
    go true = omega (arith, length-take (length field - 1 - 1) (drop 1 field), length-drop 1 field)
    go false = omega arith

no_word : (field : List ℕ) → 10 ≤ length field → is_product_word (unquoted field) ≡ false
unfolding is_product_word
no_word field h = rw (ne_eqb (length (unquoted field)) 7 (λ e. omega (arith, unquoted-long field))) refl

headed-is : (line : List ℕ) → headed line ≡ is_product_word (unquoted (first_of line))
unfolding headed field_at raw_field
headed-is line = ap (λ (f : List ℕ). is_product_word (unquoted f)) (first_field [] line)

-- whether a line is headed is told by its first 255 bytes
pub headed-taken : (line : List ℕ) → headed (take 255 line) ≡ headed line
headed-taken line = headed-is (take 255 line) ∙ ap (λ (f : List ℕ). is_product_word (unquoted f)) (first_taken 255 line) ∙
    go (lt-or-ge 255 (length (first_of line))) ∙ sym (headed-is line)
  where
    go : (255 < length (first_of line)) ⊎ (length (first_of line) ≤ 255)
        → is_product_word (unquoted (take 255 (first_of line))) ≡ is_product_word (unquoted (first_of line))
    go (inl h) = no_word (take 255 (first_of line)) (omega (arith, length-take 255 (first_of line))) ∙ sym (no_word (first_of line) (omega arith))
    go (inr h) = ap (λ (f : List ℕ). is_product_word (unquoted f)) (take_all 255 (first_of line) h)

-- ---- a line of any length

-- a line of more than 255 bytes is no row
long-read : (line : List ℕ) → 255 < length (trimmed line) → line_read line ≡ record { empty = false; heading = headed (trimmed line); item = no_item }
unfolding line_read item_of
long-read line h = rw (ne_eqb (length (trimmed line)) 0 (λ e. omega arith), lt-leb (length (trimmed line)) 255 h) refl

-- blanks after the first 255 bytes play no part
same_read : (a b : List ℕ) → trimmed a ≡ trimmed b → line_read a ≡ line_read b
unfolding line_read
same_read a b e = rw e refl

held-is : (l : LongLine) (line : List ℕ) → Holds l line → held_read l ≡ line_read line
unfolding held_read
held-is l line h = go l.over refl
  where
    go : (b : Bool) → l.over ≡ b → cond b (record { empty = false; heading = headed (take l.length l.bytes); item = no_item })
        (line_read (take l.length l.bytes)) ≡ line_read line
    go true o =
        let p = h.past o in
        ap (λ (b : Bool). record { empty = false; heading = b; item = no_item }) (ap headed (h.bytes ∙ sym p.1) ∙ headed-taken (trimmed line)) ∙
        sym (long-read line p.0)
    go false o = ap line_read h.bytes ∙ same_read (take 255 line) line (h.whole o)

-- a line of any length, fed byte by byte to an empty line, says what the definition says
pub any-length : (line : List ℕ) → held_read (fed_long empty_long line) ≡ line_read line
any-length line = held-is (fed_long empty_long line) line (all empty_long [] line none)

-- it has no bytes exactly where it was fed none
pub any-empty : (line : List ℕ) → eqb (fed_long empty_long line).length 0 ≡ eqb (length line) 0
any-empty line = go (lt-or-ge (fed_long empty_long line).length 255)
  where
    h : Holds (fed_long empty_long line) line
    h = all empty_long [] line none

    go : ((fed_long empty_long line).length < 255) ⊎ (255 ≤ (fed_long empty_long line).length) → eqb (fed_long empty_long line).length 0 ≡ eqb (length line) 0
    go (inl l) = ap (λ (n : ℕ). eqb n 0) (sym (h.count l))
    go (inr l) =
        let e : (fed_long empty_long line).length ≡ 255 = omega (arith, h.few) in
        ne_eqb (fed_long empty_long line).length 0 (λ z. omega arith) ∙ sym (ne_eqb (length line) 0 (λ z. omega (arith, h.full e)))

-- one byte more
pub fed-more : (l : LongLine) (bytes : List ℕ) (byte : ℕ) → fed_long l (bytes ++ (byte ∷ [])) ≡ lengthened (fed_long l bytes) byte
unfolding fed_long
fed-more l [] byte = refl
fed-more l (b ∷ bs) byte = fed-more (lengthened l b) bs byte
