-- A number and an id, printed and read back.
-- Assumes nothing.
use mathlib.Core.Path.{◌≡◌, refl, ap, ◌∙◌}
use mathlib.Core.List.{List, [], ◌∷◌, ◌++◌}
use mathlib.Core.Bool.{Bool, true, false, ◌&&◌, ◌||◌}
use mathlib.Core.Logic.{◌⊎◌, inl, inr}
use Prim.Native.Nat.{ℕ, ◌+◌, ◌*◌, ◌/◌, ◌%◌, ◌≤◌, ◌<◌}
use native.Mathlib.Omega.{arith}
use lib.Dec.{eqb, leb}
use lib.ListN.{length}
use borrow.Author.Tests.{leb-true, le-leb, eqb-true, ne_eqb}
use Rattle.questions.specs.Search.{every}
use Rattle.questions.proofs.Bools.{both, and-fst, and-snd, and_both, or-either, lt-or-ge}
use Rattle.product.specs.Fields.{letter, digit, id_character, id_of_length, id_right}
use Rattle.session_text.specs.TermsText.{last_digit, in_two_digits, in_four_digits, decimal}
use Rattle.session_text.proofs.TermsTexts.{decimal-1, decimal-2, decimal-3, decimal-4, decimal-5}
use Rattle.file_text_print.specs.Contents.{id_text}
use Rattle.session_lines.specs.CommandLines.{digit_value}
use Rattle.file_text_lines.specs.Entries.{number_from, word_number, id_bytes}
use Rattle.delivery_lines.specs.NoticeLines.{is_id}
use Rattle.delivery_own.proofs.RowBytes.{all_of, plain, plain-is, all_append, all_more, all_none}

-- ---- digits

-- the last digit of a number is printed as a digit
pub digit-is : (n : ℕ) → digit (last_digit n) ≡ true
digit-is n = rw (le-leb 48 (48 + n % 10) (omega arith), le-leb (48 + n % 10) 57 (omega arith))

-- its value is the number modulo 10
pub digit-back : (n : ℕ) → digit_value (last_digit n) ≡ n % 10
digit-back n = omega arith

digit-plain : (n : ℕ) → plain (last_digit n) ≡ true
digit-plain n = plain-is (48 + n % 10) (omega arith) (λ e. omega arith)

-- a number in two digits has only bytes of a field
pub two-plain : (n : ℕ) → all_of plain (in_two_digits n) ≡ true
unfolding in_two_digits
two-plain n = all_more plain (last_digit (n / 10)) (last_digit n ∷ []) (digit-plain (n / 10)) (all_more plain (last_digit n) [] (digit-plain n) (all_none plain))

-- a number in four digits has only bytes of a field
pub four-plain : (n : ℕ) → all_of plain (in_four_digits n) ≡ true
unfolding in_four_digits
four-plain n = all_append plain (in_two_digits (n / 100)) (in_two_digits (n % 100)) (two-plain (n / 100)) (two-plain (n % 100))

-- ---- a number, digit by digit

module _ (most value n : ℕ) (rest : List ℕ) where
  one-step : 10 * value + n % 10 ≤ most → number_from most value (last_digit n ∷ rest) ≡ number_from most (10 * value + n % 10) rest
  unfolding number_from
  one-step h = rw (digit-is n, digit-back n, le-leb (10 * value + n % 10) most h) refl

module _ (most value n : ℕ) (rest : List ℕ) (h : n < 100) (l : 100 * value + n ≤ most) where
  two-step : number_from most value (in_two_digits n ++ rest) ≡ number_from most (100 * value + n) rest
  unfolding in_two_digits
  two-step =
      one-step most value (n / 10) (last_digit n ∷ rest) (omega arith)
      ∙ one-step most (10 * value + n / 10 % 10) n rest (omega arith)
      ∙ ap (λ (v : ℕ). number_from most v rest) (omega arith)

abbrev Back : ℕ → List ℕ → Type 0
Back n word = (number_from 65535 0 word ≡ record { there = true; value = n }) × (all_of plain word ≡ true) × (1 ≤ length word)

ends : (v n : ℕ) → v ≡ n → number_from 65535 v [] ≡ record { there = true; value = n }
unfolding number_from
ends v n e = rw e refl

module _ (n : ℕ) (h : n ≤ 65535) where
  back-1 : n < 10 → Back n (last_digit n ∷ [])
  back-1 l = (
    one-step 65535 0 n [] (omega arith) ∙ ends (10 * 0 + n % 10) n (omega arith),
    all_more plain (last_digit n) [] (digit-plain n) (all_none plain),
    omega arith,
  )

  back-2 : n < 100 → Back n (in_two_digits n)
  unfolding in_two_digits
  back-2 l = (two-step 65535 0 n [] l (omega arith) ∙ ends (100 * 0 + n) n (omega arith), two-plain n, omega arith)

  back-3 : n < 1000 → Back n (last_digit (n / 100) ∷ in_two_digits (n % 100))
  unfolding in_two_digits
  back-3 l = (
    one-step 65535 0 (n / 100) (in_two_digits (n % 100)) (omega arith)
        ∙ two-step 65535 (10 * 0 + n / 100 % 10) (n % 100) [] (omega arith) (omega arith)
        ∙ ends (100 * (10 * 0 + n / 100 % 10) + n % 100) n (omega arith),
    all_more plain (last_digit (n / 100)) (in_two_digits (n % 100)) (digit-plain (n / 100)) (two-plain (n % 100)),
    omega arith,
  )

  back-4 : n < 10000 → Back n (in_four_digits n)
  unfolding in_four_digits in_two_digits
  back-4 l = (
    two-step 65535 0 (n / 100) (in_two_digits (n % 100)) (omega arith) (omega arith)
        ∙ two-step 65535 (100 * 0 + n / 100) (n % 100) [] (omega arith) (omega arith)
        ∙ ends (100 * (100 * 0 + n / 100) + n % 100) n (omega arith),
    four-plain n,
    omega arith,
  )

  back-5 : Back n (last_digit (n / 10000) ∷ in_four_digits (n % 10000))
  unfolding in_four_digits in_two_digits
  back-5 =
      let m : ℕ = n % 10000 in (
        one-step 65535 0 (n / 10000) (in_four_digits m) (omega arith)
            ∙ two-step 65535 (10 * 0 + n / 10000 % 10) (m / 100) (in_two_digits (m % 100)) (omega arith) (omega arith)
            ∙ two-step 65535 (100 * (10 * 0 + n / 10000 % 10) + m / 100) (m % 100) [] (omega arith) (omega arith)
            ∙ ends (100 * (100 * (10 * 0 + n / 10000 % 10) + m / 100) + m % 100) n (omega arith),
        all_more plain (last_digit (n / 10000)) (in_four_digits m) (digit-plain (n / 10000)) (four-plain m),
        omega arith,
      )

  decimal-back : Back n (decimal n)
  decimal-back = one (lt-or-ge n 10)
    where
      four : 10 ≤ n → 100 ≤ n → 1000 ≤ n → (n < 10000) ⊎ (10000 ≤ n) → Back n (decimal n)
      four a b d (inl e) = rw (decimal-4 n a b d e) (back-4 e)
      four a b d (inr e) = rw (decimal-5 n a b d e) back-5

      three : 10 ≤ n → 100 ≤ n → (n < 1000) ⊎ (1000 ≤ n) → Back n (decimal n)
      three a b (inl d) = rw (decimal-3 n a b d) (back-3 d)
      three a b (inr d) = four a b d (lt-or-ge n 10000)

      two : 10 ≤ n → (n < 100) ⊎ (100 ≤ n) → Back n (decimal n)
      two a (inl b) = rw (decimal-2 n a b) (back-2 b)
      two a (inr b) = three a b (lt-or-ge n 1000)

      one : (n < 10) ⊎ (10 ≤ n) → Back n (decimal n)
      one (inl a) = rw (decimal-1 n a) (back-1 a)
      one (inr a) = two a (lt-or-ge n 100)

  -- a number of 16 bits is read back
  pub number-back : word_number (decimal n) 65535 ≡ record { there = true; value = n }
  unfolding word_number
  number-back =
      let s = decimal-back in
      let l : 1 ≤ length (decimal n) = s.2 in
      rw (ne_eqb (length (decimal n)) 0 (λ e. omega arith)) s.0

  -- a number of 16 bits in decimals has only bytes of a field
  pub number-plain : all_of plain (decimal n) ≡ true
  number-plain = decimal-back.1

-- ---- an id

-- a character of an id is a byte of a field, and no space
character-plain : (x : ℕ) → id_character x ≡ true → (plain x ≡ true) × (eqb x 32 ≡ false)
character-plain x e = go (or-either (letter x) (digit x) e)
  where
    go : (letter x ≡ true) ⊎ (digit x ≡ true) → (plain x ≡ true) × (eqb x 32 ≡ false)
    go (inl l) =
        let a : 65 ≤ x = leb-true 65 x (and-fst (leb 65 x) (leb x 90) l) in
        (plain-is x (omega arith) (λ q. omega arith), ne_eqb x 32 (λ q. omega arith))
    go (inr d) =
        let a : 48 ≤ x = leb-true 48 x (and-fst (leb 48 x) (leb x 57) d) in
        let b : x ≤ 57 = leb-true x 57 (and-snd (leb 48 x) (leb x 57) d) in
        (plain-is x (omega arith) (λ q. omega arith), ne_eqb x 32 (λ q. omega arith))

pub record IdBack (id : List ℕ) : Type 0 where
  -- its text has the form of an id
  pub right : is_id (id_text id) ≡ true
  -- its text says the four bytes of the id again
  pub bytes : id_bytes (id_text id) ≡ id
  -- its text has only bytes of a field
  pub fields : all_of plain (id_text id) ≡ true

four-true : (x y z w : Bool) → (x && y && z && w) ≡ true → (x ≡ true) × (y ≡ true) × (z ≡ true) × (w ≡ true)
four-true x y z w e =
    let s = both (x && y && z) w e in
    let t = both (x && y) z s.0 in
    let u = both x y t.0 in
    (u.0, u.1, t.1, s.1)

module _ (a b c d : ℕ) where
  abbrev id : List ℕ
  id = a ∷ b ∷ c ∷ d ∷ []

  -- what is printed of it, by how many characters it has
  text-1 : eqb a 32 ≡ false → eqb b 32 ≡ true → id_text id ≡ a ∷ []
  unfolding id_text
  text-1 p q = rw (p, q) refl

  text-2 : eqb a 32 ≡ false → eqb b 32 ≡ false → eqb c 32 ≡ true → id_text id ≡ a ∷ b ∷ []
  unfolding id_text
  text-2 p q r = rw (p, q, r) refl

  text-3 : eqb a 32 ≡ false → eqb b 32 ≡ false → eqb c 32 ≡ false → eqb d 32 ≡ true → id_text id ≡ a ∷ b ∷ c ∷ []
  unfolding id_text
  text-3 p q r s = rw (p, q, r, s) refl

  text-4 : eqb a 32 ≡ false → eqb b 32 ≡ false → eqb c 32 ≡ false → eqb d 32 ≡ false → id_text id ≡ a ∷ b ∷ c ∷ d ∷ []
  unfolding id_text
  text-4 p q r s = rw (p, q, r, s) refl

  id-1 : id_of_length id 1 ≡ true → IdBack id
  unfolding id_of_length every is_id id_bytes
  id-1 e =
      let s = four-true (id_character a) (eqb b 32) (eqb c 32) (eqb d 32) e in
      let p = character-plain a s.0 in
      let t : id_text id ≡ a ∷ [] = text-1 p.1 s.1 in
      record {
        right = rw t s.0;
        bytes = rw (t, eqb-true b 32 s.1, eqb-true c 32 s.2, eqb-true d 32 s.3) refl;
        fields = rw t (all_more plain a [] p.0 (all_none plain));
      }

  id-2 : id_of_length id 2 ≡ true → IdBack id
  unfolding id_of_length every is_id id_bytes
  id-2 e =
      let s = four-true (id_character a) (id_character b) (eqb c 32) (eqb d 32) e in
      let p = character-plain a s.0 in
      let q = character-plain b s.1 in
      let t : id_text id ≡ a ∷ b ∷ [] = text-2 p.1 q.1 s.2 in
      record {
        right = rw t (and_both s.0 s.1);
        bytes = rw (t, eqb-true c 32 s.2, eqb-true d 32 s.3) refl;
        fields = rw t (all_more plain a (b ∷ []) p.0 (all_more plain b [] q.0 (all_none plain)));
      }

  id-3 : id_of_length id 3 ≡ true → IdBack id
  unfolding id_of_length every is_id id_bytes
  id-3 e =
      let s = four-true (id_character a) (id_character b) (id_character c) (eqb d 32) e in
      let p = character-plain a s.0 in
      let q = character-plain b s.1 in
      let r = character-plain c s.2 in
      let t : id_text id ≡ a ∷ b ∷ c ∷ [] = text-3 p.1 q.1 r.1 s.3 in
      record {
        right = rw t (and_both {a = id_character a && id_character b} (and_both s.0 s.1) s.2);
        bytes = rw (t, eqb-true d 32 s.3) refl;
        fields = rw t (all_more plain a (b ∷ c ∷ []) p.0 (all_more plain b (c ∷ []) q.0 (all_more plain c [] r.0 (all_none plain))));
      }

  id-4 : id_of_length id 4 ≡ true → IdBack id
  unfolding id_of_length every is_id id_bytes
  id-4 e =
      let s = four-true (id_character a) (id_character b) (id_character c) (id_character d) e in
      let p = character-plain a s.0 in
      let q = character-plain b s.1 in
      let r = character-plain c s.2 in
      let u = character-plain d s.3 in
      let t : id_text id ≡ a ∷ b ∷ c ∷ d ∷ [] = text-4 p.1 q.1 r.1 u.1 in
      record {
        right = rw t e;
        bytes = rw t refl;
        fields =
            rw t
            (all_more plain a (b ∷ c ∷ d ∷ []) p.0
            (all_more plain b (c ∷ d ∷ []) q.0 (all_more plain c (d ∷ []) r.0 (all_more plain d [] u.0 (all_none plain)))));
      }

  -- an id of a file is read back
  pub id-back : id_right id ≡ true → IdBack id
  unfolding id_right
  id-back e = last (or-either (id_of_length id 1 || id_of_length id 2 || id_of_length id 3) (id_of_length id 4) e)
    where
      first : (id_of_length id 1 ≡ true) ⊎ (id_of_length id 2 ≡ true) → IdBack id
      first (inl q) = id-1 q
      first (inr q) = id-2 q

      second : ((id_of_length id 1 || id_of_length id 2) ≡ true) ⊎ (id_of_length id 3 ≡ true) → IdBack id
      second (inl q) = first (or-either (id_of_length id 1) (id_of_length id 2) q)
      second (inr q) = id-3 q

      last : ((id_of_length id 1 || id_of_length id 2 || id_of_length id 3) ≡ true) ⊎ (id_of_length id 4 ≡ true) → IdBack id
      last (inl q) = second (or-either (id_of_length id 1 || id_of_length id 2) (id_of_length id 3) q)
      last (inr q) = id-4 q
