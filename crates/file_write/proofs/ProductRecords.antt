-- The record of a product: read again it is the product, and the record of what a right record says is that record.
-- Assumes nothing.
use Prim.Native.Nat.{ℕ, ◌+◌, ◌*◌, ◌/◌, ◌%◌, ◌≤◌, ◌<◌}
use mathlib.Core.Path.{◌≡◌, refl, ◌∙◌, sym, ap₂}
use mathlib.Core.Bool.{Bool, true, false, ◌&&◌, and-true, and-false}
use mathlib.Core.Logic.{◌⊎◌, inl, inr}
use mathlib.Core.List.{List, [], ◌∷◌, ◌++◌}
use native.Mathlib.Omega.{arith}
use lib.Dec.{leb}
use lib.ListN.{length, take, drop, get_or, replicate, length-drop, get_or-replicate, take-append-drop}
use lib.Seq.{ext_get_or, length-take-le, get_or-take, get_or-drop}
use Rattle.questions.specs.Search.{every}
use borrow.Author.Tests.{le-leb, lt-leb}
use Rattle.questions.proofs.Bools.{lt-or-ge}
use Rattle.product.specs.Fields.{kind_number, kind_right, file_size_right, fields_right, product_right}
use Rattle.product.specs.declared.Product.{Product}
use Rattle.product.proofs.KindNumbers.{kind-back, number-back}
use Rattle.product.proofs.RightFields.{kind-of-fields}
use Rattle.file_blocks.specs.Blocks.{number_at, zeros}
use Rattle.file_records.specs.Records.{three_bytes, four_bytes, size_at, record_right}
use Rattle.file_records.proofs.RecordParts.{RecordParts, record-parts}
use Rattle.file_calendar.specs.Calendars.{listed}
use Rattle.file_calendar.proofs.Filling.{listed-length, listed_at}
use Rattle.file_load.specs.Products.{product_from}
use Rattle.file_write.specs.Writing.{field_bytes, shares_of, record_bytes}
use Rattle.file_write.specs.FilesWritten.{are_bytes, RecordOf}
use Rattle.file_write.proofs.ZeroBytes.{byte-below, zero-at}

four_is : (l : List ℕ) → length l ≡ 4 → four_bytes l 0 ≡ l
unfolding four_bytes
four_is [] e = absurd (omega arith)
four_is (a ∷ []) e = absurd (omega arith)
four_is (a ∷ b ∷ []) e = absurd (omega arith)
four_is (a ∷ b ∷ c ∷ []) e = absurd (omega arith)
four_is (a ∷ b ∷ c ∷ d ∷ []) e = refl
four_is (a ∷ b ∷ c ∷ d ∷ x ∷ l) e = absurd (omega arith)

three-is : (l : List ℕ) → length l ≡ 3 → three_bytes l 0 ≡ l
unfolding three_bytes
three-is [] e = absurd (omega arith)
three-is (a ∷ []) e = absurd (omega arith)
three-is (a ∷ b ∷ []) e = absurd (omega arith)
three-is (a ∷ b ∷ c ∷ []) e = refl
three-is (a ∷ b ∷ c ∷ x ∷ l) e = absurd (omega arith)

two_bytes : (n : ℕ) → 256 * (n / 256) + n % 256 ≡ n
two_bytes n = omega arith

-- the shares and ten-thousandths of a size
shares-in : (size : ℕ) → size ≤ 655359999 → shares_of size ≡ size / 10000
unfolding shares_of
shares-in size h = rw (le-leb size 655359999 h)

shares_out : (size : ℕ) → 655359999 < size → shares_of size ≡ 0
unfolding shares_of
shares_out size h = rw (lt-leb size 655359999 h)

-- a size that a record can have is right in it where it is a share or more
file-size : (size : ℕ) → size ≤ 655359999 → file_size_right (size / 10000) (size % 10000) ≡ leb 10000 size
file-size size h =
    let most : size / 10000 ≤ 65535 = omega arith in
    let part : size % 10000 ≤ 9999 = omega arith in
    rw (le-leb (size / 10000) 65535 most, le-leb (size % 10000) 9999 part) (go (lt-or-ge size 10000))
  where
    go : (size < 10000) ⊎ (10000 ≤ size) → (leb 1 (size / 10000) && true && true) ≡ leb 10000 size
    go (inl l) =
        let none : size / 10000 < 1 = omega arith in
        rw (lt-leb 1 (size / 10000) none, lt-leb 10000 size l)
    go (inr l) =
        let some : 1 ≤ size / 10000 = omega arith in
        rw (le-leb 1 (size / 10000) some, le-leb 10000 size l)

-- fields with a larger size are not right
fields_out : (id group market : List ℕ) (kind size tick : ℕ) (currency : List ℕ) → 655359999 < size
    → fields_right id group market kind size tick currency ≡ false
unfolding fields_right
fields_out id group market kind size tick currency h = simp (lt-leb size 655359999 h, and-false)

false-twice : (a b : Bool) → (a && false && b) ≡ false
false-twice a b = simp and-false

-- the fields of a product's record
module _ (p : Product) where
  bytes-long : length (record_bytes p) ≡ 32
  unfolding record_bytes field_bytes four_bytes three_bytes
  bytes-long = refl

  id-is : four_bytes (record_bytes p) 0 ≡ four_bytes p.id 0
  unfolding record_bytes field_bytes four_bytes three_bytes
  id-is = refl

  group-is : four_bytes (record_bytes p) 4 ≡ four_bytes p.group 0
  unfolding record_bytes field_bytes four_bytes three_bytes
  group-is = refl

  market-is : four_bytes (record_bytes p) 8 ≡ four_bytes p.market 0
  unfolding record_bytes field_bytes four_bytes three_bytes
  market-is = refl

  kind-is : get_or (record_bytes p) 12 0 ≡ kind_number p.kind
  unfolding record_bytes field_bytes four_bytes three_bytes
  kind-is = refl

  shares-is : number_at (record_bytes p) 13 ≡ shares_of p.size
  unfolding record_bytes field_bytes four_bytes three_bytes number_at
  shares-is = two_bytes (shares_of p.size)

  part-is : number_at (record_bytes p) 20 ≡ p.size % 10000
  unfolding record_bytes field_bytes four_bytes three_bytes number_at
  part-is = two_bytes (p.size % 10000)

  tick_is : number_at (record_bytes p) 15 ≡ p.tick
  unfolding record_bytes field_bytes four_bytes three_bytes number_at
  tick_is = two_bytes p.tick

  currency-is : three_bytes (record_bytes p) 17 ≡ three_bytes p.currency 0
  unfolding record_bytes field_bytes four_bytes three_bytes
  currency-is = refl

  rest-is : zeros (record_bytes p) 22 10 ≡ true
  unfolding record_bytes field_bytes four_bytes three_bytes zeros every
  rest-is = refl

  -- a size that a record can have
  module _ (h : p.size ≤ 655359999) where
    whole_is : number_at (record_bytes p) 13 ≡ p.size / 10000
    whole_is = shares-is ∙ shares-in p.size h

    size_is : size_at (record_bytes p) ≡ p.size
    unfolding size_at
    size_is = rw (whole_is, part-is) (omega arith)

  module _ (id : length p.id ≡ 4) (group : length p.group ≡ 4) (market : length p.market ≡ 4) (currency : length p.currency ≡ 3) where
    read : p.size ≤ 655359999 → product_from (record_bytes p) ≡ p
    unfolding product_from
    read h =
        rw (
          id-is ∙ four_is p.id id,
          group-is ∙ four_is p.group group,
          market-is ∙ four_is p.market market,
          kind-is,
          kind-back p.kind,
          size_is h,
          tick_is,
          currency-is ∙ three-is p.currency currency,
        )

    right : record_right (record_bytes p) ≡ (product_right p && leb 10000 p.size)
    unfolding record_right product_right
    right = go (lt-or-ge 655359999 p.size)
      where
        fields : Bool
        fields = fields_right p.id p.group p.market (kind_number p.kind) p.size p.tick p.currency

        go : (655359999 < p.size) ⊎ (p.size ≤ 655359999) → record_right (record_bytes p) ≡ (product_right p && leb 10000 p.size)
        go (inl h) =
            rw (shares-is, shares_out p.size h, fields_out p.id p.group p.market (kind_number p.kind) p.size p.tick p.currency h)
            (false-twice (fields_right (four_bytes (record_bytes p) 0) (four_bytes (record_bytes p) 4) (four_bytes (record_bytes p) 8) (get_or (record_bytes p) 12 0)
            (size_at (record_bytes p)) (number_at (record_bytes p) 15) (three_bytes (record_bytes p) 17)) (zeros (record_bytes p) 22 10))
        go (inr h) =
            rw (
              id-is ∙ four_is p.id id,
              group-is ∙ four_is p.group group,
              market-is ∙ four_is p.market market,
              kind-is,
              size_is h,
              whole_is h,
              part-is,
              tick_is,
              currency-is ∙ three-is p.currency currency,
              rest-is,
              file-size p.size h,
            ) (and-true (fields && leb 10000 p.size))

    -- 'the record of a product', of fields with the lengths of a product's arrays
    pub record_of : RecordOf p
    record_of = record { long = bytes-long; read = read; right = right }

-- a right record of 32 bytes
module _ (r : List ℕ) (long : length r ≡ 32) (bytes : are_bytes r ≡ true) (right : record_right r ≡ true) where
  parts : RecordParts r
  parts = record-parts r right

  kind-right : kind_right (get_or r 12 0) ≡ true
  kind-right = kind-of-fields _ _ _ _ _ _ _ parts.fields

  high-again : (i : ℕ) → number_at r i / 256 ≡ get_or r i 0
  unfolding number_at
  high-again i = omega (arith, byte-below r bytes (i + 1))

  low_again : (i : ℕ) → number_at r i % 256 ≡ get_or r (i + 1) 0
  unfolding number_at
  low_again i = omega (arith, byte-below r bytes (i + 1))

  shares-again : shares_of (size_at r) ≡ number_at r 13
  unfolding size_at
  shares-again =
      let p = parts in
      shares-in (10000 * number_at r 13 + number_at r 20) (omega (arith, p.shares-most, p.part-most)) ∙ omega (arith, p.part-most)

  part-again : size_at r % 10000 ≡ number_at r 20
  unfolding size_at
  part-again = let p = parts in omega (arith, p.part-most)

  front : take 22 r ≡ listed 0 22 (λ i. get_or r i 0)
  front =
      ext_get_or 0 (take 22 r) (listed 0 22 (λ i. get_or r i 0)) (length-take-le 22 r (omega arith) ∙ sym (listed-length 0 22 (λ i. get_or r i 0)))
      (λ j h.
      let l : j < 22 = omega (arith, length-take-le 22 r (omega arith)) in
      get_or-take 22 r j 0 l ∙ sym (listed_at 22 (λ i. get_or r i 0) j l))

  back : drop 22 r ≡ replicate 10 0
  back =
      ext_get_or 0 (drop 22 r) (replicate 10 0) (length-drop 22 r ∙ omega arith)
      (λ j h.
      let l : j < 10 = omega (arith, length-drop 22 r) in
      get_or-drop 22 r j 0 ∙ zero-at r 22 10 (22 + j) parts.rest (omega arith) (omega arith) ∙ sym (get_or-replicate 10 j 0 0 l))

  -- what the record says, written again, is the record
  pub record-again : record_bytes (product_from r) ≡ r
  unfolding record_bytes field_bytes product_from four_bytes three_bytes listed
  record-again =
      rw (number-back (get_or r 12 0) kind-right, shares-again, part-again, high-again 13, low_again 13, high-again 15, low_again 15, high-again 20, low_again 20)
      (ap₂ ◌++◌ (sym front) (sym back) ∙ take-append-drop 22 r)
