-- The headers of the file: kinds, years, counts and indices, and question 3.
-- Assumes nothing.
use Prim.Native.Nat.{ℕ, ◌+◌, ◌-◌, ◌*◌, ◌/◌, ◌%◌, ◌≤◌, ◌<◌}
use mathlib.Core.Path.{◌≡◌, refl, ◌∙◌, sym, ap}
use mathlib.Core.Bool.{Bool, true, false, ◌&&◌, ◌||◌}
use mathlib.Core.Logic.{◌⊎◌, inl, inr}
use mathlib.Core.List.{List}
use native.Mathlib.Omega.{arith}
use lib.Dec.{eqb, leb}
use lib.ListN.{get_or}
use borrow.Author.Tests.{eq-eqb, ne_eqb, lt-ltb, le-ltb, le-leb}
use Rattle.questions.specs.Search.{every}
use Rattle.questions.proofs.Bools.{same_test, lt-or-ge}
use Rattle.questions.proofs.Search.{every-at, every-all}
use Rattle.calendar.specs.declared.Calendar.{Calendar}
use Rattle.file_blocks.specs.Blocks.{block_count, block_of, number_at, zeros, block_kind_right, header_right, headers_right}
use Rattle.file_draft.specs.Drafts.{header_byte, calendar_byte, product_blocks, records_within, product_byte, block_byte, block_for, blocks_in, file_of}
use Rattle.file_draft.specs.Drafts.{years_right}
use Rattle.file_draft.proofs.DraftBlocks.{block-byte, file-blocks, file-block}

-- what a block's first 16 bytes say
pub record Header (b : List ℕ) (kind number index : ℕ) : Type 0 where
  -- byte 0 of the block is its kind
  pub kind-is : get_or b 0 0 ≡ kind
  -- byte 1 of the block, its version, is 1
  pub version : get_or b 1 0 ≡ 1
  -- bytes 2 to 3 of the block are its year or its count of records
  pub number_is : number_at b 2 ≡ number
  -- bytes 4 to 5 of the block are its index
  pub index_is : number_at b 4 ≡ index
  -- bytes 6 to 15 of the block are zero
  pub rest : zeros b 6 10 ≡ true

two_bytes : (n : ℕ) → 256 * (n / 256) + n % 256 ≡ n
two_bytes n = omega arith

header_of : (b : List ℕ) (kind number index : ℕ) → ((j : ℕ) → j < 16 → get_or b j 0 ≡ header_byte kind number index j) → Header b kind number index
unfolding header_byte number_at zeros
header_of b kind number index h =
    record {
      kind-is = h 0 (omega arith);
      version = h 1 (omega arith);
      number_is = rw (h 2 (omega arith), h 3 (omega arith)) (two_bytes number);
      index_is = rw (h 4 (omega arith), h 5 (omega arith)) (two_bytes index);
      rest = every-all (λ i. eqb (get_or b (6 + i) 0) 0) 10 (λ i l. eq-eqb (get_or b (6 + i) 0) 0 (h (6 + i) (omega arith) ∙ nothing i));
    }
  where
    nothing : (i : ℕ) → header_byte kind number index (6 + i) ≡ 0
    nothing i =
        rw (
          ne_eqb (6 + i) 0 (λ z. omega arith),
          ne_eqb (6 + i) 1 (λ z. omega arith),
          ne_eqb (6 + i) 2 (λ z. omega arith),
          ne_eqb (6 + i) 3 (λ z. omega arith),
          ne_eqb (6 + i) 4 (λ z. omega arith),
          ne_eqb (6 + i) 5 (λ z. omega arith),
        )

module _ (cal : Calendar) (records : List ℕ) where
  abbrev years : ℕ
  years = cal.cover.years

  abbrev first : ℕ
  first = cal.cover.first_year

  -- a byte of a block before the count of years is that of the calendar block
  pub calendar-byte : (k j : ℕ) → k < years → block_byte cal records k j ≡ calendar_byte cal k j
  unfolding block_byte
  calendar-byte k j h = rw (lt-ltb k years h)

  -- a byte of a block from the count of years on is that of the product block
  pub product-byte : (k j : ℕ) → years ≤ k → block_byte cal records k j ≡ product_byte records (k - years) k j
  unfolding block_byte
  product-byte k j h = rw (le-ltb k years h)

  calendar-head : (k j : ℕ) → j < 16 → calendar_byte cal k j ≡ header_byte 1 (first + k) k j
  unfolding calendar_byte
  calendar-head k j l = rw (lt-ltb j 16 l)

  product-head : (n k j : ℕ) → j < 16 → product_byte records n k j ≡ header_byte 2 (records_within records n) k j
  unfolding product_byte
  product-head n k j l = rw (lt-ltb j 16 l)

  -- the block of a year has the header of a calendar block, with its year and its index
  pub calendar-header : (k : ℕ) → k < years → Header (block_for cal records k) 1 (first + k) k
  calendar-header k h =
      header_of (block_for cal records k) 1 (first + k) k
      (λ j l. block-byte cal records k j (omega arith) ∙ calendar-byte k j h ∙ calendar-head k j l)

  -- each block after the years has the header of a product block, with its count of records and its index
  pub product-header : (k : ℕ) → years ≤ k → Header (block_for cal records k) 2 (records_within records (k - years)) k
  product-header k h =
      header_of (block_for cal records k) 2 (records_within records (k - years)) k
      (λ j l. block-byte cal records k j (omega arith) ∙ product-byte k j h ∙ product-head (k - years) k j l)

  abbrev year_right : ℕ → Bool
  year_right k = leb 2000 (first + k) && leb (first + k) 2099

  calendar-right : (k : ℕ) → k < years → header_right (block_for cal records k) k ≡ year_right k
  unfolding header_right block_kind_right
  calendar-right k h =
      let c = calendar-header k h in
      rw (c.kind-is, c.version, c.number_is, c.index_is, c.rest, eq-eqb k k refl)
      (tidy (leb 2000 (first + k)) (leb (first + k) 2099))
    where
      tidy : (a b : Bool) → (((a && b || false) && true) && true && true) ≡ (a && b)
      tidy true true = refl
      tidy true false = refl
      tidy false b = refl

  some-within : (n : ℕ) → n < product_blocks records → (1 ≤ records_within records n) × (records_within records n ≤ 15)
  some-within n h = (omega arith, omega arith)

  product-right : (k : ℕ) → years ≤ k → k < blocks_in cal records → header_right (block_for cal records k) k ≡ true
  unfolding header_right block_kind_right
  product-right k h l =
      let c = product-header k h in
      let b = some-within (k - years) (omega arith) in
      rw (
        c.kind-is,
        c.version,
        c.number_is,
        c.index_is,
        c.rest,
        eq-eqb k k refl,
        le-leb 1 (records_within records (k - years)) b.0,
        le-leb (records_within records (k - years)) 15 b.1,
      )

  -- 3, of the file: every year of the cover is one of 2000 to 2099
  pub headers-written : headers_right (file_of cal records) ≡ years_right cal.cover
  unfolding headers_right years_right
  headers-written =
      same_test (every (block_count (file_of cal records)) right) (every years year_right)
      (λ e.
      every-all year_right years
      (λ k h. sym (at k (omega arith) ∙ calendar-right k h) ∙ every-at right (block_count (file_of cal records)) k e (omega (arith, file-blocks cal records))))
      (λ e.
      every-all right (block_count (file_of cal records)) (λ k h. side e k (omega (arith, file-blocks cal records)) (lt-or-ge k years)))
    where
      right : ℕ → Bool
      right k = header_right (block_of (file_of cal records) k) k

      at : (k : ℕ) → k < blocks_in cal records → right k ≡ header_right (block_for cal records k) k
      at k h = ap (λ (b : List ℕ). header_right b k) (file-block cal records k h)

      side : every years year_right ≡ true → (k : ℕ) → k < blocks_in cal records → (k < years) ⊎ (years ≤ k) → right k ≡ true
      side e k h (inl l) = at k h ∙ calendar-right k l ∙ every-at year_right years k e l
      side e k h (inr l) = at k h ∙ product-right k l h
