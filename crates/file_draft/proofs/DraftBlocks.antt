-- The blocks of the file are the blocks that were put together, and their checks are right.
-- Assumes nothing.
use Prim.Native.Nat.{ℕ, zero, suc, ◌+◌, ◌*◌, ◌%◌, ◌<◌}
use mathlib.Core.Path.{◌≡◌, refl, ◌∙◌, sym, ap, ap₂}
use mathlib.Core.Bool.{true}
use mathlib.Core.Logic.{◌⊎◌, inl, inr}
use mathlib.Core.List.{List, [], ◌∷◌, ◌++◌}
use native.Mathlib.Nat.{le_refl, eq-or-lt_of_le, le_of_suc-le-suc, mod-lt}
use native.Mathlib.Omega.{arith}
use lib.ListN.{length, take, drop, get_or, length-append, length-drop, get_or-append}
use lib.Seq.{take-append-le, drop-append-le, take_all, drop_at, get_or-append-add}
use borrow.Author.Tests.{eq-eqb}
use Rattle.questions.proofs.Search.{every-all}
use Rattle.calendar.specs.declared.Calendar.{Calendar}
use Rattle.file_blocks.specs.Blocks.{block_count, block_of, number_at, weighted_sum, check_right, checks_right}
use Rattle.file_blocks.proofs.Files.{block_in}
use Rattle.file_calendar.specs.Calendars.{listed}
use Rattle.file_calendar.proofs.Filling.{listed-length, listed_at}
use Rattle.file_draft.specs.Drafts.{high_byte, low_byte, block_byte, checked, block_for, blocks_for, blocks_in, file_of}

-- a block has 512 bytes
pub checked-length : (body : List ℕ) → length body ≡ 510 → length (checked body) ≡ 512
unfolding checked
checked-length body e = length-append body _ ∙ ap (λ (n : ℕ). n + 2) e

-- the sum over the first bytes depends on them alone
pub sum_same : (a b : List ℕ) (n : ℕ) → ((j : ℕ) → j < n → get_or a j 0 ≡ get_or b j 0) → weighted_sum a n ≡ weighted_sum b n
unfolding weighted_sum
sum_same a b zero h = refl
sum_same a b (suc n) h =
    ap₂ ◌+◌ (sum_same a b n (λ j l. h j (omega arith))) (ap (λ (x : ℕ). suc n * x) (h n (le_refl (suc n))))

-- the check that stands after the body is right
checked-right : (body : List ℕ) → length body ≡ 510 → check_right (checked body) ≡ true
unfolding checked check_right number_at
checked-right body e = eq-eqb _ _ (sum ∙ sym stored)
  where
    c : ℕ
    c = weighted_sum body 510 % 65521

    block : List ℕ
    block = body ++ (high_byte c ∷ low_byte c ∷ [])

    sum : weighted_sum block 510 % 65521 ≡ c
    sum =
        ap (λ (x : ℕ). x % 65521)
        (sum_same block body 510 (λ j h. get_or-append body (high_byte c ∷ low_byte c ∷ []) 0 j (omega arith)))

    tail : (i : ℕ) → get_or block (510 + i) 0 ≡ get_or (high_byte c ∷ low_byte c ∷ []) i 0
    tail i =
        ap (λ (n : ℕ). get_or block (n + i) 0) (sym e) ∙ get_or-append-add body (high_byte c ∷ low_byte c ∷ []) i 0

    small : c < 65521
    small = mod-lt (weighted_sum body 510) (omega arith)

    stored : 256 * get_or block 510 0 + get_or block (510 + 1) 0 ≡ c
    stored = rw (tail 0, tail 1) (omega (arith, small))

module _ (cal : Calendar) (records : List ℕ) where
  -- each block that is put together has 512 bytes
  pub block-length : (k : ℕ) → length (block_for cal records k) ≡ 512
  block-length k =
      checked-length (listed 0 510 (block_byte cal records k)) (listed-length 0 510 (block_byte cal records k))

  -- a byte before the check of a block that is put together is the byte stated for it
  pub block-byte : (k j : ℕ) → j < 510 → get_or (block_for cal records k) j 0 ≡ block_byte cal records k j
  unfolding checked
  block-byte k j h =
      get_or-append (listed 0 510 (block_byte cal records k)) _ 0 j (omega (arith, listed-length 0 510 (block_byte cal records k)))
      ∙ listed_at 510 (block_byte cal records k) j h

  -- the first 0 blocks have no bytes
  pub blocks-none : blocks_for cal records 0 ≡ []
  unfolding blocks_for
  blocks-none = refl

  -- the first blocks and one more are those blocks, then that block
  pub blocks_more : (n : ℕ) → blocks_for cal records (suc n) ≡ blocks_for cal records n ++ block_for cal records n
  unfolding blocks_for
  blocks_more n = refl

  -- the first n blocks have 512 bytes each
  pub blocks-length : (n : ℕ) → length (blocks_for cal records n) ≡ 512 * n
  unfolding blocks_for
  blocks-length zero = refl
  blocks-length (suc n) =
      length-append (blocks_for cal records n) (block_for cal records n) ∙ ap₂ ◌+◌ (blocks-length n) (block-length n) ∙ omega arith

  -- block k stands at its place
  placed : (n k : ℕ) → k < n → take 512 (drop (512 * k) (blocks_for cal records n)) ≡ block_for cal records k
  unfolding blocks_for
  placed zero k h = absurd (omega arith)
  placed (suc n) k h = go (eq-or-lt_of_le (le_of_suc-le-suc h)) (λ l. placed n k l)
    where
      before : List ℕ
      before = blocks_for cal records n

      here : List ℕ
      here = block_for cal records n

      go : (k ≡ n) ⊎ (k < n) → (k < n → take 512 (drop (512 * k) before) ≡ block_for cal records k)
          → take 512 (drop (512 * k) (before ++ here)) ≡ block_for cal records k
      go (inl q) ih =
          ap (take 512) (drop_at before here (512 * k) (blocks-length n ∙ ap (λ (m : ℕ). 512 * m) (sym q)))
          ∙ take_all 512 here (omega (arith, block-length n))
          ∙ ap (block_for cal records) (sym q)
      go (inr l) ih =
          ap (take 512) (drop-append-le (512 * k) before here (omega (arith, blocks-length n)))
          ∙ take-append-le 512 (drop (512 * k) before) here (omega (arith, length-drop (512 * k) before, blocks-length n))
          ∙ ih l

  -- the file has 512 bytes for each of its blocks
  pub file-length : length (file_of cal records) ≡ 512 * blocks_in cal records
  unfolding file_of
  file-length = blocks-length (blocks_in cal records)

  -- the count of blocks of the file is that of the years and the product blocks
  pub file-blocks : block_count (file_of cal records) ≡ blocks_in cal records
  file-blocks = omega (arith, file-length)

  -- each block of the file is the block that was put together for its index
  pub file-block : (k : ℕ) → k < blocks_in cal records → block_of (file_of cal records) k ≡ block_for cal records k
  unfolding file_of
  file-block k h = block_in (file_of cal records) k (omega (arith, file-blocks)) ∙ placed (blocks_in cal records) k h

  -- 2, of the file
  pub checks-written : checks_right (file_of cal records) ≡ true
  unfolding checks_right
  checks-written =
      every-all (λ k. check_right (block_of (file_of cal records) k)) (block_count (file_of cal records))
      (λ k h.
      ap check_right (file-block k (omega (arith, file-blocks)))
      ∙ checked-right (listed 0 510 (block_byte cal records k)) (listed-length 0 510 (block_byte cal records k)))
