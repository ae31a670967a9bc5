-- The records of a file whose product blocks but the last are full, byte by byte.
-- Assumes nothing.
use Prim.Native.Nat.{ℕ, zero, suc, ◌+◌, ◌*◌, ◌≤◌, ◌<◌}
use mathlib.Core.Path.{◌≡◌, refl, ◌∙◌, sym, ap, ap₂}
use mathlib.Core.Bool.{true, false}
use mathlib.Core.Logic.{◌⊎◌, inl, inr}
use mathlib.Core.List.{List, [], ◌++◌}
use native.Mathlib.Nat.{le_refl, add-zero, eq-or-lt_of_le, le_of_suc-le-suc}
use native.Mathlib.Omega.{arith}
use lib.ListN.{length, drop, get_or, length-append, length-drop, get_or-append, get_or-eq_default}
use lib.Seq.{length-take-le, get_or-take, get_or-drop, get_or-append-add}
use Rattle.questions.proofs.Bools.{lt-or-ge}
use Rattle.file_blocks.specs.Blocks.{block_count, block_of, is_products, records_of_block}
use Rattle.file_write.specs.FilesWritten.{block_records, records_up_to, records_of}

-- the records of a block that counts c
module _ (b : List ℕ) (c : ℕ) (long : length b ≡ 512) (products : is_products b ≡ true) (count : records_of_block b ≡ c) (most : c ≤ 15) where
  block-long : length (block_records b) ≡ 32 * c
  unfolding block_records
  block-long = rw (products, count) (length-take-le (32 * c) (drop 16 b) (omega (arith, length-drop 16 b)))

  block_at : (i : ℕ) → i < 32 * c → get_or (block_records b) i 0 ≡ get_or b (16 + i) 0
  unfolding block_records
  block_at i h = rw (products, count) (get_or-take (32 * c) (drop 16 b) i 0 h ∙ get_or-drop 16 b i 0)

no-records : (b : List ℕ) → is_products b ≡ false → block_records b ≡ []
unfolding block_records
no-records b e = rw e

-- a file of y blocks that are no product blocks, then m full product blocks and one that counts c
pub record Shape (f : List ℕ) (y m c : ℕ) : Type 0 where
  -- the file has y other blocks, m full product blocks and one last product block
  pub blocks : block_count f ≡ y + suc m
  -- each block of the file has 512 bytes
  pub long : (k : ℕ) → k < block_count f → length (block_of f k) ≡ 512
  -- no block before the product blocks is a product block
  pub others : (k : ℕ) → k < y → is_products (block_of f k) ≡ false
  -- each block after the first y blocks is a product block
  pub products : (k : ℕ) → y ≤ k → k < block_count f → is_products (block_of f k) ≡ true
  -- each product block before the last has 15 records
  pub full : (i : ℕ) → i < m → records_of_block (block_of f (y + i)) ≡ 15
  -- the last product block has c records
  pub last : records_of_block (block_of f (y + m)) ≡ c
  -- the last product block has at most 15 records
  pub most : c ≤ 15

module _ (f : List ℕ) (y m c : ℕ) (s : Shape f y m c) where
  upto-none : (k : ℕ) → k ≤ y → records_up_to f k ≡ []
  unfolding records_up_to
  upto-none zero h = refl
  upto-none (suc k) h = rw (upto-none k (omega arith), no-records (block_of f k) (s.others k h))

  -- product block i
  abbrev block : ℕ → List ℕ
  block i = block_of f (y + i)

  long-at : (i : ℕ) → i ≤ m → length (block i) ≡ 512
  long-at i h = s.long (y + i) (omega (arith, s.blocks))

  products_at : (i : ℕ) → i ≤ m → is_products (block i) ≡ true
  products_at i h = s.products (y + i) (omega arith) (omega (arith, s.blocks))

  -- the records of the product blocks before block i
  abbrev upto : ℕ → List ℕ
  upto i = records_up_to f (y + i)

  upto-more : (n : ℕ) → records_up_to f (suc n) ≡ records_up_to f n ++ block_records (block_of f n)
  unfolding records_up_to
  upto-more n = refl

  upto_next : (i : ℕ) → upto (suc i) ≡ upto i ++ block_records (block i)
  upto_next i =
      let e : y + suc i ≡ suc (y + i) = omega arith in
      ap (records_up_to f) e ∙ upto-more (y + i)

  upto-long : (i : ℕ) → i ≤ m → length (upto i) ≡ 480 * i
  upto-long zero h = ap length (ap (records_up_to f) (add-zero y) ∙ upto-none y (le_refl y))
  upto-long (suc i) h =
      ap length (upto_next i)
      ∙ length-append (upto i) (block_records (block i))
      ∙ ap₂ ◌+◌ (upto-long i (omega arith)) (block-long (block i) 15 (long-at i (omega arith)) (products_at i (omega arith)) (s.full i h) (omega arith))
      ∙ omega arith

  -- the records of block j, among those of the blocks before block i
  upto-at : (i j x : ℕ) → i ≤ m → j < i → x < 480 → get_or (upto i) (480 * j + x) 0 ≡ get_or (block j) (16 + x) 0
  upto-at zero j x h l g = absurd (omega arith)
  upto-at (suc i) j x h l g =
      ap (λ (r : List ℕ). get_or r (480 * j + x) 0) (upto_next i)
      ∙ go (eq-or-lt_of_le (le_of_suc-le-suc l)) (λ a. upto-at i j x (omega arith) a g)
    where
      here : List ℕ
      here = block_records (block i)

      go : (j ≡ i) ⊎ (j < i) → (j < i → get_or (upto i) (480 * j + x) 0 ≡ get_or (block j) (16 + x) 0)
          → get_or (upto i ++ here) (480 * j + x) 0 ≡ get_or (block j) (16 + x) 0
      go (inl q) ih =
          let p : 480 * j + x ≡ length (upto i) + x = omega (arith, upto-long i (omega arith)) in
          ap (λ (n : ℕ). get_or (upto i ++ here) n 0) p
          ∙ get_or-append-add (upto i) here x 0
          ∙ block_at (block i) 15 (long-at i (omega arith)) (products_at i (omega arith)) (s.full i h) (omega arith) x (omega arith)
          ∙ ap (λ (n : ℕ). get_or (block n) (16 + x) 0) (sym q)
      go (inr a) ih = get_or-append (upto i) here 0 (480 * j + x) (omega (arith, upto-long i (omega arith))) ∙ ih a

  all-records : records_of f ≡ upto m ++ block_records (block m)
  unfolding records_of
  all-records = ap (records_up_to f) s.blocks ∙ upto_next m

  last-long : length (block_records (block m)) ≡ 32 * c
  last-long = block-long (block m) c (long-at m (le_refl m)) (products_at m (le_refl m)) s.last s.most

  -- the records of the file have 480 bytes for each full product block and 32 for each record of the last
  pub records-long : length (records_of f) ≡ 480 * m + 32 * c
  records-long =
      ap length all-records ∙ length-append (upto m) (block_records (block m)) ∙ ap₂ ◌+◌ (upto-long m (le_refl m)) last-long

  -- byte 16 + x of product block j, where what the last block does not use is zero
  pub records-at : ((x : ℕ) → 32 * c ≤ x → x < 480 → get_or (block m) (16 + x) 0 ≡ 0) → (j x : ℕ) → j ≤ m → x < 480
      → get_or (records_of f) (480 * j + x) 0 ≡ get_or (block j) (16 + x) 0
  records-at unused j x h g = ap (λ (r : List ℕ). get_or r (480 * j + x) 0) all-records ∙ go (eq-or-lt_of_le h)
    where
      last : List ℕ
      last = block_records (block m)

      side : (x < 32 * c) ⊎ (32 * c ≤ x) → get_or last x 0 ≡ get_or (block m) (16 + x) 0
      side (inl a) = block_at (block m) c (long-at m (le_refl m)) (products_at m (le_refl m)) s.last s.most x a
      side (inr a) = get_or-eq_default last 0 (omega (arith, last-long)) ∙ sym (unused x a g)

      go : (j ≡ m) ⊎ (j < m) → get_or (upto m ++ last) (480 * j + x) 0 ≡ get_or (block j) (16 + x) 0
      go (inl q) =
          let p : 480 * j + x ≡ length (upto m) + x = omega (arith, upto-long m (le_refl m)) in
          ap (λ (n : ℕ). get_or (upto m ++ last) n 0) p
          ∙ get_or-append-add (upto m) last x 0
          ∙ side (lt-or-ge x (32 * c))
          ∙ ap (λ (n : ℕ). get_or (block n) (16 + x) 0) (sym q)
      go (inr a) =
          get_or-append (upto m) last 0 (480 * j + x) (omega (arith, upto-long m (le_refl m))) ∙ upto-at m j x (le_refl m) a g
