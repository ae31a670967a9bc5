-- The records of a block, as a file of one block and in their file.
-- Assumes nothing.
use Prim.Native.Nat.{ℕ, zero, suc, ◌+◌, ◌*◌, ◌/◌, ◌%◌, ◌≤◌, ◌<◌}
use mathlib.Core.Path.{◌≡◌, refl, ◌∙◌, sym, ap, ap₂}
use mathlib.Core.Bool.{Bool, true, false, cond}
use mathlib.Core.Logic.{◌⊎◌, inl, inr}
use mathlib.Core.List.{List}
use native.Mathlib.Nat.{le_refl, add-zero, add-suc, add_assoc}
use native.Mathlib.Omega.{arith}
use lib.Dec.{ltb}
use lib.ListN.{length, drop, length-drop}
use lib.Seq.{take_all, length-take-le}
use borrow.Author.Tests.{ltb-true, lt-ltb}
use Rattle.questions.proofs.Bools.{clash, both, and_both, lt-or-ge}
use Rattle.file_blocks.proofs.Files.{block_in}
use Rattle.file_blocks.specs.Blocks.{block_count, block_of, count_of, is_products, records_of_block}
use Rattle.file_ids.specs.Ids.{is_record, record_count, id_at}
use Rattle.file_intake.specs.Intake.{with_block, state_after}
use Rattle.file_intake.proofs.Order.{count_most, count-all, count-rises}

module _ (f : List ℕ) (whole : length f ≡ 512 * block_count f) (k : ℕ) (h : k < block_count f) where
  -- each block of the file has 512 bytes
  pub block-long : length (block_of f k) ≡ 512
  block-long = rw (block_in f k h) (length-take-le 512 (drop (512 * k) f) (omega (arith, length-drop (512 * k) f)))

  one_block : block_count (block_of f k) ≡ 1
  one_block = rw block-long

  -- the block is a file of one block, itself
  pub itself : block_of (block_of f k) 0 ≡ block_of f k
  itself =
      block_in (block_of f k) 0 (omega (arith, one_block))
      ∙ take_all 512 (drop (512 * 0) (block_of f k)) (omega (arith, length-drop (512 * 0) (block_of f k), block-long))

  -- a place holds a record in a block exactly where the block's place in the file does
  pub record_same : (p : ℕ) → p < 15 → is_record (block_of f k) p ≡ is_record f (15 * k + p)
  unfolding is_record
  record_same p l =
      let a : p / 15 ≡ 0 = omega arith in
      let b : p % 15 ≡ p = omega arith in
      let c : (15 * k + p) / 15 ≡ k = omega arith in
      let d : (15 * k + p) % 15 ≡ p = omega arith in
      rw (a, b, c, d, itself)

  -- the id at a place of a block is the id at the block's place in the file
  pub id_same : (p : ℕ) → p < 15 → id_at (block_of f k) p ≡ id_at f (15 * k + p)
  unfolding id_at
  id_same p l =
      let a : p / 15 ≡ 0 = omega arith in
      let b : p % 15 ≡ p = omega arith in
      let c : (15 * k + p) / 15 ≡ k = omega arith in
      let d : (15 * k + p) % 15 ≡ p = omega arith in
      rw (a, b, c, d, itself)

  -- the records are the first places of the block
  record-down : (p q : ℕ) → q ≤ p → p < 15 → is_record (block_of f k) p ≡ true → is_record (block_of f k) q ≡ true
  unfolding is_record
  record-down p q l g e =
      let a : p / 15 ≡ 0 = omega arith in
      let b : p % 15 ≡ p = omega arith in
      let c : q / 15 ≡ 0 = omega arith in
      let d : q % 15 ≡ q = omega arith in
      let (x, y) = both (is_products (block_of (block_of f k) 0)) (ltb p (records_of_block (block_of (block_of f k) 0))) (rw (a, b) at e) in
      rw (c, d) (and_both x (lt-ltb q (records_of_block (block_of (block_of f k) 0)) (omega (arith, ltb-true p (records_of_block (block_of (block_of f k) 0)) y))))

  -- the count of records of a block is that of its 15 places which hold one
  pub count-is : record_count (block_of f k) ≡ count_of 15 (is_record (block_of f k))
  unfolding record_count
  count-is = rw one_block

-- counts of two runs, and of tests that agree
pub count-split : (test : ℕ → Bool) (m n : ℕ) → count_of (m + n) test ≡ count_of m test + count_of n (λ j. test (m + j))
unfolding count_of
count-split test m zero = ap (λ (k : ℕ). count_of k test) (add-zero m) ∙ sym (add-zero (count_of m test))
count-split test m (suc n) =
    ap (λ (k : ℕ). count_of k test) (add-suc m n)
    ∙ ap (λ (k : ℕ). k + cond (test (m + n)) 1 0) (count-split test m n)
    ∙ add_assoc (count_of m test) (count_of n (λ j. test (m + j))) (cond (test (m + n)) 1 0)

-- two tests that agree on the first n numbers have the same count of those that pass
pub count-equal : (n : ℕ) (t u : ℕ → Bool) → ((j : ℕ) → j < n → t j ≡ u j) → count_of n t ≡ count_of n u
unfolding count_of
count-equal zero t u h = refl
count-equal (suc n) t u h = ap₂ ◌+◌ (count-equal n t u (λ j l. h j (omega arith))) (ap (λ (b : Bool). cond b 1 0) (h n (le_refl (suc n))))

-- where those that pass come first, they are as many as their count
module _ (test : ℕ → Bool) (n : ℕ) (down : (p q : ℕ) → q ≤ p → p < n → test p ≡ true → test q ≡ true) where
  -- where those that pass come first, a number that passes is below their count
  pub under-count : (p : ℕ) → p < n → test p ≡ true → p < count_of n test
  under-count p h e =
      omega (arith, count-all test (suc p) (λ j l. down p j (omega arith) h e), count-rises test (suc p) n h)

  none_after : (p : ℕ) → p < n → test p ≡ false → (m : ℕ) → m ≤ n → count_of m test ≤ p
  unfolding count_of
  none_after p h e zero l = omega arith
  none_after p h e (suc m) l = go (test m) refl (lt-or-ge m p) (none_after p h e m (omega arith))
    where
      go : (b : Bool) → test m ≡ b → (m < p) ⊎ (p ≤ m) → count_of m test ≤ p → count_of m test + cond b 1 0 ≤ p
      go true t (inl g) ih = omega (arith, count_most test m)
      go true t (inr g) ih = clash (down m p g l t) e
      go false t s ih = omega arith

  -- where those that pass come first, a number below their count passes
  pub count_under : (p : ℕ) → p < n → p < count_of n test → test p ≡ true
  count_under p h l = go (test p) refl
    where
      go : (b : Bool) → test p ≡ b → test p ≡ true
      go true t = t
      go false t = absurd (omega (arith, none_after p h t n (le_refl n)))

-- the state's count of records
module _ (f : List ℕ) (whole : length f ≡ 512 * block_count f) where
  block-records : (k : ℕ) → k < block_count f → count_of (15 * suc k) (is_record f) ≡ count_of (15 * k) (is_record f) + record_count (block_of f k)
  block-records k h =
      let e : 15 * suc k ≡ 15 * k + 15 = omega arith in
      ap (λ (n : ℕ). count_of n (is_record f)) e ∙ count-split (is_record f) (15 * k) 15
      ∙ ap (λ (n : ℕ). count_of (15 * k) (is_record f) + n)
      (sym (count-is f whole k h ∙ count-equal 15 (is_record (block_of f k)) (λ j. is_record f (15 * k + j)) (λ j l. record_same f whole k h j l)))

  records-step : (k : ℕ) → (state_after f (block_count f) (suc k)).records ≡ (state_after f (block_count f) k).records + record_count (block_of f k)
  unfolding state_after with_block
  records-step k = refl

  records-none : (state_after f (block_count f) 0).records ≡ count_of (15 * 0) (is_record f)
  unfolding state_after count_of
  records-none = refl

  -- the state after k blocks counts the records of the first k blocks
  pub records_is : (k : ℕ) → k ≤ block_count f → (state_after f (block_count f) k).records ≡ count_of (15 * k) (is_record f)
  records_is zero h = records-none
  records_is (suc k) h =
      records-step k ∙ ap (λ (n : ℕ). n + record_count (block_of f k)) (records_is k (omega arith)) ∙ sym (block-records k h)

  -- the last record of a block with records
  module _ (k : ℕ) (h : k < block_count f) where
    down : (p q : ℕ) → q ≤ p → p < 15 → is_record (block_of f k) p ≡ true → is_record (block_of f k) q ≡ true
    down = record-down f whole k h

    -- a place of a block that holds a record is below the block's count of records
    pub in_count : (p : ℕ) → p < 15 → is_record (block_of f k) p ≡ true → p < record_count (block_of f k)
    in_count p l e = omega (arith, under-count (is_record (block_of f k)) 15 down p l e, count-is f whole k h)

    -- a place below a block's count of records is one of its 15 places and holds a record
    pub counted : (p : ℕ) → p < record_count (block_of f k) → (p < 15) × (is_record (block_of f k) p ≡ true)
    counted p l =
        let m : p < 15 = omega (arith, count_most (is_record (block_of f k)) 15, count-is f whole k h) in
        (m, count_under (is_record (block_of f k)) 15 down p m (omega (arith, count-is f whole k h)))

    -- a block that holds a record at some place holds one at its first place
    pub first-record : (p : ℕ) → p < 15 → is_record (block_of f k) p ≡ true → is_record (block_of f k) 0 ≡ true
    first-record p l e = down p 0 (omega arith) l e
