-- The records of the places of a file, one after the other, are the records of its blocks.
-- Assumes nothing.
use mathlib.Core.Path.{◌≡◌, refl, sym, ap, ◌∙◌}
use mathlib.Core.List.{List, [], ◌++◌, append-nil, append_assoc}
use mathlib.Core.Bool.{Bool, true, false, ◌&&◌, cond}
use mathlib.Core.Logic.{◌⊎◌, inl, inr}
use Prim.Native.Nat.{ℕ, zero, suc, ◌+◌, ◌*◌, ◌/◌, ◌%◌, ◌≤◌, ◌<◌}
use native.Mathlib.Nat.{le_refl}
use native.Mathlib.Omega.{arith}
use lib.Dec.{ltb}
use lib.ListN.{take, drop}
use lib.Seq.{take-add, drop-drop}
use borrow.Author.Tests.{lt-ltb, le-ltb}
use Rattle.questions.specs.Questions.{first_no}
use Rattle.questions.proofs.Bools.{lt-or-ge}
use Rattle.questions.proofs.Search.{every-at}
use Rattle.file_blocks.specs.Blocks.{block_count, block_of, is_products, records_of_block, header_right, headers_right}
use Rattle.file_records.specs.Records.{record_of}
use Rattle.file_ids.specs.Ids.{place_count, is_record}
use Rattle.file_load.specs.Load.{load_asks}
use Rattle.file_load.proofs.LoadAnswers.{all_yes}
use Rattle.file_load.proofs.Accepting.{count-right}
use Rattle.file_write.specs.FilesWritten.{block_records, records_up_to, records_of}
use Rattle.file_text_again.proofs.FileText.{place_told, records_told}

-- the lesser of two counts
unfoldable lesser : ℕ → ℕ → ℕ
lesser j count = cond (ltb j count) j count

lesser-in : (j count : ℕ) → j < count → lesser j count ≡ j
unfolding lesser
lesser-in j count h = rw (lt-ltb j count h) refl

lesser-out : (j count : ℕ) → count ≤ j → lesser j count ≡ count
unfolding lesser
lesser-out j count h = rw (le-ltb j count h) refl

-- the first records of a block
unfoldable part_of : List ℕ → ℕ → List ℕ
part_of b j = cond (is_products b) (take (32 * lesser j (records_of_block b)) (drop 16 b)) []

module _ (b : List ℕ) (j : ℕ) (l : j < 15) where
  abbrev count : ℕ
  count = records_of_block b

  one-record : record_of b j ≡ take 32 (drop (16 + 32 * j) b)
  unfolding record_of
  one-record = rw (lt-ltb j 15 l) refl

  next-lesser : j < count → lesser (suc j) count ≡ suc j
  next-lesser h = go (lt-or-ge (suc j) count)
    where
      go : (suc j < count) ⊎ (count ≤ suc j) → lesser (suc j) count ≡ suc j
      go (inl k) = lesser-in (suc j) count k
      go (inr k) = lesser-out (suc j) count k ∙ omega arith

  more_bytes : take (32 * suc j) (drop 16 b) ≡ take (32 * j) (drop 16 b) ++ record_of b j
  more_bytes =
      let q : 32 * suc j ≡ 32 * j + 32 = omega arith in
      rw (q, take-add (32 * j) 32 (drop 16 b), one-record, drop-drop (32 * j) 16 b) refl

  part-next : part_of b (suc j) ≡ cond (is_products b && ltb j count) (part_of b j ++ record_of b j) (part_of b j)
  unfolding part_of
  part-next = go (is_products b) (lt-or-ge j count)
    where
      go : (x : Bool) → (j < count) ⊎ (count ≤ j)
          → cond x (take (32 * lesser (suc j) count) (drop 16 b)) []
          ≡ cond (x && ltb j count) (cond x (take (32 * lesser j count) (drop 16 b)) [] ++ record_of b j) (cond x (take (32 * lesser j count) (drop 16 b)) [])
      go false s = refl
      go true (inl h) = rw (lt-ltb j count h, next-lesser h, lesser-in j count h) more_bytes
      go true (inr h) = rw (le-ltb j count h, lesser-out (suc j) count (omega arith), lesser-out j count h) refl

none_told : (f : List ℕ) → records_told f (15 * 0) ≡ []
unfolding records_told
none_told f = refl

one_more : (f : List ℕ) (p : ℕ) → records_told f (suc p) ≡ place_told f (records_told f p) p
unfolding records_told
one_more f p = refl

module _ (f : List ℕ) (k : ℕ) where
  abbrev b : List ℕ
  b = block_of f k

  place_of : (j : ℕ) → j < 15 → (told : List ℕ) → place_told f told (15 * k + j) ≡ cond (is_products b && ltb j (records_of_block b)) (told ++ record_of b j) told
  unfolding place_told is_record
  place_of j h told =
      let q : (15 * k + j) / 15 ≡ k = omega arith in
      let m : (15 * k + j) % 15 ≡ j = omega arith in
      rw (q, m) refl

  none-part : part_of b 0 ≡ []
  unfolding part_of
  none-part = go (is_products b) (lt-or-ge 0 (records_of_block b))
    where
      go : (x : Bool) → (0 < records_of_block b) ⊎ (records_of_block b ≤ 0) → cond x (take (32 * lesser 0 (records_of_block b)) (drop 16 b)) [] ≡ []
      go true (inl h) = rw (lesser-in 0 (records_of_block b) h) refl
      go true (inr h) =
          let z : records_of_block b ≡ 0 = omega arith in
          rw (lesser-out 0 (records_of_block b) h, z) refl
      go false s = refl

  join : (c : Bool) (t p r : List ℕ) → cond c ((t ++ p) ++ r) (t ++ p) ≡ t ++ cond c (p ++ r) p
  join true t p r = append_assoc t p r
  join false t p r = refl

  in_block : (j : ℕ) → j ≤ 15 → records_told f (15 * k + j) ≡ records_told f (15 * k) ++ part_of b j
  in_block zero h =
      let q : 15 * k + 0 ≡ 15 * k = omega arith in
      ap (records_told f) q ∙ sym (append-nil (records_told f (15 * k))) ∙ ap (λ (x : List ℕ). records_told f (15 * k) ++ x) (sym none-part)
  in_block (suc j) h =
      let q : 15 * k + suc j ≡ suc (15 * k + j) = omega arith in
      ap (records_told f) q ∙ one_more f (15 * k + j) ∙ place_of j (omega arith) (records_told f (15 * k + j))
      ∙ ap (λ (x : List ℕ). cond (is_products b && ltb j (records_of_block b)) (x ++ record_of b j) x) (in_block j (omega arith))
      ∙ join (is_products b && ltb j (records_of_block b)) (records_told f (15 * k)) (part_of b j) (record_of b j)
      ∙ ap (λ (x : List ℕ). records_told f (15 * k) ++ x) (sym (part-next b j (omega arith)))

-- an accepted file
module _ (f : List ℕ) (e : first_no (load_asks f) ≡ 0) where
  count_most : (k : ℕ) → k < block_count f → is_products (block_of f k) ≡ true → records_of_block (block_of f k) ≤ 15
  unfolding headers_right
  count_most k h t = (count-right (block_of f k) k (every-at (λ n. header_right (block_of f n) n) (block_count f) k (all_yes f e).yes3 h) t).1

  whole_part : (k : ℕ) → k < block_count f → part_of (block_of f k) 15 ≡ block_records (block_of f k)
  unfolding part_of block_records
  whole_part k h = go (is_products (block_of f k)) refl
    where
      go : (x : Bool) → is_products (block_of f k) ≡ x
          → cond x (take (32 * lesser 15 (records_of_block (block_of f k))) (drop 16 (block_of f k))) []
          ≡ cond x (take (32 * records_of_block (block_of f k)) (drop 16 (block_of f k))) []
      go true t = rw (lesser-out 15 (records_of_block (block_of f k)) (count_most k h t)) refl
      go false t = refl

  blocks-told : (k : ℕ) → k ≤ block_count f → records_told f (15 * k) ≡ records_up_to f k
  unfolding records_up_to
  blocks-told zero h = none_told f
  blocks-told (suc k) h =
      let q : 15 * suc k ≡ 15 * k + 15 = omega arith in
      ap (records_told f) q ∙ in_block f k 15 (omega arith)
      ∙ ap (λ (x : List ℕ). records_told f (15 * k) ++ x) (whole_part k (omega arith))
      ∙ ap (λ (x : List ℕ). x ++ block_records (block_of f k)) (blocks-told k (omega arith))

  -- the records after the lines of all places of a file are the records of the file
  pub records-told : records_told f (place_count f) ≡ records_of f
  unfolding records_of
  records-told = blocks-told (block_count f) (le_refl (block_count f))
