-- The records of the file are those of the list: questions 7 and 8, and the count of records.
-- Assumes nothing.
use Prim.Native.Nat.{ℕ, zero, suc, ◌+◌, ◌-◌, ◌*◌, ◌/◌, ◌%◌, ◌≤◌, ◌<◌}
use mathlib.Core.Path.{◌≡◌, ◌∙◌, sym, ap, ap₂}
use mathlib.Core.Bool.{Bool, true, false, not, ◌||◌, cond}
use mathlib.Core.Logic.{◌⊎◌, inl, inr}
use mathlib.Core.List.{List}
use native.Mathlib.Omega.{arith}
use lib.Dec.{eqb, ltb}
use lib.ListN.{length, drop, get_or, length-drop, get_or-eq_default}
use lib.Seq.{ext_get_or, length-take-le, get_or-take, get_or-drop}
use borrow.Author.Tests.{eq-eqb, lt-ltb, le-ltb}
use Rattle.questions.specs.Search.{every}
use Rattle.questions.proofs.Bools.{both, and_both, or_right, same_test, lt-or-ge}
use Rattle.questions.proofs.Search.{every-at, every-all}
use Rattle.calendar.specs.declared.Calendar.{Calendar}
use Rattle.file_blocks.specs.Blocks.{block_count, block_of, zeros, is_products, records_of_block}
use Rattle.file_records.specs.Records.{record_of, four_bytes, record_right, record_place_right, records_right, products_right}
use Rattle.file_ids.specs.Ids.{place_count, is_record, record_count, id_at, id_rises, pair_rises, place_rises, ids_rise}
use Rattle.file_ids.proofs.IdsRise.{id-trans}
use Rattle.file_draft.specs.Drafts.{list_record, records_within, product_byte, blocks_in, file_of, list_right, list_id, list_rises}
use Rattle.file_draft.proofs.DraftBlocks.{block-length, block-byte, file-blocks, file-block}
use Rattle.file_draft.proofs.Headers.{product-byte, product-header}
use Rattle.file_draft.proofs.DraftCalendars.{count-run, product-kind, no-product}

-- a list of whole records
module _ (cal : Calendar) (records : List ℕ) (whole : length records % 32 ≡ 0) where
  abbrev f : List ℕ
  f = file_of cal records

  abbrev years : ℕ
  years = cal.cover.years

  abbrev blocks : ℕ
  blocks = blocks_in cal records

  abbrev n : ℕ
  n = length records / 32

  list-long : (i : ℕ) → i < n → length (list_record records i) ≡ 32
  unfolding list_record
  list-long i h = length-take-le 32 (drop (32 * i) records) (omega (arith, length-drop (32 * i) records))

  list-byte : (i x : ℕ) → x < 32 → get_or (list_record records i) x 0 ≡ get_or records (32 * i + x) 0
  unfolding list_record
  list-byte i x h = get_or-take 32 (drop (32 * i) records) x 0 h ∙ get_or-drop (32 * i) records x 0

  -- the bytes after the header of a product block
  within-byte : (m k x : ℕ) → x < 480 → product_byte records m k (16 + x) ≡ get_or records (480 * m + x) 0
  unfolding product_byte
  within-byte m k x h =
      let e : 16 + x - 16 ≡ x = omega arith in
      rw (le-ltb (16 + x) 16 (omega arith), lt-ltb (16 + x) 496 (omega arith), e)

  after-byte : (m k j : ℕ) → 496 ≤ j → product_byte records m k j ≡ 0
  unfolding product_byte
  after-byte m k j h = rw (le-ltb j 16 (omega arith), le-ltb j 496 h)

  -- block k of the file is product block k − years
  module _ (k : ℕ) (from : years ≤ k) (below : k < blocks) where
    abbrev b : List ℕ
    b = block_of f k

    abbrev m : ℕ
    m = k - years

    block-long : length b ≡ 512
    block-long = ap length (file-block cal records k below) ∙ block-length cal records k

    byte_at : (j : ℕ) → j < 510 → get_or b j 0 ≡ product_byte records m k j
    byte_at j h =
        ap (λ (x : List ℕ). get_or x j 0) (file-block cal records k below)
        ∙ block-byte cal records k j h
        ∙ product-byte cal records k j from

    -- the count of records in a product block's header is that of the list's records within it
    pub count-is : records_of_block b ≡ records_within records m
    count-is = ap (λ (x : List ℕ). records_of_block x) (file-block cal records k below) ∙ (product-header cal records k from).number_is

    -- the bytes after the header are those of the list
    pub held-byte : (x : ℕ) → x < 480 → get_or b (16 + x) 0 ≡ get_or records (480 * m + x) 0
    held-byte x h = byte_at (16 + x) (omega arith) ∙ within-byte m k x h

    place_byte : (i x : ℕ) → i < 15 → x < 32 → get_or (record_of b i) x 0 ≡ get_or records (32 * (15 * m + i) + x) 0
    unfolding record_of
    place_byte i x h l =
        let e : 480 * m + (32 * i + x) ≡ 32 * (15 * m + i) + x = omega arith in
        rw (lt-ltb i 15 h)
        (get_or-take 32 (drop (16 + 32 * i) b) x 0 l
        ∙ get_or-drop (16 + 32 * i) b x 0
        ∙ ap (λ (j : ℕ). get_or b j 0) (omega arith)
        ∙ held-byte (32 * i + x) (omega arith)
        ∙ ap (λ (j : ℕ). get_or records j 0) e)

    place-long : (i : ℕ) → i < 15 → length (record_of b i) ≡ 32
    unfolding record_of
    place-long i h =
        rw (lt-ltb i 15 h) (length-take-le 32 (drop (16 + 32 * i) b) (omega (arith, length-drop (16 + 32 * i) b, block-long)))

    -- record i of the block is record 15 · m + i of the list
    pub record-written : (i : ℕ) → i < records_within records m → record_of b i ≡ list_record records (15 * m + i)
    record-written i h =
        ext_get_or 0 (record_of b i) (list_record records (15 * m + i)) (place-long i (omega arith) ∙ sym (list-long (15 * m + i) (omega arith)))
        (λ x l.
        let g : x < 32 = omega (arith, place-long i (omega arith)) in
        place_byte i x (omega arith) g ∙ sym (list-byte (15 * m + i) x g))

    unused : (i : ℕ) → records_within records m ≤ i → i < 15 → zeros (record_of b i) 0 32 ≡ true
    unfolding zeros
    unused i h l =
        every-all (λ x. eqb (get_or (record_of b i) (0 + x) 0) 0) 32
        (λ x g.
        eq-eqb _ _ (place_byte i (0 + x) l (omega arith) ∙ get_or-eq_default records 0 {n = 32 * (15 * m + i) + (0 + x)} (omega arith)))

    rest-zero : zeros b 496 14 ≡ true
    unfolding zeros
    rest-zero =
        every-all (λ x. eqb (get_or b (496 + x) 0) 0) 14
        (λ x g. eq-eqb _ _ (byte_at (496 + x) (omega arith) ∙ after-byte m k (496 + x) (omega arith)))

    place-right : list_right records ≡ true → (i : ℕ) → i < 15 → record_place_right b i ≡ true
    unfolding record_place_right list_right
    place-right e i l = go (lt-or-ge i (records_within records m))
      where
        go : (i < records_within records m) ⊎ (records_within records m ≤ i)
            → cond (ltb i (records_of_block b)) (record_right (record_of b i)) (zeros (record_of b i) 0 32) ≡ true
        go (inl h) =
            rw (count-is, lt-ltb i (records_within records m) h, record-written i h)
            (every-at (λ j. record_right (list_record records j)) n (15 * m + i) e (omega arith))
        go (inr h) = rw (count-is, le-ltb i (records_within records m) h) (unused i h l)

    block-right : list_right records ≡ true → records_right b ≡ true
    unfolding records_right
    block-right e = and_both (every-all (record_place_right b) 15 (place-right e)) rest-zero

    right-place : records_right b ≡ true → (i : ℕ) → i < records_within records m → record_right (list_record records (15 * m + i)) ≡ true
    unfolding records_right record_place_right
    right-place e i h =
        let p = every-at (record_place_right b) 15 i (both (every 15 (record_place_right b)) (zeros b 496 14) e).0 (omega arith) in
        rw (count-is, lt-ltb i (records_within records m) h, record-written i h) at p

  -- 7, of the file
  pub products-written : products_right f ≡ list_right records
  unfolding products_right list_right
  products-written =
      same_test (every (block_count f) right) (every n (λ i. record_right (list_record records i)))
      (λ e. every-all (λ i. record_right (list_record records i)) n (λ i h. there e i h))
      (λ e. every-all right (block_count f) (λ k h. here e k (omega (arith, file-blocks cal records)) (lt-or-ge k years)))
    where
      right : ℕ → Bool
      right k = not (is_products (block_of f k)) || records_right (block_of f k)

      here : list_right records ≡ true → (k : ℕ) → k < blocks → (k < years) ⊎ (years ≤ k) → right k ≡ true
      here e k h (inl l) = rw (no-product cal records k l)
      here e k h (inr l) = or_right (not (is_products (block_of f k))) (block-right k l h e)

      there : products_right f ≡ true → (i : ℕ) → i < n → record_right (list_record records i) ≡ true
      there e i h =
          let k : ℕ = years + i / 15 in
          let l : k < blocks = omega arith in
          let t : records_right (block_of f k) ≡ true =
          rw (product-kind cal records k (omega arith) l) at (every-at right (block_count f) k e (omega (arith, file-blocks cal records))) in
          let q : 15 * (years + i / 15 - years) + i % 15 ≡ i = omega arith in
          ap (λ (j : ℕ). record_right (list_record records j)) (sym q)
          ∙ right-place (years + i / 15) (omega arith) l t (i % 15) (omega arith)

  abbrev start : ℕ
  start = 15 * years

  -- the places that hold a record: n of them, after the calendar blocks
  no_record : (p : ℕ) → p < start → is_record f p ≡ false
  unfolding is_record
  no_record p h = rw (no-product cal records (p / 15) (omega arith))

  in_blocks : (p : ℕ) → p < start + n → p / 15 < blocks
  in_blocks p h = omega arith

  is-record : (p : ℕ) → start ≤ p → p < start + n → is_record f p ≡ true
  unfolding is_record
  is-record p h l =
      let k : p / 15 < blocks = in_blocks p l in
      rw (product-kind cal records (p / 15) (omega arith) k, count-is (p / 15) (omega arith) k)
      (lt-ltb (p % 15) (records_within records (p / 15 - years)) (omega arith))

  past-record : (p : ℕ) → start + n ≤ p → p < place_count f → is_record f p ≡ false
  unfolding is_record
  past-record p h l =
      let k : p / 15 < blocks = omega (arith, file-blocks cal records) in
      rw (product-kind cal records (p / 15) (omega arith) k, count-is (p / 15) (omega arith) k)
      (le-ltb (p % 15) (records_within records (p / 15 - years)) (omega arith))

  -- 'loading it gives the counts': that of records
  pub records-counted : record_count f ≡ n
  unfolding record_count
  records-counted =
      count-run (is_record f) start n (place_count f) no_record is-record past-record ∙ omega (arith, file-blocks cal records)

  id-written : (i : ℕ) → i < n → id_at f (start + i) ≡ list_id records i
  unfolding id_at list_id
  id-written i h =
      let k : (start + i) / 15 < blocks = in_blocks (start + i) (omega arith) in
      let q : 15 * ((start + i) / 15 - years) + (start + i) % 15 ≡ i = omega arith in
      ap (λ (r : List ℕ). four_bytes r 0)
      (record-written ((start + i) / 15) (omega arith) k ((start + i) % 15) (omega arith) ∙ ap (list_record records) q)

  -- neighbours that rise make every two ids rise
  rising : list_rises records ≡ true → (i d : ℕ) → i + suc d < n → id_rises (list_id records i) (list_id records (i + suc d)) ≡ true
  unfolding list_rises
  rising e i zero h = every-at (λ j. id_rises (list_id records j) (list_id records (j + 1))) (n - 1) i e (omega arith)
  rising e i (suc d) h =
      let q : i + suc d + 1 ≡ i + suc (suc d) = omega arith in
      id-trans (list_id records i) (list_id records (i + suc d)) (list_id records (i + suc (suc d))) (rising e i d (omega arith))
      (ap (λ (j : ℕ). id_rises (list_id records (i + suc d)) (list_id records j)) (sym q)
      ∙ every-at (λ j. id_rises (list_id records j) (list_id records (j + 1))) (n - 1) (i + suc d) e (omega arith))

  pair-rises : list_rises records ≡ true → (p q : ℕ) → start ≤ p → p < start + n → q < p → pair_rises f p q ≡ true
  pair-rises e p q h l g = go (lt-or-ge q start)
    where
      go : (q < start) ⊎ (start ≤ q) → (not (is_record f q) || id_rises (id_at f q) (id_at f p)) ≡ true
      go (inl a) = rw (no_record q a)
      go (inr a) =
          let i : start + (q - start) ≡ q = omega arith in
          let j : start + (q - start + suc (p - q - 1)) ≡ p = omega arith in
          or_right (not (is_record f q))
          (ap₂ id_rises (ap (id_at f) (sym i) ∙ id-written (q - start) (omega arith))
          (ap (id_at f) (sym j) ∙ id-written (q - start + suc (p - q - 1)) (omega arith))
          ∙ rising e (q - start) (p - q - 1) (omega arith))

  place-rises : list_rises records ≡ true → (p : ℕ) → p < place_count f → (p < start) ⊎ (start ≤ p) → (p < start + n) ⊎ (start + n ≤ p) → place_rises f p ≡ true
  unfolding place_rises
  place-rises e p h (inl a) s = rw (no_record p a)
  place-rises e p h (inr a) (inl s) =
      or_right (not (is_record f p)) (every-all (pair_rises f p) p (λ q g. pair-rises e p q a s g))
  place-rises e p h (inr a) (inr s) = rw (past-record p s h)

  neighbours-rise : ids_rise f ≡ true → (i : ℕ) → i < n - 1 → id_rises (list_id records i) (list_id records (i + 1)) ≡ true
  unfolding ids_rise place_rises
  neighbours-rise e i h =
      let p : ℕ = start + (i + 1) in
      let t = every-at (place_rises f) (place_count f) p e (omega (arith, file-blocks cal records)) in
      let u = rw (is-record p (omega arith) (omega arith)) at t in
      let v = every-at (pair_rises f p) p (start + i) u (omega arith) in
      let w = rw (is-record (start + i) (omega arith) (omega arith)) at v in
      ap₂ id_rises (sym (id-written i (omega arith))) (sym (id-written (i + 1) (omega arith))) ∙ w

  -- 8, of the file
  pub rises-written : ids_rise f ≡ list_rises records
  unfolding ids_rise list_rises
  rises-written =
      same_test (every (place_count f) (place_rises f)) (every (n - 1) (λ i. id_rises (list_id records i) (list_id records (i + 1))))
      (λ e. every-all (λ i. id_rises (list_id records i) (list_id records (i + 1))) (n - 1) (neighbours-rise e))
      (λ e. every-all (place_rises f) (place_count f) (λ p h. place-rises e p h (lt-or-ge p start) (lt-or-ge p (start + n))))
