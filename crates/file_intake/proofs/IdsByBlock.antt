-- Question 8 block by block: the first id of a block is compared with the last before it.
-- Assumes nothing.
use Prim.Native.Nat.{ℕ, zero, suc, ◌+◌, ◌-◌, ◌*◌, ◌≤◌, ◌<◌}
use mathlib.Core.Path.{◌≡◌, refl, ◌∙◌, sym, ap, ap₂}
use mathlib.Core.Bool.{Bool, true, false, not, ◌&&◌, ◌||◌}
use mathlib.Core.Logic.{◌⊎◌, inl, inr}
use mathlib.Core.List.{List}
use native.Mathlib.Nat.{le_refl, eq-or-lt_of_le}
use native.Mathlib.Omega.{arith}
use lib.Dec.{eqb}
use lib.ListN.{length}
use borrow.Author.Tests.{eqb-true, eqb-false, eq-eqb, ne_eqb}
use Rattle.questions.specs.Search.{every}
use Rattle.questions.proofs.Bools.{clash, both, and_both, or_left, or_right, same_test, lt-or-ge}
use Rattle.questions.proofs.Search.{every-at, every-all, every-none}
use Rattle.file_blocks.specs.Blocks.{block_count, block_of, count_of}
use Rattle.file_ids.specs.Ids.{is_record, record_count, id_at, id_rises, pair_rises, place_rises, ids_rise}
use Rattle.file_ids.proofs.IdsRise.{id-trans}
use Rattle.file_intake.specs.declared.Intake.{Intake}
use Rattle.file_intake.specs.Intake.{ids_go_on, with_block, state_after}
use Rattle.file_intake.proofs.Order.{count-up, count-rises}
use Rattle.file_intake.proofs.IdleRuns.{every-parts}
use Rattle.file_intake.proofs.WeeksByBlock.{every-suc}
use Rattle.file_intake.proofs.BlockRecords.{block-long, record_same, id_same, records_is, in_count, counted, first-record}

module _ (f : List ℕ) (whole : length f ≡ 512 * block_count f) where
  abbrev state : ℕ → Intake
  state k = state_after f (block_count f) k

  -- the last record before block k, and its id
  record Last (k : ℕ) : Type 0 where
    place : ℕ
    before : place < 15 * k
    holds : is_record f place ≡ true
    greatest : (q : ℕ) → q < 15 * k → is_record f q ≡ true → q ≤ place
    id : (state k).last_id ≡ id_at f place

  -- no record before block k
  abbrev None : ℕ → Type 0
  None k = (q : ℕ) → q < 15 * k → is_record f q ≡ false

  id-kept : (k : ℕ) → record_count (block_of f k) ≡ 0 → (state (suc k)).last_id ≡ (state k).last_id
  unfolding state_after with_block
  id-kept k e = rw (eq-eqb (record_count (block_of f k)) 0 e)

  id-new : (k : ℕ) → (record_count (block_of f k) ≡ 0 → ⊥) → (state (suc k)).last_id ≡ id_at (block_of f k) (record_count (block_of f k) - 1)
  unfolding state_after with_block
  id-new k e = rw (ne_eqb (record_count (block_of f k)) 0 e)

  -- a record of block k, by its place in the block
  in_block : (k q : ℕ) → k < block_count f → 15 * k ≤ q → q < 15 * suc k → is_record f q ≡ true → is_record (block_of f k) (q - 15 * k) ≡ true
  in_block k q h a b e =
      let p : 15 * k + (q - 15 * k) ≡ q = omega arith in
      record_same f whole k h (q - 15 * k) (omega arith) ∙ ap (is_record f) p ∙ e

  -- a block without records
  module _ (k : ℕ) (h : k < block_count f) (e : record_count (block_of f k) ≡ 0) where
    no_record : (q : ℕ) → 15 * k ≤ q → q < 15 * suc k → is_record f q ≡ false
    no_record q a b = go (is_record f q) refl
      where
        go : (c : Bool) → is_record f q ≡ c → is_record f q ≡ false
        go true t = absurd (omega (arith, in_count f whole k h (q - 15 * k) (omega arith) (in_block k q h a b t)))
        go false t = t

    none_stays : None k → None (suc k)
    none_stays n q l = go (lt-or-ge q (15 * k))
      where
        go : (q < 15 * k) ⊎ (15 * k ≤ q) → is_record f q ≡ false
        go (inl a) = n q a
        go (inr a) = no_record q a l

    last-stays : Last k → Last (suc k)
    last-stays w =
        record {
          place = w.place;
          before = omega (arith, w.before);
          holds = w.holds;
          greatest = λ q l t. go q l t (lt-or-ge q (15 * k));
          id = id-kept k e ∙ w.id;
        }
      where
        go : (q : ℕ) → q < 15 * suc k → is_record f q ≡ true → (q < 15 * k) ⊎ (15 * k ≤ q) → q ≤ w.place
        go q l t (inl a) = w.greatest q a t
        go q l t (inr a) = clash t (no_record q a l)

  -- a block with records
  last-new : (k : ℕ) → k < block_count f → (record_count (block_of f k) ≡ 0 → ⊥) → Last (suc k)
  last-new k h e =
      let c : record_count (block_of f k) - 1 < record_count (block_of f k) = omega (arith, some (record_count (block_of f k)) e) in
      let (m, t) = counted f whole k h (record_count (block_of f k) - 1) c in
      record {
        place = 15 * k + (record_count (block_of f k) - 1);
        before = omega arith;
        holds = sym (record_same f whole k h (record_count (block_of f k) - 1) m) ∙ t;
        greatest = λ q l u. go q l u (lt-or-ge q (15 * k));
        id = id-new k e ∙ id_same f whole k h (record_count (block_of f k) - 1) m;
      }
    where
      some : (n : ℕ) → (n ≡ 0 → ⊥) → 1 ≤ n
      some zero e = absurd (e refl)
      some (suc n) e = omega arith

      go : (q : ℕ) → q < 15 * suc k → is_record f q ≡ true → (q < 15 * k) ⊎ (15 * k ≤ q) → q ≤ 15 * k + (record_count (block_of f k) - 1)
      go q l u (inl a) = omega arith
      go q l u (inr a) = omega (arith, in_count f whole k h (q - 15 * k) (omega arith) (in_block k q h a l u))

  walked : (k : ℕ) → k ≤ block_count f → None k ⊎ Last k
  walked zero h = inl (λ q l. absurd (omega arith))
  walked (suc k) h = go (eqb (record_count (block_of f k)) 0) refl (walked k (omega arith))
    where
      go : (b : Bool) → eqb (record_count (block_of f k)) 0 ≡ b → None k ⊎ Last k → None (suc k) ⊎ Last (suc k)
      go true e (inl n) = inl (none_stays k h (eqb-true _ _ e) n)
      go true e (inr w) = inr (last-stays k h (eqb-true _ _ e) w)
      go false e s = inr (last-new k h (eqb-false _ _ e))

-- what question 8 says of a place, as facts
rises-to : (f : List ℕ) (p q : ℕ) → place_rises f p ≡ true → is_record f p ≡ true → q < p → is_record f q ≡ true → id_rises (id_at f q) (id_at f p) ≡ true
unfolding place_rises
rises-to f p q t e h g = rw g at (every-at (pair_rises f p) p q (rw e at t) h)

place-rises : (f : List ℕ) (p : ℕ) → (is_record f p ≡ true → (q : ℕ) → q < p → is_record f q ≡ true → id_rises (id_at f q) (id_at f p) ≡ true)
    → place_rises f p ≡ true
unfolding place_rises
place-rises f p h = go (is_record f p) refl
  where
    pair : is_record f p ≡ true → (q : ℕ) → q < p → (c : Bool) → is_record f q ≡ c → (not c || id_rises (id_at f q) (id_at f p)) ≡ true
    pair e q l true g = h e q l g
    pair e q l false g = refl

    go : (b : Bool) → is_record f p ≡ b → (not b || every p (pair_rises f p)) ≡ true
    go true e = every-all (pair_rises f p) p (λ q l. pair e q l (is_record f q) refl)
    go false e = refl

count-zero : (test : ℕ → Bool) (n : ℕ) → ((j : ℕ) → j < n → test j ≡ false) → count_of n test ≡ 0
unfolding count_of
count-zero test zero h = refl
count-zero test (suc n) h = rw (h n (le_refl (suc n)), count-zero test n (λ j l. h j (omega arith)))

count-one : (test : ℕ → Bool) (n q : ℕ) → q < n → test q ≡ true → 1 ≤ count_of n test
count-one test n q h e = omega (arith, count-up test q e, count-rises test (suc q) n h)

module _ (f : List ℕ) (whole : length f ≡ 512 * block_count f) (k : ℕ) (h : k < block_count f) where
  abbrev b : List ℕ
  b = block_of f k

  abbrev s : Intake
  s = state_after f (block_count f) k

  one-file : ids_rise b ≡ every 15 (place_rises b)
  unfolding ids_rise
  one-file = rw (block-long f whole k h)

  block-rises : (p : ℕ) → p < 15 → place_rises f (15 * k + p) ≡ true → place_rises b p ≡ true
  block-rises p l t =
      place-rises b p
      (λ e q g u.
      rw (id_same f whole k h q (omega arith), id_same f whole k h p l)
      (rises-to f (15 * k + p) (15 * k + q) t (sym (record_same f whole k h p l) ∙ e) (omega arith) (sym (record_same f whole k h q (omega arith)) ∙ u)))

  module _ (held : every (15 * k) (place_rises f) ≡ true) where
    below_last : (w : Last f whole k) (q : ℕ) → q < 15 * k → is_record f q ≡ true → (q ≡ w.place) ⊎ (id_rises (id_at f q) (id_at f w.place) ≡ true)
    below_last w q l e = go (eq-or-lt_of_le (w.greatest q l e))
      where
        go : (q ≡ w.place) ⊎ (q < w.place) → (q ≡ w.place) ⊎ (id_rises (id_at f q) (id_at f w.place) ≡ true)
        go (inl a) = inl a
        go (inr a) = inr (rises-to f w.place q (every-at (place_rises f) (15 * k) w.place held w.before) w.holds a e)

    none-records : None f whole k → eqb s.records 0 ≡ true
    none-records n = eq-eqb s.records 0 (records_is f whole k (omega arith) ∙ count-zero (is_record f) (15 * k) n)

    last-records : Last f whole k → eqb s.records 0 ≡ false
    last-records w =
        ne_eqb s.records 0 (λ z. omega (arith, records_is f whole k (omega arith), count-one (is_record f) (15 * k) w.place w.before w.holds))

    -- the first id follows the last before the block
    abbrev joins : Bool
    joins = eqb s.records 0 || (not (is_record b 0) || id_rises s.last_id (id_at b 0))

    joined : every 15 (λ p. place_rises f (15 * k + p)) ≡ true → None f whole k ⊎ Last f whole k → joins ≡ true
    joined t (inl n) = or_left (not (is_record b 0) || id_rises s.last_id (id_at b 0)) (none-records n)
    joined t (inr w) = or_right (eqb s.records 0) (go (is_record b 0) refl)
      where
        go : (c : Bool) → is_record b 0 ≡ c → (not c || id_rises s.last_id (id_at b 0)) ≡ true
        go true e =
            rw (w.id, id_same f whole k h 0 (omega arith))
            (rises-to f (15 * k + 0) w.place (every-at (λ p. place_rises f (15 * k + p)) 15 0 t (omega arith))
            (sym (record_same f whole k h 0 (omega arith)) ∙ e) (omega (arith, w.before)) w.holds)
        go false e = refl

    -- every id of the block is greater than the last before it
    from_last : ids_rise b ≡ true → (w : Last f whole k) → joins ≡ true → (p : ℕ) → p < 15 → is_record b p ≡ true → id_rises (id_at f w.place) (id_at b p) ≡ true
    from_last r w j p l e = go (eq-or-lt_of_le (least p))
      where
        least : (p : ℕ) → 0 ≤ p
        least p = omega arith

        zero-record : is_record b 0 ≡ true
        zero-record = first-record f whole k h p l e

        to-first : id_rises (id_at f w.place) (id_at b 0) ≡ true
        to-first = rw (last-records w, zero-record, w.id) at j

        go : (0 ≡ p) ⊎ (0 < p) → id_rises (id_at f w.place) (id_at b p) ≡ true
        go (inl a) = ap (λ (n : ℕ). id_rises (id_at f w.place) (id_at b n)) (sym a) ∙ to-first
        go (inr a) =
            id-trans (id_at f w.place) (id_at b 0) (id_at b p) to-first
            (rises-to b p 0 (every-at (place_rises b) 15 p (sym one-file ∙ r) l) e a zero-record)

    place-held : ids_rise b ≡ true → joins ≡ true → None f whole k ⊎ Last f whole k → (p : ℕ) → p < 15 → place_rises f (15 * k + p) ≡ true
    place-held r j n p l = place-rises f (15 * k + p) (λ e q g u. go (record_same f whole k h p l ∙ e) q g u n (lt-or-ge q (15 * k)))
      where
        go : is_record b p ≡ true → (q : ℕ) → q < 15 * k + p → is_record f q ≡ true → None f whole k ⊎ Last f whole k → (q < 15 * k) ⊎ (15 * k ≤ q)
            → id_rises (id_at f q) (id_at f (15 * k + p)) ≡ true
        go e q g u (inl n) (inl a) = clash u (n q a)
        go e q g u (inr w) (inl a) = side (below_last w q a u)
          where
            side : (q ≡ w.place) ⊎ (id_rises (id_at f q) (id_at f w.place) ≡ true) → id_rises (id_at f q) (id_at f (15 * k + p)) ≡ true
            side (inl x) = rw (x, ← id_same f whole k h p l) (from_last r w j p l e)
            side (inr x) = rw (← id_same f whole k h p l) (id-trans (id_at f q) (id_at f w.place) (id_at b p) x (from_last r w j p l e))
        go e q g u n (inr a) =
            let i : 15 * k + (q - 15 * k) ≡ q = omega arith in
            let same : id_at b (q - 15 * k) ≡ id_at f q = id_same f whole k h (q - 15 * k) (omega arith) ∙ ap (id_at f) i in
            rw (← same, ← id_same f whole k h p l)
            (rises-to b p (q - 15 * k) (every-at (place_rises b) 15 p (sym one-file ∙ r) l) e (omega arith)
            (record_same f whole k h (q - 15 * k) (omega arith) ∙ ap (is_record f) i ∙ u))

    -- where the ids before a block rise, question 8 of its places in the file is question 8 of the next block
    pub block-ids : every 15 (λ p. place_rises f (15 * k + p)) ≡ ids_go_on s b
    unfolding ids_go_on
    block-ids =
        same_test (every 15 (λ p. place_rises f (15 * k + p))) (ids_rise b && joins)
        (λ t. and_both (one-file ∙ every-all (place_rises b) 15 (λ p l. block-rises p l (every-at (λ p. place_rises f (15 * k + p)) 15 p t l)))
        (joined t (walked f whole k (omega arith))))
        (λ t. let (r, j) = both (ids_rise b) joins t in every-all (λ p. place_rises f (15 * k + p)) 15 (place-held r j (walked f whole k (omega arith))))

-- 8, block by block and over the file
module _ (f : List ℕ) (whole : length f ≡ 512 * block_count f) where
  abbrev goes_on : ℕ → Bool
  goes_on k = ids_go_on (state_after f (block_count f) k) (block_of f k)

  ids-blocks : (k : ℕ) → k ≤ block_count f → every k goes_on ≡ every (15 * k) (place_rises f)
  ids-blocks zero h = every-none goes_on ∙ sym (every-none (place_rises f))
  ids-blocks (suc k) h =
      every-suc goes_on k ∙ step (every (15 * k) (place_rises f)) refl (ids-blocks k (omega arith))
      ∙ sym (every-parts (place_rises f) (15 * k) 15) ∙ ap (λ (n : ℕ). every n (place_rises f)) next
    where
      next : 15 * k + 15 ≡ 15 * suc k
      next = omega arith

      step : (c : Bool) → every (15 * k) (place_rises f) ≡ c → every k goes_on ≡ every (15 * k) (place_rises f)
          → (every k goes_on && goes_on k) ≡ (every (15 * k) (place_rises f) && every 15 (λ p. place_rises f (15 * k + p)))
      step true e ih = ap₂ ◌&&◌ ih (sym (block-ids f whole k h e))
      step false e ih = rw (ih, e)

  -- each next block, in order, answers question 8 yes exactly where the file does
  pub ids-right : every (block_count f) goes_on ≡ ids_rise f
  unfolding ids_rise
  ids-right = ids-blocks (block_count f) (le_refl (block_count f))
