-- In a file that load accepts the search by halves ends where the walk over all places does. A block that begins by an id has no record with it
-- before its first place: in a calendar block, since only calendar blocks come before it, and in a product block, since the ids rise. So each step by
-- halves leaves none behind.
-- Assumes nothing.
use mathlib.Core.Path.{◌≡◌, refl, ◌∙◌, sym, ap}
use mathlib.Core.Bool.{Bool, true, false, not, ◌&&◌, ◌||◌, cond}
use mathlib.Core.Logic.{◌⊎◌, inl, inr}
use mathlib.Core.List.{List, [], ◌∷◌}
use Prim.Native.Nat.{ℕ, zero, suc, ◌+◌, ◌-◌, ◌*◌, ◌/◌, ◌%◌, ◌≤◌, ◌<◌}
use native.Mathlib.Numerals.{add-one}
use native.Mathlib.Omega.{arith}
use lib.Dec.{ltb, eqb, leb}
use lib.ListN.{get_or}
use borrow.Author.Tests.{ltb-true, lt-ltb, leb-true, eqb-true, not-true}
use Rattle.questions.specs.Questions.{first_no}
use Rattle.questions.specs.Search.{every}
use Rattle.questions.proofs.Bools.{clash, both, and-fst, and-snd, and_both, is_false, lt-or-ge}
use Rattle.questions.proofs.Search.{every-at}
use Rattle.file_blocks.specs.Blocks.{block_count, block_of, is_products, records_of_block, header_right, headers_right}
use Rattle.file_calendar.specs.Calendars.{year_count}
use Rattle.file_calendar.proofs.CalendarBlocks.{ordered, calendar-block, product-block}
use Rattle.file_ids.specs.Ids.{place_count, is_record, id_at, id_rises, pair_rises, place_rises, ids_rise}
use Rattle.file_load.specs.Products.{same_id}
use Rattle.file_load.specs.Load.{load_asks, has_id, place_from, found, find_call, product_of}
use Rattle.file_load.specs.Halves.{find_from, begins_by, stepped, halved, block_by_halves, place_by_halves, found_by_halves, product_by_halves, ByHalves}
use Rattle.file_load.proofs.Seeking.{seek-next}
use Rattle.file_load.proofs.RisingIds.{record-inside, rises-same}
use Rattle.file_load.proofs.LoadAnswers.{AllYes, all_yes}
use Rattle.file_load.proofs.Accepting.{count-right}

-- the steps one by one
module _ (test : ℕ → Bool) where
  -- with no step left the search by halves stays at its number
  pub halved-end : (n w k : ℕ) → n ≤ 0 → halved test n w k ≡ k
  unfolding halved
  halved-end zero w k h = refl
  halved-end (suc n) w k h = absurd (omega arith)

  -- with a step left the search by halves tries it and goes on with half the step
  pub halved-next : (n w k : ℕ) → 0 < n → halved test n w k ≡ halved test (n - 1) (w / 2) (stepped test w k)
  unfolding halved
  halved-next zero w k h = absurd (omega arith)
  halved-next (suc n) w k h =
      let e : suc n - 1 ≡ n = omega arith in
      ap (λ (m : ℕ). halved test m (w / 2) (stepped test w k)) (sym e)

-- the widths of the seven steps
abbrev pub widths : List ℕ
widths = 64 ∷ 32 ∷ 16 ∷ 8 ∷ 4 ∷ 2 ∷ 1 ∷ []

-- each step is half as wide as the one before it
pub half-next : (i : ℕ) → i < 7 → get_or widths i 0 / 2 ≡ get_or widths (i + 1) 0
unfolding every
half-next i h = eqb-true _ _ (every-at (λ k. eqb (get_or widths k 0 / 2) (get_or widths (k + 1) 0)) 7 i refl h)

-- no step is wider than 64 blocks
pub width-most : (i : ℕ) → i < 7 → get_or widths i 0 ≤ 64
unfolding every
width-most i h = leb-true _ _ (every-at (λ k. leb (get_or widths k 0) 64) 7 i refl h)

-- a block that begins by an id is in the file
pub begins-inside : (f id : List ℕ) (k : ℕ) → begins_by f id k ≡ true → k < block_count f
unfolding begins_by
begins-inside f id k e = ltb-true _ _ (and-fst (ltb k (block_count f)) _ e)

-- what a number that passes has, and the start, is had where the steps end
module _ (test : ℕ → Bool) (P : ℕ → Type 0) (passes : (k : ℕ) → test k ≡ true → P k) where
  step_keeps : (w k : ℕ) → P k → P (stepped test w k)
  unfolding stepped
  step_keeps w k p = go (test (k + w)) refl
    where
      go : (b : Bool) → test (k + w) ≡ b → P (cond b (k + w) k)
      go true e = passes (k + w) e
      go false e = p

  halved-keeps : (n w k : ℕ) → P k → P (halved test n w k)
  unfolding halved
  halved-keeps zero w k p = p
  halved-keeps (suc n) w k p = halved-keeps n (w / 2) (stepped test w k) (step_keeps w k p)

-- no place before p holds a record with the id
abbrev NoneBefore : List ℕ → List ℕ → ℕ → Type 0
NoneBefore f id p = (q : ℕ) → q < p → has_id f id q ≡ false

-- so a search may begin at p
begins-there : (f id : List ℕ) (p : ℕ) → p ≤ place_count f → NoneBefore f id p → place_from f id p ≡ place_from f id 0
begins-there f id zero h none = refl
begins-there f id (suc p) h none =
    ap (place_from f id) (sym (add-one p)) ∙ seek-next f id p (omega arith) (none p (omega arith)) ∙
    begins-there f id p (omega arith) (λ q l. none q (omega arith))

-- of a file that load accepts, a block that begins by an id
module _ (f id : List ℕ) (y : AllYes f) (k : ℕ) where
  -- in a calendar block no place holds a record
  no_record : (q : ℕ) → q / 15 < year_count f → is_record f q ≡ false
  unfolding is_record
  no_record q h = is_false _ (λ t. absurd (omega (arith, one, two t)))
    where
      one : get_or (block_of f (q / 15)) 0 0 ≡ 1
      one = eqb-true _ _ (calendar-block f (ordered f y.yes4) (q / 15) h)

      two : (is_products (block_of f (q / 15)) && ltb (q % 15) (records_of_block (block_of f (q / 15)))) ≡ true → get_or (block_of f (q / 15)) 0 0 ≡ 2
      two t = eqb-true _ _ (and-fst (is_products (block_of f (q / 15))) _ t)

  -- the first place of a product block holds one
  first-record : year_count f ≤ k → k < block_count f → is_record f (15 * k) ≡ true
  unfolding is_record headers_right
  first-record h l =
      let block : 15 * k / 15 ≡ k = omega arith in
      let place : 15 * k % 15 ≡ 0 = omega arith in
      let products = product-block f (ordered f y.yes4) k h l in
      let some = (count-right (block_of f k) k (every-at (λ n. header_right (block_of f n) n) (block_count f) k y.yes3 l) products).0 in
      rw (block, place) (and_both products (lt-ltb 0 (records_of_block (block_of f k)) (omega (arith, some))))

  -- a block that begins with no record is a calendar block, and so are those before it
  after-years : k < block_count f → is_record f (15 * k) ≡ false → NoneBefore f id (15 * k)
  unfolding has_id
  after-years l e q h = go (lt-or-ge k (year_count f))
    where
      go : (k < year_count f) ⊎ (year_count f ≤ k) → (is_record f q && same_id (id_at f q) id) ≡ false
      go (inl s) = rw (no_record q (omega arith))
      go (inr s) = clash (first-record s l) e

  -- the ids before one that is not after the id are less
  after_less : is_record f (15 * k) ≡ true → id_rises id (id_at f (15 * k)) ≡ false → NoneBefore f id (15 * k)
  unfolding has_id ids_rise place_rises
  after_less t e q h = is_false _ (λ s. clash (rises s) e)
    where
      rises : (is_record f q && same_id (id_at f q) id) ≡ true → id_rises id (id_at f (15 * k)) ≡ true
      rises s =
          let (record-q, id-q) = both (is_record f q) (same_id (id_at f q) id) s in
          let all = rw t at (every-at (place_rises f) (place_count f) (15 * k) y.yes8 (record-inside f (15 * k) t)) in
          sym (rises-same (id_at f q) (id_at f (15 * k)) id id-q) ∙ rw record-q at (every-at (pair_rises f (15 * k)) (15 * k) q all h)

  none-behind : begins_by f id k ≡ true → (k ≤ block_count f) × NoneBefore f id (15 * k)
  unfolding begins_by
  none-behind e =
      (omega (arith, begins-inside f id k e), go (is_record f (15 * k)) refl (and-snd (ltb k (block_count f)) _ e))
    where
      go : (b : Bool) → is_record f (15 * k) ≡ b → (not b || not (id_rises id (id_at f (15 * k)))) ≡ true → NoneBefore f id (15 * k)
      go true t s = after_less t (not-true (id_rises id (id_at f (15 * k))) s)
      go false t s = after-years (begins-inside f id k e) t

-- so the search by halves finds what the walk over all places finds: question 9 and the product
module _ (f id : List ℕ) (e : first_no (load_asks f) ≡ 0) where
  -- in a file that load accepts the search by halves ends at the place where the walk over all places ends
  pub halves-place : place_by_halves f id ≡ place_from f id 0
  unfolding place_by_halves block_by_halves
  halves-place =
      let (inside, none) = halved-keeps (begins_by f id) (λ k. (k ≤ block_count f) × NoneBefore f id (15 * k)) (none-behind f id (all_yes f e)) 7 64 0
      (omega arith, λ q h. absurd (omega arith)) in
      begins-there f id (15 * halved (begins_by f id) 7 64 0) (omega (arith, inside)) none

  -- in a file that load accepts the search by halves answers question 9 as the walk over all places does
  pub halves-found : found_by_halves f id ≡ found f id
  unfolding found_by_halves found
  halves-found = rw halves-place

  -- in a file that load accepts the product found by halves is the product with the id
  pub halves_product : product_by_halves f id ≡ product_of f id
  unfolding product_by_halves product_of
  halves_product = rw halves-place

  -- in a file that load accepts the search from the block by halves on answers as the search over all places
  pub halves-find : find_from f id (15 * block_by_halves f id) ≡ find_call f id
  unfolding place_by_halves find_from find_call found
  halves-find = rw halves-place

-- the same as one claim
pub by-halves : (f id : List ℕ) → ByHalves f id
by-halves f id = record { place = halves-place f id; found-same = halves-found f id; product-same = halves_product f id }
