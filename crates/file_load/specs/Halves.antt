-- The search for an id by halves over the blocks of a file (01, Questions, 9 'Is the id there?').
-- In a file that load accepts it ends where the walk over all places does; in another it may miss a record.
-- Assumes nothing.
use Rattle.std.specs.Prelude.{ℕ, zero, suc, ◌+◌, ◌*◌, ◌/◌, ◌%◌, ◌≡◌, Bool, not, ◌&&◌, ◌||◌, cond, List, [], ◌∷◌, ltb}
use Rattle.questions.specs.Questions.{ask, first_no, Answer, answer}
use Rattle.product.specs.declared.Product.{Product}
use Rattle.file_blocks.specs.Blocks.{block_count}
use Rattle.file_ids.specs.Ids.{place_count, is_record, id_at, id_rises}
use Rattle.file_load.specs.Products.{product_at}
use Rattle.file_load.specs.Load.{load_asks, found, place_from, place_of, product_of}
use Rattle.file_load.specs.declared.Place.{Place}

-- the place of the first record from place p on that has the id; 9 is asked of those places
unfoldable pub find_from : List ℕ → List ℕ → ℕ → Answer Place
find_from f id p =
    answer (ask 9 (ltb (place_from f id p) (place_count f)) ∷ []) (record { block = 0; «record» = 0 }) (place_of (place_from f id p))

-- block k is in the file, and its first place holds no record, as in a calendar block, or one whose id is at most the id that is looked for
unfoldable pub begins_by : List ℕ → List ℕ → ℕ → Bool
begins_by f id k = ltb k (block_count f) && (not (is_record f (15 * k)) || not (id_rises id (id_at f (15 * k))))

-- k + w where that number passes, else k
unfoldable pub stepped : (ℕ → Bool) → ℕ → ℕ → ℕ
stepped test w k = cond (test (k + w)) (k + w) k

-- n steps from k, of w, w / 2, w / 4, .. each
unfoldable pub halved : (ℕ → Bool) → ℕ → ℕ → ℕ → ℕ
halved test zero w k = k
halved test (suc n) w k = halved test n (w / 2) (stepped test w k)

-- the block from which a record with an id is looked for: of at most 128 blocks, in seven steps
unfoldable pub block_by_halves : List ℕ → List ℕ → ℕ
block_by_halves f id = halved (begins_by f id) 7 64 0

-- the first place from that block on of a record with the id; the count of places where there is none
unfoldable pub place_by_halves : List ℕ → List ℕ → ℕ
place_by_halves f id = place_from f id (15 * block_by_halves f id)

-- 9, of the places from that block on
unfoldable pub found_by_halves : List ℕ → List ℕ → Bool
found_by_halves f id = ltb (place_by_halves f id) (place_count f)

-- the product there
unfoldable pub product_by_halves : List ℕ → List ℕ → Product
product_by_halves f id = product_at f (place_by_halves f id / 15) (place_by_halves f id % 15)

-- in a file that load accepts the record that is found by halves is the one that the walk over all places finds
pub record ByHalves (f id : List ℕ) : Type 0 where
  pub place : first_no (load_asks f) ≡ 0 → place_by_halves f id ≡ place_from f id 0
  pub found-same : first_no (load_asks f) ≡ 0 → found_by_halves f id ≡ found f id
  pub product-same : first_no (load_asks f) ≡ 0 → product_by_halves f id ≡ product_of f id
