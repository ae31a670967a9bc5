-- The search for the place of an id.
-- Assumes nothing.
use mathlib.Core.Path.{◌≡◌, refl, ◌∙◌, sym, ap}
use mathlib.Core.Bool.{Bool, true, false, cond}
use mathlib.Core.Logic.{◌⊎◌, inl, inr}
use mathlib.Core.List.{List}
use Prim.Native.Nat.{ℕ, zero, suc, ◌+◌, ◌-◌, ◌/◌, ◌%◌, ◌≤◌, ◌<◌}
use native.Mathlib.Nat.{eq-or-lt_of_le}
use native.Mathlib.Omega.{arith}
use Rattle.questions.proofs.Bools.{clash}
use Rattle.questions.specs.Search.{first_from}
use Rattle.questions.proofs.Search.{search-none, search-here, search-next}
use Rattle.file_blocks.specs.Blocks.{block_count}
use Rattle.file_ids.specs.Ids.{place_count}
use Rattle.file_load.specs.Load.{has_id, place_from, place_of}
use Rattle.file_load.specs.declared.Place.{Place}

module _ (f id : List ℕ) where
  -- past the last place a search for an id ends with the count of places
  pub seek-none : (p : ℕ) → place_count f ≤ p → place_from f id p ≡ place_count f
  unfolding place_from
  seek-none = search-none (has_id f id) (place_count f) (place_count f)

  -- a search from a place that holds a record with the id ends there
  pub seek-here : (p : ℕ) → p < place_count f → has_id f id p ≡ true → place_from f id p ≡ p
  unfolding place_from
  seek-here = search-here (has_id f id) (place_count f) (place_count f)

  -- a search from a place without a record with the id ends where the search from the next place does
  pub seek-next : (p : ℕ) → p < place_count f → has_id f id p ≡ false → place_from f id (p + 1) ≡ place_from f id p
  unfolding place_from
  seek-next = search-next (has_id f id) (place_count f) (place_count f)

-- the place after the last block
pub place-past : (f : List ℕ) (p : ℕ) → p ≡ place_count f → ◌≡◌ {A = Place} (record { block = block_count f; «record» = 0 }) (place_of p)
place-past f p e =
    let b : p / 15 ≡ block_count f = omega arith in
    let r : p % 15 ≡ 0 = omega arith in
    simp (b, r)

-- a search ends with none, or with a number that passes
ends : (test : ℕ → Bool) (none n d : ℕ) → (first_from test none n d ≡ none) ⊎ (test (first_from test none n d) ≡ true)
unfolding first_from
ends test none zero d = inl refl
ends test none (suc n) d = go (test d) refl (ends test none n (suc d))
  where
    go : (b : Bool) → test d ≡ b → (first_from test none n (suc d) ≡ none) ⊎ (test (first_from test none n (suc d)) ≡ true)
        → (cond b d (first_from test none n (suc d)) ≡ none) ⊎ (test (cond b d (first_from test none n (suc d))) ≡ true)
    go true e later = inr e
    go false e later = later

-- the place that is found holds the record with the id
pub found-has : (f id : List ℕ) → place_from f id 0 < place_count f → has_id f id (place_from f id 0) ≡ true
unfolding place_from
found-has f id h = go (ends (has_id f id) (place_count f) (place_count f - 0) 0)
  where
    go : (place_from f id 0 ≡ place_count f) ⊎ (has_id f id (place_from f id 0) ≡ true) → has_id f id (place_from f id 0) ≡ true
    go (inl e) = absurd (omega arith)
    go (inr t) = t

-- a search does not go beyond a number that passes
reaches : (test : ℕ → Bool) (none n d k : ℕ) → d ≤ k → k < d + n → test k ≡ true → first_from test none n d ≤ k
unfolding first_from
reaches test none zero d k a b t = absurd (omega arith)
reaches test none (suc n) d k a b t = go (test d) refl (eq-or-lt_of_le a) (λ l. reaches test none n (suc d) k l (omega arith) t)
  where
    go : (b : Bool) → test d ≡ b → (d ≡ k) ⊎ (d < k) → (suc d ≤ k → first_from test none n (suc d) ≤ k) → cond b d (first_from test none n (suc d)) ≤ k
    go true e s later = a
    go false e (inl s) later = clash t (ap test (sym s) ∙ e)
    go false e (inr l) later = later l

-- a search for an id ends no later than at any place that holds a record with it
pub place-reached : (f id : List ℕ) (p : ℕ) → p < place_count f → has_id f id p ≡ true → place_from f id 0 ≤ p
unfolding place_from
place-reached f id p h t = reaches (has_id f id) (place_count f) (place_count f - 0) 0 p (omega arith) (omega arith) t
