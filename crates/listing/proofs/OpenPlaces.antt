-- The places of a listing as one test of a key and the number of places still open: the listing is one pass over the keys.
-- Assumes nothing.
use mathlib.Core.Path.{◌≡◌, refl, sym, ap, subst, ◌∙◌}
use mathlib.Core.Bool.{Bool, true, false, ◌&&◌, cond}
use mathlib.Core.List.{List, [], ◌∷◌}
use Prim.Native.Nat.{ℕ, zero, suc, ◌+◌, ◌-◌, ◌≤◌, ◌<◌}
use native.Mathlib.Nat.{zero-add}
use native.Mathlib.Numerals.{add-one}
use native.Mathlib.Omega.{arith}
use lib.Dec.{leb, ltb}
use lib.ListN.{length}
use borrow.Author.Tests.{le-leb, lt-leb, leb-true, leb-false, ltb-true, lt-ltb, le-ltb}
use Rattle.questions.proofs.Bools.{clash, both, and_both}
use Rattle.questions.proofs.Search.{search-none, search-here, search-next}
use Rattle.listing.specs.Rules.{widest, next_of, taken}
use Rattle.listing.proofs.Walks.{bit, sift, walk, open_at, listed, walk-sift, walk_same, walk-skip}

-- with r of the places still open, the set of the next one holds the key
abbrev pub fits : List (ℕ → Bool) → ℕ → ℕ → Bool
fits [] r k = false
fits (set ∷ rest) r k = cond (leb r (length rest)) (fits rest r k) (set k)

-- each place's set lies inside the one before it, the first inside p
abbrev pub Nested : (ℕ → Bool) → List (ℕ → Bool) → Type 0
Nested p [] = Unit {0}
Nested p (set ∷ rest) = ((k : ℕ) → set k ≡ true → p k ≡ true) × Nested set rest

-- a key that fits is in the set that holds all of them
pub fits-inside : (p : ℕ → Bool) (ps : List (ℕ → Bool)) → Nested p ps → (r k : ℕ) → fits ps r k ≡ true → p k ≡ true
fits-inside p [] n r k e = clash e refl
fits-inside p (set ∷ rest) n r k e = go (leb r (length rest)) e (fits-inside set rest n.1 r k)
  where
    go : (b : Bool) → cond b (fits rest r k) (set k) ≡ true → (fits rest r k ≡ true → set k ≡ true) → p k ≡ true
    go true d ih = n.0 k (ih d)
    go false d ih = n.0 k d

-- a key that fits with fewer places open fits with more
pub fits_more : (p : ℕ → Bool) (ps : List (ℕ → Bool)) → Nested p ps → (k r r' : ℕ) → r ≤ r' → fits ps r k ≡ true → fits ps r' k ≡ true
fits_more p [] n k r r' h e = e
fits_more p (set ∷ rest) n k r r' h e = go (leb r (length rest)) refl (leb r' (length rest)) refl e (fits_more set rest n.1 k r r' h)
  where
    go : (b : Bool) → leb r (length rest) ≡ b → (b' : Bool) → leb r' (length rest) ≡ b' → cond b (fits rest r k) (set k) ≡ true
        → (fits rest r k ≡ true → fits rest r' k ≡ true) → cond b' (fits rest r' k) (set k) ≡ true
    go true x true y d ih = ih d
    go true x false y d ih = fits-inside set rest n.1 r k d
    go false x true y d ih = absurd (omega (arith, leb-false r (length rest) x, leb-true r' (length rest) y))
    go false x false y d ih = d

-- a wider set holds them too
pub nested-wider : (p q : ℕ → Bool) (ps : List (ℕ → Bool)) → ((k : ℕ) → q k ≡ true → p k ≡ true) → Nested q ps → Nested p ps
nested-wider p q [] h n = tt
nested-wider p q (set ∷ rest) h n = (λ k e. h k (n.0 k e), n.1)

-- so does the first place's
pub nested-first : (p : ℕ → Bool) (ps : List (ℕ → Bool)) → Nested p ps → Nested (widest ps) ps
nested-first p [] n = tt
nested-first p (set ∷ rest) n = (λ k e. e, n.1)

module _ (e : ℕ) where
  -- from the end on no key is taken
  pub taken_none : (ps : List (ℕ → Bool)) (k : ℕ) → e ≤ k → taken e ps k ≡ []
  unfolding taken
  taken_none [] k h = refl
  taken_none (set ∷ rest) k h = rw (search-none set e e k h, le-ltb e e (omega arith))

  -- a key before the end that is in the next place's set is taken, and the rest is taken from the key after it
  pub taken_here : (set : ℕ → Bool) (rest : List (ℕ → Bool)) (k : ℕ) → k < e → set k ≡ true → taken e (set ∷ rest) k ≡ k ∷ taken e rest (suc k)
  unfolding taken
  taken_here set rest k h t = rw (search-here set e e k h t, lt-ltb k e h)

  -- a key before the end that is not in the next place's set is passed over
  pub taken_next : (set : ℕ → Bool) (rest : List (ℕ → Bool)) (k : ℕ) → k < e → set k ≡ false → taken e (set ∷ rest) k ≡ taken e (set ∷ rest) (suc k)
  unfolding taken
  taken_next set rest k h t =
      let q : next_of e set (suc k) ≡ next_of e set k = rw (add-one k) at (search-next set e e k h t) in
      ap (λ (x : ℕ). cond (ltb x e) (x ∷ taken e rest (suc x)) []) (sym q)

  taken-nil : (k : ℕ) → taken e [] k ≡ []
  unfolding taken
  taken-nil k = refl

  walk-nil : (f k : ℕ) → walk (fits []) f k 0 ≡ []
  walk-nil zero k = refl
  walk-nil (suc f) k = walk-nil f (suc k)

  -- the first place is the next to fill
  fits-first : (set : ℕ → Bool) (rest : List (ℕ → Bool)) (k : ℕ) → fits (set ∷ rest) (suc (length rest)) k ≡ set k
  fits-first set rest k = rw (lt-leb (suc (length rest)) (length rest) (omega arith))

  -- once it is filled, the others are
  walk-rest : (set : ℕ → Bool) (rest : List (ℕ → Bool)) (f k : ℕ) → walk (fits (set ∷ rest)) f k (length rest) ≡ walk (fits rest) f k (length rest)
  walk-rest set rest f k =
      walk_same (fits (set ∷ rest)) (fits rest) (length rest) f k (length rest) (omega arith) (λ j q x y z. rw (le-leb q (length rest) z))

  -- the listing from the key k on is one pass with all places open
  pub one-pass : (f : ℕ) (ps : List (ℕ → Bool)) (k : ℕ) → e - k ≡ f → taken e ps k ≡ walk (fits ps) f k (length ps)
  one-pass zero ps k h = taken_none ps k (omega arith)
  one-pass (suc f) [] k h = taken-nil k ∙ sym (walk-nil (suc f) k)
  one-pass (suc f) (set ∷ rest) k h =
      go (set k) refl (one-pass f rest (suc k) (omega arith)) (one-pass f (set ∷ rest) (suc k) (omega arith))
    where
      less : suc (length rest) - 1 ≡ length rest
      less = omega arith

      same : suc (length rest) - 0 ≡ suc (length rest)
      same = omega arith

      go : (b : Bool) → set k ≡ b → taken e rest (suc k) ≡ walk (fits rest) f (suc k) (length rest)
          → taken e (set ∷ rest) (suc k) ≡ walk (fits (set ∷ rest)) f (suc k) (suc (length rest))
          → taken e (set ∷ rest) k ≡ walk (fits (set ∷ rest)) (suc f) k (suc (length rest))
      go true t i j = rw (fits-first set rest k, t, less) (taken_here set rest k (omega arith) t ∙ ap (◌∷◌ k) (i ∙ sym (walk-rest set rest f (suc k))))
      go false t i j = rw (fits-first set rest k, t, same) (taken_next set rest k (omega arith) t ∙ j)

-- with r places open, the key may be taken: it is not before the front, it is below e, and the next place's set holds it
abbrev pub takes : ℕ → List (ℕ → Bool) → ℕ → ℕ → ℕ → Bool
takes e ps front r k = (leb front k && ltb k e) && fits ps r k

-- the key is in the listing from the front on
abbrev pub lists : ℕ → List (ℕ → Bool) → ℕ → ℕ → Bool
lists e ps front k = listed (takes e ps front) (length ps) k

module _ (e : ℕ) (ps : List (ℕ → Bool)) where
  abbrev in-range : ℕ → ℕ → Bool
  in-range front k = leb front k && ltb k e

  -- so the listing holds the keys that pass a test of the key alone
  pub taken-sift : (front : ℕ) → front ≤ e → taken e ps front ≡ sift (lists e ps front) e 0
  taken-sift front h =
      let w : e ≡ front + (e - front) = omega arith in
      one-pass e (e - front) ps front refl
      ∙ walk_same (fits ps) (takes e ps front) (length ps) (e - front) front (length ps) (omega arith)
      (λ j q x y z. rw (le-leb front j x, lt-ltb j e (omega arith)))
      ∙ ap (λ (x : ℕ). walk (takes e ps front) (e - front) x (length ps)) (sym (zero-add front))
      ∙ sym (walk-skip (takes e ps front) (e - front) front 0 (length ps) (λ j q x y. rw (lt-leb front j (omega arith))))
      ∙ ap (λ (x : ℕ). walk (takes e ps front) x 0 (length ps)) (sym w)
      ∙ walk-sift (takes e ps front) (length ps) e 0

  -- a listed key is not before the front, is below e, and fits the places that are open then
  pub record Within (front k : ℕ) : Type 0 where
    -- the key is not before the front
    pub from : front ≤ k
    -- the key is before the end
    pub below : k < e
    -- the key fits the places that are open when it is reached
    pub fitting : fits ps (open_at (takes e ps front) (length ps) k) k ≡ true

  -- a listed key is not before the front, is before the end, and fits the places that are open then
  pub within : (front k : ℕ) → lists e ps front k ≡ true → Within front k
  within front k t =
      let (a, b) = both (in-range front k) (fits ps (open_at (takes e ps front) (length ps) k) k) t in
      let (c, d) = both (leb front k) (ltb k e) a in
      record { from = leb-true front k c; below = ltb-true k e d; fitting = b }

  -- a key before the front is not listed
  pub before-none : (front k : ℕ) → k < front → lists e ps front k ≡ false
  before-none front k h = rw (lt-leb front k h)

  module _ (p : ℕ → Bool) (nested : Nested p ps) where
    -- where the sets are nested in one set, each listed key is in that set
    pub widely : (front k : ℕ) → lists e ps front k ≡ true → p k ≡ true
    widely front k t = fits-inside p ps nested (open_at (takes e ps front) (length ps) k) k (within front k t).fitting

    module _ (f g : ℕ) (later : f ≤ g) where
      narrower : (k : ℕ) → in-range g k ≡ true → in-range f k ≡ true
      narrower k t =
          let (a, b) = both (leb g k) (ltb k e) t in
          let h : g ≤ k = leb-true g k a in
          and_both (le-leb f k (omega arith)) b

      -- the walk from a later front has at least as many places open
      fewer : (r r' k : ℕ) → r ≤ r' → r - bit (takes e ps f r k) ≤ r' - bit (takes e ps g r' k)
      fewer r r' k h = go (takes e ps f r k) refl (takes e ps g r' k) refl
        where
          not_same : takes e ps f r k ≡ false → takes e ps g r' k ≡ true → r ≡ r' → ⊥
          not_same a b q =
              let (c, d) = both (in-range g k) (fits ps r' k) b in
              clash (and_both (narrower k c) (subst (λ (x : ℕ). fits ps x k ≡ true) (sym q) d)) a

          go : (b : Bool) → takes e ps f r k ≡ b → (b' : Bool) → takes e ps g r' k ≡ b' → r - bit b ≤ r' - bit b'
          go true x true y = omega arith
          go true x false y = omega arith
          go false x true y = let n : r ≡ r' → ⊥ = not_same x y in omega arith
          go false x false y = omega arith

      behind : (k : ℕ) → open_at (takes e ps f) (length ps) k ≤ open_at (takes e ps g) (length ps) k
      behind zero = omega arith
      behind (suc k) = fewer (open_at (takes e ps f) (length ps) k) (open_at (takes e ps g) (length ps) k) k (behind k)

      -- the listing from a later front holds every listed key that is not before it
      pub stays : (k : ℕ) → lists e ps f k ≡ true → g ≤ k → lists e ps g k ≡ true
      stays k t h =
          let w = within f k t in
          and_both (and_both (le-leb g k h) (lt-ltb k e w.below))
          (fits_more p ps nested k (open_at (takes e ps f) (length ps) k) (open_at (takes e ps g) (length ps) k) (behind k) w.fitting)
