-- A list of zeros that is filled from the front, one place a turn.
-- Assumes nothing.
use mathlib.Core.Path.{◌≡◌, refl, ◌∙◌, sym, ap}
use mathlib.Core.Bool.{Bool, true, false}
use mathlib.Core.List.{List}
use Prim.Native.Nat.{ℕ, zero, suc, ◌+◌, ◌≤◌, ◌<◌}
use native.Mathlib.Nat.{add-zero, add-suc, suc-add, zero-add, le_of_suc-le-suc}
use native.Mathlib.Omega.{arith}
use lib.Dec.{ltb, eqb}
use lib.ListN.{length, get_or, set, length-set, replicate, get_or-replicate, length-replicate}
use lib.Seq.{get_or-set_same, get_or-set_other, ext_get_or}
use borrow.Author.Tests.{lt-ltb, le-ltb, eqb-true, eqb-false, ltb-true, ltb-false}
use Rattle.file_calendar.specs.Calendars.{listed, up_to}

-- a list of n values has length n
pub listed-length : (i n : ℕ) (value : ℕ → ℕ) → length (listed i n value) ≡ n
unfolding listed
listed-length i zero value = refl
listed-length i (suc n) value = ap suc (listed-length (suc i) n value)

listed-from : (i n : ℕ) (value : ℕ → ℕ) (k : ℕ) → k < n → get_or (listed i n value) k 0 ≡ value (i + k)
unfolding listed
listed-from i zero value k h = absurd (omega arith)
listed-from i (suc n) value zero h = ap value (sym (add-zero i))
listed-from i (suc n) value (suc k) h =
    listed-from (suc i) n value k (le_of_suc-le-suc h) ∙ ap value (suc-add i k ∙ sym (add-suc i k))

-- value k of a list of values from 0 on is that of the number k
pub listed_at : (n : ℕ) (value : ℕ → ℕ) (k : ℕ) → k < n → get_or (listed 0 n value) k 0 ≡ value k
listed_at n value k h = listed-from 0 n value k h ∙ ap value (zero-add k)

-- a list with the values of a listed one
listed-is : (n : ℕ) (value : ℕ → ℕ) (l : List ℕ) → length l ≡ n → ((k : ℕ) → k < n → get_or l k 0 ≡ value k) → l ≡ listed 0 n value
listed-is n value l long each =
    ext_get_or 0 l (listed 0 n value) (long ∙ sym (listed-length 0 n value))
    (λ k h. each k (omega arith) ∙ sym (listed_at n value k (omega arith)))

-- of n places the first i have been filled
pub record Filled (value : ℕ → ℕ) (n i : ℕ) (l : List ℕ) : Type 0 where
  -- the list is as long as stated
  pub long : length l ≡ n
  -- each place below i has its value, and each later place has 0
  pub each : (k : ℕ) → k < n → get_or l k 0 ≡ up_to i value k

module _ (value : ℕ → ℕ) where
  -- a place that is filled has its value
  pub up_in : (i k : ℕ) → k < i → up_to i value k ≡ value k
  unfolding up_to
  up_in i k h = simp (lt-ltb _ _ h)

  -- a place that is not yet filled has 0
  pub up-out : (i k : ℕ) → i ≤ k → up_to i value k ≡ 0
  unfolding up_to
  up-out i k h = simp (le-ltb _ _ h)

module _ (value : ℕ → ℕ) (n : ℕ) where
  -- a list of zeros is one with no place filled
  pub filled_none : Filled value n 0 (replicate n 0)
  filled_none =
      record { long = length-replicate n 0; each = λ k h. get_or-replicate n k 0 0 h ∙ sym (up-out value 0 k (omega arith)) }

  -- setting the next place to its value gives a list with one place more filled
  pub filled_more : (i : ℕ) (l : List ℕ) (v : ℕ) → i < n → v ≡ value i → Filled value n i l → Filled value n (i + 1) (set l i v)
  filled_more i l v h q r = record { long = length-set l i v ∙ r.long; each = λ k h. go k h (eqb k i) refl }
    where
      side : (k : ℕ) (b : Bool) → ltb k i ≡ b → (k ≡ i → ⊥) → up_to i value k ≡ up_to (i + 1) value k
      side k true e p = up_in value i k (ltb-true _ _ e) ∙ sym (up_in value (i + 1) k (omega (arith, ltb-true k i e)))
      side k false e p = up-out value i k (ltb-false _ _ e) ∙ sym (up-out value (i + 1) k (omega (arith, ltb-false k i e)))

      go : (k : ℕ) → k < n → (b : Bool) → eqb k i ≡ b → get_or (set l i v) k 0 ≡ up_to (i + 1) value k
      go k h true e =
          let p : k ≡ i = eqb-true _ _ e in
          rw p (get_or-set_same l i v 0 (omega (arith, r.long)) ∙ q ∙ sym (up_in value (i + 1) i (omega arith)))
      go k h false e =
          let p : (k ≡ i → ⊥) = eqb-false _ _ e in
          get_or-set_other l i k v 0 p ∙ r.each k h ∙ side k (ltb k i) refl p

  -- a list with its first places filled is the list of those values, then zeros
  pub filled-all : (i : ℕ) (l : List ℕ) → Filled value n i l → l ≡ listed 0 n (up_to i value)
  filled-all i l r = listed-is n (up_to i value) l r.long r.each
