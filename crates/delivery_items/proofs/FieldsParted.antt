-- The fields of a line, separator by separator.
-- Assumes nothing.
use mathlib.Core.Path.{◌≡◌, refl, sym, ap, ◌∙◌}
use mathlib.Core.List.{List, [], ◌∷◌, ◌++◌, append-nil}
use mathlib.Core.Bool.{true, cond}
use mathlib.Core.Logic.{◌⊎◌, inl, inr}
use Prim.Native.Nat.{ℕ, zero, suc, ◌+◌, ◌-◌, ◌≤◌, ◌<◌}
use native.Mathlib.Numerals.{add-one}
use native.Mathlib.Omega.{arith}
use lib.Dec.{ltb}
use lib.ListN.{length, get_or, take, drop}
use lib.Seq.{drop-cons, drop-drop, drop-length, append_snoc, get_or-drop}
use borrow.Author.Tests.{lt-ltb, le-ltb}
use Rattle.questions.proofs.Bools.{is_false, lt-or-ge}
use Rattle.delivery_items.specs.Items.{separator, fields_from, fields_of, raw_field}
use Rattle.delivery_items.specs.LineFields.{SeparatorFrom}

-- no separator from one place up to another, and none at the next
pub none_more : (line : List ℕ) (from i : ℕ) → ((j : ℕ) → from ≤ j → j < i → separator (get_or line j 0) ≡ true → ⊥) → (separator (get_or line i 0) ≡ true → ⊥)
    → (j : ℕ) → from ≤ j → j < i + 1 → separator (get_or line j 0) ≡ true → ⊥
none_more line from i none n j h l e = go (lt-or-ge j i)
  where
    go : (j < i) ⊎ (i ≤ j) → ⊥
    go (inl s) = none j h s e
    go (inr s) =
        let q : i ≡ j = omega arith in
        n (rw q e)

-- bytes that are no separators belong to the field that has begun
pass : (m : ℕ) (line begun : List ℕ) (from to : ℕ) → from + m ≡ to → to ≤ length line → ((i : ℕ) → from ≤ i → i < to → separator (get_or line i 0) ≡ true → ⊥)
    → fields_from begun (drop from line) ≡ fields_from (begun ++ take m (drop from line)) (drop to line)
unfolding fields_from
pass zero line begun from to e h none =
    let q : from ≡ to = omega arith in
    rw (q, append-nil begun) refl
pass (suc m) line begun from to e h none =
    let l : from < to = omega arith in
    let g : from < length line = omega arith in
    rw (drop-cons line from 0 g, is_false (separator (get_or line from 0)) (none from (omega arith) l))
    (pass m line (begun ++ (get_or line from 0 ∷ [])) (suc from) to (omega arith) h (λ i a b. none i (omega arith) b)
    ∙ ap (λ (w : List ℕ). fields_from w (drop to line)) (append_snoc begun (get_or line from 0) (take m (drop (suc from) line))))

module _ (line : List ℕ) (from r : ℕ) (s : SeparatorFrom line from r) where
  passed : fields_of (drop from line) ≡ fields_from (take (r - from) (drop from line)) (drop r line)
  passed = pass (r - from) line [] from r (omega (arith, s.on)) s.within s.none

  -- a field that a separator ends, and one that the line ends
  pub field-more : r < length line → fields_of (drop from line) ≡ take (r - from) (drop from line) ∷ fields_of (drop (r + 1) line)
  unfolding fields_from
  field-more h = passed ∙ rw (drop-cons line r 0 h, s.parts h, add-one r) refl

  -- where the line ends before a separator comes, its rest is one field, the last
  pub field-last : length line ≤ r → fields_of (drop from line) ≡ take (r - from) (drop from line) ∷ []
  unfolding fields_from
  field-last h =
      let e : r ≡ length line = omega (arith, s.within) in
      passed ∙ ap (fields_from (take (r - from) (drop from line))) (ap (λ (n : ℕ). drop n line) e ∙ drop-length line)

-- how many fields follow a place that is a separator or the line's end
unfoldable pub fields_left : List ℕ → ℕ → ℕ
fields_left line r = cond (ltb r (length line)) (length (fields_of (drop (r + 1) line))) 0

-- from the start of a field there is one field more than are left after its end
pub fields-counted : (line : List ℕ) (from r : ℕ) → SeparatorFrom line from r → length (fields_of (drop from line)) ≡ 1 + fields_left line r
unfolding fields_left
fields-counted line from r s = go (lt-or-ge r (length line))
  where
    go : (r < length line) ⊎ (length line ≤ r) → length (fields_of (drop from line)) ≡ 1 + cond (ltb r (length line)) (length (fields_of (drop (r + 1) line))) 0
    go (inl h) = rw (lt-ltb r (length line) h) (ap length (field-more line from r s h) ∙ omega arith)
    go (inr h) = rw (le-ltb r (length line) h) (ap length (field-last line from r s h) ∙ omega arith)

-- at the end of the line no field is left
pub none_left : (line : List ℕ) (r : ℕ) → length line ≤ r → fields_left line r ≡ 0
unfolding fields_left
none_left line r h = rw (le-ltb r (length line) h) refl

-- at a place before the line's end the fields left are those of the line after it
pub some_left : (line : List ℕ) (r : ℕ) → r < length line → fields_left line r ≡ length (fields_of (drop (r + 1) line))
unfolding fields_left
some_left line r h = rw (lt-ltb r (length line) h) refl

-- the fields from field i on are those of the line from a place on
module _ (line : List ℕ) (i from r : ℕ) (e : drop i (fields_of line) ≡ fields_of (drop from line)) (s : SeparatorFrom line from r) where
  -- after a separator the fields from the next one on are those of the line after the separator
  pub fields-next : r < length line → drop (i + 1) (fields_of line) ≡ fields_of (drop (r + 1) line)
  fields-next h = sym (drop-drop 1 i (fields_of line)) ∙ ap (drop 1) (e ∙ field-more line from r s h)

  -- field i itself
  pub field-here : take (r - from) (drop from line) ≡ raw_field line i
  unfolding raw_field
  field-here = go (lt-or-ge r (length line))
    where
      at : get_or (drop i (fields_of line)) 0 [] ≡ get_or (fields_of line) i []
      at = get_or-drop i (fields_of line) 0 [] ∙ ap (λ (n : ℕ). get_or (fields_of line) n []) (omega arith)

      go : (r < length line) ⊎ (length line ≤ r) → take (r - from) (drop from line) ≡ get_or (fields_of line) i []
      go (inl h) = sym (ap (λ (ws : List (List ℕ)). get_or ws 0 []) (e ∙ field-more line from r s h)) ∙ at
      go (inr h) = sym (ap (λ (ws : List (List ℕ)). get_or ws 0 []) (e ∙ field-last line from r s h)) ∙ at

  -- no field after the last
  pub field-beyond : length line ≤ r → (k : ℕ) → i < k → [] ≡ raw_field line k
  unfolding raw_field
  field-beyond h k l =
      let j : ℕ = k - i - 1 in
      let q : i + suc j ≡ k = omega arith in
      sym (ap (λ (ws : List (List ℕ)). get_or ws (suc j) []) (e ∙ field-last line from r s h)) ∙ get_or-drop i (fields_of line) (suc j) [] ∙
      ap (λ (n : ℕ). get_or (fields_of line) n []) q
