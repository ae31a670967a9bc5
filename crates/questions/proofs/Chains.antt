-- What the chains of the code give: tests of the items of a list and searches of a range of numbers, beside the tests of runs of numbers and the
-- searches of the definitions.
-- Assumes nothing.
use mathlib.Core.Path.{◌≡◌, refl, ◌∙◌, sym, ap}
use mathlib.Core.Bool.{Bool, true, false, not, ◌&&◌, ◌||◌}
use mathlib.Core.List.{List, [], ◌∷◌}
use Prim.Native.Nat.{ℕ, zero, suc, ◌+◌, ◌-◌, ◌≤◌, ◌<◌}
use native.Mathlib.Numerals.{add-one}
use native.Mathlib.Omega.{arith}
use lib.ListN.{length, get_or, take}
use Rattle.std.specs.List.{list_all, list_any, range_with_len}
use Rattle.std.proofs.lemmas.List.Folds.{list_all_more}
use Rattle.std.proofs.lemmas.List.FromFn.{length-range_with_len, get_or-range_with_len}
use Rattle.std.proofs.Common.{take_all}
use Rattle.std.proofs.Common.{Option, Some, None}
use Rattle.std.specs.Option.{MatchOption, unwrap_or}
use Rattle.questions.specs.Search.{every, first_from}
use Rattle.questions.proofs.Search.{first-none, first_next, first-is}

-- where two tests answer alike of every number below n, all of them pass the one where they pass the other
pub every_same : (f g : ℕ → Bool) (n : ℕ) → ((k : ℕ) → k < n → f k ≡ g k) → every n f ≡ every n g
unfolding every
every_same f g zero h = refl
every_same f g (suc n) h = rw (every_same f g n (λ k l. h k (omega arith)), h n (omega arith))

-- the first n items of a list pass where the item at every number below n passes
pub every_item : {A : Type 0} (p : A → Bool) (xs : List A) (d : A) (n : ℕ) → n ≤ length xs → list_all p (take n xs) ≡ every n (λ i. p (get_or xs i d))
unfolding every
every_item p xs d zero h = refl
every_item p xs d (suc n) h =
    let e : list_all p (take (suc n) xs) ≡ (list_all p (take n xs) && p (get_or xs n d)) = rw (← add-one n) (list_all_more p xs n d (omega arith)) in
    e ∙ ap (λ b. b && p (get_or xs n d)) (every_item p xs d n (omega arith))

-- none passes where each fails
none-passes : {A : Type 0} (p : A → Bool) (xs : List A) → not (list_any p xs) ≡ list_all (λ x. not (p x)) xs
none-passes p [] = refl
none-passes p (x ∷ xs) = go (p x) (none-passes p xs)
  where
    go : (b : Bool) → not (list_any p xs) ≡ list_all (λ y. not (p y)) xs → not (b || list_any p xs) ≡ (not b && list_all (λ y. not (p y)) xs)
    go true h = refl
    go false h = h

-- none of the first n items of a list passes where the item at every number below n fails
pub none_item : {A : Type 0} (p : A → Bool) (xs : List A) (d : A) (n : ℕ) → n ≤ length xs → not (list_any p (take n xs)) ≡ every n (λ i. not (p (get_or xs i d)))
none_item p xs d n h = none-passes p (take n xs) ∙ every_item (λ x. not (p x)) xs d n h

-- the numbers below n pass
pub every-range : (p : ℕ → Bool) (n : ℕ) → list_all p (range_with_len 0 n) ≡ every n p
every-range p n =
    let l = length-range_with_len 0 n in
    let e : list_all p (range_with_len 0 n) ≡ list_all p (take n (range_with_len 0 n)) = ap (list_all p) (sym (take_all n (range_with_len 0 n) (omega arith))) in
    e ∙ every_item p (range_with_len 0 n) 0 n (omega arith)
    ∙ every_same _ p n (λ k h. ap p (get_or-range_with_len 0 n k 0 h ∙ (omega arith)))

-- where none of the n numbers from d on passes, the first that passes is `none`
first-fails : (f : ℕ → Bool) (none n d : ℕ) → ((k : ℕ) → d ≤ k → k < d + n → f k ≡ false) → first_from f none n d ≡ none
first-fails f none zero d h = first-none f none d
first-fails f none (suc n) d h =
    let q : suc n - 1 ≡ n = omega arith in
    first_next f none (suc n) d (omega arith) (h d (omega arith) (omega arith))
    ∙ ap (λ (m : ℕ). first_from f none m (d + 1)) q ∙ first-fails f none n (d + 1) (λ k a b. h k (omega arith) (omega arith))

-- the number that the search of a range finds, or else its end, is the first that passes
pub first-found : (f : ℕ → Bool) (d e : ℕ) (r : Option ℕ)
    → MatchOption r ((k : ℕ) → d ≤ k → k < e → f k ≡ false) (λ i. (d ≤ i) × (i < e) × (f i ≡ true) × ((k : ℕ) → d ≤ k → k < i → f k ≡ false))
    → unwrap_or r e ≡ first_from f e (e - d) d
first-found f d e None h = sym (first-fails f e (e - d) d (λ k a b. h k a (omega arith)))
first-found f d e (Some i) h =
    let s : d + (i - d) ≡ i = omega (arith, h.0) in
    sym (first-is f e (e - d) d (i - d) (omega (arith, h.0, h.1)) (λ k l. h.3 (d + k) (omega arith) (omega (arith, h.0))) (ap f s ∙ h.2) ∙ s)
