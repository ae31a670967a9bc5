-- Lists of numbers 0 to 199, each at most once: how often a number stands in them, and that they have at most 200.
-- Assumes nothing.
use Prim.Native.Nat.{ℕ, zero, suc, ◌+◌, ◌≤◌, ◌<◌}
use mathlib.Core.Path.{◌≡◌, refl, ◌∙◌, sym, ap}
use mathlib.Core.Bool.{Bool, true, false, ◌||◌, cond}
use mathlib.Core.Logic.{◌⊎◌, inl, inr}
use mathlib.Core.List.{List, [], ◌∷◌, ◌++◌}
use native.Mathlib.Nat.{le_refl, add-zero, zero-add, add_assoc}
use native.Mathlib.Omega.{arith}
use lib.Dec.{ltb, eqb}
use lib.ListN.{length, take, get_or, length-append}
use lib.Seq.{take-nil, take-suc, take_all}
use borrow.Author.Tests.{eqb-true, eqb-false, eq-eqb, ne_eqb, lt-ltb, le-ltb}
use Rattle.questions.specs.Search.{one_of}
use Rattle.questions.proofs.Bools.{clash, is_false, lt-or-ge}

-- how often a number stands in a list
abbrev pub times : List ℕ → ℕ → ℕ
times [] x = 0
times (y ∷ ys) x = cond (eqb y x) 1 0 + times ys x

-- 'table numbers 0 to 199, each at most once'
pub record Distinct (xs : List ℕ) : Type 0 where
  -- every number occurs at most once
  pub once : (x : ℕ) → times xs x ≤ 1
  -- no number of 200 or more occurs
  pub small : (x : ℕ) → 200 ≤ x → times xs x ≡ 0

times-one : (y x : ℕ) (c : Bool) → eqb y x ≡ c → times (y ∷ []) x ≡ cond c 1 0
times-one y x c e = rw e (add-zero (cond c 1 0))

-- a number occurs in two joined lists as often as in both together
pub times-append : (xs ys : List ℕ) (x : ℕ) → times (xs ++ ys) x ≡ times xs x + times ys x
times-append [] ys x = sym (zero-add (times ys x))
times-append (z ∷ xs) ys x = ap (λ (n : ℕ). cond (eqb z x) 1 0 + n) (times-append xs ys x) ∙ sym (add_assoc (cond (eqb z x) 1 0) (times xs x) (times ys x))

-- one number more in front takes none away
pub no-fewer : (c : Bool) (n : ℕ) → n ≤ cond c 1 0 + n
no-fewer true n = omega arith
no-fewer false n = omega arith

-- one that is not there stands no time
absent : (xs : List ℕ) (x : ℕ) → one_of xs x ≡ false → times xs x ≡ 0
unfolding one_of
absent [] x e = refl
absent (y ∷ xs) x e = go (eqb x y) refl e (absent xs x)
  where
    go : (c : Bool) → eqb x y ≡ c → (c || one_of xs x) ≡ false → (one_of xs x ≡ false → times xs x ≡ 0) → cond (eqb y x) 1 0 + times xs x ≡ 0
    go true q e ih = clash refl e
    go false q e ih = rw (ne_eqb y x (λ z. eqb-false x y q (sym z))) (zero-add (times xs x) ∙ ih e)

-- one that is there stands once or more
there : (xs : List ℕ) (x : ℕ) → one_of xs x ≡ true → 1 ≤ times xs x
unfolding one_of
there [] x e = clash e refl
there (y ∷ xs) x e = go (eqb x y) refl e (there xs x)
  where
    go : (c : Bool) → eqb x y ≡ c → (c || one_of xs x) ≡ true → (one_of xs x ≡ true → 1 ≤ times xs x) → 1 ≤ cond (eqb y x) 1 0 + times xs x
    go true q e ih = rw (eq-eqb y x (sym (eqb-true x y q))) (omega arith)
    go false q e ih = omega (arith, ih e, no-fewer (eqb y x) (times xs x))

-- a list stays distinct with a number of at most 199 added that it did not have
pub joined-distinct : (xs : List ℕ) (y : ℕ) → Distinct xs → one_of xs y ≡ false → y ≤ 199 → Distinct (xs ++ (y ∷ []))
joined-distinct xs y d a h = record { once = λ x. one x (eqb y x) refl; small = λ x l. none x l (eqb y x) refl }
  where
    one : (x : ℕ) (c : Bool) → eqb y x ≡ c → times (xs ++ (y ∷ [])) x ≤ 1
    one x true e =
        let q : y ≡ x = eqb-true _ _ e in
        omega (arith, times-append xs (y ∷ []) x, absent xs x (ap (one_of xs) (sym q) ∙ a), times-one y x true e)
    one x false e = omega (arith, times-append xs (y ∷ []) x, d.once x, times-one y x false e)

    none : (x : ℕ) → 200 ≤ x → (c : Bool) → eqb y x ≡ c → times (xs ++ (y ∷ [])) x ≡ 0
    none x l true e = absurd (omega (arith, eqb-true y x e))
    none x l false e = omega (arith, times-append xs (y ∷ []) x, d.small x l, times-one y x false e)

-- how many numbers of a list are below n
unfoldable below : ℕ → List ℕ → ℕ
below zero xs = 0
below (suc n) xs = below n xs + times xs n

below_none : (n : ℕ) → below n [] ≡ 0
unfolding below
below_none zero = refl
below_none (suc n) = rw (below_none n)

below-cons : (n y : ℕ) (ys : List ℕ) → below n (y ∷ ys) ≡ cond (ltb y n) 1 0 + below n ys
unfolding below
below-cons zero y ys = rw (le-ltb y 0 (omega arith))
below-cons (suc n) y ys = go (lt-or-ge y n) (eqb y n) refl (below-cons n y ys)
  where
    go : (y < n) ⊎ (n ≤ y) → (c : Bool) → eqb y n ≡ c → below n (y ∷ ys) ≡ cond (ltb y n) 1 0 + below n ys
        → below n (y ∷ ys) + (cond (eqb y n) 1 0 + times ys n) ≡ cond (ltb y (suc n)) 1 0 + (below n ys + times ys n)
    go (inl l) true e ih = absurd (omega (arith, eqb-true y n e))
    go (inl l) false e ih = rw (e, lt-ltb y (suc n) (omega arith)) (omega (arith, rw (lt-ltb y n l) at ih))
    go (inr l) true e ih = rw (e, lt-ltb y (suc n) (omega (arith, eqb-true y n e))) (omega (arith, rw (le-ltb y n l) at ih))
    go (inr l) false e ih =
        let g : suc n ≤ y = beyond (lt-or-ge n y) in
        rw (e, le-ltb y (suc n) g) (omega (arith, rw (le-ltb y n l) at ih))
      where
        beyond : (n < y) ⊎ (y ≤ n) → suc n ≤ y
        beyond (inl a) = a
        beyond (inr a) = absurd (eqb-false y n e (omega arith))

head_small : (y : ℕ) (ys : List ℕ) → ((x : ℕ) → 200 ≤ x → times (y ∷ ys) x ≡ 0) → y < 200
head_small y ys h = side (lt-or-ge y 200)
  where
    less : 1 + times ys y ≡ 0 → ⊥
    less z = omega arith

    side : (y < 200) ⊎ (200 ≤ y) → y < 200
    side (inl l) = l
    side (inr l) = absurd (less (rw (eq-eqb y y refl) at (h y l)))

length-below : (xs : List ℕ) → ((x : ℕ) → 200 ≤ x → times xs x ≡ 0) → length xs ≡ below 200 xs
length-below [] h = sym (below_none 200)
length-below (y ∷ ys) h =
    let l = head_small y ys h in
    let ih = length-below ys (λ x g. rest x (h x g)) in
    sym (below-cons 200 y ys ∙ ap (λ (b : Bool). cond b 1 0 + below 200 ys) (lt-ltb y 200 l) ∙ ap (λ (n : ℕ). 1 + n) (sym ih) ∙ omega arith)
  where
    rest : (x : ℕ) → cond (eqb y x) 1 0 + times ys x ≡ 0 → times ys x ≡ 0
    rest x e = omega arith

below-most : (n : ℕ) (xs : List ℕ) → ((x : ℕ) → times xs x ≤ 1) → below n xs ≤ n
unfolding below
below-most zero xs h = le_refl 0
below-most (suc n) xs h = omega (arith, below-most n xs h, h n)

-- 'Up to 200 tables': there are no more numbers than that
pub at-most-200 : (xs : List ℕ) → Distinct xs → length xs ≤ 200
at-most-200 xs d = omega (arith, length-below xs d.small, below-most 200 xs d.once)

-- so there is room for one that is not yet there
pub room_for : (xs : List ℕ) (y : ℕ) → Distinct xs → one_of xs y ≡ false → y ≤ 199 → length xs < 200
room_for xs y d a h = omega (arith, at-most-200 (xs ++ (y ∷ [])) (joined-distinct xs y d a h), length-append xs (y ∷ []))

-- from the first n places to their numbers
apart : (l : List ℕ) (x n : ℕ) → ((j : ℕ) → j < n → get_or l j 0 ≡ x → ⊥) → times (take n l) x ≡ 0
apart [] x n h = rw (take-nil {A = ℕ} n)
apart (y ∷ l) x zero h = refl
apart (y ∷ l) x (suc n) h =
    rw (ne_eqb y x (h 0 (omega arith))) (zero-add (times (take n l) x) ∙ apart l x n (λ j g. h (suc j) (omega arith)))

-- one place more
pub distinct_more : (l : List ℕ) (n : ℕ) → Distinct (take n l) → get_or l n 0 ≤ 199 → ((j : ℕ) → j < n → get_or l j 0 ≡ get_or l n 0 → ⊥) → Distinct (take (suc n) l)
distinct_more l n d s u = side (lt-or-ge n (length l))
  where
    new : one_of (take n l) (get_or l n 0) ≡ false
    new = is_false (one_of (take n l) (get_or l n 0)) (λ t. absurd (omega (arith, there (take n l) (get_or l n 0) t, apart l (get_or l n 0) n u)))

    side : (n < length l) ⊎ (length l ≤ n) → Distinct (take (suc n) l)
    side (inl h) = rw (take-suc l n 0 h) (joined-distinct (take n l) (get_or l n 0) d new s)
    side (inr h) = rw (take_all (suc n) l (omega arith)) (rw (take_all n l h) at d)
