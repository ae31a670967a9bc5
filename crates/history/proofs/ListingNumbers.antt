-- The listing numbers of a listing that replaces another: old keys keep theirs, new keys take the next.
-- Assumes nothing.
use mathlib.Core.Path.{◌≡◌, refl, sym, ap, ◌∙◌, fun_ext}
use mathlib.Core.Bool.{Bool, true, false, not, ◌&&◌, ◌||◌, cond}
use mathlib.Core.List.{List, [], ◌∷◌, ◌++◌, map}
use mathlib.Core.Logic.{◌⊎◌, inl, inr}
use Prim.Native.Nat.{ℕ, zero, suc, ◌+◌, ◌≤◌, ◌<◌}
use native.Mathlib.Omega.{arith}
use lib.Dec.{eqb}
use borrow.Author.Tests.{eqb-true, eqb-false, eq-eqb}
use Rattle.questions.specs.Search.{one_of}
use Rattle.questions.proofs.Bools.{clash, both, or_left, or_right, or-either, same_test}
use Rattle.expiry.specs.declared.LastDay.{LastDay}
use Rattle.listing.specs.declared.Maturity.{Maturity}
use Rattle.listing.proofs.Walks.{bit, put, sift}
use Rattle.table_numbering.specs.Numbering.{is_listed, number_of, renumbered}
use Rattle.table_numbering.specs.NumberingLaws.{Rising, only}
use Rattle.listing.specs.Rules.{count_from}
use Rattle.listing.proofs.KeyCounts.{count-end, count-before}
use Rattle.table_numbering.proofs.Renumbering.{with-numbers, number-with, with-same, number_in, renumbered-with}

-- a maturity by its key, with last trading days and numbers
abbrev pub mat : (ℕ → LastDay) → (ℕ → ℕ) → ℕ → Maturity
mat dy nu k = record { key = k; day = (dy k).day; back = (dy k).back; number = nu k }

-- the keys of q that p has not
abbrev pub but : (ℕ → Bool) → (ℕ → Bool) → ℕ → Bool
but q p k = q k && not (p k)

-- a key is among those that pass where it passes
one-sift : (p : ℕ → Bool) (x f a : ℕ) → one_of (sift p f a) x ≡ true → p x ≡ true
unfolding one_of
one-sift p x zero a t = clash t refl
one-sift p x (suc f) a t = go (p a) refl t (one-sift p x f (suc a))
  where
    go : (b : Bool) → p a ≡ b → one_of (put b a (sift p f (suc a))) x ≡ true → (one_of (sift p f (suc a)) x ≡ true → p x ≡ true) → p x ≡ true
    go true e t ih = side (or-either (eqb x a) (one_of (sift p f (suc a)) x) t)
      where
        side : (eqb x a ≡ true) ⊎ (one_of (sift p f (suc a)) x ≡ true) → p x ≡ true
        side (inl q) = ap p (eqb-true x a q) ∙ e
        side (inr q) = ih q
    go false e t ih = ih t

sift-one : (p : ℕ → Bool) (x f a : ℕ) → p x ≡ true → a ≤ x → x < a + f → one_of (sift p f a) x ≡ true
unfolding one_of
sift-one p x zero a t l h = absurd (omega arith)
sift-one p x (suc f) a t l h = go (p a) refl (eqb x a) refl (λ i. sift-one p x f (suc a) t i (omega arith))
  where
    go : (b : Bool) → p a ≡ b → (d : Bool) → eqb x a ≡ d → (suc a ≤ x → one_of (sift p f (suc a)) x ≡ true) → one_of (put b a (sift p f (suc a))) x ≡ true
    go true e true q ih = or_left (one_of (sift p f (suc a)) x) q
    go true e false q ih = let n : x ≡ a → ⊥ = eqb-false x a q in or_right (eqb x a) (ih (omega arith))
    go false e true q ih = clash (ap p (sym (eqb-true x a q)) ∙ t) e
    go false e false q ih = let n : x ≡ a → ⊥ = eqb-false x a q in ih (omega arith)

-- the order of two numbers in a test for equality does not matter
eqb-either : (x y : ℕ) → eqb x y ≡ eqb y x
eqb-either x y = same_test (eqb x y) (eqb y x) (λ e. eq-eqb y x (sym (eqb-true x y e))) (λ e. eq-eqb x y (sym (eqb-true y x e)))

-- two lists after one another
pub one-append : (ks js : List ℕ) (x : ℕ) → one_of (ks ++ js) x ≡ (one_of ks x || one_of js x)
unfolding one_of
one-append [] js x = refl
one-append (k ∷ ks) js x = rw (one-append ks js x) (go (eqb x k))
  where
    go : (b : Bool) → (b || (one_of ks x || one_of js x)) ≡ ((b || one_of ks x) || one_of js x)
    go true = refl
    go false = refl

-- a month is listed where it is one of the months
pub listed-one : (ms : List Maturity) (x : ℕ) → is_listed ms x ≡ one_of (map (λ m. m.key) ms) x
unfolding is_listed one_of
listed-one [] x = refl
listed-one (m ∷ ms) x = rw (eqb-either m.key x, listed-one ms x)

module _ (dy : ℕ → LastDay) (nu : ℕ → ℕ) where
  -- the months of the maturities made of some keys are those keys
  pub months-of : (ks : List ℕ) → map (λ m. m.key) (map (mat dy nu) ks) ≡ ks
  months-of [] = refl
  months-of (k ∷ ks) = ap (◌∷◌ k) (months-of ks)

  -- other numbers
  numbered-with : (mu : ℕ → ℕ) (ks : List ℕ) → with-numbers mu (map (mat dy nu) ks) ≡ map (mat dy mu) ks
  numbered-with mu [] = refl
  numbered-with mu (k ∷ ks) = ap (◌∷◌ (mat dy mu k)) (numbered-with mu ks)

  -- the number of a listed key
  pub number-of : (ks : List ℕ) (x : ℕ) → number_of (map (mat dy nu) ks) x ≡ cond (is_listed (map (mat dy nu) ks) x) (nu x) 0
  number-of ks x = ap (λ (ms : List Maturity). number_of ms x) (sym (numbered-with nu ks)) ∙ number-with nu (map (mat dy nu) ks) x

  -- a key is listed where it passes
  pub listed-is : (p : ℕ → Bool) (x n : ℕ) → (p x ≡ true → x < n) → is_listed (map (mat dy nu) (sift p n 0)) x ≡ p x
  listed-is p x n h =
      listed-one (map (mat dy nu) (sift p n 0)) x ∙ ap (λ (ks : List ℕ). one_of ks x) (months-of (sift p n 0))
      ∙ same_test (one_of (sift p n 0) x) (p x) (one-sift p x n 0) (λ t. sift-one p x n 0 t (omega arith) (omega (arith, h t)))

-- the number of a key after a listing: new keys take the next numbers after those given, by rising key
abbrev pub next : (ℕ → Bool) → ℕ → (ℕ → ℕ) → ℕ → ℕ
next new given nu k = cond (new k) (suc (given + count_from new k 0)) (nu k)

-- so a listing is numbered
module _ (p p' : ℕ → Bool) (nu : ℕ → ℕ) (dy : ℕ → LastDay) (blank : ℕ → ℕ) (given : ℕ) (old : List Maturity) (listed : (k : ℕ) → is_listed old k ≡ p k)
    (kept : (k : ℕ) → p k ≡ true → number_of old k ≡ nu k) (ks : List ℕ) (rises : Rising (map (mat dy blank) ks))
    (fresh : (k : ℕ) → is_listed (map (mat dy blank) ks) k ≡ p' k) where
  number-next : (k : ℕ) → p' k ≡ true → number_in old given (map (mat dy blank) ks) k ≡ next (but p' p) given nu k
  number-next k t = rw (listed k, fun_ext each, t) (go (p k) refl)
    where
      each : (k : ℕ) → only (map (mat dy blank) ks) old k ≡ but p' p k
      each k = rw (fresh k, listed k)

      go : (b : Bool) → p k ≡ b → cond b (number_of old k) (given + count_from (but p' p) (suc k) 0)
          ≡ cond (not b) (suc (given + count_from (but p' p) k 0)) (nu k)
      go true e = kept k e
      go false e =
          let n : but p' p k ≡ true = rw (t, e) in
          omega (arith, count-end (but p' p) k, ap bit n)

  -- the renumbered listing has the old numbers, and for new keys the next ones
  pub renumbered-is : renumbered old given (map (mat dy blank) ks) ≡ map (mat dy (next (but p' p) given nu)) ks
  renumbered-is =
      renumbered-with old given (map (mat dy blank) ks) rises
      ∙ with-same (number_in old given (map (mat dy blank) ks)) (next (but p' p) given nu) (map (mat dy blank) ks) (λ k e. number-next k (sym (fresh k) ∙ e))
      ∙ numbered-with dy blank (next (but p' p) given nu) ks

-- nu gives the number that a key ever had, or 0: those of p have one, none passes the count given, and no two keys have the same
pub record Numbers (p : ℕ → Bool) (given : ℕ) (nu : ℕ → ℕ) : Type 0 where
  -- each key of the listing has a number from 1 on
  pub pos : (k : ℕ) → p k ≡ true → 1 ≤ nu k
  -- no number passes the count given
  pub small : (k : ℕ) → nu k ≤ given
  -- no two keys have the same number
  pub inj : (x y : ℕ) → nu x ≡ nu y → 1 ≤ nu x → x ≡ y

module _ (p p' : ℕ → Bool) (n given : ℕ) (nu : ℕ → ℕ) (I : Numbers p given nu) (within : (k : ℕ) → p' k ≡ true → k < n)
    (none : (k : ℕ) → but p' p k ≡ true → nu k ≡ 0) where
  abbrev new : ℕ → Bool
  new = but p' p

  data Next (k : ℕ) : Type 0 where
    fresh : new k ≡ true → nu k ≡ 0 → next new given nu k ≡ suc (given + count_from new k 0) → Next k
    same : new k ≡ false → next new given nu k ≡ nu k → Next k

  next-is : (k : ℕ) → Next k
  next-is k = go (new k) refl
    where
      go : (b : Bool) → new k ≡ b → Next k
      go true e = fresh e (none k e) (rw e)
      go false e = same e (rw e)

  -- a number once given stays
  pub next-keeps : (k : ℕ) → 1 ≤ nu k → next new given nu k ≡ nu k
  next-keeps k h = go (next-is k)
    where
      go : Next k → next new given nu k ≡ nu k
      go (fresh e z q) = absurd (omega arith)
      go (same e q) = q

  -- the numbers after a new listing are distinct, and none passes the count given then
  pub next-numbers : Numbers p' (given + count_from new n 0) (next new given nu)
  next-numbers = record {
    pos = λ k e. positive k e (next-is k);
    small = λ k. within-given k (next-is k);
    inj =
        λ x y e l. apart x y e l (next-is x) (next-is y);
  }
    where
      positive : (k : ℕ) → p' k ≡ true → Next k → 1 ≤ next new given nu k
      positive k e (fresh a z q) = omega arith
      positive k e (same a q) = omega (arith, I.pos k (old (p k) refl))
        where
          old : (b : Bool) → p k ≡ b → p k ≡ true
          old true d = d
          old false d = clash (rw (e, d)) a

      within-given : (k : ℕ) → Next k → next new given nu k ≤ given + count_from new n 0
      within-given k (fresh a z q) = omega (arith, count-before new k n a (within k (both (p' k) (not (p k)) a).0))
      within-given k (same a q) = omega (arith, I.small k)

      order : (x y : ℕ) → new x ≡ true → count_from new x 0 ≡ count_from new y 0 → x < y → ⊥
      order x y a q l = omega (arith, count-before new x y a l)

      apart : (x y : ℕ) → next new given nu x ≡ next new given nu y → 1 ≤ next new given nu x → Next x → Next y → x ≡ y
      apart x y e l (fresh a z q) (fresh b u r) =
          let t : count_from new x 0 ≡ count_from new y 0 = omega arith in
          let i : x < y → ⊥ = order x y a t in
          let j : y < x → ⊥ = order y x b (sym t) in
          omega arith
      apart x y e l (fresh a z q) (same b r) = absurd (omega (arith, I.small y))
      apart x y e l (same a q) (fresh b u r) = absurd (omega (arith, I.small x))
      apart x y e l (same a q) (same b r) = I.inj x y (sym q ∙ e ∙ r) (omega arith)
