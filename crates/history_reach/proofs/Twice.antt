-- Two listings replace a first one in turn, the front between being the first or the last: they leave what the second alone leaves.
-- Assumes nothing.
use mathlib.Core.Path.{◌≡◌, refl, sym, ap, ◌∙◌, fun_ext}
use mathlib.Core.Bool.{Bool, true, false, not, ◌&&◌}
use mathlib.Core.List.{List, map}
use mathlib.Core.Logic.{◌⊎◌, inl, inr}
use Prim.Native.Nat.{ℕ, ◌+◌, ◌≤◌}
use native.Mathlib.Omega.{arith}
use lib.ListN.{length}
use Rattle.calendar.specs.declared.Calendar.{Calendar}
use Rattle.listing.specs.declared.Maturity.{Maturity}
use Rattle.listing.specs.Rules.{Rule, front, count_from, fresh_keys, maturity}
use Rattle.listing.proofs.KeyCounts.{count-zero}
use Rattle.listing.proofs.Lawful.{Lawful, in_listing}
use Rattle.table_numbering.specs.Numbering.{missing, renumbered}
use Rattle.history.proofs.ListingNumbers.{but, next}
use Rattle.history.proofs.Moves.{fresh, now, numbers_next, Numbered, entered-is, moves}

-- no key is in a set and out of it
but-self : (p : ℕ → Bool) (k : ℕ) → but p p k ≡ false
but-self p k = go (p k)
  where
    go : (b : Bool) → (b && not b) ≡ false
    go true = refl
    go false = refl

none-new : (p : ℕ → Bool) (n : ℕ) → count_from (but p p) n 0 ≡ 0
none-new p n = count-zero (but p p) n 0 (λ k x y. but-self p k)

-- where no key is new, the numbers stay
next-self : (p : ℕ → Bool) (given : ℕ) (nu : ℕ → ℕ) → next (but p p) given nu ≡ nu
next-self p given nu = fun_ext (λ k. rw (but-self p k))

module _ (r : Rule) (w : Lawful r) (cal cal₁ cal₂ : Calendar) (date : ℕ) (ms : List Maturity) (given : ℕ) (nu : ℕ → ℕ) (I : Numbered r cal date ms given nu)
    (a : front r cal date ≤ front r cal₁ date) (b : front r cal₁ date ≤ front r cal₂ date)
    (c : (front r cal₁ date ≡ front r cal date) ⊎ (front r cal₁ date ≡ front r cal₂ date)) where
  -- what the first leaves
  abbrev ms₁ : List Maturity
  ms₁ = renumbered ms given (fresh r cal₁ date)

  abbrev given₁ : ℕ
  given₁ = given + length (missing (fresh r cal₁ date) ms)

  abbrev nu₁ : ℕ → ℕ
  nu₁ = numbers_next r cal date given nu cal₁ date

  I₁ : Numbered r cal₁ date ms₁ given₁ nu₁
  I₁ = (moves r w cal date ms given nu I cal₁ date a).numbered

  later : front r cal date ≤ front r cal₂ date
  later = omega arith

  -- the tests of the three listings
  abbrev p : ℕ → Bool
  p = now r cal date

  abbrev p₁ : ℕ → Bool
  p₁ = now r cal₁ date

  abbrev p₂ : ℕ → Bool
  p₂ = now r cal₂ date

  -- how many keys of one are not in another
  abbrev new : (ℕ → Bool) → (ℕ → Bool) → ℕ
  new q s = count_from (but q s) r.beyond 0

  record Once : Type 0 where
    numbers : numbers_next r cal₁ date given₁ nu₁ cal₂ date ≡ numbers_next r cal date given nu cal₂ date
    count : given₁ + length (missing (fresh r cal₂ date) ms₁) ≡ given + length (missing (fresh r cal₂ date) ms)

  once : Once
  once = go c
    where
      e₁ : length (missing (fresh r cal₁ date) ms) ≡ new p₁ p
      e₁ = entered-is r w cal date ms given nu I cal₁ date a

      e₂ : length (missing (fresh r cal₂ date) ms) ≡ new p₂ p
      e₂ = entered-is r w cal date ms given nu I cal₂ date later

      e₁₂ : length (missing (fresh r cal₂ date) ms₁) ≡ new p₂ p₁
      e₁₂ = entered-is r w cal₁ date ms₁ given₁ nu₁ I₁ cal₂ date b

      go : (front r cal₁ date ≡ front r cal date) ⊎ (front r cal₁ date ≡ front r cal₂ date) → Once
      -- the first changed nothing
      go (inl q) =
          let s : p₁ ≡ p = ap (in_listing r) q in
          let z : length (missing (fresh r cal₁ date) ms) ≡ 0 = e₁ ∙ ap (λ (t : ℕ → Bool). new t p) s ∙ none-new p r.beyond in
          let g : given₁ ≡ given = omega arith in
          let n : nu₁ ≡ nu = ap (λ (t : ℕ → Bool). next (but t p) given nu) s ∙ next-self p given nu in
          record {
            numbers = ap (λ (t : ℕ → Bool). next (but p₂ t) given₁ nu₁) s ∙ ap (λ (x : ℕ). next (but p₂ p) x nu₁) g ∙ ap (next (but p₂ p) given) n;
            count = omega (arith, z, e₂, e₁₂, ap (new p₂) s);
          }
      -- the second changes nothing
      go (inr q) =
          let s : p₁ ≡ p₂ = ap (in_listing r) q in
          record {
            numbers = ap (λ (t : ℕ → Bool). next (but p₂ t) given₁ nu₁) s ∙ next-self p₂ given₁ nu₁ ∙ ap (λ (t : ℕ → Bool). next (but t p) given nu) s;
            count = omega (arith, e₁, e₂, e₁₂, ap (new p₂) s, none-new p₂ r.beyond, ap (λ (t : ℕ → Bool). new t p) s);
          }

  -- the same maturities, numbers included
  pub same-maturities : renumbered ms₁ given₁ (fresh r cal₂ date) ≡ renumbered ms given (fresh r cal₂ date)
  same-maturities =
      (moves r w cal₁ date ms₁ given₁ nu₁ I₁ cal₂ date b).numbered.listing
      ∙ ap (λ (f : ℕ → ℕ). map (maturity r cal₂ f) (fresh_keys r cal₂ date)) once.numbers
      ∙ sym (moves r w cal date ms given nu I cal₂ date later).numbered.listing

  -- and the same count given
  pub same-given : given₁ + length (missing (fresh r cal₂ date) ms₁) ≡ given + length (missing (fresh r cal₂ date) ms)
  same-given = once.count
