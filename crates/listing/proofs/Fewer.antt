-- Fronts and listings where a calendar has fewer trading days, as after a closure, or more.
-- Assumes nothing.
use mathlib.Core.Path.{◌≡◌, refl, ap}
use mathlib.Core.Bool.{Bool, true, false, cond}
use mathlib.Core.List.{List, [], ◌∷◌}
use mathlib.Core.Logic.{◌⊎◌, inl, inr}
use Prim.Native.Nat.{ℕ, zero, suc, ◌+◌, ◌-◌, ◌≤◌, ◌<◌}
use native.Mathlib.Omega.{arith}
use lib.Dec.{ltb}
use lib.ListN.{length}
use borrow.Author.Tests.{eqb-true, eq-eqb, leb-true, le-leb, ltb-true, lt-ltb}
use Rattle.questions.proofs.Bools.{lt-or-ge}
use Rattle.questions.proofs.Search.{search-none, search-here, search-next}
use Rattle.calendar.specs.declared.Calendar.{Calendar}
use Rattle.calendar.specs.Trading.{trading_day}
use Rattle.listing.specs.Rules.{Rule, last_day_of, front, next_of, taken, fresh_keys, complete}
use Rattle.listing.proofs.Lawful.{Lawful, days-rise, front-later, risen}

module _ (r : Rule) (w : Lawful r) where
  -- with fewer trading days the front does not go back
  pub front-fewer : (cal cal' : Calendar) → ((d : ℕ) → trading_day cal' d ≡ true → trading_day cal d ≡ true) → (date : ℕ) → front r cal date ≤ front r cal' date
  front-fewer cal cal' fewer date =
      front-later r w cal cal' date date
      (λ k t. le-leb date (last_day_of r cal k) (omega (arith, leb-true date (last_day_of r cal' k) t, days-rise r w cal' cal fewer k k (omega arith))))

module _ (e : ℕ) (set : ℕ → Bool) where
  -- the next key of a set is not before the one from which it is looked for
  next-from : (n k : ℕ) → e - k ≡ n → k ≤ e → k ≤ next_of e set k
  next-from zero k q h = omega (arith, search-none set e e k (omega arith))
  next-from (suc n) k q h = go (set k) refl (next-from n (k + 1) (omega arith) (omega arith))
    where
      go : (b : Bool) → set k ≡ b → k + 1 ≤ next_of e set (k + 1) → k ≤ next_of e set k
      go true t i = omega (arith, search-here set e e k (omega arith) t)
      go false t i = omega (arith, search-next set e e k (omega arith) t)

  next_one : (k : ℕ) → next_of e set k ≤ next_of e set (suc k)
  next_one k = go (lt-or-ge k e) (set k) refl
    where
      i : k + 1 ≡ suc k
      i = omega arith

      go : (k < e) ⊎ (e ≤ k) → (b : Bool) → set k ≡ b → next_of e set k ≤ next_of e set (suc k)
      go (inl l) true t = omega (arith, search-here set e e k l t, next-from (e - suc k) (suc k) refl (omega arith))
      go (inl l) false t = omega (arith, search-next set e e k l t, ap (next_of e set) i)
      go (inr l) b t = omega (arith, search-none set e e k l, search-none set e e (suc k) (omega arith))

  -- looked for from an earlier key it is not later
  next-earlier : (f g : ℕ) → f ≤ g → next_of e set f ≤ next_of e set g
  next-earlier = risen (next_of e set) next_one

-- a listing that is complete from one key on is complete from an earlier one
taken-earlier : (e : ℕ) (ps : List (ℕ → Bool)) (f g : ℕ) → f ≤ g → length (taken e ps g) ≡ length ps → length (taken e ps f) ≡ length ps
unfolding taken
taken-earlier e [] f g h q = refl
taken-earlier e (set ∷ rest) f g h q = go (ltb (next_of e set g) e) refl q (taken-earlier e rest (suc (next_of e set f)) (suc (next_of e set g)))
  where
    a : next_of e set f ≤ next_of e set g
    a = next-earlier e set f g h

    go : (b : Bool) → ltb (next_of e set g) e ≡ b → length (cond b (next_of e set g ∷ taken e rest (suc (next_of e set g))) []) ≡ suc (length rest)
        → (suc (next_of e set f) ≤ suc (next_of e set g) → length (taken e rest (suc (next_of e set g))) ≡ length rest
        → length (taken e rest (suc (next_of e set f))) ≡ length rest)
        → length (cond (ltb (next_of e set f) e) (next_of e set f ∷ taken e rest (suc (next_of e set f))) []) ≡ suc (length rest)
    go true t n ih =
        let u : next_of e set g < e = ltb-true (next_of e set g) e t in
        rw (lt-ltb (next_of e set f) e (omega (arith, a))) (ap suc (ih (omega (arith, a)) (omega arith)))
    go false t n ih = absurd (omega arith)

-- so 16 is answered yes with more trading days too
pub complete-more : (r : Rule) → Lawful r → (cal cal' : Calendar) → ((d : ℕ) → trading_day cal' d ≡ true → trading_day cal d ≡ true) → (date : ℕ)
    → complete r cal' date ≡ true → complete r cal date ≡ true
unfolding complete fresh_keys
complete-more r w cal cal' more date e =
    eq-eqb (length (taken r.beyond r.places (front r cal date))) (length r.places)
    (taken-earlier r.beyond r.places (front r cal date) (front r cal' date) (front-fewer r w cal cal' more date)
    (eqb-true (length (taken r.beyond r.places (front r cal' date))) (length r.places) e))
