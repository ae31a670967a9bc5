-- Arrays that are made element by element.
-- Assumes nothing.
use mathlib.Core.Path.{◌≡◌, sym, ◌∙◌, ap, subst}
use mathlib.Core.List.{List, map}
use mathlib.Core.Logic.{◌⊎◌, inl, inr}
use Prim.Native.Nat.{ℕ, zero, suc, ◌+◌, ◌≤◌, ◌<◌}
use native.Mathlib.Omega.{arith}
use lib.ListN.{get_or}
use denote.Param.Members.{Mut}
use Rattle.std.specs.Fn.{Called}
use Rattle.std.specs.Array.{IsFromFnResult, IsFromFnResultFrom}
use Rattle.std.specs.List.{range_with_len}
use Rattle.std.proofs.lemmas.List.FromFn.{fill_by_all}
use Rattle.questions.proofs.Bools.{lt-or-ge}

-- `from_fn` of a closure that leaves itself as it was and gives the value of each index makes the list of the values
module _ {F : Type 0} {g : Mut F (ℕ × Unit {0}) ℕ} (value : ℕ → ℕ) (f : F) (calls : (i y : ℕ) (q : F) → Called g f (i, tt) y q → (q ≡ f) × (y ≡ value i)) where
  made-each : (l : List ℕ) (i n : ℕ) → IsFromFnResultFrom g f l i n → (k : ℕ) → i ≤ k → k < i + n → get_or l k 0 ≡ value k
  made-each l i zero m k a b = absurd (omega arith)
  made-each l i (suc n) m k a b =
      go (lt-or-ge i k) (λ h. made-each l (i + 1) n (subst (λ q. IsFromFnResultFrom g q l (i + 1) n) (calls i m.1 m.0 m.3).0 m.4) k h (omega arith))
    where
      go : (i < k) ⊎ (k ≤ i) → (i + 1 ≤ k → get_or l k 0 ≡ value k) → get_or l k 0 ≡ value k
      go (inl h) ih = ih (omega arith)
      go (inr h) ih =
          let e : k ≡ i = omega arith in
          ap (λ (n : ℕ). get_or l n 0) e ∙ m.2.1 0 ∙ (calls i m.1 m.0 m.3).1 ∙ ap value (sym e)

  pub made-from_fn : (l : List ℕ) (n : ℕ) → IsFromFnResult g f l n → l ≡ map value (range_with_len 0 n)
  made-from_fn l n r = fill_by_all value l n 0 r.long (λ k h. made-each l 0 n r.each k (omega arith) (omega arith))
