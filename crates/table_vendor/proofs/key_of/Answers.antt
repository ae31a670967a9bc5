-- A least key of 65,536 does not fit 16 bits and says that the list is the fresh listing; any other is below it, and is the key that differs
-- (`key-said`).
use Prim.Native.Nat.{ℕ, ◌≤◌, ◌<◌}
use mathlib.Core.Path.{◌≡◌, refl}
use mathlib.Core.Bool.{false, cond}
use mathlib.Core.Logic.{◌⊎◌, inl, inr}
use lib.Dec.{eqb}
use native.Mathlib.Omega.{arith}
use borrow.Author.Tests.{ne_eqb}
use Rattle.std.specs.Prelude.{Result, Ok, Err}
use Rattle.std.specs.Result.{OkIff, result_ok}
use Rattle.questions.proofs.Bools.{lt-or-ge}
use Rattle.table_vendor.specs.Vendor.{verdict_answer, yes_said}
use Rattle.table_vendor.specs.VendorPasses.{said}
use Rattle.table_vendor.proofs.key_of.Goals as goal

-- what the conversion to 16 bits gives is what is said
key-said : {E : Type 0} (r : Result ℕ E) (n : ℕ) → n ≤ 65536 → OkIff r (n < 65536) n → verdict_answer (Ok (result_ok r)) ≡ said n
unfolding said
key-said (Ok x) n h e = rw (ne_eqb n 65536 (λ z. omega (arith, e.0, z)), e.1) refl
key-said (Err x) n h e = go (lt-or-ge n 65536)
  where
    go : (n < 65536) ⊎ (65536 ≤ n) → verdict_answer (Ok (result_ok (Err x))) ≡ record { refusal = 0; value = cond (eqb n 65536) yes_said (record { same = false; key = n }) }
    go (inl l) = absurd (e l)
    go (inr l) =
        let q : n ≡ 65536 = omega arith in
        rw q refl

pub returns : goal.returns
returns c = rw c.ok.ensures.value (key-said c.try_from.result c.args.least c.requires c.try_from.ensures)
