-- Laws of the first question answered no.
-- Assumes nothing.
use mathlib.Core.Path.{◌≡◌, refl}
use mathlib.Core.Bool.{Bool, true, false}
use mathlib.Core.List.{List, [], ◌∷◌}
use Prim.Native.Nat.{ℕ, suc}
use native.Mathlib.Omega.{arith}
use lib.Dec.{eqb-suc-zero}
use Rattle.questions.specs.Questions.{Ask, ask, first_no, answer}

-- a call without questions gives refusal 0
pub no-asks : first_no [] ≡ 0
unfolding first_no
no-asks = refl

-- a first question answered yes is passed over: the refusal is the one of the rest
pub first-yes : (number : ℕ) {b : Bool} (rest : List Ask) → b ≡ true → first_no (ask number b ∷ rest) ≡ first_no rest
unfolding first_no
first-yes number rest e = rw e

-- a first question answered no gives its number as the refusal
pub first-no : (number : ℕ) {b : Bool} (rest : List Ask) → b ≡ false → first_no (ask number b ∷ rest) ≡ number
unfolding first_no
first-no number rest e = rw e

-- where no question is answered no, the first is answered yes, and none of the others is answered no
pub none-no : (number : ℕ) (b : Bool) (rest : List Ask) → first_no (ask (suc number) b ∷ rest) ≡ 0 → (b ≡ true) × (first_no rest ≡ 0)
unfolding first_no
none-no number true rest e = (refl, e)
none-no number false rest e = absurd (omega arith)

module _ {A : Type 0} (asks : List Ask) (zeros value : A) where
  -- an accepted call returns its value
  pub accepted : first_no asks ≡ 0 → answer asks zeros value ≡ record { refusal = 0; value = value }
  unfolding answer
  accepted e = rw e

  -- a refused one the number and zero values
  pub refused : (number : ℕ) → first_no asks ≡ suc number → answer asks zeros value ≡ record { refusal = suc number; value = zeros }
  unfolding answer
  refused number e = rw (e, eqb-suc-zero number)
