-- `is_yes` holds of the text `YES` alone.
-- Assumes nothing.
use mathlib.Core.Path.{◌≡◌, refl, ◌∙◌}
use mathlib.Core.Bool.{true, ◌&&◌}
use mathlib.Core.List.{List, [], ◌∷◌}
use Prim.Native.Nat.{ℕ}
use native.Mathlib.Omega.{arith}
use lib.Dec.{eqb}
use lib.ListN.{length, get_or}
use borrow.Author.Tests.{eqb-true}
use Rattle.questions.proofs.Bools.{both}
use Rattle.confirm_inputs.specs.ConfirmInputs.{yes_text, is_yes}

four : (text : List ℕ) → length text ≡ 4 → text ≡ get_or text 0 0 ∷ get_or text 1 0 ∷ get_or text 2 0 ∷ get_or text 3 0 ∷ []
four [] h = absurd (omega (arith, h))
four (a ∷ []) h = absurd (omega (arith, h))
four (a ∷ b ∷ []) h = absurd (omega (arith, h))
four (a ∷ b ∷ c ∷ []) h = absurd (omega (arith, h))
four (a ∷ b ∷ c ∷ d ∷ []) h = refl
four (a ∷ b ∷ c ∷ d ∷ e ∷ rest) h = absurd (omega (arith, h))

-- the text of which it holds
pub yes-is : is_yes yes_text ≡ true
unfolding is_yes
yes-is = refl

-- and no other
pub only_yes : (text : List ℕ) → is_yes text ≡ true → text ≡ yes_text
unfolding is_yes
only_yes text h =
    let (l, h0) = both (eqb (length text) 4) (eqb (get_or text 0 0) 89 && (eqb (get_or text 1 0) 69 && (eqb (get_or text 2 0) 83 && eqb (get_or text 3 0) 10))) h in
    let (a, h1) = both (eqb (get_or text 0 0) 89) (eqb (get_or text 1 0) 69 && (eqb (get_or text 2 0) 83 && eqb (get_or text 3 0) 10)) h0 in
    let (b, h2) = both (eqb (get_or text 1 0) 69) (eqb (get_or text 2 0) 83 && eqb (get_or text 3 0) 10) h1 in
    let (c, d) = both (eqb (get_or text 2 0) 83) (eqb (get_or text 3 0) 10) h2 in
    four text (eqb-true (length text) 4 l)
    ∙ rw (eqb-true (get_or text 0 0) 89 a, eqb-true (get_or text 1 0) 69 b, eqb-true (get_or text 2 0) 83 c, eqb-true (get_or text 3 0) 10 d) refl
