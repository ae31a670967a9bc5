-- The search for a byte from a place on: the first place in what is left, or none.
-- Assumes nothing.
use Rattle.std.proofs.Common.{◌≡◌, ℕ, ◌+◌, ◌-◌, ◌≤◌, ◌==◌, Some, None, List, length, get_or, take, drop, position, sym, ◌∙◌, ap, arith, length-drop}
use Rattle.std.specs.List.{position_or_len}
use Rattle.std.proofs.lemmas.List.{get_or-drop, take_all}
use Rattle.std.proofs.lemmas.List.Quantifiers.{position-Some}
use Rattle.std.proofs.lemmas.List.Sums.{fails_before_first}
use Rattle.std.proofs.lemmas.Grind.{common_steps}
use Rattle.questions.proofs.Bools.{clash}
use borrow.Author.Tests.{eqb-true, eq-eqb}
use Rattle.session_lines.specs.BytePlaces.{ByteFrom}

-- what is left from a place on
rest-is : (bytes : List ℕ) (from : ℕ) → take (length bytes - from) (drop from bytes) ≡ drop from bytes
rest-is bytes from = take_all (length bytes - from) (drop from bytes) (omega (arith, length-drop from bytes))

-- a place from `from` on is one of the rest
rest-at : (bytes : List ℕ) (from i d : ℕ) → from ≤ i → get_or (drop from bytes) (i - from) d ≡ get_or bytes i d
rest-at bytes from i d h = get_or-drop from bytes (i - from) d ∙ ap (λ j. get_or bytes j d) (omega arith)

-- the first place of the rest that has the byte
pub ahead : (byte : ℕ) (bytes : List ℕ) (from k : ℕ) → from ≤ length bytes → position (λ b. b == byte) (take (length bytes - from) (drop from bytes)) ≡ Some k
    → ByteFrom byte bytes from (from + k)
ahead byte bytes from k h e0 =
    let e : position (λ b. b == byte) (drop from bytes) ≡ Some k = ap (position (λ b. b == byte)) (sym (rest-is bytes from)) ∙ e0 in
    let n : length (drop from bytes) ≡ length bytes - from = length-drop from bytes in
    let f = position-Some (λ b. b == byte) (drop from bytes) k 0 e in
    record {
      on = omega arith;
      within = omega (arith, f.0);
      none = λ i l m q. clash (ap (λ b. b == byte) (rest-at bytes from i 0 l) ∙ eq-eqb _ _ q) (f.2 (i - from) (omega arith));
      found = λ l. sym (get_or-drop from bytes k 0) ∙ eqb-true _ _ f.1;
    }

-- no place of the rest has it
pub no_further : (byte : ℕ) (bytes : List ℕ) (from : ℕ) → from ≤ length bytes → position (λ b. b == byte) (take (length bytes - from) (drop from bytes)) ≡ None
    → ByteFrom byte bytes from (length bytes)
no_further byte bytes from h e0 =
    let e : position (λ b. b == byte) (drop from bytes) ≡ None = ap (position (λ b. b == byte)) (sym (rest-is bytes from)) ∙ e0 in
    let n : length (drop from bytes) ≡ length bytes - from = length-drop from bytes in
    let l : length (drop from bytes) ≤ position_or_len (λ b. b == byte) (drop from bytes) = grind (arith, common_steps) in
    record {
      on = h;
      within = omega arith;
      none = λ i g m q.
          clash (ap (λ b. b == byte) (rest-at bytes from i 0 g) ∙ eq-eqb _ _ q) (fails_before_first (λ b. b == byte) (drop from bytes) (i - from) 0 (omega arith));
      found = λ m. absurd (omega arith);
    }
