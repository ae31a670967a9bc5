-- Numbered questions, the refusal that a call returns, and the values with it (01, Questions, in order).
-- Assumes nothing.
use Rattle.std.specs.Prelude.{ℕ, Bool, cond, List, [], ◌∷◌, eqb}

-- a question's number, and whether it is answered yes
pub data Ask : Type 0 where
  ask : ℕ → Bool → Ask

-- 'A call asks its questions in the order listed for it and returns the number of the first answered no';
-- 0 where there is none
unfoldable pub first_no : List Ask → ℕ
first_no [] = 0
first_no (ask number holds ∷ rest) = cond holds (first_no rest) number

-- what a call answers: 0 and its value, or the number of a refusal and a zero value
pub record Answer (A : Type 0) : Type 0 where
  pub refusal : ℕ
  pub value : A

-- 'With it: .. other calls return zero values'
unfoldable pub answer : {A : Type 0} → List Ask → A → A → Answer A
answer asks zeros value = record { refusal = first_no asks; value = cond (eqb (first_no asks) 0) value zeros }
