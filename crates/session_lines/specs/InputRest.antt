-- The rest of an input, line by line.
-- Assumes nothing.
use Rattle.std.specs.Prelude.{ℕ, cond, List, [], ◌∷◌, eqb}

-- what is given for the rest of an input, with a state s and a line begun, l. A line is `empty` at first, `more` adds a byte to it, `size` is its length.
-- A byte that is no line feed, 10, is added to the line. At a line feed `taken` says what is given: of the state, of the line, and of what is given
-- for the rest by the state that the line leaves. At the end a line with bytes is taken likewise; without bytes `done` says what is given of the state
unfoldable pub rest_over : {L S R : Type 0} → L → (L → ℕ → L) → (L → ℕ) → (S → R) → (S → L → (S → R) → R) → S → L → List ℕ → R
rest_over empty more size done taken s l [] = cond (eqb (size l) 0) (done s) (taken s l done)
rest_over empty more size done taken s l (byte ∷ rest) =
    cond (eqb byte 10)
    (taken s l (λ after. rest_over empty more size done taken after empty rest))
    (rest_over empty more size done taken s (more l byte) rest)
