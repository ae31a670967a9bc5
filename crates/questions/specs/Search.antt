-- Tests over runs of numbers, and the first and the latest number that passes one.
-- Assumes nothing.
use Rattle.std.specs.Prelude.{ℕ, zero, suc, Bool, true, false, ◌&&◌, ◌||◌, cond, List, [], ◌∷◌, eqb}

-- each of 0, .., n − 1 passes
unfoldable pub every : ℕ → (ℕ → Bool) → Bool
every zero test = true
every (suc n) test = every n test && test n

-- one of 0, .., n − 1 passes
unfoldable pub some : ℕ → (ℕ → Bool) → Bool
some zero test = false
some (suc n) test = some n test || test n

-- the number stands in the list
unfoldable pub one_of : List ℕ → ℕ → Bool
one_of [] x = false
one_of (y ∷ ys) x = eqb x y || one_of ys x

-- the latest of 1, .., d that passes; 0 where none does
unfoldable pub latest : (ℕ → Bool) → ℕ → ℕ
latest test zero = zero
latest test (suc d) = let before = latest test d in cond (test (suc d)) (suc d) before

-- the first of d, .., d + n − 1 that passes; `none` where none does
unfoldable pub first_from : (ℕ → Bool) → ℕ → ℕ → ℕ → ℕ
first_from test none zero d = none
first_from test none (suc n) d = let after = first_from test none n (suc d) in cond (test d) d after
