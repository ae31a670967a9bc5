-- Ids side by side in a list of bytes. Only the code needs it.
-- Assumes nothing.
use Rattle.std.specs.Prelude.{ℕ, ◌+◌, ◌*◌, List, [], ◌∷◌, get_or}

-- the four bytes of id i of a list
abbrev pub id_in : List ℕ → ℕ → List ℕ
id_in ids i = get_or ids (4 * i) 0 ∷ get_or ids (4 * i + 1) 0 ∷ get_or ids (4 * i + 2) 0 ∷ get_or ids (4 * i + 3) 0 ∷ []
