-- How the code finds the next key that differs: over the rows, then over the listed maturities; only the code needs it.
-- Assumes nothing.
use Rattle.std.specs.Prelude.{ℕ, suc, Bool, true, not, ◌&&◌, cond, List, [], ◌∷◌, Option, Some, None, eqb, leb, ltb, get_or, length}
use Rattle.listing.specs.declared.Maturity.{Maturity}
use Rattle.delivery_differences.specs.declared.DeliveredRow.{DeliveredRow}
use Rattle.delivery_differences.specs.declared.DeliveredKey.{DeliveredKey}
use Rattle.delivery_differences.specs.Differences.{no_row, Right, not_listed, right_of}

-- the keys of the rows at some places
unfoldable pub row_keys_at : List ℕ → List ℕ → List ℕ
row_keys_at keys [] = []
row_keys_at keys (i ∷ places) = get_or keys i 0 ∷ row_keys_at keys places

-- the keys of maturities
unfoldable pub maturity_keys : List Maturity → List ℕ
maturity_keys [] = []
maturity_keys (m ∷ ms) = m.key ∷ maturity_keys ms

-- where a key first stands in a list; the list's length where it does not
unfoldable pub index_in : ℕ → List ℕ → ℕ
index_in k [] = 0
index_in k (x ∷ xs) = let after = suc (index_in k xs) in cond (eqb x k) 0 after

-- where a key first stands in a list, counted from 0; none where it does not
unfoldable pub found_in : ℕ → List ℕ → Option ℕ
found_in k ks = cond (ltb (index_in k ks) (length ks)) (Some (index_in k ks)) None

-- a number up to 2
unfoldable pub up_to_two : ℕ → ℕ
up_to_two n = cond (leb 2 n) 2 n

-- a key is not listed
unfoldable pub unlisted : List Maturity → ℕ → Bool
unlisted listed k = not (right_of listed k).listed

-- the least key found to differ, of those from a key on, after one more was looked at
unfoldable pub lesser_from : Bool → ℕ → ℕ → ℕ → ℕ
lesser_from fails from k least = cond (leb from k && (ltb k least && fails)) k least

-- the least of a key found before and the keys of a list that fail a test
unfoldable pub least_of : (ℕ → Bool) → ℕ → List ℕ → ℕ → ℕ
least_of fails from [] least = least
least_of fails from (k ∷ ks) least = least_of fails from ks (lesser_from (fails k) from k least)

-- whether a key is listed, and its maturity, by the maturity that was found with it
abbrev pub right_found : Option Maturity → Right
right_found (Some m) = record { listed = true; maturity = m }
right_found None = not_listed

-- how often, up to 2, a key was delivered, by its first row and whether it came again
abbrev pub times_of : Option DeliveredKey → ℕ
times_of (Some d) = cond d.again 2 1
times_of None = 0

-- the first row with a key; zeros where there is none
abbrev pub delivered_row : Option DeliveredKey → DeliveredRow
delivered_row (Some d) = d.row
delivered_row None = no_row
