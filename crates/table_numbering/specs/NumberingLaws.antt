-- What `renumbered` and `missing` give, said without their recursion: the table and the book of demand 3 share them (01, The table).
-- It holds of listings by rising month, which every fresh listing is, and of nothing else than these two (proofs Renumbering, Rising, Unique).
-- Assumes nothing.
use Rattle.std.specs.Prelude.{ℕ, suc, ◌+◌, ◌<◌, ◌≡◌, Bool, true, false, not, ◌&&◌, List, length, get_or}
use Rattle.listing.specs.declared.Maturity.{Maturity}
use Rattle.listing.specs.Rules.{unused, count_from}
use Rattle.table_numbering.specs.Numbering.{is_listed, number_of, unnumbered}

-- 'by rising month':
-- each month is after the months of the places before it
abbrev pub Rising : List Maturity → Type 0
Rising ms = (i j : ℕ) → i < j → j < length ms → (get_or ms i unused).key < (get_or ms j unused).key

-- one list has the month and another has not
abbrev pub only : List Maturity → List Maturity → ℕ → Bool
only ms others m = is_listed ms m && not (is_listed others m)

-- the old listing, the count given, the fresh listing, and the one that then holds its months with their numbers
pub record RenumberedLaw (old : List Maturity) (given : ℕ) (fresh result : List Maturity) : Type 0 where
  -- 'The fresh listing then replaces the old':
  -- its months, days and days stepped back, in its order
  pub replaces : unnumbered result ≡ unnumbered fresh
  -- 'A month in both keeps its number'
  pub keeps : (m : ℕ) → is_listed fresh m ≡ true → is_listed old m ≡ true → number_of result m ≡ number_of old m
  -- 'a new one has entered and takes the next number after given, by rising month':
  -- given + how many months up to it, itself too, have entered
  pub takes : (m : ℕ) → is_listed fresh m ≡ true → is_listed old m ≡ false → number_of result m ≡ given + count_from (only fresh old) (suc m) 0

-- a listing, another one, and the months of the first that are missing in the other; nothing asks for their days and numbers
pub record MissingLaw (ms others result : List Maturity) : Type 0 where
  -- 'A month only in the old one' has left, one only in the new has entered:
  -- the first has it and the other has not
  pub holds : (m : ℕ) → is_listed result m ≡ only ms others m
  -- by rising month, so each is there once
  pub rising : Rising result
  -- as many as months, below any n that is above them all, that the first has and the other has not
  pub count : (n : ℕ) → ((m : ℕ) → is_listed ms m ≡ true → m < n) → length result ≡ count_from (only ms others) n 0
