-- The places of a table: which months entered and left, the numbers they have, and whether they are the fresh listing (01, The table).
-- Assumes nothing.
use Rattle.std.specs.Prelude.{ℕ, suc, Bool, false, not, ◌&&◌, ◌||◌, cond, List, [], ◌∷◌, map, leb, ltb, eqb, get_or}
use Rattle.questions.specs.Search.{every}
use Rattle.listing.specs.declared.Maturity.{Maturity}
use Rattle.listing.specs.Rules.{unused}

-- the month is among the maturities
unfoldable pub is_listed : List Maturity → ℕ → Bool
is_listed [] key = false
is_listed (m ∷ ms) key = eqb m.key key || is_listed ms key

-- the listing number of a month; 0 where it is not listed
unfoldable pub number_of : List Maturity → ℕ → ℕ
number_of [] key = 0
number_of (m ∷ ms) key = cond (eqb m.key key) m.number (number_of ms key)

-- the maturities of one list whose months another has not
unfoldable pub missing : List Maturity → List Maturity → List Maturity
missing [] others = []
missing (m ∷ ms) others = cond (is_listed others m.key) (missing ms others) (m ∷ missing ms others)

-- a maturity with a listing number
abbrev pub with_number : Maturity → ℕ → Maturity
with_number m n = record { key = m.key; day = m.day; back = m.back; number = n }

-- the months, the days and the days stepped back, without the numbers
abbrev pub unnumbered : List Maturity → List Maturity
unnumbered ms = map (λ m. with_number m 0) ms

-- 'A month in both keeps its number; a new one has entered and takes the next number after given, by rising month'
unfoldable pub renumbered : List Maturity → ℕ → List Maturity → List Maturity
renumbered old given [] = []
renumbered old given (m ∷ ms) =
    cond (is_listed old m.key) (with_number m (number_of old m.key) ∷ renumbered old given ms)
    (with_number m (suc given) ∷ renumbered old (suc given) ms)

-- 'numbered 1, 2, .. by rising month'
abbrev pub numbered_fresh : List Maturity → List Maturity
numbered_fresh fresh = renumbered [] 0 fresh

-- 'its months and days are the fresh listing'; 'a sound table has it right' (02, note 2):
-- the same month and the same day; the same days stepped back
abbrev pub same_maturity : Maturity → Maturity → Bool
same_maturity m fresh = eqb m.key fresh.key && (eqb m.day fresh.day && eqb m.back fresh.back)

-- 'its months and days are the fresh listing .., and unused places are zero',
-- of place i where n places are used; so are the days stepped back (02, note 2)
abbrev pub place_right : List Maturity → List Maturity → ℕ → ℕ → Bool
place_right ms fresh n i =
    same_maturity (get_or ms i unused) (get_or fresh i unused) && (ltb i n || eqb (get_or ms i unused).number 0)

-- 'its numbers are distinct':
-- no place before i has the number of place i
abbrev pub unlike_before : List Maturity → ℕ → Bool
unlike_before ms i = every i (λ j. not (eqb (get_or ms j unused).number (get_or ms i unused).number))

-- 'distinct, from 1 to the count given', of place i
abbrev pub number_right : List Maturity → ℕ → ℕ → Bool
number_right ms given i = leb 1 (get_or ms i unused).number && (leb (get_or ms i unused).number given && unlike_before ms i)

-- 'its numbers are distinct, from 1 to the count given', of the first n places
unfoldable pub numbers_right : List Maturity → ℕ → ℕ → Bool
numbers_right ms n given = every n (number_right ms given)
