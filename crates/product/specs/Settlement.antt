-- The Italian groups, and the days to settlement (01, Last trading day; Due day, tick, cash; 002, 1.6.6; 000, 2.6.2; 02, note 1).
-- Assumes nothing.
use Rattle.std.specs.Prelude.{ℕ, ◌+◌, ◌-◌, ◌*◌, ◌/◌, ◌%◌, Bool, ◌&&◌, cond, List, [], ◌∷◌, ◌++◌}
use Rattle.product.specs.Fields.{digit, one_of_codes}
use Rattle.product.specs.declared.Kind.{Kind}
use Rattle.product.specs.declared.Kind.TheVariants.{Future, Option}

-- 'DE', in ASCII
abbrev pub DE : List ℕ
DE = 68 ∷ 69 ∷ []

-- 'FI', in ASCII
abbrev pub FI : List ℕ
FI = 70 ∷ 73 ∷ []

-- 'GB', in ASCII
abbrev pub GB : List ℕ
GB = 71 ∷ 66 ∷ []

-- 'IE', in ASCII
abbrev pub IE : List ℕ
IE = 73 ∷ 69 ∷ []

-- 'IT', in ASCII
abbrev pub IT : List ℕ
IT = 73 ∷ 84 ∷ []

-- 'two letters A–Z and two digits':
-- a country code, and a number in two digits, in ASCII
abbrev pub group_code : List ℕ → ℕ → List ℕ
group_code country number = country ++ ((48 + number / 10) ∷ (48 + number % 10) ∷ [])

-- 'the group's digits after its country code',
-- as one number; 100 where a byte is no digit
unfoldable pub group_number : ℕ → ℕ → ℕ
group_number tens ones = cond (digit tens && digit ones) (10 * (tens - 48) + (ones - 48)) 100

-- 'the groups IT01 and IT11'
unfoldable pub italian : List ℕ → Bool
italian group = one_of_codes (group_code IT 1 ∷ group_code IT 11 ∷ []) group

-- 'DE11 to DE14'
unfoldable pub two_days : List ℕ → Bool
two_days group = one_of_codes (group_code DE 11 ∷ group_code DE 12 ∷ group_code DE 13 ∷ group_code DE 14 ∷ []) group

-- 'FI11 to FI14, GB11, IE11'
unfoldable pub four_days : List ℕ → Bool
four_days group =
    one_of_codes
    (group_code FI 11 ∷ group_code FI 12 ∷ group_code FI 13 ∷ group_code FI 14 ∷ group_code GB 11 ∷ group_code IE 11 ∷ [])
    group

-- 'Options (000, 2.6.2): n = 2 for DE11 to DE14; 4 for FI11 to FI14, GB11, IE11; else 3'
unfoldable pub option_days : List ℕ → ℕ
option_days group = cond (two_days group) 2 (cond (four_days group) 4 3)

-- 'Futures: n = 1 (002, 1.6.6)', of either text;
-- options by their group
unfoldable pub settlement_days : Kind → List ℕ → ℕ
settlement_days (Future text) group = 1
settlement_days (Option term) group = option_days group
