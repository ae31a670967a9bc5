-- Lists worked by hand, over places that hold keys 3, 6 and 9 with days 10, 20 and 30.
-- Assumes nothing.
use Prim.Native.Nat.{ℕ}
use mathlib.Core.Path.{◌≡◌, refl}
use mathlib.Core.List.{List, [], ◌∷◌}
use Rattle.listing.specs.declared.Maturity.{Maturity}
use Rattle.table_numbering.specs.Numbering.{is_listed}
use Rattle.table_vendor.specs.Vendor.{entries_of, times, vendor_day_in}
use Rattle.table_vendor.specs.VendorPasses.{stands_once, lesser, least_listed, least_other}

-- the key that the passes find
abbrev found : List Maturity → List ℕ → ℕ
found places list = least_other places (entries_of list) (least_listed (entries_of list) places 65536)

abbrev place : ℕ → ℕ → Maturity
place key day = record { key = key; day = day; back = 0; number = 1 }

abbrev three : List Maturity
three = place 3 10 ∷ place 6 20 ∷ place 9 30 ∷ []

-- in another order
reversed-order : found three (9 ∷ 30 ∷ 6 ∷ 20 ∷ 3 ∷ 10 ∷ []) ≡ 65536
unfolding least_listed least_other entries_of stands_once lesser times vendor_day_in is_listed
reversed-order = refl

-- one day changed
day-changed : found three (3 ∷ 10 ∷ 6 ∷ 21 ∷ 9 ∷ 30 ∷ []) ≡ 6
unfolding least_listed least_other entries_of stands_once lesser times vendor_day_in is_listed
day-changed = refl

-- the last key twice
month-twice : found three (3 ∷ 10 ∷ 6 ∷ 20 ∷ 9 ∷ 30 ∷ 9 ∷ 30 ∷ []) ≡ 9
unfolding least_listed least_other entries_of stands_once lesser times vendor_day_in is_listed
month-twice = refl

-- a key twice, once with its right day
two-days : found three (3 ∷ 10 ∷ 3 ∷ 11 ∷ 6 ∷ 20 ∷ 9 ∷ 30 ∷ []) ≡ 3
unfolding least_listed least_other entries_of stands_once lesser times vendor_day_in is_listed
two-days = refl

-- one key dropped and a later one added: the smaller
dropped-added : found three (6 ∷ 20 ∷ 9 ∷ 30 ∷ 12 ∷ 40 ∷ []) ≡ 3
unfolding least_listed least_other entries_of stands_once lesser times vendor_day_in is_listed
dropped-added = refl

-- an empty list: the first listed key
empty-list : found three [] ≡ 3
unfolding least_listed least_other entries_of stands_once lesser times vendor_day_in is_listed
empty-list = refl

-- the largest number, which stands first in the list
largest : found three (65535 ∷ 1 ∷ 3 ∷ 10 ∷ 6 ∷ 20 ∷ 9 ∷ 30 ∷ []) ≡ 65535
unfolding least_listed least_other entries_of stands_once lesser times vendor_day_in is_listed
largest = refl

-- an odd number of numbers
no-last-day : found three (3 ∷ 10 ∷ 6 ∷ 20 ∷ 9 ∷ []) ≡ 9
unfolding least_listed least_other entries_of stands_once lesser times vendor_day_in is_listed
no-last-day = refl

-- key 0, January 2000, is a key
month-zero : found (place 0 20 ∷ []) (0 ∷ 21 ∷ []) ≡ 0
unfolding least_listed least_other entries_of stands_once lesser times vendor_day_in is_listed
month-zero = refl
