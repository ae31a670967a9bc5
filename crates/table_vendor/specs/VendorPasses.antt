-- The two passes of the code, over a table's places and over a list, and what is said of the key that they find; only the code needs them.
-- Assumes nothing.
use Rattle.std.specs.Prelude.{ℕ, ◌+◌, ◌/◌, ◌%◌, Bool, false, ◌&&◌, cond, List, [], ◌∷◌, eqb, ltb, length}
use Rattle.questions.specs.Questions.{Answer}
use Rattle.listing.specs.declared.Maturity.{Maturity}
use Rattle.table_numbering.specs.Numbering.{is_listed}
use Rattle.table_vendor.specs.Vendor.{VendorEntry, times, vendor_day_in, Judgement, yes_said}

-- how many entries a list of numbers has
abbrev pub entry_count : List ℕ → ℕ
entry_count list = length list / 2 + length list % 2

-- a key stands once in a list, and with this day
unfoldable pub stands_once : List VendorEntry → ℕ → ℕ → Bool
stands_once list k d = eqb (times list k) 1 && eqb (vendor_day_in list k) d

-- the least key found to differ, after one more was looked at
unfoldable pub lesser : Bool → ℕ → ℕ → ℕ
lesser alike k least = cond alike least (cond (ltb k least) k least)

-- over the places: a key differs unless it stands once in the list, with the place's day
unfoldable pub least_listed : List VendorEntry → List Maturity → ℕ → ℕ
least_listed list [] least = least
least_listed list (m ∷ ms) least = least_listed list ms (lesser (stands_once list m.key m.day) m.key least)

-- over the list: a key differs where it is not listed
unfoldable pub least_other : List Maturity → List VendorEntry → ℕ → ℕ
least_other places [] least = least
least_other places (e ∷ es) least = least_other places es (lesser (is_listed places e.key) e.key least)

-- the answer where the least key that differs is known; 65,536 where there is none
unfoldable pub said : ℕ → Answer Judgement
said least = record { refusal = 0; value = cond (eqb least 65536) yes_said (record { same = false; key = least }) }
