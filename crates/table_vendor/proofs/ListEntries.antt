-- The entries of a lent list, looked at one by one, and the places of a table likewise.
-- Assumes nothing.
use mathlib.Core.Path.{◌≡◌, refl, ◌∙◌, sym, ap}
use mathlib.Core.Bool.{Bool, true, false, ◌&&◌}
use mathlib.Core.List.{List, [], ◌∷◌}
use Prim.Native.Nat.{ℕ, zero, suc, ◌+◌, ◌*◌, ◌≤◌, ◌<◌}
use native.Mathlib.Omega.{arith}
use lib.Dec.{eqb}
use lib.ListN.{length, get_or, take, drop}
use borrow.Author.Tests.{eq-eqb, ne_eqb}
use Rattle.listing.specs.declared.Maturity.{Maturity}
use Rattle.listing.specs.Rules.{unused}
use Rattle.table_numbering.specs.Numbering.{is_listed}
use Rattle.table_numbering.proofs.FirstMaturities.{part-next, part-done}
use Rattle.table_vendor.specs.Vendor.{VendorEntry, entries_of, times, vendor_day_in}
use Rattle.table_vendor.specs.VendorPasses.{entry_count, stands_once, lesser, least_listed, least_other}

-- entry j is the numbers 2 j and 2 j + 1
entry_next : (l : List ℕ) (j : ℕ) → j < entry_count l
    → drop j (entries_of l) ≡ record { key = get_or l (2 * j) 0; day = get_or l (2 * j + 1) 0 } ∷ drop (j + 1) (entries_of l)
unfolding entries_of
entry_next [] j h = absurd (omega arith)
entry_next (m ∷ []) zero h = refl
entry_next (m ∷ []) (suc j) h = absurd (omega arith)
entry_next (m ∷ d ∷ rest) zero h = refl
entry_next (m ∷ d ∷ rest) (suc j) h =
    let a : 2 * suc j ≡ suc (suc (2 * j)) = omega arith in
    let b : 2 * suc j + 1 ≡ suc (suc (2 * j + 1)) = omega arith in
    let c : suc j + 1 ≡ suc (j + 1) = omega arith in
    rw (b, a, c) (entry_next rest j (omega arith))

entry_done : (l : List ℕ) (j : ℕ) → entry_count l ≤ j → drop j (entries_of l) ≡ []
unfolding entries_of
entry_done [] zero h = refl
entry_done [] (suc j) h = refl
entry_done (m ∷ []) zero h = absurd (omega arith)
entry_done (m ∷ []) (suc zero) h = refl
entry_done (m ∷ []) (suc (suc j)) h = refl
entry_done (m ∷ d ∷ rest) zero h = absurd (omega arith)
entry_done (m ∷ d ∷ rest) (suc j) h = entry_done rest j (omega arith)

module _ (l : List ℕ) (j : ℕ) (m : ℕ) where
  abbrev es : List VendorEntry
  es = entries_of l

  times-here : j < entry_count l → get_or l (2 * j) 0 ≡ m → times (drop j es) m ≡ suc (times (drop (j + 1) es) m)
  unfolding times
  times-here h e = rw (entry_next l j h, eq-eqb (get_or l (2 * j) 0) m e) (omega arith)

  -- a key that is not that of the next entry stands as often in the rest as from that entry on
  pub times-next : j < entry_count l → (get_or l (2 * j) 0 ≡ m → ⊥) → times (drop (j + 1) es) m ≡ times (drop j es) m
  unfolding times
  times-next h e = sym (rw (entry_next l j h, ne_eqb (get_or l (2 * j) 0) m e) (omega arith))

  times-done : entry_count l ≤ j → times (drop j es) m ≡ 0
  unfolding times
  times-done h = rw (entry_done l j h)

  day-here : j < entry_count l → get_or l (2 * j) 0 ≡ m → vendor_day_in (drop j es) m ≡ get_or l (2 * j + 1) 0
  unfolding vendor_day_in
  day-here h e = rw (entry_next l j h, eq-eqb (get_or l (2 * j) 0) m e)

  -- a key that is not that of the next entry has the same day in the rest as from that entry on
  pub day-next : j < entry_count l → (get_or l (2 * j) 0 ≡ m → ⊥) → vendor_day_in (drop (j + 1) es) m ≡ vendor_day_in (drop j es) m
  unfolding vendor_day_in
  day-next h e = sym (rw (entry_next l j h, ne_eqb (get_or l (2 * j) 0) m e))

  -- a key that is gone
  module _ (n : ℕ) (s : times (drop j es) m ≡ n) where
    -- a key that the next entry has is not gone
    pub not-gone : j < entry_count l → get_or l (2 * j) 0 ≡ m → false ≡ eqb n 0
    not-gone h e = sym (ne_eqb n 0 (λ z. omega (arith, times-here h e)))

    -- after the last entry each key is gone
    pub gone : entry_count l ≤ j → true ≡ eqb n 0
    gone h = sym (eq-eqb n 0 (sym s ∙ times-done h))

  -- a key that stands once
  module _ (s : times (drop j es) m ≡ times es m) (r : vendor_day_in (drop j es) m ≡ vendor_day_in es m) (d : ℕ) where
    -- a key whose first entry has another day does not stand once with the day
    pub once-not : j < entry_count l → get_or l (2 * j) 0 ≡ m → (get_or l (2 * j + 1) 0 ≡ d → ⊥) → false ≡ stands_once es m d
    unfolding stands_once
    once-not h e q =
        let z : eqb (vendor_day_in es m) d ≡ false = ne_eqb (vendor_day_in es m) d (λ w. q (sym (day-here h e) ∙ r ∙ w)) in
        sym (ap (λ (b : Bool). eqb (times es m) 1 && b) z ∙ never (eqb (times es m) 1))
      where
        never : (b : Bool) → (b && false) ≡ false
        never true = refl
        never false = refl

    -- a key whose first entry has the day stands once with it exactly where it is gone from the rest
    pub once-if : j < entry_count l → get_or l (2 * j) 0 ≡ m → get_or l (2 * j + 1) 0 ≡ d → (b : Bool) → b ≡ eqb (times (drop (j + 1) es) m) 0
        → b ≡ stands_once es m d
    unfolding stands_once
    once-if h e q b w =
        let z : eqb (vendor_day_in es m) d ≡ true = eq-eqb (vendor_day_in es m) d (sym r ∙ day-here h e ∙ q) in
        w ∙ one (times (drop (j + 1) es) m) (times es m) (sym s ∙ times-here h e) ∙ always (eqb (times es m) 1) ∙
        ap (λ (b : Bool). eqb (times es m) 1 && b) (sym z)
      where
        one : (x y : ℕ) → y ≡ suc x → eqb x 0 ≡ eqb y 1
        one zero y e = sym (eq-eqb y 1 e)
        one (suc x) y e = ne_eqb (suc x) 0 (λ z. omega arith) ∙ sym (ne_eqb y 1 (λ z. omega arith))

        always : (b : Bool) → b ≡ (b && true)
        always true = refl
        always false = refl

    -- a key that no entry has does not stand once
    pub once-none : entry_count l ≤ j → false ≡ stands_once es m d
    unfolding stands_once
    once-none h =
        let z : eqb (times es m) 1 ≡ false = ne_eqb (times es m) 1 (λ w. omega (arith, times-done h)) in
        rw z

-- the pass over the list
module _ (places : List Maturity) (l : List ℕ) (j least : ℕ) where
  -- the pass over the list, after the next entry, goes on with the lesser key over the rest
  pub other-next : j < entry_count l → (now : ℕ) → now ≡ lesser (is_listed places (get_or l (2 * j) 0)) (get_or l (2 * j) 0) least
      → least_other places (drop (j + 1) (entries_of l)) now ≡ least_other places (drop j (entries_of l)) least
  unfolding least_other
  other-next h now e = sym (rw (entry_next l j h, e))

  -- after the last entry the pass over the list has its least key
  pub other-done : entry_count l ≤ j → least_other places (drop j (entries_of l)) least ≡ least
  unfolding least_other
  other-done h = rw (entry_done l j h)

-- the pass over the places
module _ (es : List VendorEntry) (a : List Maturity) (n i : ℕ) (fits : n ≤ length a) (least : ℕ) where
  -- the pass over the places, after the next place, goes on with the lesser key over the rest
  pub place-next : i < n → (now : ℕ) → now ≡ lesser (stands_once es (get_or a i unused).key (get_or a i unused).day) (get_or a i unused).key least
      → least_listed es (drop (i + 1) (take n a)) now ≡ least_listed es (drop i (take n a)) least
  unfolding least_listed
  place-next h now e = sym (rw (part-next a n i fits h, e))

  -- after the last place the pass over the places has its least key
  pub place-done : n ≤ i → least_listed es (drop i (take n a)) least ≡ least
  unfolding least_listed
  place-done h = rw (part-done a n i fits h)
