-- The two passes find the smallest key that differs.
-- Assumes nothing.
use Prim.Native.Nat.{ℕ, zero, suc, ◌+◌, ◌≤◌, ◌<◌}
use mathlib.Core.Path.{◌≡◌, refl, ◌∙◌, sym, ap}
use mathlib.Core.Bool.{Bool, true, false, not, ◌&&◌, ◌||◌, cond}
use mathlib.Core.Logic.{◌⊎◌, inl, inr}
use mathlib.Core.List.{List, [], ◌∷◌, map}
use native.Mathlib.Nat.{le_refl, zero-add}
use native.Mathlib.Omega.{arith}
use lib.Dec.{eqb, ltb}
use borrow.Author.Tests.{eqb-true, eq-eqb, ltb-true, ltb-false, not-true}
use Rattle.questions.specs.Search.{first_from}
use Rattle.questions.proofs.Bools.{clash, both, and_both, or_left, or_right, or-either, is_false, lt-or-ge}
use Rattle.questions.proofs.Search.{first-is}
use Rattle.listing.proofs.Lawful.{Found, first_found}
use Rattle.listing.specs.declared.Maturity.{Maturity}
use Rattle.table_numbering.specs.Numbering.{is_listed}
use Rattle.table_vendor.proofs.Judging.{Alike, neither, both-once, alike, alike-not}
use Rattle.table_vendor.specs.Vendor.{VendorEntry, vendor_entry_of, times, vendor_day_in, differs, smallest}
use Rattle.table_vendor.specs.VendorPasses.{stands_once, lesser, least_listed, least_other}

-- a pass over entries with any test
abbrev least_of : (VendorEntry → Bool) → List VendorEntry → ℕ → ℕ
least_of alike [] least = least
least_of alike (e ∷ es) least = least_of alike es (lesser (alike e) e.key least)

-- the key stands in an entry that fails the test
abbrev fails : (VendorEntry → Bool) → List VendorEntry → ℕ → Bool
fails alike [] m = false
fails alike (e ∷ es) m = eqb e.key m && not (alike e) || fails alike es m

lesser-most : (b : Bool) (m least : ℕ) → lesser b m least ≤ least
unfolding lesser
lesser-most true m least = le_refl least
lesser-most false m least = go (ltb m least) refl
  where
    go : (c : Bool) → ltb m least ≡ c → cond c m least ≤ least
    go true e = omega (arith, ltb-true m least e)
    go false e = le_refl least

lesser-no : (m least : ℕ) → lesser false m least ≤ m
unfolding lesser
lesser-no m least = go (ltb m least) refl
  where
    go : (c : Bool) → ltb m least ≡ c → cond c m least ≤ m
    go true e = le_refl m
    go false e = ltb-false m least e

lesser-is : (b : Bool) (m least : ℕ) → (lesser b m least ≡ least) ⊎ ((b ≡ false) × (lesser b m least ≡ m))
unfolding lesser
lesser-is true m least = inl refl
lesser-is false m least = go (ltb m least)
  where
    go : (c : Bool) → (cond c m least ≡ least) ⊎ ((◌≡◌ {A = Bool} false false) × (cond c m least ≡ m))
    go true = inr (refl, refl)
    go false = inl refl

module _ (test : VendorEntry → Bool) where
  pass-most : (es : List VendorEntry) (least : ℕ) → least_of test es least ≤ least
  pass-most [] least = le_refl least
  pass-most (e ∷ es) least = omega (arith, pass-most es (lesser (test e) e.key least), lesser-most (test e) e.key least)

  -- no key that fails is below the least
  pass_below : (es : List VendorEntry) (least m : ℕ) → fails test es m ≡ true → least_of test es least ≤ m
  pass_below [] least m f = clash f refl
  pass_below (e ∷ es) least m f = go (or-either (eqb e.key m && not (test e)) (fails test es m) f) (pass_below es (lesser (test e) e.key least) m)
    where
      here : (b : Bool) → test e ≡ b → (eqb e.key m ≡ true) → not b ≡ true → least_of test es (lesser (test e) e.key least) ≤ m
      here true q s n = clash n refl
      here false q s n =
          omega (
            arith,
            pass-most es (lesser (test e) e.key least),
            ap (λ (b : Bool). lesser b e.key least) q,
            lesser-no e.key least,
            eqb-true e.key m s,
          )

      go : ((eqb e.key m && not (test e)) ≡ true) ⊎ (fails test es m ≡ true)
          → (fails test es m ≡ true → least_of test es (lesser (test e) e.key least) ≤ m) → least_of test es (lesser (test e) e.key least) ≤ m
      go (inl p) ih = let (s, n) = both (eqb e.key m) (not (test e)) p in here (test e) refl s n
      go (inr p) ih = ih p

  -- the least fails, or is the one found before
  pass-is : (es : List VendorEntry) (least : ℕ) → (least_of test es least ≡ least) ⊎ (fails test es (least_of test es least) ≡ true)
  pass-is [] least = inl refl
  pass-is (e ∷ es) least = go (pass-is es (lesser (test e) e.key least)) (lesser-is (test e) e.key least)
    where
      go : (least_of test es (lesser (test e) e.key least) ≡ lesser (test e) e.key least)
          ⊎ (fails test es (least_of test es (lesser (test e) e.key least)) ≡ true)
          → (lesser (test e) e.key least ≡ least) ⊎ ((test e ≡ false) × (lesser (test e) e.key least ≡ e.key))
          → (least_of test es (lesser (test e) e.key least) ≡ least)
          ⊎ ((eqb e.key (least_of test es (lesser (test e) e.key least))
          && not (test e) || fails test es (least_of test es (lesser (test e) e.key least))) ≡ true)
      go (inr p) s = inr (or_right (eqb e.key (least_of test es (lesser (test e) e.key least)) && not (test e)) p)
      go (inl p) (inl s) = inl (p ∙ s)
      go (inl p) (inr s) =
          inr (or_left (fails test es (least_of test es (lesser (test e) e.key least)))
          (and_both (eq-eqb e.key (least_of test es (lesser (test e) e.key least)) (sym (p ∙ s.1))) (ap not s.0)))

-- the passes of the code
other-is : (places : List Maturity) (es : List VendorEntry) (least : ℕ) → least_other places es least ≡ least_of (λ e. is_listed places e.key) es least
unfolding least_other
other-is places [] least = refl
other-is places (e ∷ es) least = other-is places es (lesser (is_listed places e.key) e.key least)

place_is : (list : List VendorEntry) (ms : List Maturity) (least : ℕ)
    → least_listed list ms least ≡ least_of (λ e. stands_once list e.key e.day) (map vendor_entry_of ms) least
unfolding least_listed
place_is list [] least = refl
place_is list (m ∷ ms) least = place_is list ms (lesser (stands_once list m.key m.day) m.key least)

-- a key is listed where it stands in the places
listed-stands : (ms : List Maturity) (m : ℕ) → is_listed ms m ≡ true → 1 ≤ times (map vendor_entry_of ms) m
unfolding is_listed times
listed-stands [] m e = clash e refl
listed-stands (x ∷ ms) m e = go (eqb x.key m) e (listed-stands ms m)
  where
    go : (b : Bool) → (b || is_listed ms m) ≡ true → (is_listed ms m ≡ true → 1 ≤ times (map vendor_entry_of ms) m)
        → 1 ≤ cond b 1 0 + times (map vendor_entry_of ms) m
    go true e ih = omega arith
    go false e ih = omega (arith, ih e)

-- a key that is not listed stands in no entry of the listing
pub listed-none : (ms : List Maturity) (m : ℕ) → is_listed ms m ≡ false → times (map vendor_entry_of ms) m ≡ 0
unfolding is_listed times
listed-none [] m e = refl
listed-none (x ∷ ms) m e = go (eqb x.key m) e (listed-none ms m)
  where
    go : (b : Bool) → (b || is_listed ms m) ≡ false → (is_listed ms m ≡ false → times (map vendor_entry_of ms) m ≡ 0)
        → cond b 1 0 + times (map vendor_entry_of ms) m ≡ 0
    go true e ih = clash refl e
    go false e ih = omega (arith, ih e)

-- an entry of the list whose key is not listed
module _ (listed : ℕ → Bool) (m : ℕ) where
  other-fails : (es : List VendorEntry) → listed m ≡ false → 1 ≤ times es m → fails (λ e. listed e.key) es m ≡ true
  unfolding times
  other-fails [] a h = absurd (omega arith)
  other-fails (e ∷ es) a h = go (eqb e.key m) refl h (other-fails es a)
    where
      go : (b : Bool) → eqb e.key m ≡ b → 1 ≤ cond b 1 0 + times es m → (1 ≤ times es m → fails (λ e. listed e.key) es m ≡ true)
          → (b && not (listed e.key) || fails (λ e. listed e.key) es m) ≡ true
      go true q h ih = or_left (fails (λ e. listed e.key) es m) (ap not (ap listed (eqb-true e.key m q) ∙ a))
      go false q h ih = ih (omega arith)

  other-why : (es : List VendorEntry) → fails (λ e. listed e.key) es m ≡ true → (listed m ≡ false) × (1 ≤ times es m)
  unfolding times
  other-why [] f = clash f refl
  other-why (e ∷ es) f = go (eqb e.key m) refl f (other-why es)
    where
      more : (b : Bool) → (listed m ≡ false) × (1 ≤ times es m) → (listed m ≡ false) × (1 ≤ cond b 1 0 + times es m)
      more true s = (s.0, omega arith)
      more false s = (s.0, omega (arith, s.1))

      here : eqb e.key m ≡ true → (not (listed e.key) ≡ true) ⊎ (fails (λ e. listed e.key) es m ≡ true)
          → (fails (λ e. listed e.key) es m ≡ true → (listed m ≡ false) × (1 ≤ times es m)) → (listed m ≡ false) × (1 ≤ 1 + times es m)
      here q (inl n) ih = (ap listed (sym (eqb-true e.key m q)) ∙ not-true (listed e.key) n, omega arith)
      here q (inr n) ih = more true (ih n)

      go : (b : Bool) → eqb e.key m ≡ b → (b && not (listed e.key) || fails (λ e. listed e.key) es m) ≡ true
          → (fails (λ e. listed e.key) es m ≡ true → (listed m ≡ false) × (1 ≤ times es m)) → (listed m ≡ false) × (1 ≤ cond b 1 0 + times es m)
      go true q f ih = here q (or-either (not (listed e.key)) (fails (λ e. listed e.key) es m) f) ih
      go false q f ih = more false (ih f)

-- an entry of the places that does not stand in the list as it should
module _ (good : ℕ → ℕ → Bool) (m : ℕ) where
  place-fails : (es : List VendorEntry) → times es m ≡ 1 → good m (vendor_day_in es m) ≡ false → fails (λ e. good e.key e.day) es m ≡ true
  unfolding times vendor_day_in
  place-fails [] t q = absurd (omega arith)
  place-fails (e ∷ es) t q = go (eqb e.key m) refl t q (place-fails es)
    where
      go : (b : Bool) → eqb e.key m ≡ b → cond b 1 0 + times es m ≡ 1 → good m (cond b e.day (vendor_day_in es m)) ≡ false
          → (times es m ≡ 1 → good m (vendor_day_in es m) ≡ false → fails (λ e. good e.key e.day) es m ≡ true)
          → (b && not (good e.key e.day) || fails (λ e. good e.key e.day) es m) ≡ true
      go true s t q ih = or_left (fails (λ e. good e.key e.day) es m) (ap not (ap (λ (k : ℕ). good k e.day) (eqb-true e.key m s) ∙ q))
      go false s t q ih = ih (omega arith) q

  place-why : (es : List VendorEntry) → times es m ≤ 1 → fails (λ e. good e.key e.day) es m ≡ true
      → (1 ≤ times es m) × (good m (vendor_day_in es m) ≡ false)
  unfolding times vendor_day_in
  place-why [] t f = clash f refl
  place-why (e ∷ es) t f = go (eqb e.key m) refl t f (place-why es)
    where
      here : eqb e.key m ≡ true → 1 + times es m ≤ 1 → (not (good e.key e.day) ≡ true) ⊎ (fails (λ e. good e.key e.day) es m ≡ true)
          → (times es m ≤ 1 → fails (λ e. good e.key e.day) es m ≡ true → (1 ≤ times es m) × (good m (vendor_day_in es m) ≡ false))
          → (1 ≤ 1 + times es m) × (good m e.day ≡ false)
      here s t (inl n) ih = (omega arith, ap (λ (k : ℕ). good k e.day) (sym (eqb-true e.key m s)) ∙ not-true (good e.key e.day) n)
      here s t (inr n) ih = absurd (omega (arith, (ih (omega arith) n).0))

      less : (1 ≤ times es m) × (good m (vendor_day_in es m) ≡ false) → (1 ≤ 0 + times es m) × (good m (vendor_day_in es m) ≡ false)
      less s = (omega (arith, s.0), s.1)

      go : (b : Bool) → eqb e.key m ≡ b → cond b 1 0 + times es m ≤ 1
          → (b && not (good e.key e.day) || fails (λ e. good e.key e.day) es m) ≡ true
          → (times es m ≤ 1 → fails (λ e. good e.key e.day) es m ≡ true → (1 ≤ times es m) × (good m (vendor_day_in es m) ≡ false))
          → (1 ≤ cond b 1 0 + times es m) × (good m (cond b e.day (vendor_day_in es m)) ≡ false)
      go true s t f ih = here s t (or-either (not (good e.key e.day)) (fails (λ e. good e.key e.day) es m) f) ih
      go false s t f ih = less (ih (omega arith) f)

-- where no number passes there is none
first-never : (f : ℕ → Bool) (none n d : ℕ) → ((k : ℕ) → d ≤ k → k < d + n → f k ≡ false) → first_from f none n d ≡ none
first-never f none n d h = go (first_found f none n d)
  where
    go : (first_from f none n d ≡ none) ⊎ Found f n d (first_from f none n d) → first_from f none n d ≡ none
    go (inl e) = e
    go (inr w) = clash w.passes (h (first_from f none n d) w.from w.below)

-- the two passes find the smallest key that differs
module _ (places : List Maturity) (list : List VendorEntry) (once : (m : ℕ) → times (map vendor_entry_of places) m ≤ 1) where
  abbrev fresh : List VendorEntry
  fresh = map vendor_entry_of places

  abbrev first : ℕ
  first = least_of (λ e. stands_once list e.key e.day) fresh 65536

  abbrev least : ℕ
  least = least_of (λ e. is_listed places e.key) list first

  least_first : least ≤ first
  least_first = pass-most (λ e. is_listed places e.key) list first

  least-most : least ≤ 65536
  least-most = omega (arith, least_first, pass-most (λ e. stands_once list e.key e.day) fresh 65536)

  -- one that stands once, with its day, is alike
  once-alike : (m : ℕ) → times fresh m ≡ 1 → stands_once list m (vendor_day_in fresh m) ≡ true → differs fresh list m ≡ false
  unfolding stands_once
  once-alike m t s =
      let (a, b) = both (eqb (times list m) 1) (eqb (vendor_day_in list m) (vendor_day_in fresh m)) s in
      alike-not fresh list once m (both-once t (eqb-true (times list m) 1 a) (sym (eqb-true (vendor_day_in list m) (vendor_day_in fresh m) b)))

  once-not : (m : ℕ) → 1 ≤ times fresh m → stands_once list m (vendor_day_in fresh m) ≡ false → differs fresh list m ≡ true
  unfolding stands_once
  once-not m t s = go (differs fresh list m) refl
    where
      against : Alike fresh list once m → ⊥
      against (neither p q) = omega arith
      against (both-once p q d) = clash (and_both (eq-eqb (times list m) 1 q) (eq-eqb (vendor_day_in list m) (vendor_day_in fresh m) (sym d))) s

      go : (b : Bool) → differs fresh list m ≡ b → differs fresh list m ≡ true
      go true e = e
      go false e = absurd (against (alike fresh list once m e))

  other-not : (m : ℕ) → times fresh m ≡ 0 → 1 ≤ times list m → differs fresh list m ≡ true
  other-not m t l = go (differs fresh list m) refl
    where
      against : Alike fresh list once m → ⊥
      against (neither p q) = omega arith
      against (both-once p q d) = omega arith

      go : (b : Bool) → differs fresh list m ≡ b → differs fresh list m ≡ true
      go true e = e
      go false e = absurd (against (alike fresh list once m e))

  -- none below it differs
  below-least : (m : ℕ) → m < least → differs fresh list m ≡ false
  below-least m h = go (times fresh m) refl
    where
      unlisted : times fresh m ≡ 0 → is_listed places m ≡ false
      unlisted p = is_false (is_listed places m) (λ t. omega (arith, listed-stands places m t))

      one : times fresh m ≡ 1 → (b : Bool) → stands_once list m (vendor_day_in fresh m) ≡ b → differs fresh list m ≡ false
      one p true e = once-alike m p e
      one p false e = absurd (omega (
        arith,
        least_first,
        pass_below (λ e. stands_once list e.key e.day) fresh 65536 m (place-fails (stands_once list) m fresh p e),
      ))

      none : times fresh m ≡ 0 → (n : ℕ) → times list m ≡ n → differs fresh list m ≡ false
      none p zero q = alike-not fresh list once m (neither p q)
      none p (suc n) q =
          absurd (omega (arith, pass_below (λ e. is_listed places e.key) list first m (other-fails (is_listed places) m list (unlisted p) (omega arith))))

      go : (n : ℕ) → times fresh m ≡ n → differs fresh list m ≡ false
      go zero p = none p (times list m) refl
      go (suc n) p =
          let q : times fresh m ≡ 1 = omega (arith, once m) in
          one q (stands_once list m (vendor_day_in fresh m)) refl

  least-differs : (least ≡ 65536) ⊎ (differs fresh list least ≡ true)
  least-differs = go (pass-is (λ e. is_listed places e.key) list first) (pass-is (λ e. stands_once list e.key e.day) fresh 65536)
    where
      go : (least ≡ first) ⊎ (fails (λ e. is_listed places e.key) list least ≡ true)
          → (first ≡ 65536) ⊎ (fails (λ e. stands_once list e.key e.day) fresh first ≡ true) → (least ≡ 65536) ⊎ (differs fresh list least ≡ true)
      go (inr f) s =
          let (a, b) = other-why (is_listed places) least list f in
          inr (other-not least (listed-none places least a) b)
      go (inl e) (inl s) = inl (e ∙ s)
      go (inl e) (inr f) =
          let (a, b) = place-why (stands_once list) first fresh (once first) f in
          inr (ap (differs fresh list) e ∙ once-not first a b)

  least-smallest : least ≡ smallest fresh list
  unfolding smallest
  least-smallest = go (lt-or-ge least 65536) least-differs
    where
      none : least ≡ 65536 → least ≡ first_from (differs fresh list) 65536 65536 0
      none e = e ∙ sym (first-never (differs fresh list) 65536 65536 0 (λ k a l. below-least k (omega arith)))

      go : (least < 65536) ⊎ (65536 ≤ least) → (least ≡ 65536) ⊎ (differs fresh list least ≡ true) → least ≡ first_from (differs fresh list) 65536 65536 0
      go (inr l) s = none (omega (arith, least-most))
      go (inl l) (inl e) = none e
      go (inl l) (inr d) =
          sym (zero-add least) ∙ sym (first-is (differs fresh list) 65536 65536 0 least l (λ i h. ap (differs fresh list) (zero-add i) ∙ below-least i h)
          (ap (differs fresh list) (zero-add least) ∙ d))

  -- the two passes find the smallest key that differs
  pub passes-find : least_other places list (least_listed list places 65536) ≡ smallest (map vendor_entry_of places) list
  passes-find = ap (least_other places list) (place_is list places 65536) ∙ other-is places list first ∙ least-smallest

  -- the key that the two passes find is at most 65536
  pub passes-most : least_other places list (least_listed list places 65536) ≤ 65536
  passes-most = omega (arith, ap (least_other places list) (place_is list places 65536) ∙ other-is places list first, least-most)
