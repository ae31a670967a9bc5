-- The two passes of the code find the smallest key that differs: a key differs only where it was delivered and is not listed, or is listed.
-- Assumes nothing.
use Prim.Native.Nat.{ℕ, zero, suc, ◌+◌, ◌-◌, ◌≤◌, ◌<◌, min}
use mathlib.Core.Path.{◌≡◌, refl, ◌∙◌, sym, ap}
use mathlib.Core.Bool.{Bool, true, false, not, ◌&&◌, ◌||◌, cond}
use mathlib.Core.Logic.{◌⊎◌, inl, inr}
use mathlib.Core.List.{List, [], ◌∷◌}
use native.Mathlib.Nat.{le_refl}
use native.Mathlib.Numerals.{add-one}
use native.Mathlib.Omega.{arith}
use lib.Dec.{eqb, leb, ltb}
use lib.ListN.{length, get_or, take, drop, drop_of_length-le}
use lib.Seq.{drop-cons, take_all, length-take-le, get_or-take}
use borrow.Author.Tests.{eqb-true, eq-eqb, leb-true, ltb-true, le-leb, lt-leb, lt-ltb, le-ltb, not-true}
use Rattle.questions.specs.Search.{first_from, one_of}
use Rattle.questions.proofs.Bools.{clash, both, or_left, or_right, or-either, is_false, lt-or-ge}
use Rattle.questions.proofs.Search.{first-is}
use Rattle.listing.proofs.Lawful.{Found, first_found}
use Rattle.listing.specs.declared.Maturity.{Maturity}
use Rattle.listing.specs.Rules.{unused}
use Rattle.table_vendor.specs.Vendor.{times}
use Rattle.delivery_differences.specs.declared.DeliveredRow.{DeliveredRow}
use Rattle.delivery_differences.specs.Differences.{Right, no_row, row_entries, first_row, not_listed, right_of, why_from, why_of, differs_in, next_difference}
use Rattle.delivery_differences.specs.DifferencePasses.{maturity_keys, unlisted, lesser_from, least_of}
use Rattle.delivery_differences.proofs.KeyRows.{row_keys}

-- ---- one key more

module _ (fails : Bool) (from k least : ℕ) where
  -- a key below the first one asked for leaves the least key as it is
  pub too_small : k < from → least ≡ lesser_from fails from k least
  unfolding lesser_from
  too_small h = sym (rw (lt-leb from k h) refl)

  -- a key not below the least one found leaves it as it is
  pub too_large : least ≤ k → least ≡ lesser_from fails from k least
  unfolding lesser_from
  too_large h = sym (rw (le-ltb k least h) (go (leb from k)))
    where
      go : (b : Bool) → cond (b && (false && fails)) k least ≡ least
      go true = refl
      go false = refl

  -- a key that does not fail the test leaves the least key as it is
  pub passing : fails ≡ false → least ≡ lesser_from fails from k least
  unfolding lesser_from
  passing e = sym (rw e (go (leb from k) (ltb k least)))
    where
      go : (a b : Bool) → cond (a && (b && false)) k least ≡ least
      go true true = refl
      go true false = refl
      go false b = refl

  -- a key from the first one on and below the least one that fails the test is the least key
  pub failing : from ≤ k → k < least → fails ≡ true → k ≡ lesser_from fails from k least
  unfolding lesser_from
  failing h l e = sym (rw (le-leb from k h, lt-ltb k least l, e) refl)

  lesser-most : lesser_from fails from k least ≤ least
  unfolding lesser_from
  lesser-most = go (leb from k && (ltb k least && fails)) refl
    where
      go : (b : Bool) → (leb from k && (ltb k least && fails)) ≡ b → cond b k least ≤ least
      go true e =
          let (a, r) = both (leb from k) (ltb k least && fails) e in
          let (l, f) = both (ltb k least) fails r in
          omega (arith, ltb-true k least l)
      go false e = le_refl least

  lesser-below : fails ≡ true → from ≤ k → lesser_from fails from k least ≤ k
  unfolding lesser_from
  lesser-below f h = go (lt-or-ge k least)
    where
      go : (k < least) ⊎ (least ≤ k) → cond (leb from k && (ltb k least && fails)) k least ≤ k
      go (inl l) = rw (le-leb from k h, lt-ltb k least l, f) (le_refl k)
      go (inr l) = rw (le-leb from k h, le-ltb k least l) l

  lesser-is : (lesser_from fails from k least ≡ least) ⊎ ((fails ≡ true) × (from ≤ k) × (lesser_from fails from k least ≡ k))
  unfolding lesser_from
  lesser-is = go (leb from k && (ltb k least && fails)) refl
    where
      go : (b : Bool) → (leb from k && (ltb k least && fails)) ≡ b → (cond b k least ≡ least) ⊎ ((fails ≡ true) × (from ≤ k) × (cond b k least ≡ k))
      go true e =
          let (a, r) = both (leb from k) (ltb k least && fails) e in
          let (l, f) = both (ltb k least) fails r in
          inr (f, leb-true from k a, refl)
      go false e = inl refl

-- ---- a pass over keys

-- the key at i comes next
pub least-next : (fails : ℕ → Bool) (from : ℕ) (ks : List ℕ) (i least r : ℕ) → i < length ks → r ≡ lesser_from (fails (get_or ks i 0)) from (get_or ks i 0) least
    → least_of fails from (drop (i + 1) ks) r ≡ least_of fails from (drop i ks) least
unfolding least_of
least-next fails from ks i least r h e = sym (rw (drop-cons ks i 0 h, add-one i, e) refl)

-- none is left
pub least-done : (fails : ℕ → Bool) (from : ℕ) (ks : List ℕ) (i least : ℕ) → length ks ≤ i → least_of fails from (drop i ks) least ≡ least
unfolding least_of
least-done fails from ks i least h =
    let z : drop i ks ≡ [] = drop_of_length-le ks {i = i} h in
    rw z

module _ (fails : ℕ → Bool) (from : ℕ) where
  -- the least key after a pass is at most the one before
  pub pass-most : (ks : List ℕ) (least : ℕ) → least_of fails from ks least ≤ least
  unfolding least_of
  pass-most [] least = le_refl least
  pass-most (k ∷ ks) least = omega (arith, pass-most ks (lesser_from (fails k) from k least), lesser-most (fails k) from k least)

  -- no key that fails is below the least
  pass_below : (ks : List ℕ) (least m : ℕ) → one_of ks m ≡ true → fails m ≡ true → from ≤ m → least_of fails from ks least ≤ m
  unfolding least_of one_of
  pass_below [] least m o f h = clash o refl
  pass_below (k ∷ ks) least m o f h = go (or-either (eqb m k) (one_of ks m) o) (λ p. pass_below ks (lesser_from (fails k) from k least) m p f h)
    where
      go : (eqb m k ≡ true) ⊎ (one_of ks m ≡ true) → (one_of ks m ≡ true → least_of fails from ks (lesser_from (fails k) from k least) ≤ m)
          → least_of fails from ks (lesser_from (fails k) from k least) ≤ m
      go (inl p) ih =
          let q : m ≡ k = eqb-true m k p in
          omega (arith, pass-most ks (lesser_from (fails k) from k least), lesser-below (fails k) from k least (ap fails (sym q) ∙ f) (omega arith))
      go (inr p) ih = ih p

  -- the least fails, or is the one found before
  pass-is : (ks : List ℕ) (least : ℕ) → (least_of fails from ks least ≡ least)
      ⊎ ((one_of ks (least_of fails from ks least) ≡ true) × (fails (least_of fails from ks least) ≡ true) × (from ≤ least_of fails from ks least))
  unfolding least_of one_of
  pass-is [] least = inl refl
  pass-is (k ∷ ks) least = go (least_of fails from ks (lesser_from (fails k) from k least)) refl (pass-is ks (lesser_from (fails k) from k least))
      (lesser-is (fails k) from k least)
    where
      go : (r : ℕ) → least_of fails from ks (lesser_from (fails k) from k least) ≡ r
          → (r ≡ lesser_from (fails k) from k least) ⊎ ((one_of ks r ≡ true) × (fails r ≡ true) × (from ≤ r))
          → (lesser_from (fails k) from k least ≡ least) ⊎ ((fails k ≡ true) × (from ≤ k) × (lesser_from (fails k) from k least ≡ k))
          → (r ≡ least) ⊎ (((eqb r k || one_of ks r) ≡ true) × (fails r ≡ true) × (from ≤ r))
      go r z (inr p) s = inr (or_right (eqb r k) p.0, p.1, p.2)
      go r z (inl p) (inl s) = inl (p ∙ s)
      go r z (inl p) (inr s) =
          let q : r ≡ k = p ∙ s.2 in
          inr (or_left (one_of ks r) (eq-eqb r k q), ap fails q ∙ s.0, omega (arith, s.1))

-- where no number passes there is none
first-never : (f : ℕ → Bool) (none n d : ℕ) → ((k : ℕ) → d ≤ k → k < d + n → f k ≡ false) → first_from f none n d ≡ none
first-never f none n d h = go (first_found f none n d)
  where
    go : (first_from f none n d ≡ none) ⊎ Found f n d (first_from f none n d) → first_from f none n d ≡ none
    go (inl e) = e
    go (inr w) = clash w.passes (h (first_from f none n d) w.from w.below)

-- ---- what differs

-- a key that is listed
keys-listed : (ms : List Maturity) (k : ℕ) → (right_of ms k).listed ≡ true → one_of (maturity_keys ms) k ≡ true
unfolding right_of one_of maturity_keys
keys-listed [] k e = clash e refl
keys-listed (m ∷ ms) k e = go (eqb m.key k) refl e (keys-listed ms k)
  where
    go : (b : Bool) → eqb m.key k ≡ b → (cond {A = Right} b (record { listed = true; maturity = m }) (right_of ms k)).listed ≡ true
        → ((right_of ms k).listed ≡ true → one_of (maturity_keys ms) k ≡ true) → (eqb k m.key || one_of (maturity_keys ms) k) ≡ true
    go true q e ih = or_left (one_of (maturity_keys ms) k) (eq-eqb k m.key (sym (eqb-true m.key k q)))
    go false q e ih = or_right (eqb k m.key) (ih e)

-- a key that is not listed has no maturity
pub right-not : (ms : List Maturity) (k : ℕ) → (right_of ms k).listed ≡ false → right_of ms k ≡ not_listed
unfolding right_of
right-not [] k e = refl
right-not (m ∷ ms) k e = go (eqb m.key k) e (right-not ms k)
  where
    go : (b : Bool) → (cond {A = Right} b (record { listed = true; maturity = m }) (right_of ms k)).listed ≡ false
        → ((right_of ms k).listed ≡ false → right_of ms k ≡ not_listed) → cond {A = Right} b (record { listed = true; maturity = m }) (right_of ms k) ≡ not_listed
    go true e ih = clash refl e
    go false e ih = ih e

-- a key that was delivered
keys-delivered : (rs : List DeliveredRow) (k : ℕ) → 1 ≤ times (row_entries rs) k → one_of (row_keys rs) k ≡ true
unfolding times one_of row_keys
keys-delivered [] k h = absurd (omega arith)
keys-delivered (r ∷ rs) k h = go (eqb r.key k) refl h (keys-delivered rs k)
  where
    go : (b : Bool) → eqb r.key k ≡ b → 1 ≤ cond b 1 0 + times (row_entries rs) k → (1 ≤ times (row_entries rs) k → one_of (row_keys rs) k ≡ true)
        → (eqb k r.key || one_of (row_keys rs) k) ≡ true
    go true q h ih = or_left (one_of (row_keys rs) k) (eq-eqb k r.key (sym (eqb-true r.key k q)))
    go false q h ih = or_right (eqb k r.key) (ih (omega arith))

delivered-keys : (rs : List DeliveredRow) (k : ℕ) → one_of (row_keys rs) k ≡ true → 1 ≤ times (row_entries rs) k
unfolding times one_of row_keys
delivered-keys [] k e = clash e refl
delivered-keys (r ∷ rs) k e = go (or-either (eqb k r.key) (one_of (row_keys rs) k) e) (delivered-keys rs k)
  where
    more : (b : Bool) → 1 ≤ times (row_entries rs) k → 1 ≤ cond b 1 0 + times (row_entries rs) k
    more true h = omega arith
    more false h = omega arith

    go : (eqb k r.key ≡ true) ⊎ (one_of (row_keys rs) k ≡ true) → (one_of (row_keys rs) k ≡ true → 1 ≤ times (row_entries rs) k)
        → 1 ≤ cond (eqb r.key k) 1 0 + times (row_entries rs) k
    go (inl p) ih = rw (eq-eqb r.key k (sym (eqb-true k r.key p))) (omega arith)
    go (inr p) ih = more (eqb r.key k) (ih p)

-- where no row has a key, the first row with it is no row
pub no-row : (rs : List DeliveredRow) (k : ℕ) → times (row_entries rs) k ≡ 0 → first_row rs k ≡ no_row
unfolding times first_row
no-row [] k e = refl
no-row (r ∷ rs) k e = go (eqb r.key k) e (no-row rs k)
  where
    go : (b : Bool) → cond b 1 0 + times (row_entries rs) k ≡ 0 → (times (row_entries rs) k ≡ 0 → first_row rs k ≡ no_row) → cond b r (first_row rs k) ≡ no_row
    go true e ih = absurd (omega arith)
    go false e ih = ih (omega arith)

module _ (listed : List Maturity) (rows : List DeliveredRow) where
  abbrev test : ℕ → Bool
  test = differs_in listed rows

  abbrev outside : ℕ → Bool
  outside = unlisted listed

  -- one that was delivered and is not listed differs
  extra-differs : (k : ℕ) → outside k ≡ true → 1 ≤ times (row_entries rows) k → differs_in listed rows k ≡ true
  unfolding differs_in why_of why_from unlisted
  extra-differs k u h = rw (not-true (right_of listed k).listed u, le-leb 1 (times (row_entries rows) k) h) refl

  -- one that is neither does not
  neither-differs : (k : ℕ) → outside k ≡ true → times (row_entries rows) k ≡ 0 → differs_in listed rows k ≡ false
  unfolding differs_in why_of why_from unlisted
  neither-differs k u z = rw (right-not listed k (not-true (right_of listed k).listed u), z, no-row rows k z) refl

  module _ (from : ℕ) where
    abbrev found : ℕ
    found = least_of (unlisted listed) from (row_keys rows) 65536

    abbrev least : ℕ
    least = least_of (differs_in listed rows) from (maturity_keys listed) found

    least-found : least ≤ found
    least-found = pass-most test from (maturity_keys listed) found

    found-most : found ≤ 65536
    found-most = pass-most outside from (row_keys rows) 65536

    -- none from the first key on and below it differs
    below-least : (m : ℕ) → from ≤ m → m < least → differs_in listed rows m ≡ false
    unfolding unlisted
    below-least m a h = go (right_of listed m).listed refl
      where
        out : (right_of listed m).listed ≡ false → (n : ℕ) → times (row_entries rows) m ≡ n → differs_in listed rows m ≡ false
        out e zero z = neither-differs m (ap not e) z
        out e (suc n) z =
            absurd (omega (arith, least-found, pass_below outside from (row_keys rows) 65536 m (keys-delivered rows m (omega arith)) (ap not e) a))

        go : (b : Bool) → (right_of listed m).listed ≡ b → differs_in listed rows m ≡ false
        go true e = is_false (differs_in listed rows m) (λ d. omega (arith, pass_below test from (maturity_keys listed) found m (keys-listed listed m e) d a))
        go false e = out e (times (row_entries rows) m) refl

    -- and it differs, where it is a key
    least-differs : (least ≡ found) ⊎ ((differs_in listed rows least ≡ true) × (from ≤ least))
    least-differs = go (pass-is test from (maturity_keys listed) found)
      where
        go : (least ≡ found) ⊎ ((one_of (maturity_keys listed) least ≡ true) × (differs_in listed rows least ≡ true) × (from ≤ least))
            → (least ≡ found) ⊎ ((differs_in listed rows least ≡ true) × (from ≤ least))
        go (inl p) = inl p
        go (inr p) = inr (p.1, p.2)

    found-differs : (found ≡ 65536) ⊎ ((differs_in listed rows found ≡ true) × (from ≤ found))
    found-differs = go (pass-is outside from (row_keys rows) 65536)
      where
        go : (found ≡ 65536) ⊎ ((one_of (row_keys rows) found ≡ true) × (unlisted listed found ≡ true) × (from ≤ found))
            → (found ≡ 65536) ⊎ ((differs_in listed rows found ≡ true) × (from ≤ found))
        go (inl p) = inl p
        go (inr p) = inr (extra-differs found p.1 (delivered-keys rows found p.0), p.2)

    some-differs : least < 65536 → (differs_in listed rows least ≡ true) × (from ≤ least)
    some-differs h = go least-differs found-differs
      where
        go : (least ≡ found) ⊎ ((differs_in listed rows least ≡ true) × (from ≤ least))
            → (found ≡ 65536) ⊎ ((differs_in listed rows found ≡ true) × (from ≤ found)) → (differs_in listed rows least ≡ true) × (from ≤ least)
        go (inr p) s = p
        go (inl p) (inl s) = absurd (omega arith)
        go (inl p) (inr s) = (ap (differs_in listed rows) p ∙ s.0, omega (arith, s.1))

    -- the least key after the two passes is the smallest one, from a key on, that differs
    pub passes-find : least ≡ next_difference listed rows from
    unfolding next_difference
    passes-find = go (lt-or-ge least 65536)
      where
        here : (differs_in listed rows least ≡ true) × (from ≤ least) → least < 65536 → least ≡ first_from (differs_in listed rows) 65536 (65536 - from) from
        here s h =
            let at : from + (least - from) ≡ least = omega (arith, s.1) in
            sym (first-is (differs_in listed rows) 65536 (65536 - from) from (least - from) (omega (arith, s.1))
            (λ i l. below-least (from + i) (omega arith) (omega (arith, s.1))) (ap (differs_in listed rows) at ∙ s.0) ∙ at)

        go : (least < 65536) ⊎ (65536 ≤ least) → least ≡ first_from (differs_in listed rows) 65536 (65536 - from) from
        go (inl h) = here (some-differs h) h
        go (inr h) =
            let e : least ≡ 65536 = omega (arith, least-found, found-most) in
            e ∙ sym (first-never (differs_in listed rows) 65536 (65536 - from) from (λ k a l. below-least k a (omega arith)))

-- ---- the keys of maturities

maturities-long : (ms : List Maturity) → length (maturity_keys ms) ≡ length ms
unfolding maturity_keys
maturities-long [] = refl
maturities-long (m ∷ ms) = ap suc (maturities-long ms)

maturity-key : (ms : List Maturity) (i : ℕ) → i < length ms → get_or (maturity_keys ms) i 0 ≡ (get_or ms i unused).key
unfolding maturity_keys
maturity-key [] i h = absurd (omega arith)
maturity-key (m ∷ ms) zero h = refl
maturity-key (m ∷ ms) (suc i) h = maturity-key ms i (omega arith)

module _ (a : List Maturity) (n : ℕ) (fits : n ≤ length a) where
  -- the keys of the first n maturities are n keys
  pub first-long : length (maturity_keys (take n a)) ≡ n
  first-long = maturities-long (take n a) ∙ length-take-le n a fits

  -- each key of the first n maturities is that of the maturity at its place
  pub first_key : (i : ℕ) → i < n → get_or (maturity_keys (take n a)) i 0 ≡ (get_or a i unused).key
  first_key i h = maturity-key (take n a) i (omega (arith, length-take-le n a fits)) ∙ ap (λ (m : Maturity). m.key) (get_or-take n a i unused h)

-- more than 15 of 15
pub up-to-15 : (a : List Maturity) (n r : ℕ) → length a ≡ 15 → r ≡ min n 15 → take r a ≡ take n a
up-to-15 a n r l e = rw e (go (lt-or-ge n 15))
  where
    go : (n < 15) ⊎ (15 ≤ n) → take (min n 15) a ≡ take n a
    go (inl h) =
        let q : min n 15 ≡ n = omega arith in
        rw q
    go (inr h) =
        let q : min n 15 ≡ 15 = omega arith in
        rw (q, take_all 15 a (omega arith), take_all n a (omega arith))
