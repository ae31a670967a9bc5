-- Where a key stands in a list, and what that says of rows and maturities: the code finds the first place, the definitions count and pick.
-- Assumes nothing.
use Prim.Native.Nat.{ℕ, zero, suc, ◌+◌, ◌≤◌, ◌<◌}
use mathlib.Core.Path.{◌≡◌, refl, ◌∙◌, sym, ap}
use mathlib.Core.Bool.{Bool, true, false, cond}
use mathlib.Core.Logic.{◌⊎◌, inl, inr}
use mathlib.Core.List.{List, [], ◌∷◌}
use native.Mathlib.Numerals.{add-one}
use native.Mathlib.Nat.{zero-add}
use native.Mathlib.Omega.{arith}
use lib.Dec.{eqb, leb, ltb}
use lib.ListN.{length, get_or, drop, get_or-eq_default}
use borrow.Author.Tests.{ne_eqb, le-leb, lt-leb, lt-ltb, ltb-true}
use Rattle.std.specs.Prelude.{Option, Some, None}
use Rattle.std.specs.Option.{is_some, IfSome}
use Rattle.std.specs.List.{find, position_or_len}
use Rattle.std.proofs.lemmas.Bool.{false≢true}
use Rattle.std.proofs.lemmas.Option.{none-some, cond_some}
use Rattle.std.proofs.lemmas.List.Recursion.{is_position_or_len}
use Rattle.questions.proofs.Bools.{lt-or-ge}
use Rattle.listing.specs.declared.Maturity.{Maturity}
use Rattle.table_vendor.specs.Vendor.{times}
use Rattle.delivery_differences.specs.declared.DeliveredRow.{DeliveredRow}
use Rattle.delivery_differences.specs.declared.Why.TheVariants.{Same, Missing, Extra}
use Rattle.delivery_differences.specs.Differences.{Right, no_row, row_entries, first_row, not_listed, right_of, why_from, row_at, rows_at}
use Rattle.delivery_differences.specs.DifferencePasses.{row_keys_at, index_in, found_in, right_found, up_to_two}

-- ---- where a key stands

-- a key that stands in no place of a list
pub place-none : (k : ℕ) (ks : List ℕ) → found_in k ks ≡ None → length ks ≤ index_in k ks
unfolding found_in
place-none k ks e = go (lt-or-ge (index_in k ks) (length ks))
  where
    go : (index_in k ks < length ks) ⊎ (length ks ≤ index_in k ks) → length ks ≤ index_in k ks
    go (inl l) = absurd (none-some (index_in k ks) (sym (rw (lt-ltb (index_in k ks) (length ks) l) at e)))
    go (inr l) = l

-- one that stands in a place
pub place-some : (k i : ℕ) (ks : List ℕ) → found_in k ks ≡ Some i → (i ≡ index_in k ks) × (i < length ks)
unfolding found_in
place-some k i ks e =
    let (l, q) = cond_some (ltb (index_in k ks) (length ks)) (index_in k ks) i e in
    (sym q, rw q at (ltb-true (index_in k ks) (length ks) l))

-- ---- the rows at some places

-- the keys of the rows at some places are as many as the places
pub keys-long : (keys places : List ℕ) → length (row_keys_at keys places) ≡ length places
unfolding row_keys_at
keys-long keys [] = refl
keys-long keys (i ∷ places) = ap suc (keys-long keys places)

-- each key of the rows at some places is that of the row at its place
pub key-of : (keys places : List ℕ) (j : ℕ) → j < length places → get_or (row_keys_at keys places) j 0 ≡ get_or keys (get_or places j 0) 0
unfolding row_keys_at
key-of keys [] j h = absurd (omega arith)
key-of keys (i ∷ places) zero h = refl
key-of keys (i ∷ places) (suc j) h = key-of keys places j (omega arith)

-- in no places no key stands
no-index : (keys : List ℕ) (k : ℕ) → index_in k (row_keys_at keys []) ≡ 0
unfolding index_in row_keys_at
no-index keys k = refl

-- a key stands in the first place or in those after it
next-index : (keys : List ℕ) (k x : ℕ) (xs : List ℕ)
    → index_in k (row_keys_at keys (x ∷ xs)) ≡ cond (eqb (get_or keys x 0) k) 0 (1 + index_in k (row_keys_at keys xs))
unfolding index_in row_keys_at
next-index keys k x xs = ap (cond (eqb (get_or keys x 0) k) 0) (omega arith)

-- the first place whose row has a key, by the test of each place, is where the key stands among the keys
pub place-found : (keys : List ℕ) (k : ℕ) (places : List ℕ)
    → cond (ltb (position_or_len (λ (i : ℕ). eqb (get_or keys i 0) k) places) (length places)) (Some (position_or_len (λ (i : ℕ). eqb (get_or keys i 0) k) places)) None
    ≡ found_in k (row_keys_at keys places)
unfolding found_in
place-found keys k places =
    rw (← is_position_or_len (λ (ps : List ℕ). index_in k (row_keys_at keys ps)) (λ (i : ℕ). eqb (get_or keys i 0) k) none more places, keys-long keys places) refl
  where
    none : index_in k (row_keys_at keys []) ≡ 0
    none = no-index keys k

    more : (x : ℕ) (xs : List ℕ) → index_in k (row_keys_at keys (x ∷ xs)) ≡ cond (eqb (get_or keys x 0) k) 0 (1 + index_in k (row_keys_at keys xs))
    more x xs = next-index keys k x xs

-- and it is one of the places
pub place-within : (keys : List ℕ) (k : ℕ) (places : List ℕ) (o : Option ℕ) → o ≡ found_in k (row_keys_at keys places) → IfSome o (λ (i : ℕ). i < length places)
place-within keys k places None e = tt
place-within keys k places (Some i) e = omega (arith, place-some k i (row_keys_at keys places) (sym e), keys-long keys places)

-- ---- a row as it stands among the rows

-- the keys of rows
unfoldable pub row_keys : List DeliveredRow → List ℕ
row_keys [] = []
row_keys (r ∷ rs) = r.key ∷ row_keys rs

-- the first row with a key stands where the key first stands
pub first-at : (rs : List DeliveredRow) (k : ℕ) → get_or rs (index_in k (row_keys rs)) no_row ≡ first_row rs k
unfolding first_row index_in row_keys
first-at [] k = refl
first-at (r ∷ rs) k = go (eqb r.key k) (first-at rs k)
  where
    go : (b : Bool) → get_or rs (index_in k (row_keys rs)) no_row ≡ first_row rs k
        → get_or (r ∷ rs) (cond b 0 (suc (index_in k (row_keys rs)))) no_row ≡ cond b r (first_row rs k)
    go true e = refl
    go false e = e

-- a key that does not stand
pub stands-not : (rs : List DeliveredRow) (k : ℕ) → length rs ≤ index_in k (row_keys rs) → times (row_entries rs) k ≡ 0
unfolding times index_in row_keys
stands-not [] k h = refl
stands-not (r ∷ rs) k h = go (eqb r.key k) h (stands-not rs k)
  where
    go : (b : Bool) → suc (length rs) ≤ cond b 0 (suc (index_in k (row_keys rs))) → (length rs ≤ index_in k (row_keys rs) → times (row_entries rs) k ≡ 0)
        → cond b 1 0 + times (row_entries rs) k ≡ 0
    go true h ih = absurd (omega arith)
    go false h ih = omega (arith, ih (omega arith))

-- one that stands: once, and as often as in the rows after its first
pub stands-more : (rs : List DeliveredRow) (k : ℕ) → index_in k (row_keys rs) < length rs
    → times (row_entries rs) k ≡ 1 + times (row_entries (drop (index_in k (row_keys rs) + 1) rs)) k
unfolding times index_in row_keys
stands-more [] k h = absurd (omega arith)
stands-more (r ∷ rs) k h = go (eqb r.key k) h (stands-more rs k)
  where
    go : (b : Bool) → cond b 0 (suc (index_in k (row_keys rs))) < suc (length rs)
        → (index_in k (row_keys rs) < length rs → times (row_entries rs) k ≡ 1 + times (row_entries (drop (index_in k (row_keys rs) + 1) rs)) k)
        → cond b 1 0 + times (row_entries rs) k ≡ 1 + times (row_entries (drop (cond b 0 (suc (index_in k (row_keys rs))) + 1) (r ∷ rs))) k
    go true h ih = refl
    go false h ih =
        let e : times (row_entries rs) k ≡ 1 + times (row_entries (drop (index_in k (row_keys rs) + 1) rs)) k = ih (omega arith) in
        rw (add-one (suc (index_in k (row_keys rs)))) (zero-add (times (row_entries rs) k) ∙ rw (add-one (index_in k (row_keys rs))) at e)

stands-some : (rs : List DeliveredRow) (k : ℕ) → index_in k (row_keys rs) < length rs → 1 ≤ times (row_entries rs) k
stands-some rs k h = omega (arith, stands-more rs k h)

-- ---- of the rows at some places

module _ (keys days fulls numbers backs : List ℕ) where
  -- the keys of the rows of five lists at some places are those of the list of keys
  pub places-keys : (places : List ℕ) → row_keys (rows_at keys days fulls numbers backs places) ≡ row_keys_at keys places
  unfolding rows_at row_keys row_keys_at
  places-keys [] = refl
  places-keys (i ∷ places) = ap (λ (ks : List ℕ). get_or keys i 0 ∷ ks) (places-keys places)

  places-long : (places : List ℕ) → length (rows_at keys days fulls numbers backs places) ≡ length places
  unfolding rows_at
  places-long [] = refl
  places-long (i ∷ places) = ap suc (places-long places)

  places-at : (places : List ℕ) (j : ℕ) → j < length places
      → get_or (rows_at keys days fulls numbers backs places) j no_row ≡ row_at keys days fulls numbers backs (get_or places j 0)
  unfolding rows_at
  places-at [] j h = absurd (omega arith)
  places-at (i ∷ places) zero h = refl
  places-at (i ∷ places) (suc j) h = places-at places j (omega arith)

  places-drop : (places : List ℕ) (j : ℕ) → drop j (rows_at keys days fulls numbers backs places) ≡ rows_at keys days fulls numbers backs (drop j places)
  unfolding rows_at
  places-drop [] zero = refl
  places-drop [] (suc j) = refl
  places-drop (i ∷ places) zero = refl
  places-drop (i ∷ places) (suc j) = places-drop places j

  module _ (places : List ℕ) (k : ℕ) where
    abbrev rows : List DeliveredRow
    rows = rows_at keys days fulls numbers backs places

    index-of : index_in k (row_keys_at keys places) ≡ index_in k (row_keys rows)
    index-of = ap (index_in k) (sym (places-keys places))

    -- no row has the key
    pub none-stands : found_in k (row_keys_at keys places) ≡ None → (0 ≡ up_to_two (times (row_entries rows) k)) × (no_row ≡ first_row rows k)
    unfolding up_to_two
    none-stands e =
        let n : length rows ≤ index_in k (row_keys rows) =
        omega (arith, place-none k (row_keys_at keys places) e, index-of, places-long places, keys-long keys places) in
        let z : times (row_entries rows) k ≡ 0 = stands-not rows k n in
        (rw z refl, sym (get_or-eq_default rows no_row n) ∙ first-at rows k)

    module _ (first : ℕ) (e : found_in k (row_keys_at keys places) ≡ Some first) where
      -- the first row that has it is at a place
      pub first-within : first < length places
      first-within = omega (arith, place-some k first (row_keys_at keys places) e, keys-long keys places)

      at_first : first ≡ index_in k (row_keys rows)
      at_first = (place-some k first (row_keys_at keys places) e).0 ∙ index-of

      -- the first row that has it
      pub row_is : row_at keys days fulls numbers backs (get_or places first 0) ≡ first_row rows k
      row_is = sym (places-at places first first-within) ∙ ap (λ (i : ℕ). get_or rows i no_row) at_first ∙ first-at rows k

      after : times (row_entries rows) k ≡ 1 + times (row_entries (rows_at keys days fulls numbers backs (drop (first + 1) places))) k
      after =
          stands-more rows k (omega (arith, at_first, first-within, places-long places))
          ∙ ap (λ (i : ℕ). 1 + times (row_entries (drop (i + 1) rows)) k) (sym at_first)
          ∙ ap (λ (rs : List DeliveredRow). 1 + times (row_entries rs) k) (places-drop places (first + 1))

  -- the key stands again in the rows after its first, or not
  pub counted : (places : List ℕ) (k first : ℕ) → found_in k (row_keys_at keys places) ≡ Some first
      → (o : Option ℕ) → o ≡ found_in k (row_keys_at keys (drop (first + 1) places))
      → cond (is_some o) 2 1 ≡ up_to_two (times (row_entries (rows_at keys days fulls numbers backs places)) k)
  unfolding up_to_two
  counted places k first e None q =
      let rest : List ℕ = drop (first + 1) places in
      let z : times (row_entries (rows_at keys days fulls numbers backs rest)) k ≡ 0 = stands-not (rows_at keys days fulls numbers backs rest) k
      (omega (arith, place-none k (row_keys_at keys rest) (sym q), index-of rest k, places-long rest, keys-long keys rest)) in
      let o : times (row_entries (rows_at keys days fulls numbers backs places)) k ≡ 1 = omega (arith, after places k first e) in
      rw o refl
  counted places k first e (Some second) q =
      let rest : List ℕ = drop (first + 1) places in
      let z : 1 ≤ times (row_entries (rows_at keys days fulls numbers backs rest)) k = stands-some (rows_at keys days fulls numbers backs rest) k
      (omega (arith, place-some k second (row_keys_at keys rest) (sym q), index-of rest k, places-long rest, keys-long keys rest)) in
      sym (rw (le-leb 2 (times (row_entries (rows_at keys days fulls numbers backs places)) k) (omega (arith, after places k first e))) refl)

-- ---- how often, up to 2, is all that is asked

many : (right : Right) (n : ℕ) (row : DeliveredRow) → 2 ≤ n → why_from right 2 row ≡ why_from right n row
unfolding why_from
many right n row h = sym (rw (le-leb 2 n h, le-leb 1 n (omega arith), ne_eqb n 0 (λ e. omega arith)) refl)

-- why a key differs stays the same where more than two rows with it count as two
pub up-to-two : (right : Right) (n : ℕ) (row : DeliveredRow) → why_from right (up_to_two n) row ≡ why_from right n row
unfolding up_to_two
up-to-two right n row = go (lt-or-ge n 2)
  where
    go : (n < 2) ⊎ (2 ≤ n) → why_from right (cond (leb 2 n) 2 n) row ≡ why_from right n row
    go (inl l) = rw (lt-leb 2 n l) refl
    go (inr l) = rw (le-leb 2 n l) (many right n row l)

-- ---- the maturity with a key

-- the first maturity that has the key is the one that is right
pub right-found : (ms : List Maturity) (k : ℕ) → right_found (find (λ (m : Maturity). eqb m.key k) ms) ≡ right_of ms k
unfolding right_of
right-found [] k = refl
right-found (m ∷ ms) k = go (eqb m.key k) (right-found ms k)
  where
    go : (b : Bool) → right_found (find (λ (m : Maturity). eqb m.key k) ms) ≡ right_of ms k
        → right_found (cond b (Some m) (find (λ (m : Maturity). eqb m.key k) ms)) ≡ cond b (record { listed = true; maturity = m }) (right_of ms k)
    go true e = refl
    go false e = e

-- a maturity is listed where one is right
pub listed-is : (o : Option Maturity) → (right_found o).listed ≡ is_some o
listed-is None = refl
listed-is (Some m) = refl

-- ---- why a key differs that was not delivered, or is not listed

-- a listed key that was not delivered is missing
pub why-missing : (right : Option Maturity) → is_some right ≡ true → Missing ≡ why_from (right_found right) 0 no_row
unfolding why_from
why-missing None e = absurd (false≢true e)
why-missing (Some m) e = refl

-- one that is not listed and was not delivered does not differ
pub why-same : (right : Option Maturity) → is_some right ≡ false → Same ≡ why_from (right_found right) 0 no_row
unfolding why_from
why-same None e = refl
why-same (Some m) e = absurd (false≢true (sym e))

-- one that was delivered and is not listed is extra
pub why-extra : (again : Bool) (row : DeliveredRow) → Extra ≡ why_from not_listed (cond again 2 1) row
unfolding why_from
why-extra true row = refl
why-extra false row = refl
