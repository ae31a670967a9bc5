-- With any order of a listing's own rows nothing is found: how often a key stands and whether every row agrees with the listing do not depend on the order.
-- Assumes nothing.
use Prim.Native.Nat.{ℕ, ◌+◌, ◌≤◌}
use mathlib.Core.Path.{◌≡◌, refl, ◌∙◌, sym, ap}
use mathlib.Core.Bool.{Bool, true, false, not, ◌&&◌, ◌||◌, cond}
use mathlib.Core.List.{List, [], ◌∷◌, map}
use native.Mathlib.Omega.{arith}
use lib.Dec.{eqb, leb}
use lib.ListN.{length}
use borrow.Author.Tests.{eqb-true, eq-eqb, leb-true, leb-false}
use Rattle.questions.proofs.Bools.{clash, both, and_both}
use Rattle.listing.specs.declared.Maturity.{Maturity}
use Rattle.table.specs.declared.Table.{Table}
use Rattle.table.specs.Table.{listed_in, sound}
use Rattle.table_vendor.specs.Vendor.{vendor_entry_of, times}
use Rattle.table_vendor.proofs.FreshEntries.{listed-once}
use Rattle.delivery_differences.specs.declared.Why.TheVariants.{Same}
use Rattle.delivery_differences.specs.declared.DeliveredRow.{DeliveredRow}
use Rattle.delivery_differences.specs.Differences.{Right, row_entries, first_row, right_of, why_from, why_of, AnyOrder, empty, kept, swapped, again, own_row}
use Rattle.delivery_differences.specs.Differences.{NothingFound}
use Rattle.delivery_differences.proofs.DifferencePasses.{right-not, no-row}
use Rattle.delivery_differences.proofs.Note12.{right-times}

-- a row says what the listing says
unfoldable agrees : List Maturity → DeliveredRow → Bool
agrees listed r =
    eqb (right_of listed r.key).maturity.day r.day
    && ((not r.full || eqb (right_of listed r.key).maturity.number r.number)
    && (not r.full || eqb (right_of listed r.key).maturity.back r.back))

unfoldable all_agree : List Maturity → List DeliveredRow → Bool
all_agree listed [] = true
all_agree listed (r ∷ rs) = agrees listed r && all_agree listed rs

-- ---- in any order

and-swap : (a b c : Bool) → (a && (b && c)) ≡ (b && (a && c))
and-swap true true c = refl
and-swap true false c = refl
and-swap false true c = refl
and-swap false false c = refl

order-agrees : (listed : List Maturity) {xs ys : List DeliveredRow} → AnyOrder xs ys → all_agree listed xs ≡ all_agree listed ys
unfolding all_agree
order-agrees listed empty = refl
order-agrees listed (kept {x = x} o) = ap (λ (b : Bool). agrees listed x && b) (order-agrees listed o)
order-agrees listed (swapped {x = x} {y = y} {xs = xs}) = and-swap (agrees listed x) (agrees listed y) (all_agree listed xs)
order-agrees listed (again o p) = order-agrees listed o ∙ order-agrees listed p

order-times : (k : ℕ) {xs ys : List DeliveredRow} → AnyOrder xs ys → times (row_entries xs) k ≡ times (row_entries ys) k
unfolding times
order-times k empty = refl
order-times k (kept {x = x} o) = ap (λ (n : ℕ). cond (eqb x.key k) 1 0 + n) (order-times k o)
order-times k (swapped {x = x} {y = y} {xs = xs}) = omega arith
order-times k (again o p) = order-times k o ∙ order-times k p

-- ---- the listing's own rows

own-times : (full : Bool) (ms : List Maturity) (k : ℕ) → times (row_entries (map (own_row full) ms)) k ≡ times (map vendor_entry_of ms) k
unfolding times
own-times full [] k = refl
own-times true (m ∷ ms) k = ap (λ (n : ℕ). cond (eqb m.key k) 1 0 + n) (own-times true ms k)
own-times false (m ∷ ms) k = ap (λ (n : ℕ). cond (eqb m.key k) 1 0 + n) (own-times false ms k)

right-first : (m : Maturity) (ms : List Maturity) → right_of (m ∷ ms) m.key ≡ record { listed = true; maturity = m }
unfolding right_of
right-first m ms = rw (eq-eqb m.key m.key refl) refl

own-agrees : (full : Bool) (listed : List Maturity) (m : Maturity) → right_of listed m.key ≡ record { listed = true; maturity = m }
    → agrees listed (own_row full m) ≡ true
unfolding agrees
own-agrees true listed m e = rw (e, eq-eqb m.day m.day refl, eq-eqb m.number m.number refl, eq-eqb m.back m.back refl) refl
own-agrees false listed m e = rw (e, eq-eqb m.day m.day refl) refl

-- a key that stands later in a listing stands there only
later : (m : Maturity) (ms : List Maturity) (k : ℕ) → times (map vendor_entry_of (m ∷ ms)) k ≤ 1 → (right_of ms k).listed ≡ true → right_of (m ∷ ms) k ≡ right_of ms k
unfolding right_of times
later m ms k h e = go (eqb m.key k) h
  where
    there : (b : Bool) → leb 1 (times (map vendor_entry_of ms) k) ≡ b → b ≡ true → 1 ≤ times (map vendor_entry_of ms) k
    there true q s = leb-true 1 (times (map vendor_entry_of ms) k) q
    there false q s = clash s refl

    go : (b : Bool) → cond b 1 0 + times (map vendor_entry_of ms) k ≤ 1
        → cond {A = Right} b (record { listed = true; maturity = m }) (right_of ms k) ≡ right_of ms k
    go true h = absurd (omega (arith, there (leb 1 (times (map vendor_entry_of ms) k)) refl (sym (right-times ms k) ∙ e)))
    go false h = refl

fewer : (b : Bool) (n : ℕ) → cond b 1 0 + n ≤ 1 → n ≤ 1
fewer true n h = omega arith
fewer false n h = omega arith

times-tail : (m : Maturity) (ms : List Maturity) (k : ℕ) → times (map vendor_entry_of (m ∷ ms)) k ≤ 1 → times (map vendor_entry_of ms) k ≤ 1
unfolding times
times-tail m ms k h = fewer (eqb m.key k) (times (map vendor_entry_of ms) k) h

right-later : (m : Maturity) (ms : List Maturity) (k : ℕ) → (right_of ms k).listed ≡ true → (right_of (m ∷ ms) k).listed ≡ true
unfolding right_of
right-later m ms k e = go (eqb m.key k)
  where
    go : (b : Bool) → (cond {A = Right} b (record { listed = true; maturity = m }) (right_of ms k)).listed ≡ true
    go true = refl
    go false = e

own-all : (full : Bool) (listed ms : List Maturity) → ((k : ℕ) → times (map vendor_entry_of ms) k ≤ 1)
    → ((k : ℕ) → (right_of ms k).listed ≡ true → right_of listed k ≡ right_of ms k) → all_agree listed (map (own_row full) ms) ≡ true
unfolding all_agree
own-all full listed [] once in-it = refl
own-all full listed (m ∷ ms) once in-it =
    and_both (own-agrees full listed m (in-it m.key (ap (λ (r : Right). r.listed) (right-first m ms)) ∙ right-first m ms))
    (own-all full listed ms (λ k. times-tail m ms k (once k)) (λ k e. in-it k (right-later m ms k e) ∙ later m ms k (once k) e))

-- ---- rows that agree

first-agrees : (listed : List Maturity) (rs : List DeliveredRow) (k : ℕ) → all_agree listed rs ≡ true → 1 ≤ times (row_entries rs) k
    → (agrees listed (first_row rs k) ≡ true) × ((first_row rs k).key ≡ k)
unfolding all_agree first_row times
first-agrees listed [] k a h = absurd (omega arith)
first-agrees listed (r ∷ rs) k a h = go (eqb r.key k) refl h (both (agrees listed r) (all_agree listed rs) a) (first-agrees listed rs k)
  where
    go : (b : Bool) → eqb r.key k ≡ b → 1 ≤ cond b 1 0 + times (row_entries rs) k → (agrees listed r ≡ true) × (all_agree listed rs ≡ true)
        → (all_agree listed rs ≡ true → 1 ≤ times (row_entries rs) k → (agrees listed (first_row rs k) ≡ true) × ((first_row rs k).key ≡ k))
        → (agrees listed (cond b r (first_row rs k)) ≡ true) × ((cond b r (first_row rs k)).key ≡ k)
    go true q h p ih = (p.0, eqb-true r.key k q)
    go false q h p ih = ih p.1 (omega arith)

six : (f a b c : Bool) → (a && ((not f || b) && (not f || c))) ≡ true → (not a ≡ false) × ((f && not b) ≡ false) × ((f && not c) ≡ false)
six f false b c e = clash e refl
six false true b c e = (refl, refl, refl)
six true true false c e = clash e refl
six true true true false e = clash e refl
six true true true true e = (refl, refl, refl)

agreed : (listed : List Maturity) (k : ℕ) (row : DeliveredRow) → (right_of listed k).listed ≡ true → row.key ≡ k → agrees listed row ≡ true
    → why_from (right_of listed k) 1 row ≡ Same
unfolding why_from agrees
agreed listed k row l q a =
    let s = six row.full (eqb (right_of listed k).maturity.day row.day) (eqb (right_of listed k).maturity.number row.number)
    (eqb (right_of listed k).maturity.back row.back) (rw q at a) in
    rw (l, s.0, s.1, s.2) refl

nothing-there : (listed : List Maturity) (rows : List DeliveredRow) (k : ℕ) → (right_of listed k).listed ≡ false → times (row_entries rows) k ≡ 0
    → why_of listed rows k ≡ Same
unfolding why_of why_from
nothing-there listed rows k l z = rw (right-not listed k l, z, no-row rows k z) refl

why-one : (listed : List Maturity) (rows : List DeliveredRow) (k : ℕ) → times (row_entries rows) k ≡ 1
    → why_of listed rows k ≡ why_from (right_of listed k) 1 (first_row rows k)
unfolding why_of
why-one listed rows k n = rw n refl

module _ (listed : List Maturity) (once : (k : ℕ) → times (map vendor_entry_of listed) k ≤ 1) (full : Bool) (rows : List DeliveredRow)
    (o : AnyOrder (map (own_row full) listed) rows) where
  rows_agree : all_agree listed rows ≡ true
  rows_agree = sym (order-agrees listed o) ∙ own-all full listed listed once (λ k e. refl)

  rows-times : (k : ℕ) → times (row_entries rows) k ≡ times (map vendor_entry_of listed) k
  rows-times k = sym (order-times k o) ∙ own-times full listed k

  -- with a listing's own rows in any order, where each key is listed at most once, nothing is found
  pub own-rows : NothingFound listed rows
  own-rows = record { same = λ k. go k (right_of listed k).listed refl }
    where
      some : (k : ℕ) → (b : Bool) → leb 1 (times (map vendor_entry_of listed) k) ≡ b → b ≡ true → times (row_entries rows) k ≡ 1
      some k true q s = omega (arith, leb-true 1 (times (map vendor_entry_of listed) k) q, once k, rows-times k)
      some k false q s = clash s refl

      none : (k : ℕ) → (b : Bool) → leb 1 (times (map vendor_entry_of listed) k) ≡ b → b ≡ false → times (row_entries rows) k ≡ 0
      none k false q s = omega (arith, leb-false 1 (times (map vendor_entry_of listed) k) q, rows-times k)
      none k true q s = clash refl s

      go : (k : ℕ) (b : Bool) → (right_of listed k).listed ≡ b → why_of listed rows k ≡ Same
      go k true e =
          let n : times (row_entries rows) k ≡ 1 = some k (leb 1 (times (map vendor_entry_of listed) k)) refl (sym (right-times listed k) ∙ e) in
          let w = first-agrees listed rows k rows_agree (omega arith) in
          why-one listed rows k n ∙ agreed listed k (first_row rows k) e w.1 w.0
      go k false e = nothing-there listed rows k e (none k (leb 1 (times (map vendor_entry_of listed) k)) refl (sym (right-times listed k) ∙ e))

-- a sound table's own rows
pub own-table : (t : Table) → sound t ≡ true → length t.maturities ≡ 15 → (full : Bool) (rows : List DeliveredRow)
    → AnyOrder (map (own_row full) (listed_in t)) rows → NothingFound (listed_in t) rows
own-table t e long full rows o = own-rows (listed_in t) (listed-once t e long) full rows o
