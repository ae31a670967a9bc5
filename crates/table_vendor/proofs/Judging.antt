-- A list gets yes exactly when it is the fresh listing in another order; a no names the smallest key that differs.
-- Assumes nothing.
use Prim.Native.Nat.{ℕ, zero, suc, ◌+◌, ◌≤◌, ◌<◌}
use mathlib.Core.Path.{◌≡◌, refl, ◌∙◌, sym, ap}
use mathlib.Core.Bool.{Bool, true, false, not, ◌&&◌, ◌||◌, cond}
use mathlib.Core.Logic.{◌⊎◌, inl, inr}
use mathlib.Core.List.{List, [], ◌∷◌}
use native.Mathlib.Nat.{le_refl, zero-add}
use native.Mathlib.Omega.{arith}
use lib.Dec.{eqb, leb}
use borrow.Author.Tests.{eqb-true, eqb-false, eq-eqb, ne_eqb, le-leb}
use Rattle.questions.specs.Search.{first_from}
use Rattle.listing.proofs.Lawful.{Found, first_found, first-least}
use Rattle.questions.proofs.Bools.{clash, and_both, or_left, or_right, is_false, lt-or-ge}
use Rattle.table_vendor.specs.Vendor.{VendorEntry, times, times_with, vendor_day_in, differs, smallest, Judgement, judgement, Reordered, Short, Judged}

-- how often a key stands, by its days
with-most : (es : List VendorEntry) (m d : ℕ) → times_with es m d ≤ times es m
unfolding times times_with
with-most [] m d = le_refl 0
with-most (e ∷ es) m d = go (eqb e.key m) (eqb e.day d) (with-most es m d)
  where
    go : (a b : Bool) → times_with es m d ≤ times es m → cond (a && b) 1 0 + times_with es m d ≤ cond a 1 0 + times es m
    go true true h = omega arith
    go true false h = omega arith
    go false b h = omega arith

-- a key that stands once stands with its day
with-day : (es : List VendorEntry) (m d : ℕ) → times es m ≡ 1 → times_with es m d ≡ cond (eqb (vendor_day_in es m) d) 1 0
unfolding times times_with vendor_day_in
with-day [] m d e = absurd (omega arith)
with-day (x ∷ es) m d e = go (eqb x.key m) e (λ z. with-day es m d z)
  where
    alone : (b : Bool) → times es m ≡ 0 → cond b 1 0 + times_with es m d ≡ cond b 1 0
    alone b z = let w : times_with es m d ≡ 0 = omega (arith, with-most es m d) in rw w (omega arith)

    go : (a : Bool) → cond a 1 0 + times es m ≡ 1 → (times es m ≡ 1 → times_with es m d ≡ cond (eqb (vendor_day_in es m) d) 1 0)
        → cond (a && eqb x.day d) 1 0 + times_with es m d ≡ cond (eqb (cond a x.day (vendor_day_in es m)) d) 1 0
    go true z ih = alone (eqb x.day d) (omega arith)
    go false z ih = rw (zero-add (times_with es m d)) (ih (omega arith))

more : (b : Bool) (n : ℕ) → 1 ≤ n → 1 ≤ cond b 1 0 + n
more true n h = omega arith
more false n h = omega arith

-- a key that stands, stands with some day
record Standing (es : List VendorEntry) (m : ℕ) : Type 0 where
  day : ℕ
  there : 1 ≤ times_with es m day

standing : (es : List VendorEntry) (m : ℕ) → 1 ≤ times es m → Standing es m
unfolding times times_with
standing [] m h = absurd (omega arith)
standing (x ∷ es) m h = go (eqb x.key m) refl h (λ l. standing es m l)
  where
    go : (a : Bool) → eqb x.key m ≡ a → 1 ≤ cond a 1 0 + times es m → (1 ≤ times es m → Standing es m) → Standing (x ∷ es) m
    go true e l ih = record { day = x.day; there = rw (e, eq-eqb x.day x.day refl) (omega arith) }
    go false e l ih =
        let w = ih (omega arith) in
        record { day = w.day; there = more (eqb x.key m && eqb x.day w.day) (times_with es m w.day) w.there }

-- a key that stands with no other day
only-day : (es : List VendorEntry) (m d : ℕ) → ((o : ℕ) → (o ≡ d → ⊥) → times_with es m o ≡ 0) → times es m ≡ times_with es m d
unfolding times times_with
only-day [] m d h = refl
only-day (x ∷ es) m d h = go (eqb x.key m) refl (eqb x.day d) refl (only-day es m d (λ o n. rest o n (h o n)))
  where
    rest : (o : ℕ) → (o ≡ d → ⊥) → cond (eqb x.key m && eqb x.day o) 1 0 + times_with es m o ≡ 0 → times_with es m o ≡ 0
    rest o n e = omega arith

    there : eqb x.key m ≡ true → cond (eqb x.key m && eqb x.day x.day) 1 0 + times_with es m x.day ≡ 0 → ⊥
    there e z = less (rw (e, eq-eqb x.day x.day refl) at z)
      where
        less : 1 + times_with es m x.day ≡ 0 → ⊥
        less z = omega arith

    go : (a : Bool) → eqb x.key m ≡ a → (b : Bool) → eqb x.day d ≡ b → times es m ≡ times_with es m d
        → cond a 1 0 + times es m ≡ cond (a && b) 1 0 + times_with es m d
    go true e true q ih = ap (λ (n : ℕ). 1 + n) ih
    go true e false q ih = absurd (there e (h x.day (eqb-false _ _ q)))
    go false e b q ih = ap (λ (n : ℕ). 0 + n) ih

-- one that does not stand has day 0
pub no-day : (es : List VendorEntry) (m : ℕ) → times es m ≡ 0 → vendor_day_in es m ≡ 0
unfolding times vendor_day_in
no-day [] m e = refl
no-day (x ∷ es) m e = go (eqb x.key m) e (no-day es m)
  where
    go : (a : Bool) → cond a 1 0 + times es m ≡ 0 → (times es m ≡ 0 → vendor_day_in es m ≡ 0) → cond a x.day (vendor_day_in es m) ≡ 0
    go true z ih = absurd (omega arith)
    go false z ih = ih (omega arith)

module _ (fresh list : List VendorEntry) (once : (m : ℕ) → times fresh m ≤ 1) where
  -- a key that does not differ
  pub data Alike (m : ℕ) : Type 0 where
    neither : times fresh m ≡ 0 → times list m ≡ 0 → Alike m
    both-once : times fresh m ≡ 1 → times list m ≡ 1 → vendor_day_in fresh m ≡ vendor_day_in list m → Alike m

  -- a key that does not differ stands in neither list, or once in both with the same day
  pub alike : (m : ℕ) → differs fresh list m ≡ false → Alike m
  unfolding differs
  alike m e = go (times fresh m) refl (times list m) refl (once m)
    where
      day : (vendor_day_in fresh m ≡ vendor_day_in list m → ⊥) → ⊥
      day n =
          clash (or_right (leb 1 (times fresh m) && eqb (times list m) 0 || eqb (times fresh m) 0 && leb 1 (times list m))
          (or_left (leb 2 (times list m)) (ap not (ne_eqb (vendor_day_in fresh m) (vendor_day_in list m) n)))) e

      same : (b : Bool) → eqb (vendor_day_in fresh m) (vendor_day_in list m) ≡ b → vendor_day_in fresh m ≡ vendor_day_in list m
      same true q = eqb-true _ _ q
      same false q = absurd (day (eqb-false _ _ q))

      go : (a : ℕ) → times fresh m ≡ a → (b : ℕ) → times list m ≡ b → times fresh m ≤ 1 → Alike m
      go zero p zero q o = neither p q
      go zero p (suc b) q o =
          clash (or_left (not (eqb (vendor_day_in fresh m) (vendor_day_in list m)) || leb 2 (times list m))
          (or_right (leb 1 (times fresh m) && eqb (times list m) 0) (and_both (eq-eqb (times fresh m) 0 p) (le-leb 1 (times list m) (omega arith))))) e
      go (suc a) p zero q o =
          clash (or_left (not (eqb (vendor_day_in fresh m) (vendor_day_in list m)) || leb 2 (times list m))
          (or_left (eqb (times fresh m) 0 && leb 1 (times list m)) (and_both (le-leb 1 (times fresh m) (omega arith)) (eq-eqb (times list m) 0 q)))) e
      go (suc a) p (suc zero) q o = both-once (omega arith) q (same (eqb (vendor_day_in fresh m) (vendor_day_in list m)) refl)
      go (suc a) p (suc (suc b)) q o =
          clash (or_right (leb 1 (times fresh m) && eqb (times list m) 0 || eqb (times fresh m) 0 && leb 1 (times list m))
          (or_right (not (eqb (vendor_day_in fresh m) (vendor_day_in list m))) (le-leb 2 (times list m) (omega arith)))) e

  -- a key that stands in neither list, or once in both with the same day, does not differ
  pub alike-not : (m : ℕ) → Alike m → differs fresh list m ≡ false
  unfolding differs
  alike-not m (neither p q) = rw (p, q, no-day fresh m p, no-day list m q)
  alike-not m (both-once p q d) = rw (p, q, d, eq-eqb (vendor_day_in list m) (vendor_day_in list m) refl)

  alike-times : (m d : ℕ) → Alike m → times_with list m d ≡ times_with fresh m d
  alike-times m d (neither p q) = omega (arith, with-most list m d, with-most fresh m d)
  alike-times m d (both-once p q e) = with-day list m d q ∙ ap (λ (x : ℕ). cond (eqb x d) 1 0) (sym e) ∙ sym (with-day fresh m d p)

  -- in another order every key is alike
  pub reordered-alike : Reordered fresh list → (m : ℕ) → Alike m
  reordered-alike r m = go (times fresh m) refl (once m)
    where
      none : times fresh m ≡ 0 → (b : ℕ) → times list m ≡ b → times list m ≡ 0
      none p zero q = q
      none p (suc b) q =
          let w = standing list m (omega arith) in
          absurd (omega (arith, w.there, r.each m w.day, with-most fresh m w.day))

      other : times fresh m ≡ 1 → (o : ℕ) → (o ≡ vendor_day_in fresh m → ⊥) → times_with list m o ≡ 0
      other p o n = r.each m o ∙ with-day fresh m o p ∙ ap (λ (b : Bool). cond b 1 0) (ne_eqb (vendor_day_in fresh m) o (λ z. n (sym z)))

      one : times fresh m ≡ 1 → times list m ≡ 1
      one p =
          only-day list m (vendor_day_in fresh m) (other p) ∙ r.each m (vendor_day_in fresh m) ∙ with-day fresh m (vendor_day_in fresh m) p
          ∙ ap (λ (b : Bool). cond b 1 0) (eq-eqb (vendor_day_in fresh m) (vendor_day_in fresh m) refl)

      same : times fresh m ≡ 1 → (b : Bool) → eqb (vendor_day_in fresh m) (vendor_day_in list m) ≡ b → vendor_day_in fresh m ≡ vendor_day_in list m
      same p true q = eqb-true _ _ q
      same p false q =
          let z = sym (with-day list m (vendor_day_in list m) (one p)) ∙
          other p (vendor_day_in list m) (λ s. eqb-false (vendor_day_in fresh m) (vendor_day_in list m) q (sym s)) in
          absurd (differ (rw (eq-eqb (vendor_day_in list m) (vendor_day_in list m) refl) at z))
        where
          differ : ◌≡◌ {A = ℕ} 1 0 → ⊥
          differ z = omega arith

      go : (a : ℕ) → times fresh m ≡ a → times fresh m ≤ 1 → Alike m
      go zero p o = neither p (none p (times list m) refl)
      go (suc a) p o = let q : times fresh m ≡ 1 = omega arith in both-once q (one q) (same q (eqb (vendor_day_in fresh m) (vendor_day_in list m)) refl)

  module _ (fresh-short : Short fresh) (list-short : Short list) where
    abbrev least : ℕ
    least = smallest fresh list

    judge-yes : eqb least 65536 ≡ true → judgement fresh list ≡ record { same = true; key = 0 }
    unfolding judgement
    judge-yes e = rw e

    judge-no : eqb least 65536 ≡ false → judgement fresh list ≡ record { same = false; key = least }
    unfolding judgement
    judge-no e = rw e

    least-differs : (least ≡ 65536) ⊎ (differs fresh list least ≡ true)
    unfolding smallest
    least-differs = go (first_found (differs fresh list) 65536 65536 0)
      where
        go : (first_from (differs fresh list) 65536 65536 0 ≡ 65536) ⊎ Found (differs fresh list) 65536 0 (first_from (differs fresh list) 65536 65536 0)
            → (first_from (differs fresh list) 65536 65536 0 ≡ 65536) ⊎ (differs fresh list (first_from (differs fresh list) 65536 65536 0) ≡ true)
        go (inl q) = inl q
        go (inr w) = inr w.passes

    before-least : (m : ℕ) → m < 65536 → m < least → differs fresh list m ≡ false
    unfolding smallest
    before-least m h l = is_false (differs fresh list m) (λ d. omega (arith, first-least (differs fresh list) 65536 65536 0 m (omega arith) (omega arith) d))

    all_alike : least ≡ 65536 → (m : ℕ) → Alike m
    all_alike e m = go (lt-or-ge m 65536)
      where
        go : (m < 65536) ⊎ (65536 ≤ m) → Alike m
        go (inl l) = alike m (before-least m l (omega arith))
        go (inr l) = neither (fresh-short.below m (omega arith)) (list-short.below m (omega arith))

    least-in : (least ≡ 65536 → ⊥) → least < 65536
    least-in n = go (lt-or-ge least 65536) least-differs
      where
        go : (least < 65536) ⊎ (65536 ≤ least) → (least ≡ 65536) ⊎ (differs fresh list least ≡ true) → least < 65536
        go (inl l) s = l
        go (inr l) (inl q) = absurd (n q)
        go (inr l) (inr q) = clash q (alike-not least (neither (fresh-short.below least (omega arith)) (list-short.below least (omega arith))))

    -- a list gets yes exactly when it is the fresh listing in some order, and a no names the smallest key that differs
    pub judged : Judged fresh list
    judged = go (eqb least 65536) refl
      where
        go : (b : Bool) → eqb least 65536 ≡ b → Judged fresh list
        go true e =
            record {
              yes = ((λ s. record { each = λ m d. alike-times m d (all_alike (eqb-true _ _ e) m) }), (λ r. ap (λ (j : Judgement). j.same) (judge-yes e)));
              named = λ s. clash (ap (λ (j : Judgement). j.same) (judge-yes e)) s;
              none-smaller = λ s m l. clash (ap (λ (j : Judgement). j.same) (judge-yes e)) s;
            }
        go false e =
            record {
              yes = ((λ s. clash s (ap (λ (j : Judgement). j.same) (judge-no e))), (λ r. different r least-differs));
              named = λ s. ap (λ (j : Judgement). differs fresh list j.key) (judge-no e) ∙ wrong least-differs;
              none-smaller = λ s m l. before-least m (omega (arith, least-in (eqb-false _ _ e), ap (λ (j : Judgement). j.key) (judge-no e)))
                  (omega (arith, ap (λ (j : Judgement). j.key) (judge-no e)));
            }
          where
            wrong : (least ≡ 65536) ⊎ (differs fresh list least ≡ true) → differs fresh list least ≡ true
            wrong (inl q) = absurd (eqb-false _ _ e q)
            wrong (inr q) = q

            different : Reordered fresh list → (least ≡ 65536) ⊎ (differs fresh list least ≡ true) → (judgement fresh list).same ≡ true
            different r (inl q) = absurd (eqb-false _ _ e q)
            different r (inr q) = clash q (alike-not least (reordered-alike r least))
