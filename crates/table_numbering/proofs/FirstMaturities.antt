-- The first n maturities of an array, taken one by one.
-- Assumes nothing.
use mathlib.Core.Path.{◌≡◌, refl, ◌∙◌, sym, ap}
use mathlib.Core.Bool.{Bool, true, false, not, ◌||◌, cond}
use mathlib.Core.List.{List, [], ◌∷◌, ◌++◌, append-nil}
use Prim.Native.Nat.{ℕ, suc, ◌+◌, ◌-◌, ◌≤◌, ◌<◌}
use native.Mathlib.Numerals.{add-one}
use native.Mathlib.Omega.{arith}
use lib.ListN.{length, get_or, set, take, drop, replicate, drop_of_length-le, length-append}
use lib.Seq.{drop-cons, get_or-take, length-take-le, set_at, append_snoc}
use lib.Dec.{eqb}
use Rattle.std.proofs.lemmas.Option.{none-some, same_Some}
use Rattle.std.specs.List.{list_any, find, filter}
use Rattle.std.proofs.Common.{Some, None}
use Rattle.listing.specs.declared.Maturity.{Maturity}
use Rattle.listing.specs.Rules.{unused, places15}
use Rattle.table_numbering.specs.Numbering.{is_listed, number_of, missing, with_number, renumbered}

module _ (a : List Maturity) (n i : ℕ) (fits : n ≤ length a) where
  -- the maturity at i comes next
  pub part-next : i < n → drop i (take n a) ≡ get_or a i unused ∷ drop (i + 1) (take n a)
  part-next h =
      let l : i < length (take n a) = rw (length-take-le n a fits) h in
      rw (drop-cons (take n a) i unused l, get_or-take n a i unused h, add-one)

  -- none is left
  pub part-done : n ≤ i → drop i (take n a) ≡ []
  part-done h =
      let l : length (take n a) ≤ i = rw (length-take-le n a fits) h in
      drop_of_length-le (take n a) l

-- a month is among maturities where the search for one that has it finds one
pub listed-any : (m : ℕ) (ms : List Maturity) → is_listed ms m ≡ list_any (λ o. eqb o.key m) ms
unfolding is_listed
listed-any m [] = refl
listed-any m (o ∷ ms) = rw (listed-any m ms)

-- the first maturity that has a month has its number
pub found-listed : (m : ℕ) (ms : List Maturity) (o : Maturity) → find (λ p. eqb p.key m) ms ≡ Some o → (is_listed ms m ≡ true) × (number_of ms m ≡ o.number)
unfolding is_listed number_of
found-listed m [] o e = absurd (none-some o e)
found-listed m (p ∷ ms) o e = go (eqb p.key m) e (found-listed m ms o)
  where
    go : (b : Bool) → cond b (Some p) (find (λ q. eqb q.key m) ms) ≡ Some o
        → (find (λ q. eqb q.key m) ms ≡ Some o → (is_listed ms m ≡ true) × (number_of ms m ≡ o.number))
        → ((b || is_listed ms m) ≡ true) × (cond b p.number (number_of ms m) ≡ o.number)
    go true q ih = (refl, ap (λ (x : Maturity). x.number) (same_Some p o q))
    go false q ih = ih q

-- where none has a month, it is not there
pub none-listed : (m : ℕ) (ms : List Maturity) → find (λ p. eqb p.key m) ms ≡ None → is_listed ms m ≡ false
unfolding is_listed
none-listed m [] e = refl
none-listed m (p ∷ ms) e = go (eqb p.key m) e (none-listed m ms)
  where
    go : (b : Bool) → cond b (Some p) (find (λ q. eqb q.key m) ms) ≡ None → (find (λ q. eqb q.key m) ms ≡ None → is_listed ms m ≡ false) → (b || is_listed ms m) ≡ false
    go true q ih = absurd (none-some p (sym q))
    go false q ih = ih q

-- those that are missing elsewhere are as many as pass the test that their month is not there
pub missing-filter : (others ms : List Maturity) → length (missing ms others) ≡ length (filter (λ m. not (is_listed others m.key)) ms)
unfolding missing
missing-filter others [] = refl
missing-filter others (m ∷ ms) = go (is_listed others m.key) (missing-filter others ms)
  where
    go : (b : Bool) → length (missing ms others) ≡ length (filter (λ o. not (is_listed others o.key)) ms)
        → length (cond b (missing ms others) (m ∷ missing ms others))
        ≡ length (cond (not b) (m ∷ filter (λ o. not (is_listed others o.key)) ms) (filter (λ o. not (is_listed others o.key)) ms))
    go true h = h
    go false h = ap suc h

-- no more are missing elsewhere than there are
pub missing-few : (others ms : List Maturity) → length (missing ms others) ≤ length ms
unfolding missing
missing-few others [] = omega arith
missing-few others (m ∷ ms) = go (is_listed others m.key) (missing-few others ms)
  where
    go : (b : Bool) → length (missing ms others) ≤ length ms → length (cond b (missing ms others) (m ∷ missing ms others)) ≤ suc (length ms)
    go true h = omega arith
    go false h = omega arith

-- a store to the first place that is unused
put-place : (done : List Maturity) (m : Maturity) (out : List Maturity) (i : ℕ) → length done ≡ i → i < 15 → out ≡ places15 done
    → set out i m ≡ places15 (done ++ (m ∷ []))
unfolding places15
put-place done m out i e l q =
    let r : 15 - length done ≡ suc (15 - suc i) = omega arith in
    let t : 15 - length (done ++ (m ∷ [])) ≡ 15 - suc i = omega (arith, length-append done (m ∷ [])) in
    rw (q, r, t) (set_at done unused (replicate (15 - suc i) unused) m i e ∙ sym (append_snoc done m (replicate (15 - suc i) unused)))

-- what is still to be numbered, after a list of those that are
module _ (old : List Maturity) where
  renumber-cons : (g : ℕ) (m : Maturity) (ms : List Maturity) → renumbered old g (m ∷ ms)
      ≡ with_number m (cond (is_listed old m.key) (number_of old m.key) (g + 1)) ∷ renumbered old (cond (is_listed old m.key) g (g + 1)) ms
  unfolding renumbered
  renumber-cons g m ms = rw (add-one g) (go (is_listed old m.key))
    where
      go : (b : Bool) → cond b (with_number m (number_of old m.key) ∷ renumbered old g ms) (with_number m (suc g) ∷ renumbered old (suc g) ms)
          ≡ with_number m (cond b (number_of old m.key) (suc g)) ∷ renumbered old (cond b g (suc g)) ms
      go true = refl
      go false = refl

  -- the state of the loop: the places that are filled, and the whole once the rest is
  pub record Numbering (fresh : List Maturity) (given : ℕ) (out : List Maturity) (g i : ℕ) : Type 0 where
    -- the maturities that are numbered
    pub done : List Maturity
    -- they are as many as the places passed
    pub filled : length done ≡ i
    -- at most one number was given for each place passed
    pub few : g ≤ given + i
    -- the array holds them in its first places, and its other places are unused
    pub places : out ≡ places15 done
    -- they and the rest, numbered on from the last number given, are the renumbered fresh listing
    pub whole : done ++ renumbered old g (drop i fresh) ≡ renumbered old given fresh

  module _ (fresh : List Maturity) (given : ℕ) where
    -- before the first place the state holds, with all places unused
    pub starts : Numbering fresh given (replicate 15 unused) given 0
    unfolding places15
    starts = record { done = []; filled = refl; few = omega arith; places = refl; whole = refl }

    -- a maturity put in the next place, with its old number or else the next one, leaves the state
    pub next : (out : List Maturity) (g i : ℕ) (m : Maturity) (h : ℕ) → Numbering fresh given out g i → length fresh ≤ 15 → i < length fresh
        → m ≡ with_number (get_or fresh i unused) (cond (is_listed old (get_or fresh i unused).key) (number_of old (get_or fresh i unused).key) (g + 1))
        → h ≡ cond (is_listed old (get_or fresh i unused).key) g (g + 1)
        → Numbering fresh given (set out i m) h (i + 1)
    next out g i m h s room l p q =
        record {
          done = s.done ++ (m ∷ []);
          filled = length-append s.done (m ∷ []) ∙ (omega (arith, s.filled));
          few = omega (arith, s.few, q, step (is_listed old (get_or fresh i unused).key));
          places = placed;
          whole = grown;
        }
      where
        step : (b : Bool) → cond b g (g + 1) ≤ g + 1
        step true = omega arith
        step false = omega arith

        placed : set out i m ≡ places15 (s.done ++ (m ∷ []))
        placed = put-place s.done m out i s.filled (omega arith) s.places

        grown : (s.done ++ (m ∷ [])) ++ renumbered old h (drop (i + 1) fresh) ≡ renumbered old given fresh
        grown =
            append_snoc s.done m (renumbered old h (drop (i + 1) fresh)) ∙
            (rw (p, q) (ap (λ (zs : List Maturity). s.done ++ zs)
            (sym (rw (drop-cons fresh i unused l, ← add-one i) (renumber-cons g (get_or fresh i unused) (drop (i + 1) fresh)))) ∙ s.whole))

    -- after the last place the array holds the renumbered fresh listing
    pub ends : (out : List Maturity) (g i : ℕ) → Numbering fresh given out g i → length fresh ≤ i → out ≡ places15 (renumbered old given fresh)
    unfolding renumbered
    ends out g i s l =
        let z : drop i fresh ≡ [] = drop_of_length-le fresh l in
        s.places ∙ ap places15 (sym (append-nil s.done) ∙ (rw z at s.whole))
