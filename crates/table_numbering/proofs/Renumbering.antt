-- The laws of `renumbered` and `missing`.
-- Assumes nothing.
use mathlib.Core.Path.{◌≡◌, refl, sym, ap, ◌∙◌}
use mathlib.Core.Bool.{Bool, true, false, not, ◌&&◌, ◌||◌, cond}
use mathlib.Core.List.{List, [], ◌∷◌, map}
use Prim.Native.Nat.{ℕ, suc, ◌+◌, ◌<◌}
use native.Mathlib.Omega.{arith}
use lib.Dec.{eqb}
use lib.ListN.{length}
use borrow.Author.Tests.{eqb-true, eq-eqb}
use Rattle.questions.proofs.Bools.{and-fst, or_left, or_right, is_false}
use Rattle.listing.specs.declared.Maturity.{Maturity}
use Rattle.listing.specs.Rules.{count_from}
use Rattle.listing.proofs.Walks.{bit}
use Rattle.table_numbering.specs.Numbering.{is_listed, number_of, missing, with_number, unnumbered, renumbered}
use Rattle.table_numbering.specs.NumberingLaws.{Rising, only, RenumberedLaw, MissingLaw}
use Rattle.listing.proofs.KeyCounts.{count-zero, count-one, count-balance}
use Rattle.table_numbering.proofs.MonthsRise.{rising-tail, rising-above, rising-once, rising-cons}

-- each maturity with the number of its month
abbrev pub with-numbers : (ℕ → ℕ) → List Maturity → List Maturity
with-numbers nu ms = map (λ m. with_number m (nu m.key)) ms

module _ (nu : ℕ → ℕ) where
  -- in a list with given numbers a listed month has its given number, any other 0
  pub number-with : (ms : List Maturity) (k : ℕ) → number_of (with-numbers nu ms) k ≡ cond (is_listed ms k) (nu k) 0
  unfolding number_of is_listed
  number-with [] k = refl
  number-with (m ∷ ms) k = go (eqb m.key k) refl (number-with ms k)
    where
      go : (b : Bool) → eqb m.key k ≡ b → number_of (with-numbers nu ms) k ≡ cond (is_listed ms k) (nu k) 0
          → cond b (nu m.key) (number_of (with-numbers nu ms) k) ≡ cond (b || is_listed ms k) (nu k) 0
      go true e ih = ap nu (eqb-true m.key k e)
      go false e ih = ih

  unnumbered-with : (ms : List Maturity) → unnumbered (with-numbers nu ms) ≡ unnumbered ms
  unnumbered-with [] = refl
  unnumbered-with (m ∷ ms) = ap (◌∷◌ (with_number m 0)) (unnumbered-with ms)

  -- two ways of numbering that agree on the listed months give the same list
  pub with-same : (mu : ℕ → ℕ) (ms : List Maturity) → ((k : ℕ) → is_listed ms k ≡ true → nu k ≡ mu k) → with-numbers nu ms ≡ with-numbers mu ms
  unfolding is_listed
  with-same mu [] h = refl
  with-same mu (m ∷ ms) h =
      rw (h m.key (or_left (is_listed ms m.key) (eq-eqb m.key m.key refl)))
      (ap (◌∷◌ (with_number m (mu m.key))) (with-same mu ms (λ k t. h k (or_right (eqb m.key k) t))))

-- a month more, before the others
module _ (old : List Maturity) (m : Maturity) (ms : List Maturity) (rises : Rising (m ∷ ms)) where
  abbrev here : ℕ → Bool
  here k = eqb m.key k && not (is_listed old k)

  apart : (k : ℕ) → bit (only (m ∷ ms) old k) + bit false ≡ bit (here k) + bit (only ms old k)
  unfolding is_listed
  apart k = go (eqb m.key k) refl
    where
      go : (b : Bool) → eqb m.key k ≡ b → bit ((b || is_listed ms k) && not (is_listed old k)) + bit false
          ≡ bit (b && not (is_listed old k)) + bit (is_listed ms k && not (is_listed old k))
      go true e = rw (← eqb-true m.key k e, rising-once m ms rises)
      go false e = omega arith

  -- it counts where old has it not
  pub count-cons : (n : ℕ) → m.key < n → count_from (only (m ∷ ms) old) n 0 ≡ bit (not (is_listed old m.key)) + count_from (only ms old) n 0
  count-cons n l =
      let e : bit (here m.key) ≡ bit (not (is_listed old m.key)) = rw (eq-eqb m.key m.key refl) in
      omega (
        arith,
        count-balance (only (m ∷ ms) old) (λ k. false) here (only ms old) apart n 0,
        count-zero (λ k. false) n 0 (λ k x y. refl),
        count-one here m.key n l (λ k t. sym (eqb-true m.key k (and-fst (eqb m.key k) (not (is_listed old k)) t))),
      )

  -- none of the others is up to it
  pub count-above : count_from (only ms old) (suc m.key) 0 ≡ 0
  count-above =
      count-zero (only ms old) (suc m.key) 0
      (λ k x y. is_false (only ms old k) (λ t. absurd (omega (arith, rising-above m ms rises k (and-fst (is_listed ms k) (not (is_listed old k)) t)))))

module _ (old : List Maturity) where
  -- the number that a month of the fresh listing then has
  abbrev pub number_in : ℕ → List Maturity → ℕ → ℕ
  number_in given fresh k = cond (is_listed old k) (number_of old k) (given + count_from (only fresh old) (suc k) 0)

  -- the renumbered fresh listing is the fresh listing with the old numbers, and for new months the next ones
  pub renumbered-with : (given : ℕ) (fresh : List Maturity) → Rising fresh → renumbered old given fresh ≡ with-numbers (number_in given fresh) fresh
  unfolding renumbered
  renumbered-with given [] rises = refl
  renumbered-with given (m ∷ ms) rises =
      go (is_listed old m.key) refl (λ g. renumbered-with g ms (rising-tail m ms rises))
    where
      first : count_from (only (m ∷ ms) old) (suc m.key) 0 ≡ bit (not (is_listed old m.key))
      first = omega (arith, count-cons old m ms rises (suc m.key) (omega arith), count-above old m ms rises)

      rest : (g : ℕ) → g ≡ given + bit (not (is_listed old m.key)) → with-numbers (number_in g ms) ms ≡ with-numbers (number_in given (m ∷ ms)) ms
      rest g e = with-same (number_in g ms) (number_in given (m ∷ ms)) ms each
        where
          each : (k : ℕ) → is_listed ms k ≡ true → number_in g ms k ≡ number_in given (m ∷ ms) k
          each k t =
              let c : g + count_from (only ms old) (suc k) 0 ≡ given + count_from (only (m ∷ ms) old) (suc k) 0 =
              omega (arith, count-cons old m ms rises (suc k) (omega (arith, rising-above m ms rises k t))) in
              rw c

      go : (b : Bool) → is_listed old m.key ≡ b → ((g : ℕ) → renumbered old g ms ≡ with-numbers (number_in g ms) ms)
          → cond b (with_number m (number_of old m.key) ∷ renumbered old given ms) (with_number m (suc given) ∷ renumbered old (suc given) ms)
          ≡ with-numbers (number_in given (m ∷ ms)) (m ∷ ms)
      go true e ih = rw (e, ih given) (ap (◌∷◌ (with_number m (number_of old m.key))) (rest given (omega (arith, ap (λ (x : Bool). bit (not x)) e))))
      go false e ih =
          let c : given + count_from (only (m ∷ ms) old) (suc m.key) 0 ≡ suc given = omega (arith, first, ap (λ (x : Bool). bit (not x)) e) in
          rw (e, c, ih (suc given)) (ap (◌∷◌ (with_number m (suc given))) (rest (suc given) (omega (arith, ap (λ (x : Bool). bit (not x)) e))))

  -- of a fresh listing with rising months, the renumbered one replaces it, keeps old numbers and takes the next for new months
  pub renumbered-law : (given : ℕ) (fresh : List Maturity) → Rising fresh → RenumberedLaw old given fresh (renumbered old given fresh)
  renumbered-law given fresh rises = record {
    replaces = ap unnumbered e ∙ unnumbered-with (number_in given fresh) fresh;
    keeps = λ m f o. number m ∙ rw (f, o);
    takes = λ m f o. number m ∙ rw (f, o);
  }
    where
      e : renumbered old given fresh ≡ with-numbers (number_in given fresh) fresh
      e = renumbered-with given fresh rises

      number : (m : ℕ) → number_of (renumbered old given fresh) m ≡ cond (is_listed fresh m) (number_in given fresh m) 0
      number m = ap (λ (ms : List Maturity). number_of ms m) e ∙ number-with (number_in given fresh) fresh m

module _ (others : List Maturity) where
  missing-holds : (ms : List Maturity) (k : ℕ) → is_listed (missing ms others) k ≡ only ms others k
  unfolding missing is_listed
  missing-holds [] k = refl
  missing-holds (m ∷ ms) k = go (is_listed others m.key) refl (eqb m.key k) refl (missing-holds ms k)
    where
      go : (b : Bool) → is_listed others m.key ≡ b → (c : Bool) → eqb m.key k ≡ c → is_listed (missing ms others) k ≡ only ms others k
          → is_listed (cond b (missing ms others) (m ∷ missing ms others)) k ≡ ((c || is_listed ms k) && not (is_listed others k))
      go true e true q ih = ih ∙ rw (← eqb-true m.key k q, e) (none (is_listed ms m.key))
        where
          none : (x : Bool) → (x && false) ≡ false
          none true = refl
          none false = refl
      go true e false q ih = ih
      go false e true q ih = rw (q, ← eqb-true m.key k q, e)
      go false e false q ih = rw q ih

  missing-rises : (ms : List Maturity) → Rising ms → Rising (missing ms others)
  unfolding missing
  missing-rises [] rises = rises
  missing-rises (m ∷ ms) rises = go (is_listed others m.key) (missing-rises ms (rising-tail m ms rises))
    where
      go : (b : Bool) → Rising (missing ms others) → Rising (cond b (missing ms others) (m ∷ missing ms others))
      go true ih = ih
      go false ih =
          rising-cons m (missing ms others)
          (λ k t. rising-above m ms rises k (and-fst (is_listed ms k) (not (is_listed others k)) (sym (missing-holds ms k) ∙ t))) ih

  missing-count : (ms : List Maturity) → Rising ms → (n : ℕ) → ((k : ℕ) → is_listed ms k ≡ true → k < n)
      → length (missing ms others) ≡ count_from (only ms others) n 0
  unfolding missing is_listed
  missing-count [] rises n h = sym (count-zero (only [] others) n 0 (λ k x y. refl))
  missing-count (m ∷ ms) rises n h =
      go (is_listed others m.key) refl (missing-count ms (rising-tail m ms rises) n (λ k t. h k (or_right (eqb m.key k) t)))
    where
      first : m.key < n
      first = h m.key (or_left (is_listed ms m.key) (eq-eqb m.key m.key refl))

      go : (b : Bool) → is_listed others m.key ≡ b → length (missing ms others) ≡ count_from (only ms others) n 0
          → length (cond b (missing ms others) (m ∷ missing ms others)) ≡ count_from (only (m ∷ ms) others) n 0
      go true e ih = omega (arith, count-cons others m ms rises n first, ap (λ (x : Bool). bit (not x)) e)
      go false e ih = omega (arith, count-cons others m ms rises n first, ap (λ (x : Bool). bit (not x)) e)

  -- of a list with rising months, the missing ones are those not in the other, by rising month, and counted
  pub missing-law : (ms : List Maturity) → Rising ms → MissingLaw ms others (missing ms others)
  missing-law ms rises = record { holds = missing-holds ms; rising = missing-rises ms rises; count = missing-count ms rises }
