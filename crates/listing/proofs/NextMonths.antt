-- The next month of a step's set by arithmetic: so many months after a month, and none of the set before it.
-- Assumes nothing.
use mathlib.Core.Path.{◌≡◌, sym, ap, ◌∙◌}
use mathlib.Core.Bool.{Bool, false}
use Prim.Native.Nat.{ℕ, zero, suc, ◌+◌, ◌-◌, ◌%◌, ◌≤◌, ◌<◌}
use native.Mathlib.Nat.{add-zero}
use native.Mathlib.Omega.{arith}
use lib.ListN.{get_or}
use borrow.Author.Tests.{eq-eqb, ne_eqb}
use Rattle.questions.specs.Search.{first_from}
use Rattle.questions.proofs.Search.{first-none, first_next, first-is}
use Rattle.listing.specs.Rules.{next_of, NextAfter}
use Rattle.listing.specs.Months.{month_sets}
use Rattle.listing.proofs.ListLoops.{set_all, set-quarters, set-halves, set-decembers}

-- the first of every month from a month on is that month
pub to-all : (m : ℕ) → NextAfter (get_or month_sets 0 (λ m. false)) m 0
to-all m = record { none = λ i h. absurd (omega arith); there = sym (set_all (m + 0)) }

-- the months from a month to the first March, June, September or December are 2 less its number modulo three
pub to-quarters : (m : ℕ) → NextAfter (get_or month_sets 1 (λ m. false)) m (2 - m % 3)
to-quarters m =
    record {
      none = λ i h. sym (set-quarters (m + i)) ∙ ne_eqb (((m + i) % 12 + 1) % 3) 0 (λ e. omega arith);
      there = sym (set-quarters (m + (2 - m % 3))) ∙ eq-eqb (((m + (2 - m % 3)) % 12 + 1) % 3) 0 (omega arith);
    }

-- the months from a month to the first June or December are 5 less its number modulo six
pub to-halves : (m : ℕ) → NextAfter (get_or month_sets 2 (λ m. false)) m (5 - m % 6)
to-halves m =
    record {
      none = λ i h. sym (set-halves (m + i)) ∙ ne_eqb (((m + i) % 12 + 1) % 6) 0 (λ e. omega arith);
      there = sym (set-halves (m + (5 - m % 6))) ∙ eq-eqb (((m + (5 - m % 6)) % 12 + 1) % 6) 0 (omega arith);
    }

-- the months from a month to the first December are 11 less its number modulo twelve
pub to-decembers : (m : ℕ) → NextAfter (get_or month_sets 3 (λ m. false)) m (11 - m % 12)
to-decembers m =
    record {
      none = λ i h. sym (set-decembers (m + i)) ∙ ne_eqb ((m + i) % 12 + 1) 12 (λ e. omega arith);
      there = sym (set-decembers (m + (11 - m % 12))) ∙ eq-eqb ((m + (11 - m % 12)) % 12 + 1) 12 (omega arith);
    }

-- none of n passes
none_passes : (f : ℕ → Bool) (none n d : ℕ) → ((i : ℕ) → i < n → f (d + i) ≡ false) → first_from f none n d ≡ none
none_passes f none zero d a = first-none f none d
none_passes f none (suc n) d a =
    let e : d + 0 ≡ d = add-zero d in
    let s : suc n - 1 ≡ n = omega arith in
    first_next f none (suc n) d (omega arith) (ap f (sym e) ∙ a 0 (omega arith))
    ∙ ap (λ (k : ℕ). first_from f none k (d + 1)) s
    ∙ none_passes f none n (d + 1) (λ i l. ap f (next i) ∙ a (suc i) (omega arith))
  where
    next : (i : ℕ) → d + 1 + i ≡ d + suc i
    next i = omega arith

module _ (set : ℕ → Bool) (from end : ℕ) where
  -- where no key is left before the end, the next key of a set is the end
  pub none_left : end ≤ from → end ≡ next_of end set from
  none_left h =
      let z : end - from ≡ 0 = omega arith in
      sym (ap (λ (n : ℕ). first_from set end n from) z ∙ first-none set end from)

  module _ (n : ℕ) (a : NextAfter set from n) where
    -- where the first key of the set lies at the end or beyond, the next key is the end
    pub next-beyond : end - from ≤ n → end ≡ next_of end set from
    next-beyond h = sym (none_passes set end (end - from) from (λ i l. a.none i (omega arith)))

    -- where the first key of the set lies before the end, it is the next key
    pub next-is : n < end - from → from + n ≡ next_of end set from
    next-is h = sym (first-is set end (end - from) from n h a.none a.there)
