-- Question 3 by the first year and the count of years; the maps of the cover's years.
-- Assumes nothing.
use Prim.Native.Nat.{ℕ, ◌+◌, ◌-◌, ◌*◌, ◌≤◌, ◌<◌}
use mathlib.Core.Path.{◌≡◌, ◌∙◌, sym, ap, ap₂}
use mathlib.Core.Bool.{Bool, true, false, ◌&&◌, and-false}
use mathlib.Core.List.{List, ◌++◌}
use mathlib.Core.Logic.{◌⊎◌, inl, inr}
use native.Mathlib.Omega.{arith}
use lib.Dec.{leb}
use lib.ListN.{length, get_or, take, drop, replicate, length-append, length-drop, length-replicate, get_or-append, get_or-replicate}
use lib.Seq.{length-take-le, get_or-append_right, get_or-drop, get_or-take}
use borrow.Author.Tests.{le-leb, lt-leb, leb-true}
use Rattle.questions.specs.Search.{every}
use Rattle.questions.proofs.Bools.{both, and_both, same_test, lt-or-ge}
use Rattle.questions.proofs.Search.{every-at, every-all, every-not}
use Rattle.calendar.specs.declared.Cover.{Cover}
use Rattle.file_calendar.specs.Calendars.{listed, up_to}
use Rattle.file_calendar.proofs.Filling.{filled-all, up_in, up-out}
use Rattle.file_draft.specs.Drafts.{years_right, years_of_map}

module _ (c : Cover) where
  abbrev first : ℕ
  first = c.first_year

  abbrev years : ℕ
  years = c.years

  abbrev year_right : ℕ → Bool
  year_right k = leb 2000 (first + k) && leb (first + k) 2099

  -- a cover without years passes question 3
  pub years-none : years ≡ 0 → years_right c ≡ true
  unfolding years_right
  years-none e = every-all year_right years (λ k h. absurd (omega arith))

  -- a cover of some years that begins before 2000 does not pass question 3
  pub years-early : 1 ≤ years → first < 2000 → years_right c ≡ false
  unfolding years_right
  years-early s h = every-not year_right years 0 (rw (lt-leb 2000 (first + 0) (omega arith))) s

  -- a cover of some years that begins after 2099 does not pass question 3
  pub years-late : 1 ≤ years → 2100 ≤ first → years_right c ≡ false
  unfolding years_right
  years-late s h = every-not year_right years 0 (rw (lt-leb (first + 0) 2099 (omega arith)) (and-false (leb 2000 (first + 0)))) s

  -- a cover that begins from 2000 to 2099 passes question 3 exactly where it does not go past 2099
  pub years-most : 1 ≤ years → 2000 ≤ first → first < 2100 → years_right c ≡ leb years (2100 - first)
  unfolding years_right
  years-most s h l =
      same_test (every years year_right) (leb years (2100 - first))
      (λ e.
      let t = every-at year_right years (years - 1) e (omega arith) in
      let (a, b) = both (leb 2000 (first + (years - 1))) (leb (first + (years - 1)) 2099) t in
      le-leb years (2100 - first) (omega (arith, leb-true (first + (years - 1)) 2099 b)))
      (λ e.
      every-all year_right years
      (λ k g.
      and_both (le-leb 2000 (first + k) (omega arith))
      (le-leb (first + k) 2099 (omega (arith, leb-true years (2100 - first) e)))))

-- the bytes of the cover's years, and after them the zeros that stood there
pub years-kept : (map front zeros : List ℕ) (years n : ℕ) → n ≡ 46 * years → n ≤ 736 → zeros ≡ replicate 736 0 → length front ≡ length (take n zeros) → front ≡ take n map
    → front ++ drop n zeros ≡ years_of_map years map
unfolding years_of_map
years-kept map front zeros years n e most z as-long same =
    filled-all value 736 n (front ++ drop n zeros) (record { long = whole; each = λ k h. each k h (lt-or-ge k n) }) ∙ ap (λ (m : ℕ). listed 0 736 (up_to m value)) e
  where
    value : ℕ → ℕ
    value j = get_or map j 0

    long : length front ≡ n
    long = as-long ∙ length-take-le n zeros (omega (arith, ap length z, length-replicate {A = ℕ} 736 0))

    whole : length (front ++ drop n zeros) ≡ 736
    whole = length-append front (drop n zeros) ∙ ap₂ ◌+◌ long (length-drop n zeros ∙ ap (λ (l : List ℕ). length l - n) z) ∙ omega (arith, length-replicate {A = ℕ} 736 0)

    each : (k : ℕ) → k < 736 → (k < n) ⊎ (n ≤ k) → get_or (front ++ drop n zeros) k 0 ≡ up_to n value k
    each k h (inl l) =
        get_or-append front (drop n zeros) 0 k (omega (arith, long)) ∙ ap (λ (m : List ℕ). get_or m k 0) same ∙ get_or-take n map k 0 l ∙ sym (up_in value n k l)
    each k h (inr g) =
        get_or-append_right front (drop n zeros) k 0 (omega (arith, long))
        ∙ ap (λ (m : ℕ). get_or (drop n zeros) (k - m) 0) long
        ∙ get_or-drop n zeros (k - n) 0
        ∙ ap (λ (l : List ℕ). get_or l (n + (k - n)) 0) z
        ∙ get_or-replicate 736 (n + (k - n)) 0 0 (omega arith)
        ∙ sym (up-out value n k g)
