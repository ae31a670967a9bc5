-- Days without a pass, counted up to seven, and runs of seven days.
-- Assumes nothing.
use Prim.Native.Nat.{ℕ, zero, suc, ◌+◌, ◌-◌, ◌≤◌, ◌<◌}
use mathlib.Core.Path.{◌≡◌, refl, ◌∙◌, sym, ap}
use mathlib.Core.Bool.{Bool, true, false, ◌&&◌, cond}
use mathlib.Core.Logic.{◌⊎◌, inl, inr}
use native.Mathlib.Nat.{le_refl, eq-or-lt_of_le, le_of_suc-le-suc}
use native.Mathlib.Omega.{arith}
use lib.Dec.{ltb}
use borrow.Author.Tests.{ltb-true, ltb-false, lt-ltb}
use Rattle.questions.specs.Search.{every, some}
use Rattle.questions.proofs.Bools.{clash, both, and_both, same_test, lt-or-ge}
use Rattle.questions.proofs.Search.{every-at, every-all, every-add, some_at, some_one}
use Rattle.file_intake.specs.Intake.{idle_next}

-- one run of numbers and then another
pub every-parts : (f : ℕ → Bool) (m n : ℕ) → every (m + n) f ≡ (every m f && every n (λ j. f (m + j)))
every-parts f m n =
    same_test (every (m + n) f) (every m f && every n (λ j. f (m + j)))
    (λ e. and_both (every-all f m (λ k h. every-at f (m + n) k e (omega arith)))
    (every-all (λ j. f (m + j)) n (λ j h. every-at f (m + n) (m + j) e (omega arith))))
    (λ e. let (a, b) = both (every m f) (every n (λ j. f (m + j))) e in every-add f m n a b)

module _ (test : ℕ → Bool) (s : ℕ) where
  -- the days without a pass at the end of the n days from s on, counted up to seven
  abbrev pub idle_of : ℕ → ℕ
  idle_of zero = 0
  idle_of (suc n) = idle_next (test (s + n)) (idle_of n)

  -- what the count says: the last of the days do not pass, and the one before them does
  record Idle (n idle : ℕ) : Type 0 where
    most : idle ≤ 7
    within : idle ≤ n
    last : (x : ℕ) → x < n → n ≤ x + idle → test (s + x) ≡ false
    broken : idle < 7 → idle < n → test (s + (n - idle - 1)) ≡ true

  idle-next : (n idle : ℕ) → Idle n idle → Idle (suc n) (idle_next (test (s + n)) idle)
  idle-next n idle i = go (test (s + n)) refl
    where
      later : (x : ℕ) → test (s + n) ≡ false → x < suc n → (x < n → test (s + x) ≡ false) → test (s + x) ≡ false
      later x e h before = side (eq-or-lt_of_le (le_of_suc-le-suc h))
        where
          side : (x ≡ n) ⊎ (x < n) → test (s + x) ≡ false
          side (inl q) = ap (λ (y : ℕ). test (s + y)) q ∙ e
          side (inr l) = before l

      more : test (s + n) ≡ false → (b : Bool) → ltb idle 7 ≡ b → Idle (suc n) (cond b (suc idle) idle)
      more e true q =
          let l : idle < 7 = ltb-true _ _ q in
          record {
            most = l;
            within = omega (arith, i.within);
            last = λ x a b. later x e a (λ c. i.last x c (omega arith));
            broken = λ a b.
                let p : suc n - suc idle - 1 ≡ n - idle - 1 = omega arith in
                ap (λ (y : ℕ). test (s + y)) p ∙ i.broken l (omega arith);
          }
      more e false q =
          let l : 7 ≤ idle = ltb-false _ _ q in
          record {
            most = i.most;
            within = omega (arith, i.within);
            last = λ x a b. later x e a (λ c. i.last x c (omega arith));
            broken = λ a b. absurd (omega arith);
          }

      go : (b : Bool) → test (s + n) ≡ b → Idle (suc n) (cond b 0 (cond (ltb idle 7) (suc idle) idle))
      go true e =
          record {
            most = omega arith;
            within = omega arith;
            last = λ x a b. absurd (omega arith);
            broken = λ a b.
                let p : suc n - 0 - 1 ≡ n = omega arith in
                ap (λ (y : ℕ). test (s + y)) p ∙ e;
          }
      go false e = more e (ltb idle 7) refl

  idle-is : (n : ℕ) → Idle n (idle_of n)
  idle-is zero = record { most = omega arith; within = le_refl 0; last = λ x a b. absurd (omega arith); broken = λ a b. absurd (omega arith) }
  idle-is (suc n) = idle-next n (idle_of n) (idle-is n)

  -- one of the seven days from the k-th on passes
  abbrev week : ℕ → Bool
  week k = some 7 (λ i. test (s + k + i))

  -- the run that ends with day k + 6
  week-idle : (k : ℕ) → week k ≡ ltb (idle_of (suc (k + 6))) 7
  week-idle k =
      same_test (week k) (ltb (idle_of (suc (k + 6))) 7) passes held
    where
      i : Idle (suc (k + 6)) (idle_of (suc (k + 6)))
      i = idle-is (suc (k + 6))

      passes : week k ≡ true → ltb (idle_of (suc (k + 6))) 7 ≡ true
      passes e = side (lt-or-ge (idle_of (suc (k + 6))) 7)
        where
          side : (idle_of (suc (k + 6)) < 7) ⊎ (7 ≤ idle_of (suc (k + 6))) → ltb (idle_of (suc (k + 6))) 7 ≡ true
          side (inl l) = lt-ltb _ _ l
          side (inr l) =
              let p = some_one (λ j. test (s + k + j)) 7 e in
              let q : s + k + p.at ≡ s + (k + p.at) = omega arith in
              clash p.passes (ap test q ∙ i.last (k + p.at) (omega (arith, p.below)) (omega (arith, p.below)))

      held : ltb (idle_of (suc (k + 6))) 7 ≡ true → week k ≡ true
      held e =
          let l : idle_of (suc (k + 6)) < 7 = ltb-true _ _ e in
          let q : s + k + (6 - idle_of (suc (k + 6))) ≡ s + (suc (k + 6) - idle_of (suc (k + 6)) - 1) = omega arith in
          some_at (λ j. test (s + k + j)) 7 (6 - idle_of (suc (k + 6))) (ap test q ∙ i.broken l (omega arith)) (omega arith)

  -- fewer than seven days are never seven without a pass
  short : (n : ℕ) → n < 7 → ltb (idle_of n) 7 ≡ true
  short n h = lt-ltb (idle_of n) 7 (omega (arith, (idle-is n).within))

  -- no count comes to seven exactly when every run of seven days holds a day that passes
  pub weeks-same : (n : ℕ) → every n (λ k. ltb (idle_of (suc k)) 7) ≡ every (n - 6) week
  weeks-same n =
      same_test (every n (λ k. ltb (idle_of (suc k)) 7)) (every (n - 6) week)
      (λ e. every-all week (n - 6) (λ k h. week-idle k ∙ every-at (λ k. ltb (idle_of (suc k)) 7) n (k + 6) e (omega arith)))
      (λ e. every-all (λ k. ltb (idle_of (suc k)) 7) n (λ k h. side e k h (lt-or-ge k 6)))
    where
      side : every (n - 6) week ≡ true → (k : ℕ) → k < n → (k < 6) ⊎ (6 ≤ k) → ltb (idle_of (suc k)) 7 ≡ true
      side e k h (inl l) = short (suc k) (omega arith)
      side e k h (inr l) =
          let q : k ≡ k - 6 + 6 = omega arith in
          ap (λ (m : ℕ). ltb (idle_of (suc m)) 7) q ∙ sym (week-idle (k - 6)) ∙ every-at week (n - 6) (k - 6) e (omega arith)
