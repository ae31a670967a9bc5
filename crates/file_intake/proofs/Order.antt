-- Question 4 block by block: what the state says of the blocks before is what the whole file says.
-- Assumes nothing.
use Prim.Native.Nat.{ℕ, zero, suc, ◌+◌, ◌-◌, ◌≤◌, ◌<◌}
use mathlib.Core.Path.{◌≡◌, refl, ◌∙◌, sym, ap}
use mathlib.Core.Bool.{Bool, true, false, ◌&&◌, cond}
use mathlib.Core.Logic.{◌⊎◌, inl, inr}
use mathlib.Core.List.{List}
use native.Mathlib.Nat.{le_refl, add-zero, eq-or-lt_of_le, le_of_suc-le-suc}
use native.Mathlib.Omega.{arith}
use lib.Dec.{eqb, leb, ltb}
use lib.ListN.{get_or}
use borrow.Author.Tests.{eqb-true, eq-eqb, ne_eqb, leb-true, le-leb, ltb-true, lt-ltb, le-ltb}
use Rattle.questions.specs.Search.{every}
use Rattle.questions.proofs.Bools.{clash, both, and_both, is_false, same_test, lt-or-ge}
use Rattle.questions.proofs.Search.{every-at, every-all}
use Rattle.file_blocks.proofs.TestCounts.{count_none}
use Rattle.file_blocks.specs.Blocks.{block_count, block_of, count_of, is_calendar, is_products, year_of_block}
use Rattle.file_calendar.specs.Calendars.{year_count, year_in_order, in_order, order_right}
use Rattle.file_calendar.proofs.CalendarBlocks.{Ordered, ordered, calendar-block, block-year}
use Rattle.file_intake.specs.declared.Intake.{Intake}
use Rattle.file_intake.specs.Intake.{in_turn, with_block, state_after}

-- counts of numbers that pass
module _ (test : ℕ → Bool) where
  -- a further number that passes the test makes the count one more
  pub count-up : (n : ℕ) → test n ≡ true → count_of (suc n) test ≡ suc (count_of n test)
  unfolding count_of
  count-up n e = rw e (omega arith)

  count_same : (n : ℕ) → test n ≡ false → count_of (suc n) test ≡ count_of n test
  unfolding count_of
  count_same n e = rw e (add-zero (count_of n test))

  -- of the first n numbers at most n pass
  pub count_most : (n : ℕ) → count_of n test ≤ n
  unfolding count_of
  count_most zero = le_refl 0
  count_most (suc n) = go (test n) (count_most n)
    where
      go : (b : Bool) → count_of n test ≤ n → count_of n test + cond b 1 0 ≤ suc n
      go true h = omega arith
      go false h = omega arith

  -- all of them pass
  pub count-full : (n j : ℕ) → count_of n test ≡ n → j < n → test j ≡ true
  count-full zero j e h = absurd (omega arith)
  count-full (suc n) j e h = go (test n) refl (eq-or-lt_of_le (le_of_suc-le-suc h)) (λ a b. count-full n j a b)
    where
      go : (b : Bool) → test n ≡ b → (j ≡ n) ⊎ (j < n) → (count_of n test ≡ n → j < n → test j ≡ true) → test j ≡ true
      go true t (inl q) ih = ap test q ∙ t
      go true t (inr l) ih = ih (omega (arith, count-up n t)) l
      go false t s ih = absurd (omega (arith, count_same n t, count_most n))

  -- where each of the first n numbers passes, n pass
  pub count-all : (n : ℕ) → ((j : ℕ) → j < n → test j ≡ true) → count_of n test ≡ n
  count-all zero h = count_none test
  count-all (suc n) h = count-up n (h n (le_refl (suc n))) ∙ ap suc (count-all n (λ j l. h j (omega arith)))

  -- the count of those that pass does not fall as numbers are added
  pub count-rises : (j n : ℕ) → j ≤ n → count_of j test ≤ count_of n test
  count-rises j zero h = omega (arith, count_most j)
  count-rises j (suc n) h = go (test n) refl (eq-or-lt_of_le h) (λ l. count-rises j n l)
    where
      go : (b : Bool) → test n ≡ b → (j ≡ suc n) ⊎ (j < suc n) → (j ≤ n → count_of j test ≤ count_of n test) → count_of j test ≤ count_of (suc n) test
      go b t (inl q) ih = ap-le q
        where
          ap-le : j ≡ suc n → count_of j test ≤ count_of (suc n) test
          ap-le q = rw q (le_refl (count_of (suc n) test))
      go true t (inr l) ih = omega (arith, count-up n t, ih (le_of_suc-le-suc l))
      go false t (inr l) ih = omega (arith, count_same n t, ih (le_of_suc-le-suc l))

module _ (f : List ℕ) (n : ℕ) where
  abbrev state : ℕ → Intake
  state k = state_after f n k

  abbrev calendar_at : ℕ → Bool
  calendar_at k = is_calendar (block_of f k)

  -- the state after any block has the number of blocks that was announced
  pub announced-is : (k : ℕ) → (state k).announced ≡ n
  unfolding state_after with_block
  announced-is zero = refl
  announced-is (suc k) = announced-is k

  -- the state after k blocks has k as the number of blocks taken
  pub taken_is : (k : ℕ) → (state k).taken ≡ k
  unfolding state_after with_block
  taken_is zero = refl
  taken_is (suc k) = ap suc (taken_is k)

  -- the state after k blocks counts the calendar blocks among the first k
  pub years-is : (k : ℕ) → (state k).years ≡ count_of k calendar_at
  unfolding state_after with_block count_of
  years-is zero = refl
  years-is (suc k) = ap (λ (m : ℕ). m + cond (calendar_at k) 1 0) (years-is k)

  first_step : (k : ℕ) → (state (suc k)).first_year ≡ cond (eqb (state k).taken 0) (year_of_block (block_of f k)) (state k).first_year
  unfolding state_after with_block
  first_step k = refl

  -- the year of the first block, at each later block
  pub first-is : (k : ℕ) → cond (eqb (state k).taken 0) (year_of_block (block_of f k)) (state k).first_year ≡ year_of_block (block_of f 0)
  first-is zero = rw (taken_is 0)
  first-is (suc k) = rw (taken_is (suc k), ne_eqb (suc k) 0 (λ z. omega arith)) (first_step k ∙ first-is k)

  -- 4, of block k, in terms of the file
  abbrev turn : ℕ → Bool
  turn k =
      cond (calendar_at k) (eqb (count_of k calendar_at) k && (ltb k 16 && (ltb (suc k) n && year_in_order f k)))
      (leb 1 k && is_products (block_of f k))

  -- question 4 of the next block by the state is that of block k by the blocks before it in the file
  pub turn_is : (k : ℕ) → in_turn (state k) (block_of f k) ≡ turn k
  unfolding in_turn
  turn_is k = rw (first-is k, years-is k, taken_is k, announced-is k)

  -- block by block
  module _ (all : (k : ℕ) → k < n → turn k ≡ true) where
    record Calendar (k : ℕ) : Type 0 where
      full : count_of k calendar_at ≡ k
      few : k < 16
      more : suc k < n
      year : year_in_order f k ≡ true

    calendar-turn : (k : ℕ) → k < n → calendar_at k ≡ true → Calendar k
    calendar-turn k h c =
        let t = rw c at (all k h) in
        let (a, r) = both (eqb (count_of k calendar_at) k) (ltb k 16 && (ltb (suc k) n && year_in_order f k)) t in
        let (b, q) = both (ltb k 16) (ltb (suc k) n && year_in_order f k) r in
        let (d, y) = both (ltb (suc k) n) (year_in_order f k) q in
        record { full = eqb-true _ _ a; few = ltb-true _ _ b; more = ltb-true _ _ d; year = y }

    other-turn : (k : ℕ) → k < n → calendar_at k ≡ false → (1 ≤ k) × (is_products (block_of f k) ≡ true)
    other-turn k h c =
        let (a, p) = both (leb 1 k) (is_products (block_of f k)) (rw c at (all k h)) in
        (leb-true _ _ a, p)

    -- a calendar block is one of the first, as many as there are
    calendar-before : (k : ℕ) → k < n → calendar_at k ≡ true → k < count_of n calendar_at
    calendar-before k h c =
        omega (arith, (calendar-turn k h c).full, count-up calendar_at k c, count-rises calendar_at (suc k) n h)

    -- after another block no calendar block follows
    few-before : (k : ℕ) → k < n → calendar_at k ≡ false → (m : ℕ) → m ≤ n → count_of m calendar_at ≤ k
    few-before k h c zero l = omega (arith, count_none calendar_at)
    few-before k h c (suc m) l = go (calendar_at m) refl (lt-or-ge k m) (few-before k h c m (omega arith))
      where
        go : (b : Bool) → calendar_at m ≡ b → (k < m) ⊎ (m ≤ k) → count_of m calendar_at ≤ k → count_of (suc m) calendar_at ≤ k
        go true t (inl g) ih = clash (count-full calendar_at m k (calendar-turn m l t).full g) c
        go true t (inr g) ih = side (eq-or-lt_of_le g)
          where
            side : (m ≡ k) ⊎ (m < k) → count_of (suc m) calendar_at ≤ k
            side (inl q) = clash t (ap calendar_at q ∙ c)
            side (inr q) = omega (arith, count_most calendar_at (suc m))
        go false t s ih = omega (arith, count_same calendar_at m t)

    is-calendar : (k : ℕ) → k < n → k < count_of n calendar_at → calendar_at k ≡ true
    is-calendar k h l = go (calendar_at k) refl
      where
        go : (b : Bool) → calendar_at k ≡ b → calendar_at k ≡ true
        go true t = t
        go false t = absurd (omega (arith, few-before k h t n (le_refl n)))

    is-other : (k : ℕ) → k < n → count_of n calendar_at ≤ k → calendar_at k ≡ false
    is-other k h l = is_false (calendar_at k) (λ t. absurd (omega (arith, calendar-before k h t)))

    first-calendar : 0 < n → calendar_at 0 ≡ true
    first-calendar h = go (calendar_at 0) refl
      where
        go : (b : Bool) → calendar_at 0 ≡ b → calendar_at 0 ≡ true
        go true t = t
        go false t = absurd (omega (arith, (other-turn 0 h t).0))

-- 4 over the whole file
module _ (f : List ℕ) where
  abbrev count : ℕ
  count = block_count f

  module _ (h : 0 < count) (all : (k : ℕ) → k < count → turn f count k ≡ true) where
    abbrev many : ℕ
    many = count_of count (calendar_at f count)

    some-calendar : 1 ≤ many
    some-calendar = calendar-before f count all 0 h (first-calendar f count all h)

    last-calendar : Calendar f count all (many - 1)
    last-calendar =
        let l : many - 1 < count = omega (arith, count_most (calendar_at f count) count) in
        calendar-turn f count all (many - 1) l (is-calendar f count all (many - 1) l (omega (arith, some-calendar)))

    block_in : (k : ℕ) → k < count → (k < many) ⊎ (many ≤ k) → cond (ltb k many) (is_calendar (block_of f k) && year_in_order f k) (is_products (block_of f k)) ≡ true
    block_in k l (inl g) =
        let c = is-calendar f count all k l g in
        rw (lt-ltb k many g) (and_both c (calendar-turn f count all k l c).year)
    block_in k l (inr g) = rw (le-ltb k many g) (other-turn f count all k l (is-other f count all k l g)).1

    turns-order : order_right f ≡ true
    unfolding order_right year_count in_order
    turns-order =
        and_both
        (and_both (and_both (le-leb 1 many some-calendar) (le-leb many 16 (omega (arith, last-calendar.few, some-calendar))))
        (lt-ltb many count (omega (arith, last-calendar.more, some-calendar))))
        (every-all (in_order f) count (λ k l. block_in k l (lt-or-ge k many)))

  -- in a file that is in order each block from the count of years on is a product block
  pub product_at : Ordered f → (k : ℕ) → year_count f ≤ k → k < count → is_products (block_of f k) ≡ true
  unfolding in_order
  product_at o k h l = rw (le-ltb k (year_count f) h) at (every-at (in_order f) count k o.each l)

  order-turns : Ordered f → (k : ℕ) → k < count → turn f count k ≡ true
  order-turns o k h = go (lt-or-ge k (year_count f))
    where
      go : (k < year_count f) ⊎ (year_count f ≤ k) → turn f count k ≡ true
      go (inl l) =
          rw (calendar-block f o k l)
          (and_both (eq-eqb (count_of k (calendar_at f count)) k (count-all (calendar_at f count) k (λ j g. calendar-block f o j (omega arith))))
          (and_both (lt-ltb k 16 (omega (arith, o.most)))
          (and_both (lt-ltb (suc k) count (omega (arith, o.fewer)))
          (eq-eqb (year_of_block (block_of f k)) (year_of_block (block_of f 0) + k) (block-year f o k l)))))
      go (inr l) =
          let p = product_at o k l h in
          let two : get_or (block_of f k) 0 0 ≡ 2 = eqb-true _ _ p in
          let c : is_calendar (block_of f k) ≡ false = ne_eqb (get_or (block_of f k) 0 0) 1 (λ z. omega arith) in
          rw c (and_both (le-leb 1 k (omega (arith, o.some))) p)

  -- 4, block by block and over the file
  pub order_same : 0 < count → every count (λ k. in_turn (state_after f count k) (block_of f k)) ≡ order_right f
  order_same h =
      same_test (every count (λ k. in_turn (state_after f count k) (block_of f k))) (order_right f)
      (λ e. turns-order h (λ k l. sym (turn_is f count k) ∙ every-at (λ k. in_turn (state_after f count k) (block_of f k)) count k e l))
      (λ e. every-all (λ k. in_turn (state_after f count k) (block_of f k)) count (λ k l. turn_is f count k ∙ order-turns (ordered f e) k l))
