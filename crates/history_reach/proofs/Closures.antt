-- Accepted closures of a table: what one reaches, and two in either order.
-- Assumes nothing.
use mathlib.Core.Path.{◌≡◌, refl, sym, ap, subst, ◌∙◌}
use mathlib.Core.Bool.{Bool, true, false, cond}
use mathlib.Core.List.{List}
use mathlib.Core.Logic.{◌⊎◌, inl, inr}
use Prim.Native.Nat.{ℕ, ◌+◌, ◌-◌, ◌≤◌, ◌<◌}
use native.Mathlib.Omega.{arith}
use lib.Dec.{eqb, ltb}
use lib.ListN.{length}
use borrow.Author.Tests.{eqb-true, eqb-false, eq-eqb, le-leb}
use Rattle.questions.specs.Questions.{first_no}
use Rattle.questions.proofs.Asks.{none-no}
use Rattle.questions.proofs.Bools.{clash, lt-or-ge}
use Rattle.calendar.specs.declared.Cover.{Cover}
use Rattle.calendar.specs.declared.Calendar.{Calendar}
use Rattle.calendar.specs.Trading.{in_cover, trading_day, every_week, close_day}
use Rattle.calendar.proofs.Weeks.{weeks-more}
use Rattle.calendar.proofs.Closing.{close-cover, close-turn, trading-before, trading-other}
use Rattle.product.specs.declared.Kind.{Kind}
use Rattle.product.specs.declared.Product.{Product}
use Rattle.expiry.specs.declared.LastDay.{LastDay}
use Rattle.expiry.specs.LastDays.{anchor_of, last_trading_day, worked_out}
use Rattle.expiry.proofs.Fridays.{last-but}
use Rattle.listing.specs.declared.Maturity.{Maturity}
use Rattle.listing.specs.Rules.{Rule, last_day_of, front, fresh_keys}
use Rattle.listing.specs.Months.{cover_rule, rule_of, all_in_cover}
use Rattle.listing.proofs.Lawful.{Lawful, Key, key-of, day-anchor, front-least, keys-stay, complete-length}
use Rattle.listing.proofs.Fewer.{front-fewer, complete-more}
use Rattle.listing.proofs.OfKinds.{rule-lawful, rule-places, days-strict}
use Rattle.table_numbering.specs.Numbering.{is_listed, number_of, missing, renumbered}
use Rattle.table_numbering.proofs.MonthsRise.{listing-rises}
use Rattle.table_numbering.proofs.Renumbering.{renumbered-law}
use Rattle.table_numbering.proofs.Unique.{same-maturity}
use Rattle.table.specs.declared.Table.{Table}
use Rattle.table.specs.declared.Outcome.{Outcome}
use Rattle.table.specs.Table.{listed_in, sound, moved, refused_with, answered, close_asks, close_call, rule_in, covered_in}
use Rattle.table.proofs.TableQuestions.{close-16}
use Rattle.history.proofs.Moves.{fresh, now, numbers_next, Numbered, ListingReplaced, present-is, moves}
use Rattle.history.proofs.Soundness.{Opened, table_of, holds}
use Rattle.history.proofs.SoundTables.{sound-numbered, sound-opened, last-right, key_right, number-right, key-listed, close-sound}
use Rattle.history_reach.specs.Reach.{Closes, maturity_at, UsedPlace, anchor_in, last_day_in, Reached, Exchanged, Spaced}
use Rattle.history_reach.proofs.FrontMoves.{rule-spaced, six-near, between}
use Rattle.history_reach.proofs.Twice.{same-maturities, same-given}

-- the questions of an accepted closure, and what it leaves
record Closed (t : Table) (d : ℕ) : Type 0 where
  sound-before : sound t ≡ true
  covered : in_cover t.calendar.cover d ≡ true
  later : ltb t.date d ≡ true
  trading : trading_day t.calendar d ≡ true
  weeks : every_week (close_day t.calendar d) ≡ true
  full : covered_in t (close_day t.calendar d) t.date ≡ true
  leaves : close_call t d ≡ moved t (close_day t.calendar d) t.date

module _ (t : Table) (d : ℕ) where
  -- all answered yes
  accepts : sound t ≡ true → in_cover t.calendar.cover d ≡ true → ltb t.date d ≡ true → trading_day t.calendar d ≡ true
      → every_week (close_day t.calendar d) ≡ true → covered_in t (close_day t.calendar d) t.date ≡ true
      → close_call t d ≡ moved t (close_day t.calendar d) t.date
  accepts a b c f g h = close-16 t d a b c f g ∙ rw h

  accepted : (close_call t d).refusal ≡ 0 → Closed t d
  unfolding close_call answered
  accepted e = go (eqb (first_no (close_asks t d)) 0) refl e
    where
      go : (b : Bool) → eqb (first_no (close_asks t d)) 0 ≡ b
          → (cond b (moved t (close_day t.calendar d) t.date) (refused_with t (first_no (close_asks t d)))).refusal ≡ 0 → Closed t d
      go true q z =
          let (a, e0) = none-no 9 _ _ (eqb-true (first_no (close_asks t d)) 0 q) in
          let (b, e1) = none-no 10 _ _ e0 in
          let (c, e2) = none-no 12 _ _ e1 in
          let (f, e3) = none-no 13 _ _ e2 in
          let (g, e4) = none-no 14 _ _ e3 in
          let (h, e5) = none-no 15 _ _ e4 in
          record { sound-before = a; covered = b; later = c; trading = f; weeks = g; full = h; leaves = accepts a b c f g h }
      go false q z = clash (eq-eqb (first_no (close_asks t d)) 0 z) q

-- the anchors and days of a rule are those of its kind and group
as-anchor : (c : Cover) (kind : Kind) (group : List ℕ) (k : ℕ) → (cover_rule c kind group).anchor k ≡ anchor_of kind group k
unfolding cover_rule
as-anchor c kind group k = refl

as-day : (c : Cover) (cal : Calendar) (kind : Kind) (group : List ℕ) (k : ℕ) → last_day_of (cover_rule c kind group) cal k ≡ last_trading_day cal kind group k
unfolding cover_rule last_trading_day
as-day c cal kind group k = refl

-- a closure moves no last trading day but one that was the closed day
day-or-stays : (cal : Calendar) (kind : Kind) (group : List ℕ) (d k : ℕ)
    → (last_trading_day cal kind group k ≡ d) ⊎ (last_trading_day (close_day cal d) kind group k ≡ last_trading_day cal kind group k)
unfolding last_trading_day
day-or-stays cal kind group d k = last-but cal d (anchor_of kind group k)

-- what is not unlike is the same
not-unlike : (x y : ℕ) → ((x ≡ y → ⊥) → ⊥) → x ≡ y
not-unlike x y n = go (eqb x y) refl
  where
    go : (b : Bool) → eqb x y ≡ b → x ≡ y
    go true e = eqb-true x y e
    go false e = absurd (n (eqb-false x y e))

-- the day and the days moved in a used place of a sound table
day-right : (t : Table) → sound t ≡ true → (i : ℕ) → UsedPlace t i → (maturity_at t i).day ≡ last_day_in t (maturity_at t i).key
unfolding worked_out
day-right t e i h = ap (λ (l : LastDay). l.day) (last-right t e i h)

back-right : (t : Table) → sound t ≡ true → (i : ℕ) → UsedPlace t i
    → (maturity_at t i).back ≡ anchor_in t (maturity_at t i).key - last_day_in t (maturity_at t i).key
unfolding worked_out
back-right t e i h = ap (λ (l : LastDay). l.back) (last-right t e i h)

module _ (t : Table) (e : sound t ≡ true) where
  abbrev p : Product
  p = t.product

  abbrev cal : Calendar
  cal = t.calendar

  abbrev date : ℕ
  date = t.date

  abbrev r : Rule
  r = rule_of cal p.kind p.group

  w : Lawful (rule_in t t.calendar)
  w = rule-lawful t.calendar.cover t.product.kind t.product.group

  o : Opened t.product t.calendar t.date
  o = sound-opened t e

  s : Spaced (rule_in t t.calendar) t.calendar.cover t.date
  s = rule-spaced t.calendar.cover t.product.kind t.product.group o.valid t.date o.covered o.week

  I : Numbered r cal date (listed_in t) t.given (number_of (listed_in t))
  I = sound-numbered t e

  -- the days in the used places rise
  days-apart : (i j : ℕ) → i < j → UsedPlace t j → (maturity_at t i).day < (maturity_at t j).day
  days-apart i j l h =
      let n : length (fresh_keys r cal date) ≡ length r.places = complete-length r w cal date o.full in
      omega (
        arith,
        day-right t e i (omega arith),
        day-right t e j h,
        ap (last_day_in t) (key_right t e i (omega arith)),
        ap (last_day_in t) (key_right t e j h),
        days-strict cal p.kind p.group o.weeks o.valid date o.covered o.week i j l
            (omega (arith, n, rule-places t.calendar.cover p.kind p.group)),
      )

  -- a listed key is one of the fresh listing
  listed-now : (k : ℕ) → is_listed (listed_in t) k ≡ true → now r cal date k ≡ true
  listed-now k l = sym (present-is r w cal date (listed_in t) t.given (number_of (listed_in t)) I k) ∙ l

  listed-key : (k : ℕ) → is_listed (listed_in t) k ≡ true → Key r w cal date k
  listed-key k l = key-of r w cal date k (listed-now k l)

  -- a calendar of the same cover: what a move to it leaves
  module _ (cal' : Calendar) (c : cal'.cover ≡ t.calendar.cover) where
    same-rule : rule_in t cal' ≡ r
    same-rule = rw c

    abbrev ms' : List Maturity
    ms' = renumbered (listed_in t) t.given (fresh r cal' date)

    abbrev given' : ℕ
    given' = t.given + length (missing (fresh r cal' date) (listed_in t))

    moved_as : (moved t cal' date).table ≡ table_of p cal' date ms' given'
    unfolding moved
    moved_as = rw same-rule

    module _ (a : front r cal date ≤ front r cal' date) where
      replaced : ListingReplaced r cal date (listed_in t) t.given (number_of (listed_in t)) cal' date
      replaced = moves r w cal date (listed_in t) t.given (number_of (listed_in t)) I cal' date a

      -- it holds them
      moved_holds : sound (moved t cal' date).table ≡ true → listed_in (table_of p cal' date ms' given') ≡ ms'
      moved_holds q =
          holds p cal' date ms' given' (numbers_next r cal date t.given (number_of (listed_in t)) cal' date)
          (sound-opened (table_of p cal' date ms' given') (rw moved_as at q)) (rw same-rule replaced.numbered)

  -- a second move leaves what it alone would leave
  module _ (cal₁ cal₂ : Calendar) (c₁ : cal₁.cover ≡ t.calendar.cover) (c₂ : cal₂.cover ≡ t.calendar.cover)
      (a : front r cal date ≤ front r cal₁ date) (b : front r cal₁ date ≤ front r cal₂ date)
      (weeks₂ : every_week cal₂ ≡ true) (q : sound (moved t cal₁ date).table ≡ true) where
    one_of : (front r cal₁ date ≡ front r cal date) ⊎ (front r cal₁ date ≡ front r cal₂ date)
    one_of = between r w t.calendar.cover date s cal cal₂ c₂ weeks₂ cal₁ a b

    second-move : (moved (table_of p cal₁ date (ms' cal₁ c₁) (given' cal₁ c₁)) cal₂ date).table ≡ table_of p cal₂ date (ms' cal₂ c₂) (given' cal₂ c₂)
    unfolding moved
    second-move =
        rw (
          same-rule cal₂ c₂,
          moved_holds cal₁ c₁ a q,
          same-maturities r w cal cal₁ cal₂ date (listed_in t) t.given (number_of (listed_in t)) I a b one_of,
          same-given r w cal cal₁ cal₂ date (listed_in t) t.given (number_of (listed_in t)) I a b one_of,
        )

    twice : (moved (moved t cal₁ date).table cal₂ date).table ≡ (moved t cal₂ date).table
    twice = ap (λ (x : Table). (moved x cal₂ date).table) (moved_as cal₁ c₁) ∙ second-move ∙ sym (moved_as cal₂ c₂)

  -- one accepted closure
  module _ (d : ℕ) (k : Closed t d) where
    abbrev cal' : Calendar
    cal' = close_day t.calendar d

    c' : (close_day t.calendar d).cover ≡ t.calendar.cover
    c' = close-cover t.calendar d

    on : front r cal date ≤ front r (close_day t.calendar d) date
    on = front-fewer r w cal cal' (trading-before cal d) date

    after-sound : sound (moved t (close_day t.calendar d) t.date).table ≡ true
    after-sound = ap (λ (x : Outcome). sound x.table) (sym k.leaves) ∙ close-sound t e d

    abbrev t' : Table
    t' = table_of t.product (close_day t.calendar d) t.date (ms' (close_day t.calendar d) c') (given' (close_day t.calendar d) c')

    e' : sound (table_of t.product (close_day t.calendar d) t.date (ms' (close_day t.calendar d) c') (given' (close_day t.calendar d) c')) ≡ true
    e' = rw (moved_as cal' c') at after-sound

    holds_then : listed_in t' ≡ ms' cal' c'
    holds_then = moved_holds cal' c' on after-sound

    -- 'only of one that ended on the closed day'
    ended : (i : ℕ) → UsedPlace t i → (last_day_in t' (maturity_at t i).key ≡ last_day_in t (maturity_at t i).key → ⊥) → (maturity_at t i).day ≡ d
    ended i h n = go (day-or-stays cal p.kind p.group d (maturity_at t i).key)
      where
        go : (last_day_in t (maturity_at t i).key ≡ d) ⊎ (last_day_in t' (maturity_at t i).key ≡ last_day_in t (maturity_at t i).key) → (maturity_at t i).day ≡ d
        go (inl q) = day-right t e i h ∙ q
        go (inr q) = absurd (n q)

    -- 'of at most one listed maturity'
    same_place : (i j : ℕ) → UsedPlace t i → UsedPlace t j → (maturity_at t i).day ≡ d → (maturity_at t j).day ≡ d → i ≡ j
    same_place i j a b x y = go (lt-or-ge i j) (lt-or-ge j i)
      where
        go : (i < j) ⊎ (j ≤ i) → (j < i) ⊎ (i ≤ j) → i ≡ j
        go (inl l) q = absurd (omega (arith, days-apart i j l b))
        go (inr l) (inl q) = absurd (omega (arith, days-apart j i q a))
        go (inr l) (inr q) = omega arith

    near-anchor : (i : ℕ) → UsedPlace t i
        → (last_day_in t' (maturity_at t i).key ≤ anchor_in t (maturity_at t i).key) × (anchor_in t (maturity_at t i).key ≤ last_day_in t' (maturity_at t i).key + 6)
    near-anchor i h =
        let x = (maturity_at t i).key in
        let q = listed-key x (key-listed t e i h) in
        let a = as-anchor t.calendar.cover p.kind p.group x in
        let b = as-day t.calendar.cover cal' p.kind p.group x in (
          omega (arith, a, b, day-anchor r w cal' x),
          omega (arith, a, b, six-near r w t.calendar.cover date s cal' c' k.weeks x (omega (arith, q.from, s.begins cal)) q.below),
        )

    -- a key in both keeps its number
    number-stays : (x : ℕ) → is_listed (listed_in t) x ≡ true → is_listed (listed_in t') x ≡ true → number_of (listed_in t') x ≡ number_of (listed_in t) x
    number-stays x a b =
        rw holds_then
        ((renumbered-law (listed_in t) t.given (fresh r cal' date) (listing-rises r w cal' date (λ y. 0))).keeps x
        (sym ((replaced cal' c' on).listed x) ∙ (rw holds_then at b)) a)

    number_in : (i j : ℕ) → UsedPlace t i → UsedPlace t' j → (maturity_at t' j).key ≡ (maturity_at t i).key → (maturity_at t' j).number ≡ (maturity_at t i).number
    number_in i j a b q =
        sym (number-right t' e' j b) ∙ ap (number_of (listed_in t')) q
        ∙ number-stays (maturity_at t i).key (key-listed t e i a) (ap (is_listed (listed_in t')) (sym q) ∙ key-listed t' e' j b) ∙ number-right t e i a

    same_in : (i j : ℕ) → UsedPlace t i → UsedPlace t' j → (maturity_at t' j).key ≡ (maturity_at t i).key
        → last_day_in t' (maturity_at t i).key ≡ last_day_in t (maturity_at t i).key
        → maturity_at t' j ≡ maturity_at t i
    same_in i j a b q m =
        same-maturity (maturity_at t' j) (maturity_at t i) q
        (day-right t' e' j b ∙ ap (last_day_in t') q ∙ m ∙ sym (day-right t e i a))
        (back-right t' e' j b ∙ ap (λ (x : ℕ). anchor_in t x - last_day_in t' x) q ∙ ap (λ (x : ℕ). anchor_in t (maturity_at t i).key - x) m ∙
        sym (back-right t e i a))
        (number_in i j a b q)

    -- a listed key whose day is not past then is still listed
    still-there : (x : ℕ) → is_listed (listed_in t) x ≡ true → date ≤ last_day_in t' x → is_listed (listed_in t') x ≡ true
    still-there x l h =
        let q = listed-key x l in
        let f = front-least r w cal' date x q.below q.wide
        (le-leb date (last_day_of r cal' x) (omega (arith, h, as-day t.calendar.cover cal' p.kind p.group x))) in
        rw holds_then
        (present-is r w cal' date (ms' cal' c') (given' cal' c') (numbers_next r cal date t.given (number_of (listed_in t)) cal' date)
        (replaced cal' c' on).numbered x
        ∙ keys-stay r w (front r cal date) (front r cal' date) on x (listed-now x l) f)

    still : (i : ℕ) → UsedPlace t i → last_day_in t' (maturity_at t i).key ≡ last_day_in t (maturity_at t i).key
        → is_listed (listed_in t') (maturity_at t i).key ≡ true
    still i h m =
        let x = (maturity_at t i).key in
        let l = key-listed t e i h in
        still-there x l (omega (arith, (listed-key x l).day, m, as-day t.calendar.cover cal p.kind p.group x))

    past : (i : ℕ) → UsedPlace t i → is_listed (listed_in t') (maturity_at t i).key ≡ false → last_day_in t' (maturity_at t i).key < date
    past i h n = go (lt-or-ge (last_day_in t' (maturity_at t i).key) date)
      where
        go : (last_day_in t' (maturity_at t i).key < date) ⊎ (date ≤ last_day_in t' (maturity_at t i).key) → last_day_in t' (maturity_at t i).key < date
        go (inl l) = l
        go (inr l) = clash (still-there (maturity_at t i).key (key-listed t e i h) l) n

    reached-as : Reached t d t'
    reached-as = record {
      one = λ i j a b x y. same_place i j a b (ended i a x) (ended j b y);
      only = ended;
      near = near-anchor;
      others = λ i j a b q n. same_in i j a b q (not-unlike (last_day_in t' (maturity_at t i).key) (last_day_in t (maturity_at t i).key) n);
      number = number_in;
      stays = λ i a n. still i a (not-unlike (last_day_in t' (maturity_at t i).key) (last_day_in t (maturity_at t i).key) n);
      leaves = past;
      before = day-right t e;
      after = day-right t' e';
    }

  -- 16 is answered yes with more trading days too
  full-more : (cal₁ cal₂ : Calendar) → cal₁.cover ≡ t.calendar.cover → cal₂.cover ≡ t.calendar.cover
      → ((x : ℕ) → trading_day cal₂ x ≡ true → trading_day cal₁ x ≡ true)
      → all_in_cover cal₂ p.kind p.group date ≡ true → all_in_cover cal₁ p.kind p.group date ≡ true
  full-more cal₁ cal₂ c₁ c₂ more f = rw (same-rule cal₁ c₁) (complete-more r w cal₁ cal₂ more date (rw (same-rule cal₂ c₂) at f))

-- two closures in the other order
record Turned (t : Table) (x y : ℕ) : Type 0 where
  first : (close_call t y).refusal ≡ 0
  second : (close_call (close_call t y).table x).refusal ≡ 0
  same : (close_call (close_call t y).table x).table ≡ (close_call (close_call t x).table y).table

-- two accepted closures of different days
module _ (t : Table) (e : sound t ≡ true) (x y : ℕ) (unlike : x ≡ y → ⊥) (kx : Closed t x)
    (z : (close_call (moved t (close_day t.calendar x) t.date).table y).refusal ≡ 0) where
  abbrev calx : Calendar
  calx = close_day t.calendar x

  abbrev caly : Calendar
  caly = close_day t.calendar y

  abbrev calxy : Calendar
  calxy = close_day (close_day t.calendar x) y

  turn : close_day (close_day t.calendar x) y ≡ close_day (close_day t.calendar y) x
  turn = close-turn t.calendar x y

  cxy : (close_day (close_day t.calendar x) y).cover ≡ t.calendar.cover
  cxy = close-cover (close_day t.calendar x) y ∙ close-cover t.calendar x

  -- the second closure's questions, on the table that the first leaves
  record Second : Type 0 where
    covered : in_cover t.calendar.cover y ≡ true
    later : ltb t.date y ≡ true
    trading : trading_day (close_day t.calendar x) y ≡ true
    weeks : every_week (close_day (close_day t.calendar x) y) ≡ true
    full : covered_in t (close_day (close_day t.calendar x) y) t.date ≡ true
    leaves : close_call (moved t (close_day t.calendar x) t.date).table y
        ≡ moved (moved t (close_day t.calendar x) t.date).table (close_day (close_day t.calendar x) y) t.date

  asked : Second
  unfolding moved close_day
  asked =
      let k = accepted (moved t (close_day t.calendar x) t.date).table y z in
      record { covered = k.covered; later = k.later; trading = k.trading; weeks = k.weeks; full = k.full; leaves = k.leaves }

  -- the trading days after both closures are among those after one
  fewer : (q : ℕ) → trading_day (close_day (close_day t.calendar x) y) q ≡ true → trading_day (close_day t.calendar y) q ≡ true
  fewer q h = trading-before (close_day t.calendar y) x q (rw turn at h)

  ky : Closed t y
  ky =
      let k = asked in
      let a = trading-before t.calendar x y k.trading in
      let b = weeks-more (close_day t.calendar y) calxy (cxy ∙ sym (close-cover t.calendar y)) fewer k.weeks in
      let c = full-more t e (close_day t.calendar y) calxy (close-cover t.calendar y) cxy fewer k.full in
      record {
        sound-before = e;
        covered = k.covered;
        later = k.later;
        trading = a;
        weeks = b;
        full = c;
        leaves =
            accepts t y e k.covered k.later a b c;
      }

  -- the first closure, on the table that the second leaves
  last : close_call (moved t (close_day t.calendar y) t.date).table x
      ≡ moved (moved t (close_day t.calendar y) t.date).table (close_day (close_day t.calendar y) x) t.date
  unfolding moved close_day
  last =
      accepts (moved t (close_day t.calendar y) t.date).table x (after-sound t e y ky) kx.covered kx.later
      (trading-other t.calendar y x unlike ∙ kx.trading)
      (ap every_week (sym turn) ∙ asked.weeks)
      (ap (λ (c : Calendar). covered_in t c t.date) (sym turn) ∙ asked.full)

  -- both orders leave what one move to the last calendar leaves
  both-leave : (moved (moved t (close_day t.calendar y) t.date).table (close_day (close_day t.calendar y) x) t.date).table
      ≡ (moved (moved t (close_day t.calendar x) t.date).table (close_day (close_day t.calendar x) y) t.date).table
  both-leave =
      ap (λ (c : Calendar). (moved (moved t (close_day t.calendar y) t.date).table c t.date).table) (sym turn)
      ∙ twice t e caly calxy (close-cover t.calendar y) cxy (on t e y ky) (front-fewer (r t e) (w t e) caly calxy fewer t.date) asked.weeks
      (after-sound t e y ky)
      ∙ sym (twice t e calx calxy (close-cover t.calendar x) cxy (on t e x kx) (front-fewer (r t e) (w t e) calx calxy (trading-before calx y) t.date)
      asked.weeks (after-sound t e x kx))

  turned_as : Turned t x y
  unfolding moved
  turned_as =
      let a : (close_call t y).table ≡ (moved t caly t.date).table = ap (λ (o : Outcome). o.table) ky.leaves in
      let b : (close_call t x).table ≡ (moved t calx t.date).table = ap (λ (o : Outcome). o.table) kx.leaves in
      record {
        first = ap (λ (o : Outcome). o.refusal) ky.leaves;
        second = rw a (ap (λ (o : Outcome). o.refusal) last);
        same = rw (a, b) (ap (λ (o : Outcome). o.table) last ∙ both-leave ∙ sym (ap (λ (o : Outcome). o.table) asked.leaves));
      }

turned : (t : Table) (x y : ℕ) → (close_call t x).refusal ≡ 0 → (close_call (close_call t x).table y).refusal ≡ 0 → Turned t x y
turned t x y a b = go (eqb x y) refl
  where
    go : (c : Bool) → eqb x y ≡ c → Turned t x y
    go true q = subst (λ (v : ℕ). Turned t x v) (eqb-true x y q) (record { first = a; second = rw (sym (eqb-true x y q)) at b; same = refl })
    go false q =
        let k = accepted t x a in
        let h : (close_call t x).table ≡ (moved t (close_day t.calendar x) t.date).table = ap (λ (o : Outcome). o.table) k.leaves in
        turned_as t k.sound-before x y (eqb-false x y q) k (rw h at b)

-- what `Table::close` gives back, where it accepts the closure
pub reached : (t : Table) (d : ℕ) (result : Outcome) → Closes t d result → result.refusal ≡ 0 → Reached t d result.table
reached t d result c z =
    let k = accepted t d (ap (λ (o : Outcome). o.refusal) (sym c) ∙ z) in
    let q : result.table ≡ t' t k.sound-before d k =
    ap (λ (o : Outcome). o.table) (c ∙ k.leaves) ∙ moved_as t k.sound-before (close_day t.calendar d) (c' t k.sound-before d k) in
    rw q (reached-as t k.sound-before d k)

-- what four calls of `Table::close` give back: the days d and e in turn, where both closures are accepted, and e and d in turn
pub exchanged : (t : Table) (d e : ℕ) (first second first' second' : Outcome)
    → Closes t d first → Closes first.table e second → Closes t e first' → Closes first'.table d second'
    → first.refusal ≡ 0 → second.refusal ≡ 0 → Exchanged second first' second'
exchanged t d e first second first' second' a b a' b' y z =
    let two : second ≡ close_call (close_call t d).table e = b ∙ ap (λ (o : Outcome). close_call o.table e) a in
    let two' : second' ≡ close_call (close_call t e).table d = b' ∙ ap (λ (o : Outcome). close_call o.table d) a' in
    let q = turned t d e (ap (λ (o : Outcome). o.refusal) (sym a) ∙ y) (ap (λ (o : Outcome). o.refusal) (sym two) ∙ z) in
    record {
      accepted-first = ap (λ (o : Outcome). o.refusal) a' ∙ q.first;
      accepted-second = ap (λ (o : Outcome). o.refusal) two' ∙ q.second;
      same = ap (λ (o : Outcome). o.table) two' ∙ q.same ∙ sym (ap (λ (o : Outcome). o.table) two);
    }
