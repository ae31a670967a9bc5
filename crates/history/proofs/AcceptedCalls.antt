-- What each accepted call leaves in order, and that the front does not go back.
-- Assumes nothing.
use mathlib.Core.Path.{◌≡◌, refl, ap, ◌∙◌}
use mathlib.Core.Bool.{Bool, true, false, not, ◌&&◌, ◌||◌}
use mathlib.Core.List.{List}
use Prim.Native.Nat.{ℕ, ◌+◌, ◌≤◌}
use native.Mathlib.Omega.{arith}
use lib.Dec.{leb, ltb}
use borrow.Author.Tests.{leb-true, le-leb}
use Rattle.questions.specs.Questions.{first_no}
use Rattle.questions.proofs.Bools.{and-fst, and-snd}
use Rattle.questions.proofs.Asks.{none-no}
use Rattle.days.specs.Gregorian.{weekday_of}
use Rattle.calendar.specs.declared.Cover.{Cover}
use Rattle.calendar.specs.declared.Calendar.{Calendar}
use Rattle.calendar.specs.Trading.{cover_start, in_cover, trading_day, every_week, close_day, reopen_day, closed_on}
use Rattle.calendar.proofs.Closing.{close-cover, trading-before, clean_close}
use Rattle.calendar.proofs.Reopening.{reopen-cover, clean-reopen, weeks-reopen}
use Rattle.product.specs.declared.Kind.{Kind}
use Rattle.product.specs.Fields.{is_weekly}
use Rattle.product.specs.declared.Product.{Product}
use Rattle.amounts.specs.Prices.{new_size}
use Rattle.listing.specs.Rules.{Rule, last_day_of, front, front_stays, complete}
use Rattle.listing.specs.Months.{rule_of, all_in_cover, week_into_cover}
use Rattle.listing.proofs.Lawful.{Lawful, days-rise, front-later}
use Rattle.listing.proofs.FrontStays.{same-front, still-complete}
use Rattle.table_measures.specs.Measures.{with_size}
use Rattle.table_measures.proofs.ValueKept.{asked-range, right-size}
use Rattle.history.specs.Book.{Call, roll, close, reopen, measure, Book, calendar_after, date_after, book_asks}
use Rattle.history.proofs.Soundness.{Opened}

-- a trading day is a Monday to Friday
on-weekday : (cal : Calendar) (d : ℕ) → trading_day cal d ≡ true → ltb (weekday_of d) 5 ≡ true
unfolding trading_day
on-weekday cal d e =
    and-fst (ltb (weekday_of d) 5) (not (closed_on cal d)) (and-snd (in_cover cal.cover d) (ltb (weekday_of d) 5 && not (closed_on cal d)) e)

-- the questions of an accepted call, answered yes
module _ (kind : Kind) (group : List ℕ) (b : Book) where
  -- no question of the book refuses the call
  abbrev pub Accepted : Call → Type 0
  Accepted c = first_no (book_asks kind group b c) ≡ 0

  record Rolled (date : ℕ) : Type 0 where
    covered : in_cover b.calendar.cover date ≡ true
    later : leb b.date date ≡ true
    full : all_in_cover b.calendar kind group date ≡ true

  rolled : (date : ℕ) → Accepted (roll date) → Rolled date
  rolled date e =
      let (a, e1) = none-no 10 _ _ e in
      let (c, e2) = none-no 11 _ _ e1 in
      let (d, e3) = none-no 15 _ _ e2 in
      record { covered = a; later = c; full = d }

  record Closed (day : ℕ) : Type 0 where
    covered : in_cover b.calendar.cover day ≡ true
    trading : trading_day b.calendar day ≡ true
    weeks : every_week (close_day b.calendar day) ≡ true
    full : all_in_cover (close_day b.calendar day) kind group b.date ≡ true

  closed : (day : ℕ) → Accepted (close day) → Closed day
  closed day e =
      let (a, e1) = none-no 10 _ _ e in
      let (c, e2) = none-no 12 _ _ e1 in
      let (d, e3) = none-no 13 _ _ e2 in
      let (f, e4) = none-no 14 _ _ e3 in
      let (g, e5) = none-no 15 _ _ e4 in
      record { covered = a; trading = d; weeks = f; full = g }

  -- 27 of an accepted reopening
  stays : (day : ℕ) → Accepted (reopen day) → front_stays (rule_of b.calendar kind group) b.calendar (reopen_day b.calendar day) b.date ≡ true
  stays day e =
      let (a, e1) = none-no 10 _ _ e in
      let (c, e2) = none-no 12 _ _ e1 in
      let (d, e3) = none-no 25 _ _ e2 in
      let (f, e4) = none-no 26 _ _ e3 in
      f

-- the rule stays
pub rule-stays : (cal : Calendar) (kind : Kind) (group : List ℕ) (c : Call) → rule_of (calendar_after cal c) kind group ≡ rule_of cal kind group
rule-stays cal kind group (roll date) = refl
rule-stays cal kind group (close day) = rw (close-cover cal day)
rule-stays cal kind group (reopen day) = rw (reopen-cover cal day)
rule-stays cal kind group (measure u v price) = refl

-- a later date passes 24 too
week-later : (kind : Kind) (c : Cover) (date later : ℕ) → leb date later ≡ true → week_into_cover kind c date ≡ true → week_into_cover kind c later ≡ true
unfolding week_into_cover
week-later kind c date later l e = go (is_weekly kind) e
  where
    go : (w : Bool) → (not w || leb (cover_start c + 7) date) ≡ true → (not w || leb (cover_start c + 7) later) ≡ true
    go true e = le-leb (cover_start c + 7) later (omega (arith, leb-true (cover_start c + 7) date e, leb-true date later l))
    go false e = refl

-- what an accepted call leaves would open
pub after-opened : (p : Product) (b : Book) → Opened p b.calendar b.date → (c : Call) → Accepted p.kind p.group b c
    → Opened p (calendar_after b.calendar c) (date_after b.date c)
after-opened p b o (roll date) e =
    let y = rolled p.kind p.group b date e in
    record {
      product = o.product;
      valid = o.valid;
      cleaned = o.cleaned;
      weeks = o.weeks;
      covered = y.covered;
      week =
          week-later p.kind b.calendar.cover b.date date y.later o.week;
      full = y.full;
    }
after-opened p b o (close day) e =
    let y = closed p.kind p.group b day e in
    record {
      product = o.product;
      valid = rw (close-cover b.calendar day) o.valid;
      cleaned = clean_close b.calendar day o.cleaned y.covered (on-weekday b.calendar day y.trading);
      weeks = y.weeks;
      covered = rw (close-cover b.calendar day) o.covered;
      week = rw (close-cover b.calendar day) o.week;
      full = y.full;
    }
after-opened p b o (reopen day) e =
    record {
      product = o.product;
      valid = rw (reopen-cover b.calendar day) o.valid;
      cleaned = clean-reopen b.calendar day o.cleaned;
      weeks = weeks-reopen b.calendar day o.weeks;
      covered = rw (reopen-cover b.calendar day) o.covered;
      week = rw (reopen-cover b.calendar day) o.week;
      full = ap (λ (r : Rule). complete r (reopen_day b.calendar day) b.date) (rule-stays b.calendar p.kind p.group (reopen day))
          ∙ still-complete (rule_of b.calendar p.kind p.group) b.calendar (reopen_day b.calendar day) b.date
          (stays p.kind p.group b day e) o.full;
    }
after-opened p b o (measure u v price) e = o

-- so would the product with the size that an accepted measure gives
pub size-opened : (p : Product) (b : Book) (cal : Calendar) (date : ℕ) → Opened p cal date → (u v price : ℕ)
    → Accepted p.kind p.group b (measure u v price)
    → Opened (with_size p (new_size b.size u v)) cal date
size-opened p b cal date o u v price e =
    record {
      product = right-size p (new_size b.size u v) o.product (asked-range p.kind b.size u v price e).size-right;
      valid = o.valid;
      cleaned = o.cleaned;
      weeks = o.weeks;
      covered = o.covered;
      week = o.week;
      full = o.full;
    }

-- an accepted roll or close brings back no key whose day has passed, 27 keeps a reopening from it, and a measure moves no day: the front does not go back
pub forward : (kind : Kind) (group : List ℕ) (b : Book) → Lawful (rule_of b.calendar kind group) → (c : Call) → Accepted kind group b c
    → front (rule_of b.calendar kind group) b.calendar b.date ≤ front (rule_of b.calendar kind group) (calendar_after b.calendar c)
    (date_after b.date c)
forward kind group b w (roll date) e =
    let r = rule_of b.calendar kind group in
    front-later r w b.calendar b.calendar b.date date
    (λ k t. le-leb b.date (last_day_of r b.calendar k)
    (omega (arith, leb-true b.date date (rolled kind group b date e).later, leb-true date (last_day_of r b.calendar k) t)))
forward kind group b w (close day) e =
    let r = rule_of b.calendar kind group in
    front-later r w b.calendar (close_day b.calendar day) b.date b.date
    (λ k t. le-leb b.date (last_day_of r b.calendar k)
    (omega (
      arith,
      leb-true b.date (last_day_of r (close_day b.calendar day) k) t,
      days-rise r w (close_day b.calendar day) b.calendar (trading-before b.calendar day) k k (omega arith),
    )))
forward kind group b w (reopen day) e =
    omega (arith, same-front (rule_of b.calendar kind group) b.calendar (reopen_day b.calendar day) b.date (stays kind group b day e))
forward kind group b w (measure u v price) e = omega arith
