-- The texts of numbers, days and maturities, case by case.
-- Assumes nothing.
use mathlib.Core.Path.{◌≡◌, refl, ap}
use mathlib.Core.Bool.{Bool, true, false, cond}
use mathlib.Core.List.{List, [], ◌∷◌, ◌++◌}
use Prim.Native.Nat.{ℕ, ◌+◌, ◌-◌, ◌*◌, ◌/◌, ◌%◌, ◌≤◌, ◌<◌}
use native.Mathlib.Numerals.{add-one}
use native.Mathlib.Omega.{arith}
use lib.Dec.{lit≤}
use lib.ListN.{get_or}
use borrow.Author.Tests.{lt-ltb, le-ltb}
use Rattle.questions.specs.Questions.{Answer}
use Rattle.days.specs.declared.Date.{Date}
use Rattle.std.specs.Prelude.{Result, Ok, Err}
use Rattle.std.specs.Result.{result_unwrap_or}
use Rattle.questions.specs.declared.Refusal.{Refusal}
use Rattle.days.specs.Dates.{date_call, date_answer, zero_date}
use Rattle.product.specs.declared.Kind.{Kind}
use Rattle.product.specs.declared.Kind.TheVariants.{Future, Option}
use Rattle.product.specs.declared.ListingText.TheVariants.{Of2008, Of2005}
use Rattle.product.specs.declared.Term.TheVariants.{Months12, Months24, Months60, Weeks5}
use Rattle.product.specs.Fields.{is_weekly}
use Rattle.listing.specs.declared.Maturity.{Maturity}
use Rattle.listing.specs.Rules.{unused}
use Rattle.listing.specs.Months.{places_of, places_of_kind}
use Rattle.session_text.specs.TermsText.{last_digit, in_two_digits, in_four_digits, decimal, maturity_text, maturities_text, name_width, lines_width}
use Rattle.session_text.specs.Buffer.{Written}

-- a number by how many digits it has
module _ (n : ℕ) where
  -- a number below 10 is written in one digit
  pub decimal-1 : n < 10 → decimal n ≡ last_digit n ∷ []
  unfolding decimal
  decimal-1 a = rw (lt-ltb n 10 a) refl

  module _ (a : 10 ≤ n) where
    -- a number from 10 to 99 is written in two digits
    pub decimal-2 : n < 100 → decimal n ≡ in_two_digits n
    unfolding decimal
    decimal-2 b = rw (le-ltb n 10 a, lt-ltb n 100 b) refl

    module _ (b : 100 ≤ n) where
      -- a number from 100 to 999 is written in three digits
      pub decimal-3 : n < 1000 → decimal n ≡ last_digit (n / 100) ∷ in_two_digits (n % 100)
      unfolding decimal
      decimal-3 d = rw (le-ltb n 10 a, le-ltb n 100 b, lt-ltb n 1000 d) refl

      module _ (d : 1000 ≤ n) where
        -- a number from 1000 to 9999 is written in four digits
        pub decimal-4 : n < 10000 → decimal n ≡ in_four_digits n
        unfolding decimal
        decimal-4 e = rw (le-ltb n 10 a, le-ltb n 100 b, le-ltb n 1000 d, lt-ltb n 10000 e) refl

        -- a number of 10000 or more is written as the last digit of its ten thousands, then four digits
        pub decimal-5 : 10000 ≤ n → decimal n ≡ last_digit (n / 10000) ∷ in_four_digits (n % 10000)
        unfolding decimal
        decimal-5 e = rw (le-ltb n 10 a, le-ltb n 100 b, le-ltb n 1000 d, le-ltb n 10000 e) refl

-- a year of 2000 to 2099: 2, 0 and the years after 2000 in two digits
pub year-digits : (year : ℕ) → 2000 ≤ year → year < 2100 → in_four_digits year ≡ 50 ∷ (48 ∷ in_two_digits (year - 2000))
unfolding in_four_digits in_two_digits
year-digits year a b =
    let first : year / 100 ≡ 20 = omega arith in
    let rest : year % 100 ≡ year - 2000 = omega arith in
    rw (first, rest) refl

-- the date in the answer of the call from a day to its date, and the zero date of a number that is not a day
pub date-or-zeros : (a : Result Date Refusal) (d : ℕ) → date_answer a ≡ date_call d → result_unwrap_or a zero_date ≡ (date_call d).value
date-or-zeros (Ok x) d e = ap (λ (r : Answer Date). r.value) e
date-or-zeros (Err k) d e = ap (λ (r : Answer Date). r.value) e

-- no maturity, and one more
pub no_lines : (a : List ℕ) (at : ℕ) (kind : Kind) (ms : List Maturity) → Written a a at at (maturities_text kind 0 ms)
unfolding maturities_text
no_lines a at kind ms = record { is = refl; to = omega arith; long = refl }

-- the lines of one more maturity are the lines before and the line of that maturity
pub more-lines : (kind : Kind) (i : ℕ) (ms : List Maturity) → maturities_text kind (i + 1) ms ≡ maturities_text kind i ms ++ maturity_text kind (get_or ms i unused)
unfolding maturities_text
more-lines kind i ms = rw (add-one i) refl

-- the lines of all maturities are written once the last one is
pub lines-done : {a b : List ℕ} {at next : ℕ} (kind : Kind) (i n : ℕ) (ms : List Maturity) → n ≤ i → i ≤ n → Written a b at next (maturities_text kind i ms)
    → Written a b at next (maturities_text kind n ms)
lines-done kind i n ms h l w =
    let e : n ≡ i = omega arith in
    rw e w

-- the widths of a name: 10 characters of a date, 7 of a month
pub width-weekly : (kind : Kind) → is_weekly kind ≡ true → name_width kind ≡ 10
unfolding name_width
width-weekly kind e = rw e

-- a name of a kind that is not weekly is 7 characters wide
pub width-months : (kind : Kind) → is_weekly kind ≡ false → name_width kind ≡ 7
unfolding name_width
width-months kind e = rw e

-- no lines have no width
pub no-width : (kind : Kind) → lines_width kind 0 ≡ 0
unfolding lines_width
no-width kind = go (is_weekly kind)
  where
    go : (w : Bool) → cond w (34 * 0) (31 * 0) ≡ 0
    go true = refl
    go false = refl

-- one line more
pub lines-wider : (kind : Kind) (i : ℕ) → lines_width kind (i + 1) ≡ lines_width kind i + (24 + name_width kind)
unfolding lines_width name_width
lines-wider kind i = go (is_weekly kind)
  where
    go : (w : Bool) → cond w (34 * (i + 1)) (31 * (i + 1)) ≡ cond w (34 * i) (31 * i) + (24 + cond w 10 7)
    go true = omega arith
    go false = omega arith

-- more lines are at least as wide
pub lines-rise : (kind : Kind) (i n : ℕ) → i ≤ n → lines_width kind i ≤ lines_width kind n
unfolding lines_width
lines-rise kind i n h = go (is_weekly kind)
  where
    go : (w : Bool) → cond w (34 * i) (31 * i) ≤ cond w (34 * n) (31 * n)
    go true = omega arith
    go false = omega arith

-- the lines of every kind's listing
pub lines-most : (kind : Kind) → lines_width kind (places_of_kind kind) ≤ 465
unfolding lines_width places_of
lines-most (Future Of2008) = lit≤ tt
lines-most (Future Of2005) = lit≤ tt
lines-most (Option Months12) = lit≤ tt
lines-most (Option Months24) = lit≤ tt
lines-most (Option Months60) = lit≤ tt
lines-most (Option Weeks5) = lit≤ tt
