-- A day and a month, printed and read back: the digits of a date are those of its year, month and day, and the day of the date of a day is the day.
-- Assumes nothing.
use mathlib.Core.Path.{◌≡◌, refl, ap}
use mathlib.Core.List.{[], ◌∷◌}
use mathlib.Core.Bool.{true, false, not}
use Prim.Native.Nat.{ℕ, ◌+◌, ◌-◌, ◌*◌, ◌/◌, ◌%◌, ◌≤◌, ◌<◌}
use native.Mathlib.Omega.{arith}
use lib.Dec.{eqb}
use lib.ListN.{length, replicate}
use Rattle.questions.specs.Questions.{Answer}
use Rattle.days.specs.declared.Date.{Date}
use Rattle.days.specs.Gregorian.{first_day, month_year, month_name}
use Rattle.days.specs.Dates.{month_of, date_of, day_call, date_call}
use Rattle.days.proofs.MonthOfDay.{length-bounds, first-suc, first-last, month-is, month-holds, Holds}
use Rattle.days.proofs.Dates.{date-accepted, undo}
use Rattle.product.specs.declared.Kind.{Kind}
use Rattle.product.specs.Fields.{digit, is_weekly}
use Rattle.session_text.specs.TermsText.{last_digit, in_two_digits, in_four_digits, year_month, month_text, date_text, day_text, name_text}
use Rattle.session_lines.specs.declared.Command.{Command}
use Rattle.session_lines.specs.CommandLines.{digit_value, date_form, date_at, move_form, move_command, command_at, command_of}
use Rattle.confirm_lines.specs.ListingLines.{date_in, month_in}
use Rattle.delivery_items.specs.Items.{maturity_read, key_read}
use Rattle.delivery_own.proofs.RowBytes.{all_of, plain, plain-is, all_append, all_more}
use Rattle.delivery_own.proofs.WordsReadBack.{digit-is, digit-back, two-plain, four-plain}

-- a day as a word is read
abbrev pub day_read : ℕ → Command
day_read d = record { letter = 82; id = replicate 4 0; day = d }

-- ---- the ten characters of a date

module _ (a b c e f g h i day : ℕ) (da : digit a ≡ true) (db : digit b ≡ true) (dc : digit c ≡ true) (de : digit e ≡ true)
    (df : digit f ≡ true) (dg : digit g ≡ true) (dh : digit h ≡ true) (di : digit i ≡ true)
    (call : day_call (100 * (10 * digit_value a + digit_value b) + (10 * digit_value c + digit_value e))
    (10 * digit_value f + digit_value g) (10 * digit_value h + digit_value i)
    ≡ record { refusal = 0; value = day }) where
  ten-read : date_in (a ∷ b ∷ c ∷ e ∷ 45 ∷ f ∷ g ∷ 45 ∷ h ∷ i ∷ []) ≡ day_read day
  unfolding date_in command_of command_at move_command move_form date_at date_form
  ten-read = rw (da, db, dc, de, df, dg, dh, di, call) refl

two_back : (n : ℕ) → n < 100 → 10 * digit_value (last_digit (n / 10)) + digit_value (last_digit n) ≡ n
two_back n h = rw (digit-back (n / 10), digit-back n) (omega arith)

date-read : (x : Date) (day : ℕ) → x.year < 10000 → x.month < 100 → x.day < 100
    → day_call x.year x.month x.day ≡ record { refusal = 0; value = day } → date_in (date_text x) ≡ day_read day
unfolding date_text year_month in_four_digits in_two_digits
date-read x day y m d e =
    ten-read (last_digit (x.year / 100 / 10)) (last_digit (x.year / 100)) (last_digit (x.year % 100 / 10)) (last_digit (x.year % 100))
    (last_digit (x.month / 10)) (last_digit x.month) (last_digit (x.day / 10)) (last_digit x.day) day
    (digit-is (x.year / 100 / 10)) (digit-is (x.year / 100)) (digit-is (x.year % 100 / 10)) (digit-is (x.year % 100))
    (digit-is (x.month / 10)) (digit-is x.month) (digit-is (x.day / 10)) (digit-is x.day)
    (rw (two_back (x.year / 100) (omega arith), two_back (x.year % 100) (omega arith), two_back x.month m, two_back x.day d, whole) e)
  where
    whole : 100 * (x.year / 100) + x.year % 100 ≡ x.year
    whole = omega arith

-- ---- a day

day-of-date : (d : ℕ) → d < 36525 → day_call (date_of d).year (date_of d).month (date_of d).day ≡ record { refusal = 0; value = d }
day-of-date d h =
    let a : date_call d ≡ record { refusal = 0; value = date_of d } = date-accepted d h in
    rw a at (undo.date-then-day d (ap (λ (x : Answer Date). x.refusal) a))

-- a day before 2100 is read back from its date
pub day-back : (d : ℕ) → d < 36525 → date_in (day_text d) ≡ day_read d
unfolding day_text date_of
day-back d h =
    let k : Holds d (month_of d) = month-holds d h in
    rw (date-accepted d h)
    (date-read (date_of d) d (omega (arith, k.within)) (omega arith) (omega (arith, k.from, k.until, first-suc (month_of d), length-bounds (month_of d)))
    (day-of-date d h))

-- ---- a month, by its first day

abbrev first_date : ℕ → Date
first_date k = record { year = month_year k; month = month_name k; day = 1 }

first-month : (k : ℕ) → k < 1200 → month_of (first_day k) ≡ k
first-month k h = month-is k (first_day k) (omega arith) (omega arith) (omega (arith, first-suc k, length-bounds k))

first-of-month : (k : ℕ) → k < 1200 → day_call (month_year k) (month_name k) 1 ≡ record { refusal = 0; value = first_day k }
unfolding date_of
first-of-month k h =
    let one : first_day k - first_day k + 1 ≡ 1 = omega arith in
    rw (first-month k h, one) at (day-of-date (first_day k) (omega (arith, first-last k h, length-bounds k)))

-- a month before 2100 is read back from its text, as its first day
pub month-back : (k : ℕ) → k < 1200 → month_in (month_text k) ≡ day_read (first_day k)
unfolding month_in month_text date_text in_two_digits
month-back k h = date-read (first_date k) (first_day k) (omega arith) (omega arith) (omega arith) (first-of-month k h)

-- ---- the name of a maturity

dash-plain : plain 45 ≡ true
dash-plain = plain-is 45 (omega arith) (λ e. omega arith)

year-plain : (y m : ℕ) → all_of plain (year_month y m) ≡ true
unfolding year_month
year-plain y m = all_append plain (in_four_digits y) (45 ∷ in_two_digits m) (four-plain y) (all_more plain 45 (in_two_digits m) dash-plain (two-plain m))

-- the bytes of a date are those of a field
pub day-plain : (d : ℕ) → all_of plain (day_text d) ≡ true
unfolding day_text date_text
day-plain d =
    let x : Date = (date_call d).value in
    all_append plain (year_month x.year x.month) (45 ∷ in_two_digits x.day) (year-plain x.year x.month)
    (all_more plain 45 (in_two_digits x.day) dash-plain (two-plain x.day))

day-long : (d : ℕ) → length (day_text d) ≡ 10
unfolding day_text date_text year_month in_four_digits in_two_digits
day-long d = refl

month-long : (k : ℕ) → length (month_text k) ≡ 7
unfolding month_text year_month in_four_digits in_two_digits
month-long k = refl

pub record NameBack (kind : Kind) (k : ℕ) : Type 0 where
  -- the name is read as a maturity
  pub there : eqb (maturity_read (name_text kind k)).letter 0 ≡ false
  -- what is read has the key that was printed
  pub key : key_read (name_text kind k) (maturity_read (name_text kind k)).day ≡ k
  -- the name has the form of its kind: a month has 7 bytes, the date of a weekly kind has not
  pub weekly : not (eqb (length (name_text kind k)) 7) ≡ is_weekly kind
  -- its bytes are those of a field
  pub fields : all_of plain (name_text kind k) ≡ true
  -- it has at most 10 bytes
  pub short : length (name_text kind k) ≤ 10

friday-read : (k : ℕ) → k < 36525 → (maturity_read (day_text k) ≡ day_read k) × (key_read (day_text k) k ≡ k)
unfolding maturity_read key_read
friday-read k h = (rw (day-long k) (day-back k h), rw (day-long k) refl)

month-read : (k : ℕ) → k < 1200 → (maturity_read (month_text k) ≡ day_read (first_day k)) × (key_read (month_text k) (first_day k) ≡ k)
unfolding maturity_read key_read
month-read k h = (rw (month-long k) (month-back k h), rw (month-long k) (first-month k h))

module _ (kind : Kind) (k : ℕ) where
  name-friday : is_weekly kind ≡ true → name_text kind k ≡ day_text k
  unfolding name_text
  name-friday e = rw e refl

  name-month : is_weekly kind ≡ false → name_text kind k ≡ month_text k
  unfolding name_text
  name-month e = rw e refl

  -- the name of a weekly kind, the date of a day before 2100, is read back
  pub friday-back : is_weekly kind ≡ true → k < 36525 → NameBack kind k
  friday-back e h =
      let n = name-friday e in
      let r = friday-read k h in
      record {
        there = rw (n, r.0) refl;
        key = rw (n, r.0) r.1;
        weekly = rw (n, day-long k, e) refl;
        fields = rw n (day-plain k);
        short = rw (n, day-long k) (omega arith);
      }

  -- the name of any other kind, a month before 2100, is read back
  pub month-name-back : is_weekly kind ≡ false → k < 1200 → NameBack kind k
  unfolding month_text
  month-name-back e h =
      let n = name-month e in
      let r = month-read k h in
      record {
        there = rw (n, r.0) refl;
        key = rw (n, r.0) r.1;
        weekly = rw (n, month-long k, e) refl;
        fields = rw n (year-plain (month_year k) (month_name k));
        short = rw (n, month-long k) (omega arith);
      }
