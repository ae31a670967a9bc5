-- The texts of the answers, case by case, as the code builds them in a line.
-- Assumes nothing.
use mathlib.Core.Path.{◌≡◌, refl}
use mathlib.Core.Bool.{Bool, true, false, and-false}
use mathlib.Core.List.{List, [], ◌∷◌, ◌++◌}
use Prim.Native.Nat.{ℕ, ◌/◌, ◌%◌, ◌≤◌, ◌<◌}
use lib.Dec.{eqb}
use borrow.Author.Tests.{lt-ltb, le-ltb, eq-eqb, ne_eqb}
use Rattle.questions.specs.Questions.{Answer}
use Rattle.amounts.specs.declared.Amount.{Amount}
use Rattle.expiry.specs.declared.LastDay.{LastDay}
use Rattle.table.specs.declared.Table.{Table}
use Rattle.table_values.specs.Values.{last_day_call, due_call}
use Rattle.table_prices.specs.TablePrices.{tick_call, cash_call}
use Rattle.session_lines.specs.declared.Line.{Line}
use Rattle.session_lines.specs.CommandLines.{fed}
use Rattle.session_text.specs.TermsText.{in_four_digits, decimal, day_text, spaced}
use Rattle.file_text_print.specs.Contents.{LineWith}
use Rattle.delivery_questions.specs.declared.QuestionLine.{QuestionLine}
use Rattle.delivery_answers.specs.declared.Standing.{Standing}
use Rattle.delivery_answers.specs.Numbers.{in_eight_digits, decimal_short, number_text}
use Rattle.delivery_answers.specs.Replies.{no_text, ok_text, last_day_text, due_text, tick_text, sign_text, amount_text, cash_text, size_text, other_sort, held_text}
use Rattle.delivery_answers.specs.Replies.{held_reply, held_misfits}

-- some bytes
pub bytes : (l r : Line) (text : List ℕ) → r ≡ fed l text → LineWith l text r
bytes l r text e = record { is = e }

-- no bytes
pub none : (l : Line) → LineWith l [] l
unfolding fed
none l = record { is = refl }

module _ (l r : Line) (n : ℕ) where
  -- on a line the short decimal of a number below 10,000 is its decimal
  pub short-few : n < 10000 → LineWith l (decimal n) r → LineWith l (decimal_short n) r
  unfolding decimal_short
  short-few h g = rw (lt-ltb n 10000 h) g

  -- on a line the short decimal of a number from 10,000 on is the decimal of its upper part, then its last four digits
  pub short-many : 10000 ≤ n → LineWith l (decimal (n / 10000) ++ in_four_digits (n % 10000)) r → LineWith l (decimal_short n) r
  unfolding decimal_short
  short-many h g = rw (le-ltb n 10000 h) g

  -- on a line the text of a number below 100,000,000 is its short decimal
  pub number-8 : n < 100000000 → LineWith l (decimal_short n) r → LineWith l (number_text n) r
  unfolding number_text
  number-8 h g = rw (lt-ltb n 100000000 h) g

  -- on a line the text of a number of nine to 16 digits is the short decimal of its upper part, then its last eight digits
  pub number-16 : 100000000 ≤ n → n / 100000000 < 100000000 → LineWith l (decimal_short (n / 100000000) ++ in_eight_digits (n % 100000000)) r
      → LineWith l (number_text n) r
  unfolding number_text
  number-16 h k g = rw (le-ltb n 100000000 h, lt-ltb (n / 100000000) 100000000 k) g

  -- on a line the text of a number of more than 16 digits is the short decimal of its upper part, then its last sixteen digits
  pub number-24 : 100000000 ≤ n → 100000000 ≤ n / 100000000
      → LineWith l ((decimal_short (n / 100000000 / 100000000) ++ in_eight_digits (n / 100000000 % 100000000)) ++ in_eight_digits (n % 100000000)) r
      → LineWith l (number_text n) r
  unfolding number_text
  number-24 h k g = rw (le-ltb n 100000000 h, le-ltb (n / 100000000) 100000000 k) g

  -- the answer to `tick` is `NO n` where the price is refused
  pub tick-no : (n ≡ 0 → ⊥) → LineWith l (no_text n) r → LineWith l (tick_text n) r
  unfolding tick_text
  tick-no e g = rw (ne_eqb n 0 e) g

  -- the answer to `tick` is `OK` where the price passes
  pub tick-yes : n ≡ 0 → LineWith l ok_text r → LineWith l (tick_text n) r
  unfolding tick_text
  tick-yes e g = rw (eq-eqb n 0 e) g

module _ (l r : Line) (a : Answer LastDay) where
  -- the answer to `last` is `NO n` where the call is refused
  pub last-no : (a.refusal ≡ 0 → ⊥) → LineWith l (no_text a.refusal) r → LineWith l (last_day_text a) r
  unfolding last_day_text
  last-no e g = rw (ne_eqb a.refusal 0 e) g

  -- the answer to `last` is the last trading day and the days back where the call is accepted
  pub last-yes : a.refusal ≡ 0 → LineWith l (day_text a.value.day ++ spaced a.value.back) r → LineWith l (last_day_text a) r
  unfolding last_day_text
  last-yes e g = rw (eq-eqb a.refusal 0 e) g

module _ (l r : Line) (a : Answer ℕ) where
  -- the answer to `due` is `NO n` where the call is refused
  pub due-no : (a.refusal ≡ 0 → ⊥) → LineWith l (no_text a.refusal) r → LineWith l (due_text a) r
  unfolding due_text
  due-no e g = rw (ne_eqb a.refusal 0 e) g

  -- the answer to `due` is the due day where the call is accepted
  pub due-yes : a.refusal ≡ 0 → LineWith l (day_text a.value) r → LineWith l (due_text a) r
  unfolding due_text
  due-yes e g = rw (eq-eqb a.refusal 0 e) g

module _ (l r : Line) (a : Answer Amount) where
  -- the answer to `cash` is `NO n` where the call is refused
  pub cash-no : (a.refusal ≡ 0 → ⊥) → LineWith l (no_text a.refusal) r → LineWith l (cash_text a) r
  unfolding cash_text
  cash-no e g = rw (ne_eqb a.refusal 0 e) g

  -- the answer to `cash` is the amount where the call is accepted
  pub cash-yes : a.refusal ≡ 0 → LineWith l (amount_text a.value) r → LineWith l (cash_text a) r
  unfolding cash_text
  cash-yes e g = rw (eq-eqb a.refusal 0 e) g

module _ (l r : Line) (negative : Bool) where
  -- the sign of a negative amount is a minus
  pub sign-minus : negative ≡ true → LineWith l (45 ∷ []) r → LineWith l (sign_text negative) r
  unfolding sign_text
  sign-minus e g = rw e g

  -- an amount that is not negative has no sign
  pub sign-none : negative ≡ false → LineWith l [] r → LineWith l (sign_text negative) r
  unfolding sign_text
  sign-none e g = rw e g

-- a question by its letter
module _ (l r : Line) (t : Table) (q : QuestionLine) where
  -- a question held with the letter l is answered with the last trading day of its table
  pub held-last : q.letter ≡ 108 → (a : Answer LastDay) → a ≡ last_day_call t q.day → LineWith l (last_day_text a) r → LineWith l (held_text t q) r
  unfolding held_text
  held-last e a k g = rw (eq-eqb q.letter 108 e, ← k) g

  module _ (x : q.letter ≡ 108 → ⊥) where
    -- a question held with the letter d is answered with the due day of its table
    pub held-due : q.letter ≡ 100 → (a : Answer ℕ) → a ≡ due_call t q.day → LineWith l (due_text a) r → LineWith l (held_text t q) r
    unfolding held_text
    held-due e a k g = rw (ne_eqb q.letter 108 x, eq-eqb q.letter 100 e, ← k) g

    module _ (y : q.letter ≡ 100 → ⊥) where
      -- a question held with the letter t is answered by whether the price passes in its table
      pub held-tick : q.letter ≡ 116 → (a : ℕ) → a ≡ tick_call t q.number → LineWith l (tick_text a) r → LineWith l (held_text t q) r
      unfolding held_text
      held-tick e a k g = rw (ne_eqb q.letter 108 x, ne_eqb q.letter 100 y, eq-eqb q.letter 116 e, ← k) g

      module _ (z : q.letter ≡ 116 → ⊥) where
        -- a question held with the letter c is answered with the cash of its table
        pub held-cash : q.letter ≡ 99 → (a : Answer Amount) → a ≡ cash_call t q.number q.agreed q.final_price → LineWith l (cash_text a) r
            → LineWith l (held_text t q) r
        unfolding held_text
        held-cash e a k g =
            rw (ne_eqb q.letter 108 x, ne_eqb q.letter 100 y, ne_eqb q.letter 116 z, eq-eqb q.letter 99 e, ← k) g

        -- a question held with none of the letters l, d, t and c is answered with the size of its table
        pub held-size : (q.letter ≡ 99 → ⊥) → LineWith l (size_text t.product.size) r → LineWith l (held_text t q) r
        unfolding held_text
        held-size e g =
            rw (ne_eqb q.letter 108 x, ne_eqb q.letter 100 y, ne_eqb q.letter 116 z, ne_eqb q.letter 99 e) g

-- by what is known of the product
module _ (l r : Line) (s : Standing) (q : QuestionLine) where
  -- the answer of an id that is not in the file is `NO 9`
  pub reply-unknown : s.known ≡ false → LineWith l (no_text 9) r → LineWith l (held_reply s q) r
  unfolding held_reply
  reply-unknown e g = rw e g

  -- the answer of a product without a table is `NO n` with the number of its opening's refusal
  pub reply-refused : s.known ≡ true → (s.refusal ≡ 0 → ⊥) → LineWith l (no_text s.refusal) r → LineWith l (held_reply s q) r
  unfolding held_reply
  reply-refused e n g = rw (e, ne_eqb s.refusal 0 n) g

  -- the answer of a product with a table is that of the table
  pub reply-table : s.known ≡ true → s.refusal ≡ 0 → LineWith l (held_text s.table q) r → LineWith l (held_reply s q) r
  unfolding held_reply
  reply-table e n g = rw (e, eq-eqb s.refusal 0 n) g

module _ (s : Standing) (q : QuestionLine) where
  -- a question other than `last` never has the form of the other sort of maturity
  pub misfit-other : (q.letter ≡ 108 → ⊥) → false ≡ held_misfits s q
  unfolding held_misfits
  misfit-other e = rw (ne_eqb q.letter 108 e) refl

  -- of an id that is not in the file no question has the form of the other sort of maturity
  pub misfit-unknown : s.known ≡ false → false ≡ held_misfits s q
  unfolding held_misfits
  misfit-unknown e = rw (e, and-false (eqb q.letter 108)) refl

  -- `last` of an id in the file has the wrong form exactly where its maturity is not of the product's sort
  pub misfit-is : q.letter ≡ 108 → s.known ≡ true → other_sort q.friday s.weekly ≡ held_misfits s q
  unfolding held_misfits
  misfit-is e k = rw (eq-eqb q.letter 108 e, k) refl
