-- What stands after a question, and the line of a bad one, have fewer than 64 bytes.
-- Assumes nothing.
use mathlib.Core.Bool.{Bool, true, false, cond}
use mathlib.Core.List.{List, [], ◌∷◌, ◌++◌}
use Prim.Native.Nat.{ℕ, ◌/◌, ◌%◌, ◌≤◌, ◌<◌}
use native.Mathlib.Omega.{arith}
use native.Mathlib.Nat.{le_refl}
use lib.Dec.{eqb, ltb}
use lib.ListN.{length, length-append}
use Rattle.questions.specs.Questions.{Answer}
use Rattle.amounts.specs.declared.Amount.{Amount}
use Rattle.expiry.specs.declared.LastDay.{LastDay}
use Rattle.table.specs.declared.Table.{Table}
use Rattle.table_values.specs.Values.{last_day_call, due_call}
use Rattle.table_prices.specs.TablePrices.{tick_call, cash_call}
use Rattle.session_text.specs.TermsText.{in_two_digits, in_four_digits, decimal, day_text, spaced}
use Rattle.file_text_print.specs.Contents.{part_text}
use Rattle.file_text_print.proofs.TextLengths.{decimal-short, day-long}
use Rattle.delivery_questions.specs.declared.QuestionLine.{QuestionLine}
use Rattle.delivery_answers.specs.declared.Standing.{Standing}
use Rattle.delivery_answers.specs.Numbers.{in_eight_digits, decimal_short, number_text}
use Rattle.delivery_answers.specs.Replies.{no_text, ok_text, last_day_text, due_text, tick_text, sign_text, amount_text, cash_text, size_text, bad_question_text}
use Rattle.delivery_answers.specs.Replies.{held_text, held_reply, reply_line}

-- one of two texts
either : (b : Bool) (x y : List ℕ) (n : ℕ) → length x ≤ n → length y ≤ n → length (cond b x y) ≤ n
either true x y n h k = h
either false x y n h k = k

four-long : (n : ℕ) → length (in_four_digits n) ≤ 4
unfolding in_four_digits in_two_digits
four-long n = le_refl 4

eight-long : (n : ℕ) → length (in_eight_digits n) ≤ 8
unfolding in_eight_digits
eight-long n = omega (arith, length-append (in_four_digits (n / 10000)) (in_four_digits (n % 10000)), four-long (n / 10000), four-long (n % 10000))

-- the short decimal of a number has at most 9 bytes
pub short-most : (n : ℕ) → length (decimal_short n) ≤ 9
unfolding decimal_short
short-most n =
    either (ltb n 10000) (decimal n) (decimal (n / 10000) ++ in_four_digits (n % 10000)) 9 (omega (arith, decimal-short n))
    (omega (arith, length-append (decimal (n / 10000)) (in_four_digits (n % 10000)), decimal-short (n / 10000), four-long (n % 10000)))

-- the text of a number has at most 25 bytes
pub number-most : (n : ℕ) → length (number_text n) ≤ 25
unfolding number_text
number-most n =
    either (ltb n 100000000) (decimal_short n) (cond (ltb (n / 100000000) 100000000) two three) 25 (omega (arith, short-most n))
    (either (ltb (n / 100000000) 100000000) two three 25
    (omega (arith, length-append (decimal_short (n / 100000000)) (in_eight_digits (n % 100000000)), short-most (n / 100000000), eight-long (n % 100000000)))
    (omega (
      arith,
      length-append (decimal_short (n / 100000000 / 100000000) ++ in_eight_digits (n / 100000000 % 100000000)) (in_eight_digits (n % 100000000)),
      length-append (decimal_short (n / 100000000 / 100000000)) (in_eight_digits (n / 100000000 % 100000000)),
      short-most (n / 100000000 / 100000000),
      eight-long (n / 100000000 % 100000000),
      eight-long (n % 100000000),
    )))
  where
    two : List ℕ
    two = decimal_short (n / 100000000) ++ in_eight_digits (n % 100000000)

    three : List ℕ
    three = (decimal_short (n / 100000000 / 100000000) ++ in_eight_digits (n / 100000000 % 100000000)) ++ in_eight_digits (n % 100000000)

spaced-most : (n : ℕ) → length (spaced n) ≤ 6
unfolding spaced
spaced-most n = omega (arith, decimal-short n)

no-most : (n : ℕ) → length (no_text n) ≤ 8
unfolding no_text
no-most n = omega (arith, spaced-most n)

part-most : (n : ℕ) → length (part_text n) ≤ 5
unfolding part_text
part-most n = either (eqb n 0) [] ((46 ∷ []) ++ in_four_digits n) 5 (omega arith) (omega (arith, four-long n))

last-most : (a : Answer LastDay) → length (last_day_text a) ≤ 60
unfolding last_day_text
last-most a =
    either (eqb a.refusal 0) (day_text a.value.day ++ spaced a.value.back) (no_text a.refusal) 60
    (omega (arith, length-append (day_text a.value.day) (spaced a.value.back), day-long a.value.day, spaced-most a.value.back))
    (omega (arith, no-most a.refusal))

due-most : (a : Answer ℕ) → length (due_text a) ≤ 60
unfolding due_text
due-most a =
    either (eqb a.refusal 0) (day_text a.value) (no_text a.refusal) 60 (omega (arith, day-long a.value)) (omega (arith, no-most a.refusal))

tick-most : (n : ℕ) → length (tick_text n) ≤ 60
unfolding tick_text
tick-most n = either (eqb n 0) ok_text (no_text n) 60 (omega arith) (omega (arith, no-most n))

sign-most : (b : Bool) → length (sign_text b) ≤ 1
unfolding sign_text
sign-most b = either b (45 ∷ []) [] 1 (omega arith) (omega arith)

amount-most : (a : Amount) → length (amount_text a) ≤ 60
unfolding amount_text
amount-most a =
    omega (
      arith,
      length-append (sign_text a.negative) (number_text (a.amount / 10000) ++ ((46 ∷ []) ++ (in_four_digits (a.amount % 10000) ++ in_four_digits a.rest))),
      length-append (number_text (a.amount / 10000)) ((46 ∷ []) ++ (in_four_digits (a.amount % 10000) ++ in_four_digits a.rest)),
      length-append (in_four_digits (a.amount % 10000)) (in_four_digits a.rest),
      sign-most a.negative,
      number-most (a.amount / 10000),
      four-long (a.amount % 10000),
      four-long a.rest,
    )

cash-most : (a : Answer Amount) → length (cash_text a) ≤ 60
unfolding cash_text
cash-most a =
    either (eqb a.refusal 0) (amount_text a.value) (no_text a.refusal) 60 (amount-most a.value) (omega (arith, no-most a.refusal))

size-most : (n : ℕ) → length (size_text n) ≤ 60
unfolding size_text
size-most n =
    omega (arith, length-append (number_text (n / 10000)) (part_text (n % 10000)), number-most (n / 10000), part-most (n % 10000))

held-most : (t : Table) (q : QuestionLine) → length (held_text t q) ≤ 60
unfolding held_text
held-most t q =
    either (eqb q.letter 108) (last_day_text (last_day_call t q.day)) due-on 60 (last-most (last_day_call t q.day))
    (either (eqb q.letter 100) (due_text (due_call t q.day)) tick-on 60 (due-most (due_call t q.day))
    (either (eqb q.letter 116) (tick_text (tick_call t q.number)) cash-on 60 (tick-most (tick_call t q.number))
    (either (eqb q.letter 99) (cash_text (cash_call t q.number q.agreed q.final_price)) (size_text t.product.size) 60
    (cash-most (cash_call t q.number q.agreed q.final_price)) (size-most t.product.size))))
  where
    cash-on : List ℕ
    cash-on = cond (eqb q.letter 99) (cash_text (cash_call t q.number q.agreed q.final_price)) (size_text t.product.size)

    tick-on : List ℕ
    tick-on = cond (eqb q.letter 116) (tick_text (tick_call t q.number)) cash-on

    due-on : List ℕ
    due-on = cond (eqb q.letter 100) (due_text (due_call t q.day)) tick-on

reply-most : (s : Standing) (q : QuestionLine) → length (held_reply s q) ≤ 60
unfolding held_reply
reply-most s q =
    either s.known (cond (eqb s.refusal 0) (held_text s.table q) (no_text s.refusal)) (no_text 9) 60
    (either (eqb s.refusal 0) (held_text s.table q) (no_text s.refusal) 60 (held-most s.table q) (omega (arith, no-most s.refusal)))
    (omega (arith, no-most 9))

-- what stands after a question has fewer than 64 bytes
pub reply-short : (s : Standing) (q : QuestionLine) → length (reply_line s q) < 64
unfolding reply_line
reply-short s q = omega (arith, length-append (held_reply s q) (10 ∷ []), reply-most s q)

-- the line of a bad question has fewer than 64 bytes
pub bad-short : (k : ℕ) → length (bad_question_text k) < 64
unfolding bad_question_text
bad-short k = omega (arith, length-append (number_text k) (10 ∷ []), number-most k)
