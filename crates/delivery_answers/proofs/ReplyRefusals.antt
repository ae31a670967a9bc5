-- What stands after a question is refused exactly where its second byte, after the space, is an N: all other answers begin with a digit, a minus or an O.
-- Assumes nothing.
use mathlib.Core.Path.{◌≡◌, refl, ◌∙◌, ap}
use mathlib.Core.Bool.{Bool, true, false, not, cond}
use mathlib.Core.List.{List, [], ◌∷◌, ◌++◌, append_assoc}
use Prim.Native.Nat.{ℕ, ◌+◌, ◌/◌, ◌%◌}
use native.Mathlib.Omega.{arith}
use lib.Dec.{eqb, ltb}
use lib.ListN.{get_or}
use borrow.Author.Tests.{ne_eqb}
use Rattle.questions.specs.Questions.{Answer}
use Rattle.amounts.specs.declared.Amount.{Amount}
use Rattle.days.specs.declared.Date.{Date}
use Rattle.days.specs.Dates.{date_call}
use Rattle.expiry.specs.declared.LastDay.{LastDay}
use Rattle.table.specs.declared.Table.{Table}
use Rattle.table_values.specs.Values.{last_day_call, due_call}
use Rattle.table_prices.specs.TablePrices.{tick_call, cash_call}
use Rattle.session_text.specs.TermsText.{last_digit, in_two_digits, in_four_digits, decimal, year_month, date_text, day_text, spaced}
use Rattle.file_text_print.specs.Contents.{part_text}
use Rattle.delivery_questions.specs.QuestionLines.{Question, last, due, tick, cash, size, asks, asked_held}
use Rattle.delivery_answers.specs.declared.Standing.{Standing}
use Rattle.delivery_answers.specs.Numbers.{in_eight_digits, decimal_short, number_text}
use Rattle.delivery_answers.specs.Replies.{no_text, ok_text, last_day_text, due_text, tick_text, sign_text, amount_text, cash_text, size_text}
use Rattle.delivery_answers.specs.Replies.{question_text, reply_text, question_refused, reply_refused, reply_line}
use Rattle.delivery_answers.proofs.QuestionHeld.{reply-text}

-- the first byte of a text, whatever follows it, is no N, 78
record NoN (x : List ℕ) : Type 0 where
  is : (rest : List ℕ) → eqb (get_or (x ++ rest) 0 0) 78 ≡ false

digit : (n : ℕ) → eqb (last_digit n) 78 ≡ false
digit n = ne_eqb (48 + n % 10) 78 (λ e. omega (arith, e))

either : (b : Bool) (x y : List ℕ) → NoN x → NoN y → NoN (cond b x y)
either true x y p q = p
either false x y p q = q

more : (x y : List ℕ) → NoN x → NoN (x ++ y)
more x y p = record { is = λ rest. ap (λ (z : List ℕ). eqb (get_or z 0 0) 78) (append_assoc x y rest) ∙ p.is (y ++ rest) }

two : (n : ℕ) → NoN (in_two_digits n)
unfolding in_two_digits
two n = record { is = λ rest. digit (n / 10) }

four : (n : ℕ) → NoN (in_four_digits n)
unfolding in_four_digits
four n = more (in_two_digits (n / 100)) (in_two_digits (n % 100)) (two (n / 100))

one : (n : ℕ) (y : List ℕ) → NoN (last_digit n ∷ y)
one n y = record { is = λ rest. digit n }

decimal-no : (n : ℕ) → NoN (decimal n)
unfolding decimal
decimal-no n =
    either (ltb n 10) (last_digit n ∷ []) to-two (one n [])
    (either (ltb n 100) (in_two_digits n) to-three (two n)
    (either (ltb n 1000) (last_digit (n / 100) ∷ in_two_digits (n % 100)) to-four (one (n / 100) (in_two_digits (n % 100)))
    (either (ltb n 10000) (in_four_digits n) (last_digit (n / 10000) ∷ in_four_digits (n % 10000)) (four n) (one (n / 10000) (in_four_digits (n % 10000))))))
  where
    to-four : List ℕ
    to-four = cond (ltb n 10000) (in_four_digits n) (last_digit (n / 10000) ∷ in_four_digits (n % 10000))

    to-three : List ℕ
    to-three = cond (ltb n 1000) (last_digit (n / 100) ∷ in_two_digits (n % 100)) to-four

    to-two : List ℕ
    to-two = cond (ltb n 100) (in_two_digits n) to-three

short-no : (n : ℕ) → NoN (decimal_short n)
unfolding decimal_short
short-no n =
    either (ltb n 10000) (decimal n) (decimal (n / 10000) ++ in_four_digits (n % 10000)) (decimal-no n)
    (more (decimal (n / 10000)) (in_four_digits (n % 10000)) (decimal-no (n / 10000)))

number-no : (n : ℕ) → NoN (number_text n)
unfolding number_text
number-no n =
    either (ltb n 100000000) (decimal_short n) (cond (ltb (n / 100000000) 100000000) middle long) (short-no n)
    (either (ltb (n / 100000000) 100000000) middle long
    (more (decimal_short (n / 100000000)) (in_eight_digits (n % 100000000)) (short-no (n / 100000000)))
    (more upper (in_eight_digits (n % 100000000))
    (more (decimal_short (n / 100000000 / 100000000)) (in_eight_digits (n / 100000000 % 100000000)) (short-no (n / 100000000 / 100000000)))))
  where
    middle : List ℕ
    middle = decimal_short (n / 100000000) ++ in_eight_digits (n % 100000000)

    upper : List ℕ
    upper = decimal_short (n / 100000000 / 100000000) ++ in_eight_digits (n / 100000000 % 100000000)

    long : List ℕ
    long = upper ++ in_eight_digits (n % 100000000)

date-no : (d : Date) → NoN (date_text d)
unfolding date_text year_month
date-no d =
    more (in_four_digits d.year ++ (45 ∷ in_two_digits d.month)) (45 ∷ in_two_digits d.day)
    (more (in_four_digits d.year) (45 ∷ in_two_digits d.month) (four d.year))

day-no : (d : ℕ) → NoN (day_text d)
unfolding day_text
day-no d = date-no (date_call d).value

ok-no : NoN ok_text
ok-no = record { is = λ rest. refl }

amount-no : (a : Amount) → NoN (amount_text a)
unfolding amount_text sign_text
amount-no a = go a.negative
  where
    after : List ℕ
    after = (46 ∷ []) ++ (in_four_digits (a.amount % 10000) ++ in_four_digits a.rest)

    go : (b : Bool) → NoN (cond b (45 ∷ []) [] ++ (number_text (a.amount / 10000) ++ after))
    go true = record { is = λ rest. refl }
    go false = more (number_text (a.amount / 10000)) after (number-no (a.amount / 10000))

size-no : (n : ℕ) → NoN (size_text n)
unfolding size_text
size-no n = more (number_text (n / 10000)) (part_text (n % 10000)) (number-no (n / 10000))

-- an answer, or `NO n`
no-first : (n : ℕ) (rest : List ℕ) → eqb (get_or (no_text n ++ rest) 0 0) 78 ≡ true
unfolding no_text
no-first n rest = refl

or_no : (b : Bool) (x : List ℕ) (n : ℕ) → NoN x → (rest : List ℕ) → eqb (get_or (cond b x (no_text n) ++ rest) 0 0) 78 ≡ not b
or_no true x n p rest = p.is rest
or_no false x n p rest = no-first n rest

of-table : (t : Table) (q : Question) (rest : List ℕ) → eqb (get_or (question_text t q ++ rest) 0 0) 78 ≡ question_refused t q
unfolding question_text question_refused last_day_text due_text tick_text cash_text
of-table t (last friday key) rest =
    let a : Answer LastDay = last_day_call t key in
    or_no (eqb a.refusal 0) (day_text a.value.day ++ spaced a.value.back) a.refusal
    (more (day_text a.value.day) (spaced a.value.back) (day-no a.value.day)) rest
of-table t (due day) rest =
    let a : Answer ℕ = due_call t day in
    or_no (eqb a.refusal 0) (day_text a.value) a.refusal (day-no a.value) rest
of-table t (tick price) rest = or_no (eqb (tick_call t price) 0) ok_text (tick_call t price) ok-no rest
of-table t (cash contracts agreed final) rest =
    let a : Answer Amount = cash_call t contracts agreed final in
    or_no (eqb a.refusal 0) (amount_text a.value) a.refusal (amount-no a.value) rest
of-table t size rest = (size-no t.product.size).is rest

of-standing : (s : Standing) (q : Question) (rest : List ℕ) → eqb (get_or (reply_text s q ++ rest) 0 0) 78 ≡ reply_refused s q
unfolding reply_text reply_refused
of-standing s q rest = go s.known (eqb s.refusal 0)
  where
    go : (a b : Bool) → eqb (get_or (cond a (cond b (question_text s.table q) (no_text s.refusal)) (no_text 9) ++ rest) 0 0) 78
        ≡ cond a (cond b (question_refused s.table q) true) true
    go true true = of-table s.table q rest
    go true false = no-first s.refusal rest
    go false b = no-first 9 rest

-- what stands after a question as it is held has an N in its second place exactly where the answer is `NO n`
pub reply-refused : (s : Standing) (id : List ℕ) (q : Question) → eqb (get_or (reply_line s (asked_held (asks id q))) 1 0) 78 ≡ reply_refused s q
reply-refused s id q = ap (λ (x : List ℕ). eqb (get_or x 1 0) 78) (reply-text s id q) ∙ of-standing s q (10 ∷ [])
