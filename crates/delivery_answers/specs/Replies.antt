-- What `query` answers (docs/DELIVERY.md, `query`, from which the quotations are; docs/DECISIONS.md, The delivery).
-- Assumes nothing.
use Rattle.std.specs.Prelude.{ℕ, ◌/◌, ◌%◌, ◌≡◌, Bool, true, false, not, ◌&&◌, cond, List, [], ◌∷◌, ◌++◌, eqb}
use Rattle.questions.specs.Questions.{Answer}
use Rattle.session_text.specs.TermsText.{in_four_digits, day_text, spaced}
use Rattle.amounts.specs.declared.Amount.{Amount}
use Rattle.expiry.specs.declared.LastDay.{LastDay}
use Rattle.table.specs.declared.Table.{Table}
use Rattle.table_values.specs.Values.{last_day_call, due_call}
use Rattle.table_prices.specs.TablePrices.{tick_call, cash_call}
use Rattle.file_text_print.specs.Contents.{part_text}
use Rattle.delivery_lines.specs.NoticeLines.{trimmed, held}
use Rattle.delivery_questions.specs.declared.QuestionLine.{QuestionLine}
use Rattle.delivery_questions.specs.QuestionLines.{Question, last, due, tick, cash, size, Asked, nothing, bad, asks, asked_by}
use Rattle.delivery_answers.specs.declared.Standing.{Standing}
use Rattle.delivery_answers.specs.Numbers.{number_text}

-- '`NO n`'
unfoldable pub no_text : ℕ → List ℕ
no_text number = (78 ∷ 79 ∷ []) ++ spaced number

-- '`OK`'
abbrev pub ok_text : List ℕ
ok_text = 79 ∷ 75 ∷ []

-- 'the last trading day and the days back'
unfoldable pub last_day_text : Answer LastDay → List ℕ
last_day_text a = cond (eqb a.refusal 0) (day_text a.value.day ++ spaced a.value.back) (no_text a.refusal)

-- 'the due day'
unfoldable pub due_text : Answer ℕ → List ℕ
due_text a = cond (eqb a.refusal 0) (day_text a.value) (no_text a.refusal)

-- '`OK`', of a price that passes
unfoldable pub tick_text : ℕ → List ℕ
tick_text refusal = cond (eqb refusal 0) ok_text (no_text refusal)

-- 'a minus [45] before a negative one'
unfoldable pub sign_text : Bool → List ℕ
sign_text negative = cond negative (45 ∷ []) []

-- 'the amount with eight digits after the point [46], a minus before a negative one (`48.00000000`, `-0.00000001`, zero without a sign)':
-- an amount in 1/10,000 and a rest of 0 to 9,999 of 1/100,000,000
unfoldable pub amount_text : Amount → List ℕ
amount_text a =
    sign_text a.negative
    ++ (number_text (a.amount / 10000) ++ ((46 ∷ []) ++ (in_four_digits (a.amount % 10000) ++ in_four_digits a.rest)))

-- the same, or '`NO n`'
unfoldable pub cash_text : Answer Amount → List ℕ
cash_text a = cond (eqb a.refusal 0) (amount_text a.value) (no_text a.refusal)

-- 'the size as in the text of a master file (`150`, `33.3333`)',
-- in ten-thousandths of a share
unfoldable pub size_text : ℕ → List ℕ
size_text n = number_text (n / 10000) ++ part_text (n % 10000)

-- 'last trading day, due, tick, cash, size of that table':
-- what is answered to a question of a table
unfoldable pub question_text : Table → Question → List ℕ
question_text t (last friday key) = last_day_text (last_day_call t key)
question_text t (due day) = due_text (due_call t day)
question_text t (tick price) = tick_text (tick_call t price)
question_text t (cash contracts agreed final) = cash_text (cash_call t contracts agreed final)
question_text t size = size_text t.product.size

-- 'or `NO n`: 9 of an id that is not in the file, the opening's number of a product without a table, else the call's'
unfoldable pub reply_text : Standing → Question → List ℕ
reply_text s q = cond s.known (cond (eqb s.refusal 0) (question_text s.table q) (no_text s.refusal)) (no_text 9)

-- a Friday names a maturity of a product with months, or a month one of a weekly product
abbrev pub other_sort : Bool → Bool → Bool
other_sort friday weekly = cond friday (not weekly) weekly

-- '`last` in the form of the other sort of maturity';
-- of an id that is not in the file both are taken
unfoldable pub misfits : Standing → Question → Bool
misfits s (last friday key) = s.known && other_sort friday s.weekly
misfits s (due day) = false
misfits s (tick price) = false
misfits s (cash contracts agreed final) = false
misfits s size = false

-- '`BAD K`', and a line feed, 10
unfoldable pub bad_question_text : ℕ → List ℕ
bad_question_text k = (66 ∷ 65 ∷ 68 ∷ 32 ∷ []) ++ (number_text k ++ (10 ∷ []))

-- 'The answer is the line, without blanks at its end, a space and ..':
-- of a line with a number that asks something, by what is known of the product with an id
unfoldable pub asked_text : (List ℕ → Standing) → ℕ → List ℕ → Asked → List ℕ
asked_text of k line nothing = []
asked_text of k line bad = bad_question_text k
asked_text of k line (asks id q) = cond (misfits (of id) q) (bad_question_text k) (line ++ ((32 ∷ []) ++ (reply_text (of id) q ++ (10 ∷ []))))

-- what is answered to a line
unfoldable pub question_answer : (List ℕ → Standing) → ℕ → List ℕ → List ℕ
question_answer of k line = asked_text of k (trimmed line) (asked_by line)

-- 'else the call's' number:
-- whether a question of a table is refused; the size is not
unfoldable pub question_refused : Table → Question → Bool
question_refused t (last friday key) = not (eqb (last_day_call t key).refusal 0)
question_refused t (due day) = not (eqb (due_call t day).refusal 0)
question_refused t (tick price) = not (eqb (tick_call t price) 0)
question_refused t (cash contracts agreed final) = not (eqb (cash_call t contracts agreed final).refusal 0)
question_refused t size = false

-- whether the answer to a question is '`NO n`'
unfoldable pub reply_refused : Standing → Question → Bool
reply_refused s q = cond s.known (cond (eqb s.refusal 0) (question_refused s.table q) true) true

-- whether the answer to a line is '`NO n`' or '`BAD K`'
unfoldable pub asked_refused : (List ℕ → Standing) → Asked → Bool
asked_refused of nothing = false
asked_refused of bad = true
asked_refused of (asks id q) = cond (misfits (of id) q) true (reply_refused (of id) q)

-- only the code needs it: what is answered to a question as it is held, by its letter
unfoldable pub held_text : Table → QuestionLine → List ℕ
held_text t q =
    cond (eqb q.letter 108) (last_day_text (last_day_call t q.day))
    (cond (eqb q.letter 100) (due_text (due_call t q.day))
    (cond (eqb q.letter 116) (tick_text (tick_call t q.number))
    (cond (eqb q.letter 99) (cash_text (cash_call t q.number q.agreed q.final_price)) (size_text t.product.size))))

-- only the code needs it: the same of what is known of a product
unfoldable pub held_reply : Standing → QuestionLine → List ℕ
held_reply s q = cond s.known (cond (eqb s.refusal 0) (held_text s.table q) (no_text s.refusal)) (no_text 9)

-- only the code needs it: what stands after the line
unfoldable pub reply_line : Standing → QuestionLine → List ℕ
reply_line s q = (32 ∷ []) ++ (held_reply s q ++ (10 ∷ []))

-- only the code needs it
unfoldable pub held_misfits : Standing → QuestionLine → Bool
held_misfits s q = eqb q.letter 108 && (s.known && other_sort q.friday s.weekly)

-- 'one that is too large for its call is refused by its question ([..] 19, 22)':
-- the answer to a question with numbers as they are held is that to the question itself
pub record SameAnswers (t : Table) : Type 0 where
  pub tick-held : (price : ℕ) → tick_call t (held price) ≡ tick_call t price
  pub cash-held : (contracts agreed final : ℕ) → cash_call t (held contracts) (held agreed) (held final) ≡ cash_call t contracts agreed final
