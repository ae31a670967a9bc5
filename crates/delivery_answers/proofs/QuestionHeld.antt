-- A question as it is held gets the answer of the question itself: 19 and 22 refuse every number that is held as another, and refuse what is held for it.
-- Assumes nothing.
use mathlib.Core.Path.{◌≡◌, refl, ◌∙◌, sym, ap}
use mathlib.Core.Bool.{Bool, true, false, ◌&&◌, cond, and-false}
use mathlib.Core.Logic.{◌⊎◌, inl, inr}
use mathlib.Core.List.{List, [], ◌∷◌, ◌++◌}
use Prim.Native.Nat.{ℕ, ◌/◌, ◌≤◌, ◌<◌}
use native.Mathlib.Omega.{arith}
use lib.Dec.{leb}
use borrow.Author.Tests.{lt-leb, lt-ltb, le-ltb}
use Rattle.questions.specs.Questions.{ask, first_no, Answer, answer}
use Rattle.questions.proofs.Bools.{lt-or-ge}
use Rattle.product.specs.Fields.{is_future}
use Rattle.amounts.specs.declared.Amount.{Amount}
use Rattle.amounts.specs.Prices.{price_right, multiple_of, final_right, contracts_right, cash_amount, cash_parts, no_amount}
use Rattle.table.specs.declared.Table.{Table}
use Rattle.table.specs.Table.{sound}
use Rattle.table_prices.specs.TablePrices.{tick_call, cash_asks, cash_call}
use Rattle.session_text.specs.TermsText.{decimal}
use Rattle.session_text.proofs.TermsTexts.{decimal-1, decimal-5}
use Rattle.delivery_lines.specs.NoticeLines.{held}
use Rattle.delivery_lines.proofs.NoticeValues.{held_small, held-large}
use Rattle.delivery_questions.specs.QuestionLines.{Question, last, due, tick, cash, size, asks, asked_held}
use Rattle.delivery_answers.specs.declared.Standing.{Standing}
use Rattle.delivery_answers.specs.Numbers.{decimal_short, number_text}
use Rattle.delivery_answers.specs.Replies.{tick_text, cash_text, question_text, reply_text, misfits, held_text, held_reply, reply_line, held_misfits, SameAnswers}

-- a number is held as it is, or both are too large
sized : (n : ℕ) → (held n ≡ n) ⊎ ((999999999 < held n) × (999999999 < n))
sized n = go (lt-or-ge 1000000000 n)
  where
    go : (1000000000 < n) ⊎ (n ≤ 1000000000) → (held n ≡ n) ⊎ ((999999999 < held n) × (999999999 < n))
    go (inl h) = inr (omega (arith, held-large n h), omega arith)
    go (inr h) = inl (sym (held_small n h))

tick-large : (t : Table) (price : ℕ) → 999999999 < price → tick_call t price ≡ cond (sound t) 19 10
unfolding tick_call first_no
tick-large t price h = rw (lt-leb price 999999999 h, and-false (leb 1 price)) refl

tick-held : (t : Table) (price : ℕ) → tick_call t (held price) ≡ tick_call t price
tick-held t price = go (sized price)
  where
    go : (held price ≡ price) ⊎ ((999999999 < held price) × (999999999 < price)) → tick_call t (held price) ≡ tick_call t price
    go (inl e) = ap (tick_call t) e
    go (inr (h, k)) = tick-large t (held price) h ∙ sym (tick-large t price k)

-- what 19, and what 22 refuses has no value
no-19 : (s : Bool) (a b c a' b' c' : Bool) (v w : Amount)
    → answer (ask 10 s ∷ ask 19 false ∷ ask 20 a ∷ ask 21 b ∷ ask 22 c ∷ []) no_amount v
    ≡ answer (ask 10 s ∷ ask 19 false ∷ ask 20 a' ∷ ask 21 b' ∷ ask 22 c' ∷ []) no_amount w
unfolding answer first_no
no-19 true a b c a' b' c' v w = refl
no-19 false a b c a' b' c' v w = refl

no-22 : (s p m f : Bool) (v w : Amount)
    → answer (ask 10 s ∷ ask 19 p ∷ ask 20 m ∷ ask 21 f ∷ ask 22 false ∷ []) no_amount v
    ≡ answer (ask 10 s ∷ ask 19 p ∷ ask 20 m ∷ ask 21 f ∷ ask 22 false ∷ []) no_amount w
unfolding answer first_no
no-22 true true true true v w = refl
no-22 true true true false v w = refl
no-22 true true false f v w = refl
no-22 true false m f v w = refl
no-22 false p m f v w = refl

module _ (t : Table) where
  contracts-large : (c d a f : ℕ) → 999999999 < c → 999999999 < d → cash_call t c a f ≡ cash_call t d a f
  unfolding cash_call cash_asks
  contracts-large c d a f h k =
      rw (lt-leb c 100000 (omega arith), lt-leb d 100000 (omega arith), and-false (leb 1 c), and-false (leb 1 d), and-false (leb f 999999999))
      (no-22 (sound t) (price_right a) (multiple_of t.product.tick a) (is_future t.product.kind) (cash_parts (cash_amount c t.product.size a f))
      (cash_parts (cash_amount d t.product.size a f)))

  agreed-large : (c a b f : ℕ) → 999999999 < a → 999999999 < b → cash_call t c a f ≡ cash_call t c b f
  unfolding cash_call cash_asks
  agreed-large c a b f h k =
      rw (lt-leb a 999999999 h, lt-leb b 999999999 k, and-false (leb 1 a), and-false (leb 1 b))
      (no-19 (sound t) (multiple_of t.product.tick a) (is_future t.product.kind) (final_right f && contracts_right c) (multiple_of t.product.tick b)
      (is_future t.product.kind) (final_right f && contracts_right c) (cash_parts (cash_amount c t.product.size a f))
      (cash_parts (cash_amount c t.product.size b f)))

  final-large : (c a f g : ℕ) → 999999999 < f → 999999999 < g → cash_call t c a f ≡ cash_call t c a g
  unfolding cash_call cash_asks
  final-large c a f g h k =
      rw (lt-leb f 999999999 h, lt-leb g 999999999 k)
      (no-22 (sound t) (price_right a) (multiple_of t.product.tick a) (is_future t.product.kind) (cash_parts (cash_amount c t.product.size a f))
      (cash_parts (cash_amount c t.product.size a g)))

  held_in : (call : ℕ → Answer Amount) → ((m n : ℕ) → 999999999 < m → 999999999 < n → call m ≡ call n) → (n : ℕ) → call (held n) ≡ call n
  held_in call large n = go (sized n)
    where
      go : (held n ≡ n) ⊎ ((999999999 < held n) × (999999999 < n)) → call (held n) ≡ call n
      go (inl e) = ap call e
      go (inr (h, k)) = large (held n) n h k

  cash-held : (c a f : ℕ) → cash_call t (held c) (held a) (held f) ≡ cash_call t c a f
  cash-held c a f =
      held_in (λ (n : ℕ). cash_call t n (held a) (held f)) (λ m n h k. contracts-large m n (held a) (held f) h k) c
      ∙ held_in (λ (n : ℕ). cash_call t c n (held f)) (λ m n h k. agreed-large c m n (held f) h k) a
      ∙ held_in (λ (n : ℕ). cash_call t c a n) (λ m n h k. final-large c a m n h k) f

-- numbers that are too large are refused as they are
pub same-answers : (t : Table) → SameAnswers t
same-answers t = record { tick-held = tick-held t; cash-held = cash-held t }

-- what is answered to a question as it is held
pub question-text : (t : Table) (id : List ℕ) (q : Question) → held_text t (asked_held (asks id q)) ≡ question_text t q
unfolding held_text question_text asked_held
question-text t id (last friday key) = refl
question-text t id (due day) = refl
question-text t id (tick price) = ap tick_text (tick-held t price)
question-text t id (cash contracts agreed final) = ap cash_text (cash-held t contracts agreed final)
question-text t id size = refl

-- what stands after a question as it is held is a space, the answer to the question itself and a line feed
pub reply-text : (s : Standing) (id : List ℕ) (q : Question) → reply_line s (asked_held (asks id q)) ≡ (32 ∷ []) ++ (reply_text s q ++ (10 ∷ []))
unfolding reply_line held_reply reply_text
reply-text s id q = rw (question-text s.table id q) refl

-- a question as it is held has the form of the other sort of maturity exactly where the question itself has
pub misfit-text : (s : Standing) (id : List ℕ) (q : Question) → held_misfits s (asked_held (asks id q)) ≡ misfits s q
unfolding held_misfits misfits asked_held
misfit-text s id (last friday key) = refl
misfit-text s id (due day) = refl
misfit-text s id (tick price) = refl
misfit-text s id (cash contracts agreed final) = refl
misfit-text s id size = refl

-- a number of at most five digits is written as in the text of a master file
few : (n : ℕ) → n < 10000 → decimal_short n ≡ decimal n
unfolding decimal_short
few n h = rw (lt-ltb n 10000 h) refl

many : (n : ℕ) → n < 100000 → 10000 ≤ n → decimal_short n ≡ decimal n
unfolding decimal_short
many n h l =
    rw (le-ltb n 10000 l, decimal-1 (n / 10000) (omega arith), decimal-5 n (omega arith) (omega arith) (omega arith) l) refl

-- a number below 100,000 is written as in the text of a master file
pub as-listed : (n : ℕ) → n < 100000 → number_text n ≡ decimal n
unfolding number_text
as-listed n h = rw (lt-ltb n 100000000 (omega arith)) (go (lt-or-ge n 10000))
  where
    go : (n < 10000) ⊎ (10000 ≤ n) → decimal_short n ≡ decimal n
    go (inl l) = few n l
    go (inr l) = many n h l
