-- A call as it is held has the answer of the call itself: what is held otherwise is refused by the same question.
-- Assumes nothing.
use mathlib.Core.Path.{◌≡◌, refl, ◌∙◌, sym, ap}
use mathlib.Core.Bool.{Bool, true, false, ◌&&◌, cond, and-false}
use mathlib.Core.Logic.{◌⊎◌, inl, inr}
use mathlib.Core.List.{List, [], ◌∷◌, map}
use Prim.Native.Nat.{ℕ, ◌≤◌, ◌<◌}
use native.Mathlib.Omega.{arith}
use lib.Dec.{eqb, leb}
use borrow.Author.Tests.{le-leb, lt-leb, leb-true}
use Rattle.questions.proofs.Bools.{both, lt-or-ge}
use Rattle.questions.specs.Questions.{Ask, ask, first_no}
use Rattle.calendar.specs.Trading.{in_cover, close_day, reopen_day}
use Rattle.calendar.proofs.Covered.{covers-past}
use Rattle.amounts.specs.Prices.{price_right, ratio_right}
use Rattle.table_measures.specs.Measures.{measure_asks, unmeasured, measure_call}
use Rattle.product.specs.Fields.{is_future}
use Rattle.table.specs.declared.Table.{Table}
use Rattle.table.specs.declared.Outcome.{Outcome}
use Rattle.table.specs.Table.{sound, moved, refused_with, answered, roll_call, close_call, reopen_call, roll_asks, close_asks, reopen_asks}
use Rattle.history.specs.Book.{Call, roll, close, reopen, measure}
use Rattle.history.specs.History.{unpriced, uncounted, table_call, table_run}
use Rattle.history_replay.specs.Replay.{short_in}
use Rattle.delivery_lines.specs.NoticeLines.{held}
use Rattle.delivery_lines.proofs.NoticeValues.{held_small, held-large}
use Rattle.delivery_notices.specs.Notices.{Notice}
use Rattle.delivery_notices.specs.NoticeLists.{call_held, notice_held}
use Rattle.delivery_tables.specs.Tables.{is_measure, concerns, calls_for, noticed, refusals_for}
use Rattle.delivery_tables.proofs.NoticesOnTable.{run-first}

-- ---- days past every cover

-- 11 is answered no, where 10 is not already: the rest is not asked
past-no : (s : Bool) (n : ℕ) (rest : List Ask) → first_no (ask 10 s ∷ ask 11 false ∷ rest) ≡ cond s 11 10
unfolding first_no
past-no true n rest = refl
past-no false n rest = refl

not-zero : (s : Bool) → eqb (cond s 11 10) 0 ≡ false
not-zero true = refl
not-zero false = refl

past-answer : (t : Table) (asks : List Ask) (x : Outcome) → first_no asks ≡ cond (sound t) 11 10 → answered t asks x ≡ refused_with t (cond (sound t) 11 10)
unfolding answered
past-answer t asks x e = rw (e, not-zero (sound t)) refl

module _ (t : Table) (day : ℕ) (h : 36525 ≤ day) where
  past-cover : in_cover t.calendar.cover day ≡ false
  past-cover = covers-past t.calendar.cover day h

  past-roll : roll_call t day ≡ refused_with t (cond (sound t) 11 10)
  unfolding roll_call
  past-roll = past-answer t (roll_asks t day) (moved t t.calendar day) (rw past-cover (past-no (sound t) day _))

  past-close : close_call t day ≡ refused_with t (cond (sound t) 11 10)
  unfolding close_call
  past-close = past-answer t (close_asks t day) (moved t (close_day t.calendar day) t.date) (rw past-cover (past-no (sound t) day _))

  past-reopen : reopen_call t day ≡ refused_with t (cond (sound t) 11 10)
  unfolding reopen_call
  past-reopen = past-answer t (reopen_asks t day) (moved t (reopen_day t.calendar day) t.date) (rw past-cover (past-no (sound t) day _))

short-small : (n : ℕ) → n ≤ 65535 → short_in n ≡ n
short-small n h = rw (le-leb n 65535 h) refl

short-large : (n : ℕ) → 65535 < n → short_in n ≡ 65535
short-large n h = rw (lt-leb n 65535 h) refl

-- ---- numbers past those of 28 and 19

price-out : (n : ℕ) → 999999999 < n → price_right n ≡ false
price-out n h = rw (lt-leb n 999999999 h) (and-false (leb 1 n))

held_out : (n : ℕ) → 999999999 < n → 999999999 < held n
held_out n h = go (lt-or-ge 1000000000 n)
  where
    go : (1000000000 < n) ⊎ (n ≤ 1000000000) → 999999999 < held n
    go (inl g) = omega (arith, held-large n g)
    go (inr g) = omega (arith, held_small n g)

price-same : (n : ℕ) → price_right (held n) ≡ price_right n
price-same n = go (lt-or-ge 999999999 n)
  where
    go : (999999999 < n) ⊎ (n ≤ 999999999) → price_right (held n) ≡ price_right n
    go (inl h) = price-out (held n) (held_out n h) ∙ sym (price-out n h)
    go (inr h) = ap price_right (sym (held_small n (omega arith)))

price-kept : (n : ℕ) → price_right n ≡ true → held n ≡ n
price-kept n e = sym (held_small n (omega (arith, leb-true n 999999999 (both (leb 1 n) (leb n 999999999) e).1)))

abbrev capped : ℕ → ℕ
capped n = short_in (held n)

capped_small : (n : ℕ) → n ≤ 1000 → capped n ≡ n
capped_small n h =
    let e : n ≡ held n = held_small n (omega arith) in
    ap short_in (sym e) ∙ short-small n (omega arith)

capped-out : (n : ℕ) → 1000 < n → 1000 < capped n
capped-out n h = go (lt-or-ge 65535 (held n))
  where
    big : 1000 < held n
    big = at (lt-or-ge 1000000000 n)
      where
        at : (1000000000 < n) ⊎ (n ≤ 1000000000) → 1000 < held n
        at (inl g) = omega (arith, held-large n g)
        at (inr g) = omega (arith, held_small n g)

    go : (65535 < held n) ⊎ (held n ≤ 65535) → 1000 < capped n
    go (inl g) = omega (arith, short-large (held n) g)
    go (inr g) = omega (arith, short-small (held n) g, big)

no_second : (a c d : Bool) → (a && false && c && d) ≡ false
no_second true c d = refl
no_second false c d = refl

no-fourth : (a b c : Bool) → (a && b && c && false) ≡ false
no-fourth true true true = refl
no-fourth true true false = refl
no-fourth true false c = refl
no-fourth false b c = refl

p-out : (p q : ℕ) → 1000 < p → ratio_right p q ≡ false
p-out p q h = rw (lt-leb p 1000 h) (no_second (leb 1 p) (leb 1 q) (leb q 1000))

q-out : (p q : ℕ) → 1000 < q → ratio_right p q ≡ false
q-out p q h = rw (lt-leb q 1000 h) (no-fourth (leb 1 p) (leb p 1000) (leb 1 q))

-- either p and q are held as they are, or 28 refuses both
ratio-either : (p q : ℕ) → ((capped p ≡ p) × (capped q ≡ q)) ⊎ ((ratio_right (capped p) (capped q) ≡ false) × (ratio_right p q ≡ false))
ratio-either p q = go (lt-or-ge 1000 p) (lt-or-ge 1000 q)
  where
    go : (1000 < p) ⊎ (p ≤ 1000) → (1000 < q) ⊎ (q ≤ 1000)
        → ((capped p ≡ p) × (capped q ≡ q)) ⊎ ((ratio_right (capped p) (capped q) ≡ false) × (ratio_right p q ≡ false))
    go (inl h) g = inr (p-out (capped p) (capped q) (capped-out p h), p-out p q h)
    go (inr h) (inl g) = inr (q-out (capped p) (capped q) (capped-out q g), q-out p q g)
    go (inr h) (inr g) = inl (capped_small p h, capped_small q g)

first-19 : (s : Bool) (rest : List Ask) → first_no (ask 10 s ∷ ask 19 false ∷ rest) ≡ cond s 19 10
unfolding first_no
first-19 true rest = refl
first-19 false rest = refl

first-28 : (s u : Bool) (rest : List Ask) → first_no (ask 10 s ∷ ask 19 true ∷ ask 21 u ∷ ask 28 false ∷ rest) ≡ cond s (cond u 28 21) 10
unfolding first_no
first-28 true true rest = refl
first-28 true false rest = refl
first-28 false u rest = refl

refused-19 : (s : Bool) → eqb (cond s 19 10) 0 ≡ false
refused-19 true = refl
refused-19 false = refl

refused-28 : (s u : Bool) → eqb (cond s (cond u 28 21) 10) 0 ≡ false
refused-28 true true = refl
refused-28 true false = refl
refused-28 false u = refl

measure-19 : (t : Table) (p q price : ℕ) → price_right price ≡ false → measure_call t p q price ≡ unmeasured t (cond (sound t) 19 10)
unfolding measure_call measure_asks
measure-19 t p q price e = rw (e, first-19 (sound t) _, refused-19 (sound t)) refl

measure-28 : (t : Table) (p q price : ℕ) → price_right price ≡ true → ratio_right p q ≡ false
    → measure_call t p q price ≡ unmeasured t (cond (sound t) (cond (is_future t.product.kind) 28 21) 10)
unfolding measure_call measure_asks
measure-28 t p q price e r = rw (e, r, first-28 (sound t) (is_future t.product.kind) _, refused-28 (sound t) (is_future t.product.kind)) refl

measure-same : (t : Table) (p q price : ℕ) → measure_call t (capped p) (capped q) (held price) ≡ measure_call t p q price
measure-same t p q price = go (price_right price) refl
  where
    at : price_right price ≡ true → ((capped p ≡ p) × (capped q ≡ q)) ⊎ ((ratio_right (capped p) (capped q) ≡ false) × (ratio_right p q ≡ false))
        → measure_call t (capped p) (capped q) price ≡ measure_call t p q price
    at e (inl x) = ap (λ (n : ℕ). measure_call t n (capped q) price) x.0 ∙ ap (λ (n : ℕ). measure_call t p n price) x.1
    at e (inr x) = measure-28 t (capped p) (capped q) price e x.0 ∙ sym (measure-28 t p q price e x.1)

    go : (b : Bool) → price_right price ≡ b → measure_call t (capped p) (capped q) (held price) ≡ measure_call t p q price
    go false e = measure-19 t (capped p) (capped q) (held price) (price-same price ∙ e) ∙ sym (measure-19 t p q price e)
    go true e = ap (measure_call t (capped p) (capped q)) (price-kept price e) ∙ at e (ratio-either p q)

-- ---- every call

day-same : (call : Table → ℕ → Outcome) (t : Table) → ((day : ℕ) → 36525 ≤ day → call t day ≡ refused_with t (cond (sound t) 11 10)) → (day : ℕ)
    → call t (short_in day) ≡ call t day
day-same call t past day = go (lt-or-ge 65535 day)
  where
    go : (65535 < day) ⊎ (day ≤ 65535) → call t (short_in day) ≡ call t day
    go (inl h) = ap (call t) (short-large day h) ∙ past 65535 (omega arith) ∙ sym (past day (omega arith))
    go (inr h) = ap (call t) (short-small day h)

-- a call as it is held has the same outcome on a table as the call
pub call_same : (t : Table) (c : Call) → table_call t (call_held c) ≡ table_call t c
call_same t (roll day) = ap unpriced (day-same roll_call t (past-roll t) day)
call_same t (close day) = ap unpriced (day-same close_call t (past-close t) day)
call_same t (reopen day) = ap unpriced (day-same reopen_call t (past-reopen t) day)
call_same t (measure p q price) = ap uncounted (measure-same t p q price)

measures-same : (c : Call) → is_measure (call_held c) ≡ is_measure c
measures-same (roll day) = refl
measures-same (close day) = refl
measures-same (reopen day) = refl
measures-same (measure p q price) = refl

concerns-same : (id : List ℕ) (n : Notice) → concerns id (notice_held n) ≡ concerns id n
unfolding concerns
concerns-same id n = rw (measures-same n.call) refl

-- a notice as it is held has the same outcome for a product's table as the notice
pub noticed-same : (id : List ℕ) (t : Table) (n : Notice) → noticed id t (notice_held n) ≡ noticed id t n
unfolding noticed
noticed-same id t n = rw (concerns-same id n, call_same t n.call) refl

-- so notices as they are held leave the same table and are refused alike
pub run-same : (id : List ℕ) (t : Table) (ns : List Notice) → table_run t (calls_for id (map notice_held ns)) ≡ table_run t (calls_for id ns)
run-same id t [] = refl
run-same id t (n ∷ ns) =
    run-first id t (notice_held n) (map notice_held ns)
    ∙ rw (noticed-same id t n) (run-same id (noticed id t n).table ns)
    ∙ sym (run-first id t n ns)

-- notices as they are held have the same refusals for a product's table as the notices
pub refusals-same : (id : List ℕ) (t : Table) (ns : List Notice) → refusals_for id t (map notice_held ns) ≡ refusals_for id t ns
unfolding refusals_for
refusals-same id t [] = refl
refusals-same id t (n ∷ ns) = rw (noticed-same id t n) (ap (λ (l : List ℕ). (noticed id t n).refusal ∷ l) (refusals-same id (noticed id t n).table ns))
