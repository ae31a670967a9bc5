-- What the calls about prices come to, question by question.
-- Assumes nothing.
use mathlib.Core.Path.{◌≡◌, refl, ◌∙◌, sym}
use mathlib.Core.Bool.{Bool, true, false, ◌&&◌}
use mathlib.Core.List.{List, [], ◌∷◌}
use Prim.Native.Nat.{ℕ, suc, ◌*◌}
use Rattle.questions.specs.Questions.{Ask, ask, first_no}
use Rattle.questions.proofs.Asks.{none-no, first-no, accepted, refused}
use Rattle.questions.proofs.Bools.{both, and_both}
use Rattle.product.specs.declared.Product.{Product}
use Rattle.product.specs.Fields.{size_right, product_right, is_future}
use Rattle.product.proofs.RightFields.{size-of-fields}
use Rattle.amounts.specs.declared.Amount.{Amount}
use Rattle.amounts.specs.Prices.{price_right, multiple_of, final_right, contracts_right, cash_amount, cash_parts, no_amount, cash_admitted, cash_of}
use Rattle.amounts.proofs.CashParts.{whole-size}
use Rattle.table.specs.declared.Table.{Table}
use Rattle.table.specs.Table.{sound}
use Rattle.table_prices.specs.TablePrices.{tick_call, no_cash, cash_asks, cash_call, WholeCash}
use Rattle.table.proofs.TableQuestions.{sound-parts}

-- the contract size of a right product is in its range
size-in-range : (p : Product) → product_right p ≡ true → size_right p.size ≡ true
unfolding product_right
size-in-range p e = size-of-fields _ _ _ _ _ _ _ e

-- a table that is not sound gives refusal 10 for the tick
pub tick-10 : (t : Table) (price : ℕ) → sound t ≡ false → tick_call t price ≡ 10
unfolding tick_call first_no
tick-10 t price a = rw a

-- two tests of the code are those of the definition
pub both-are : {a b x y : Bool} → a ≡ x → b ≡ y → (a && b) ≡ (x && y)
both-are p q = rw (p, q)

-- cash, by its first question answered no
module _ (t : Table) (contracts agreed final : ℕ) where
  -- where the first of the questions left is answered no, its number is the refusal
  pub cash-no : (n : ℕ) {b : Bool} (rest : List Ask) → first_no (cash_asks t contracts agreed final) ≡ first_no (ask (suc n) b ∷ rest) → b ≡ false
      → no_cash (suc n) ≡ cash_call t contracts agreed final
  unfolding cash_call
  cash-no n rest e f = sym (refused (cash_asks t contracts agreed final) _ _ n (e ∙ first-no (suc n) rest f))

  -- a table that is not sound gives refusal 10 for the cash amount
  pub cash-10 : sound t ≡ false → cash_call t contracts agreed final ≡ no_cash 10
  unfolding cash_asks
  cash-10 a = sym (cash-no 9 _ refl a)

  -- where no question refuses, the numbers are those for which the code works out cash
  cash-numbers : first_no (cash_asks t contracts agreed final) ≡ 0 → cash_admitted contracts t.product.size agreed final ≡ true
  unfolding cash_admitted cash_asks
  cash-numbers e =
      let (a, e1) = none-no 9 (sound t) _ e in
      let (b, e2) = none-no 18 (price_right agreed) _ e1 in
      let (d, e3) = none-no 19 (multiple_of t.product.tick agreed) _ e2 in
      let (g, e4) = none-no 20 (is_future t.product.kind) _ e3 in
      let f = (none-no 21 (final_right final && contracts_right contracts) [] e4).0 in
      let s = size-in-range t.product (sound-parts t a).fields in
      let (x, y) = both (final_right final) (contracts_right contracts) f in
      and_both (and_both (and_both b x) y) s

  -- where no question refuses, the answer is the cash amount of the contracts, the size and the two prices
  pub cash-yes : first_no (cash_asks t contracts agreed final) ≡ 0 → (amount : Amount) → amount ≡ cash_of contracts t.product.size agreed final
      → record { refusal = 0; value = amount } ≡ cash_call t contracts agreed final
  unfolding cash_call cash_of
  cash-yes e amount q = rw (q, cash-numbers e) (sym (accepted (cash_asks t contracts agreed final) _ _ e))

  -- 'whole sizes give the old amount and rest 0'
  pub whole-cash : (shares : ℕ) → t.product.size ≡ 10000 * shares → first_no (cash_asks t contracts agreed final) ≡ 0
      → WholeCash t contracts agreed final shares
  unfolding cash_call
  whole-cash shares e asked =
      let w = whole-size contracts shares agreed final in
      let is = accepted (cash_asks t contracts agreed final) no_amount (cash_parts (cash_amount contracts t.product.size agreed final)) asked in
      record { amount = rw (is, e) w.amount; rest = rw (is, e) w.rest }
