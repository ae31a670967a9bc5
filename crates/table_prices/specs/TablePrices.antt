-- Calls about prices that leave the table as it is (01, Due day, tick, cash; Questions, in order; 02, note 11).
-- Assumes nothing.
use Rattle.std.specs.Prelude.{ℕ, ◌≡◌, ◌&&◌, List, [], ◌∷◌}
use Rattle.questions.specs.Questions.{Ask, ask, first_no, Answer, answer}
use Rattle.product.specs.Fields.{is_future}
use Rattle.amounts.specs.declared.Amount.{Amount}
use Rattle.amounts.specs.Prices.{price_right, multiple_of, final_right, contracts_right, cash_amount, cash_parts, no_amount, signed}
use Rattle.table.specs.declared.Table.{Table}
use Rattle.table_prices.specs.declared.CashReply.{CashReply}
use Rattle.table.specs.Table.{sound}

-- 'returns the number of the first answered no',
-- and the value, of a reply with an amount
abbrev pub cash_reply : CashReply → Answer Amount
cash_reply r = record { refusal = r.refusal; value = r.cash }

-- 'With it: .. other calls return zero values', of a reply with an amount
abbrev pub no_cash : ℕ → Answer Amount
no_cash number = record { refusal = number; value = no_amount }

-- 'Tick: 10, 19, 20'
abbrev pub tick_asks : Table → ℕ → List Ask
tick_asks t price = ask 10 (sound t) ∷ ask 19 (price_right price) ∷ ask 20 (multiple_of t.product.tick price) ∷ []

-- 'returns the number of the first answered no';
-- 0 where a price passes
unfoldable pub tick_call : Table → ℕ → ℕ
tick_call t price = first_no (tick_asks t price)

-- 'Cash: 10, 19–22'
unfoldable pub cash_asks : Table → ℕ → ℕ → ℕ → List Ask
cash_asks t contracts agreed final =
    ask 10 (sound t)
    ∷ ask 19 (price_right agreed)
    ∷ ask 20 (multiple_of t.product.tick agreed)
    ∷ ask 21 (is_future t.product.kind)
    ∷ ask 22 (final_right final && contracts_right contracts)
    ∷ []

-- 'Cash (002, 1.6.2): contracts × size × (final − agreed), signed', as 'a sign, an amount .. and a rest' (02, note 11);
-- 'With it: .. other calls return zero values'
unfoldable pub cash_call : Table → ℕ → ℕ → ℕ → Answer Amount
cash_call t contracts agreed final =
    answer (cash_asks t contracts agreed final) no_amount (cash_parts (cash_amount contracts t.product.size agreed final))

-- 'whole sizes give the old amount and rest 0' (02, note 11):
-- of an accepted call on a table whose size is so many shares
pub record WholeCash (t : Table) (contracts agreed final shares : ℕ) : Type 0 where
  pub amount : signed (cash_call t contracts agreed final).value.negative (cash_call t contracts agreed final).value.amount
      ≡ cash_amount contracts shares agreed final
  pub rest : (cash_call t contracts agreed final).value.rest ≡ 0
