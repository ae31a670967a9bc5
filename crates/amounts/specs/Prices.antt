-- Prices, ticks, sizes and prices after a measure, and cash (01, Due day, tick, cash; Questions, 19, 20 and 22; 02, note 11; 002, 1.6.2 and 1.6.7).
-- Assumes nothing.
use Rattle.std.specs.Prelude.{ℕ, ◌+◌, ◌-◌, ◌*◌, ◌/◌, ◌%◌, ◌≤◌, ◌<◌, ◌≡◌, Bool, true, false, ◌&&◌, cond, eqb, leb, ltb, ℤ, pos, negsuc, neg_ℤ, nat_abs, ◌-ℤ◌, ◌*ℤ◌}
use Rattle.product.specs.Fields.{size_right}
use Rattle.amounts.specs.declared.Amount.{Amount}

-- 19 'Is the order or agreed price 1 to 999,999,999?'
abbrev pub price_right : ℕ → Bool
price_right price = leb 1 price && leb price 999999999

-- 20 'Is it a multiple of the tick?';
-- no price is a multiple of a tick of 0
abbrev pub multiple_of : ℕ → ℕ → Bool
multiple_of tick price = ltb 0 tick && eqb (price % tick) 0

-- 22 'Is the final price 0 to 999,999,999 ..'
abbrev pub final_right : ℕ → Bool
final_right price = leb price 999999999

-- 22 '.. and are the contracts 1 to 100,000?'
abbrev pub contracts_right : ℕ → Bool
contracts_right contracts = leb 1 contracts && leb contracts 100000

-- the whole number 'nearest to' a / b, 'halves upward' (02, note 11); 0 where b is 0
unfoldable pub nearest : ℕ → ℕ → ℕ
nearest a b = (2 * a + b) / (2 * b)

-- what the words say of that number, where b is at least 1, each side times 2 × b: at most one half above a / b, less than one half below.
-- No other number is so (proofs, Rounding: `nearest-only`)
pub record Nearest (a b n : ℕ) : Type 0 where
  pub above : 2 * (n * b) ≤ 2 * a + b
  pub under : 2 * a < 2 * (n * b) + b

-- 'the size nearest to size × p / q in ten-thousandths, halves upward'
unfoldable pub new_size : ℕ → ℕ → ℕ → ℕ
new_size size p q = nearest (size * p) q

-- 'the price nearest to old price × old size / new size, halves upward'
unfoldable pub new_price : ℕ → ℕ → ℕ → ℕ
new_price price size changed = nearest (price * size) changed

-- 28 'are p and q in range?': 'p for q, both 1 to 1,000'
abbrev pub ratio_right : ℕ → ℕ → Bool
ratio_right p q = leb 1 p && leb p 1000 && leb 1 q && leb q 1000

-- 29 'are the new size, 1 ten-thousandth to 65,535.9999 shares, and the new price, 1 to 999,999,999, in range?'
unfoldable pub measure_right : ℕ → ℕ → ℕ → ℕ → Bool
measure_right size p q price =
    size_right (new_size size p q) && price_right (new_price price size (new_size size p q))

-- 'contracts × size × (final − agreed), signed; positive is what the seller pays the buyer':
-- in 1/10,000 for a size in shares, in 1/100,000,000 for one in ten-thousandths
abbrev pub cash_amount : ℕ → ℕ → ℕ → ℕ → ℤ
cash_amount contracts size agreed final = pos contracts *ℤ pos size *ℤ (pos final -ℤ pos agreed)

-- 'zero being positive' (02, note 11):
-- below zero
abbrev pub below : ℤ → Bool
below (pos n) = false
below (negsuc n) = true

-- 'Cash becomes a sign, an amount in 1/10,000 and a rest of 0 to 9,999 of 1/100,000,000, the sign covering both, zero being positive' (02, note 11)
unfoldable pub cash_parts : ℤ → Amount
cash_parts z = record { negative = below z; amount = nat_abs z / 10000; rest = nat_abs z % 10000 }

-- 'With it: .. other calls return zero values'
abbrev pub no_amount : Amount
no_amount = record { negative = false; amount = 0; rest = 0 }

-- the numbers that 'Cash' admits: 19, 22 and the size of a table, in ten-thousandths of a share; 20 and 21 are asked by the call
unfoldable pub cash_admitted : ℕ → ℕ → ℕ → ℕ → Bool
cash_admitted contracts size agreed final =
    price_right agreed && final_right final && contracts_right contracts && size_right size

-- 'Cash (002, 1.6.2)' of admitted numbers; 'other calls return zero values'
unfoldable pub cash_of : ℕ → ℕ → ℕ → ℕ → Amount
cash_of contracts size agreed final =
    cond (cash_admitted contracts size agreed final) (cash_parts (cash_amount contracts size agreed final)) no_amount

-- how far two prices are apart
unfoldable pub distance : ℕ → ℕ → ℕ
distance agreed final = cond (ltb final agreed) (agreed - final) (final - agreed)

-- a number with its sign
abbrev pub signed : Bool → ℕ → ℤ
signed negative n = cond negative (neg_ℤ (pos n)) (pos n)

-- 'new price × new size differs from the old product by at most half the new size' (02, note 11):
-- both ways, each side doubled; of a new size of at least 1
pub record PriceSizeKept (price size changed : ℕ) : Type 0 where
  pub above : 2 * (new_price price size changed * changed) ≤ 2 * (price * size) + changed
  pub under : 2 * (price * size) ≤ 2 * (new_price price size changed * changed) + changed

-- 'a sign, an amount .. and a rest .., the sign covering both' (02, note 11):
-- together they are the value
pub record Parts (z : ℤ) : Type 0 where
  pub value : signed (cash_parts z).negative (10000 * (cash_parts z).amount + (cash_parts z).rest) ≡ z
  pub rest : (cash_parts z).rest ≤ 9999

-- 'whole sizes give the old amount and rest 0' (02, note 11)
pub record WholeSizes (contracts shares agreed final : ℕ) : Type 0 where
  pub amount : signed (cash_parts (cash_amount contracts (10000 * shares) agreed final)).negative
      (cash_parts (cash_amount contracts (10000 * shares) agreed final)).amount
      ≡ cash_amount contracts shares agreed final
  pub rest : (cash_parts (cash_amount contracts (10000 * shares) agreed final)).rest ≡ 0
