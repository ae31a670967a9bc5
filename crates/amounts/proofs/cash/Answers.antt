-- Cash: sign, amount and rest; zeros for numbers that are not admitted. `in_bounds`: admitted numbers are so small that each product fits 64 bits
-- (`change-most`, `parts-most`, `whole-most`). `cash-is`: shares and ten-thousandths taken apart give the parts of the whole product.
use native.Mathlib.Omega.{arith}
use Rattle.questions.proofs.Bools.{said-no, said-yes}
use mathlib.Core.Path.{◌≡◌, ◌∙◌}
use Rattle.amounts.specs.Prices.{cash_of, distance}
use Rattle.amounts.proofs.CashParts.{far-apart, Bounds, bounds, change-most, whole-most, parts-most, cash-is}
use Rattle.amounts.proofs.cash.Goals as goal
use Rattle.amounts.proofs.cash.Goals.{After-abs_diff}

-- ---- the products fit
in_bounds : (c : After-abs_diff) → Bounds c.args.contracts c.args.size
    c.args.agreed c.args.final_price
in_bounds c = bounds _ _ _ _ (said-yes c.cash_admitted.ensures c.if-not-cash_admitted.false)

apart : (c : After-abs_diff) → c.abs_diff.result ≡ distance c.args.agreed c.args.final_price
apart c = c.abs_diff.ensures ∙ far-apart _ _

-- ---- numbers that are not admitted
pub returns-then-not-cash_admitted : goal.returns-then-not-cash_admitted
unfolding cash_of
returns-then-not-cash_admitted c = rw (said-no c.cash_admitted.ensures c.if-not-cash_admitted.true)

pub overflow_mul-change : goal.overflow_mul-change
overflow_mul-change c = rw (apart c) (omega (arith, change-most _ _ _ _ (in_bounds c)))

pub overflow_mul-parts : goal.overflow_mul-parts
overflow_mul-parts c = rw (apart c) (omega (arith, parts-most _ _ _ _ (in_bounds c)))

pub overflow_mul-result : goal.overflow_mul-result
overflow_mul-result c = rw (apart c) (omega (arith, whole-most _ _ _ _ (in_bounds c)))

pub overflow_add-result : goal.overflow_add-result
overflow_add-result c = rw (apart c) (omega (arith, whole-most _ _ _ _ (in_bounds c), parts-most _ _ _ _ (in_bounds c)))

-- ---- the parts
pub returns : goal.returns
unfolding cash_of
returns c = rw (apart c, said-yes c.cash_admitted.ensures c.if-not-cash_admitted.false) (cash-is _ _ _ _ (in_bounds c))
