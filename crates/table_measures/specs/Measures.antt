-- The measure on a table: splits and reductions (02, note 11; 002, 1.6.7).
-- Assumes nothing.
use Rattle.std.specs.Prelude.{ℕ, ◌+◌, ◌*◌, ◌≤◌, ◌≡◌, true, cond, List, [], ◌∷◌, eqb}
use Rattle.questions.specs.Questions.{Ask, ask, first_no}
use Rattle.product.specs.declared.Kind.{Kind}
use Rattle.product.specs.declared.Product.{Product}
use Rattle.product.specs.Fields.{is_future}
use Rattle.amounts.specs.Prices.{price_right, new_size, new_price, ratio_right, measure_right}
use Rattle.table.specs.declared.Table.{Table}
use Rattle.table.specs.Table.{sound}
use Rattle.table_measures.specs.declared.Measured.{Measured}

-- the product with another size
abbrev pub with_size : Product → ℕ → Product
with_size p size = record { id = p.id; group = p.group; market = p.market; kind = p.kind; size = size; tick = p.tick; currency = p.currency }

-- 'A measure changes no month, day or number':
-- the table with another size of its product, and nothing else changed
abbrev pub resized : Table → ℕ → Table
resized t size = record { product = with_size t.product size; calendar = t.calendar; date = t.date; maturities = t.maturities; given = t.given }

-- '28, after 10, 19 and 21 .. 29':
-- the questions of a measure except 10; 20 is not one of them
abbrev pub measure_asked : Kind → ℕ → ℕ → ℕ → ℕ → List Ask
measure_asked kind size p q price =
    ask 19 (price_right price)
    ∷ ask 21 (is_future kind)
    ∷ ask 28 (ratio_right p q)
    ∷ ask 29 (measure_right size p q price)
    ∷ []

-- 'Checks: 28, after 10, 19 and 21 .. 29'
unfoldable pub measure_asks : Table → ℕ → ℕ → ℕ → List Ask
measure_asks t p q price = ask 10 (sound t) ∷ measure_asked t.product.kind t.product.size p q price

-- an accepted measure 'gives the size nearest to size × p / q in ten-thousandths, halves upward,
-- and the price nearest to old price × old size / new size, halves upward'
abbrev pub measured_by : Table → ℕ → ℕ → ℕ → Measured
measured_by t p q price =
    record {
      refusal = 0;
      table = resized t (new_size t.product.size p q);
      price = new_price price t.product.size (new_size t.product.size p q);
    }

-- '(price 0 if refused)'; 'table calls return the same table and counts 0 and 0':
-- a measure has no counts, and a history has 0 and 0 for it
abbrev pub unmeasured : Table → ℕ → Measured
unmeasured t number = record { refusal = number; table = t; price = 0 }

-- 'A measure on a future, p for q', with the old price
unfoldable pub measure_call : Table → ℕ → ℕ → ℕ → Measured
measure_call t p q price =
    cond (eqb (first_no (measure_asks t p q price)) 0) (measured_by t p q price) (unmeasured t (first_no (measure_asks t p q price)))

-- 'so that the contract's value is kept', of an accepted measure
pub record ValueKept (t : Table) (p q price : ℕ) : Type 0 where
  -- 'new price × new size differs from the old product by at most half the new size':
  -- both ways, each side doubled
  pub above : 2 * ((measure_call t p q price).price * (measure_call t p q price).table.product.size) ≤ 2 * (price * t.product.size) + (measure_call t p q
      price).table.product.size
  pub under : 2 * (price * t.product.size) ≤ 2 * ((measure_call t p q price).price * (measure_call t p q price).table.product.size) + (measure_call t p q
      price).table.product.size
  -- 'A measure changes no month, day or number'
  pub untouched : (measure_call t p q price).table ≡ resized t (measure_call t p q price).table.product.size
  -- the table is sound again: its size is 1 ten-thousandth to 65,535.9999 shares
  pub stays-sound : sound (measure_call t p q price).table ≡ true

-- 'table calls return the same table'; '(price 0 if refused)', of a refused measure
pub record GivenBack (t : Table) (p q price : ℕ) : Type 0 where
  pub same : (measure_call t p q price).table ≡ t
  pub no-price : (measure_call t p q price).price ≡ 0
