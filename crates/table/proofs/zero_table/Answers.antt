-- The table of zeros is the definition's: the product, the calendar and the places are zeros by their calls' contracts.
use mathlib.Core.Path.{refl}
use Rattle.table.specs.Table.{zero_table}
use Rattle.table.proofs.zero_table.Goals as goal

pub returns : goal.returns
unfolding zero_table
returns c = rw (c.unused_places-maturities.ensures, c.zero_calendar-calendar.ensures, c.zero_product-product.ensures) refl
