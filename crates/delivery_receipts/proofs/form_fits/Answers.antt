-- True exactly where the row's maturity has the form of its product's kind, or where the id is not in the file.
-- Found, the product there says its kind and `is_weekly` is compared with the row (`form-here`); not found, it is true (`form-none`).
use Rattle.delivery_receipts.proofs.RowsSoFar.{form-here, form-none}
use Rattle.delivery_receipts.proofs.form_fits.Goals as goal

pub returns-in-At : goal.returns-in-At
returns-in-At c = form-here _ _ _ _ (rw c.in-At.is at c.find.ensures) _
    c.product_at-p.ensures _ c.is_weekly.ensures

pub returns-in-Nothing : goal.returns-in-Nothing
returns-in-Nothing c = form-none _ _ (rw c.in-Nothing.is at c.find.ensures)
