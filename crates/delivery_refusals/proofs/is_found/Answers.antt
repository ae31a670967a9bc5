-- `is_found` says whether the file has a product with an id: yes where `find` gives a place (`find-there`), no where it gives nothing (`find_none`).
use mathlib.Core.Path.{sym}
use Rattle.delivery_products.proofs.IdFound.{find-there, find_none}
use Rattle.delivery_refusals.proofs.is_found.Goals as goal

pub returns-in-At : goal.returns-in-At
returns-in-At c = sym (find-there _ _ _ _ (rw c.in-At.is at c.find.ensures))

pub returns-in-Nothing : goal.returns-in-Nothing
returns-in-Nothing c = sym (find_none _ _ (rw c.in-Nothing.is at c.find.ensures))
