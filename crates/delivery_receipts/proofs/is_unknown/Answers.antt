-- True exactly where the id of row `i` is not in the file.
-- The answer of `find` is told by its variant: a place means found (`find-there`), nothing means not found (`find_none`).
use mathlib.Core.Path.{◌∙◌, sym, ap}
use mathlib.Core.Bool.{not}
use Rattle.delivery_products.proofs.IdFound.{find-there, find_none}
use mathlib.Core.List.{List}
use Prim.Native.Nat.{ℕ}
use Rattle.file_load.specs.Load.{found}
use Rattle.delivery_receipts.proofs.is_unknown.Goals as goal

pub returns-in-At : goal.returns-in-At
returns-in-At c = sym (ap (λ (x : List ℕ). not (found c.args.file.now x))
    (sym c.id_in.ensures) ∙ ap not (find-there _ _ _ _ (rw c.in-At.is at c.find.ensures)))

pub returns-in-Nothing : goal.returns-in-Nothing
returns-in-Nothing c = sym (ap (λ (x : List ℕ). not (found c.args.file.now x))
    (sym c.id_in.ensures) ∙ ap not (find_none _ _ (rw c.in-Nothing.is at c.find.ensures)))
