-- A step of so many blocks on, where the block that it leads to begins by an id; the block stays one of the file's or the one after.
-- The two returns are the two cases of `stepped`; a block that begins by an id is within the file (begins-inside).
use mathlib.Core.Path.{◌∙◌, sym}
use native.Mathlib.Omega.{arith}
use Rattle.file_load.specs.Halves.{stepped}
use Rattle.file_load.proofs.Halving.{begins-inside}
use Rattle.file_load.proofs.step.Goals as goal

pub returns-then-begins_by : goal.returns-then-begins_by
unfolding stepped
returns-then-begins_by c =
    let e = sym c.begins_by.ensures ∙ c.if-begins_by.true in
    (rw e, omega (arith, begins-inside _ _ _ e))

pub returns : goal.returns
unfolding stepped
returns c =
    let e = sym c.begins_by.ensures ∙ c.if-begins_by.false in
    (rw e, omega arith)
