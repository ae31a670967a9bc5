-- `held_length` gives at most 255, and as many bytes are those that the line holds: the array has 255, so taking more takes all of them.
use mathlib.Core.Path.{◌≡◌, refl, ◌∙◌, sym}
use native.Mathlib.Omega.{arith}
use lib.ListN.{length}
use lib.Seq.{take_all}
use Rattle.delivery_items.proofs.held_length.Goals as goal

pub returns-then-line-gt255 : goal.returns-then-line-gt255
returns-then-line-gt255 c =
    let args = c.args in
    let l : length args.line.bytes ≡ 255 = c.well_formed.0.1.1.0.1.0.1 in (
      omega arith,
      take_all 255 args.line.bytes (omega (arith, l)) ∙
          sym (take_all args.line.length args.line.bytes (omega (arith, l, c.if-line-gt255.true))),
    )

pub returns : goal.returns
returns c = (omega arith, refl)
