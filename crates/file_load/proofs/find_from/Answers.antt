-- A `Reader` is made by `at_block`, moved by `seek`, and `here` says what it is at: what the place of the first record from there on says.
use Prim.Native.Nat.{◌*◌}
use native.Mathlib.Nat.{add-zero}
use Rattle.file_load.proofs.LoadAnswers.{found-answer}
use Rattle.file_load.proofs.find_from.Goals as goal

pub returns : goal.returns
returns c =
    let d = c.seek.ensures in
    let e = c.at_block.ensures in
    rw (c.here.ensures, d.0, d.1, d.2, e.0, e.1, e.2, add-zero (15 * c.args.block)) (found-answer c.args.file.now c.args.id (15 * c.args.block))
