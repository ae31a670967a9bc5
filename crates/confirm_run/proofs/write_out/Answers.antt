-- All bytes of the text are handed over, from the first write on.
use mathlib.Core.Path.{ap}
use native.Mathlib.Omega.{arith}
use lib.ListN.{length}
use Rattle.confirm_inputs.proofs.VerdictLength.{confirm-short}
use Rattle.confirm_run.proofs.write_out.Goals as goal

pub returns : goal.returns
returns c =
    λ e.
    let w = (c.write_next.ensures e).1 in
    let z = c.nothing_sent.ensures.1 in
    omega (arith, w, z, ap length c.requires.1, confirm-short c.args.file.now c.args.input.now)
