-- What was read of the file is some bytes, at most as many as its buffer holds.
use native.Mathlib.Omega.{arith}
use Rattle.program_runs.proofs.WholeInputs.{answers_with}
use Rattle.confirm_run.proofs.run.Goals as goal

pub returns : goal.returns
returns c =
    let w = c.read_file-master.ensures.0 in
    answers_with _ _ _ _ c.run_with.ensures (omega (arith, w.0, w.1, c.file-2-1.given))
