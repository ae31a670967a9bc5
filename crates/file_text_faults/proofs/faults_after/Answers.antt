-- Each question keeps its fault by itself.
use mathlib.Core.Path.{refl}
use Rattle.file_text_faults.specs.Faults.{faults_after}
use Rattle.file_text_faults.proofs.faults_after.Goals as goal

pub returns : goal.returns
unfolding faults_after
returns c =
    rw (c.id_after-last.ensures, c.fault_after-eight.ensures, c.fault_after-seven.ensures, c.fault_after-five.ensures) refl
