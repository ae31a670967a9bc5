-- A line at fault is kept where none was before it.
use mathlib.Core.Path.{refl}
use Rattle.file_text_faults.specs.Faults.{fault_after}
use Rattle.file_text_faults.proofs.fault_after.Goals as goal

pub returns-then-fault-at_fault : goal.returns-then-fault-at_fault
unfolding fault_after
returns-then-fault-at_fault c = rw (← c.at_fault.ensures, c.if-fault-at_fault.true, c.id_of-id.ensures) refl

pub returns : goal.returns
unfolding fault_after
returns c = rw (← c.at_fault.ensures, c.if-fault-at_fault.false) refl
