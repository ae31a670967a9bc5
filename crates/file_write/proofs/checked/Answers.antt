-- A block with its check in bytes 510 and 511: the two bytes written are those of the sum that `check_of` ensures. The bounds are found by search.
use Rattle.file_write.proofs.checked.Goals as goal

pub returns : goal.returns
returns c = rw c.check_of-check.ensures
