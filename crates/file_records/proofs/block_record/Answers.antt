-- Record k of a lent block; no bytes from place 15 on (`record-out`). Else the 32 bytes from 16 + 32 · k on are the definition's (`record-in`), and
-- within the block's 512.
use mathlib.Core.Path.{sym}
use native.Mathlib.Omega.{arith}
use native.Mathlib.Nat.{add-sub_cancel_left}
use Rattle.file_records.proofs.RecordPlaces.{record-in, record-out}
use Rattle.file_records.proofs.block_record.Goals as goal

pub returns-then-k-ge15 : goal.returns-then-k-ge15
returns-then-k-ge15 c = sym (record-out _ _ c.if-k-ge15.true)

pub returns : goal.returns
returns c = rw add-sub_cancel_left (sym (record-in _ _ (omega arith)))
