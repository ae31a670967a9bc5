-- One record more after those at the start of a buffer, where there is room for it.
-- The first two returns are a buffer under 32 bytes and one with no room: nothing is stored.
-- In a buffer with room the record is pasted at `size` (stored).
use native.Mathlib.Omega.{arith}
use Rattle.std.proofs.Common.{◌+◌, ◌-◌}
use Rattle.std.proofs.lemmas.Slice.{put_mid-paste}
use Rattle.file_text_read.proofs.RecordsStored.{too_short, no_room, stored}
use Rattle.file_text_read.proofs.store.Goals as goal

-- ---- no room: nothing is stored
pub returns-then-records-lt32 : goal.returns-then-records-lt32
returns-then-records-lt32 c = too_short _ _ _ c.if-records-lt32.true

pub returns-then-records-size : goal.returns-then-records-size
returns-then-records-size c = no_room _ _ _ c.if-records-size.true

-- ---- room: the record is stored
pub returns : goal.returns
returns c =
    let n = c.args.size in
    let b = c.args.records.now in
    let e = put_mid-paste n (n + 32 - n) b c.copy_from_slice.new.self c.args.one 32 c.copy_from_slice.ensures.after (omega arith) (omega arith) in
    rw e (stored b n c.args.one (omega arith) (omega arith))
