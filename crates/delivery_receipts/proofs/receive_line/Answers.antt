-- The state and the lists after the line are those of the definition, and the lists are as long as they were.
-- Where the count of rows is the same, no row is stored (`none-stored`); else the line is a good row, the lists have room for it (`has_room`),
-- and the row stored by `store_row` is the one the definition adds (`one-stored`).
use mathlib.Core.Path.{◌∙◌, ap}
use Prim.Native.Nat.{ℕ}
use Rattle.delivery_receipts.specs.Receiving.{Lists, receiving}
use Rattle.delivery_receipts.proofs.RowsSoFar.{none-stored, has_room, one-stored, held-four, room-is}
use Rattle.delivery_receipts.proofs.receive_line.Goals as goal

-- ---- no row
pub returns-then-after-s : goal.returns-then-after-s
returns-then-after-s c =
    let args = c.args in
    let b : Lists = (record {
      ids = args.ids.now;
      keys = args.keys.now;
      days = args.days.now;
      fulls = args.fulls.now;
      numbers =
          args.numbers.now;
      backs = args.backs.now;
    }) in
    none-stored args.file.now args.s args.line b c.read_held-read.result c.read_held-read.ensures
    c.receive-after.result
    (c.receive-after.ensures ∙
    ap (λ (room : ℕ). receiving room args.file.now args.s c.read_held-read.result)
    (room-is b _ c.room_of-room.ensures.1)) c.if-after-s.true

-- ---- one row more
pub store_row-requires : goal.store_row-requires
store_row-requires c =
    let args =
    c.args in
    let b : Lists = (record {
      ids = args.ids.now;
      keys = args.keys.now;
      days = args.days.now;
      fulls = args.fulls.now;
      numbers =
          args.numbers.now;
      backs = args.backs.now;
    }) in
    let h = has_room args.file.now args.s args.line b c.read_held-read.result c.read_held-read.ensures c.receive-after.result
    (c.receive-after.ensures ∙ ap (λ (room : ℕ). receiving room args.file.now args.s c.read_held-read.result)
    (room-is b _ c.room_of-room.ensures.1))
    c.if-after-s.false in
    (h.ids, h.keys, h.days, h.fulls, h.numbers, h.backs)

pub returns : goal.returns
returns c =
    let args =
    c.args in
    let b : Lists = (record {
      ids = args.ids.now;
      keys = args.keys.now;
      days = args.days.now;
      fulls = args.fulls.now;
      numbers =
          args.numbers.now;
      backs = args.backs.now;
    }) in
    one-stored args.file.now args.s args.line b c.read_held-read.result c.read_held-read.ensures c.receive-after.result
    (c.receive-after.ensures ∙ ap (λ (room : ℕ). receiving room args.file.now args.s c.read_held-read.result)
    (room-is b _
    c.room_of-room.ensures.1))
    c.if-after-s.false _
    c.store_row.ensures
    (held-four args.line _ c.read_held-read.ensures)
