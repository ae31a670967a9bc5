-- The bit of the slot in its byte; a slot past the map's end has no byte, and its bit counts as 0 (`bit_past`).
use Rattle.std.proofs.Common.{rules, ◌≡◌, ◌≤◌, ◌/◌, length}
use lib.ListN.{get_or}
use Rattle.calendar.specs.Bits.{bit_at}
use Rattle.calendar.proofs.Bits.{bit_past}
use mathlib.Core.Path.{refl, sym}
use Rattle.calendar.proofs.has_bit.Goals as goal

pub returns-in-Some : goal.returns-in-Some
unfolding bit_at
returns-in-Some c =
    let e : c.in-Some.byte.now ≡ get_or c.args.map.now (c.args.slot / 8) 0 = search rules in
    rw e refl

pub returns-in-None : goal.returns-in-None
returns-in-None c =
    let h : length c.args.map.now ≤ c.args.slot / 8 = search rules in
    sym (bit_past _ _ h)
