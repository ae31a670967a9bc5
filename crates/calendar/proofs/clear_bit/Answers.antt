-- The byte without the slot's bit is the map with that bit cleared; a slot past the map's end changes nothing (`set_out`).
use Rattle.calendar.specs.Bits.{clear_bit}
use Rattle.calendar.proofs.Bits.{one_shl}
use lib.Seq.{set_out}
use Prim.Native.Nat.{◌-◌, ◌%◌}
use native.Mathlib.Omega.{arith}
use mathlib.Core.Path.{refl, sym}
use Rattle.calendar.proofs.clear_bit.Goals as goal

pub returns-then-at-map : goal.returns-then-at-map
unfolding clear_bit
returns-then-at-map c = rw (one_shl (7 - c.args.slot % 8) (omega arith)) refl

pub returns-else-at-map : goal.returns-else-at-map
unfolding clear_bit
returns-else-at-map c = sym (set_out _ _ _ c.if-at-map.false)
