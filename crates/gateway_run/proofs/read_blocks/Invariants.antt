-- The loop is left at the input's end, or at a block that is refused whatever follows, or at a read that failed.
use mathlib.Core.Path.{◌≡◌}
use mathlib.Core.Bool.{false}
use Prim.Native.Nat.{◌*◌}
use lib.ListN.{length}
use Rattle.file_intake_text.specs.GatewayTexts.{IntakeReached}
use Rattle.gateway_run.proofs.read_blocks.Given as goal

abbrev pub invariant-loop-rt : goal.invariant-loop-rt
invariant-loop-rt l =
    (length l.block ≡ 512) × IntakeReached l.number l.state × (l.input.bytes ≡ 512 * l.state.taken) × (l.input.failed ≡ false)

abbrev pub decreases-loop-rt : goal.decreases-loop-rt
decreases-loop-rt l = l.input.left
