-- The maps of the calendar blocks from a byte on, 46 bytes for each year, then zeros.
-- The loop keeps: of the 736 bytes of `maps` those before i are the maps' bytes and the others zero (`Filled`).
-- At i = 46 · years the array is `maps_from` by `filled-all`.
use mathlib.Core.Path.{◌≡◌, sym, ap, ◌∙◌}
use Prim.Native.Nat.{ℕ, ◌*◌}
use native.Mathlib.Omega.{arith}
use Rattle.file_calendar.specs.Calendars.{listed, up_to, map_byte, maps_from}
use Rattle.file_calendar.proofs.Filling.{filled_none, filled_more, filled-all}
use Rattle.file_blocks.proofs.Files.{block-byte}
use Rattle.file_calendar.proofs.maps_from.Goals as goal

pub loop-i-init : goal.loop-i-init
loop-i-init c = filled_none (map_byte _ _) 736

-- ---- the next turn fills one more byte
pub loop-i-preserved : goal.loop-i-preserved
unfolding map_byte
loop-i-preserved c = filled_more _ 736 _ _ _ (omega arith) (sym (block-byte _ _ _ (omega arith) (omega arith))) c.loop-i.invariant

-- ---- after the last byte
pub returns : goal.returns
unfolding maps_from
returns c =
    let args = c.args in
    let e : c.loop-i.i ≡ 46 * args.years = omega arith in
    filled-all _ 736 _ _ c.loop-i.invariant ∙ ap (λ (n : ℕ). listed 0 736 (up_to n (map_byte args.at args.file.now))) e
