-- The status with which an installed program ends (docs/OPERATIONS.md, 'The status'). Assumes nothing.
use Rattle.std.specs.Prelude.{ℕ, Bool, cond}

-- '0 all well; 1 something was refused, bad or differs; 2 input or output failed, or wrong arguments':
-- of a run that was asked for nothing else; whether it failed comes first
unfoldable pub status_of : (failed refused : Bool) → ℕ
status_of failed refused = cond failed 2 (cond refused 1 0)
