-- The reading after an entry is bad exactly if there is none, as `is_none` says, and the listing has begun.
use mathlib.Core.Path.{◌≡◌, refl}
use mathlib.Core.Bool.{Bool, true, false, not}
use Rattle.confirm_lines.specs.ListingLines.{after_entry}
use Rattle.confirm_lines.proofs.after_entry.Goals as goal

twice : (b : Bool) → b ≡ not (not b)
twice true = refl
twice false = refl

pub returns : goal.returns
unfolding after_entry
returns c = rw (c.is_none.ensures, ← twice c.is_none.result) refl
