-- The reading after a call has the call's refusal and table, an open called and no entry; both sides compute to the same.
use mathlib.Core.Path.{refl}
use mathlib.Core.Path.{refl}
use Rattle.confirm_lines.specs.ListingLines.{after_call}
use Rattle.confirm_lines.proofs.after_call.Goals as goal

pub returns : goal.returns
unfolding after_call
returns c = refl
