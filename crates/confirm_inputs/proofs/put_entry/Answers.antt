-- Two stores after the first numbers of the list, or none.
use mathlib.Core.Path.{refl}
use native.Mathlib.Omega.{arith}
use lib.ListN.{length-set}
use Rattle.confirm_inputs.proofs.EntryLines.{put-none, put_both}
use Rattle.confirm_inputs.proofs.put_entry.Goals as goal

pub returns-in_default : goal.returns-in_default
returns-in_default c = put-none _ _ _ c.in_default.is

pub bounds-list-at-2 : goal.bounds-list-at-2
bounds-list-at-2 c = simp length-set (omega (arith, c.requires))

pub returns : goal.returns
returns c = put_both _ _ _ _ c.in-Some.is c.requires _ refl
