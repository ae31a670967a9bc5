-- The loop keeps: the ids before record i rise from neighbour to neighbour. Two that do not rise refute it; after the last all do.
use mathlib.Core.Path.{◌≡◌}
use mathlib.Core.Bool.{true}
use Prim.Native.Nat.{◌+◌, ◌-◌, ◌/◌, ◌≤◌}
use lib.ListN.{length}
use Rattle.questions.specs.Search.{every}
use Rattle.file_ids.specs.Ids.{id_rises}
use Rattle.file_draft.specs.Drafts.{list_id}
use Rattle.file_draft.proofs.list_rises.Given as goal

-- ---- what the loop keeps
abbrev pub invariant-loop-i : goal.invariant-loop-i
invariant-loop-i l = (l.i - 1 ≤ length l.records / 32 - 1) × (every (l.i - 1) (λ j. id_rises (list_id l.records j) (list_id l.records (j + 1))) ≡ true)
