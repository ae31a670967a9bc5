-- The loop keeps: the records before i are right. A record that is not refutes it of all; after the last it is said of all.
use mathlib.Core.Path.{◌≡◌}
use mathlib.Core.Bool.{true}
use Rattle.questions.specs.Search.{every}
use Rattle.file_records.specs.Records.{record_right}
use Rattle.file_draft.specs.Drafts.{list_record}
use Rattle.file_draft.proofs.list_right.Given as goal

-- ---- what the loop keeps
abbrev pub invariant-loop-i : goal.invariant-loop-i
invariant-loop-i l = every l.i (λ j. record_right (list_record l.records j)) ≡ true
