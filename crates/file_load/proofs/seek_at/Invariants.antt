-- The loop keeps: the first place from p on is the first from where it began. A record with the id ends it (seek-here), another does not
-- (seek-next). After the last place there is none (seek-none), which is the place after the last block (place-past).
use mathlib.Core.Path.{◌≡◌}
use Rattle.file_load.specs.Load.{place_from}
use Rattle.file_load.proofs.seek_at.Given as goal

-- ---- what the loop keeps
abbrev pub invariant-loop-p : goal.invariant-loop-p
invariant-loop-p l = place_from l.file l.id l.p ≡ place_from l.file l.id l.initial.p
