-- Shown: the places hold the first n numbers of the other places, then those at first to end − 1, then zeros (`put_slice`).
use Rattle.rounds.proofs.QueuePlaces.{put_slice}
use native.Mathlib.Omega.{arith}
use Rattle.rounds.proofs.put_after.Goals as goal

pub returns : goal.returns
returns c =
    let p = c.requires in
    put_slice _ _ _ _ _ _ (omega (arith, c.well_formed.0.1.0.1)) (omega (arith, c.well_formed.1.1.0.1.0.1)) p.0 p.2 p.3 c.copy_from_slice.ensures.after
