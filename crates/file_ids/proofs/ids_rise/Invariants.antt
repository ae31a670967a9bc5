-- The loop keeps `Walked`: before p every id is above all before it, and `last` is the last record's place, with the highest id, if there is one.
use Rattle.file_ids.proofs.IdsRise.{Walked}
use Rattle.file_ids.proofs.ids_rise.Given as goal

abbrev pub invariant-loop-p : goal.invariant-loop-p
invariant-loop-p l = Walked l.file l.p l.last
