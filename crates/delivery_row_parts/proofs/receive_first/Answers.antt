-- The part after its mark, from nothing received on.
use Rattle.delivery_row_parts.proofs.PartsTaken.{first-told}
use Rattle.delivery_row_parts.proofs.receive_first.Goals as goal

pub returns : goal.returns
returns c =
    let k = c.nothing_kept-k.ensures in
    first-told _ _ c.nothing_kept-k.result k.0 k.1 k.2 _ _
    c.mark_length-mark.ensures.0 _ _ _
    c.receive_part.ensures
