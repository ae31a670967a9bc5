-- `print_rows` writes nothing without room (`not-printed`); else the rows of as
-- many maturities as the kind has places, of at most 15, by `put_rows` (`printed`).
use mathlib.Core.Path.{◌≡◌}
use lib.ListN.{length}
use Rattle.questions.proofs.Bools.{said-no, said-yes}
use Rattle.delivery_rows.proofs.RowsInBuffer.{room-long, not-printed, printed}
use Rattle.delivery_rows.proofs.print_rows.Goals as goal

pub returns-then-not-has_room : goal.returns-then-not-has_room
returns-then-not-has_room c = not-printed _ _ _ _ (said-no c.has_room.ensures c.if-not-has_room.true)

pub put_rows-requires : goal.put_rows-requires
put_rows-requires c =
    (c.places_of_kind-n.ensures.1, room-long _ _ (said-yes c.has_room.ensures c.if-not-has_room.false))

pub shape_of-out : goal.shape_of-out
shape_of-out c = c.put_rows.ensures.long

pub returns : goal.returns
returns c =
    let l : length c.args.t.maturities ≡ 15 = c.well_formed.1.1.1.0.1.1.1.1.1.0.1.0.1 in
    printed _ _ _ c.args.t _ _ _ (said-yes c.has_room.ensures c.if-not-has_room.false) c.places_of_kind-n.ensures.0
    c.places_of_kind-n.ensures.1 l c.put_rows.ensures
