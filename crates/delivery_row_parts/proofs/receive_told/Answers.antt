-- What is told of the line is told after it is taken.
use mathlib.Core.Path.{refl}
use Rattle.delivery_row_parts.proofs.PartsTaken.{row_told}
use Rattle.delivery_row_parts.proofs.receive_told.Goals as goal

pub tell_row-told-requires : goal.tell_row-told-requires
tell_row-told-requires c = c.take_row-r.ensures.text

pub shape_of-ids : goal.shape_of-ids
shape_of-ids c =
    c.take_row-r.ensures.lengths.ids

pub shape_of-keys : goal.shape_of-keys
shape_of-keys c =
    c.take_row-r.ensures.lengths.keys

pub shape_of-days : goal.shape_of-days
shape_of-days c =
    c.take_row-r.ensures.lengths.days

pub shape_of-fulls : goal.shape_of-fulls
shape_of-fulls c =
    c.take_row-r.ensures.lengths.fulls

pub shape_of-numbers : goal.shape_of-numbers
shape_of-numbers c =
    c.take_row-r.ensures.lengths.numbers

pub shape_of-backs : goal.shape_of-backs
shape_of-backs c =
    c.take_row-r.ensures.lengths.backs

pub returns : goal.returns
returns c =
    row_told _
    c.args.k _ _ _ c.take_row-r.result
    c.take_row-r.ensures _ refl refl c.tell_row-told.ensures
