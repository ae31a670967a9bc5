-- The line is taken as the definition takes it; what is told of it is told by its number.
use Rattle.delivery_inputs.proofs.BadLinesTold.{count-is}
use Rattle.delivery_inputs.proofs.take_row.Goals as goal

pub returns : goal.returns
returns c =
    record {
      is = c.receive_line-after.ensures.is;
      text = c.told_line-told.ensures;
      count = λ n e. count-is _ _ _ n c.bad_count-count.ensures e;
      lengths =
          c.receive_line-after.ensures.lengths;
    }
