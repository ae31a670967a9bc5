-- The heading's line is what `with_bytes` says of the empty line and the bytes of the heading.
use Rattle.delivery_rows.specs.Delivery.{delivery_heading}
use Rattle.delivery_rows.proofs.delivery_heading_line.Goals as goal

pub returns : goal.returns
unfolding delivery_heading
returns c = rw (← c.empty_line.ensures) c.with_bytes.ensures
