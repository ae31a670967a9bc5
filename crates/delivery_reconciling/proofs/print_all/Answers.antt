-- The heading, the products, the unknown ids.
use Rattle.delivery_reconciling.proofs.print_all.Goals as goal

pub write_heading-headed-requires : goal.write_heading-headed-requires
write_heading-headed-requires c = c.heading_line.ensures
