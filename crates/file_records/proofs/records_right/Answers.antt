-- Whether a block is no product block, or its records are right: the first `return` cites that it is none; the other joins the answers on its 15
-- places, which `all` asks, and on the bytes 496 to 509.
use Rattle.std.proofs.Common.{rules}
use borrow.Author.Tests.{eq-eqb, ne_eqb}
use Rattle.file_blocks.proofs.Ranges.{every_from_all}
use Rattle.file_records.specs.Records.{record_place_right, records_right}
use Rattle.file_records.proofs.records_right.Goals as goal

pub returns-then-block-ne2 : goal.returns-then-block-ne2
returns-then-block-ne2 c = simp (ne_eqb _ _ c.if-block-ne2.true)

pub returns : goal.returns
unfolding records_right
returns c =
    let places = every_from_all (record_place_right c.args.block.now) 15 _ _ _ c.all.ensures.ran (λ x b q k. search rules) in
    simp (eq-eqb _ _ c.if-block-ne2.false, c.are_zero.ensures, places)
