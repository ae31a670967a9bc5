-- Whether a place of a block holds a record as stated, or is unused and zero. Each `return` cites whether k is below the block's count, which
-- decides the definition's case.
use mathlib.Core.Path.{ap, ◌∙◌}
use mathlib.Core.List.{List}
use Prim.Native.Nat.{ℕ}
use borrow.Author.Tests.{lt-ltb, le-ltb}
use Rattle.file_blocks.specs.Blocks.{zeros}
use Rattle.file_records.specs.Records.{record_right, record_place_right}
use Rattle.file_records.proofs.record_place_right.Goals as goal

pub returns-then-k-count : goal.returns-then-k-count
unfolding record_place_right
returns-then-k-count c =
    let count = c.number_at-count.ensures.0 in
    simp (← count, lt-ltb _ _ c.if-k-count.true) (c.record_right.ensures ∙ ap record_right c.block_record-r.ensures)

pub returns : goal.returns
unfolding record_place_right
returns c =
    let count = c.number_at-count.ensures.0 in
    simp (← count, le-ltb _ _ c.if-k-count.false) (c.are_zero.ensures ∙ ap (λ (b : List ℕ). zeros b 0 32) c.block_record-r.ensures)
