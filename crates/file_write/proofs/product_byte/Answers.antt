-- A byte of a product block before its check: header with its count of records, the records, then zeros.
-- The three returns are the cases of `product_byte`, by where j lies: below 16, below 496, or after.
use mathlib.Core.Path.{◌∙◌, ap}
use Prim.Native.Nat.{ℕ}
use native.Mathlib.Omega.{arith}
use borrow.Author.Tests.{lt-ltb, le-ltb}
use Rattle.file_draft.specs.Drafts.{header_byte, product_byte}
use Rattle.file_write.proofs.product_byte.Goals as goal

pub returns-then-j-lt16 : goal.returns-then-j-lt16
unfolding product_byte
returns-then-j-lt16 c =
    let j = c.args.j in
    rw (lt-ltb j 16 (omega arith)) (c.header_byte.ensures ∙ ap (λ (n : ℕ). header_byte 2 n c.args.k j) c.records_within.ensures)

pub returns-then-j-lt496 : goal.returns-then-j-lt496
unfolding product_byte
returns-then-j-lt496 c =
    let j = c.args.j in
    rw (le-ltb j 16 (omega arith), lt-ltb j 496 (omega arith)) c.byte_at.ensures

pub returns : goal.returns
unfolding product_byte
returns c =
    let j = c.args.j in
    rw (le-ltb j 16 (omega arith), le-ltb j 496 (omega arith))
