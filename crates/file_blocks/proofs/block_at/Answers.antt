-- A block of the file: block k of its blocks, of 512 bytes (`blocks-at`, `block-long`); no bytes where the file has no such block (`block_out`).
use mathlib.Core.Path.{sym, ◌∙◌}
use mathlib.Core.List.{[]}
use native.Mathlib.Omega.{arith}
use Rattle.file_blocks.proofs.Files.{block_out, blocks-at, block-long}
use Rattle.file_blocks.proofs.block_at.Goals as goal

pub returns-in-Some : goal.returns-in-Some
returns-in-Some c =
    let blocks = c.blocks-2.ensures in
    let found = c.in-Some.ensures.lookup in
    let is = rw blocks.0 at (found.3.1 []) ∙ blocks-at _ _ (omega arith) [] in
    (is, λ h. rw is (block-long _ _ h))

pub returns-in-None : goal.returns-in-None
returns-in-None c =
    let past = c.in-None.ensures.lookup.3 in
    (sym (block_out _ _ (omega (arith, past, c.blocks-2.ensures.1))), λ h. absurd (omega (arith, past, c.blocks-2.ensures.1)))
