-- A record of a block of the file; no bytes where the file has no such block, since an empty block has no record (`record-none`).
use mathlib.Core.Path.{sym, ap, ◌∙◌}
use mathlib.Core.List.{List, []}
use Prim.Native.Nat.{ℕ}
use native.Mathlib.Omega.{arith}
use Rattle.file_records.specs.Records.{record_of}
use Rattle.file_blocks.proofs.Files.{block_out, blocks-at}
use Rattle.file_records.proofs.RecordPlaces.{record-none}
use Rattle.file_records.proofs.record_at.Goals as goal

pub returns-in-Some : goal.returns-in-Some
returns-in-Some c =
    let blocks = c.blocks-2.ensures in
    let found = c.in-Some.ensures.lookup in
    let is = rw blocks.0 at (found.3.1 []) ∙ blocks-at _ _ (omega arith) [] in
    rw (c.block_record.ensures, is)

pub returns-in-None : goal.returns-in-None
returns-in-None c =
    let past = c.in-None.ensures.lookup.3 in
    sym (ap (λ (b : List ℕ). record_of b c.args.k) (block_out _ _ (omega (arith, past, c.blocks-2.ensures.1))) ∙ record-none _)
