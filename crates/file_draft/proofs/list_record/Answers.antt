-- Record i of the list: the 32 bytes from 32 · i on. The part taken has end − start = 32 bytes; that it lies in the list is found by search.
use mathlib.Core.Path.{◌≡◌, ap}
use Prim.Native.Nat.{ℕ, ◌+◌, ◌-◌, ◌*◌}
use native.Mathlib.Omega.{arith}
use lib.ListN.{take, drop}
use Rattle.file_draft.specs.Drafts.{list_record}
use Rattle.file_draft.proofs.list_record.Goals as goal

pub returns : goal.returns
unfolding list_record
returns c =
    let start = 32 * c.args.i in
    let e : start + 32 - start ≡ 32 = omega arith in
    ap (λ (n : ℕ). take n (drop start c.args.records.now)) e
