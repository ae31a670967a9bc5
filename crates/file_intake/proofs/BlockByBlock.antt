-- Handing over a file that question 1 accepts, block by block.
-- Assumes nothing.
use Prim.Native.Nat.{ℕ, suc, ◌+◌, ◌%◌, ◌≤◌, ◌<◌}
use mathlib.Core.Path.{◌≡◌, ◌∙◌, sym, ap}
use mathlib.Core.Bool.{true, false, ◌&&◌}
use mathlib.Core.List.{List}
use native.Mathlib.Numerals.{add-one}
use native.Mathlib.Omega.{arith}
use lib.Dec.{eqb, leb}
use lib.ListN.{length}
use borrow.Author.Tests.{eqb-true, leb-true}
use Rattle.questions.specs.Questions.{Answer, first_no}
use Rattle.questions.proofs.Asks.{first-no}
use Rattle.questions.proofs.Bools.{both}
use Rattle.file_blocks.specs.Blocks.{block_count, block_of, length_right}
use Rattle.file_load.specs.declared.Counts.{Counts}
use Rattle.file_load.specs.Load.{load_asks, load_call}
use Rattle.file_intake.specs.declared.Intake.{Intake}
use Rattle.file_intake.specs.declared.Taken.{Taken}
use Rattle.file_intake.specs.Intake.{announce_call, take_call, finish_call, state_after}
use Rattle.file_intake.specs.OneBlock.{OneBlock}
use Rattle.file_intake.proofs.Result.{one-block-load}

-- load refuses a file whose length is not right with 1
pub not-long : (f : List ℕ) → length_right f ≡ false → 1 ≡ first_no (load_asks f)
unfolding load_asks
not-long f e = sym (first-no 1 _ e)

module _ (f : List ℕ) (e : length_right f ≡ true) where
  parts : (length f % 512 ≡ 0) × (1024 ≤ length f) × (length f ≤ 65536)
  unfolding length_right
  parts =
      let (p, c) = both (eqb (length f % 512) 0 && leb 1024 (length f)) (leb (length f) 65536) e in
      let (a, b) = both (eqb (length f % 512) 0) (leb 1024 (length f)) p in
      (eqb-true (length f % 512) 0 a, leb-true 1024 (length f) b, leb-true (length f) 65536 c)

  -- a file whose length is right is loaded block by block with the result of the whole-file load
  pub held : OneBlock f
  held =
      one-block-load f (omega (arith, parts.0)) (omega (arith, parts.0, parts.1)) (omega (arith, parts.2))

  -- after its blocks are announced, the state is that before the first block
  pub starts : (r : Taken) → r ≡ announce_call (block_count f) → r.state ≡ state_after f (block_count f) 0
  starts r q = ap (λ (t : Taken). t.state) (q ∙ held.announced)

  -- after its next block is taken, the state is that after one block more
  pub goes_on : (k : ℕ) (s r : Intake) → k < block_count f → s ≡ state_after f (block_count f) k → r ≡ (take_call s (block_of f k)).state
      → r ≡ state_after f (block_count f) (k + 1)
  goes_on k s r h p t =
      let a : take_call s (block_of f k) ≡ record { refusal = 0; state = state_after f (block_count f) (suc k) } = rw p (held.taken k h) in
      t ∙ ap (λ (x : Taken). x.state) a ∙ ap (state_after f (block_count f)) (sym (add-one k))

  -- after its last block is taken, the final call answers what load of the whole file answers
  pub ends : (s : Intake) (a : Answer Counts) → s ≡ state_after f (block_count f) (block_count f) → a ≡ finish_call s → a ≡ load_call f
  ends s a p t = t ∙ ap finish_call p ∙ held.result
