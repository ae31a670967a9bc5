-- What write answers, and what it leaves in the buffer.
-- Assumes nothing.
use Prim.Native.Nat.{ℕ, ◌-◌, ◌*◌, ◌≤◌, ◌<◌}
use mathlib.Core.Path.{◌≡◌, ◌∙◌, sym, ap}
use mathlib.Core.List.{List, ◌++◌}
use native.Mathlib.Omega.{arith}
use lib.Dec.{eqb-suc-zero}
use lib.ListN.{length, drop}
use Rattle.std.specs.Prelude.{Result, Ok, Err}
use Rattle.questions.specs.Questions.{first_no}
use Rattle.questions.specs.Refusals.{refusal_number}
use Rattle.questions.specs.declared.Refusal.{Refusal}
use Rattle.questions.proofs.Asks.{accepted}
use Rattle.questions.proofs.Refusals.{numbered-from-1, refusal-answers}
use Rattle.calendar.specs.declared.Calendar.{Calendar}
use Rattle.file_draft.specs.Drafts.{blocks_for, blocks_in, file_of, write_asks}
use Rattle.file_draft.proofs.DraftBlocks.{file-length}
use Rattle.file_draft.proofs.DraftQuestions.{writable, Counted, counted}
use Rattle.file_write.specs.Writing.{write_call, write_answer, buffer_after}

module _ (cal : Calendar) (records before : List ℕ) where
  abbrev refusal : ℕ
  refusal = first_no (write_asks cal records (length before))

  abbrev Answered : Result ℕ Refusal → List ℕ → Type 0
  Answered r after = (write_answer r ≡ write_call cal records (length before)) × (after ≡ buffer_after cal records before)

  -- a refused writing answers its refusal, and the buffer stays as before
  pub write-refused : (r : Refusal) → refusal_number r ≡ refusal → Answered (Err r) before
  unfolding write_call buffer_after
  write-refused r e =
      (refusal-answers (write_asks cal records (length before)) 0 (length (file_of cal records)) r (sym e), rw (sym e, numbered-from-1 r, eqb-suc-zero (refusal_number r - 1)))

  -- an accepted writing answers the length of all blocks, and the buffer has them, then what stood there before
  pub write-accepted : (blocks : ℕ) (after : List ℕ) → refusal ≡ 0 → blocks ≡ blocks_in cal records
      → after ≡ blocks_for cal records blocks ++ drop (512 * blocks) before → Answered (Ok (512 * blocks)) after
  unfolding write_call buffer_after file_of
  write-accepted blocks after e b p =
      let l : 512 * blocks ≡ length (file_of cal records) = ap (λ (n : ℕ). 512 * n) b ∙ sym (file-length cal records) in (
        sym (accepted (write_asks cal records (length before)) 0 (length (file_of cal records)) e ∙ ap (λ (n : ℕ). record { refusal = 0; value = n }) (sym l)),
        p ∙
            rw (e, ← l, b),
      )

  -- what writing the blocks asks
  pub room-there : (blocks : ℕ) → refusal ≡ 0 → blocks ≡ blocks_in cal records
      → (cal.cover.first_year < 2100) × (length records ≤ 65536) × (blocks ≤ 128) × (512 * blocks ≤ length before)
  room-there blocks e b =
      let c : Counted cal records (length before) = counted cal records (length before) (writable cal records (length before) e) in
      (omega (arith, c.years-some, c.last-year), omega (arith, c.blocks-most), omega (arith, c.blocks-most), omega (arith, c.enough))
