-- A block that is filled and checked, and the blocks that stand in a buffer.
-- Assumes nothing.
use Prim.Native.Nat.{ℕ, ◌+◌, ◌*◌, ◌%◌, ◌≤◌, ◌<◌}
use mathlib.Core.Path.{◌≡◌, ◌∙◌, sym, ap, ap₂}
use mathlib.Core.List.{List, [], ◌∷◌, ◌++◌, append-nil}
use native.Mathlib.Numerals.{add-one}
use native.Mathlib.Omega.{arith}
use lib.ListN.{length, take, drop, get_or, set, length-append, length-drop, drop_of_length-le}
use lib.Seq.{ext_get_or, sets-eq, paste, take_at, take_all, drop-append-add, drop-drop, length-take-le, get_or-take}
use Rattle.calendar.specs.declared.Calendar.{Calendar}
use Rattle.file_blocks.specs.Blocks.{weighted_sum}
use Rattle.file_calendar.specs.Calendars.{listed}
use Rattle.file_calendar.proofs.Filling.{Filled, listed-length, listed_at, up_in}
use Rattle.file_draft.specs.Drafts.{high_byte, low_byte, checked, block_for, blocks_for}
use Rattle.file_draft.proofs.DraftBlocks.{sum_same, block-length, blocks-none, blocks_more, blocks-length}

-- the first 510 bytes are filled: with its check the block is the one of the definition
pub block_made : (value : ℕ → ℕ) (body : List ℕ) (n : ℕ) → n ≡ 510 → Filled value 512 n body
    → set (set body 510 (high_byte (weighted_sum body 510 % 65521))) 511 (low_byte (weighted_sum body 510 % 65521)) ≡ checked (listed 0 510 value)
unfolding checked
block_made value body n e r =
    sets-eq (high_byte (weighted_sum body 510 % 65521) ∷ low_byte (weighted_sum body 510 % 65521) ∷ []) body 510 (omega (arith, r.long))
    ∙ rw (front, sum, drop_of_length-le body {i = 510 + 2} (omega (arith, r.long))) (append-nil _)
  where
    byte_at : (j : ℕ) → j < 510 → get_or body j 0 ≡ get_or (listed 0 510 value) j 0
    byte_at j h = r.each j (omega arith) ∙ up_in value n j (omega arith) ∙ sym (listed_at 510 value j h)

    front : take 510 body ≡ listed 0 510 value
    front =
        ext_get_or 0 (take 510 body) (listed 0 510 value) (length-take-le 510 body (omega (arith, r.long)) ∙ sym (listed-length 0 510 value))
        (λ j h.
        let l : j < 510 = omega (arith, length-take-le 510 body (omega (arith, r.long))) in
        get_or-take 510 body j 0 l ∙ byte_at j l)

    sum : weighted_sum body 510 ≡ weighted_sum (listed 0 510 value) 510
    sum = sum_same body (listed 0 510 value) 510 byte_at

module _ (cal : Calendar) (records before : List ℕ) where
  -- the first k blocks of the file stand in the buffer, and the rest of it is as it was
  pub record Put (k : ℕ) (buffer : List ℕ) : Type 0 where
    -- the buffer has the first k blocks of the file at its start, and then what stood there before
    pub is : buffer ≡ blocks_for cal records k ++ drop (512 * k) before

  -- a buffer that is as before has no block of the file in it
  pub put-none : Put 0 before
  put-none = record { is = sym (ap (λ (b : List ℕ). b ++ before) (blocks-none cal records)) }

  -- a buffer with the first k blocks in it is as long as before
  pub put-long : (k : ℕ) (buffer : List ℕ) → 512 * k ≤ length before → Put k buffer → length buffer ≡ length before
  put-long k buffer h e =
      ap length e.is
      ∙ length-append (blocks_for cal records k) (drop (512 * k) before)
      ∙ ap₂ ◌+◌ (blocks-length cal records k) (length-drop (512 * k) before)
      ∙ omega arith

  -- pasting block k after the first k blocks gives a buffer with one block more
  pub put-more : (k : ℕ) (buffer block after : List ℕ) → 512 * (k + 1) ≤ length before → Put k buffer → block ≡ block_for cal records k
      → after ≡ paste buffer (512 * k) block 512 → Put (k + 1) after
  put-more k buffer block after h e q p =
      record {
        is =
            p
            ∙ ap₂ (λ (b x : List ℕ). paste b (512 * k) x 512) e.is q
            ∙ ap₂ ◌++◌ (ap₂ ◌++◌ (take_at there rest (512 * k) (blocks-length cal records k)) (take_all 512 here (omega (arith, block-length cal records k))))
            past
            ∙ ap (λ (b : List ℕ). b ++ drop (512 * (k + 1)) before) (sym (ap (blocks_for cal records) (add-one k) ∙ blocks_more cal records k));
      }
    where
      there : List ℕ
      there = blocks_for cal records k

      here : List ℕ
      here = block_for cal records k

      rest : List ℕ
      rest = drop (512 * k) before

      next : 512 * k + 512 ≡ 512 * (k + 1)
      next = omega arith

      past : drop (512 * k + 512) (there ++ rest) ≡ drop (512 * (k + 1)) before
      past =
          ap (λ (n : ℕ). drop (n + 512) (there ++ rest)) (sym (blocks-length cal records k))
          ∙ drop-append-add there rest 512
          ∙ drop-drop 512 (512 * k) before
          ∙ ap (λ (n : ℕ). drop n before) next
