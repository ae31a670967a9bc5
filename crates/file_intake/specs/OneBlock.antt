-- What loading with one block of memory owes the whole-file load (02, note 8).
-- Assumes nothing.
use Rattle.std.specs.Prelude.{ℕ, suc, ◌<◌, ◌≡◌, List, length}
use Rattle.file_blocks.specs.Blocks.{block_count, block_of}
use Rattle.file_load.specs.Load.{load_call}
use Rattle.file_intake.specs.Intake.{announce_call, take_call, finish_call, state_after, refused_state, too_early}

-- 'For every file of 2 to 128 whole blocks, announced with that number and handed over in order';
-- the state after k of its blocks is `state_after f (block_count f) k`
pub record OneBlock (f : List ℕ) : Type 0 where
  pub announced : announce_call (block_count f) ≡ record { refusal = 0; state = state_after f (block_count f) 0 }
  pub taken : (k : ℕ) → k < block_count f → take_call (state_after f (block_count f) k) (block_of f k)
      ≡ record { refusal = 0; state = state_after f (block_count f) (suc k) }
  -- 'it is the result of the whole-file load, the lowest refusal included'
  pub result : finish_call (state_after f (block_count f) (block_count f)) ≡ load_call f
  -- 'So does a block that isn't 512 bytes ..; the state is then as before'
  pub not-a-block : (k : ℕ) (b : List ℕ) → (length b ≡ 512 → ⊥) → take_call (state_after f (block_count f) k) b ≡ refused_state (state_after f (block_count f) k)
  -- '.. or is one too many'
  pub too_many : (b : List ℕ) → take_call (state_after f (block_count f) (block_count f)) b ≡ refused_state (state_after f (block_count f) (block_count f))
  -- 'and a final call made too early'
  pub early : (k : ℕ) → k < block_count f → finish_call (state_after f (block_count f) k) ≡ too_early
