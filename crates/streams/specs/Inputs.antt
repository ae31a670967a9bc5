-- What is known of standard input while it is read part by part. Assumes nothing.
use Rattle.std.specs.Prelude.{◌≡◌, ℕ, ◌+◌, ◌-◌, ◌%◌, ◌^◌, ◌<◌, ◌≤◌, cond, ◌⊎◌, List, [], ◌++◌, length, ◌==◌}
use Rattle.io.specs.Counts.{IsPrefixLen}
use Rattle.streams.specs.declared.calls.Transfer.{Transfer}
use Rattle.streams.specs.declared.reads.Input.{Input}
use Rattle.streams.specs.declared.reads.Part.{Part}

-- after one read: no read is left after one that brought nothing, which has failed or has found the end, and the two are told apart;
-- after another one there is one fewer, and its bytes are counted, modulo 2^64
unfoldable pub input_after : Input → Transfer → Input
input_after i t =
    cond (t.length == 0)
    (record { left = 0; bytes = i.bytes; failed = t.failed })
    (record { left = i.left - 1; bytes = (i.bytes + t.length) % 2 ^ 64; failed = i.failed })

-- reads that go on until they have brought enough, or the buffer is full, or no read is left
pub record ReadOn (i : Input) (enough : ℕ) (buffer : List ℕ) (r : Part) : Type 0 where
  -- no more bytes came than the buffer holds, and they are counted, modulo 2^64; that they are those which were read is not said
  pub within : IsPrefixLen r.length buffer
  pub count : r.input.bytes ≡ (i.bytes + r.length) % 2 ^ 64
  -- where more was asked for than came, though it had room, no read is left
  pub ended : r.length < enough → r.length < length buffer → r.input.left ≡ 0
  -- else at most as many reads were made as bytes came, and `failed` is what it was: the end is not said where it was not found
  pub goes : (enough ≤ r.length) ⊎ (length buffer ≤ r.length) → (i.left ≤ r.input.left + r.length) × (r.input.failed ≡ i.failed)
  -- where a byte is asked for and has room, fewer reads are left than before, so a loop over the reads ends
  pub fewer : 0 < enough → 0 < length buffer → 0 < i.left → r.input.left < i.left

-- of an input that was read so far: there are as many bytes as the reads brought, modulo 2^64, and this holds of every input that begins with them;
-- where no read is left, of them alone;
-- that they are the bytes which were read is not said, and whether a read failed plays no part
pub record ForInput (i : Input) (holds : List ℕ → Type 0) : Type 0 where
  pub input : List ℕ
  pub count : i.bytes ≡ length input % 2 ^ 64
  pub is : (rest : List ℕ) → (i.left ≡ 0 → rest ≡ []) → holds (input ++ rest)
