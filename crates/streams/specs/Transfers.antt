-- What a read or a write answers, as the programs take it. Assumes nothing.
use Rattle.std.specs.Prelude.{◌≡◌, ℕ, ◌+◌, ◌%◌, ◌^◌, true, false, List, ℤ, pos, negsuc}
use Rattle.io.specs.Counts.{IsPrefixLen, clamp_len}
use Rattle.streams.specs.declared.calls.Transfer.{Transfer}

-- a call that failed moved nothing
abbrev pub failed : Transfer
failed = record { failed = true; length = 0 }

-- so many bytes were moved: of a read, none is the end of the input; of a write, that nothing was taken
abbrev pub moved_bytes : ℕ → Transfer
moved_bytes n = record { failed = false; length = n }

-- the answer of a read or a write of so many bytes at most: 0 and more are bytes that were moved, and a negative answer is a failure
unfoldable pub transfer_of : ℤ → ℕ → Transfer
transfer_of (pos k) most = moved_bytes (clamp_len (pos k) most)
transfer_of (negsuc k) most = failed

-- what was moved lies at the start of the buffer; where the call failed it is nothing
abbrev pub Within : Transfer → List ℕ → Type 0
Within t buffer = IsPrefixLen t.length buffer × (t.failed ≡ true → t.length ≡ 0)

-- a count of bytes, which is kept modulo 2^64, grew by so many
abbrev pub Grew : ℕ → ℕ → ℕ → Type 0
Grew n more m = m % 2 ^ 64 ≡ (n + more) % 2 ^ 64
