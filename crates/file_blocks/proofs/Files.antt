-- Laws of the blocks of a file: sums, and bytes of a block.
-- Assumes nothing.
use mathlib.Core.Path.{◌≡◌, refl, ◌∙◌, ap}
use mathlib.Core.List.{List, [], map}
use Prim.Native.Nat.{ℕ, zero, suc, ◌+◌, ◌*◌, ◌≤◌, ◌<◌}
use native.Mathlib.Nat.{mul-le-mul, add-mul}
use native.Mathlib.Numerals.{add-one}
use native.Mathlib.Omega.{arith}
use lib.ListN.{take, drop, get_or, length, length-take, length-drop}
use lib.Seq.{get_or-take, get_or-drop, drop-drop}
use borrow.Author.Tests.{lt-ltb, le-ltb}
use Rattle.std.specs.Simd.{first_chunks}
use Rattle.std.specs.List.{range_with_len}
use Rattle.std.proofs.lemmas.List.FromFn.{get_or-map-range_with_len}
use Rattle.file_blocks.specs.Blocks.{block_count, block_of, blocks_of, weighted_sum}

-- a term of the weighted sum, with a place up to 255, and with one 255 higher
pub term-most : (i byte : ℕ) → i < 255 → byte < 256 → (i + 1) * byte ≤ 65025
term-most i byte hi hb = mul-le-mul {n₁ = i + 1} {m₁ = byte} {n₂ = 255} {m₂ = 255} (omega arith) (omega arith)

-- a byte 255 places later has its weight greater by 255, so 255 times the byte more in the sum
pub term-later : (i byte : ℕ) → (255 + i + 1) * byte ≡ (i + 1) * byte + 255 * byte
term-later i byte =
    let e : 255 + i + 1 ≡ i + 1 + 255 = omega arith in
    ap (λ (n : ℕ). n * byte) e ∙ add-mul (i + 1) 255 byte

-- the weighted sum of one byte more adds that byte times its place, counted from 1
pub weighted-more : (b : List ℕ) (i : ℕ) → weighted_sum b (i + 1) ≡ weighted_sum b i + (i + 1) * get_or b i 0
unfolding weighted_sum
weighted-more b i = rw add-one

-- the sum of both halves, of which i places each are summed
pub halves-more : (b : List ℕ) (i sum term : ℕ) → sum + weighted_sum b 255 ≡ weighted_sum b i + weighted_sum b (255 + i)
    → term ≡ (i + 1) * get_or b i 0 + (255 + i + 1) * get_or b (255 + i) 0 → sum + term + weighted_sum b 255 ≡ weighted_sum b (i + 1) + weighted_sum b (255 + (i + 1))
halves-more b i sum term e t =
    let q : 255 + (i + 1) ≡ 255 + i + 1 = omega arith in
    rw q (omega (arith, weighted-more b i, weighted-more b (255 + i)))

-- byte j of block k is byte 512 · k + j of the file
pub block-byte : (f : List ℕ) (k j : ℕ) → k < block_count f → j < 512 → get_or (block_of f k) j 0 ≡ get_or f (512 * k + j) 0
unfolding block_of
block-byte f k j l h = rw (lt-ltb k (block_count f) l) (get_or-take 512 (drop (512 * k) f) j 0 h ∙ get_or-drop (512 * k) f j 0)

-- a block whose index is below the count of blocks is its 512 bytes of the file
pub block_in : (f : List ℕ) (k : ℕ) → k < block_count f → block_of f k ≡ take 512 (drop (512 * k) f)
unfolding block_of
block_in f k h = rw (lt-ltb k (block_count f) h)

-- a block whose index is not below the count of blocks has no bytes
pub block_out : (f : List ℕ) (k : ℕ) → block_count f ≤ k → block_of f k ≡ []
unfolding block_of
block_out f k h = rw (le-ltb k (block_count f) h)

-- a block whose index is below the count of blocks has 512 bytes
pub block-long : (f : List ℕ) (k : ℕ) → k < block_count f → length (block_of f k) ≡ 512
block-long f k h = rw (block_in f k h, length-take, length-drop) (omega arith)

chunks-from : (f : List ℕ) (k n : ℕ) → k + n ≤ block_count f → first_chunks 512 n (drop (512 * k) f) ≡ map (block_of f) (range_with_len k n)
chunks-from f k zero h = refl
chunks-from f k (suc n) h =
    let q : 512 * k + 512 ≡ 512 * (k + 1) = omega arith in
    let rest : drop 512 (drop (512 * k) f) ≡ drop (512 * (k + 1)) f = drop-drop 512 (512 * k) f ∙ ap (λ (n : ℕ). drop n f) q in
    rw (block_in f k (omega arith), rest, chunks-from f (k + 1) n (omega arith))

-- the first chunks of 512 bytes of a file are its blocks
pub chunks-blocks : (f : List ℕ) → first_chunks 512 (block_count f) f ≡ blocks_of f
unfolding blocks_of
chunks-blocks f = chunks-from f 0 (block_count f) (omega arith)

-- block k of the list of blocks
pub blocks-at : (f : List ℕ) (k : ℕ) → k < block_count f → (d : List ℕ) → get_or (blocks_of f) k d ≡ block_of f k
unfolding blocks_of
blocks-at f k h d = get_or-map-range_with_len (block_of f) 0 (block_count f) k k d h (omega arith)
