-- What question 7 says of a record, part by part.
-- Assumes nothing.
use mathlib.Core.Path.{◌≡◌}
use mathlib.Core.Bool.{true, ◌&&◌}
use mathlib.Core.List.{List}
use Prim.Native.Nat.{ℕ, ◌*◌, ◌≤◌}
use native.Mathlib.Omega.{arith}
use lib.Dec.{leb}
use lib.ListN.{get_or}
use borrow.Author.Tests.{leb-true}
use Rattle.questions.proofs.Bools.{and-fst, and-snd}
use Rattle.product.specs.Fields.{fields_right, file_size_right}
use Rattle.file_blocks.specs.Blocks.{number_at, zeros}
use Rattle.file_records.specs.Records.{three_bytes, four_bytes, size_at, record_right}

pub record RecordParts (r : List ℕ) : Type 0 where
  -- the id, group, cash market, kind, size, tick and currency of the record are right
  pub fields : fields_right (four_bytes r 0) (four_bytes r 4) (four_bytes r 8) (get_or r 12 0) (size_at r) (number_at r 15) (three_bytes r 17) ≡ true
  -- the record's size has at least one whole share
  pub shares-some : 1 ≤ number_at r 13
  -- the record's size has at most 65,535 whole shares
  pub shares-most : number_at r 13 ≤ 65535
  -- the record's size has at most 9,999 ten-thousandths of a share beside the whole ones
  pub part-most : number_at r 20 ≤ 9999
  -- bytes 22 to 31 of the record are zero
  pub rest : zeros r 22 10 ≡ true

-- a record that question 7 accepts has each of these parts
pub record-parts : (r : List ℕ) → record_right r ≡ true → RecordParts r
unfolding record_right
record-parts r e =
    let fields = fields_right (four_bytes r 0) (four_bytes r 4) (four_bytes r 8) (get_or r 12 0) (size_at r) (number_at r 15) (three_bytes r 17) in
    let size = file_size_right (number_at r 13) (number_at r 20) in
    let sized = and-snd fields size (and-fst (fields && size) (zeros r 22 10) e) in
    let shares = and-fst (leb 1 (number_at r 13) && leb (number_at r 13) 65535) (leb (number_at r 20) 9999) sized in
    record {
      fields = and-fst fields size (and-fst (fields && size) (zeros r 22 10) e);
      shares-some = leb-true 1 (number_at r 13) (and-fst (leb 1 (number_at r 13)) (leb (number_at r 13) 65535) shares);
      shares-most = leb-true (number_at r 13) 65535 (and-snd (leb 1 (number_at r 13)) (leb (number_at r 13) 65535) shares);
      part-most = leb-true (number_at r 20) 9999 (and-snd (leb 1 (number_at r 13) && leb (number_at r 13) 65535) (leb (number_at r 20) 9999) sized);
      rest = and-snd (fields && size) (zeros r 22 10) e;
    }

-- 'a file's [size] not below one share' (02, note 11)
pub share-at-least : (r : List ℕ) → record_right r ≡ true → 10000 ≤ size_at r
unfolding size_at
share-at-least r e = let p = record-parts r e in omega (arith, p.shares-some)

-- 'zero in old files' (02, note 11): their size is what it was, in shares
pub old-size : (r : List ℕ) → number_at r 20 ≡ 0 → size_at r ≡ 10000 * number_at r 13
unfolding size_at
old-size r e = omega (arith, e)
