-- What standard input brought, read part by part and as a whole.
-- That bad lines are told is said by the count of their bytes, modulo 2^64; which bytes these are is required where they are told.
-- Assumes nothing.
use Rattle.std.specs.Prelude.{ℕ, ◌%◌, ◌^◌, ◌≡◌, List, length}
use Rattle.streams.specs.declared.reads.Input.{Input}
use Rattle.streams.specs.Inputs.{ForInput}
use Rattle.delivery_receipts.specs.Receipts.{receipt_of}
use Rattle.delivery_receipts.specs.Receiving.{Lists, receipt_in}
use Rattle.delivery_row_parts.specs.declared.RowsKept.{RowsKept}
use Rattle.delivery_row_parts.specs.declared.LinesRead.{LinesRead}
use Rattle.delivery_row_parts.specs.RowParts.{AllBadsTold, RowsCame}

-- there is an input of which n bytes were counted, modulo 2^64, and its bytes have come
pub record RowsReadTo (f : List ℕ) (told : ℕ) (a : Lists) (left n : ℕ) (k : LinesRead) : Type 0 where
  pub input : List ℕ
  pub count : n ≡ length input % 2 ^ 64
  pub came : RowsCame f told a input left k

-- of every input that begins with the bytes that were counted, and of them alone where no read is left:
-- its good rows are those in the lists, its bad lines were told after so many bytes, and counted.
-- Where there was a good row too many, whatever follows changes nothing; that no read is left else is a promise of its own
pub record RowsOfInput (f : List ℕ) (told : ℕ) (a : Lists) (i : Input) (s : RowsKept) : Type 0 where
  pub bads : List ℕ
  pub is : ForInput i (λ input. receipt_in s.state a bads ≡ receipt_of f input)
  pub tells : AllBadsTold told bads s
