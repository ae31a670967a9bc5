-- A byte of a header: kind, version, year or count of records, index, then zeros.
-- Each `return` is the case of `header_byte` that the match chose; the last, where no case did, refutes each of them.
use borrow.Author.Tests.{ne_eqb}
use Rattle.file_draft.specs.Drafts.{header_byte}
use Rattle.file_write.proofs.header_byte.Goals as goal

-- ---- bytes 0 to 5
pub returns-in-0 : goal.returns-in-0
unfolding header_byte
returns-in-0 c = rw c.in-0.is

pub returns-in-1 : goal.returns-in-1
unfolding header_byte
returns-in-1 c = rw c.in-1.is

pub returns-in-2 : goal.returns-in-2
unfolding header_byte
returns-in-2 c = rw c.in-2.is

pub returns-in-3 : goal.returns-in-3
unfolding header_byte
returns-in-3 c = rw c.in-3.is

pub returns-in-4 : goal.returns-in-4
unfolding header_byte
returns-in-4 c = rw c.in-4.is

pub returns-in-5 : goal.returns-in-5
unfolding header_byte
returns-in-5 c = rw c.in-5.is

-- ---- any other byte
pub returns-in_default : goal.returns-in_default
unfolding header_byte
returns-in_default c =
    let r = c.in_default.in_default-own.rest in
    simp (
      ne_eqb _ _ r.1,
      ne_eqb _ _ r.0.1,
      ne_eqb _ _ r.0.0.1,
      ne_eqb _ _ r.0.0.0.1,
      ne_eqb _ _ r.0.0.0.0.1,
      ne_eqb _ _ r.0.0.0.0.0.1,
    )
