-- How many bytes of a buffer are records: at most all of it, and as many bytes as the size takes.
-- A size past the buffer takes the whole buffer, which is the first `return`; another size is itself.
use native.Mathlib.Omega.{arith}
use mathlib.Core.Path.{refl, sym, ◌∙◌}
use lib.Seq.{take_all, take-length}
use Rattle.file_text_read.proofs.records_size.Goals as goal

pub returns-then-records-size : goal.returns-then-records-size
returns-then-records-size c = (
  omega arith,
  take-length c.args.records.now ∙
      sym (take_all c.args.taken.size c.args.records.now (omega arith)),
)

pub returns : goal.returns
returns c = (omega arith, refl)
