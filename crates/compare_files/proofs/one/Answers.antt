-- `one` is shown to read and print within its buffer, whose length it keeps: a file of more bytes
-- than that is returned as none, so its first n bytes are there. Each need is found by search.
use mathlib.Core.Path.{sym}
use lib.Seq.{length-take-le}
use borrow.Author.Rules.{rules}
use Rattle.compare_files.proofs.one.Goals as goal

-- ---- the read
pub slice_bounds-read_full-end-2 : goal.slice_bounds-read_full-end-2
slice_bounds-read_full-end-2 c = sym (length-take-le _ _ (search rules))

-- ---- the lines of what was read
pub slice_bounds-file_lines-end-2 : goal.slice_bounds-file_lines-end-2
slice_bounds-file_lines-end-2 c = sym (length-take-le _ _ (search rules))
