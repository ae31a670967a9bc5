-- `read_line` gives what a line of any length says: what `read_trimmed` says of its first
-- n bytes, which are the trimmed line by what `trimmed_length` promises (`line-is`).
use mathlib.Core.Path.{sym}
use lib.Seq.{length-take-le}
use Rattle.delivery_items.proofs.ItemForms.{line-is}
use Rattle.delivery_items.proofs.read_line.Goals as goal

pub slice_bounds-read_trimmed-end : goal.slice_bounds-read_trimmed-end
slice_bounds-read_trimmed-end c = sym (length-take-le _ _ c.trimmed_length-n.ensures.1)

pub returns : goal.returns
returns c = line-is _ _ _ c.trimmed_length-n.ensures.0 c.read_trimmed.ensures.0 c.read_trimmed.ensures.1
    c.read_trimmed.ensures.2
