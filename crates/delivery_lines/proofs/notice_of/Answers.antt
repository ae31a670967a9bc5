-- `notice_of` gives what a line of any length says: what `trimmed_line` says of
-- its first n bytes, which are the trimmed line by what `trimmed_length` promises.
use mathlib.Core.List.{List}
use mathlib.Core.Path.{sym, ◌∙◌, ap}
use Prim.Native.Nat.{ℕ}
use lib.Seq.{length-take-le}
use Rattle.delivery_lines.specs.NoticeLines.{trimmed_said, line_held}
use Rattle.delivery_lines.proofs.notice_of.Goals as goal

pub slice_bounds-trimmed_line-end : goal.slice_bounds-trimmed_line-end
slice_bounds-trimmed_line-end c = sym (length-take-le _ _ c.trimmed_length-n.ensures.1)

pub returns : goal.returns
returns c = c.trimmed_line.ensures ∙ ap (λ (l : List ℕ). line_held (trimmed_said l)) c.trimmed_length-n.ensures.0
