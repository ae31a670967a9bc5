-- `question_of` gives what a line of any length asks: what `trimmed_asked` says of
-- its first n bytes, which are the trimmed line by what `trimmed_length` promises.
use mathlib.Core.List.{List}
use mathlib.Core.Path.{sym, ◌∙◌, ap}
use Prim.Native.Nat.{ℕ}
use lib.Seq.{length-take-le}
use Rattle.delivery_questions.specs.QuestionLines.{trimmed_asked, asked_held}
use Rattle.delivery_questions.proofs.question_of.Goals as goal

pub slice_bounds-trimmed_asked-end : goal.slice_bounds-trimmed_asked-end
slice_bounds-trimmed_asked-end c = sym (length-take-le _ _ c.trimmed_length-n.ensures.1)

pub returns : goal.returns
returns c = c.trimmed_asked.ensures ∙ ap (λ (l : List ℕ). asked_held (trimmed_asked l)) c.trimmed_length-n.ensures.0
