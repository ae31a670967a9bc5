-- The number that word k of a line is: what `word_number` ensures of the word that `word_at` gives.
use mathlib.Core.Path.{ap, ◌∙◌}
use Prim.Native.Nat.{ℕ}
use mathlib.Core.List.{List}
use Rattle.file_text_lines.specs.Entries.{word_number}
use Rattle.file_text_lines.proofs.number_in.Goals as goal

pub returns : goal.returns
returns c = c.word_number.ensures ∙ ap (λ (word : List ℕ). word_number word c.args.most) c.word_at.ensures
