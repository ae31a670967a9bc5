-- A line with no text more, and with the bytes of a lent slice more.
-- Assumes nothing.
use mathlib.Core.Path.{◌≡◌, refl}
use mathlib.Core.List.{List, []}
use Prim.Native.Nat.{ℕ}
use Rattle.session_lines.specs.declared.Line.{Line}
use Rattle.session_lines.specs.CommandLines.{fed}
use Rattle.file_text_print.specs.Contents.{LineWith}

-- a line with no text more is the same line
pub no_text : (l : Line) → LineWith l [] l
unfolding fed
no_text l = record { is = refl }

-- a line fed with a text is the line with that text more
pub fed-text : (l r : Line) (t : List ℕ) → r ≡ fed l t → LineWith l t r
fed-text l r t e = record { is = e }
