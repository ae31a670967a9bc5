-- Where a line of an input that comes in parts ends. Only the code needs it.
-- Assumes nothing.
use Rattle.std.specs.Prelude.{ℕ, ◌+◌, true, false, cond, List, [], ◌∷◌, eqb}
use Rattle.delivery_items.specs.declared.LongLine.{LongLine}
use Rattle.delivery_items.specs.declared.LineEnd.{LineEnd}
use Rattle.delivery_items.specs.Items.{lengthened}

-- of a line begun and the bytes of a part from a place on: the line with its bytes up to its line feed, 10, and the place after that;
-- without a line feed the line with all of them, and the place after the last
unfoldable pub line_end : LongLine → List ℕ → ℕ → LineEnd
line_end l [] at = record { line = l; next = at; ended = false }
line_end l (byte ∷ rest) at = cond (eqb byte 10) (record { line = l; next = at + 1; ended = true }) (line_end (lengthened l byte) rest (at + 1))
