-- A line of a text of fewer than 64 bytes holds it.
-- Assumes nothing.
use mathlib.Core.Path.{◌≡◌}
use mathlib.Core.List.{List}
use Prim.Native.Nat.{ℕ, ◌≤◌, ◌<◌}
use native.Mathlib.Omega.{arith}
use lib.ListN.{length, take}
use Rattle.session_lines.specs.declared.Line.{Line}
use Rattle.session_lines.specs.CommandLines.{empty_line}
use Rattle.session_lines.proofs.LineFeeding.{fed-holds, fed-is}
use Rattle.file_text_print.specs.Contents.{LineWith}

module _ (text : List ℕ) (short : length text < 64) (l : Line) (made : LineWith empty_line text l) where
  -- a line made of a text of fewer than 64 bytes has room for 64
  pub line-room : length l.bytes ≡ 64
  line-room = rw made.is (fed-holds text).room

  -- a line made of a text of fewer than 64 bytes has the length of the text
  pub line-long : l.length ≡ length text
  line-long = rw made.is (fed-is text short).0

  -- a line made of a text of fewer than 64 bytes has at most 64 bytes
  pub line-fits : l.length ≤ 64
  line-fits = omega (arith, line-long)

  -- the bytes of a line made of a text of fewer than 64 bytes are the text
  pub line-is : take l.length l.bytes ≡ text
  line-is = rw made.is (fed-is text short).1
