-- A line with the characters of an id more, up to its first space.
-- The loop keeps: `whole` with the characters that are left is the line with the id's characters.
-- A space ends the characters (id-ends), another byte is one of them (id-goes-on), and after the last byte none are left (id-whole).
use native.Mathlib.Omega.{arith}
use mathlib.Core.Path.{◌∙◌}
use Rattle.file_text_print.proofs.Building.{id-ends, id-goes-on, id-whole}
use Rattle.file_text_print.proofs.with_id.Goals as goal

-- ---- a space
pub returns-then-byte-eq32 : goal.returns-then-byte-eq32
returns-then-byte-eq32 c =
    record {
      is = id-ends c.loop-byte.whole c.args.id c.loop-byte.byte-index (omega arith) c.if-byte-eq32.true ∙ c.loop-byte.invariant;
    }

-- ---- one character more
pub loop-byte-preserved : goal.loop-byte-preserved
loop-byte-preserved c =
    rw c.extend-whole.ensures
    (id-goes-on c.loop-byte.whole c.args.id c.loop-byte.byte-index (omega arith) c.if-byte-eq32.false ∙ c.loop-byte.invariant)

-- ---- after the last byte
pub returns : goal.returns
returns c = record { is = id-whole c.loop-byte.whole c.args.id c.loop-byte.byte-index (omega arith) ∙ c.loop-byte.invariant }
