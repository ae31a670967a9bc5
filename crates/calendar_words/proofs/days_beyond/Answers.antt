-- 0 just where the second byte has only days of the first, by `byte-within`. The two bytes' bits together are at least the first byte, so nothing
-- is taken from a smaller number.
use Rattle.calendar_words.proofs.MapBytes.{byte-within}
use lib.Bits.{or_add_and, and_le_r}
use native.Mathlib.Omega.{arith}
use mathlib.Core.Path.{refl}
use Rattle.calendar_words.proofs.days_beyond.Goals as goal

pub overflow_sub-result : goal.overflow_sub-result
overflow_sub-result c = omega (arith, or_add_and c.args.first c.args.second, and_le_r c.args.first c.args.second)

pub returns : goal.returns
returns c = (refl, byte-within _ _ (omega arith) (omega arith))
