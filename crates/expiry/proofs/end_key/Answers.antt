-- The first key beyond the cover, at most 36,525: the key of the day after its last. The bound is `key-most`, since the cover ends by 36,525.
use Rattle.expiry.proofs.Keys.{key-most}
use Rattle.expiry.specs.LastDays.{key_of}
use native.Mathlib.Omega.{arith}
use mathlib.Core.Path.{◌∙◌, ap}
use Rattle.expiry.proofs.end_key.Goals as goal

pub returns : goal.returns
returns c =
    let k = c.args.kind in (
      c.key_of.ensures ∙ ap (key_of k) c.cover_end.ensures.0,
      omega (arith, c.key_of.ensures, key-most k c.cover_end.result c.cover_end.ensures.1),
    )
