-- `told_of` gives what is told of a key: its definition with what `delivered_of`, `right_of`
-- and `why_from` say; a count up to 2 gives the same reason as the whole count (`up-to-two`).
use mathlib.Core.Path.{refl}
use Rattle.delivery_differences.specs.Differences.{why_of, difference_of}
use Rattle.delivery_differences.proofs.KeyRows.{up-to-two}
use Rattle.delivery_differences.proofs.told_of.Goals as goal

pub returns : goal.returns
unfolding difference_of why_of
returns c =
    let s = c.delivered_of-delivered.ensures in
    rw (c.why_from.ensures, c.first_or_zeros.ensures, c.right_or_zeros.ensures, c.right_of-right.ensures, s.0, s.1, up-to-two _ _ _) refl
