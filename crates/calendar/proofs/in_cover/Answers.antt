-- Whether a day is in the cover: not before its first day, and before its end.
use Rattle.std.proofs.Common.{rules, tests, ◌≡◌, ◌&&◌}
use lib.Dec.{leb, ltb}
use Rattle.calendar.specs.Trading.{in_cover}
use Rattle.calendar.proofs.in_cover.Goals as goal

pub returns : goal.returns
unfolding in_cover
returns c =
    let e : c.contains.result ≡ (leb c.cover_start.result c.args.day && ltb c.args.day c.cover_end.result) = search (rules, tests) in
    rw (← c.cover_start.ensures.0, ← c.cover_end.ensures.0) e
