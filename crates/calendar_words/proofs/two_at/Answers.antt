-- Two bytes of the maps as one number, below 2^16: the first times 256 and the second, by `bytes-join`. The sizes are found by search.
use Rattle.calendar_words.proofs.DayWords.{bytes-join, one_byte}
use Prim.Native.Nat.{◌+◌}
use native.Mathlib.Omega.{arith}
use Rattle.calendar_words.proofs.two_at.Goals as goal

pub returns : goal.returns
returns c =
    let start = c in
    let b = start.args.maps.now in
    let j = bytes-join b start.args.at 1 1 in
    (omega (arith, j, one_byte b start.args.at, one_byte b (start.args.at + 1)), omega arith)
