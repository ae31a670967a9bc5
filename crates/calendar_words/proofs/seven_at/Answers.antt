-- Seven bytes of the maps as one number, below 2^56: the first four times 2^24 and the next three, by `bytes-join`. The sizes are found by search.
use Rattle.calendar_words.proofs.DayWords.{bytes-join}
use native.Mathlib.Omega.{arith}
use Rattle.calendar_words.proofs.seven_at.Goals as goal

pub returns : goal.returns
returns c =
    let start = c in
    let j = bytes-join start.args.maps.now start.args.at 4 3 in
    (omega (arith, j), omega arith)
