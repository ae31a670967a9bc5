-- Whether the bits of all 368 days of a calendar block are clean: `all` asks each day, and the year is the block's.
use Rattle.std.proofs.Common.{rules}
use Prim.Native.Nat.{ℕ}
use mathlib.Core.Bool.{Bool}
use native.Mathlib.Omega.{arith}
use Rattle.calendar.specs.Trading.{may_close, bits_clean}
use Rattle.file_blocks.proofs.Ranges.{every_from_all}
use Rattle.file_calendar.specs.Calendars.{map_bit}
use Rattle.file_calendar.proofs.days_clean.Goals as goal

pub overflow_cast-year : goal.overflow_cast-year
overflow_cast-year c = omega (arith, c.number_at.ensures.1)

pub returns : goal.returns
returns c =
    let b = c.args.b.now in
    let test : ℕ → Bool = λ n. bits_clean (may_close c.number_at.result n) (map_bit 16 b n) (map_bit 62 b n) in
    let all = every_from_all test 368 _ _ _ c.all.ensures.ran (λ x b q k. search rules) in
    rw c.number_at.ensures.0 at all
