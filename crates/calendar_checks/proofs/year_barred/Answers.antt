-- The word has the days of 64 from a year's first on that may not be closed: all where the next year starts no later, since all bits are set;
-- else the weekends (`weekends-are`). In each case the other half of the contract cannot be.
use Rattle.calendar_words.proofs.DayWords.{all-days}
use Rattle.calendar_words.proofs.Equations.{weekends-are}
use native.Mathlib.Omega.{arith}
use Rattle.calendar_checks.proofs.year_barred.Goals as goal

pub returns-then-year_start-start : goal.returns-then-year_start-start
returns-then-year_start-start c = (λ h. absurd (omega (arith, h, c.if-year_start-start.true)), λ h. all-days)

pub returns : goal.returns
returns c =
    let s = c.year_start-start.ensures.0 in (
      λ h. rw s at (weekends-are _ _ c.weekends_from.ensures),
      λ h. absurd (omega (arith, h, s, c.year_start.ensures.0, c.if-year_start-start.false)),
    )
