-- The calendar of a seed and a cover; 4 and zeros where the cover is not valid. The loop keeps: going on from this
-- day, value and calendar makes what the start makes. A turn is `made-next`; at the end `walked` gives the definition's calendar.
use mathlib.Core.Path.{refl, ◌∙◌, sym}
use mathlib.Core.List.{[]}
use Rattle.questions.proofs.Asks.{first-no, refused}
use Rattle.questions.proofs.Bools.{said-no, said-yes}
use Rattle.calendar_synthetic.specs.Generated.{made_call}
use Rattle.calendar_synthetic.proofs.EachDay.{made-next, walked}
use Rattle.calendar_synthetic.proofs.make.Goals as goal

-- ---- the refusal 4
pub returns-then-not-is_valid_cover : goal.returns-then-not-is_valid_cover
unfolding made_call
returns-then-not-is_valid_cover c =
    sym (refused _ _ _ 3 (first-no 4 [] (said-no c.is_valid_cover.ensures c.if-not-is_valid_cover.true)))

-- ---- the loop begins at the cover's first day
pub loop-day-init : goal.loop-day-init
loop-day-init c = refl

-- ---- a day visited
pub loop-day-preserved : goal.loop-day-preserved
loop-day-preserved c =
    let l = c.loop-day in
    rw (c.calendar_at-cal.ensures, c.value_at-value.ensures) (made-next _ _ _ _ c.loop-day-test.true ∙ l.invariant)

-- ---- after the loop: the whole cover
pub returns : goal.returns
returns c =
    walked _ _ _ _ _ _ _ _ c.cover_end-day-end.ensures.0 c.cover_start-day.ensures.0 c.open_calendar-cal.ensures
    (said-yes c.is_valid_cover.ensures c.if-not-is_valid_cover.false)
    c.loop-day-test.false c.loop-day.invariant
