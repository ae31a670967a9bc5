-- Shown: the answer is that of question 10, its parts in the definition's order; the three of the calendar are those of
-- `is_calendar_sound` (`calendar-yes`, `calendar-no`). A part answered yes leaves those after it (`yes-1` ..); a `return` with no is the first of
-- those left, and the last is `is_listing_sound`.
use mathlib.Core.Path.{◌≡◌, refl, ◌∙◌, sym}
use mathlib.Core.Bool.{Bool, true, false, ◌&&◌}
use Rattle.questions.proofs.Bools.{said-no, said-yes}
use Rattle.std.proofs.lemmas.Bool.{false≢true}
use Rattle.calendar.specs.Trading.{valid_cover, in_cover, clean, every_week}
use Rattle.listing.specs.Months.{week_into_cover}
use Rattle.table.specs.declared.Table.{Table}
use Rattle.table.specs.Table.{listing_sound, sound}
use Rattle.table.proofs.is_sound.Goals as goal
use Rattle.table.proofs.is_sound.Goals.{Else-not-product_right, Else-not-is_calendar_sound, Else-not-in_cover, Else-not-is_week_into_cover}

-- the parts after the product, after the calendar and after the date
abbrev rest-3 : Table → Bool
rest-3 t = week_into_cover t.product.kind t.calendar.cover t.date && listing_sound t

abbrev rest-2 : Table → Bool
rest-2 t = in_cover t.calendar.cover t.date && rest-3 t

abbrev rest-1 : Table → Bool
rest-1 t = valid_cover t.calendar.cover && (clean t.calendar && (every_week t.calendar && rest-2 t))

-- the three parts of the calendar, answered yes, leave the rest
calendar-yes : (a b c rest : Bool) → (a && (b && c)) ≡ true → (a && (b && (c && rest))) ≡ rest
calendar-yes true true c rest e = rw e refl
calendar-yes true false c rest e = absurd (false≢true e)
calendar-yes false b c rest e = absurd (false≢true e)

-- one of them answered no is a no
calendar-no : (a b c rest : Bool) → (a && (b && c)) ≡ false → (a && (b && (c && rest))) ≡ false
calendar-no true true c rest e = rw e refl
calendar-no true false c rest e = refl
calendar-no false b c rest e = refl

-- ---- the yeses
yes-1 : (c : Else-not-product_right) → sound c.args.t ≡ rest-1 c.args.t
unfolding sound
yes-1 c = rw (said-yes c.product_right.ensures c.if-not-product_right.false)

yes-2 : (c : Else-not-is_calendar_sound) → sound c.args.t ≡ rest-2 c.args.t
yes-2 c = yes-1 (goal.at.Else-not-is_calendar_sound c).Else-not-product_right
    ∙ calendar-yes (valid_cover c.args.t.calendar.cover) (clean c.args.t.calendar) (every_week c.args.t.calendar) (rest-2 c.args.t)
    (said-yes c.is_calendar_sound.ensures c.if-not-is_calendar_sound.false)

yes-3 : (c : Else-not-in_cover) → sound c.args.t ≡ rest-3 c.args.t
yes-3 c = yes-2 (goal.at.Else-not-in_cover c).Else-not-is_calendar_sound ∙ rw (said-yes c.in_cover.ensures c.if-not-in_cover.false)

yes-4 : (c : Else-not-is_week_into_cover) → sound c.args.t ≡ listing_sound c.args.t
yes-4 c = yes-3 (goal.at.Else-not-is_week_into_cover c).Else-not-in_cover ∙ rw (said-yes c.is_week_into_cover.ensures c.if-not-is_week_into_cover.false)

-- ---- the answers
pub returns-then-not-product_right : goal.returns-then-not-product_right
unfolding sound
returns-then-not-product_right c = rw (said-no c.product_right.ensures c.if-not-product_right.true)

pub returns-then-not-is_calendar_sound : goal.returns-then-not-is_calendar_sound
returns-then-not-is_calendar_sound c =
    sym (yes-1 (goal.at.returns-then-not-is_calendar_sound c).Else-not-product_right
    ∙ calendar-no (valid_cover c.args.t.calendar.cover) (clean c.args.t.calendar) (every_week c.args.t.calendar) (rest-2 c.args.t)
    (said-no c.is_calendar_sound.ensures c.if-not-is_calendar_sound.true))

pub returns-then-not-in_cover : goal.returns-then-not-in_cover
returns-then-not-in_cover c = sym (yes-2 (goal.at.returns-then-not-in_cover c).Else-not-is_calendar_sound ∙ rw (said-no c.in_cover.ensures c.if-not-in_cover.true))

pub returns-then-not-is_week_into_cover : goal.returns-then-not-is_week_into_cover
returns-then-not-is_week_into_cover c =
    sym (yes-3 (goal.at.returns-then-not-is_week_into_cover c).Else-not-in_cover ∙ rw (said-no c.is_week_into_cover.ensures c.if-not-is_week_into_cover.true))

pub returns : goal.returns
returns c = c.is_listing_sound.ensures ∙ sym (yes-4 (goal.at.returns c).Else-not-is_week_into_cover)
