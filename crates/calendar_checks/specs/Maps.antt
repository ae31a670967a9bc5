-- What question 5 looks at by words: the days of a year and the maps of a cover that may not have closed days.
-- Assumes nothing.
use Rattle.std.specs.Prelude.{◌≡◌, true, false, ℕ, ◌+◌, ◌*◌, ◌≤◌, ◌<◌}
use Rattle.questions.specs.Search.{every}
use Rattle.days.specs.Dates.{year_start}
use Rattle.calendar.specs.declared.Cover.{Cover}
use Rattle.calendar.specs.Trading.{may_close, may_be_closed}
use Rattle.calendar_words.specs.DayWords.{day_bit, Weekends}

-- a word of the 64 days from a year's first on has those that may not be closed: the weekends; all where the year has no days
abbrev pub Barred : ℕ → ℕ → Type 0
Barred y x = (year_start y < year_start (y + 1) → Weekends (year_start y) x) × (year_start (y + 1) ≤ year_start y → every 64 (day_bit 64 x) ≡ true)

-- of the 16 maps the first n may have closed days, each those of its year of the cover
pub record Used (c : Cover) (n : ℕ) : Type 0 where
  pub most : n ≤ 16
  pub early : 0 < n → c.first_year < 2100
  pub here : (k m : ℕ) → k < n → m < 368 → may_be_closed c (368 * k + m) ≡ may_close (c.first_year + k) m
  pub beyond : (s : ℕ) → 368 * n ≤ s → s < 5888 → may_be_closed c s ≡ false
