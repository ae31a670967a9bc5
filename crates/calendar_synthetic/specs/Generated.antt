-- Made-up calendars for load tests (02, Note 14; questions 4, 5 and 6).
-- Assumes nothing.
use Rattle.std.specs.Prelude.{ℕ, zero, suc, ◌+◌, ◌-◌, ◌*◌, ◌/◌, ◌%◌, ◌≡◌, Bool, true, ◌&&◌, cond, List, [], ◌∷◌, ltb, replicate}
use Rattle.questions.specs.Questions.{Ask, ask, Answer, answer}
use Rattle.days.specs.Gregorian.{weekday_of}
use Rattle.calendar.specs.declared.Cover.{Cover}
use Rattle.calendar.specs.declared.Calendar.{Calendar}
use Rattle.calendar.specs.Trading.{valid_cover, cover_start, cover_end, clean, every_week, close_day, open_calendar, zero_calendar}

-- 'The next value is (1,664,525 × value + 1,013,904,223) mod 2^32'
abbrev pub next_value : ℕ → ℕ
next_value value = (1664525 * value + 1013904223) % 4294967296

-- 'the Mondays to Fridays of the cover in order, one new value each':
-- the value at a day, after the value so far; a Saturday or Sunday takes none
unfoldable pub value_at : ℕ → ℕ → ℕ
value_at day value = cond (ltb (weekday_of day) 5) (next_value value) value

-- 'close the day if value div 2^24 is below 8 ..'
abbrev pub drawn : ℕ → Bool
drawn value = ltb (value / 16777216) 8

-- '.. unless that would leave a seven-day run without a trading day'
unfoldable pub closes_at : Calendar → ℕ → ℕ → Bool
closes_at cal day value = ltb (weekday_of day) 5 && (drawn value && every_week (close_day cal day))

-- the calendar after a day was visited with its value
unfoldable pub calendar_at : Calendar → ℕ → ℕ → Calendar
calendar_at cal day value = cond (closes_at cal day value) (close_day cal day) cal

-- 'Go through the Mondays to Fridays of the cover in order':
-- n days from a day on, after the value so far
unfoldable pub made : ℕ → ℕ → ℕ → Calendar → Calendar
made zero day value cal = cal
made (suc n) day value cal = made n (suc day) (value_at day value) (calendar_at cal day (value_at day value))

-- 'Days not yet visited count as open':
-- all days of the cover; the first value is the one after the seed
abbrev pub made_from : ℕ → Cover → Calendar
made_from seed cover = made (cover_end cover - cover_start cover) (cover_start cover) seed (open_calendar cover)

-- 'any other cover gets 4 ..'
abbrev pub made_asks : Cover → List Ask
made_asks cover = ask 4 (valid_cover cover) ∷ []

-- '.. and a calendar of zeros'
unfoldable pub made_call : ℕ → Cover → Answer Calendar
made_call seed cover = answer (made_asks cover) zero_calendar (made_from seed cover)

-- 'every calendar made this way passes questions 5 and 6, for every seed and every cover of 1 to 16 years from 2000 to 2099':
-- of a valid cover (proofs, Passing)
pub record Passes (seed : ℕ) (cover : Cover) : Type 0 where
  pub accepted : (made_call seed cover).refusal ≡ 0
  pub cover-kept : (made_call seed cover).value.cover ≡ cover
  pub closures : clean (made_call seed cover).value ≡ true
  pub weeks : every_week (made_call seed cover).value ≡ true
  -- no day is in the second map (note 4)
  pub second : (made_call seed cover).value.exchange ≡ replicate 736 0
