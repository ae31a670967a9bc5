-- The refusals by their numbers, and what a result stands for (01, Questions, in order; 02).
-- Assumes nothing.
use Rattle.std.specs.Prelude.{ℕ, Result, Ok, Err}
use Rattle.questions.specs.Questions.{Answer}
use Rattle.questions.specs.declared.Refusal.{Refusal}
use Rattle.questions.specs.declared.Refusal.TheVariants.{WrongLength, WrongCheck, WrongHeader, WrongBlocks, UncleanCalendar, IdleWeek}
use Rattle.questions.specs.declared.Refusal.TheVariants.{WrongRecord, IdsNotRising, UnknownId, Unsound, OutsideCover, BeforeTableDate}
use Rattle.questions.specs.declared.Refusal.TheVariants.{NotAfterTableDate, NotATradingDay, WeekLeftIdle, ListingBeyondCover, DueBeyondCover}
use Rattle.questions.specs.declared.Refusal.TheVariants.{NotListed, PriceOutOfRange, OffTick, NotAFuture, FinalOrContractsOutOfRange, NotADate, InFirstWeek}
use Rattle.questions.specs.declared.Refusal.TheVariants.{NoRoomForFile, NotAClosedWeekday, FrontChanges, RatioOutOfRange, MeasureOutOfRange, QueueNumberOutOfRange}
use Rattle.questions.specs.declared.Refusal.TheVariants.{WronglyQueued}

-- the number of the question that is answered no
abbrev pub refusal_number : Refusal → ℕ
refusal_number WrongLength = 1
refusal_number WrongCheck = 2
refusal_number WrongHeader = 3
refusal_number WrongBlocks = 4
refusal_number UncleanCalendar = 5
refusal_number IdleWeek = 6
refusal_number WrongRecord = 7
refusal_number IdsNotRising = 8
refusal_number UnknownId = 9
refusal_number Unsound = 10
refusal_number OutsideCover = 11
refusal_number BeforeTableDate = 12
refusal_number NotAfterTableDate = 13
refusal_number NotATradingDay = 14
refusal_number WeekLeftIdle = 15
refusal_number ListingBeyondCover = 16
refusal_number DueBeyondCover = 17
refusal_number NotListed = 18
refusal_number PriceOutOfRange = 19
refusal_number OffTick = 20
refusal_number NotAFuture = 21
refusal_number FinalOrContractsOutOfRange = 22
refusal_number NotADate = 23
refusal_number InFirstWeek = 24
refusal_number NoRoomForFile = 25
refusal_number NotAClosedWeekday = 26
refusal_number FrontChanges = 27
refusal_number RatioOutOfRange = 28
refusal_number MeasureOutOfRange = 29
refusal_number QueueNumberOutOfRange = 30
refusal_number WronglyQueued = 31

-- what a result stands for: 0 and its value, or the number of the refusal and the zero value
abbrev pub result_answer : {A : Type 0} → A → Result A Refusal → Answer A
result_answer zeros (Ok value) = record { refusal = 0; value = value }
result_answer zeros (Err refusal) = record { refusal = refusal_number refusal; value = zeros }
