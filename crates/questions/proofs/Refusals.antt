-- What a function that gives back a result has to show: a value where no question is answered no, a refusal where its own is the first.
-- Assumes nothing.
use mathlib.Core.Path.{◌≡◌, refl, sym, ◌∙◌, ap}
use mathlib.Core.List.{List}
use Prim.Native.Nat.{◌-◌, suc}
use Rattle.std.specs.Prelude.{Ok, Err}
use Rattle.questions.specs.Questions.{Ask, first_no, answer}
use Rattle.questions.specs.Refusals.{refusal_number, result_answer}
use Rattle.questions.specs.declared.Refusal.{Refusal}
use Rattle.questions.specs.declared.Refusal.TheVariants.{WrongLength, WrongCheck, WrongHeader, WrongBlocks, UncleanCalendar, IdleWeek}
use Rattle.questions.specs.declared.Refusal.TheVariants.{WrongRecord, IdsNotRising, UnknownId, Unsound, OutsideCover, BeforeTableDate}
use Rattle.questions.specs.declared.Refusal.TheVariants.{NotAfterTableDate, NotATradingDay, WeekLeftIdle, ListingBeyondCover, DueBeyondCover}
use Rattle.questions.specs.declared.Refusal.TheVariants.{NotListed, PriceOutOfRange, OffTick, NotAFuture, FinalOrContractsOutOfRange, NotADate, InFirstWeek}
use Rattle.questions.specs.declared.Refusal.TheVariants.{NoRoomForFile, NotAClosedWeekday, FrontChanges, RatioOutOfRange, MeasureOutOfRange, QueueNumberOutOfRange}
use Rattle.questions.specs.declared.Refusal.TheVariants.{WronglyQueued}
use Rattle.questions.proofs.Asks.{accepted, refused}

-- no refusal has the number 0
pub numbered-from-1 : (r : Refusal) → refusal_number r ≡ suc (refusal_number r - 1)
numbered-from-1 WrongLength = refl
numbered-from-1 WrongCheck = refl
numbered-from-1 WrongHeader = refl
numbered-from-1 WrongBlocks = refl
numbered-from-1 UncleanCalendar = refl
numbered-from-1 IdleWeek = refl
numbered-from-1 WrongRecord = refl
numbered-from-1 IdsNotRising = refl
numbered-from-1 UnknownId = refl
numbered-from-1 Unsound = refl
numbered-from-1 OutsideCover = refl
numbered-from-1 BeforeTableDate = refl
numbered-from-1 NotAfterTableDate = refl
numbered-from-1 NotATradingDay = refl
numbered-from-1 WeekLeftIdle = refl
numbered-from-1 ListingBeyondCover = refl
numbered-from-1 DueBeyondCover = refl
numbered-from-1 NotListed = refl
numbered-from-1 PriceOutOfRange = refl
numbered-from-1 OffTick = refl
numbered-from-1 NotAFuture = refl
numbered-from-1 FinalOrContractsOutOfRange = refl
numbered-from-1 NotADate = refl
numbered-from-1 InFirstWeek = refl
numbered-from-1 NoRoomForFile = refl
numbered-from-1 NotAClosedWeekday = refl
numbered-from-1 FrontChanges = refl
numbered-from-1 RatioOutOfRange = refl
numbered-from-1 MeasureOutOfRange = refl
numbered-from-1 QueueNumberOutOfRange = refl
numbered-from-1 WronglyQueued = refl

module _ {A : Type 0} (asks : List Ask) (zeros value : A) where
  -- a value, where no question is answered no
  pub value-answers : first_no asks ≡ 0 → result_answer zeros (Ok value) ≡ answer asks zeros value
  value-answers e = sym (accepted asks zeros value e)

  -- a refusal, where its question is the first answered no
  pub refusal-answers : (r : Refusal) → first_no asks ≡ refusal_number r → result_answer zeros (Err r) ≡ answer asks zeros value
  refusal-answers r e = ap (λ n. record { refusal = n; value = zeros }) (numbered-from-1 r) ∙
      sym (refused asks zeros value (refusal_number r - 1) (e ∙ numbered-from-1 r))
