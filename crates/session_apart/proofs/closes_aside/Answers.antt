-- Shown: a yes says that the command is a close, that `ten` is yes, that the day is in the cover with its byte below 736,
-- and that the close of a sound table, under any second map, is the same table with the day closed. The seven returns with
-- no have nothing to show; the last has all tests answered yes (`closes_kept`).
use native.Mathlib.Omega.{arith}
use mathlib.Core.Path.{◌≡◌, refl, sym, ◌∙◌}
use mathlib.Core.Bool.{true≢false}
use lib.ListN.{length}
use borrow.Author.Tests.{lt-ltb}
use Rattle.questions.proofs.Bools.{said-yes}
use Rattle.session_apart.proofs.Keeping.{closes_kept}
use Rattle.session_apart.proofs.closes_aside.Goals as goal

-- ---- the answers no
pub returns-then-letter-ne67 : goal.returns-then-letter-ne67
returns-then-letter-ne67 c = λ e. absurd (true≢false (sym e))

pub returns-then-not-ten : goal.returns-then-not-ten
returns-then-not-ten c = λ e. absurd (true≢false (sym e))

pub returns-then-not-in_cover : goal.returns-then-not-in_cover
returns-then-not-in_cover c = λ e. absurd (true≢false (sym e))

pub returns-then-day-rest : goal.returns-then-day-rest
returns-then-day-rest c = λ e. absurd (true≢false (sym e))

pub returns-then-not-is_trading_day_in : goal.returns-then-not-is_trading_day_in
returns-then-not-is_trading_day_in c = λ e. absurd (true≢false (sym e))

pub returns-then-not-trades_around : goal.returns-then-not-trades_around
returns-then-not-trades_around c = λ e. absurd (true≢false (sym e))

pub returns-then-slot-ge736 : goal.returns-then-slot-ge736
returns-then-slot-ge736 c = λ e. absurd (true≢false (sym e))

-- ---- the answer yes
pub returns : goal.returns
returns c = λ e.
    let len : length c.args.rest.maturities ≡ 15 = c.well_formed.1.1.0.1.1.1.1.1.0.1.0.1 in (
      c.if-letter-ne67.false,
      said-yes refl c.if-not-ten.false,
      said-yes c.in_cover.ensures c.if-not-in_cover.false,
      omega (arith, c.slot_of-slot.ensures, c.if-slot-ge736.false),
      closes_kept _ _ len _ (said-yes c.in_cover.ensures c.if-not-in_cover.false) c.if-day-rest.false (lt-ltb _ _ c.if-day-rest.false)
          (said-yes c.is_trading_day_in.ensures c.if-not-is_trading_day_in.false)
          (said-yes c.trades_around.ensures c.if-not-trades_around.false) (sym c.none_ends_on.ensures ∙ e),
    )
