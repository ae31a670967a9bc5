-- Shown: the name of a maturity is written within its width: the date of its Friday in a weekly kind, else its month. Each
-- `return` rewrites by what `is_weekly` said, and the width of the kind follows (`width-weekly`, `width-months`).
use mathlib.Core.Path.{◌∙◌, sym}
use native.Mathlib.Omega.{arith}
use Rattle.session_text.proofs.TermsTexts.{width-weekly, width-months}
use Rattle.session_text.specs.TermsText.{name_text}
use Rattle.session_text.proofs.put_name.Goals as goal

pub put_day-requires : goal.put_day-requires
put_day-requires c = omega (
  arith,
  width-weekly c.args.kind
      (sym c.is_weekly.ensures ∙ c.if-is_weekly.true),
)

pub returns-then-is_weekly : goal.returns-then-is_weekly
unfolding name_text
returns-then-is_weekly c =
    let w = sym c.is_weekly.ensures ∙ c.if-is_weekly.true in (
      rw w c.put_day.ensures.0,
      omega (arith, width-weekly c.args.kind w, c.put_day.ensures.1),
    )

pub put_month-requires : goal.put_month-requires
put_month-requires c = omega (
  arith,
  width-months c.args.kind
      (sym c.is_weekly.ensures ∙ c.if-is_weekly.false),
)

pub returns : goal.returns
unfolding name_text
returns c =
    let w = sym c.is_weekly.ensures ∙ c.if-is_weekly.false in (
      rw w c.put_month.ensures.0,
      omega (arith, width-months c.args.kind w, c.put_month.ensures.1),
    )
