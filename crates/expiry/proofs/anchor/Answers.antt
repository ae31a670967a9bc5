-- The anchor of a key: the key itself for a weekly kind, else its month's. Each `return` computes the definition's case from what `is_weekly` said.
use Rattle.expiry.specs.LastDays.{anchor_of}
use mathlib.Core.Path.{◌∙◌, sym}
use Rattle.expiry.proofs.anchor.Goals as goal

pub returns-then-is_weekly : goal.returns-then-is_weekly
unfolding anchor_of
returns-then-is_weekly c = rw (sym c.is_weekly.ensures ∙ c.if-is_weekly.true)

pub returns : goal.returns
unfolding anchor_of
returns c = rw (c.month_anchor.ensures, sym c.is_weekly.ensures ∙ c.if-is_weekly.false)
