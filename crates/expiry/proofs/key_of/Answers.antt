-- The key of a day: the day itself for a weekly kind, else its month. Each `return` computes the definition's case from what `is_weekly` said.
use Rattle.expiry.specs.LastDays.{key_of}
use mathlib.Core.Path.{◌∙◌, sym}
use Rattle.expiry.proofs.key_of.Goals as goal

pub returns-then-is_weekly : goal.returns-then-is_weekly
unfolding key_of
returns-then-is_weekly c = rw (sym c.is_weekly.ensures ∙ c.if-is_weekly.true)

pub returns : goal.returns
unfolding key_of
returns c = rw (c.month_of.ensures, sym c.is_weekly.ensures ∙ c.if-is_weekly.false)
