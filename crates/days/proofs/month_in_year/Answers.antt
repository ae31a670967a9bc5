-- The month r of day n of a year: it starts by n, and the next month, where there is one, starts after n. By `early-month` before March, where the
-- answer is n / 31, and by `late-month` from March on.
use Rattle.days.proofs.Years.{early-month, late-month}
use Rattle.days.proofs.month_in_year.Goals as goal

pub returns-then-n-march : goal.returns-then-n-march
returns-then-n-march c = early-month _ _ c.requires c.if-n-march.true

pub returns : goal.returns
returns c = late-month _ _ c.requires c.if-n-march.false
