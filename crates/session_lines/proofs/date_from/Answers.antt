-- The date from a place of the line on. After place 54 the ten bytes do not all fit the 64, so there is no date
-- (`date-beyond`); else it is what `date_at` says.
use mathlib.Core.Path.{◌≡◌}
use lib.ListN.{length}
use Rattle.session_lines.proofs.CommandForms.{date-beyond}
use Rattle.session_lines.proofs.date_from.Goals as goal

pub returns-then-at-gt54 : goal.returns-then-at-gt54
returns-then-at-gt54 c =
    let l : length c.args.line.bytes ≡ 64 = c.well_formed.0.1.1.0.1.0.1 in
    date-beyond c.args.line.bytes _ l c.if-at-gt54.true

pub returns : goal.returns
returns c = c.date_at.ensures
