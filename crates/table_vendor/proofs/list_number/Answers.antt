-- A place within the list gives its number, by search; one past the end gives 0, which is the default there.
use mathlib.Core.Path.{sym}
use lib.ListN.{get_or-eq_default}
use Rattle.table_vendor.proofs.list_number.Goals as goal

pub returns : goal.returns
returns c = sym (get_or-eq_default c.args.list.now 0 c.if-at-list.false)
