-- A file that cannot be read ends the run; else what it gives is the run.
use mathlib.Core.Path.{sym, ◌∙◌}
use native.Mathlib.Omega.{arith}
use lib.Seq.{length-take-le}
use Rattle.reconcile_run.proofs.Fits.{take-few, unread-ran, master-unread, master-read}
use borrow.Author.Rules.{rules}
use Rattle.reconcile_run.proofs.run.Goals as goal

pub returns-then-could_not : goal.returns-then-could_not
returns-then-could_not c =
    master-unread _ c.read_master-master.ensures.0 (sym c.could_not.ensures
    ∙ c.if-could_not.true)
    c.not_read-unread.ensures.0
    (unread-ran _ c.nothing_told.ensures _ c.no_rows-rows.ensures)

pub slice_bounds-file-end : goal.slice_bounds-file-end
slice_bounds-file-end c = omega (arith, c.size-size.ensures, c.read_master-master.ensures.1)

pub slice_bounds-on_file-end : goal.slice_bounds-on_file-end
slice_bounds-on_file-end c = sym (length-take-le _ _ (omega (
  arith,
  c.size-size.ensures,
  c.read_master-master.ensures.1,
)))

pub on_file-r-requires : goal.on_file-r-requires
on_file-r-requires c = take-few _ _ _ c.size-size.ensures c.read_master-master.ensures.1
    (search rules)

pub returns : goal.returns
returns c =
    master-read _ c.read_master-master.ensures.0 (sym c.could_not.ensures ∙ c.if-could_not.false) _ c.read_master-master.ensures.1 _
    (rw c.size-size.ensures at c.on_file-r.ensures)
