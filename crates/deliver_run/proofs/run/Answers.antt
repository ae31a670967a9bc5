-- A file that could not be read leaves nothing handed out (`unread`). Else the buffers have the lengths that `judged` requires,
-- and what it promises is promised of the run (`ran`).
use mathlib.Core.Path.{refl, sym}
use lib.Seq.{length-take-le}
use Rattle.deliver_run.proofs.DeliverRuns.{unread, ran}
use borrow.Author.Rules.{rules}
use Rattle.deliver_run.proofs.run.Goals as goal

pub returns-then-master : goal.returns-then-master
returns-then-master c =
    let u = c.ended.ensures in
    let none = c.nothing_handed.ensures in
    unread _ _ _ _ u.0 u.1 u.2 u.3 c.if-master.true (c.read_master-master.ensures.1 c.if-master.true) refl
    none.1 none.2

pub slice_bounds-judged-end : goal.slice_bounds-judged-end
slice_bounds-judged-end c = sym (length-take-le _ _ (search rules))

pub returns : goal.returns
returns c =
    let u = c.ended-2.ensures in
    let j = c.judged-d.ensures in
    ran _ _ _ _ u.0 u.1 u.2 u.3 _ _ c.if-master.false c.read_master-master.ensures.0.1 j.0.0.1 j.1 j.2
