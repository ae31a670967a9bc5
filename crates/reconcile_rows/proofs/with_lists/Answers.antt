-- Openings, rows, differences and counts, one after the other, are the two texts.
use mathlib.Core.Path.{sym, ◌∙◌}
use native.Mathlib.Omega.{arith}
use Rattle.delivery_reconciling.proofs.ReconcileRuns.{rows_few, bads-few}
use Rattle.reconcile_rows.proofs.RowsRan.{neither, stopped-ran, finished-ran}
use Rattle.reconcile_rows.proofs.with_lists.Goals as goal

pub returns-then-stops : goal.returns-then-stops
returns-then-stops c = λ g.
    stopped-ran _ _ _ _ _ _ g _
    (rw c.nothing_told.ensures at c.tell_openings-opened.ensures.grew) _
    c.read_rows-read.result (c.read_rows-read.ensures.rows_of_input c.requires.1)
    (sym c.stops.ensures ∙ c.if-stops.true) _ c.stopped.ensures

pub tell_counts-told-requires : goal.tell_counts-told-requires
tell_counts-told-requires c =
    let read = c.read_rows-read in
    let n = neither read.result.input.failed read.result.kept.state.over (sym c.stops.ensures ∙ c.if-stops.false) in
    let x = read.ensures.rows_of_input c.requires.1 n.0 in
    let few = rows_few _ _ _ _ _ x in
    let d = c.print_all-p.ensures.lines_bound in
    (c.requires.0, few, omega (arith, d, few), bads-few _ _ _ _ _ x)

pub returns : goal.returns
returns c = λ g.
    let read = c.read_rows-read in
    let e = sym c.stops.ensures ∙
    c.if-stops.false in
    let n = neither read.result.input.failed read.result.kept.state.over e in
    let few = rows_few _ _ _ _ _ (read.ensures.rows_of_input c.requires.1 n.0) in
    finished-ran _ _ _ _ _ _ g _
    (rw c.nothing_told.ensures at c.tell_openings-opened.ensures.grew) _
    read.result (read.ensures.rows_of_input c.requires.1) e _ (c.print_all-p.ensures.differences_out g few c.requires.2) _
    c.tell_counts-told.ensures _ c.tell_openings-opened.ensures.refused_value _ c.finished.ensures
