-- A line of fewer than 64 bytes is told whole, and counted from nothing.
use mathlib.Core.Path.{sym}
use native.Mathlib.Omega.{arith}
use lib.Seq.{length-take-le}
use Rattle.query_run.proofs.QueryWholeRun.{told-fits}
use Rattle.query_run.proofs.tell.Goals as goal

pub slice_bounds-bytes-end : goal.slice_bounds-bytes-end
slice_bounds-bytes-end c =
    let f = told-fits c.args.file.now c.args.text.now c.args.line c.requires in
    omega (arith, f.1, f.2)

pub slice_bounds-tell_next-end : goal.slice_bounds-tell_next-end
slice_bounds-tell_next-end c =
    let f = told-fits c.args.file.now c.args.text.now c.args.line c.requires in
    sym (length-take-le c.args.line.length c.args.line.bytes (omega (arith, f.1, f.2)))

pub returns : goal.returns
returns c =
    let f = told-fits c.args.file.now c.args.text.now c.args.line c.requires in
    let n = length-take-le c.args.line.length c.args.line.bytes (omega (arith, f.1, f.2)) in
    omega (arith, c.tell_next.ensures, c.nothing_told.ensures, n, f.0, f.1)
