-- The bytes of the line are copied to the buffer.
use mathlib.Core.Path.{◌≡◌, sym}
use native.Mathlib.Omega.{arith}
use lib.ListN.{length}
use lib.Seq.{length-take-le}
use Rattle.delivery_queries.proofs.put_line.Goals as goal

pub slice_bounds-bytes-end : goal.slice_bounds-bytes-end
slice_bounds-bytes-end c =
    let l : length c.args.line.bytes ≡ 64 = c.well_formed.1.1.0.1.1.0.1.0.1 in
    omega (arith, l, c.requires.0)

pub slice_bounds-put_bytes-end : goal.slice_bounds-put_bytes-end
slice_bounds-put_bytes-end c =
    let l : length c.args.line.bytes ≡ 64 = c.well_formed.1.1.0.1.1.0.1.0.1 in
    sym (length-take-le c.args.line.length c.args.line.bytes (omega (arith, l, c.requires.0)))

pub put_bytes-requires : goal.put_bytes-requires
put_bytes-requires c =
    let l : length c.args.line.bytes ≡ 64 = c.well_formed.1.1.0.1.1.0.1.0.1 in
    let n = length-take-le c.args.line.length c.args.line.bytes (omega (arith, l, c.requires.0)) in
    omega (arith, n, c.requires.0, c.requires.1)
