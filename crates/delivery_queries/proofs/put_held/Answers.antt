-- The bytes that are held, up to the last that is no blank, go to the buffer one by one.
use mathlib.Core.Path.{◌≡◌, sym}
use native.Mathlib.Omega.{arith}
use lib.ListN.{length}
use lib.Seq.{length-take-le}
use Rattle.delivery_queries.proofs.Answering.{trim-few, put-trimmed}
use Rattle.delivery_queries.proofs.put_held.Goals as goal

pub slice_bounds-bytes-end : goal.slice_bounds-bytes-end
slice_bounds-bytes-end c =
    let l : length c.args.line.bytes ≡ 255 = c.well_formed.1.1.0.1.1.0.1.0.1 in
    omega (arith, l, c.held_length-n.ensures.0)

pub slice_bounds-trimmed_length-end : goal.slice_bounds-trimmed_length-end
slice_bounds-trimmed_length-end c =
    let l : length c.args.line.bytes ≡ 255 = c.well_formed.1.1.0.1.1.0.1.0.1 in
    sym (length-take-le c.held_length-n.result c.args.line.bytes (omega (arith, l, c.held_length-n.ensures.0)))

pub slice_bounds-bytes-end-2 : goal.slice_bounds-bytes-end-2
slice_bounds-bytes-end-2 c =
    let l : length c.args.line.bytes ≡ 255 = c.well_formed.1.1.0.1.1.0.1.0.1 in
    let h = c.held_length-n.ensures in
    let t = c.trimmed_length-end.ensures in
    omega (
      arith,
      l,
      h.0,
      trim-few c.args.line c.held_length-n.result c.trimmed_length-end.result l
          h.0 h.1 t.0 t.1,
    )

pub slice_bounds-put_bytes-end : goal.slice_bounds-put_bytes-end
slice_bounds-put_bytes-end c =
    let l : length c.args.line.bytes ≡ 255 = c.well_formed.1.1.0.1.1.0.1.0.1 in
    let h = c.held_length-n.ensures in
    let t = c.trimmed_length-end.ensures in
    sym (length-take-le c.trimmed_length-end.result c.args.line.bytes (omega (
      arith,
      l,
      h.0,
      trim-few
          c.args.line c.held_length-n.result c.trimmed_length-end.result l h.0 h.1 t.0 t.1,
    )))

pub put_bytes-requires : goal.put_bytes-requires
put_bytes-requires c =
    let l : length c.args.line.bytes ≡ 255 = c.well_formed.1.1.0.1.1.0.1.0.1 in
    let h = c.held_length-n.ensures in
    let t = c.trimmed_length-end.ensures in
    let e = trim-few c.args.line c.held_length-n.result c.trimmed_length-end.result l h.0 h.1 t.0
    t.1 in
    omega (
      arith,
      l,
      h.0,
      e,
      length-take-le c.trimmed_length-end.result c.args.line.bytes (omega
          (arith, l, h.0, e)),
      c.requires,
    )

pub returns : goal.returns
returns c =
    let l : length c.args.line.bytes ≡ 255 = c.well_formed.1.1.0.1.1.0.1.0.1 in
    let h = c.held_length-n.ensures in
    let t = c.trimmed_length-end.ensures in
    put-trimmed c.args.line c.held_length-n.result c.trimmed_length-end.result l h.0 h.1 t.0
    t.1 _ _ _ _ c.put_bytes.ensures
