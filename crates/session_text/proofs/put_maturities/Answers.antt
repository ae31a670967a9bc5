-- Shown: the lines of the first n maturities are written, at most 465 bytes. The loop keeps: the lines of the maturities
-- so far are written, and the next place is at most their width after the first. The widths rise with their number
-- (`lines-rise`), so each line has room; after the last one there are n (`lines-done`).
use native.Mathlib.Omega.{arith}
use mathlib.Core.Path.{◌≡◌}
use lib.ListN.{length, take}
use lib.Seq.{length-take-le, get_or-take}
use Rattle.listing.specs.Rules.{unused}
use Rattle.session_text.proofs.TextsInBuffer.{then}
use Rattle.session_text.proofs.TermsTexts.{no_lines, more-lines, lines-done, no-width, lines-wider, lines-rise}
use Prim.Native.Nat.{◌+◌}
use Rattle.session_text.proofs.put_maturities.Goals as goal

-- ---- the loop
pub loop-m-init : goal.loop-m-init
loop-m-init c = (c.requires.0, c.requires.1, c.requires.2, omega arith, omega (arith, no-width c.args.kind), no_lines _ _ _ _)

pub put_maturity-next-requires : goal.put_maturity-next-requires
put_maturity-next-requires c =
    let v = c.loop-m.invariant in
    let i = c.loop-m.m-index in
    let k = c.args.kind in
    let e : length (take c.args.n c.args.maturities) ≡ c.args.n = length-take-le c.args.n c.args.maturities (omega arith) in
    omega (arith, v.1, v.2, v.4, v.5.long, lines-wider k i, lines-rise k (i + 1) c.args.n (omega (arith, e, c.loop-m-test.true)))

pub loop-m-preserved : goal.loop-m-preserved
loop-m-preserved c =
    let v = c.loop-m.invariant in
    let e : length (take c.args.n c.args.maturities) ≡ c.args.n = length-take-le c.args.n c.args.maturities (omega arith) in
    let m = get_or-take c.args.n c.args.maturities c.loop-m.m-index unused (omega (arith, e)) in (
      v.0,
      v.1,
      v.2,
      omega (arith, e),
      omega (
        arith,
        v.4,
        lines-wider c.args.kind c.loop-m.m-index,
        c.put_maturity-next.ensures.1,
      ),
      rw (more-lines _ _ _, ← m) (then v.5 c.put_maturity-next.ensures.0),
    )

-- ---- after the loop
pub returns : goal.returns
returns c =
    let v = c.loop-m.invariant in
    let e : length (take c.args.n c.args.maturities) ≡ c.args.n = length-take-le c.args.n c.args.maturities (omega arith) in (
      lines-done _ _ _ _ (omega (arith, e)) v.3 v.5,
      omega (arith, v.1, v.4, lines-rise c.args.kind c.loop-m.m-index _ v.3),
    )
