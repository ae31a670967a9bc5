-- The bytes at the start of the buffer are counted.
use native.Mathlib.Omega.{arith}
use lib.Seq.{length-take-le}
use Rattle.delivery_judging.proofs.write_keys.Goals as goal

pub returns : goal.returns
returns c =
    let args = c.args in
    λ o. let w = c.write_next.ensures o in (
      w.0,
      omega (
        arith,
        w.1,
        length-take-le args.p.length args.out.now
            c.requires.0,
      ),
    )
