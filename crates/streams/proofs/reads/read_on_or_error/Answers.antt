-- Each turn makes one of the reads that are left.
use Rattle.std.proofs.Common.{length, refl, arith, rules}
use Rattle.streams.proofs.ReadsGoing.{test-yes, falls, one-made}
use Rattle.streams.proofs.reads.read_on_or_error.Goals as goal

pub loop-n-smaller : goal.loop-n-smaller
loop-n-smaller c =
    let t = test-yes c.loop-n.n c.args.enough (length c.loop-n.part) c.loop-n.so_far.left c.loop-n-test.true in
    falls _ _ _ t.2 c.after_read-so_far.ensures

pub loop-n-preserved : goal.loop-n-preserved
loop-n-preserved c =
    let v = c.loop-n.invariant in
    let t = test-yes c.loop-n.n c.args.enough (length c.loop-n.part) c.loop-n.so_far.left c.loop-n-test.true in (
      search rules,
      search rules,
      one-made _ _ _ _ _ v.2 t.0 (omega (arith, t.1, v.0)) t.2 _ _ c.after_read-so_far.ensures _ refl,
    )
