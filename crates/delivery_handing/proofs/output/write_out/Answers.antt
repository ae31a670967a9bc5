-- All of the bytes are handed to the library's write, whose count grows by their number; the sum is small.
use Rattle.std.proofs.Common.{◌≡◌, length, take, refl, arith, length-take-le}
use Rattle.delivery_handing.proofs.output.write_out.Goals as goal

pub returns-then-out-n : goal.returns-then-out-n
returns-then-out-n c = ((λ k s x e. absurd (omega (arith, k, c.if-out-n.true))), refl)

pub returns : goal.returns
returns c = (
  (λ k s x e.
      let l : length (take c.args.n c.args.out.now) ≡ c.args.n = length-take-le _ _ k in
      omega (arith, (c.write_next-sent.ensures e).1, l, s)),
  refl,
)
