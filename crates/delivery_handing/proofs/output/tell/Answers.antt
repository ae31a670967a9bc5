-- All bytes of the line are handed to the library, and counted; the sum is small.
use Rattle.std.proofs.Common.{◌≡◌, ◌≤◌, length, sym, refl, arith, length-take-le}
use Rattle.delivery_handing.proofs.output.tell.Goals as goal
use Rattle.delivery_handing.proofs.output.tell.Goals.{After-bytes-1}

within : (c : After-bytes-1)
    → c.args.line.length ≤ length c.args.line.bytes
within c =
    let l : length c.args.line.bytes ≡ 64 = c.well_formed.1.1.1.1.0.1.1.0.1.0.1 in
    omega (arith, l, c.if-n-gt64.false)

pub returns-then-n-eq0 : goal.returns-then-n-eq0
returns-then-n-eq0 c = (refl, λ k s x. omega (arith, c.if-n-eq0.true))

pub returns-then-n-gt64 : goal.returns-then-n-gt64
returns-then-n-gt64 c = (refl, λ k s x. absurd (omega (arith, k, c.if-n-gt64.true)))

pub slice_bounds-bytes-end : goal.slice_bounds-bytes-end
slice_bounds-bytes-end c = within c

pub slice_bounds-tell-end : goal.slice_bounds-tell-end
slice_bounds-tell-end c = sym (length-take-le _ _ (within (goal.at.slice_bounds-tell-end c).After-bytes-1))

pub returns : goal.returns
returns c = (refl, λ k s x. omega (arith, c.wrapping_add_u64-told.ensures, k, s))
