-- The answer is the definition's six tests joined: two digits four times, by the contract of `are_two_digits`, and the two
-- dashes as they are read. The ten bytes are within the 64 by what is required.
use lib.ListN.{get_or}
use Prim.Native.Nat.{ℕ, ◌+◌}
use mathlib.Core.Path.{ap, ap₂}
use mathlib.Core.Bool.{◌&&◌}
use lib.Dec.{eqb}
use Rattle.session_lines.specs.CommandLines.{date_form}
use Rattle.session_lines.proofs.is_date_form.Goals as goal

-- ---- the answer
pub returns : goal.returns
unfolding date_form
returns c =
    let args = c.args in
    let line : ℕ → ℕ = λ i. get_or args.bytes i 0 in
    let at = args.at in
    ap₂ ◌&&◌ c.are_two_digits.ensures
    (ap₂ ◌&&◌ c.are_two_digits-2.ensures
    (ap (◌&&◌ (eqb (line (at + 4)) 45)) (ap₂ ◌&&◌ c.are_two_digits-3.ensures
    (ap (◌&&◌ (eqb (line (at + 7)) 45)) c.are_two_digits-4.ensures))))
