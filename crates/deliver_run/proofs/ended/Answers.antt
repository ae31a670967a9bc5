-- The status is that of whether a read or a write failed, and whether something was told.
use mathlib.Core.Path.{◌≡◌, refl}
use mathlib.Core.Bool.{Bool, not, ◌||◌}
use Prim.Native.Nat.{ℕ}
use Rattle.program_status.specs.Statuses.{status_of}
use Rattle.deliver_run.proofs.ended.Goals as goal

same-status : (m n o o' t t' : Bool) (s : ℕ) → s ≡ status_of (m || (n || not o)) t → o ≡ o' → t ≡ t' → s ≡ status_of (m || (n || not o')) t'
same-status m n o o' t t' s e a b = rw (← a, ← b) e

pub returns : goal.returns
returns c = (
  refl,
  refl,
  refl,
  same-status c.args.master.failed c.args.notices.failed _ _ _ _ _ c.status-status.ensures
      c.is_open-open.ensures c.has_told-refused.ensures,
)
