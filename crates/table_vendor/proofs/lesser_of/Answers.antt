-- The answer is the definition's lesser: the least so far where the key is alike, else the lesser of the two (`min-is`).
use Prim.Native.Nat.{ℕ, ◌≤◌, ◌<◌, min}
use mathlib.Core.Path.{◌≡◌, ◌∙◌, ap}
use mathlib.Core.Bool.{cond}
use mathlib.Core.Logic.{◌⊎◌, inl, inr}
use native.Mathlib.Omega.{arith}
use lib.Dec.{ltb}
use borrow.Author.Tests.{lt-ltb, le-ltb}
use Rattle.questions.proofs.Bools.{lt-or-ge}
use Rattle.table_vendor.specs.VendorPasses.{lesser}
use Rattle.table_vendor.proofs.lesser_of.Goals as goal

-- the lesser of two numbers, as the definition has it
min-is : (least key : ℕ) → min least key ≡ cond (ltb key least) key least
min-is least key = go (lt-or-ge key least)
  where
    go : (key < least) ⊎ (least ≤ key) → min least key ≡ cond (ltb key least) key least
    go (inl l) = rw (lt-ltb key least l) (omega arith)
    go (inr l) = rw (le-ltb key least l) (omega arith)

pub returns-then-alike : goal.returns-then-alike
unfolding lesser
returns-then-alike c = rw c.if-alike.true

pub returns : goal.returns
unfolding lesser
returns c = rw c.if-alike.false (c.min.ensures ∙ ap (min c.args.least) c.from.ensures ∙ min-is c.args.least c.args.key)
