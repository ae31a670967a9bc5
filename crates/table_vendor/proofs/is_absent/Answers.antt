-- Shown: yes exactly where the key does not stand in the list from an entry on.
-- The loop keeps: n is the number of entries, and the key stands from entry j on as often as from the first one asked. An
-- entry with the key ends it with no (`not-gone`); after the last one it stands no time (`gone`).
use Rattle.table_vendor.proofs.ListEntries.{times-next, not-gone, gone}
use mathlib.Core.Path.{refl, ◌∙◌, sym}
use native.Mathlib.Omega.{arith}
use Rattle.table_vendor.proofs.is_absent.Goals as goal

-- ---- the loop
pub loop-j-init : goal.loop-j-init
loop-j-init c = (c.entry_count-n.ensures.0, c.entry_count-n.ensures.1, refl)

pub overflow_mul-j : goal.overflow_mul-j
overflow_mul-j c = omega (arith, c.loop-j.invariant.1)

pub returns-then-list_number-key : goal.returns-then-list_number-key
returns-then-list_number-key c =
    let v = c.loop-j.invariant in
    let e = sym c.list_number.ensures ∙ c.if-list_number-key.true in
    not-gone c.args.list.now c.loop-j.j c.args.key _ v.2 (omega (arith, v.0, c.loop-j-test.true)) e

pub loop-j-preserved : goal.loop-j-preserved
loop-j-preserved c =
    let v = c.loop-j.invariant in (
      v.0,
      v.1,
      times-next c.args.list.now c.loop-j.j c.args.key (omega (arith, v.0, c.loop-j-test.true))
          (λ q. c.if-list_number-key.false (c.list_number.ensures ∙ q)) ∙ v.2,
    )

-- ---- after the loop
pub returns : goal.returns
returns c =
    let v = c.loop-j.invariant in
    gone c.args.list.now c.loop-j.j c.args.key _ v.2 (omega (arith, v.0, c.loop-j-test.false))
