-- Shown: yes exactly where the key stands once in the list, and with this day.
-- The loop keeps: n is the number of entries, and from entry j on the key stands as often, and first with the same day, as
-- in the whole list. At the first entry with it the day decides, then whether it is absent after; without one it is no.
use Rattle.table_vendor.specs.VendorPasses.{entry_count}
use Rattle.table_vendor.proofs.ListEntries.{times-next, day-next, once-not, once-if, once-none}
use mathlib.Core.Path.{◌≡◌, refl, ◌∙◌, sym}
use Prim.Native.Nat.{◌*◌, ◌<◌}
use native.Mathlib.Omega.{arith}
use lib.ListN.{get_or}
use Rattle.table_vendor.proofs.stands_once.Goals as goal

-- ---- the loop
pub loop-j-init : goal.loop-j-init
loop-j-init c = (c.entry_count-n.ensures.0, c.entry_count-n.ensures.1, refl, refl)

pub overflow_mul-j : goal.overflow_mul-j
overflow_mul-j c = omega (arith, c.loop-j.invariant.1)

pub overflow_mul-j-then-list_number-key : goal.overflow_mul-j-then-list_number-key
overflow_mul-j-then-list_number-key c = omega (arith, c.loop-j.invariant.1)

pub overflow_add-j : goal.overflow_add-j
overflow_add-j c = omega (arith, c.loop-j.invariant.1)

-- ---- an entry with the key
pub returns-then-list_number-day : goal.returns-then-list_number-day
returns-then-list_number-day c =
    let v = c.loop-j.invariant in
    let e = sym c.list_number.ensures ∙ c.if-list_number-key.true in
    once-not c.args.list.now c.loop-j.j c.args.key v.2 v.3 c.args.day
    (omega (arith, v.0, c.loop-j-test.true)) e (λ q. c.if-list_number-day.true (c.list_number-then-list_number-key.ensures ∙ q))

pub returns-then-list_number-key : goal.returns-then-list_number-key
returns-then-list_number-key c =
    let v = c.loop-j.invariant in
    let e = sym c.list_number.ensures ∙ c.if-list_number-key.true in
    once-if c.args.list.now c.loop-j.j c.args.key v.2 v.3 c.args.day
    (omega (arith, v.0, c.loop-j-test.true)) e
    (sym c.list_number-then-list_number-key.ensures ∙ c.if-list_number-day.false) _ c.is_absent.ensures

-- ---- an entry without it
pub loop-j-preserved : goal.loop-j-preserved
loop-j-preserved c =
    let v = c.loop-j.invariant in
    let h : c.loop-j.j < entry_count c.args.list.now = omega (arith, v.0, c.loop-j-test.true) in
    let q : get_or c.args.list.now (2 * c.loop-j.j) 0 ≡ c.args.key → ⊥ = λ q. c.if-list_number-key.false (c.list_number.ensures ∙ q) in (
      v.0,
      v.1,
      times-next c.args.list.now c.loop-j.j c.args.key h q ∙
          v.2,
      day-next c.args.list.now c.loop-j.j c.args.key h q ∙ v.3,
    )

-- ---- after the loop
pub returns : goal.returns
returns c =
    let v = c.loop-j.invariant in
    once-none c.args.list.now c.loop-j.j c.args.key v.2 v.3 c.args.day (omega (arith, v.0, c.loop-j-test.false))
