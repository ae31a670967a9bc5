-- The fresh listing. Both loops keep `Walking`: `complete` is yes; the places listed and those still to fill are a complete listing's, at most 15;
-- and filling those, the rest of this step's and the later steps', from `from` on gives what the start gives. A place is filled by `takes`, a key
-- from `end` on leaves both loops (`stops`), and after the last step `finishes` gives the listing.
use Rattle.listing.proofs.Fresh.{listing-is}
use Rattle.listing.proofs.ListLoops.{starts, enters, finishes, leaves, has_room, takes, stops, kind-below}
use native.Mathlib.Omega.{arith}
use mathlib.Core.Path.{refl, ◌∙◌}
use Rattle.listing.proofs.list_in.Goals as goal

-- ---- before the loops
pub overflow_cast-row : goal.overflow_cast-row
overflow_cast-row c = omega (arith, c.kind_number-row.ensures, kind-below c.args.kind)

pub steps-init : goal.steps-init
steps-init c =
    rw (c.front_key_in-from.ensures, c.unused_places-maturities.ensures)
    (starts _ _ c.args.kind _ _ c.kind_number-row.ensures c.end_key-end.ensures.1)

-- ---- a step begins
pub loop-j-init : goal.loop-j-init
loop-j-init c = enters c.steps.step c.steps-test.true c.steps.invariant

-- ---- a place is filled
pub next_in_set-key-requires : goal.next_in_set-key-requires
next_in_set-key-requires c = c.steps-test.true

pub offset_bounds-maturities-listed : goal.offset_bounds-maturities-listed
offset_bounds-maturities-listed c = omega (arith, has_room _ _ _ _ c.loop-j.invariant.0 c.loop-j-test.true)

pub bounds-maturities-listed : goal.bounds-maturities-listed
bounds-maturities-listed c = has_room _ _ _ _ c.loop-j.invariant.0 c.loop-j-test.true

pub overflow_add-listed : goal.overflow_add-listed
overflow_add-listed c = omega (arith, has_room _ _ _ _ c.loop-j.invariant.0 c.loop-j-test.true)

pub loop-j-preserved : goal.loop-j-preserved
loop-j-preserved c = (
  rw c.last_trading_day_in-last.ensures (takes _ _ _ _ c.loop-j.invariant.0 c.next_in_set-key.result c.loop-j-test.true
      (rw (← c.kind_number-row.ensures) at c.next_in_set-key.ensures) c.if-end-key.false),
  c.loop-j.invariant.1,
)

-- ---- a step ends
pub steps-preserved : goal.steps-preserved
steps-preserved c = leaves _ _ _ _ c.loop-j.invariant.0 c.loop-j-test.false

-- ---- after the last step, or at a key from `end` on
pub returns-after-steps : goal.returns-after-steps
returns-after-steps c =
    finishes c.steps.step c.steps-test.false c.steps.invariant ∙
    listing-is _ c.args.kind _ c.args.date _ _ _ c.kind_number-row.ensures c.end_key-end.ensures.0 refl

pub returns-then-end-key : goal.returns-then-end-key
returns-then-end-key c =
    stops _ _ _ _ c.loop-j.invariant.0 c.next_in_set-key.result c.loop-j-test.true (rw (← c.kind_number-row.ensures) at c.next_in_set-key.ensures)
    c.if-end-key.true ∙
    listing-is _ c.args.kind _ c.args.date _ _ _ c.kind_number-row.ensures c.end_key-end.ensures.0 refl
