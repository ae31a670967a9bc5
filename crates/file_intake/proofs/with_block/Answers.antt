-- The state with one block more: each field is what its call ensures, put together as `with_block`.
-- The requirement bounds the blocks, years, days and records so far, so the calls may be made and the sums fit.
use native.Mathlib.Numerals.{add-one}
use native.Mathlib.Omega.{arith}
use Rattle.file_intake.specs.Intake.{with_block}
use Rattle.file_intake.proofs.with_block.Goals as goal

pub block_refusal-requires : goal.block_refusal-requires
block_refusal-requires c =
    let p = c.requires in
    (p.0, p.2, p.4)

pub overflow_add-years : goal.overflow_add-years
overflow_add-years c =
    omega (arith, c.calendars_in.ensures.1, c.requires.0, c.requires.1)

pub idle_after-idle-requires : goal.idle_after-idle-requires
idle_after-idle-requires c = c.requires.2

pub records_in-requires : goal.records_in-requires
records_in-requires c = c.requires.4

pub overflow_add-records : goal.overflow_add-records
overflow_add-records c =
    omega (arith, c.records_in.ensures.1, c.requires.0, c.requires.3)

pub returns : goal.returns
unfolding with_block
returns c =
    rw (
      c.last_id_of-last_id.ensures,
      c.records_in.ensures.0,
      c.idle_after-idle.ensures,
      c.calendars_in.ensures.0,
      c.first_year_of-first_year.ensures,
      c.field_at.ensures,
      c.lower_of-lowest.ensures,
      c.block_refusal.ensures,
      add-one,
    )
