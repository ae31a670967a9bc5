-- Part after part: the input so far brought what the lists hold, and each turn makes one of the reads that are left.
use mathlib.Core.Path.{refl, sym, ◌∙◌}
use native.Mathlib.Omega.{arith}
use lib.Seq.{length-take-le}
use Rattle.delivery_row_parts.proofs.PartsTaken.{same_lists, then-lists, room-same}
use Rattle.delivery_reading.proofs.Comes.{read-on, goes, stops}
use Rattle.delivery_reading.proofs.read_rest.Goals as goal

pub loop-rt-init : goal.loop-rt-init
loop-rt-init c = (same_lists _, refl, λ told room x. x)

pub slice_bounds-receive_part-end-in-loop-rt : goal.slice_bounds-receive_part-end-in-loop-rt
slice_bounds-receive_part-end-in-loop-rt c = sym (length-take-le _ _ c.read_on_or_tell-read.ensures.within.0)

pub loop-rt-smaller : goal.loop-rt-smaller
loop-rt-smaller c =
    c.read_on_or_tell-read.ensures.fewer (omega arith)
    (omega (
      arith,
      c.requires,
      c.loop-rt.invariant.1,
      c.read_on_or_tell-read.auto.part,
    ))
    (goes c.loop-rt.input.left c.loop-rt.k.kept.state.over _
    c.goes_on.ensures
    c.loop-rt-test.true)

pub loop-rt-preserved : goal.loop-rt-preserved
loop-rt-preserved c =
    let v = c.loop-rt.invariant in
    let x = c.receive_part-k.ensures in
    let e = c.read_on_or_tell-read.ensures in
    let some = goes c.loop-rt.input.left c.loop-rt.k.kept.state.over _
    c.goes_on.ensures
    c.loop-rt-test.true in (
      then-lists _ _ _ v.0 x.lengths,
      c.read_on_or_tell-read.auto.part ∙ v.1,
      λ told room y. read-on _ told _ (room-same _ _ v.0 ∙ room) _ _ _ (v.2 told room y) some _ _ e.within.0 _ _ x _ _ e.count,
    )

pub shape_of-part : goal.shape_of-part
shape_of-part c = c.loop-rt.invariant.1

pub shape_of-ids : goal.shape_of-ids
shape_of-ids c = c.loop-rt.invariant.0.ids

pub shape_of-keys : goal.shape_of-keys
shape_of-keys c = c.loop-rt.invariant.0.keys

pub shape_of-days : goal.shape_of-days
shape_of-days c = c.loop-rt.invariant.0.days

pub shape_of-fulls : goal.shape_of-fulls
shape_of-fulls c = c.loop-rt.invariant.0.fulls

pub shape_of-numbers : goal.shape_of-numbers
shape_of-numbers c = c.loop-rt.invariant.0.numbers

pub shape_of-backs : goal.shape_of-backs
shape_of-backs c = c.loop-rt.invariant.0.backs

pub returns : goal.returns
returns c =
    let v = c.loop-rt.invariant in
    record {
      same_lengths = v.0;
      by_index = v.2;
      left_value = λ o. stops c.loop-rt.input.left c.loop-rt.k.kept.state.over _ c.goes_on.ensures c.loop-rt-test.false o;
    }
