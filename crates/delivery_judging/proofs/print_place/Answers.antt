-- A place without a record has no lines; the lines of any other are those of its product's keys.
use mathlib.Core.Path.{refl, sym}
use lib.Seq.{length-take-le}
use borrow.Author.Tests.{not-true, not-false}
use Rattle.delivery_judging.proofs.Places.{place_none, place-some}
use Rattle.delivery_judging.proofs.print_place.Goals as goal

pub slice_bounds-print_keys-end-2 : goal.slice_bounds-print_keys-end-2
slice_bounds-print_keys-end-2 c = sym (length-take-le _ _ c.places_of-size.ensures.fits)

pub shape_of-places : goal.shape_of-places
shape_of-places c = c.places_of-size.ensures.long

pub returns-then-not-l : goal.returns-then-not-l
returns-then-not-l c = place_none _ _ _ _ _ _ _ _ _ _ _ c.listed_of-l.result c.listed_of-l.ensures (not-true _ c.if-not-l.true)

pub returns : goal.returns
returns c =
    place-some _ _ _ _ _ _ _ _ _ _ _ c.listed_of-l.result c.listed_of-l.ensures (not-false _ c.if-not-l.false) _ _ refl _
    c.places_of-size.ensures _ c.print_keys.ensures
