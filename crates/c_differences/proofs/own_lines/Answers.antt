-- The places are the product's, so the rows there are its own.
use mathlib.Core.Path.{sym}
use lib.Seq.{length-take-le}
use Rattle.c_differences.proofs.ProductDifferences.{own-rows}
use Rattle.c_differences.proofs.own_lines.Goals as goal

pub slice_bounds-print_differences-end-2 : goal.slice_bounds-print_differences-end-2
slice_bounds-print_differences-end-2 c = sym (length-take-le _ _ c.places_of-size.ensures.fits)

pub returns : goal.returns
returns c = (
  own-rows _ _ _ _ _ _ _ _ _ _ _ _ c.places_of-size.ensures c.requires.0 c.requires.1 c.print_differences.ensures,
  c.places_of-size.ensures.long,
)
