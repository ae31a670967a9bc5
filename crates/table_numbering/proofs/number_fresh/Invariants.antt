-- The loop keeps (`Numbering`): the places before i hold the maturities that are done, these with the rest renumbered are the whole, and at most i
-- numbers have been given, so that the next one fits.
use Rattle.table_numbering.proofs.FirstMaturities.{Numbering}
use Rattle.table_numbering.proofs.number_fresh.Given as goal

abbrev pub invariant-loop-i : goal.invariant-loop-i
invariant-loop-i l = Numbering l.old l.fresh l.given l.maturities l.given_so_far l.i
