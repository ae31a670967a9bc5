-- The loop keeps: of the 736 bytes of `maps` those before i are the maps' bytes and the others zero (`Filled`).
use Rattle.file_calendar.specs.Calendars.{map_byte}
use Rattle.file_calendar.proofs.Filling.{Filled}
use Rattle.file_calendar.proofs.maps_from.Given as goal

abbrev pub invariant-loop-i : goal.invariant-loop-i
invariant-loop-i l = Filled (map_byte l.at l.file) 736 l.i l.maps
