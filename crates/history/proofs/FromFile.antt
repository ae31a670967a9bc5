-- Demand 3 from the file: for every file, id and date with an accepted open.
-- Assumes nothing.
use mathlib.Core.Path.{◌≡◌}
use mathlib.Core.List.{List}
use Prim.Native.Nat.{ℕ}
use Rattle.questions.proofs.Bools.{and_both}
use Rattle.file_calendar.specs.Calendars.{calendar_of}
use Rattle.file_load.specs.Load.{product_of}
use Rattle.file_load.proofs.Accepting.{accepted-file}
use Rattle.table.specs.Table.{open_call}
use Rattle.table.proofs.Opens.{accepted-from, opened-table}
use Rattle.history.specs.Book.{Call}
use Rattle.history.specs.History.{opens, FromFile}
use Rattle.history.proofs.Demand.{demand3}

-- each file, id and date with an accepted open gives the opened table, of which demand 3 holds for all lists of calls
pub from-file : (f id : List ℕ) (date : ℕ) → (open_call f id date).refusal ≡ 0 → (cs ds : List Call) → FromFile f id date cs ds
unfolding opens
from-file f id date e cs ds =
    let o = accepted-from f id date e in
    let a = accepted-file f o.loaded in
    record {
      opened = opened-table f id date e;
      demand =
          demand3 (product_of f id) (calendar_of f) date
          (and_both (a.product id o.there)
          (and_both a.cover
          (and_both a.closures
          (and_both a.weeks
          (and_both o.dated (and_both o.week o.whole))))))
          cs
          ds;
    }
