-- The lines of the ids that are not in the file, row after row.
-- Assumes nothing.
use mathlib.Core.Path.{◌≡◌, refl, ap, ◌∙◌}
use mathlib.Core.Bool.{Bool, true, false, cond}
use mathlib.Core.List.{List}
use Prim.Native.Nat.{ℕ, zero, suc, ◌+◌, ◌≤◌, ◌<◌}
use native.Mathlib.Omega.{arith}
use lib.ListN.{length, take, length-append}
use lib.Seq.{length-take-le}
use Rattle.streams.specs.declared.output.Sent.{Sent}
use Rattle.delivery_parts.specs.PlaceParts.{parts_text}
use Rattle.delivery_reports.specs.declared.ReportProgress.{ReportProgress}
use Rattle.delivery_receipts.specs.Receiving.{first_unknown}
use Rattle.delivery_reconciled.specs.Reconciled.{sum_to}
use Rattle.delivery_reconciled.specs.Standings.{id_row_text, row_count, StrangersIn}
use Rattle.delivery_judging.specs.LinesOut.{Wrote, StrangersOut}

one-most : (f ids : List ℕ) (i : ℕ) → row_count f ids i ≤ 1
unfolding row_count
one-most f ids i = go (first_unknown f ids i)
  where
    go : (b : Bool) → cond b 1 0 ≤ 1
    go true = omega arith
    go false = omega arith

rows_few : (f ids : List ℕ) (n : ℕ) → sum_to (row_count f ids) n ≤ n
unfolding sum_to
rows_few f ids zero = omega arith
rows_few f ids (suc n) = omega (arith, rows_few f ids n, one-most f ids n)

module _ (f ids : List ℕ) (n : ℕ) (s : Sent) where
  -- the lines of the rows before one
  pub record Going (so_far : Sent) (lines from : ℕ) : Type 0 where
    -- the lines of the ids that are not in the file, of the rows before this one, are written and counted
    pub out : StrangersOut f ids from s (record { sent = so_far; lines = lines })
    -- this row is at most the number of rows
    pub within : from ≤ n

  no-parts : length (parts_text (id_row_text f ids) 0) ≡ 0
  unfolding parts_text
  no-parts = refl

  no-sum : 0 ≡ sum_to (row_count f ids) 0
  unfolding sum_to
  no-sum = refl

  -- before the first row nothing is written and nothing counted
  pub goes_first : Going s 0 0
  goes_first = record { out = record { text = λ o. (o, omega (arith, no-parts)); lines = no-sum }; within = omega arith }

  module _ (so_far : Sent) (lines from : ℕ) (g : Going so_far lines from) where
    -- past the last row the lines of all rows are written and counted
    pub goes-all : n ≤ from → StrangersOut f ids n s (record { sent = so_far; lines = lines })
    goes-all h =
        let e : from ≡ n = omega (arith, g.within) in
        rw e at g.out

    module _ (l : from < n) (before after : List ℕ) (p : ReportProgress) (x : StrangersIn f ids n from before after p) where
      -- with the lines of one buffer more there are at most as many lines as rows
      pub more-few : lines + p.lines ≤ n
      more-few = omega (arith, g.out.lines, x.lines, rows_few f ids p.next, x.within (omega arith))

      long : length (parts_text (id_row_text f ids) p.next) ≡ length (parts_text (id_row_text f ids) from) + p.length
      long =
          ap length x.is ∙ length-append (parts_text (id_row_text f ids) from) (take p.length after)
          ∙ ap (λ (k : ℕ). length (parts_text (id_row_text f ids) from) + k) (length-take-le p.length after x.fits)

      -- after one buffer more is written, the same holds of the next row
      pub goes_on : (r : Sent) → Wrote so_far p.length r → Going r (lines + p.lines) p.next
      goes_on r w =
          record {
            out = record {
              text = λ o. ((g.out.text (w o).0).0, omega (arith, (w o).1, (g.out.text (w o).0).1, long));
              lines = omega (arith, g.out.lines, x.lines);
            };
            within = x.within (omega arith);
          }
