-- The lines of a product, from key to key: what is written and what is left are all.
-- Assumes nothing.
use mathlib.Core.Path.{◌≡◌, refl, ap, ◌∙◌}
use mathlib.Core.Bool.{Bool, true, false, cond}
use mathlib.Core.List.{List, ◌∷◌}
use Prim.Native.Nat.{ℕ, zero, suc, ◌+◌, ◌%◌, ◌^◌, ◌≤◌}
use native.Mathlib.Omega.{arith}
use lib.ListN.{length, take, length-append}
use lib.Seq.{length-take-le}
use Rattle.streams.specs.declared.output.Sent.{Sent}
use Rattle.product.specs.declared.Kind.{Kind}
use Rattle.listing.specs.declared.Maturity.{Maturity}
use Rattle.delivery_differences.specs.declared.DeliveredRow.{DeliveredRow}
use Rattle.delivery_differences.specs.Differences.{differs_in, differing}
use Rattle.delivery_reports.specs.declared.ReportProgress.{ReportProgress}
use Rattle.delivery_reports.specs.Reports.{keys_text, differing_from, report_from, ReportLinesIn}
use Rattle.delivery_judging.specs.LinesOut.{Wrote, KeysOut}

-- among n keys at most n differ
pub keys-few : (listed : List Maturity) (rows : List DeliveredRow) (n from : ℕ) → length (differing listed rows n from) ≤ n
unfolding differing
keys-few listed rows zero from = omega arith
keys-few listed rows (suc n) from = go (differs_in listed rows from) (keys-few listed rows n (suc from))
  where
    go : (b : Bool) → length (differing listed rows n (suc from)) ≤ n
        → length (cond b (from ∷ differing listed rows n (suc from)) (differing listed rows n (suc from))) ≤ suc n
    go true h = omega arith
    go false h = omega arith

module _ (kind : Kind) (id : List ℕ) (listed : List Maturity) (rows : List DeliveredRow) (s : Sent) where
  -- what was written up to a key, and what is left
  pub record Going (so_far : Sent) (lines from : ℕ) : Type 0 where
    -- what was written and the lines of the keys from here on have the length of all lines, modulo 2^64, where standard output took them
    pub text : so_far.open ≡ true → (s.open ≡ true)
        × ((so_far.bytes + length (report_from kind id listed rows from)) % 2 ^ 64 ≡ (s.bytes + length (report_from kind id listed rows 0)) % 2 ^ 64)
    -- the lines counted and the keys that differ from here on are all keys that differ
    pub counted : lines + length (differing_from listed rows from) ≡ length (differing_from listed rows 0)
    -- the next key is at most 65,536
    pub within : from ≤ 65536

  -- before the first key nothing is written and nothing counted
  pub goes_first : Going s 0 0
  goes_first = record { text = λ o. (o, refl); counted = omega arith; within = omega arith }

  module _ (so_far : Sent) (lines from : ℕ) (g : Going so_far lines from) where
    -- at most 65,536 lines are counted
    pub lines-few : lines ≤ 65536
    lines-few = omega (arith, g.counted, keys-few listed rows 65536 0)

    module _ (before after : List ℕ) (p : ReportProgress) (x : ReportLinesIn kind id listed rows from before after p) where
      -- with the lines of one buffer more they are still at most 65,536
      pub more-few : lines + p.lines ≤ 65536
      more-few = omega (arith, g.counted, x.lines, keys-few listed rows 65536 0)

      long : length (report_from kind id listed rows from) ≡ p.length + length (report_from kind id listed rows p.next)
      long =
          ap length x.is ∙ length-append (take p.length after) (report_from kind id listed rows p.next)
          ∙ ap (λ (n : ℕ). n + length (report_from kind id listed rows p.next)) (length-take-le p.length after x.fits)

      -- after one buffer more is written, the same holds of the next key
      pub goes_on : (r : Sent) → Wrote so_far p.length r → Going r (lines + p.lines) p.next
      goes_on r w =
          record {
            text = λ o. ((g.text (w o).0).0, omega (arith, (w o).1, (g.text (w o).0).1, long));
            counted = omega (arith, g.counted, x.lines);
            within = x.within;
          }

    none_left : length (report_from kind id listed rows 65536) ≡ 0
    unfolding report_from keys_text differing
    none_left = refl

    no_lines : length (differing_from listed rows 65536) ≡ 0
    unfolding differing
    no_lines = refl

    at-end : (n : ℕ) → n ≡ 65536 → (length (report_from kind id listed rows n) ≡ 0) × (length (differing_from listed rows n) ≡ 0)
    at-end n e = rw e (none_left, no_lines)

    -- at key 65,536 all lines of the product are written and counted
    pub goes-all : 65536 ≤ from → KeysOut kind id listed rows s (record { sent = so_far; lines = lines })
    goes-all h =
        let z : (length (report_from kind id listed rows from) ≡ 0) × (length (differing_from listed rows from) ≡ 0) = at-end from (omega (arith, g.within)) in
        record {
          text = λ o. ((g.text o).0, omega (arith, z.0, (g.text o).1));
          lines = omega (arith, z.1, g.counted);
        }
