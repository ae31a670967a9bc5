-- The first part, the rest of them, and the last line.
use mathlib.Core.Path.{sym, ◌∙◌}
use native.Mathlib.Omega.{arith}
use Rattle.questions.proofs.Bools.{clash}
use Rattle.delivery_row_parts.proofs.PartsTaken.{room-same}
use Rattle.delivery_reading.proofs.Comes.{read_first, rows-read, to_end}
use Rattle.delivery_reading.proofs.read_rows.Goals as goal

pub returns-then-has_failed : goal.returns-then-has_failed
returns-then-has_failed c =
    let failed = sym c.has_failed.ensures ∙ c.if-has_failed.true in
    record { rows_of_input = λ room n. clash failed n; left_value = λ n o. clash failed n }

pub shape_of-ids : goal.shape_of-ids
shape_of-ids c = c.receive_all.auto.ids ∙
    c.read_rest-r.ensures.same_lengths.ids ∙
    c.receive_first-lines.ensures.lengths.ids

pub shape_of-keys : goal.shape_of-keys
shape_of-keys c = c.receive_all.auto.keys ∙
    c.read_rest-r.ensures.same_lengths.keys ∙
    c.receive_first-lines.ensures.lengths.keys

pub shape_of-days : goal.shape_of-days
shape_of-days c = c.receive_all.auto.days ∙
    c.read_rest-r.ensures.same_lengths.days ∙
    c.receive_first-lines.ensures.lengths.days

pub shape_of-fulls : goal.shape_of-fulls
shape_of-fulls c = c.receive_all.auto.fulls ∙
    c.read_rest-r.ensures.same_lengths.fulls ∙
    c.receive_first-lines.ensures.lengths.fulls

pub shape_of-numbers : goal.shape_of-numbers
shape_of-numbers c = c.receive_all.auto.numbers ∙
    c.read_rest-r.ensures.same_lengths.numbers ∙
    c.receive_first-lines.ensures.lengths.numbers

pub shape_of-backs : goal.shape_of-backs
shape_of-backs c = c.receive_all.auto.backs ∙
    c.read_rest-r.ensures.same_lengths.backs ∙
    c.receive_first-lines.ensures.lengths.backs

pub returns : goal.returns
returns c =
    let first = c.receive_first-lines.ensures in
    let e = c.read_on_or_tell-first.ensures in
    let rest =
    c.read_rest-r.ensures in
    let all = c.receive_all.ensures in
    let nothing = c.nothing_read-nothing.ensures in
    let own = room-same _ _ first.lengths in record {
      rows_of_input = λ room n.
          rows-read _ _ _ _ _ _ _ all.0 all.1 n rest.left_value _ (room-same _ _ rest.same_lengths ∙ own ∙ room)
          (rest.by_index _ (own ∙ room)
          (read_first _ _ _ _ _ e.within.0 _ _ first room _ _
          (λ l.
          e.ended l (omega (arith, l, c.part-2-1)))
          (omega (arith, e.count, nothing.1))));
      left_value = λ n o. to_end _ _ _ _ _ _ _ all.0 all.1 n rest.left_value o;
    }
