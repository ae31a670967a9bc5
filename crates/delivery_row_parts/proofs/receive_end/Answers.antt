-- A line that a line feed ended is taken; any other is kept as it is.
use mathlib.Core.Path.{refl}
use borrow.Author.Tests.{not-true, not-false}
use Rattle.questions.proofs.Bools.{clash}
use Rattle.delivery_row_parts.proofs.receive_end.Goals as goal

pub returns-then-not-e : goal.returns-then-not-e
returns-then-not-e c = record { ended = λ y. clash y (not-true _ c.if-not-e.true); begun = λ n. (refl, (refl, refl)) }

pub returns : goal.returns
returns c =
    record {
      ended = λ y. (
        c.receive_told-kept.ensures,
        c.empty_long_line-next.ensures,
      );
      begun =
          λ n.
          clash
          (not-false _
          c.if-not-e.false) n;
    }
