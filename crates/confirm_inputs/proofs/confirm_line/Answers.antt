-- A list that is too short gets nothing; else the lines of the bytes that are read are those of the definition.
use mathlib.Core.Path.{sym}
use lib.Seq.{length-take-le}
use Rattle.file_text_print.proofs.Building.{nothing}
use Rattle.confirm_inputs.proofs.VerdictTexts.{said, said-none, read-few, part-long, said-part}
use Rattle.confirm_inputs.proofs.confirm_line.Goals as goal

pub returns-then-list-lt6900 : goal.returns-then-list-lt6900
returns-then-list-lt6900 c = said (nothing _ c.empty_line.ensures) (said-none _ _ _ c.if-list-lt6900.true)

pub slice_bounds-read_lines-end : goal.slice_bounds-read_lines-end
slice_bounds-read_lines-end c =
    sym (length-take-le _ _ (read-few c.args.input.now _ c.read_length-n.ensures).0)

pub read_lines-requires : goal.read_lines-requires
read_lines-requires c =
    (part-long _ _ c.read_length-n.ensures, c.if-list-lt6900.false)

pub returns : goal.returns
returns c =
    said c.read_lines.ensures (said-part _ _ c.read_length-n.ensures _ _ c.if-list-lt6900.false)
