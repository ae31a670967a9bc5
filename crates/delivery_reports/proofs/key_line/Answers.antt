-- The line of a key says how the maturities and the rows at the places differ there.
-- `difference_line` writes the text of the difference that `difference_at` finds; the one is put for the other.
use Rattle.delivery_reports.specs.Reports.{difference_text}
use Rattle.file_text_print.proofs.Building.{same}
use Rattle.delivery_reports.proofs.key_line.Goals as goal

pub returns : goal.returns
returns c =
    let args = c.args in
    same (difference_text args.kind args.id args.key) c.difference_line.ensures c.difference_at-d.ensures
