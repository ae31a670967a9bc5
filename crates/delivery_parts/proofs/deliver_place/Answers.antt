-- `deliver_place` gives a place's rows and its notices' refusals. Each return cites the tests before it: no room (`place-idle`), no
-- record (`place-empty`), an opening that is refused (`place-refused`), or the rows of the table that `deliver` gives (`place-rows`).
use Rattle.questions.proofs.Bools.{said-no, said-yes}
use Rattle.delivery_parts.proofs.PlaceParts.{place-idle, place-empty, place-refused, place-rows}
use Rattle.delivery_parts.proofs.deliver_place.Goals as goal

pub returns-then-not-part_fits : goal.returns-then-not-part_fits
returns-then-not-part_fits c = place-idle _ _ _ _ _ _ _ _ _ _ c.part_fits.ensures c.if-not-part_fits.true _ c.no_part.ensures

pub returns-then-not-is_record : goal.returns-then-not-is_record
returns-then-not-is_record c =
    place-empty _ _ _ _ _ _ _ _ _ _ c.part_fits.ensures c.if-not-part_fits.false
    (said-no c.is_record.ensures c.if-not-is_record.true) _ c.no_part-then-not-is_record.ensures

pub shape_of-refusals-then-refusal-ne0 : goal.shape_of-refusals-then-refusal-ne0
shape_of-refusals-then-refusal-ne0 c = c.deliver-d.ensures.long

pub returns-then-refusal-ne0 : goal.returns-then-refusal-ne0
returns-then-refusal-ne0 c =
    place-refused _ _ _ _ _ _ _ _ _ _ c.part_fits.ensures
    c.if-not-part_fits.false
    (said-yes c.is_record.ensures
    c.if-not-is_record.false) _ c.id_at-id.ensures _ _
    c.deliver-d.ensures c.if-refusal-ne0.true

pub shape_of-refusals : goal.shape_of-refusals
shape_of-refusals c = c.deliver-d.ensures.long

pub shape_of-out : goal.shape_of-out
shape_of-out c = c.print_rows-length.ensures.long

pub returns : goal.returns
returns c =
    place-rows _ _ _ _ _ _ _ _ _ _
    c.part_fits.ensures
    c.if-not-part_fits.false
    (said-yes c.is_record.ensures
    c.if-not-is_record.false) _
    c.id_at-id.ensures _ _
    c.deliver-d.ensures c.if-refusal-ne0.false _ _
    c.print_rows-length.ensures
