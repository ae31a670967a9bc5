-- What is asked first, then the library's lines by the product's own rows.
use Rattle.questions.proofs.Bools.{said-no, said-yes}
use Rattle.c_differences.proofs.ProductDifferences.{not-judged, not-fits, room-parts, all_found}
use Rattle.c_differences.proofs.differences.Goals as goal

pub returns-then-not-is_judgeable : goal.returns-then-not-is_judgeable
returns-then-not-is_judgeable c = not-judged _ _ _ _ _ _ _ (said-no c.is_judgeable.ensures c.if-not-is_judgeable.true) _ c.no_lines.ensures

pub returns-then-not-has_room : goal.returns-then-not-has_room
returns-then-not-has_room c =
    not-fits _ _ _ _ _ _ _ (said-yes c.is_judgeable.ensures c.if-not-is_judgeable.false)
    (said-no c.has_room.ensures c.if-not-has_room.true) _ c.no_lines-then-not-has_room.ensures

pub own_lines-r-requires : goal.own_lines-r-requires
own_lines-r-requires c =
    room-parts _ _ (said-yes c.has_room.ensures c.if-not-has_room.false)

pub returns : goal.returns
returns c =
    all_found _ _ _ _ _ _ _ (said-yes c.is_judgeable.ensures c.if-not-is_judgeable.false)
    (said-yes c.has_room.ensures c.if-not-has_room.false) _ c.unflat_product-p.ensures _
    c.listed_count-n.ensures _ _ _ c.own_lines-r.ensures.0 c.own_lines-r.ensures.1
