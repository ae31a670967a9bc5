-- `read_notices` reads nothing where a list is too short (`text-idle`); else the lines after a byte order mark are taken and the end
-- is judged (`text-read`). The room of the lists is what `lists_fit` said, and the part read has at most 65,537 bytes (`rest-few`).
use mathlib.Core.Path.{refl, sym}
use lib.Seq.{length-take-le}
use Rattle.delivery_notices.proofs.NoticesSoFar.{part-few, rest-few, text-read, text-idle, lists-room}
use Rattle.delivery_notices.proofs.read_notices.Goals as goal

-- ---- a list that is too short
pub returns-then-not-lists_fit : goal.returns-then-not-lists_fit
returns-then-not-lists_fit c = text-idle _ _ _ _ c.no_notices_taken.ensures _ c.lists_fit.ensures c.if-not-lists_fit.true

-- ---- the text's lines
pub slice_bounds-part-end : goal.slice_bounds-part-end
slice_bounds-part-end c = sym (length-take-le _ _
    (part-few c.args.text.now _ c.read_length-n.ensures))

pub read_lines-t-requires : goal.read_lines-t-requires
read_lines-t-requires c =
    let args = c.args in
    let r = lists-room args.calls.now args.ids.now _ c.lists_fit.ensures
    c.if-not-lists_fit.false in
    (rest-few args.text.now _ _ c.read_length-n.ensures, r.0, r.1)

pub whole_taken-requires : goal.whole_taken-requires
whole_taken-requires c = c.read_lines-t.ensures.lines

-- ---- what was read is the text's
pub returns : goal.returns
returns c =
    text-read _ _ _ _ _ _ _ _ _ c.read_length-n.ensures
    c.mark_length-mark.ensures.0 refl
    c.read_lines-t.ensures _ c.whole_taken.ensures _
    c.lists_fit.ensures
    c.if-not-lists_fit.false
