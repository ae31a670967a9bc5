-- A file that is refused and a bad line are told in one line, which is the text; without them the run is one on the file and the notices.
use Rattle.query_run.proofs.QueryWholeRun.{master-told, master-refused, line-told, line_refused, all-answered}
use Rattle.query_run.proofs.answer.Goals as goal

pub tell-requires : goal.tell-requires
tell-requires c =
    master-told _ _ _ c.requires.0 c.if-judged-ne0.true _ c.master_line-line.ensures

pub returns-then-judged-ne0 : goal.returns-then-judged-ne0
returns-then-judged-ne0 c =
    master-refused _ _ _ c.requires.0 c.if-judged-ne0.true _ _ c.nothing_answered.ensures c.tell.ensures

pub tell-requires-then-t-ne0 : goal.tell-requires-then-t-ne0
tell-requires-then-t-ne0 c =
    let pre = c.requires in
    line-told _ _ _ _ _ _ _ _ c.read_notices-t.ensures pre.0 c.if-judged-ne0.false pre.1 pre.2 _ c.if-t-ne0.true
    c.bad_notice_line-line.ensures

pub returns-then-t-ne0 : goal.returns-then-t-ne0
returns-then-t-ne0 c =
    let pre = c.requires in
    line_refused _ _ _ _ _ _ _ _ c.read_notices-t.ensures pre.0 c.if-judged-ne0.false pre.1 pre.2 c.if-t-ne0.true _ _
    c.nothing_answered-then-t-ne0.ensures c.tell-then-t-ne0.ensures

pub returns : goal.returns
returns c =
    let pre = c.requires in
    all-answered _ _ _ _ _ _ _ _ c.read_notices-t.ensures pre.0 c.if-judged-ne0.false pre.1 pre.2 c.if-t-ne0.false _ pre.3 _
    c.answer_input-ended.ensures _ c.questions_answered.ensures
