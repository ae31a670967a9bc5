-- The lists have room for every text of notices; the file and the notices of the claim are what stands at the start of the two buffers.
use mathlib.Core.Path.{sym, ap, ◌∙◌}
use lib.Seq.{length-take-le}
use Rattle.streams.specs.declared.output.Told.{Told}
use Rattle.query_run.proofs.QueryWholeRun.{file-failed, file-read}
use borrow.Author.Rules.{rules}
use Rattle.query_run.proofs.run.Goals as goal

pub returns-then-file : goal.returns-then-file
returns-then-file c =
    let n = c.nothing_answered-answered.ensures in
    file-failed _ _ _ _ c.outcome.ensures c.if-file.true c.nothing_moved-notices.ensures.1 n.0
    (ap (λ (t : Told). t.bytes) n.1 ∙ c.nothing_told.ensures)

pub slice_bounds-judged-end : goal.slice_bounds-judged-end
slice_bounds-judged-end c = sym (length-take-le _ _ c.read_file_or_tell-file.ensures.0.0)

pub judged-j-requires : goal.judged-j-requires
judged-j-requires c = (search rules, search rules, search rules)

pub returns : goal.returns
returns c =
    let j = c.judged-j.ensures in
    file-read _ _ _ _ c.outcome-2.ensures _ _ c.if-file.false c.read_file_or_tell-file.ensures.0.0 j.0 j.1 j.2
