-- Word k of a line, no bytes where there is none.
-- The loop keeps: the words from word i on are those of the line from the place `from` on (words-next).
-- A line that ends before word k has no such word (word-beyond); at i = k the word goes up to the next space (word-here).
use native.Mathlib.Omega.{arith}
use mathlib.Core.Path.{◌≡◌, refl, ◌∙◌, ap}
use Rattle.file_text_lines.specs.Entries.{word_at}
use Rattle.file_text_lines.proofs.LineWords.{words-next, word-here, word-beyond}
use Rattle.file_text_lines.proofs.word_at.Goals as goal

pub loop-i-init : goal.loop-i-init
loop-i-init c = (omega arith, refl)

-- ---- the line ends before word k
pub returns-then-line-end : goal.returns-then-line-end
returns-then-line-end c =
    let v = c.loop-i.invariant in
    word-beyond _ _ _ _ v.1 (c.byte_from-end.ensures.0 v.0) c.if-line-end.true _ c.loop-i-test.true

-- ---- one word on
pub loop-i-preserved : goal.loop-i-preserved
loop-i-preserved c =
    let v = c.loop-i.invariant in (
      omega arith,
      words-next c.args.line.now c.loop-i.i _ _ v.1
          (c.byte_from-end.ensures.0 v.0) c.if-line-end.false,
    )

-- ---- word k
pub slice_bounds-result-count : goal.slice_bounds-result-count
slice_bounds-result-count c = (c.byte_from-end-2.ensures.0 c.loop-i.invariant.0).on

pub slice_bounds-result-start : goal.slice_bounds-result-start
slice_bounds-result-start c = (c.byte_from-end-2.ensures.0 c.loop-i.invariant.0).on

pub slice_bounds-result-end-2 : goal.slice_bounds-result-end-2
slice_bounds-result-end-2 c = (c.byte_from-end-2.ensures.0 c.loop-i.invariant.0).within

pub returns : goal.returns
returns c =
    let v = c.loop-i.invariant in
    let e : c.loop-i.i ≡ c.args.k = omega arith in
    word-here c.args.line.now c.loop-i.i _ _ v.1 (c.byte_from-end-2.ensures.0 v.0) ∙ ap (word_at c.args.line.now) e
