-- The buffer has room for a line; load's answer says which of the two texts is the file's, and whether it is refused.
use native.Mathlib.Omega.{arith}
use mathlib.Core.Path.{sym, ap, ◌∙◌}
use Rattle.questions.specs.Questions.{Answer}
use Rattle.file_load.specs.declared.Counts.{Counts}
use Rattle.decompose_run.proofs.FileFirstBytes.{refused-is, accepted-is}
use Rattle.decompose_run.proofs.answer.Goals as goal

pub write_refusal-sent-requires : goal.write_refusal-sent-requires
write_refusal-sent-requires c = (
  omega (arith, c.large_buffer-out.ensures),
  c.requires,
  ap (λ (a : Answer Counts). a.refusal) (sym c.load-loaded.ensures),
  c.if-refusal-ne0.true,
)

pub returns-then-refusal-ne0 : goal.returns-then-refusal-ne0
returns-then-refusal-ne0 c =
    let z = ap (λ (a : Answer Counts). a.refusal) c.load-loaded.ensures in
    (c.write_refusal-sent.ensures, refused-is _ (λ e. c.if-refusal-ne0.true (z ∙ e)))

pub write_text-sent-requires : goal.write_text-sent-requires
write_text-sent-requires c = (
  omega (arith, c.large_buffer-out.ensures),
  c.requires,
  ap (λ (a : Answer Counts). a.refusal) (sym c.load-loaded.ensures) ∙ c.if-refusal-ne0.false,
  c.calendar_of-cal.ensures,
)

pub returns : goal.returns
returns c =
    let z = ap (λ (a : Answer Counts). a.refusal) c.load-loaded.ensures in
    (c.write_text-sent.ensures, accepted-is _ (sym z ∙ c.if-refusal-ne0.false))
