-- Shown: what is kept, and the text in the buffer, are those of the line's command. Three cases: a bad line keeps what was
-- kept and prints BAD; a refused call keeps it and prints the number; an accepted one keeps its table and prints the
-- outcome. `is_sound` gives the answer to question 10 under which `outcome_known` is the command's call.
use Rattle.session_command.proofs.CommandAnswers.{bad-kept, bad-text, no-kept, no_text, yes-kept, yes-text}
use mathlib.Core.Path.{sym, ◌∙◌}
use Rattle.session_command.proofs.answer.Goals as goal

-- ---- a bad line
pub shape_of-out-then-is_bad : goal.shape_of-out-then-is_bad
shape_of-out-then-is_bad c = c.print_bad-next.ensures.long

pub returns-then-is_bad : goal.returns-then-is_bad
returns-then-is_bad c =
    let b = sym c.is_bad.ensures ∙ c.if-is_bad.true in
    rw (← c.command_of-c.ensures) (bad-kept _ _ _ b, rw (← bad-text _ _ _ b) c.print_bad-next.ensures)

-- ---- a refused call
pub shape_of-out-then-refusal-ne0 : goal.shape_of-out-then-refusal-ne0
shape_of-out-then-refusal-ne0 c = c.print_refusal-next.ensures.long

pub returns-then-refusal-ne0 : goal.returns-then-refusal-ne0
returns-then-refusal-ne0 c =
    let b = sym c.is_bad.ensures ∙ c.if-is_bad.false in
    let h = c.args.kept in
    let k = c.command_of-c.result in
    let o = c.outcome_known-o.ensures c.is_sound-ten.ensures in
    let n = c.if-refusal-ne0.true in
    rw (← c.command_of-c.ensures) (no-kept _ h k b _ o n, rw (← no_text _ h k b _ o n) c.print_refusal-next.ensures)

-- ---- an accepted call
pub shape_of-out : goal.shape_of-out
shape_of-out c = c.print_outcome-next.ensures.long

pub returns : goal.returns
returns c =
    let b = sym c.is_bad.ensures ∙ c.if-is_bad.false in
    let h = c.args.kept in
    let k = c.command_of-c.result in
    let o = c.outcome_known-o.ensures c.is_sound-ten.ensures in
    let n = c.if-refusal-ne0.false in
    rw (← c.command_of-c.ensures) (yes-kept _ h k b _ o n, rw (← yes-text _ h k b _ o n) c.print_outcome-next.ensures)
