-- Shown: where question 10 is known, what is kept, what is printed and what is known after it are those of the command. A
-- bad line and a refused call leave the table, so what was known of it holds; after an accepted call question 10 is what
-- `leaves_sound` says (`yes-sound-apart`). In the last two cases the table moves as `move_apart` says.
use mathlib.Core.Path.{sym, ap, ◌∙◌}
use Rattle.file_calendar.specs.Calendars.{calendar_answer}
use Rattle.table.specs.Table.{sound}
use Rattle.session_command.proofs.CommandAnswers.{bad-kept, bad-text}
use Rattle.session_apart.proofs.Keeping.{no-kept-apart, no-text-apart, no-table-apart, yes-kept-apart, yes-text-apart, yes-sound-apart}
use Rattle.session_apart.proofs.reply.Goals as goal

-- ---- a bad line
pub shape_of-out-then-is_bad : goal.shape_of-out-then-is_bad
shape_of-out-then-is_bad c = c.print_bad-next.ensures.long

pub returns-then-is_bad : goal.returns-then-is_bad
returns-then-is_bad c = λ w.
    let b = sym c.is_bad.ensures ∙ c.if-is_bad.true in
    rw (← c.command_of-c.ensures)
    (record { kept = bad-kept _ _ _ b; text = rw (← bad-text _ _ _ b) c.print_bad-next.ensures; known = w })

-- ---- a refused call
pub shape_of-out-then-refusal-ne0 : goal.shape_of-out-then-refusal-ne0
shape_of-out-then-refusal-ne0 c = c.print_refusal-next.ensures.long

pub returns-then-refusal-ne0 : goal.returns-then-refusal-ne0
returns-then-refusal-ne0 c = λ w.
    let b = sym c.is_bad.ensures ∙ c.if-is_bad.false in
    let v = c.move_apart-m.ensures w.tenth in
    let n = c.if-refusal-ne0.true in
    let verdict = calendar_answer c.args.judged in
    let f = c.args.file.now in
    let h = c.args.k in
    let first = c.args.closed.now in
    let second = c.args.exchange.now in
    let k = c.command_of-c.result in
    let m = c.move_apart-m.result in
    rw (← c.command_of-c.ensures)
    (record {
      kept = no-kept-apart verdict f h.opened h.refused h.rest first second k m _ _ b v n;
      text = rw (← no-text-apart verdict f h.opened h.refused h.rest first second k m _ _ b v n) c.print_refusal-next.ensures;
      known =
          record {
            calendar = w.calendar;
            tenth = w.tenth ∙ ap sound (sym (no-table-apart verdict f h.opened h.refused h.rest first second k m _ _ b v n));
          };
    })

-- ---- an accepted call
pub shape_of-out : goal.shape_of-out
shape_of-out c = c.print_call-next.ensures.long

pub returns : goal.returns
returns c = λ w.
    let b = sym c.is_bad.ensures ∙ c.if-is_bad.false in
    let v = c.move_apart-m.ensures w.tenth in
    let n = c.if-refusal-ne0.false in
    let verdict = calendar_answer c.args.judged in
    let f = c.args.file.now in
    let h = c.args.k in
    let first = c.args.closed.now in
    let second = c.args.exchange.now in
    let k = c.command_of-c.result in
    let m = c.move_apart-m.result in
    rw (← c.command_of-c.ensures)
    (record {
      kept = yes-kept-apart verdict f h.opened h.refused h.rest first second k m _ _ b v n;
      text = rw (← yes-text-apart verdict f h.opened h.refused h.rest first second k m _ _ b v n) c.print_call-next.ensures;
      known = record {
        calendar = w.calendar;
        tenth =
            (rw w.calendar at c.leaves_sound-still.ensures) ∙ sym (yes-sound-apart verdict f h.opened h.refused h.rest first second k m _ _ b v n);
      };
    })
