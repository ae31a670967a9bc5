-- A file that is refused and a bad line are told in one line, which is the text; else all rows are printed.
use mathlib.Core.Path.{◌≡◌, ◌∙◌, sym, ap}
use mathlib.Core.List.{List}
use Prim.Native.Nat.{ℕ, ◌+◌, ◌≤◌}
use native.Mathlib.Omega.{arith}
use lib.ListN.{length}
use Rattle.delivery_notices.specs.declared.NoticesTaken.{NoticesTaken}
use Rattle.delivery_notices.specs.Notices.{text_told}
use Rattle.delivery_notices.specs.NoticeLists.{told_in, told_held, TextIn}
use Rattle.streams.specs.declared.output.Sent.{Sent}
use Rattle.delivery_parts.proofs.Handing.{line-long, line-few, line-next, master-short, bad-short, lists-fit, refused-rows, refused-told, next-refused}
use Rattle.delivery_parts.proofs.Handing.{bad-rows, bad-told, next-bad}
use borrow.Author.Rules.{rules}
use Rattle.deliver_run.proofs.answer.Goals as goal

total : (a b n k : ℕ) → a ≡ b + n → b ≡ 0 → n ≡ k → a ≡ k
total a b n k e z q = omega arith

-- lists with room hold the notices
held_by : (text calls calls' ids ids' : List ℕ) (t : NoticesTaken) → 32770 ≤ length calls → 26216 ≤ length ids → TextIn text calls calls' ids ids' t
    → told_in t calls' ids' ≡ told_held (text_told text)
held_by text calls calls' ids ids' t h k x = x.is (x.fits ∙ lists-fit (length calls) (length ids) h k)

pub returns-then-refusal-ne0 : goal.returns-then-refusal-ne0
returns-then-refusal-ne0 c = λ e.
    let made = c.master_line-line.ensures in
    let none = c.nothing_handed-none.ensures in
    let u = c.tell.ensures in
    let told = u.1 (line-few made (master-short _)) (omega (arith, none.2))
    (rw none.2 (line-next made (master-short _) (next-refused _ _ _ c.requires.0 c.if-refusal-ne0.true))) in (
      ap (λ (s : Sent). s.bytes) u.0 ∙ none.1 ∙ ap length (sym (refused-rows _ _ _ c.requires.0 c.if-refusal-ne0.true)),
      total _ _ _ _ told none.2 (line-long made (master-short _) ∙ ap length (sym (refused-told _ _ _ c.requires.0 c.if-refusal-ne0.true))),
    )

pub returns-then-bad-ne0 : goal.returns-then-bad-ne0
returns-then-bad-ne0 c = λ e.
    let x = c.read_notices-t.ensures in
    let held = held_by _ _ _ _ _ _ (search rules) (search rules) x in
    let made = c.bad_notice_line-line.ensures in
    let none = c.nothing_handed-none.ensures in
    let u = c.tell-then-bad-ne0.ensures in
    let told = u.1 (line-few made (bad-short _)) (omega (arith, none.2))
    (rw none.2
    (line-next made (bad-short _) (next-bad _ _ _ c.requires.0 c.if-refusal-ne0.false _ _ c.read_notices-t.result held c.if-bad-ne0.true))) in (
      ap (λ (s : Sent). s.bytes) u.0 ∙ none.1
          ∙ ap length (sym (bad-rows _ _ _ c.requires.0 c.if-refusal-ne0.false _ _ c.read_notices-t.result held c.if-bad-ne0.true)),
      total _ _ _ _ told none.2
          (line-long made (bad-short _)
          ∙ ap length (sym (bad-told _ _ _ c.requires.0 c.if-refusal-ne0.false _ _ c.read_notices-t.result held c.if-bad-ne0.true))),
    )

pub returns : goal.returns
returns c =
    let pre = c.requires in
    let x = c.read_notices-t.ensures in
    c.print_all.ensures
    (record {
      size = pre.1;
      own = pre.0;
      accepted = c.if-refusal-ne0.false;
      held = held_by _ _ _ _ _ _ (search rules) (search rules) x;
      good = c.if-bad-ne0.false;
    })
