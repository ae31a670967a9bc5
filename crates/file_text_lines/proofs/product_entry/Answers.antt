-- A product or another line. A line is a product where five tests pass: the form, the kind, the shares, the ten-thousandths and the tick.
-- A test that passes leaves those after it (`passed`, `yes-1` ..); a `return` of another line is the first of those left, which fails (`failed`).
-- No number passes its most (at_most, shares-most, part-most), so the casts keep the values.
use native.Mathlib.Omega.{arith}
use borrow.Author.Tests.{not-true, not-false}
use Prim.Native.Nat.{ℕ}
use mathlib.Core.Path.{◌≡◌, ◌∙◌, sym, ap}
use mathlib.Core.Bool.{true, false, not}
use lib.ListN.{drop}
use Rattle.questions.proofs.Bools.{said-no, said-yes}
use Rattle.file_text_lines.specs.declared.NumberRead.{NumberRead}
use Rattle.file_text_lines.proofs.NumberWords.{at_most, shares-most, part-most}
use Rattle.file_text_lines.proofs.EntryForms.{product_tests, product_with, Asked, all_asked, passed, failed, record_is}
use Rattle.file_text_lines.proofs.product_entry.Goals as goal
use Rattle.file_text_lines.proofs.product_entry.Goals.{Start, Else-not-is_product_form, Else-not-kind, Else-not-shares, Else-not-part, Else-not-tick}

-- a number is there if the one that was read is
there-yes : {r a : NumberRead} → r ≡ a → not r.there ≡ false → a.there ≡ true
there-yes e t = said-yes (ap (λ x. x.there) e) (not-false _ t)

there-no : {r a : NumberRead} → r ≡ a → not r.there ≡ true → a.there ≡ false
there-no e t = said-no (ap (λ x. x.there) e) (not-true _ t)

-- ---- the tests that pass: the first k do, and the others are left
abbrev Passed : ℕ → Start → Type 0
Passed k s = Asked s.args.line.now (drop k (product_tests s.args.line.now))

yes-1 : (c : Else-not-is_product_form) → Passed 1 (goal.at.Else-not-is_product_form c).Start
yes-1 c = passed (all_asked _) (said-yes c.is_product_form.ensures c.if-not-is_product_form.false)

yes-2 : (c : Else-not-kind) → Passed 2 (goal.at.Else-not-kind c).Start
yes-2 c = passed (yes-1 (goal.at.Else-not-kind c).Else-not-is_product_form) (there-yes c.number_in-kind.ensures c.if-not-kind.false)

yes-3 : (c : Else-not-shares) → Passed 3 (goal.at.Else-not-shares c).Start
yes-3 c = passed (yes-2 (goal.at.Else-not-shares c).Else-not-kind) (there-yes c.shares_in-shares.ensures c.if-not-shares.false)

yes-4 : (c : Else-not-part) → Passed 4 (goal.at.Else-not-part c).Start
yes-4 c = passed (yes-3 (goal.at.Else-not-part c).Else-not-shares) (there-yes c.part_in-part.ensures c.if-not-part.false)

yes-5 : (c : Else-not-tick) → Passed 5 (goal.at.Else-not-tick c).Start
yes-5 c = passed (yes-4 (goal.at.Else-not-tick c).Else-not-part) (there-yes c.number_in-tick.ensures c.if-not-tick.false)

-- ---- a test that fails: another line
pub returns-then-not-is_product_form : goal.returns-then-not-is_product_form
returns-then-not-is_product_form c = c.other_entry.ensures ∙ failed (all_asked _) (said-no c.is_product_form.ensures c.if-not-is_product_form.true)

pub returns-then-not-kind : goal.returns-then-not-kind
returns-then-not-kind c =
    let none = there-no c.number_in-kind.ensures c.if-not-kind.true in
    c.other_entry-then-not-kind.ensures ∙ failed (yes-1 (goal.at.returns-then-not-kind c).Else-not-is_product_form) none

pub returns-then-not-shares : goal.returns-then-not-shares
returns-then-not-shares c =
    let none = there-no c.shares_in-shares.ensures c.if-not-shares.true in
    c.other_entry-then-not-shares.ensures ∙ failed (yes-2 (goal.at.returns-then-not-shares c).Else-not-kind) none

pub returns-then-not-part : goal.returns-then-not-part
returns-then-not-part c =
    let none = there-no c.part_in-part.ensures c.if-not-part.true in
    c.other_entry-then-not-part.ensures ∙ failed (yes-3 (goal.at.returns-then-not-part c).Else-not-shares) none

pub returns-then-not-tick : goal.returns-then-not-tick
returns-then-not-tick c =
    let none = there-no c.number_in-tick.ensures c.if-not-tick.true in
    c.other_entry-then-not-tick.ensures ∙ failed (yes-4 (goal.at.returns-then-not-tick c).Else-not-part) none

pub overflow_cast-kind : goal.overflow_cast-kind
overflow_cast-kind c = omega (arith, at_most _ _ _ c.number_in-kind.ensures)

pub overflow_cast-shares : goal.overflow_cast-shares
overflow_cast-shares c = omega (arith, shares-most _ _ c.shares_in-shares.ensures)

pub overflow_cast-part : goal.overflow_cast-part
overflow_cast-part c = omega (arith, part-most _ _ c.part_in-part.ensures)

pub overflow_cast-tick : goal.overflow_cast-tick
overflow_cast-tick c = omega (arith, at_most _ _ _ c.number_in-tick.ensures)

-- the product
pub returns : goal.returns
returns c =
    ap product_with (c.line_record-record.ensures ∙ record_is _ c.number_in-kind.ensures c.shares_in-shares.ensures
    c.part_in-part.ensures c.number_in-tick.ensures) ∙ sym (yes-5 (goal.at.returns c).Else-not-tick).is
