-- A seed with a cover, or another line. The four returns are: not the form of four words, no seed, no cover, and the entry S.
-- Each cites the tests before it (seed-formless, seed-none, seed-coverless, seed-is).
use mathlib.Core.Path.{refl, sym, ◌∙◌}
use Rattle.questions.proofs.Bools.{said-no, said-yes}
use borrow.Author.Tests.{not-true, not-false}
use Rattle.file_text_lines.specs.Entries.{cover_at}
use Rattle.std.proofs.lemmas.Option.{cond_some}
use Rattle.file_text_lines.proofs.EntryForms.{kept-none, seed-formless, seed-none, seed-coverless, seed-is}
use Rattle.file_text_lines.proofs.seed_entry.Goals as goal

pub returns-then-not-is_letter_form : goal.returns-then-not-is_letter_form
returns-then-not-is_letter_form c = c.other_entry.ensures ∙ seed-formless _ (said-no c.is_letter_form.ensures c.if-not-is_letter_form.true)

pub returns-then-not-seed : goal.returns-then-not-seed
returns-then-not-seed c =
    let form = said-yes c.is_letter_form.ensures c.if-not-is_letter_form.false in
    c.other_entry-then-not-seed.ensures ∙ seed-none _ form _ c.number_in-seed.ensures (not-true _ c.if-not-seed.true)

pub returns-in_default : goal.returns-in_default
returns-in_default c =
    let form = said-yes c.is_letter_form.ensures c.if-not-is_letter_form.false in
    let none = kept-none (cover_at c.args.line.now 2 3) (sym c.in_default.is ∙ c.cover_at.ensures) in
    c.other_entry-in_default.ensures ∙ seed-coverless _ form _ c.number_in-seed.ensures (not-false _ c.if-not-seed.false) _ refl none

pub returns : goal.returns
returns c =
    let form = said-yes c.is_letter_form.ensures c.if-not-is_letter_form.false in
    let kept = cond_some (cover_at c.args.line.now 2 3).there _ c.in-Some.cover (sym c.cover_at.ensures ∙ c.in-Some.is) in
    rw (← kept.1) (seed-is _ form _ c.number_in-seed.ensures (not-false _ c.if-not-seed.false) _ refl kept.0)
