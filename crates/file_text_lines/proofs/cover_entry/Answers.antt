-- A cover or another line. The three returns are: not the form of three words, a word that is no number, and the entry Y with the cover.
-- Each cites the tests before it (cover-formless, cover-none, cover-is).
use mathlib.Core.Path.{refl, sym, ◌∙◌}
use Rattle.questions.proofs.Bools.{said-no, said-yes}
use Rattle.file_text_lines.specs.Entries.{cover_at}
use Rattle.std.proofs.lemmas.Option.{cond_some}
use Rattle.file_text_lines.proofs.EntryForms.{kept-none, cover-formless, cover-none, cover-is}
use Rattle.file_text_lines.proofs.cover_entry.Goals as goal

pub returns-then-not-is_letter_form : goal.returns-then-not-is_letter_form
returns-then-not-is_letter_form c = c.other_entry.ensures ∙ cover-formless _ (said-no c.is_letter_form.ensures c.if-not-is_letter_form.true)

pub returns-in_default : goal.returns-in_default
returns-in_default c =
    let form = said-yes c.is_letter_form.ensures c.if-not-is_letter_form.false in
    let none = kept-none (cover_at c.args.line.now 1 2) (sym c.in_default.is ∙ c.cover_at.ensures) in
    c.other_entry-in_default.ensures ∙ cover-none _ form _ refl none

pub returns : goal.returns
returns c =
    let form = said-yes c.is_letter_form.ensures c.if-not-is_letter_form.false in
    let kept = cond_some (cover_at c.args.line.now 1 2).there _ c.in-Some.cover (sym c.cover_at.ensures ∙ c.in-Some.is) in
    rw (← kept.1) (cover-is _ form _ refl kept.0)
