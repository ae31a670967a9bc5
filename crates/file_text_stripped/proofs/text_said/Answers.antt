-- A line that says nothing, or its entry: an empty line that is fed the text is read as the definition reads the text (`any-length`).
use mathlib.Core.Path.{◌∙◌}
use Rattle.file_text_stripped.proofs.LineHeld.{said-empty, said-comment, said-entry}
use Rattle.file_text_stripped.proofs.text_said.Goals as goal

pub returns-then-text-eq0 : goal.returns-then-text-eq0
returns-then-text-eq0 c = c.nothing_entry.ensures ∙ said-empty _ c.if-text-eq0.true

pub returns-then-text-eq35 : goal.returns-then-text-eq35
returns-then-text-eq35 c = c.nothing_entry-then-text-eq35.ensures ∙ said-comment _ c.if-text-eq0.false c.if-text-eq35.true

pub returns : goal.returns
returns c =
    said-entry _ c.if-text-eq0.false c.if-text-eq35.false _ c.empty_line.ensures _ c.feed-line.ensures _
    c.entry_of.ensures
