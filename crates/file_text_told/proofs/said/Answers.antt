-- A bad line, a refusal, or nothing.
use Rattle.file_text_told.proofs.ToldTexts.{said-bad, said-no, said-nothing}
use Rattle.file_text_told.proofs.said.Goals as goal

pub returns-then-c-ne0 : goal.returns-then-c-ne0
returns-then-c-ne0 c = said-bad _ _ c.if-c-ne0.true c.bad_entry_line.ensures

pub returns-then-c-ne0-2 : goal.returns-then-c-ne0-2
returns-then-c-ne0-2 c = said-no _ _ c.if-c-ne0.false c.if-c-ne0-2.true c.no_line.ensures

pub returns : goal.returns
returns c = said-nothing _ _ c.if-c-ne0.false c.if-c-ne0-2.false c.empty_line.ensures
