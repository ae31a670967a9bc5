-- `read_listing_line` gives what is known after one line more: before an open as `read_first` says; before the listing a roll or a close is called;
-- every other line is read as an entry. Each return cites the tests before it, by `line_first`, `line-roll`, `line-close` and `line-entry`.
use mathlib.Core.Path.{◌∙◌, sym, ap}
use Rattle.confirm_lines.specs.ListingLines.{after_call, after_entry}
use Rattle.confirm_lines.proofs.Names.{line_first, line-roll, line-close, line-entry}
use Rattle.confirm_lines.proofs.read_listing_line.Goals as goal

-- ---- before a table is open
pub returns-then-not-s : goal.returns-then-not-s
returns-then-not-s c =
    c.read_first.ensures ∙ sym (line_first _ _ _ _ c.command_in-c.ensures c.if-not-s.true)

-- ---- a roll or a close before the listing
pub returns-then-s-c : goal.returns-then-s-c
returns-then-s-c c =
    c.after_call.ensures ∙ ap after_call c.roll.ensures
    ∙ sym (line-roll _ _ _ _ c.command_in-c.ensures c.if-not-s.false c.if-s-c.true)

pub returns-then-s-c-2 : goal.returns-then-s-c-2
returns-then-s-c-2 c =
    c.after_call-then-s-c-2.ensures ∙ ap after_call c.close.ensures
    ∙ sym (line-close _ _ _ _ c.command_in-c.ensures c.if-not-s.false c.if-s-c.false c.if-s-c-2.true)

-- ---- a line of the listing
pub returns : goal.returns
returns c =
    c.after_entry.ensures ∙ ap (after_entry _) c.entry_in-entry.ensures
    ∙ sym (line-entry _ _ _ _ c.command_in-c.ensures c.if-not-s.false c.if-s-c.false c.if-s-c-2.false)
