-- A table apart from the two maps of its calendar. Only the code needs these.
-- Assumes nothing.
use Rattle.std.specs.Prelude.{ℕ, ◌≡◌, Bool, List, length}
use Rattle.calendar.specs.Trading.{calendar_of_maps}
use Rattle.calendar.specs.declared.Cover.{Cover}
use Rattle.product.specs.declared.Product.{Product}
use Rattle.listing.specs.declared.Maturity.{Maturity}
use Rattle.listing.specs.Rules.{places15}
use Rattle.table_numbering.specs.Numbering.{numbered_fresh}
use Rattle.file_calendar.specs.declared.FileCalendar.{FileCalendar}
use Rattle.table.specs.declared.Table.{Table}
use Rattle.table.specs.declared.Outcome.{Outcome}
use Rattle.session_lines.specs.declared.Command.{Command}
use Rattle.session_text.specs.Buffer.{Printed}
use Rattle.session_command.specs.declared.Kept.{Kept}
use Rattle.session_command.specs.Sessions.{answer_text, kept_after, Known}
use Rattle.session_apart.specs.declared.Rest.{Rest}
use Rattle.session_apart.specs.declared.Moved.{Moved}
use Rattle.session_apart.specs.declared.Replied.{Replied}

-- the table of a rest and two maps
abbrev pub table_with : Rest → List ℕ → List ℕ → Table
table_with rest closed exchange =
    record {
      product = rest.product;
      calendar = calendar_of_maps rest.cover closed exchange;
      date = rest.date;
      maturities = rest.maturities;
      given = rest.given;
    }

-- a table but for its maps
abbrev pub table_rest : Table → Rest
table_rest t = record { product = t.product; cover = t.calendar.cover; date = t.date; maturities = t.maturities; given = t.given }

-- what is kept: whether an O has been accepted, the table, and whether an answer was `NO n` or `BAD`
abbrev pub kept_with : Bool → Rest → List ℕ → List ℕ → Bool → Kept
kept_with opened rest closed exchange refused = record { opened = opened; table = table_with rest closed exchange; refused = refused }

-- a rest on a date, no month entered or left
abbrev pub dated_rest : Rest → ℕ → Moved
dated_rest rest date =
    record {
      refusal = 0;
      rest = record { product = rest.product; cover = rest.cover; date = date; maturities = rest.maturities; given = rest.given };
      entered = 0;
      left = 0;
    }

-- the rest that an open of a product gives under a cover on a date: a fresh listing numbered 1, 2, .., all of it entered
abbrev pub opened_rest : Product → Cover → ℕ → List Maturity → Moved
opened_rest product cover date fresh =
    record {
      refusal = 0;
      rest = record { product = product; cover = cover; date = date; maturities = places15 (numbered_fresh fresh); given = length fresh };
      entered = length fresh;
      left = 0;
    }

-- a rest and its maps after a call on the table: an accepted call's outcome is theirs, and a refused one leaves the table as it was, with counts 0 and 0
pub record Moves (t : Table) (o : Outcome) (m : Moved) (closed exchange : List ℕ) : Type 0 where
  pub refusal : m.refusal ≡ o.refusal
  pub accepted : o.refusal ≡ 0 → record { refusal = 0; table = table_with m.rest closed exchange; entered = m.entered; left = m.left } ≡ o
  pub refused : (o.refusal ≡ 0 → ⊥) → table_with m.rest closed exchange ≡ t
  pub counts : (o.refusal ≡ 0 → ⊥) → (m.entered ≡ 0) × (m.left ≡ 0)

-- the answer to a command from what is kept, in a buffer from a place on, and what is kept and known after it
pub record Replies (opening : List ℕ → ℕ → Outcome) (judged : FileCalendar) (right : Bool) (h : Kept) (at : ℕ) (c : Command) (before after : List ℕ)
    (r : Replied) (closed exchange : List ℕ) : Type 0 where
  pub kept : kept_with r.opened r.rest closed exchange r.refused ≡ kept_after opening h c
  pub text : Printed before after at r.at (answer_text opening h c)
  pub known : Known judged right (table_with r.rest closed exchange) r.ten
