-- A roll and a close on a table apart from its maps are the calls on the table.
-- Assumes nothing.
use mathlib.Core.Path.{◌≡◌, refl, sym, ap, ◌∙◌}
use mathlib.Core.Bool.{Bool, true, false}
use mathlib.Core.List.{List}
use Prim.Native.Nat.{ℕ, ◌≤◌}
use native.Mathlib.Omega.{arith}
use lib.Dec.{eqb}
use borrow.Author.Tests.{eqb-true, eqb-false, le-leb}
use Rattle.table.specs.declared.Table.{Table}
use Rattle.table.specs.declared.Outcome.{Outcome}
use Rattle.session_lines.specs.declared.Command.{Command}
use Rattle.session_command.specs.Sessions.{outcome_of}
use Rattle.session_command.proofs.CommandAnswers.{rolls, closes}
use Rattle.history.specs.declared.Called.{Called}
use Rattle.history.specs.Book.{Call, roll, close}
use Rattle.history.specs.History.{unpriced, table_call}
use Rattle.history_replay.specs.Replay.{call_of}
use Rattle.session_apart.specs.declared.Moved.{Moved}
use Rattle.session_apart.specs.Apart.{table_with, table_rest, Moves}
use Rattle.delivery_calls.specs.CallsApart.{CallMade}
use Rattle.delivery_calls.proofs.RefusedCalls.{refused-same}

-- what a table apart is after a move, by the outcome of its call
by-moves : (t : Table) (o : Outcome) (m : Moved) (closed exchange : List ℕ) (c : Call) → table_call t c ≡ unpriced o → Moves t o m closed exchange
    → CallMade (table_call t c) (record { refusal = m.refusal; rest = m.rest }) closed exchange
by-moves t o m closed exchange c e v =
    record { refusal = v.refusal ∙ sym (ap (λ (x : Called). x.refusal) e); table = go (eqb o.refusal 0) refl }
  where
    go : (b : Bool) → eqb o.refusal 0 ≡ b → table_with m.rest closed exchange ≡ (table_call t c).table
    go true q = ap (λ (x : Outcome). x.table) (v.accepted (eqb-true o.refusal 0 q)) ∙ sym (ap (λ (x : Called). x.table) e)
    go false q =
        v.refused (eqb-false o.refusal 0 q)
        ∙ sym (refused-same t c (λ z. eqb-false o.refusal 0 q (sym (ap (λ (x : Called). x.refusal) e) ∙ z)))

module _ (opening : List ℕ → ℕ → Outcome) (t : Table) (c : Command) (m : Moved) (closed exchange : List ℕ)
    (v : Moves t (outcome_of opening t c) m closed exchange) where
  -- the roll of a command with R is the call of a roll to its day, with its refusal and its rest
  pub roll-made : c.letter ≡ 82 → CallMade (table_call t (roll c.day)) (record { refusal = m.refusal; rest = m.rest }) closed exchange
  roll-made l =
      by-moves t (outcome_of opening t c) m closed exchange (roll c.day) (ap unpriced (rolls opening t c (λ q. omega (arith, q, l)) l)) v

  -- the closing of a command with C is the call of the closing of its day, with its refusal and its rest
  pub close-made : c.letter ≡ 67 → CallMade (table_call t (close c.day)) (record { refusal = m.refusal; rest = m.rest }) closed exchange
  close-made l =
      by-moves t (outcome_of opening t c) m closed exchange (close c.day)
      (ap unpriced (closes opening t c (λ q. omega (arith, q, l)) (λ q. omega (arith, q, l)))) v

-- a call of a list whose first number has 16 bits, by its kind
module _ (first second third : ℕ) (small : first ≤ 65535) where
  -- kind 0 with a day of at most 65535 is the roll to that day
  pub kind_0 : (kind : ℕ) → kind ≡ 0 → roll first ≡ call_of kind first second third
  kind_0 kind e = rw (e, le-leb first 65535 small) refl

  -- kind 1 with a day of at most 65535 is the closing of that day
  pub kind_1 : (kind : ℕ) → kind ≡ 1 → close first ≡ call_of kind first second third
  kind_1 kind e = rw (e, le-leb first 65535 small) refl

-- a call of the whole table, taken apart again
pub whole-made : (o p : Called) → o ≡ p → CallMade p (record { refusal = o.refusal; rest = table_rest o.table }) o.table.calendar.closed
    o.table.calendar.exchange
whole-made o p e = record { refusal = ap (λ (x : Called). x.refusal) e; table = ap (λ (x : Called). x.table) e }
