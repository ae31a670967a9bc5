-- A line of an input that is not bad has a byte, and one with an entry has 18 or more; an entry's numbers in a lent list.
-- Assumes nothing.
use mathlib.Core.Path.{◌≡◌, refl, ap, ◌∙◌}
use mathlib.Core.Bool.{Bool, true, false, not, ◌&&◌, cond, and-false}
use mathlib.Core.List.{List, [], ◌∷◌, ◌++◌, append-nil, append_assoc}
use mathlib.Core.Logic.{◌⊎◌, inl, inr}
use Prim.Native.Nat.{ℕ, suc, ◌+◌, ◌*◌, ◌≤◌, ◌<◌}
use native.Mathlib.Numerals.{add-one}
use native.Mathlib.Omega.{arith}
use lib.Dec.{eqb}
use lib.ListN.{length, take, set, length-set}
use lib.Seq.{take-suc-set}
use borrow.Author.Tests.{ne_eqb}
use Rattle.questions.proofs.Bools.{lt-or-ge, clash}
use Rattle.product.specs.declared.Kind.{Kind}
use Rattle.product.specs.Fields.{is_weekly}
use Rattle.session_lines.specs.CommandLines.{move_form, move_command, command_at, command_of}
use Rattle.table.specs.declared.Outcome.{Outcome}
use Rattle.table.specs.Table.{open_call, roll_call, close_call}
use Rattle.confirm_lines.specs.declared.ListingEntry.{ListingEntry}
use Rattle.std.specs.Prelude.{Option, Some, None, is_some}
use Rattle.confirm_lines.specs.declared.ListingSoFar.{ListingSoFar}
use Rattle.confirm_lines.specs.ListingLines.{no_entry, month_entry, friday_entry, entry_in, after_call, after_entry, read_first, read_listing_line}
use Rattle.confirm_inputs.specs.ConfirmInputs.{entry_numbers}
use Rattle.confirm_inputs.specs.InputReading.{EntryPut}

-- a line too short for an entry has none
short-entry : (kind : Kind) (line : List ℕ) → length line < 18 → entry_in kind line ≡ no_entry
unfolding entry_in month_entry friday_entry
short-entry kind line h = go (is_weekly kind)
  where
    go : (b : Bool) → cond b (friday_entry line) (month_entry line) ≡ no_entry
    go true = rw (ne_eqb (length line) 21 (λ e. omega arith)) refl
    go false = rw (ne_eqb (length line) 18 (λ e. omega arith)) refl

-- the cases of a line: before an open another line or an open; then a roll, a close, or another line
cases : ListingSoFar → Bool → Bool → Bool → Bool → Outcome → Outcome → Outcome → Option ListingEntry → ListingSoFar
cases s opened a b c x y z e = cond opened (cond a (after_call x) (cond b (after_call y) (after_entry s e))) (cond c (after_call z) (after_entry s no_entry))

case-entry : (s : ListingSoFar) (opened a b c : Bool) (x y z : Outcome) (e : Option ListingEntry) → e ≡ no_entry → (cases s opened a b c x y z e).entry ≡ no_entry
unfolding cases after_call after_entry
case-entry s true true b c x y z e h = refl
case-entry s true false true c x y z e h = refl
case-entry s true false false c x y z e h = h
case-entry s false a b true x y z e h = refl
case-entry s false a b false x y z e h = refl

case-bad : (s : ListingSoFar) (opened a b c : Bool) (x y z : Outcome) (e : Option ListingEntry) → a ≡ false → b ≡ false → c ≡ false
    → e ≡ no_entry → (cases s opened a b c x y z e).bad ≡ true
unfolding cases after_call after_entry
case-bad s true a b c x y z e p q r h = rw (p, q, h) refl
case-bad s false a b c x y z e p q r h = rw r refl

module _ (file : List ℕ) (s : ListingSoFar) where
  as-cases : (line : List ℕ) → read_listing_line file s line
      ≡ cases s s.opened (not s.begun && eqb (command_of line).letter 82) (not s.begun && eqb (command_of line).letter 67)
      (eqb (command_of line).letter 79)
      (roll_call s.table (command_of line).day) (close_call s.table (command_of line).day) (open_call file (command_of line).id (command_of line).day)
      (entry_in s.table.product.kind line)
  unfolding read_listing_line read_first cases
  as-cases line = refl

  -- an entry's line has 18 bytes or more
  pub entry-long : (line : List ℕ) → is_some (read_listing_line file s line).entry ≡ true → 18 ≤ length line
  entry-long line t = go (lt-or-ge (length line) 18)
    where
      none : length line < 18 → (read_listing_line file s line).entry ≡ no_entry
      none h = rw (as-cases line) (case-entry s _ _ _ _ _ _ _ _ (short-entry s.table.product.kind line h))

      go : (length line < 18) ⊎ (18 ≤ length line) → 18 ≤ length line
      go (inl h) = clash t (ap is_some (none h))
      go (inr h) = h

  no-letter : (command_of []).letter ≡ 0
  unfolding command_of command_at move_command move_form
  no-letter = refl

  empty-bad : (read_listing_line file s []).bad ≡ true
  empty-bad =
      rw (as-cases [])
      (case-bad s _ _ _ _ _ _ _ _ (rw no-letter (and-false (not s.begun))) (rw no-letter (and-false (not s.begun))) (rw no-letter refl)
      (short-entry s.table.product.kind [] (omega arith)))

  -- a line that is not bad has a byte
  pub some_byte : (line : List ℕ) → (read_listing_line file s line).bad ≡ false → 1 ≤ length line
  some_byte [] h = clash empty-bad h
  some_byte (byte ∷ rest) h = omega arith

-- ---- its numbers in a list

module _ (at : ℕ) (before : List ℕ) where
  -- a line without an entry puts no number in the list
  pub put-none : (entry : Option ListingEntry) → entry ≡ None → EntryPut entry at before before at
  unfolding entry_numbers
  put-none entry e = rw e record { is = append-nil-sym; to = omega arith; long = refl }
    where
      append-nil-sym : take at before ≡ take at before ++ []
      append-nil-sym = rw (append-nil (take at before)) refl

  -- a line with an entry puts its key and its day in the list
  pub put_both : (read : Option ListingEntry) (entry : ListingEntry) → read ≡ Some entry → at + 2 ≤ length before → (after : List ℕ)
      → after ≡ set (set before at entry.key) (at + 1) entry.day → EntryPut read at before after (at + 2)
  unfolding entry_numbers
  put_both read entry e h after q =
      record { is = rw e is; to = rw e refl; long = rw (q, length-set (set before at entry.key) (at + 1) entry.day) (length-set before at entry.key) }
    where
      next : at + 2 ≡ suc (at + 1)
      next = omega arith

      is : take (at + 2) after ≡ take at before ++ (entry.key ∷ entry.day ∷ [])
      is =
          ap (take (at + 2)) q
          ∙ ap (λ (n : ℕ). take n (set (set before at entry.key) (at + 1) entry.day)) next
          ∙ take-suc-set (set before at entry.key) (at + 1) entry.day (omega (arith, length-set before at entry.key))
          ∙ ap (λ (l : List ℕ). l ++ (entry.day ∷ []))
          (ap (λ (n : ℕ). take n (set before at entry.key)) (add-one at) ∙ take-suc-set before at entry.key (omega arith))
          ∙ append_assoc (take at before) (entry.key ∷ []) (entry.day ∷ [])

-- an entry of a line of n bytes and its line feed has two numbers for each 19 bytes at most
pub numbers-few : (entry : Option ListingEntry) (n : ℕ) → (is_some entry ≡ true → 18 ≤ n) → 19 * length (entry_numbers entry) ≤ 2 * (n + 1)
unfolding entry_numbers
numbers-few None n h = omega arith
numbers-few (Some entry) n h =
    let q : 18 ≤ n = h refl in
    omega arith
