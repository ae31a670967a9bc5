-- An input line by line: what is printed of the lines that are left is what is printed of all.
-- Assumes nothing.
use mathlib.Core.Path.{◌≡◌, refl, sym, ap, ◌∙◌}
use mathlib.Core.Bool.{Bool, true, false, ◌&&◌, ◌||◌}
use mathlib.Core.List.{List, [], ◌++◌}
use Prim.Native.Nat.{ℕ, ◌+◌, ◌-◌, ◌*◌, ◌≤◌, ◌<◌}
use native.Mathlib.Numerals.{add-one}
use native.Mathlib.Omega.{arith}
use lib.Dec.{leb}
use Rattle.std.specs.Prelude.{is_some}
use lib.ListN.{length, take, drop}
use Rattle.session_lines.specs.CommandLines.{lines_from}
use Rattle.session_lines.specs.BytePlaces.{ByteFrom}
use Rattle.confirm_lines.specs.declared.ListingSoFar.{ListingSoFar}
use Rattle.confirm_lines.specs.ListingLines.{no_listing, read_listing_line}
use Rattle.delivery_notices.proofs.NoticeEnds.{lines_none, line-more, line-length, is_last}
use Rattle.confirm_inputs.specs.ConfirmInputs.{bad_input_text, refused_text, end_text, entry_numbers, after_line, input_lines_text}
use Rattle.confirm_inputs.specs.InputReading.{EntryPut}
use Rattle.confirm_inputs.proofs.VerdictTexts.{after-bad, after-refused, after-good}
use Rattle.confirm_inputs.proofs.EntryLines.{entry-long, some_byte, numbers-few}

-- after some lines of a text: it goes on at `from`, `number` lines are behind, and the first `count` numbers of the list are the listing's
pub record Going (long : Bool) (file text first list : List ℕ) (s : ListingSoFar) (from count number : ℕ) : Type 0 where
  -- the text for the lines left, from here, is the text for the whole input
  pub rest : input_lines_text long file number s (take count list) (lines_from [] (drop from text)) ≡ input_lines_text long file 0 no_listing [] (lines_from [] text)
  -- the list keeps its length
  pub long-list : length list ≡ length first
  -- the place is at most one past the end of the text
  pub within : from ≤ length text + 1
  -- every two numbers of the list have taken at least 19 bytes of the text
  pub few : 19 * count ≤ 2 * from
  -- every line has taken at least 2 bytes of the text
  pub lines : 2 * number ≤ from

-- the state before the first line
pub begins : (long : Bool) (file text list : List ℕ) (s : ListingSoFar) → s ≡ no_listing → Going long file text list list s 0 0 0
begins long file text list s e = record { rest = rw e refl; long-list = refl; within = omega arith; few = omega arith; lines = omega arith }

module _ (long : Bool) (file text first list : List ℕ) (s : ListingSoFar) (from count number : ℕ)
    (g : Going long file text first list s from count number) where
  -- the list has room for an entry
  pub room : from < length text → length text ≤ 65537 → 6900 ≤ length first → count + 2 ≤ length list
  room h l r = omega (arith, g.few, g.long-list)

  -- all lines are read
  pub all_read : length text ≤ from → end_text s (take count list) ≡ input_lines_text long file 0 no_listing [] (lines_from [] text)
  unfolding input_lines_text
  all_read h = sym (rw (lines_none from text h) refl) ∙ g.rest

  -- a list of 6900 places has room for the numbers of a text of at most 65537 bytes
  pub count-few : length text ≤ 65537 → 6900 ≤ length first → count ≤ length list
  count-few l r = omega (arith, g.few, g.within, g.long-list)

  module _ (h : from < length text) (end : ℕ) (e : ByteFrom 10 text from end) (cut : Bool) (c : cut ≡ (long && leb (length text) (end + 1)))
      (r : ListingSoFar) (q : r ≡ read_listing_line file s (take (end - from) (drop from text))) where
    abbrev onward : List ℕ
    onward = input_lines_text long file (number + 1) r (take count list ++ entry_numbers r.entry) (lines_from [] (drop (end + 1) text))

    one_line : input_lines_text long file number s (take count list) (lines_from [] (drop from text)) ≡ after_line r cut (number + 1) onward
    unfolding input_lines_text
    one_line =
        rw (line-more text from end h e, add-one number, q, c, is_last text (end + 1)) refl

    -- a line that is bad or cut off ends the reading with the text of a bad line and its number
    pub ends-bad : (r.bad || cut) ≡ true → bad_input_text (number + 1) ≡ input_lines_text long file 0 no_listing [] (lines_from [] text)
    ends-bad b = sym (one_line ∙ after-bad r cut (number + 1) onward b) ∙ g.rest

    module _ (good : (r.bad || cut) ≡ false) where
      -- a refused call ends the reading with the text of its refusal
      pub ends-refused : (r.refusal ≡ 0 → ⊥) → refused_text r.refusal ≡ input_lines_text long file 0 no_listing [] (lines_from [] text)
      ends-refused n = sym (one_line ∙ after-refused r cut (number + 1) onward good n) ∙ g.rest

      not-bad : (b : Bool) → (b || cut) ≡ false → b ≡ false
      not-bad true z = z
      not-bad false z = refl

      -- the state after one more good line, its entry put in the list
      pub goes_on : r.refusal ≡ 0 → (after : List ℕ) (next : ℕ) → EntryPut r.entry count list after next
          → Going long file text first after r (end + 1) next (number + 1)
      goes_on z after next p =
          record {
            rest = ap (λ (l : List ℕ). input_lines_text long file (number + 1) r l (lines_from [] (drop (end + 1) text))) p.is
                ∙ sym (after-good r cut (number + 1) onward good z) ∙ sym one_line ∙ g.rest;
            long-list = p.long ∙ g.long-list;
            within = omega (arith, e.within);
            few = omega (arith, g.few, p.to, e.on, numbers-few r.entry (end - from) bytes);
            lines = omega (arith, g.lines, e.on, some, line-length text from end h e);
          }
        where
          some : 1 ≤ length (take (end - from) (drop from text))
          some = some_byte file s (take (end - from) (drop from text)) (ap (λ (x : ListingSoFar). x.bad) (sym q) ∙ not-bad r.bad good)

          bytes : is_some r.entry ≡ true → 18 ≤ end - from
          bytes t =
              omega (
                arith,
                entry-long file s (take (end - from) (drop from text)) (ap (λ (x : ListingSoFar). is_some x.entry) (sym q) ∙ t),
                line-length text from end h e,
              )
