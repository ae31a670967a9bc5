-- A line of any length, fed byte by byte, says what the definition says; a longer one than 255 bytes is a comment, or none of a list's.
-- Assumes nothing.
use mathlib.Core.Path.{◌≡◌, refl, ◌∙◌, sym, ap}
use mathlib.Core.Bool.{Bool, true, false, ◌&&◌, cond}
use mathlib.Core.List.{List, []}
use Prim.Native.Nat.{ℕ, ◌+◌, ◌-◌, ◌≤◌, ◌<◌}
use native.Mathlib.Omega.{arith}
use lib.Dec.{eqb}
use lib.ListN.{length, get_or, take, drop, length-drop}
use lib.Seq.{get_or-drop, get_or-take, take_all, take-take, length-take-le}
use borrow.Author.Tests.{eq-eqb, ne_eqb, le-ltb}
use Rattle.session_lines.specs.declared.Line.{Line}
use Rattle.session_lines.specs.CommandLines.{empty_line, fed}
use Rattle.file_text_lines.specs.declared.Entry.{Entry}
use Rattle.file_text_lines.specs.Entries.{other_entry, entry_at, entry_of, line_entry}
use Rattle.file_text_lines.proofs.EntryForms.{any-length}
use Rattle.delivery_lines.specs.NoticeLines.{trimmed, mark_length, unmarked}
use Rattle.delivery_items.specs.declared.LongLine.{LongLine}
use Rattle.delivery_items.specs.Items.{empty_long, fed_long}
use Rattle.delivery_items.proofs.LongItems.{Holds, all, none}
use Rattle.file_text_stripped.specs.Said.{nothing_entry, text_said, bare_text, line_said, shown_text, held_said}

-- ---- the code's cases

-- an empty text says nothing
pub said-empty : (text : List ℕ) → length text ≡ 0 → nothing_entry ≡ text_said text
unfolding text_said
said-empty text e = rw (eq-eqb (length text) 0 e) refl

module _ (text : List ℕ) (some : length text ≡ 0 → ⊥) where
  -- a text that begins with # says nothing
  pub said-comment : get_or text 0 0 ≡ 35 → nothing_entry ≡ text_said text
  unfolding text_said
  said-comment e = rw (ne_eqb (length text) 0 some, eq-eqb (get_or text 0 0) 35 e) refl

  -- a text that is not empty and does not begin with # says the entry of its line
  pub said-entry : (get_or text 0 0 ≡ 35 → ⊥) → (l : Line) → l ≡ empty_line → (m : Line) → m ≡ fed l text → (e : Entry) → e ≡ line_entry m → e ≡ text_said text
  unfolding text_said
  said-entry n l p m f e q =
      rw (ne_eqb (length text) 0 some, ne_eqb (get_or text 0 0) 35 n) (q ∙ ap line_entry (f ∙ ap (λ (x : Line). fed x text) p) ∙ any-length text)

module _ (first : Bool) (text : List ℕ) where
  -- the first line's text is without the byte order mark that it may begin with
  pub bare-first : first ≡ true → (n : ℕ) → n ≡ mark_length text → take (length text - n) (drop n text) ≡ bare_text first text
  unfolding bare_text unmarked
  bare-first f n e = rw (f, e) (take_all (length text - mark_length text) (drop (mark_length text) text) (omega (arith, length-drop (mark_length text) text)))

  -- the text of a line that is not the first stays as it is
  pub bare-other : first ≡ false → text ≡ bare_text first text
  unfolding bare_text
  bare-other f = rw f refl

module _ (l : LongLine) (n : ℕ) (e : take n l.bytes ≡ take l.length l.bytes) where
  -- of a line with a byte after its first 255 that is no blank, all bytes held are shown
  pub shown-over : l.over ≡ true → take n l.bytes ≡ shown_text l
  unfolding shown_text
  shown-over o = rw o e

  -- of a line with only blanks after its first 255 bytes, these without the blanks at their end are shown
  pub shown-whole : n ≤ 255 → length l.bytes ≡ 255 → l.over ≡ false → (m : ℕ) → m ≤ length (take n l.bytes)
      → take m (take n l.bytes) ≡ trimmed (take n l.bytes) → (m ≤ 255) × (take m l.bytes ≡ shown_text l)
  unfolding shown_text
  shown-whole w r o m h t =
      let k : m ≤ n = omega (arith, length-take-le n l.bytes (omega arith)) in
      (omega arith, rw o (sym (take-take m n l.bytes k) ∙ t ∙ ap trimmed e))

-- a line that is held says what its text shown says, without a byte order mark where it is the first
pub said-held : (first : Bool) (l : LongLine) (n : ℕ) → take n l.bytes ≡ shown_text l → (b : List ℕ) → b ≡ bare_text first (take n l.bytes) → (e : Entry)
    → e ≡ text_said b → e ≡ held_said first l
unfolding held_said
said-held first l n s b p e q = q ∙ ap text_said (p ∙ ap (bare_text first) s)

-- ---- a long line

-- one of 64 bytes or more is a comment or none of a list's
long-entry : (text : List ℕ) → 64 ≤ length text → entry_of text ≡ other_entry
unfolding entry_of entry_at
long-entry text h = rw (le-ltb (length text) 64 h) refl

long-said : (text : List ℕ) → 64 ≤ length text → text_said text ≡ cond (eqb (get_or text 0 0) 35) nothing_entry other_entry
unfolding text_said
long-said text h = rw (ne_eqb (length text) 0 (λ e. omega arith), long-entry text h) refl

-- the mark is at most three bytes
mark-most : (text : List ℕ) → mark_length text ≤ 3
unfolding mark_length
mark-most text = go (eqb (get_or text 0 0) 239 && (eqb (get_or text 1 0) 187 && eqb (get_or text 2 0) 191))
  where
    go : (b : Bool) → cond b 3 0 ≤ 3
    go true = omega arith
    go false = omega arith

mark-taken : (text : List ℕ) → mark_length (take 255 text) ≡ mark_length text
unfolding mark_length
mark-taken text = rw (get_or-take 255 text 0 0 (omega arith), get_or-take 255 text 1 0 (omega arith), get_or-take 255 text 2 0 (omega arith)) refl

bare-long : (first : Bool) (text : List ℕ) → length text ≤ length (bare_text first text) + 3
unfolding bare_text unmarked
bare-long true text = omega (arith, length-drop (mark_length text) text, mark-most text)
bare-long false text = omega arith

bare-byte : (first : Bool) (text : List ℕ) → get_or (bare_text first (take 255 text)) 0 0 ≡ get_or (bare_text first text) 0 0
unfolding bare_text unmarked
bare-byte true text =
    rw (mark-taken text, get_or-drop (mark_length text) (take 255 text) 0 0, get_or-drop (mark_length text) text 0 0)
    (get_or-take 255 text (mark_length text + 0) 0 (omega (arith, mark-most text)))
bare-byte false text = get_or-take 255 text 0 0 (omega arith)

long_same : (first : Bool) (text : List ℕ) → 255 < length text → text_said (bare_text first (take 255 text)) ≡ text_said (bare_text first text)
long_same first text h =
    let n : length (take 255 text) ≡ 255 = length-take-le 255 text (omega arith) in
    long-said (bare_text first (take 255 text)) (omega (arith, bare-long first (take 255 text)))
    ∙ ap (λ (b : ℕ). cond (eqb b 35) nothing_entry other_entry) (bare-byte first text)
    ∙ sym (long-said (bare_text first text) (omega (arith, bare-long first text)))

-- ---- a line of any length

held-is : (first : Bool) (l : LongLine) (line : List ℕ) → Holds l line → held_said first l ≡ line_said first line
unfolding held_said line_said shown_text
held-is first l line h = go l.over refl
  where
    go : (b : Bool) → l.over ≡ b
        → text_said (bare_text first (cond b (take l.length l.bytes) (trimmed (take l.length l.bytes)))) ≡ text_said (bare_text first (trimmed line))
    go true o =
        let p = h.past o in
        ap (λ (t : List ℕ). text_said (bare_text first t)) (h.bytes ∙ sym p.1) ∙ long_same first (trimmed line) p.0
    go false o = ap (λ (t : List ℕ). text_said (bare_text first t)) (ap trimmed h.bytes ∙ h.whole o)

-- a line of any length, fed byte by byte to an empty line, says what the definition says
pub held_any : (first : Bool) (line : List ℕ) → held_said first (fed_long empty_long line) ≡ line_said first line
held_any first line = held-is first (fed_long empty_long line) line (all empty_long [] line none)
