-- What is held after some bytes of a text is read on part by part; at its end the file and what is told are those of the definitions.
-- Assumes nothing.
use mathlib.Core.Path.{◌≡◌, refl, sym, ap, ◌∙◌}
use mathlib.Core.Bool.{Bool, true, false, ◌&&◌, ◌||◌, cond}
use mathlib.Core.List.{List, [], ◌++◌, append-nil, append_assoc}
use Prim.Native.Nat.{ℕ, ◌+◌, ◌%◌, ◌^◌, ◌≤◌}
use native.Mathlib.Omega.{arith}
use lib.Dec.{eqb}
use lib.ListN.{length, take, drop, length-append}
use lib.Seq.{length-take-le, take-append_seam}
use borrow.Author.Tests.{eqb-true}
use Rattle.questions.specs.Questions.{first_no, answer}
use Rattle.calendar.specs.declared.Calendar.{Calendar}
use Rattle.file_draft.specs.Drafts.{file_of, write_asks}
use Rattle.file_write.specs.Writing.{write_call, buffer_after}
use Rattle.session_lines.specs.declared.Line.{Line}
use Rattle.session_lines.specs.CommandLines.{empty_line, fed}
use Rattle.session_lines.proofs.LineFeeding.{fed-is}
use Rattle.delivery_items.specs.declared.LongLine.{LongLine}
use Rattle.delivery_items.specs.Items.{empty_long}
use Rattle.file_text_print.specs.Contents.{LineWith}
use Rattle.file_text_faults.specs.declared.Fault.{Fault}
use Rattle.file_text_faults.specs.declared.Faults.{Faults}
use Rattle.file_text_faults.specs.Faults.{no_fault, fault_kept, Numbered, first_fault, first_idle}
use Rattle.file_text_read.specs.declared.ListTaken.{ListTaken}
use Rattle.file_text_read.specs.declared.Composed.{Composed}
use Rattle.file_text_read.specs.Lists.{nothing_taken, numbered_lines, content_of, content_in, PartIn, EndIn, idle_day, composed, composed_file, SaysWhere}
use Rattle.file_text_read.proofs.ListLines.{whole-list}
use Rattle.file_text_read.proofs.Where.{says-where}
use Rattle.file_text_told.specs.ComposeTexts.{bad_entry_text, at_line_text, from_text, at_product_text, where_text, refused_file_text, said_text}
use Rattle.file_text_told.specs.Whole.{text_content, text_refusal, compose_text, compose_told, ReadTo, OfInput, ComposeHandedOut}
use Rattle.file_text_told.proofs.Lengths.{told-short}

-- ---- part by part

-- before the first byte
pub nothing_read : (buffer : List ℕ) (t : ListTaken) (l : LongLine) (n : ℕ) → length buffer ≡ 65536 → t ≡ nothing_taken → l ≡ empty_long → n ≡ 0
    → ReadTo t l buffer n
nothing_read buffer t l n room p q z =
    record { input = []; count = omega (arith, z); room = room; is = λ rest. rw (p, q) (rw room at (whole-list buffer rest)) }

-- the first k bytes of a buffer more
pub read-on : (t : ListTaken) (l : LongLine) (k : ℕ) (part before after : List ℕ) (r : ListTaken) (next : LongLine) (n m : ℕ) → ReadTo t l before n
    → k ≤ length part
    → PartIn t l (take k part) before after r next → m ≡ (n + k) % 2 ^ 64 → ReadTo r next after m
read-on t l k part before after r next n m s h p e =
    record {
      input = s.input ++ take k part;
      count = omega (arith, e, s.count, length-append s.input (take k part), length-take-le k part h);
      room = p.buffer.long ∙ s.room;
      is = λ rest. sym (rw s.room at (p.is rest)) ∙ s.is (take k part ++ rest) ∙ ap (content_of 65536) (sym (append_assoc s.input (take k part) rest));
    }

-- ---- what is told

-- the line that is kept for a refusal is the first at fault for it
module _ (s : Faults) (ls : List Numbered) (cal : Calendar) (h5 : fault_kept s 5 ≡ first_fault 5 ls) (h7 : fault_kept s 7 ≡ first_fault 7 ls)
    (h8 : fault_kept s 8 ≡ first_fault 8 ls) (r : ℕ) where
  abbrev line_at : Fault → List ℕ
  line_at f = at_line_text f.line ++ at_product_text r f.id

  kept : (k : ℕ) → r ≡ k → fault_kept s k ≡ first_fault k ls → line_at (fault_kept s r) ≡ line_at (first_fault r ls)
  kept k e h = ap (λ (f : Fault). at_line_text f.line ++ at_product_text r f.id) (ap (fault_kept s) e ∙ h ∙ ap (λ (q : ℕ). first_fault q ls) (sym e))

  where-same : where_text r (fault_kept s r) (idle_day r cal) ≡ where_text r (first_fault r ls) (first_idle cal)
  unfolding where_text idle_day
  where-same = go (eqb r 6) (eqb r 5) refl (eqb r 7) refl (eqb r 8) refl
    where
      go : (six five : Bool) → eqb r 5 ≡ five → (seven : Bool) → eqb r 7 ≡ seven → (eight : Bool) → eqb r 8 ≡ eight
          → cond six (from_text (cond six (first_idle cal) 0)) (cond (five || (seven || eight)) (line_at (fault_kept s r)) [])
          ≡ cond six (from_text (first_idle cal)) (cond (five || (seven || eight)) (line_at (first_fault r ls)) [])
      go true five p seven q eight e = refl
      go false true p seven q eight e = kept 5 (eqb-true r 5 p) h5
      go false false p true q eight e = kept 7 (eqb-true r 7 q) h7
      go false false p false q true e = kept 8 (eqb-true r 8 e) h8
      go false false p false q false e = refl

  no_same : refused_file_text r (fault_kept s r) (idle_day r cal) ≡ refused_file_text r (first_fault r ls) (first_idle cal)
  unfolding refused_file_text
  no_same = rw where-same refl

-- the answer to what a text says
module _ (input : List ℕ) where
  abbrev cal : Calendar
  cal = (text_content input).calendar

  abbrev records : List ℕ
  records = (text_content input).records

  abbrev good : Composed
  good =
      record {
        bad = 0;
        refusal = (write_call cal records 65536).refusal;
        fault = fault_kept (text_content input).faults (write_call cal records 65536).refusal;
        day = idle_day (write_call cal records 65536).refusal cal;
        length = (write_call cal records 65536).value;
      }

  abbrev bad : Composed
  bad = record { bad = (text_content input).bad; refusal = 0; fault = no_fault; day = 0; length = 0 }

  abbrev told_of : ℕ → List ℕ
  told_of r = cond (eqb r 0) [] (refused_file_text r (first_fault r (numbered_lines input)) (first_idle cal))

  refusal_is : (write_call cal records 65536).refusal ≡ text_refusal input
  unfolding write_call answer text_refusal
  refusal_is = refl

  places : (text_content input).bad ≡ 0 → SaysWhere 65536 input
  unfolding text_content
  places h = says-where 65536 input h

  same_place : (text_content input).bad ≡ 0 → (r : ℕ)
      → refused_file_text r (fault_kept (text_content input).faults r) (idle_day r cal) ≡ refused_file_text r (first_fault r (numbered_lines input)) (first_idle cal)
  unfolding text_content
  same_place h r =
      let w : SaysWhere 65536 input = places h in
      no_same (content_of 65536 input).faults (numbered_lines input) (content_of 65536 input).calendar w.line5 w.line7 w.line8 r

  told-good : (text_content input).bad ≡ 0 → said_text good ≡ told_of (text_refusal input)
  unfolding said_text
  told-good h = rw refusal_is (ap (λ (t : List ℕ). cond (eqb (text_refusal input) 0) [] t) (same_place h (text_refusal input)))

  told-bad : eqb (text_content input).bad 0 ≡ false → said_text bad ≡ bad_entry_text (text_content input).bad
  unfolding said_text
  told-bad q = rw q refl

  -- what is told
  pub told_is : said_text (composed (text_content input) 65536) ≡ compose_told input
  unfolding composed compose_told
  told_is = go (eqb (text_content input).bad 0) refl
    where
      go : (b : Bool) → eqb (text_content input).bad 0 ≡ b
          → said_text (cond b good bad) ≡ cond b (told_of (text_refusal input)) (bad_entry_text (text_content input).bad)
      go true q = told-good (eqb-true (text_content input).bad 0 q)
      go false q = told-bad q

  -- ---- the file

  module _ (file : List ℕ) (room : length file ≡ 65536) where
    file-good : take (write_call cal records 65536).value (buffer_after cal records file) ≡ cond (eqb (text_refusal input) 0) (file_of cal records) []
    unfolding write_call answer buffer_after text_refusal
    file-good = rw room (go (eqb (first_no (write_asks cal records 65536)) 0))
      where
        go : (b : Bool)
            → take (cond b (length (file_of cal records)) 0) (cond b (file_of cal records ++ drop (length (file_of cal records)) file) file)
            ≡ cond b (file_of cal records) []
        go true = take-append_seam (file_of cal records) (drop (length (file_of cal records)) file)
        go false = refl

    -- the bytes of the buffer up to the length that is given back are the file of the definition
    pub file-is : take (composed (text_content input) 65536).length (composed_file (text_content input) file) ≡ compose_text input
    unfolding composed composed_file compose_text
    file-is = go (eqb (text_content input).bad 0)
      where
        go : (b : Bool)
            → take (cond b good bad).length (cond b (buffer_after cal records file) file) ≡ cond (b && eqb (text_refusal input) 0) (file_of cal records) []
        go true = file-good
        go false = refl

-- ---- the end

module _ (t : ListTaken) (l : LongLine) (before after : List ℕ) (r : ListTaken) (n : ℕ) (s : ReadTo t l before n) (e : EndIn t l before after r) where
  all_said : content_in r after ≡ text_content s.input
  unfolding text_content
  all_said = rw s.room at e.is ∙ s.is [] ∙ ap (content_of 65536) (append-nil s.input)

  -- the file and what is told of a list that was read to its end, which a line holds
  module _ (file file' : List ℕ) (c : Composed) (room : length file ≡ 65536) (p : c ≡ composed (content_in r after) (length file))
      (q : file' ≡ composed_file (content_in r after) file) (line : Line) (made : LineWith empty_line (said_text c) line) where
    held : line ≡ fed empty_line (compose_told s.input)
    held = made.is ∙ ap (fed empty_line) (ap said_text (p ∙ rw (all_said, room) refl) ∙ told_is s.input)

    told : (line.length ≡ length (compose_told s.input)) × (take line.length line.bytes ≡ compose_told s.input)
    told = rw held (fed-is (compose_told s.input) (told-short s.input))

    -- the file and what is told at the end are those of an input of which as many bytes were counted
    pub of-input : OfInput n (take c.length file') (take line.length line.bytes)
    of-input = record { input = s.input; count = s.count; file = rw (p, q, all_said, room) (file-is s.input file room); said = told.1 }

    -- the line that holds what is told has at most 64 bytes
    pub line-short : line.length ≤ 64
    line-short = omega (arith, told.0, told-short s.input)

-- what was handed out
pub handed : (n : ℕ) (text told : List ℕ) → OfInput n text told → (taken : Bool) (bytes k : ℕ) → (taken ≡ true → bytes ≡ length text)
    → k % 2 ^ 64 ≡ length told % 2 ^ 64
    → ComposeHandedOut n taken bytes k
handed n text told o taken bytes k p q =
    record { input = o.input; count = o.count; file = λ e. p e ∙ ap length o.file; said = q ∙ ap (λ t. length t % 2 ^ 64) o.said }
