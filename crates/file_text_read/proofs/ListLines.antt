-- A list line by line and part by part, and what the definition says of the whole.
-- Assumes nothing.
use mathlib.Core.Path.{◌≡◌, refl, sym, ◌∙◌}
use mathlib.Core.Bool.{Bool, true, false, ◌||◌, cond}
use mathlib.Core.List.{List, [], ◌∷◌, ◌++◌}
use Prim.Native.Nat.{ℕ, ◌+◌, ◌≤◌, ◌<◌}
use native.Mathlib.Numerals.{add-one}
use native.Mathlib.Omega.{arith}
use lib.Dec.{eqb, ltb}
use lib.ListN.{length, get_or, take, drop}
use lib.Seq.{drop-cons, drop-length}
use borrow.Author.Tests.{eq-eqb, ne_eqb, eqb-true, eqb-false, ltb-false}
use Rattle.std.specs.Prelude.{Result}
use Rattle.questions.specs.Questions.{first_no, answer}
use Rattle.questions.specs.declared.Refusal.{Refusal}
use Rattle.calendar.specs.declared.Calendar.{Calendar}
use Rattle.file_draft.specs.Drafts.{file_of, write_asks}
use Rattle.file_draft.proofs.DraftBlocks.{file-length}
use Rattle.file_draft.proofs.DraftQuestions.{writable, counted}
use Rattle.file_write.specs.Writing.{write_call, write_answer, buffer_after}
use Rattle.session_lines.specs.CommandLines.{lines_from}
use Rattle.session_lines.specs.InputRest.{rest_over}
use Rattle.file_text_lines.specs.declared.Entry.{Entry}
use Rattle.delivery_items.specs.declared.LongLine.{LongLine}
use Rattle.delivery_items.specs.Items.{empty_long, lengthened, fed_long}
use Rattle.delivery_items.proofs.LongItems.{any-empty, fed-more}
use Rattle.file_text_stripped.specs.Said.{line_said, held_said}
use Rattle.file_text_stripped.proofs.LineHeld.{held_any}
use Rattle.file_text_faults.specs.declared.Fault.{Fault}
use Rattle.file_text_faults.specs.declared.Faults.{Faults}
use Rattle.file_text_faults.specs.Faults.{no_fault, faults_after, fault_kept}
use Rattle.file_text_read.specs.declared.ListTaken.{ListTaken}
use Rattle.file_text_read.specs.declared.Composed.{Composed}
use Rattle.file_text_read.specs.Lists.{Content, no_content, nothing_taken, entry_fits, calendar_after_entry, records_after, next_line, line_counted, entry_taken}
use Rattle.file_text_read.specs.Lists.{line_taken, lines_taken, numbered_from, numbered_lines, content_of, rest_taken, part_taken, line_after, content_in, Grown}
use Rattle.file_text_read.specs.Lists.{line_told, RecordsIn, EntryIn, ListLineIn, PartIn, EndIn, idle_day, composed, composed_file}
use Rattle.file_text_read.proofs.RecordsStored.{stays, grows-on}

-- ---- one line more

-- a line that says something
module _ (t : ListTaken) (before : List ℕ) (e : Entry) (n : ℕ) (p : n ≡ next_line t.lines) (b : Bool)
    (s : b ≡ entry_fits t.begun t.calendar.cover t.seeded e) where
  -- a line that says something and stands where it may not is counted as the bad line, and the buffer stays as it is
  pub taken-bad : b ≡ false → (r : ListTaken) → r ≡ line_told t n → EntryIn t e before before r
  unfolding entry_taken line_told
  taken-bad f r q = rw q (record { is = rw (← s, f, p) refl; buffer = stays before t.size })

  -- a line that says something and stands where it may changes the calendar, the records and the faults as stated
  pub taken-good : b ≡ true → (faults : Faults) → faults ≡ faults_after t.faults n e → (cal : Calendar) → cal ≡ calendar_after_entry t.calendar e
      → (after : List ℕ) (size : ℕ)
      → RecordsIn before after t.size size (records_after (length before) (take t.size before) e)
      → EntryIn t e before after (record {
        begun = true;
        calendar = cal;
        seeded = t.seeded || eqb e.letter 83;
        size = size;
        faults = faults;
        lines =
            n;
        bad = 0;
      })
  unfolding entry_taken
  taken-good f faults k cal g after size r = record { is = rw (← s, f, k, p, g, r.is) refl; buffer = r.buffer }

-- any line
module _ (t : ListTaken) (l : LongLine) (before : List ℕ) where
  -- after a bad line no further line changes the state or the buffer
  pub taken-after-bad : (t.bad ≡ 0 → ⊥) → ListLineIn t l before before t
  unfolding line_taken
  taken-after-bad n = record { is = rw (ne_eqb t.bad 0 n) refl; buffer = stays before t.size }

  module _ (z : t.bad ≡ 0) (e : Entry) (q : e ≡ held_said (eqb t.lines 0) l) where
    -- a line that says nothing is only counted, and the buffer stays as it is
    pub taken-nothing : e.letter ≡ 35 → (r : ListTaken) → r ≡ line_told t 0 → ListLineIn t l before before r
    unfolding line_taken line_told
    taken-nothing c r p = rw p (record { is = rw (eq-eqb t.bad 0 z, ← q, eq-eqb e.letter 35 c) refl; buffer = stays before t.size })

    -- a line that says something is taken as its entry is
    pub taken-entry : (e.letter ≡ 35 → ⊥) → (after : List ℕ) (r : ListTaken) → EntryIn t e before after r → ListLineIn t l before after r
    unfolding line_taken
    taken-entry c after r p = record { is = rw (eq-eqb t.bad 0 z, ← q, ne_eqb e.letter 35 c) p.is; buffer = p.buffer }

-- ---- part by part

module _ (room : ℕ) (c : Content) (l : LongLine) where
  rest-byte : (byte : ℕ) (rest : List ℕ) → (byte ≡ 10 → ⊥) → rest_taken room c l (byte ∷ rest) ≡ rest_taken room c (lengthened l byte) rest
  unfolding rest_taken rest_over
  rest-byte byte rest n = rw (ne_eqb byte 10 n) refl

  part-byte : (byte : ℕ) (rest : List ℕ) → (byte ≡ 10 → ⊥) → part_taken room c l (byte ∷ rest) ≡ part_taken room c (lengthened l byte) rest
  unfolding part_taken
  part-byte byte rest n = rw (ne_eqb byte 10 n) refl

  part-line : (byte : ℕ) (rest : List ℕ) → byte ≡ 10
      → part_taken room c l (byte ∷ rest) ≡ part_taken room (line_taken room c (held_said (eqb c.lines 0) l)) empty_long rest
  unfolding part_taken
  part-line byte rest e = rw (eq-eqb byte 10 e) refl

  rest-line : (byte : ℕ) (rest : List ℕ) → byte ≡ 10
      → rest_taken room c l (byte ∷ rest) ≡ rest_taken room (line_taken room c (held_said (eqb c.lines 0) l)) empty_long rest
  unfolding rest_taken rest_over
  rest-line byte rest e = rw (eq-eqb byte 10 e) refl

module _ (l : LongLine) (byte : ℕ) (rest : List ℕ) where
  begun-byte : (byte ≡ 10 → ⊥) → line_after l (byte ∷ rest) ≡ line_after (lengthened l byte) rest
  unfolding line_after
  begun-byte n = rw (ne_eqb byte 10 n) refl

  begun-line : byte ≡ 10 → line_after l (byte ∷ rest) ≡ line_after empty_long rest
  unfolding line_after
  begun-line e = rw (eq-eqb byte 10 e) refl

-- after the first i bytes of a part
pub record Going (t : ListTaken) (l : LongLine) (part before : List ℕ) (now : ListTaken) (line : LongLine) (buffer : List ℕ) (i : ℕ) : Type 0 where
  -- no more bytes are read than the part has
  pub within : i ≤ length part
  -- so far the records in the buffer are no fewer than before, and nothing is changed after them
  pub grown : Grown before buffer t.size now.size
  -- what the lines that end in the part say is what the bytes left of it say after those read
  pub said : part_taken (length before) (content_in t before) l part ≡ part_taken (length before) (content_in now buffer) line (drop i part)
  -- the line begun after the part is the one begun after the bytes left of it
  pub begun : line_after l part ≡ line_after line (drop i part)
  -- with any rest of the list, the whole says what the bytes left and the rest say after those read
  pub is : (rest : List ℕ) → rest_taken (length before) (content_in t before) l (part ++ rest)
      ≡ rest_taken (length before) (content_in now buffer) line (drop i part ++ rest)

-- before the first byte of a part the state, the line begun and the buffer are as they were
pub begins : (t : ListTaken) (l : LongLine) (part before : List ℕ) → Going t l part before t l before 0
begins t l part before = record { within = omega arith; grown = stays before t.size; said = refl; begun = refl; is = λ rest. refl }

module _ (t : ListTaken) (l : LongLine) (part before : List ℕ) (now : ListTaken) (line : LongLine) (buffer : List ℕ) (i : ℕ)
    (g : Going t l part before now line buffer i) where
  module _ (h : i < length part) where
    part-next : (rest : List ℕ) → drop i part ++ rest ≡ get_or part i 0 ∷ (drop (i + 1) part ++ rest)
    part-next rest = rw (drop-cons part i 0 h, add-one i) refl

    one_more : drop i part ≡ get_or part i 0 ∷ drop (i + 1) part
    one_more = rw (drop-cons part i 0 h, add-one i) refl

    -- a byte that is no line feed lengthens the line begun
    pub goes-byte : (get_or part i 0 ≡ 10 → ⊥) → (next : LongLine) → next ≡ lengthened line (get_or part i 0) → Going t l part before now next buffer (i + 1)
    goes-byte n next e =
        record {
          within = omega arith;
          grown = g.grown;
          said = g.said ∙ rw (one_more, e) (part-byte (length before) (content_in now buffer) line (get_or part i 0) (drop (i + 1) part) n);
          begun = g.begun ∙ rw (one_more, e) (begun-byte line (get_or part i 0) (drop (i + 1) part) n);
          is = λ rest. g.is rest ∙ rw (part-next rest, e)
              (rest-byte (length before) (content_in now buffer) line (get_or part i 0) (drop (i + 1) part ++ rest) n);
        }

    -- a line feed ends the line begun, which is taken, and an empty line is begun
    pub goes-line : get_or part i 0 ≡ 10 → (after : List ℕ) (r : ListTaken) → ListLineIn now line buffer after r → (next : LongLine) → next ≡ empty_long
        → Going t l part before r next after (i + 1)
    goes-line e after r s next q =
        let room : length buffer ≡ length before = g.grown.long in
        record {
          within = omega arith;
          grown = grows-on g.grown s.buffer;
          said = g.said ∙ rw (one_more, q, s.is, room) (part-line (length before) (content_in now buffer) line (get_or part i 0) (drop (i + 1) part) e);
          begun = g.begun ∙ rw (one_more, q) (begun-line line (get_or part i 0) (drop (i + 1) part) e);
          is = λ rest. g.is rest ∙ rw (part-next rest, q, s.is, room)
              (rest-line (length before) (content_in now buffer) line (get_or part i 0) (drop (i + 1) part ++ rest) e);
        }

  -- once all bytes are read, the state, the line begun and the buffer are those after the part
  pub ends : length part ≤ i → PartIn t l part before buffer now line
  unfolding part_taken line_after
  ends h =
      let e : i ≡ length part = omega (arith, g.within) in
      record {
        said = sym (g.said ∙ rw (e, drop-length part) refl);
        begun = sym (g.begun ∙ rw (e, drop-length part) refl);
        is = λ rest. g.is rest ∙ rw (e, drop-length part) refl;
        buffer = g.grown;
      }

-- ---- the end of the list

module _ (t : ListTaken) (l : LongLine) (before : List ℕ) where
  -- at the end of the list an empty line begun changes nothing
  pub end_none : l.length ≡ 0 → EndIn t l before before t
  unfolding rest_taken rest_over
  end_none e = record { is = rw (eq-eqb l.length 0 e) refl; buffer = stays before t.size }

  -- at the end of the list a line begun that is not empty is taken
  pub end_line : (l.length ≡ 0 → ⊥) → (after : List ℕ) (r : ListTaken) → ListLineIn t l before after r → EndIn t l before after r
  unfolding rest_taken rest_over
  end_line n after r s = record { is = rw (ne_eqb l.length 0 n) s.is; buffer = s.buffer }

-- ---- the whole

-- there is a next line
pub next-some : (n : ℕ) → eqb (next_line n) 0 ≡ false
unfolding next_line
next-some n = ne_eqb (cond (ltb n 999999999) (n + 1) n) 0 (go (ltb n 999999999) refl)
  where
    go : (b : Bool) → ltb n 999999999 ≡ b → cond b (n + 1) n ≡ 0 → ⊥
    go true q e = omega arith
    go false q e = omega (arith, ltb-false n 999999999 q)

-- a bad line was counted
abbrev Numbering : Content → Type 0
Numbering c = (c.bad ≡ 0 → ⊥) → eqb c.lines 0 ≡ false

counted_next : (room : ℕ) (c : Content) (e : Entry) → Numbering c → eqb (line_taken room c e).lines 0 ≡ false
unfolding line_taken entry_taken
counted_next room c e h = go (eqb c.bad 0) refl (eqb e.letter 35) (entry_fits c.begun c.calendar.cover c.seeded e)
  where
    good : Content
    good =
        record {
          begun = true;
          calendar = calendar_after_entry c.calendar e;
          seeded = c.seeded || eqb e.letter 83;
          records = records_after room c.records e;
          faults = faults_after c.faults (next_line c.lines) e;
          lines = next_line c.lines;
          bad = 0;
        }

    go : (a : Bool) → eqb c.bad 0 ≡ a → (b d : Bool)
        → eqb (cond a (cond b (line_counted c 0) (cond d good (line_counted c (next_line c.lines)))) c).lines 0 ≡ false
    go false q b d = h (eqb-false c.bad 0 q)
    go true q true d = next-some c.lines
    go true q false true = next-some c.lines
    go true q false false = next-some c.lines

-- the line that the program holds is the line that has begun
rest-is : (room : ℕ) (c : Content) (n : ℕ) (begun input : List ℕ) → Numbering c → eqb c.lines 0 ≡ eqb n 0
    → rest_taken room c (fed_long empty_long begun) input ≡ lines_taken room c (numbered_from n (lines_from begun input))
unfolding rest_taken rest_over lines_taken numbered_from lines_from fed_long
rest-is room c n begun [] h q = rw (any-empty begun, held_any (eqb c.lines 0) begun, q) (go (eqb (length begun) 0))
  where
    go : (b : Bool) → cond b c (line_taken room c (line_said (eqb n 0) begun)) ≡ lines_taken room c (numbered_from n (cond b [] (begun ∷ [])))
    go true = refl
    go false = refl
rest-is room c n begun (byte ∷ rest) h q =
    go (eqb byte 10) (rest-is room next (next_line n) [] rest (λ b. after) (after ∙ sym (next-some n))) (rest-is room c n (begun ++ (byte ∷ [])) rest h q)
  where
    next : Content
    next = line_taken room c (line_said (eqb n 0) begun)

    after : eqb next.lines 0 ≡ false
    after = counted_next room c (line_said (eqb n 0) begun) h

    l : LongLine
    l = fed_long empty_long begun

    go : (b : Bool)
        → rest_taken room next (fed_long empty_long []) rest ≡ lines_taken room next (numbered_from (next_line n) (lines_from [] rest))
        → rest_taken room c (fed_long empty_long (begun ++ (byte ∷ []))) rest ≡ lines_taken room c (numbered_from n (lines_from (begun ++ (byte ∷ [])) rest))
        → cond b (rest_taken room (line_taken room c (held_said (eqb c.lines 0) l)) empty_long rest) (rest_taken room c (lengthened l byte) rest)
        ≡ lines_taken room c (numbered_from n (cond b (begun ∷ lines_from [] rest) (lines_from (begun ++ (byte ∷ [])) rest)))
    go true e d = rw (held_any (eqb c.lines 0) begun, q) e
    go false e d = rw (fed-more empty_long begun byte) at d

-- from nothing taken and an empty line, what is taken byte by byte is what the whole list says
pub whole-list : (buffer input : List ℕ) → rest_taken (length buffer) (content_in nothing_taken buffer) empty_long input ≡ content_of (length buffer) input
unfolding content_of numbered_lines fed_long no_content nothing_taken
whole-list buffer input = rest-is (length buffer) no_content 0 [] input (λ n. absurd (n refl)) refl

-- ---- the file

-- with another refusal than 6 no day of a run without trading is given
pub no-idle : (refusal : ℕ) (cal : Calendar) → (refusal ≡ 6 → ⊥) → 0 ≡ idle_day refusal cal
unfolding idle_day
no-idle refusal cal n = rw (ne_eqb refusal 6 n) refl

-- without a refusal no line is at fault
pub fault-none : (faults : Faults) → no_fault ≡ fault_kept faults 0
unfolding fault_kept
fault-none faults = refl

module _ (t : ListTaken) (buffer file : List ℕ) where
  -- a list with a bad line is answered with the number of that line, and the buffer for the file stays as it is
  pub composed-bad : (t.bad ≡ 0 → ⊥) → (r : Composed) → r ≡ record { bad = t.bad; refusal = 0; fault = no_fault; day = 0; length = 0 }
      → (r ≡ composed (content_in t buffer) (length file)) × (file ≡ composed_file (content_in t buffer) file)
  unfolding composed composed_file
  composed-bad n r e = (rw (ne_eqb t.bad 0 n) e, rw (ne_eqb t.bad 0 n) refl)

  -- a list without a bad line is answered as the writing of its calendar and records, with the fault or the day
  pub composed-is : t.bad ≡ 0 → (n : ℕ) → take n buffer ≡ take t.size buffer → (w : Result ℕ Refusal) (after : List ℕ)
      → write_answer w ≡ write_call t.calendar (take n buffer) (length file) → after ≡ buffer_after t.calendar (take n buffer) file
      → (fault : Fault) → fault ≡ fault_kept t.faults (write_answer w).refusal → (day : ℕ) → day ≡ idle_day (write_answer w).refusal t.calendar
      → (record { bad = 0; refusal = (write_answer w).refusal; fault = fault; day = day; length = (write_answer w).value } ≡ composed (content_in t buffer) (length file))
      × (after ≡ composed_file (content_in t buffer) file)
  unfolding composed composed_file
  composed-is z n e w after p q fault k day d = (rw (eq-eqb t.bad 0 z, ← e, ← p, k, d) refl, rw (eq-eqb t.bad 0 z, ← e) q)

-- no file is longer than the room for it
written-fits : (cal : Calendar) (records : List ℕ) (room : ℕ) → (write_call cal records room).value ≤ room
unfolding write_call answer
written-fits cal records room = go (eqb refusal 0) refl
  where
    refusal : ℕ
    refusal = first_no (write_asks cal records room)

    go : (b : Bool) → eqb refusal 0 ≡ b → cond b (length (file_of cal records)) 0 ≤ room
    go true e = omega (arith, file-length cal records, (counted cal records room (writable cal records room (eqb-true refusal 0 e))).enough)
    go false e = omega arith

-- the length that is answered is at most the room of the buffer
pub composed-fits : (c : Content) (room : ℕ) (r : Composed) → r ≡ composed c room → r.length ≤ room
unfolding composed
composed-fits c room r e = rw e (go (eqb c.bad 0))
  where
    good : Composed
    good =
        record {
          bad = 0;
          refusal = (write_call c.calendar c.records room).refusal;
          fault = fault_kept c.faults (write_call c.calendar c.records room).refusal;
          day = idle_day (write_call c.calendar c.records room).refusal c.calendar;
          length = (write_call c.calendar c.records room).value;
        }

    go : (b : Bool) → (cond b good (record { bad = c.bad; refusal = 0; fault = no_fault; day = 0; length = 0 })).length ≤ room
    go true = written-fits c.calendar c.records room
    go false = omega arith
