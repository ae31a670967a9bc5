-- All that a run of the program writes is the text of the definition, however its input arrives, and so many bytes were counted.
-- Assumes nothing.
use mathlib.Core.Path.{◌≡◌, refl, sym, ap, ◌∙◌, subst, fun_ext}
use mathlib.Core.Bool.{Bool, true, false}
use mathlib.Core.List.{List, [], ◌∷◌, ◌++◌, append-nil, append_assoc}
use Prim.Native.Nat.{ℕ, ◌+◌, ◌%◌, ◌^◌, ◌≤◌, ◌<◌}
use native.Mathlib.Omega.{arith}
use lib.ListN.{length, take, drop, drop_of_length-le, length-append}
use lib.Seq.{length-take-le}
use borrow.Author.Tests.{eq-eqb, ne_eqb}
use Rattle.questions.specs.Questions.{first_no}
use Rattle.file_load.specs.Load.{load_asks}
use Rattle.session_parts.specs.TermsParts.{counted, in_one}
use Rattle.session_parts.proofs.TermsRuns.{counted_none}
use Rattle.delivery_lines.specs.NoticeLines.{unmarked}
use Rattle.delivery_lines.proofs.Marks.{unmarked-more}
use Rattle.delivery_notices.specs.Notices.{text_told}
use Rattle.delivery_items.specs.declared.LongLine.{LongLine}
use Rattle.delivery_items.specs.Items.{empty_long}
use Rattle.delivery_answers.specs.declared.Standing.{Standing}
use Rattle.delivery_queries.specs.Queries.{standing_of, replies_text, query_text, some_refused, query_refused}
use Rattle.session_lines.specs.CommandLines.{lines_from}
use Rattle.delivery_sessions.specs.declared.QueryProgress.{QueryProgress}
use Rattle.delivery_sessions.specs.QueryParts.{query_rest, refused_rest, QueryAnswers, QueryLastAnswer}
use Rattle.delivery_sessions.specs.QueryRuns.{QueryHanded, QueryRun, ended, goes_on, QueryRan, Came, RanOn}
use Rattle.delivery_sessions.proofs.QueryLinesFed.{whole-input, whole-refused}

-- counted twice
counted-twice : (n a b : ℕ) → counted (counted n a) b ≡ counted n (a + b)
counted-twice n a b = omega arith

module _ (of : List ℕ → Standing) (k : ℕ) (b : Bool) (l : LongLine) (part : List ℕ) (n : ℕ) where
  -- a part before its first byte
  pub handed-none : n < 2 ^ 64 → QueryHanded of k b l part n k b l (drop 0 part) n
  handed-none h = record { text = []; is = λ rest. refl; count = counted_none n h; refused = λ rest. refl }

  -- the answers to some more of its lines
  pub handed-more : (k' : ℕ) (b' : Bool) (l' : LongLine) (at m n' : ℕ) (before after : List ℕ) (r : QueryProgress)
      → QueryHanded of k b l part n k' b' l' (drop at part) m → QueryAnswers of k' b' l' part at before after r → n' ≡ counted m r.length
      → QueryHanded of k b l part n r.number r.refused r.line (drop r.at part) n'
  handed-more k' b' l' at m n' before after r d a c =
      record {
        text = d.text ++ take r.length after;
        is = λ rest. d.is rest ∙ ap (λ (t : List ℕ). d.text ++ t) (a.text rest)
            ∙ sym (append_assoc d.text (take r.length after) (query_rest of r.number r.line (drop r.at part ++ rest)));
        refused = λ rest. d.refused rest ∙ a.refused rest;
        count = c ∙ ap (λ (x : ℕ). counted x r.length) d.count ∙ counted-twice n (length d.text) r.length ∙ ap (counted n) (sym long);
      }
    where
      long : length (d.text ++ take r.length after) ≡ length d.text + r.length
      long = length-append d.text (take r.length after) ∙ ap (λ (x : ℕ). length d.text + x) (length-take-le r.length after a.fits)

  -- it is used up
  pub handed-all : (k' : ℕ) (b' : Bool) (l' : LongLine) (at m : ℕ) → length part ≤ at → QueryHanded of k b l part n k' b' l' (drop at part) m
      → QueryHanded of k b l part n k' b' l' [] m
  handed-all k' b' l' at m h d = rw (drop_of_length-le part h) at d

-- the count after the last line
pub last-count : (of : List ℕ → Standing) (k : ℕ) (b : Bool) (l : LongLine) (before after : List ℕ) (n n' r : ℕ) (b' : Bool) → 512 ≤ length before
    → QueryLastAnswer of k b l before after r b' → n' ≡ counted n r → n' ≡ counted n (length (query_rest of k l []))
last-count of k b l before after n n' r b' room a c = c ∙ ap (counted n) (sym (length-take-le r after a.fits) ∙ ap length (sym (a.text room)))

-- ---- from part to part

in-one : (part : List ℕ) (parts : List (List ℕ)) → in_one (part ∷ parts) ≡ part ++ in_one parts
unfolding in_one
in-one part parts = refl

-- after a first part of three bytes or more, which is taken without its mark
pub came-first : (of : List ℕ → Standing) (k : ℕ) (b : Bool) (l : LongLine) (n m : ℕ) (part : List ℕ) → 3 ≤ length part → m ≡ length part % 2 ^ 64
    → QueryHanded of 1 false empty_long (unmarked part) 0 k b l [] n → Came of k b l n m
came-first of k b l n m part h e d =
    record {
      input = part;
      long = e;
      parts = unmarked part ∷ [];
      cut = λ later. in-one (unmarked part) later ∙ unmarked-more part (in_one later) h;
      text = d.text;
      on = λ later t n' b' r. goes_on d r;
    }

-- after one more part is used up, the run is still the rest of a run from the first line on
pub came-more : (of : List ℕ → Standing) (k k' : ℕ) (b b' : Bool) (l l' : LongLine) (n n' m m' : ℕ) (part : List ℕ) → Came of k b l n m
    → QueryHanded of k b l part n k' b' l' [] n' → m' ≡ (m + length part) % 2 ^ 64 → Came of k' b' l' n' m'
came-more of k k' b b' l l' n n' m m' part c d e =
    record {
      input = c.input ++ part;
      long = omega (arith, e, c.long, length-append c.input part);
      parts = c.parts ++ (part ∷ []);
      cut = λ later.
          ap in_one (append_assoc c.parts (part ∷ []) later) ∙ c.cut (part ∷ later)
          ∙ ap unmarked (ap (λ (x : List ℕ). c.input ++ x) (in-one part later) ∙ sym (append_assoc c.input part (in_one later)));
      text = c.text ++ d.text;
      on = λ later t n'' b'' r. rw (append_assoc c.parts (part ∷ []) later, append_assoc c.text d.text t) (c.on (part ∷ later) (d.text ++ t) n'' b''
          (goes_on d r));
    }

none_left : in_one [] ≡ []
unfolding in_one
none_left = refl

-- after the answer to the last line there is an input whose whole run writes the bytes counted
pub came-all : (of : List ℕ → Standing) (k : ℕ) (b b' : Bool) (l : LongLine) (n n' m : ℕ) → Came of k b l n m
    → n' ≡ counted n (length (query_rest of k l [])) → refused_rest of b l [] ≡ b' → QueryRan of n' b' m
came-all of k b b' l n n' m c e q =
    record {
      input = c.input;
      long = c.long;
      parts = c.parts ++ [];
      cut = c.cut [] ∙ ap unmarked (ap (λ (x : List ℕ). c.input ++ x) none_left ∙ append-nil c.input);
      text = c.text ++ query_rest of k l [];
      run = c.on [] (query_rest of k l []) n' b' (ended e q);
    }

-- an input of fewer bytes is one part
pub came-short : (of : List ℕ → Standing) (k : ℕ) (b b' : Bool) (l : LongLine) (n n' m : ℕ) (part : List ℕ) → m ≡ length part % 2 ^ 64
    → QueryHanded of 1 false empty_long (unmarked part) 0 k b l [] n → n' ≡ counted n (length (query_rest of k l [])) → refused_rest of b l [] ≡ b'
    → QueryRan of n' b' m
came-short of k b b' l n n' m part q d e f =
    record {
      input = part;
      long = q;
      parts = unmarked part ∷ [];
      cut = in-one (unmarked part) [] ∙ ap (λ (x : List ℕ). unmarked part ++ x) none_left ∙ append-nil (unmarked part);
      text = d.text ++ query_rest of k l [];
      run = goes_on d (ended e f);
    }

-- a run by what is known is one by what is known of the file and the notices
pub ran-own : (of known : List ℕ → Standing) (n : ℕ) (b : Bool) (m : ℕ) → ((id : List ℕ) → of id ≡ known id) → QueryRan of n b m → QueryRan known n b m
ran-own of known n b m e r = subst (λ (x : List ℕ → Standing). QueryRan x n b m) (fun_ext e) r

-- ---- what a run writes, and the count of its bytes

-- all that a run writes is what is answered for its parts in one
pub run-text : {of : List ℕ → Standing} {k : ℕ} {b b' : Bool} {l : LongLine} {n n' : ℕ} {parts : List (List ℕ)} {text : List ℕ}
    → QueryRun of k b l n parts text n' b' → query_rest of k l (in_one parts) ≡ text
unfolding in_one
run-text (ended e q) = refl
run-text (goes_on {parts = parts} d r) = d.is (in_one parts) ∙ ap (λ (t : List ℕ). d.text ++ t) (run-text r)

-- what was refused at its end is what is refused of its parts in one
run-refused : {of : List ℕ → Standing} {k : ℕ} {b b' : Bool} {l : LongLine} {n n' : ℕ} {parts : List (List ℕ)} {text : List ℕ}
    → QueryRun of k b l n parts text n' b' → refused_rest of b l (in_one parts) ≡ b'
unfolding in_one
run-refused (ended e q) = q
run-refused (goes_on {parts = parts} d r) = d.refused (in_one parts) ∙ run-refused r

run-count : {of : List ℕ → Standing} {k : ℕ} {b b' : Bool} {l : LongLine} {n n' : ℕ} {parts : List (List ℕ)} {text : List ℕ}
    → QueryRun of k b l n parts text n' b' → n' ≡ counted n (length text)
run-count (ended e q) = e
run-count {n = n} (goes_on {m = m} {text = text} d r) =
    run-count r ∙ ap (λ (k : ℕ). counted k (length text)) d.count ∙ counted-twice n (length d.text) (length text)
    ∙ ap (counted n) (sym (length-append d.text text))

accepted-text : (f notices input : List ℕ) → first_no (load_asks f) ≡ 0 → (text_told notices).bad ≡ 0
    → replies_text (standing_of f (text_told notices).date (text_told notices).notices) 1 (lines_from [] (unmarked input)) ≡ query_text f notices input
unfolding query_text
accepted-text f notices input a b = rw (eq-eqb (first_no (load_asks f)) 0 a, eq-eqb (text_told notices).bad 0 b) refl

accepted-refused : (f notices input : List ℕ) → first_no (load_asks f) ≡ 0 → (text_told notices).bad ≡ 0
    → some_refused (standing_of f (text_told notices).date (text_told notices).notices) (lines_from [] (unmarked input)) ≡ query_refused f notices input
unfolding query_refused
accepted-refused f notices input a b = rw (eq-eqb (first_no (load_asks f)) 0 a, eq-eqb (text_told notices).bad 0 b) refl

-- of a file that is refused, and of notices with a bad line, nothing is answered, whatever the input, and the run is a refused one
module _ (f notices input : List ℕ) where
  -- of a refused file nothing is answered
  pub master-none : (first_no (load_asks f) ≡ 0 → ⊥) → (query_text f notices input ≡ []) × (query_refused f notices input ≡ true)
  unfolding query_text query_refused
  master-none a = (rw (ne_eqb (first_no (load_asks f)) 0 a) refl, rw (ne_eqb (first_no (load_asks f)) 0 a) refl)

  -- of notices with a bad line nothing is answered
  pub no-answers : first_no (load_asks f) ≡ 0 → ((text_told notices).bad ≡ 0 → ⊥) → (query_text f notices input ≡ []) × (query_refused f notices input ≡ true)
  unfolding query_text query_refused
  no-answers a b = (
    rw (eq-eqb (first_no (load_asks f)) 0 a, ne_eqb (text_told notices).bad 0 b) refl,
    rw (eq-eqb (first_no (load_asks f)) 0 a, ne_eqb (text_told notices).bad 0 b) refl,
  )

-- for every file that is accepted, all notices without a bad line, every input and every way in which it arrives in parts, it is the text of the definition
pub query-text : (f notices : List ℕ) (n : ℕ) (b : Bool) (m : ℕ) (r : RanOn f notices n b m) → r.ran.text ≡ query_text f notices r.ran.input
query-text f notices n b m r =
    sym (run-text r.ran.run) ∙ ap (query_rest (standing_of f (text_told notices).date (text_told notices).notices) 1 empty_long) r.ran.cut
    ∙ whole-input (standing_of f (text_told notices).date (text_told notices).notices) (unmarked r.ran.input)
    ∙ accepted-text f notices r.ran.input r.accepted r.good

-- and so many bytes were written
pub query-count : (f notices : List ℕ) (n : ℕ) (b : Bool) (m : ℕ) (r : RanOn f notices n b m) → n ≡ counted 0 (length (query_text f notices r.ran.input))
query-count f notices n b m r = run-count r.ran.run ∙ ap (λ (t : List ℕ). counted 0 (length t)) (query-text f notices n b m r)

-- and the run has refused an answer exactly where the definition says so
pub query-refused : (f notices : List ℕ) (n : ℕ) (b : Bool) (m : ℕ) (r : RanOn f notices n b m) → b ≡ query_refused f notices r.ran.input
query-refused f notices n b m r =
    sym (run-refused r.ran.run) ∙ ap (refused_rest (standing_of f (text_told notices).date (text_told notices).notices) false empty_long) r.ran.cut
    ∙ whole-refused (standing_of f (text_told notices).date (text_told notices).notices) (unmarked r.ran.input)
    ∙ accepted-refused f notices r.ran.input r.accepted r.good
