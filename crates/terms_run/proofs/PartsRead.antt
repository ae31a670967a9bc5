-- A run with the count of the bytes that were read: from part to part, and at its end for the input that they make up.
-- Assumes nothing.
use mathlib.Core.Path.{◌≡◌, refl, sym, ap, ◌∙◌, subst, fun_ext}
use mathlib.Core.Bool.{Bool, true}
use mathlib.Core.List.{List, [], ◌∷◌, ◌++◌, append-nil, append_assoc}
use Prim.Native.Nat.{ℕ, ◌+◌, ◌%◌, ◌^◌, ◌≤◌}
use native.Mathlib.Omega.{arith}
use lib.ListN.{length, take, length-append}
use lib.Seq.{length-take-le}
use Rattle.file_load.specs.Load.{judge_call}
use Rattle.table.specs.declared.Outcome.{Outcome}
use Rattle.table.specs.Table.{open_call, open_in}
use Rattle.table.proofs.Opens.{open_is}
use Rattle.session_lines.specs.declared.Line.{Line}
use Rattle.session_lines.specs.CommandLines.{empty_line}
use Rattle.session_command.specs.declared.Kept.{Kept}
use Rattle.session_command.specs.Sessions.{nothing_kept, rest_text, rest_kept, terms_text, terms_refused}
use Rattle.session_command.proofs.Session.{whole-refused}
use Rattle.session_parts.specs.TermsParts.{counted, Handed, in_one, Run, ended, goes_on, Ran}
use Rattle.session_parts.proofs.TermsRuns.{terms-count}
use Rattle.program_status.specs.Statuses.{status_of}
use Rattle.streams.specs.declared.reads.Input.{Input}
use Rattle.streams.specs.Inputs.{ForInput}

-- on the way: the parts that have come have so many bytes, modulo 2^64, and whatever a run from here writes, it is the rest of a run from the first command on
pub record CameFar (opening : List ℕ → ℕ → Outcome) (h : Kept) (l : Line) (n m : ℕ) : Type 0 where
  pub parts : List (List ℕ)
  pub text : List ℕ
  pub on : (later : List (List ℕ)) (t : List ℕ) (n' : ℕ) → Run opening h l n later t n' → Run opening nothing_kept empty_line 0 (parts ++ later) (text ++ t) n'
  pub count : m ≡ length (in_one parts) % 2 ^ 64
  -- what is kept after any rest of the input is what is kept after it from here
  pub state : (rest : List ℕ) → rest_kept opening nothing_kept empty_line (in_one parts ++ rest) ≡ rest_kept opening h l rest

none-long : length (in_one []) ≡ 0
unfolding in_one
none-long = refl

one-longer : (parts : List (List ℕ)) (part : List ℕ) → length (in_one (parts ++ (part ∷ []))) ≡ length (in_one parts) + length part
unfolding in_one
one-longer [] part = omega (arith, length-append part [])
one-longer (p ∷ parts) part = omega (arith, length-append p (in_one (parts ++ (part ∷ []))), length-append p (in_one parts), one-longer parts part)

none_kept : (opening : List ℕ → ℕ → Outcome) (rest : List ℕ)
    → rest_kept opening nothing_kept empty_line (in_one [] ++ rest) ≡ rest_kept opening nothing_kept empty_line rest
unfolding in_one
none_kept opening rest = refl

one_more : (parts : List (List ℕ)) (part : List ℕ) → in_one (parts ++ (part ∷ [])) ≡ in_one parts ++ part
unfolding in_one
one_more [] part = append-nil part
one_more (p ∷ parts) part = ap (λ (t : List ℕ). p ++ t) (one_more parts part) ∙ sym (append_assoc p (in_one parts) part)

-- before the first part
pub far_none : (opening : List ℕ → ℕ → Outcome) (m : ℕ) → m ≡ 0 → CameFar opening nothing_kept empty_line 0 m
far_none opening m d = record { parts = []; text = []; on = λ later t n' r. r; count = omega (arith, d, none-long); state = none_kept opening }

-- the first bytes of a buffer more
pub far-more : (opening : List ℕ → ℕ → Outcome) (h h' : Kept) (l l' : Line) (n n' m m' k : ℕ) (part : List ℕ) → CameFar opening h l n m → k ≤ length part
    → Handed opening h l (take k part) n h' l' [] n' → m' ≡ (m + k) % 2 ^ 64 → CameFar opening h' l' n' m'
far-more opening h h' l l' n n' m m' k part c s d e =
    record {
      parts = c.parts ++ (take k part ∷ []);
      text = c.text ++ d.text;
      on = λ later t n'' r. rw (append_assoc c.parts (take k part ∷ []) later, append_assoc c.text d.text t)
          (c.on (take k part ∷ later) (d.text ++ t) n'' (goes_on d r));
      count = omega (arith, e, c.count, one-longer c.parts (take k part), length-take-le k part s);
      state = λ rest. ap (λ (t : List ℕ). rest_kept opening nothing_kept empty_line (t ++ rest)) (one_more c.parts (take k part))
          ∙ ap (rest_kept opening nothing_kept empty_line) (append_assoc (in_one c.parts) (take k part) rest)
          ∙ c.state (take k part ++ rest)
          ∙ d.state rest;
    }

-- a whole run, with the count of its bytes, and whether an answer was `NO n` or `BAD`
pub record RanFar (opening : List ℕ → ℕ → Outcome) (n m : ℕ) (b : Bool) : Type 0 where
  pub ran : Ran opening n
  pub count : m ≡ length (in_one ran.parts) % 2 ^ 64
  pub refused : b ≡ (rest_kept opening nothing_kept empty_line (in_one ran.parts)).refused

-- after the last line
pub far-all : (opening : List ℕ → ℕ → Outcome) (h : Kept) (l : Line) (n n' m : ℕ) (b : Bool) → CameFar opening h l n m
    → n' ≡ counted n (length (rest_text opening h l [])) → b ≡ (rest_kept opening h l []).refused → RanFar opening n' m b
far-all opening h l n n' m b c e q =
    record {
      ran = record { parts = c.parts ++ []; text = c.text ++ rest_text opening h l []; run = c.on [] (rest_text opening h l []) n' (ended e) };
      count = c.count ∙ ap (λ (x : List (List ℕ)). length (in_one x) % 2 ^ 64) (sym (append-nil c.parts));
      refused = q ∙ ap (λ (k : Kept). k.refused)
          (sym (c.state []) ∙ ap (rest_kept opening nothing_kept empty_line) (append-nil (in_one c.parts) ∙ ap in_one (sym (append-nil c.parts))));
    }

far-own : (file : List ℕ) (n m : ℕ) (b : Bool) → RanFar (open_in (judge_call file) file) n m b → RanFar (open_call file) n m b
far-own file n m b r = subst (λ (opening : List ℕ → ℕ → Outcome). RanFar opening n m b) (fun_ext (λ id. fun_ext (λ date. open_is file id date))) r

-- by the file's own verdict, after the last read: the text of an input with as many bytes as were read, and the status by its answers
pub far-input : (file : List ℕ) (n : ℕ) (i : Input) (failed b : Bool) → RanFar (open_in (judge_call file) file) n i.bytes b → i.left ≡ 0
    → ForInput i (λ input. (n ≡ counted 0 (length (terms_text file input))) × (status_of failed b ≡ status_of failed (terms_refused file input)))
far-input file n i failed b r z =
    let o : RanFar (open_call file) n i.bytes b = far-own file n i.bytes b r in
    let q : n ≡ counted 0 (length (terms_text file (in_one o.ran.parts))) = terms-count file o.ran.parts o.ran.text n o.ran.run in
    record {
      input = in_one o.ran.parts;
      count = o.count;
      is = λ rest w. rw (w z, append-nil (in_one o.ran.parts))
          (q, ap (status_of failed) (o.refused ∙ whole-refused file (in_one o.ran.parts)));
    }

-- the status of a run that failed
pub failed-2 : (failed b : Bool) → failed ≡ true → status_of failed b ≡ 2
unfolding status_of
failed-2 failed b e = rw e refl
