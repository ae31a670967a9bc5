-- All that a run of the program writes is the text of the definition, however its input arrives, and so many bytes were counted.
-- Assumes nothing.
use mathlib.Core.Path.{◌≡◌, refl, sym, ap, ◌∙◌}
use mathlib.Core.List.{List, [], ◌++◌, append_assoc}
use Prim.Native.Nat.{ℕ, ◌+◌, ◌^◌, ◌≤◌, ◌<◌}
use native.Mathlib.Omega.{arith}
use lib.ListN.{length, take, drop, drop_of_length-le, length-append}
use lib.Seq.{length-take-le}
use Rattle.table.specs.declared.Outcome.{Outcome}
use Rattle.table.specs.Table.{open_call}
use Rattle.session_lines.specs.declared.Line.{Line}
use Rattle.session_lines.specs.CommandLines.{empty_line}
use Rattle.session_command.specs.declared.Kept.{Kept}
use Rattle.session_command.specs.Sessions.{nothing_kept, rest_text, terms_text}
use Rattle.session_command.proofs.Session.{whole-text}
use Rattle.session_parts.specs.declared.TermsProgress.{TermsProgress}
use Rattle.session_parts.specs.declared.LastLine.{LastLine}
use Rattle.session_parts.specs.TermsParts.{counted, Answers, LastAnswer, Handed, in_one, Run, ended, goes_on}

-- counted twice
counted-twice : (n a b : ℕ) → counted (counted n a) b ≡ counted n (a + b)
counted-twice n a b = omega arith

-- a count below 2^64 grows by nothing
pub counted_none : (n : ℕ) → n < 2 ^ 64 → n ≡ counted n 0
counted_none n h = omega arith

module _ (opening : List ℕ → ℕ → Outcome) (h : Kept) (l : Line) (part : List ℕ) (n : ℕ) where
  -- a part before its first byte
  pub handed-none : n < 2 ^ 64 → Handed opening h l part n h l (drop 0 part) n
  handed-none b = record { text = []; is = λ rest. refl; state = λ rest. refl; count = counted_none n b }

  -- the answers to some more of its lines
  pub handed-more : (h' : Kept) (l' : Line) (at m n' : ℕ) (before after : List ℕ) (r : TermsProgress) → Handed opening h l part n h' l' (drop at part) m
      → Answers opening h' l' part at before after r → n' ≡ counted m r.length → Handed opening h l part n r.kept r.line (drop r.at part) n'
  handed-more h' l' at m n' before after r d a c =
      record {
        text = d.text ++ take r.length after;
        is = λ rest. d.is rest ∙ ap (λ (t : List ℕ). d.text ++ t) (a.text rest) ∙
            sym (append_assoc d.text (take r.length after) (rest_text opening r.kept r.line (drop r.at part ++ rest)));
        state = λ rest. d.state rest ∙ a.state rest;
        count = c ∙ ap (λ (k : ℕ). counted k r.length) d.count ∙ counted-twice n (length d.text) r.length ∙ ap (counted n) (sym long);
      }
    where
      long : length (d.text ++ take r.length after) ≡ length d.text + r.length
      long = length-append d.text (take r.length after) ∙ ap (λ (k : ℕ). length d.text + k) (length-take-le r.length after a.fits)

  -- it is used up
  pub handed-all : (h' : Kept) (l' : Line) (at m : ℕ) → length part ≤ at → Handed opening h l part n h' l' (drop at part) m
      → Handed opening h l part n h' l' [] m
  handed-all h' l' at m k d = rw (drop_of_length-le part k) at d

-- the count after the last line
pub last-count : (opening : List ℕ → ℕ → Outcome) (h : Kept) (l : Line) (before after : List ℕ) (n n' : ℕ) (r : LastLine) → 512 ≤ length before
    → LastAnswer opening h l before after r → n' ≡ counted n r.length → n' ≡ counted n (length (rest_text opening h l []))
last-count opening h l before after n n' r room a c = c ∙ ap (counted n) (sym (length-take-le r.length after a.fits) ∙ ap length (sym (a.text room)))

-- what a run writes, and the count of its bytes
pub run-text : {opening : List ℕ → ℕ → Outcome} {h : Kept} {l : Line} {n n' : ℕ} {parts : List (List ℕ)} {text : List ℕ} → Run opening h l n parts text n'
    → rest_text opening h l (in_one parts) ≡ text
unfolding in_one
run-text (ended e) = refl
run-text (goes_on {parts = parts} d r) = d.is (in_one parts) ∙ ap (λ (t : List ℕ). d.text ++ t) (run-text r)

run-count : {opening : List ℕ → ℕ → Outcome} {h : Kept} {l : Line} {n n' : ℕ} {parts : List (List ℕ)} {text : List ℕ} → Run opening h l n parts text n'
    → n' ≡ counted n (length text)
run-count (ended e) = e
run-count {n = n} (goes_on {m = m} {text = text} d r) =
    run-count r ∙ ap (λ (k : ℕ). counted k (length text)) d.count ∙ counted-twice n (length d.text) (length text) ∙
    ap (counted n) (sym (length-append d.text text))

-- for every file, every input and every way in which it arrives in parts, it is the text of the definition
pub terms-text : (file : List ℕ) (parts : List (List ℕ)) (text : List ℕ) (n : ℕ) → Run (open_call file) nothing_kept empty_line 0 parts text n
    → text ≡ terms_text file (in_one parts)
terms-text file parts text n r = sym (run-text r) ∙ whole-text file (in_one parts)

-- and so many bytes were written
pub terms-count : (file : List ℕ) (parts : List (List ℕ)) (text : List ℕ) (n : ℕ) → Run (open_call file) nothing_kept empty_line 0 parts text n
    → n ≡ counted 0 (length (terms_text file (in_one parts)))
terms-count file parts text n r = run-count r ∙ ap (λ (t : List ℕ). counted 0 (length t)) (terms-text file parts text n r)
