-- The fault that is kept for a question, line by line, is that of the first line at fault.
-- Assumes nothing.
use mathlib.Core.Path.{◌≡◌, refl, ◌∙◌, sym, ap}
use mathlib.Core.Bool.{Bool, true, false, ◌&&◌, cond, and-false}
use mathlib.Core.List.{List, [], ◌∷◌}
use Prim.Native.Nat.{ℕ}
use lib.Dec.{eqb}
use borrow.Author.Tests.{ne_eqb}
use Rattle.file_records.specs.Records.{four_bytes}
use Rattle.file_text_lines.specs.declared.Entry.{Entry}
use Rattle.file_text_faults.specs.declared.Fault.{Fault}
use Rattle.file_text_faults.specs.declared.Faults.{Faults}
use Rattle.file_text_faults.specs.Faults.{names_weekend, names_wrong, names_earlier, at_fault, id_after, no_fault, Numbered, fault_from, first_fault, fault_after}
use Rattle.file_text_faults.specs.Faults.{no_faults, faults_after, faults_over, fault_kept}

-- a line that names neither a closed day nor a product is not at fault, and keeps the id
module _ (e : Entry) (comment : e.letter ≡ 35) where
  never-at-fault : (question : ℕ) (before : List ℕ) → at_fault question before e ≡ false
  unfolding at_fault names_weekend names_wrong names_earlier
  never-at-fault question before = rw comment (go (eqb question 5) (eqb question 7))
    where
      go : (a b : Bool) → cond a false (cond b false (eqb question 8 && false)) ≡ false
      go true b = refl
      go false true = refl
      go false false = and-false (eqb question 8)

  fault-stays : (question : ℕ) (f : Fault) (before : List ℕ) (line : ℕ) → fault_after question f before line e ≡ f
  unfolding fault_after
  fault-stays question f before line = rw (never-at-fault question before, and-false (eqb f.line 0)) refl

  -- a comment leaves the faults that are kept as they are
  pub comment-stays : (s : Faults) (line : ℕ) → faults_after s line e ≡ s
  unfolding faults_after id_after
  comment-stays s line =
      rw (fault-stays 5 s.five s.last line, fault-stays 7 s.seven s.last line, fault-stays 8 s.eight s.last line, comment) refl

-- each line has a number
unfoldable pub all_numbered : List Numbered → Type 0
all_numbered [] = Unit {0}
all_numbered (l ∷ ls) = (l.line ≡ 0 → ⊥) × all_numbered ls

-- a fault that is there stays, and a line at fault is kept where there is none
module _ (question : ℕ) (before : List ℕ) (line : ℕ) (e : Entry) where
  kept : (f : Fault) → (f.line ≡ 0 → ⊥) → fault_after question f before line e ≡ f
  unfolding fault_after
  kept f m = rw (ne_eqb f.line 0 m) refl

  found : at_fault question before e ≡ true → fault_after question no_fault before line e ≡ record { line = line; id = four_bytes e.«record» 0 }
  unfolding fault_after
  found a = rw a refl

  not_found : at_fault question before e ≡ false → fault_after question no_fault before line e ≡ no_fault
  unfolding fault_after
  not_found a = rw a refl

-- a question whose fault is kept
module _ (question : ℕ)
    (step : (s : Faults) (line : ℕ) (e : Entry) → fault_kept (faults_after s line e) question ≡ fault_after question (fault_kept s question) s.last line e) where
  -- one that is there stays
  stays : (s : Faults) (ls : List Numbered) → ((fault_kept s question).line ≡ 0 → ⊥) → fault_kept (faults_over s ls) question ≡ fault_kept s question
  unfolding faults_over
  stays s [] n = refl
  stays s (l ∷ ls) n =
      let same : fault_kept (faults_after s l.line l.entry) question ≡ fault_kept s question = step s l.line l.entry ∙ kept question s.last
      l.line l.entry (fault_kept s question) n in
      stays (faults_after s l.line l.entry) ls (λ z. n (sym (ap (λ (f : Fault). f.line) same) ∙ z)) ∙ same

  -- where there is none, that of the first of the lines to come is kept
  seeks : (s : Faults) (ls : List Numbered) → all_numbered ls → fault_kept s question ≡ no_fault
      → fault_kept (faults_over s ls) question ≡ fault_from question s.last ls
  unfolding faults_over fault_from all_numbered faults_after
  seeks s [] a e = e
  seeks s (l ∷ ls) a e = go (at_fault question s.last l.entry) refl (seeks (faults_after s l.line l.entry) ls a.1)
    where
      next : Faults
      next = faults_after s l.line l.entry

      this : Fault
      this = record { line = l.line; id = four_bytes l.entry.«record» 0 }

      after : fault_kept next question ≡ fault_after question no_fault s.last l.line l.entry
      after = step s l.line l.entry ∙ ap (λ (f : Fault). fault_after question f s.last l.line l.entry) e

      go : (b : Bool) → at_fault question s.last l.entry ≡ b
          → (fault_kept next question ≡ no_fault → fault_kept (faults_over next ls) question ≡ fault_from question (id_after s.last l.entry) ls)
          → fault_kept (faults_over next ls) question ≡ cond b this (fault_from question (id_after s.last l.entry) ls)
      go true q ih =
          let f : fault_kept next question ≡ this = after ∙ found question s.last l.line l.entry q in
          stays next ls (λ z. a.0 (sym (ap (λ (x : Fault). x.line) f) ∙ z)) ∙ f
      go false q ih = ih (after ∙ not_found question s.last l.line l.entry q)

-- ---- 5, 7 and 8

step-5 : (s : Faults) (line : ℕ) (e : Entry) → fault_kept (faults_after s line e) 5 ≡ fault_after 5 (fault_kept s 5) s.last line e
unfolding fault_kept faults_after
step-5 s line e = refl

step-7 : (s : Faults) (line : ℕ) (e : Entry) → fault_kept (faults_after s line e) 7 ≡ fault_after 7 (fault_kept s 7) s.last line e
unfolding fault_kept faults_after
step-7 s line e = refl

step-8 : (s : Faults) (line : ℕ) (e : Entry) → fault_kept (faults_after s line e) 8 ≡ fault_after 8 (fault_kept s 8) s.last line e
unfolding fault_kept faults_after
step-8 s line e = refl

-- what is kept after all lines is the first line at fault
module _ (ls : List Numbered) (a : all_numbered ls) where
  -- the fault kept for question 5 after all lines is that of the first C or X whose day is a Saturday or a Sunday
  pub first-5 : fault_kept (faults_over no_faults ls) 5 ≡ first_fault 5 ls
  unfolding first_fault no_faults fault_kept
  first-5 = seeks 5 step-5 no_faults ls a refl

  -- the fault kept for question 7 after all lines is that of the first product that is not as stated
  pub first-7 : fault_kept (faults_over no_faults ls) 7 ≡ first_fault 7 ls
  unfolding first_fault no_faults fault_kept
  first-7 = seeks 7 step-7 no_faults ls a refl

  -- the fault kept for question 8 after all lines is that of the first product whose id is not greater than the one before
  pub first-8 : fault_kept (faults_over no_faults ls) 8 ≡ first_fault 8 ls
  unfolding first_fault no_faults fault_kept
  first-8 = seeks 8 step-8 no_faults ls a refl
