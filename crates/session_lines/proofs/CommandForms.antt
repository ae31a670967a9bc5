-- The forms of a line, test by test, as the code asks them.
-- Assumes nothing.
use mathlib.Core.Path.{◌≡◌, refl, ◌∙◌, sym, ap}
use mathlib.Core.Bool.{Bool, true, false, ◌&&◌, ◌||◌, and-false}
use mathlib.Core.List.{List}
use Prim.Native.Nat.{ℕ, ◌+◌, ◌-◌, ◌≤◌, ◌<◌}
use native.Mathlib.Omega.{arith}
use lib.Dec.{eqb, leb}
use lib.ListN.{length, get_or, replicate, get_or-eq_default}
use Rattle.questions.proofs.Bools.{and-fst, and-snd, clash, is_false}
use Rattle.product.specs.Fields.{digit}
use borrow.Author.Tests.{leb-true, le-leb, lt-leb, eq-eqb, ne_eqb}
use Rattle.std.specs.Prelude.{Result, Ok, Err}
use Rattle.questions.specs.declared.Refusal.{Refusal}
use Rattle.questions.specs.Refusals.{refusal_number}
use Rattle.questions.proofs.Refusals.{numbered-from-1}
use Rattle.days.specs.Dates.{day_call, day_answer}
use Rattle.session_lines.specs.declared.DateRead.{DateRead}
use Rattle.session_lines.specs.CommandLines.{two_digits, two_value, date_form, year_at, no_date_read, date_at, other_line, move_form, move_command, id_form}
use Rattle.session_lines.specs.CommandLines.{id_in_line, open_form, open_command, command_at}

module _ (f : ℕ → ℕ) where
  -- the date at a place
  module _ (at : ℕ) where
    -- bytes without the form of a date read as no date
    pub date-formless : date_form f at ≡ false → no_date_read ≡ date_at f at
    unfolding date_at
    date-formless e = rw e refl

    module _ (e : date_form f at ≡ true) (y m d : ℕ) (p : y ≡ year_at f at) (q : m ≡ two_value f (at + 5)) (r : d ≡ two_value f (at + 8)) (a : Result ℕ Refusal)
        (s : day_answer a ≡ day_call y m d) where
      called : day_answer a ≡ day_call (year_at f at) (two_value f (at + 5)) (two_value f (at + 8))
      called = s ∙ rw (p, q, r) refl

      -- bytes with the form of a date that the calendar has read as its day
      pub date-there : (n : ℕ) → a ≡ Ok n → record { there = true; day = n } ≡ date_at f at
      unfolding date_at
      date-there n t =
          let c : record { refusal = 0; value = n } ≡ day_call (year_at f at) (two_value f (at + 5)) (two_value f (at + 8)) = sym (ap day_answer t) ∙ called in
          rw (e, ← c) refl

      -- bytes with the form of a date that the calendar does not have read as no date
      pub date-refused : (k : Refusal) → a ≡ Err k → no_date_read ≡ date_at f at
      unfolding date_at
      date-refused k t =
          let c : record { refusal = refusal_number k; value = 0 } ≡ day_call (year_at f at) (two_value f (at + 5)) (two_value f (at + 8)) = sym (ap day_answer t) ∙ called in
          rw (e, ← c, ne_eqb (refusal_number k) 0 (omega (arith, numbered-from-1 k))) refl

  -- a roll or a close
  module _ (n : ℕ) where
    -- a line of another length than 12 is no roll or closing
    pub move-length : (n ≡ 12 → ⊥) → other_line ≡ move_command f n
    unfolding move_command move_form
    move-length e = rw (ne_eqb n 12 e) refl

    module _ (e : n ≡ 12) where
      -- a line of length 12 that does not begin with R or C and then a space is no roll or closing
      pub move-formless : ((eqb (f 0) 82 || eqb (f 0) 67) && eqb (f 1) 32) ≡ false → other_line ≡ move_command f n
      unfolding move_command move_form
      move-formless g = rw (eq-eqb n 12 e, g) refl

      module _ (g : ((eqb (f 0) 82 || eqb (f 0) 67) && eqb (f 1) 32) ≡ true) (r : DateRead) (q : r ≡ date_at f 2) where
        -- a line without a date after its letter is no roll or closing
        pub move-dateless : r.there ≡ false → other_line ≡ move_command f n
        unfolding move_command move_form
        move-dateless t = rw (eq-eqb n 12 e, g, ← q, t) refl

        -- a line with its letter, a space and a date is the roll or closing of that day
        pub move-is : r.there ≡ true → record { letter = f 0; id = replicate 4 0; day = r.day } ≡ move_command f n
        unfolding move_command move_form
        move-is t = rw (eq-eqb n 12 e, g, ← q, t) refl

  -- an open
  module _ (k : ℕ) where
    -- with an id of no characters a line has not the form of an opening
    pub open-few : k < 1 → open_form f k ≡ false
    unfolding open_form
    open-few h = rw (lt-leb 1 k h) refl

    -- with an id of more than 4 characters a line has not the form of an opening
    pub open-many : 4 < k → open_form f k ≡ false
    unfolding open_form
    open-many h = rw (lt-leb k 4 h) (and-false (leb 1 k))

    -- with an id of 1 to 4 characters the form of an opening needs the two spaces and the form of the id
    pub open-rest : (b : Bool) → 1 ≤ k → k ≤ 4 → b ≡ id_form f k → (eqb (f 1) 32 && (b && eqb (f (2 + k)) 32)) ≡ open_form f k
    unfolding open_form
    open-rest b g h e = rw (le-leb 1 k g, le-leb k 4 h, e) refl

    -- the form of an opening has an id of at most 4 characters
    pub open-most : open_form f k ≡ true → k ≤ 4
    unfolding open_form
    open-most e = leb-true k 4 (and-fst (leb k 4) (eqb (f 1) 32 && (id_form f k && eqb (f (2 + k)) 32))
        (and-snd (leb 1 k) (leb k 4 && (eqb (f 1) 32 && (id_form f k && eqb (f (2 + k)) 32))) e))

  module _ (n : ℕ) where
    -- a line shorter than 13 is no opening
    pub open-short : n < 13 → other_line ≡ open_command f n
    unfolding open_command
    open-short h = rw (open-few (n - 13) (omega arith)) refl

    -- a line without the form of an opening is no opening
    pub open-formless : open_form f (n - 13) ≡ false → other_line ≡ open_command f n
    unfolding open_command
    open-formless e = rw e refl

    module _ (e : open_form f (n - 13) ≡ true) (r : DateRead) (q : r ≡ date_at f (3 + (n - 13))) where
      -- a line with the form of an opening but without a date is no opening
      pub open-dateless : r.there ≡ false → other_line ≡ open_command f n
      unfolding open_command
      open-dateless t = rw (e, ← q, t) refl

      -- a line with the form of an opening and a date is the opening of its id on that day
      pub open_is : (id : List ℕ) → id ≡ id_in_line f (n - 13) → r.there ≡ true → record { letter = 79; id = id; day = r.day } ≡ open_command f n
      unfolding open_command
      open_is id i t = rw (e, ← q, t, ← i) refl

  -- a line by its first byte
  pub begins-o : (n : ℕ) → f 0 ≡ 79 → open_command f n ≡ command_at f n
  unfolding command_at
  begins-o n e = rw (eq-eqb (f 0) 79 e) refl

  -- a line that does not begin with O is read as a roll or closing
  pub begins-else : (n : ℕ) → (f 0 ≡ 79 → ⊥) → move_command f n ≡ command_at f n
  unfolding command_at
  begins-else n e = rw (ne_eqb (f 0) 79 e) refl

-- no date reaches beyond the 64 bytes of a line
pub date-beyond : (bytes : List ℕ) (at : ℕ) → length bytes ≡ 64 → 54 < at → no_date_read ≡ date_at (λ i. get_or bytes i 0) at
unfolding date_form
date-beyond bytes at l h = date-formless f at (is_false (date_form f at) no)
  where
    f : ℕ → ℕ
    f i = get_or bytes i 0

    no : date_form f at ≡ true → ⊥
    no e =
        let a = and-snd (two_digits f at) _ e in
        let b = and-snd (two_digits f (at + 2)) _ a in
        let c = and-snd (eqb (f (at + 4)) 45) _ b in
        let d = and-snd (two_digits f (at + 5)) _ c in
        let g = and-snd (eqb (f (at + 7)) 45) _ d in
        let y : digit (f (at + 8 + 1)) ≡ true = and-snd (digit (f (at + 8))) _ g in
        clash y (ap digit (get_or-eq_default bytes 0 (omega arith)))
