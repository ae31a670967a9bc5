-- The line of a refused opening has fewer than 64 bytes, so all of it is told; only a refused one has a byte.
-- Assumes nothing.
use mathlib.Core.Path.{◌≡◌, refl}
use mathlib.Core.Bool.{Bool, true, false, not, ◌&&◌, ◌||◌, cond}
use mathlib.Core.List.{List, [], ◌∷◌, ◌++◌}
use Prim.Native.Nat.{ℕ, ◌+◌, ◌≤◌, ◌<◌}
use native.Mathlib.Numerals.{add-one}
use native.Mathlib.Omega.{arith}
use lib.Dec.{eqb, ltb}
use lib.ListN.{length, length-append}
use borrow.Author.Tests.{lt-ltb}
use Rattle.questions.specs.Search.{some}
use Rattle.session_lines.specs.declared.Line.{Line}
use Rattle.session_lines.specs.CommandLines.{empty_line}
use Rattle.file_text_print.specs.Contents.{LineWith}
use Rattle.file_records.specs.Records.{four_bytes}
use Rattle.file_ids.specs.Ids.{is_record, id_at}
use Rattle.streams.specs.Transfers.{Grew}
use Rattle.table.specs.declared.Outcome.{Outcome}
use Rattle.session_text.specs.TermsText.{decimal}
use Rattle.file_text_print.specs.Contents.{id_text}
use Rattle.delivery_refusals.specs.Refusals.{notices_name, refused_notice_text, refusal_told, refusal_line}
use Rattle.delivery_parts.specs.PlaceParts.{parts_text}
use Rattle.delivery_parts.proofs.Next.{parts_none, parts_more}
use Rattle.delivery_parts.proofs.Handing.{refusal-line-short}
use Rattle.delivery_inputs.proofs.ShortLines.{line-room, line-fits, line-long}
use Rattle.delivery_reconciled.specs.Reconciled.{opening_text, opening_refused}

id-four : (f : List ℕ) (p : ℕ) → length (id_at f p) ≡ 4
unfolding id_at four_bytes
id-four f p = refl

told-short : (opened refusal : ℕ) (id : List ℕ) → length id ≡ 4 → length (refusal_told opened refusal id) < 64
unfolding refusal_line
told-short opened refusal id four = refusal-line-short id opened refusal [] [] four 0

name-long : length notices_name ≡ 12
unfolding notices_name
name-long = refl

-- the line of a refused call has a byte
told-some : (line refusal : ℕ) (id : List ℕ) → 0 < length (refused_notice_text line refusal id)
unfolding refused_notice_text
told-some line refusal id =
    omega (
      arith,
      length-append (notices_name ++ decimal line) ((58 ∷ 32 ∷ 78 ∷ 79 ∷ 32 ∷ []) ++ (decimal refusal ++ ((32 ∷ []) ++ (id_text id ++ (10 ∷ []))))),
      length-append notices_name (decimal line),
      name-long,
    )

module _ (opening : List ℕ → ℕ → Outcome) (f : List ℕ) (opened date p : ℕ) where
  opening-short : length (opening_text opening f opened date p) < 64
  unfolding opening_text
  opening-short = go (is_record f p)
    where
      go : (b : Bool) → length (cond b (refusal_told opened (opening (id_at f p) date).refusal (id_at f p)) []) < 64
      go true = told-short opened (opening (id_at f p) date).refusal (id_at f p) (id-four f p)
      go false = omega arith

  -- the line of the opening at a place has room in its bytes, and is as long as its text
  pub opening-fits : (l : Line) → LineWith empty_line (opening_text opening f opened date p) l
      → (l.length ≤ length l.bytes) × (l.length ≡ length (opening_text opening f opened date p))
  opening-fits l made =
      let room : length l.bytes ≡ 64 = line-room (opening_text opening f opened date p) opening-short l made in (
        omega (arith, room, line-fits (opening_text opening f opened date p) opening-short l made),
        line-long (opening_text opening f opened date p) opening-short l made,
      )

  -- it has a byte exactly where the opening is refused
  is-told : ltb 0 (length (opening_text opening f opened date p)) ≡ opening_refused opening f date p
  unfolding opening_text opening_refused refusal_told
  is-told = go (is_record f p) (eqb (opening (id_at f p) date).refusal 0)
    where
      go : (b e : Bool) → ltb 0 (length (cond b (cond e [] (refused_notice_text opened (opening (id_at f p) date).refusal (id_at f p))) [])) ≡ (b && not e)
      go true true = refl
      go true false = lt-ltb 0 _ (told-some opened (opening (id_at f p) date).refusal (id_at f p))
      go false e = refl

  -- one place more, by the length of its line
  pub refused-more : (b : Bool) → b ≡ some p (opening_refused opening f date) → (l : Line) → LineWith empty_line (opening_text opening f opened date p) l
      → (b || ltb 0 l.length) ≡ some (p + 1) (opening_refused opening f date)
  unfolding some
  refused-more b e l made = rw (e, (opening-fits l made).1, is-told, add-one p) refl

-- ---- place after place

-- of no places none is refused
pub refused_none : (test : ℕ → Bool) → false ≡ some 0 test
unfolding some
refused_none test = refl

-- of no places nothing is told
pub openings-none : (part : ℕ → List ℕ) (n : ℕ) → Grew n (length (parts_text part 0)) n
openings-none part n = omega (arith, parts_none part)

-- the lines of the first places and that of the next are those of one place more
pub openings-more : (part : ℕ → List ℕ) (p n m k : ℕ) → Grew n (length (parts_text part p)) m → Grew m (length (part p)) k
    → Grew n (length (parts_text part (p + 1))) k
openings-more part p n m k a b = omega (arith, a, b, parts_more part p)
