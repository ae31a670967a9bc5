-- A line of any length, fed byte by byte.
-- Assumes nothing.
use mathlib.Core.Path.{◌≡◌, refl, ◌∙◌, sym, ap, fun_ext}
use mathlib.Core.Bool.{Bool, true, false, cond, and-false}
use mathlib.Core.Logic.{◌⊎◌, inl, inr}
use mathlib.Core.List.{List, [], ◌∷◌, ◌++◌, append-nil}
use Prim.Native.Nat.{ℕ, zero, ◌+◌, ◌-◌, ◌≤◌, ◌<◌}
use native.Mathlib.Nat.{eq-or-lt_of_le}
use native.Mathlib.Numerals.{add-one}
use native.Mathlib.Omega.{arith}
use lib.Dec.{eqb, leb}
use lib.ListN.{get_or, set, length, take, drop, drop_of_length-le, replicate, length-set, length-append, length-replicate, get_or-replicate, get_or-append}
use lib.ListN.{get_or-eq_default}
use lib.Seq.{length-take-le, ext_get_or, get_or-take, get_or-append_seam, get_or-set_same, get_or-set_other, append_snoc, drop-cons}
use borrow.Author.Tests.{lt-ltb, le-ltb, lt-leb, ne_eqb}
use Rattle.questions.proofs.Bools.{lt-or-ge}
use Rattle.session_lines.specs.declared.Line.{Line}
use Rattle.session_lines.specs.CommandLines.{move_form, move_command, open_form, open_command, other_line, command_at, command_of, line_command, empty_line}
use Rattle.session_lines.specs.CommandLines.{extended, fed}

-- a line of 64 bytes or more is no command
no-open : (f : ℕ → ℕ) (k : ℕ) → 5 ≤ k → open_form f k ≡ false
unfolding open_form
no-open f k h = rw (lt-leb k 4 (omega arith)) (and-false (leb 1 k))

long-open : (f : ℕ → ℕ) (n : ℕ) → 64 ≤ n → open_command f n ≡ other_line
unfolding open_command
long-open f n h = rw (no-open f (n - 13) (omega arith)) refl

long-move : (f : ℕ → ℕ) (n : ℕ) → 64 ≤ n → move_command f n ≡ other_line
unfolding move_command move_form
long-move f n h = rw (ne_eqb n 12 (λ e. omega arith)) refl

long-line : (f : ℕ → ℕ) (n : ℕ) → 64 ≤ n → command_at f n ≡ other_line
unfolding command_at
long-line f n h = go (eqb (f 0) 79)
  where
    go : (b : Bool) → cond b (open_command f n) (move_command f n) ≡ other_line
    go true = long-open f n h
    go false = long-move f n h

-- a line that was fed the bytes of a list: all of them where there are fewer than 64
pub record Fed (l : Line) (bytes : List ℕ) : Type 0 where
  -- the line has fewer than 64 bytes
  pub short : length bytes < 64
  -- the length held is the number of bytes
  pub count : l.length ≡ length bytes
  -- every byte held is the byte of the line
  pub same : (i : ℕ) → get_or l.bytes i 0 ≡ get_or bytes i 0

pub record Holds (l : Line) (bytes : List ℕ) : Type 0 where
  -- the line has room for 64 bytes
  pub room : length l.bytes ≡ 64
  -- the line is held as it came, or it has 64 bytes or more and its length is held as 64
  pub holds : Fed l bytes ⊎ ((64 ≤ length bytes) × (l.length ≡ 64))

-- a place that is set, and the same place at the end of a list
module _ (a b : List ℕ) (byte : ℕ) (same : (i : ℕ) → get_or a i 0 ≡ get_or b i 0) (l : length b < length a) where
  set_same : (i : ℕ) → get_or (set a (length b) byte) i 0 ≡ get_or (b ++ (byte ∷ [])) i 0
  set_same i = go (lt-or-ge i (length b))
    where
      after : length b < i → get_or (set a (length b) byte) i 0 ≡ get_or (b ++ (byte ∷ [])) i 0
      after h =
          let n : length (b ++ (byte ∷ [])) ≡ length b + 1 = length-append b (byte ∷ []) in
          get_or-set_other a (length b) i byte 0 (λ e. omega arith) ∙ same i ∙ get_or-eq_default b 0 (omega arith) ∙
          sym (get_or-eq_default (b ++ (byte ∷ [])) 0 (omega arith))

      here : i ≡ length b → get_or (set a (length b) byte) i 0 ≡ get_or (b ++ (byte ∷ [])) i 0
      here e = rw e (get_or-set_same a (length b) byte 0 l ∙ sym (get_or-append_seam b byte [] 0))

      at : (length b ≡ i) ⊎ (length b < i) → get_or (set a (length b) byte) i 0 ≡ get_or (b ++ (byte ∷ [])) i 0
      at (inl e) = here (sym e)
      at (inr h) = after h

      go : (i < length b) ⊎ (length b ≤ i) → get_or (set a (length b) byte) i 0 ≡ get_or (b ++ (byte ∷ [])) i 0
      go (inl h) = get_or-set_other a (length b) i byte 0 (λ e. omega arith) ∙ same i ∙ sym (get_or-append b (byte ∷ []) 0 i h)
      go (inr h) = at (eq-or-lt_of_le h)

-- one byte more
more-short : (l : Line) (bytes : List ℕ) (byte : ℕ) → length l.bytes ≡ 64 → Fed l bytes → Holds (extended l byte) (bytes ++ (byte ∷ []))
unfolding extended
more-short l bytes byte r f =
    rw (lt-ltb l.length 64 (omega (arith, f.count, f.short)))
    (record { room = length-set l.bytes l.length byte ∙ r; holds = go (lt-or-ge (length bytes + 1) 64) })
  where
    n : length (bytes ++ (byte ∷ [])) ≡ length bytes + 1
    n = length-append bytes (byte ∷ [])

    next : Line
    next = record { bytes = set l.bytes l.length byte; length = l.length + 1 }

    go : (length bytes + 1 < 64) ⊎ (64 ≤ length bytes + 1) → Fed next (bytes ++ (byte ∷ [])) ⊎ ((64 ≤ length (bytes ++ (byte ∷ []))) × (next.length ≡ 64))
    go (inl h) =
        inl
        (record {
          short = omega (arith, n);
          count = omega (arith, n, f.count);
          same = λ i. ap (λ (k : ℕ). get_or (set l.bytes k byte) i 0) f.count ∙ set_same l.bytes bytes byte f.same (omega (arith, r, f.short)) i;
        })
    go (inr h) = inr (omega (arith, n), omega (arith, f.count, f.short))

more-long : (l : Line) (bytes : List ℕ) (byte : ℕ) → length l.bytes ≡ 64 → 64 ≤ length bytes → l.length ≡ 64
    → Holds (extended l byte) (bytes ++ (byte ∷ []))
unfolding extended
more-long l bytes byte r h e =
    rw (le-ltb l.length 64 (omega (arith, e)))
    (record { room = r; holds = inr (omega (arith, length-append bytes (byte ∷ [])), e) })

more : (l : Line) (bytes : List ℕ) (byte : ℕ) → Holds l bytes → Holds (extended l byte) (bytes ++ (byte ∷ []))
more l bytes byte h = go h.holds
  where
    go : Fed l bytes ⊎ ((64 ≤ length bytes) × (l.length ≡ 64)) → Holds (extended l byte) (bytes ++ (byte ∷ []))
    go (inl f) = more-short l bytes byte h.room f
    go (inr f) = more-long l bytes byte h.room f.0 f.1

all : (l : Line) (before bytes : List ℕ) → Holds l before → Holds (fed l bytes) (before ++ bytes)
unfolding fed
all l before [] h = rw (append-nil before) h
all l before (byte ∷ bytes) h =
    let e : (before ++ (byte ∷ [])) ++ bytes ≡ before ++ (byte ∷ bytes) = append_snoc before byte bytes in
    rw (← e) (all (extended l byte) (before ++ (byte ∷ [])) bytes (more l before byte h))

none : Holds empty_line []
unfolding empty_line
none = record { room = length-replicate {A = ℕ} 64 0; holds = inl (record { short = omega arith; count = refl; same = zeros }) }
  where
    zeros : (i : ℕ) → get_or (replicate 64 zero) i zero ≡ get_or [] i zero
    zeros i = go (lt-or-ge i 64)
      where
        go : (i < 64) ⊎ (64 ≤ i) → get_or (replicate 64 zero) i zero ≡ zero
        go (inl h) = get_or-replicate 64 i 0 0 h
        go (inr h) = get_or-eq_default (replicate 64 zero) 0 h

-- what an empty line holds that was fed byte by byte
pub fed-holds : (bytes : List ℕ) → Holds (fed empty_line bytes) bytes
fed-holds bytes = all empty_line [] bytes none

-- its bytes, up to its length
pub held : (l : Line) (bytes : List ℕ) → length l.bytes ≡ 64 → Fed l bytes → take l.length l.bytes ≡ bytes
held l bytes r f =
    let n : length (take l.length l.bytes) ≡ length bytes = length-take-le l.length l.bytes (omega (arith, f.count, f.short)) ∙ f.count in
    ext_get_or 0 (take l.length l.bytes) bytes n (λ i h. get_or-take l.length l.bytes i 0 (omega (arith, n, f.count)) ∙ f.same i)

-- a line of any length, fed byte by byte to an empty line, is the command that the definition says
pub any-length : (bytes : List ℕ) → line_command (fed empty_line bytes) ≡ command_of bytes
unfolding line_command command_of
any-length bytes = go (fed-holds bytes).holds
  where
    l : Line
    l = fed empty_line bytes

    go : Fed l bytes ⊎ ((64 ≤ length bytes) × (l.length ≡ 64))
        → command_at (λ i. get_or l.bytes i 0) l.length ≡ command_at (λ i. get_or bytes i 0) (length bytes)
    go (inl f) = ap (command_at (λ i. get_or l.bytes i 0)) f.count ∙ ap (λ (g : ℕ → ℕ). command_at g (length bytes)) (fun_ext f.same)
    go (inr f) = long-line (λ i. get_or l.bytes i 0) l.length (omega (arith, f.1)) ∙ sym (long-line (λ i. get_or bytes i 0) (length bytes) f.0)

-- it has no bytes exactly where it was fed none
pub any-empty : (bytes : List ℕ) → eqb (fed empty_line bytes).length 0 ≡ eqb (length bytes) 0
any-empty bytes = go (fed-holds bytes).holds
  where
    l : Line
    l = fed empty_line bytes

    go : Fed l bytes ⊎ ((64 ≤ length bytes) × (l.length ≡ 64)) → eqb l.length 0 ≡ eqb (length bytes) 0
    go (inl f) = ap (λ (n : ℕ). eqb n 0) f.count
    go (inr f) = ne_eqb l.length 0 (λ e. omega (arith, f.1)) ∙ sym (ne_eqb (length bytes) 0 (λ e. omega (arith, f.0)))

-- one byte more
pub fed-more : (l : Line) (bytes : List ℕ) (byte : ℕ) → fed l (bytes ++ (byte ∷ [])) ≡ extended (fed l bytes) byte
unfolding fed
fed-more l [] byte = refl
fed-more l (b ∷ bs) byte = fed-more (extended l b) bs byte

-- bytes after bytes
pub fed-append : (l : Line) (a b : List ℕ) → fed l (a ++ b) ≡ fed (fed l a) b
unfolding fed
fed-append l [] b = refl
fed-append l (byte ∷ a) b = fed-append (extended l byte) a b

-- a byte more where there is room for it
pub extended-is : (bytes : List ℕ) (n byte : ℕ) → n < 64
    → extended (record { bytes = bytes; length = n }) byte ≡ record { bytes = set bytes n byte; length = n + 1 }
unfolding extended
extended-is bytes n byte h = rw (lt-ltb n 64 h) refl

-- a line of 64 bytes stays as it is
pub fed-full : (l : Line) (bytes : List ℕ) → 64 ≤ l.length → fed l bytes ≡ l
unfolding fed extended
fed-full l [] h = refl
fed-full l (byte ∷ bytes) h = rw (le-ltb l.length 64 h) (fed-full l bytes h)

-- the byte at i comes next
fed-from : (l : Line) (bytes : List ℕ) (i : ℕ) → i < length bytes → fed (extended l (get_or bytes i 0)) (drop (i + 1) bytes) ≡ fed l (drop i bytes)
unfolding fed
fed-from l bytes i h = sym (rw (drop-cons bytes i 0 h, add-one) refl)

-- a byte that is written after those of a line with room is the next that it is fed
pub fed-step : (bytes begun : List ℕ) (n i : ℕ) → i < length bytes → n < 64
    → fed (record { bytes = set begun n (get_or bytes i 0); length = n + 1 }) (drop (i + 1) bytes) ≡ fed (record { bytes = begun; length = n }) (drop i bytes)
fed-step bytes begun n i h r =
    ap (λ (l : Line). fed l (drop (i + 1) bytes)) (sym (extended-is begun n (get_or bytes i 0) r)) ∙ fed-from (record { bytes = begun; length = n }) bytes i h

-- at the end nothing is left to be fed
pub fed-done : (l : Line) (bytes : List ℕ) (i : ℕ) → length bytes ≤ i → fed l (drop i bytes) ≡ l
unfolding fed
fed-done l bytes i h =
    let z : drop i bytes ≡ [] = drop_of_length-le bytes {i = i} h in
    rw z

-- a line that was fed fewer than 64 bytes has these bytes
pub fed-is : (bytes : List ℕ) → length bytes < 64
    → ((fed empty_line bytes).length ≡ length bytes) × (take (fed empty_line bytes).length (fed empty_line bytes).bytes ≡ bytes)
fed-is bytes h = go (fed-holds bytes).holds
  where
    l : Line
    l = fed empty_line bytes

    go : Fed l bytes ⊎ ((64 ≤ length bytes) × (l.length ≡ 64)) → (l.length ≡ length bytes) × (take l.length l.bytes ≡ bytes)
    go (inl f) = (f.count, held l bytes (fed-holds bytes).room f)
    go (inr f) = absurd (omega (arith, f.0))
