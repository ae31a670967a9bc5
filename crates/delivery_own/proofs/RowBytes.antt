-- The bytes that a row is printed with are no separators, quotes, blanks or line feeds: so its fields and its line end where they were ended.
-- Assumes nothing.
use mathlib.Core.Path.{◌≡◌, refl, sym, ap, ◌∙◌}
use mathlib.Core.List.{List, [], ◌∷◌, ◌++◌, append-nil}
use mathlib.Core.Bool.{Bool, true, false, not, ◌&&◌, and-false}
use Prim.Native.Nat.{ℕ, ◌≤◌}
use native.Mathlib.Omega.{arith}
use lib.Dec.{eqb, leb}
use lib.ListN.{length}
use lib.Seq.{append_snoc}
use borrow.Author.Tests.{leb-true, le-leb, eqb-false, ne_eqb, not-true}
use Rattle.questions.proofs.Bools.{both, and_both}
use Rattle.session_lines.specs.CommandLines.{lines_from}
use Rattle.delivery_lines.specs.NoticeLines.{blank, trimmed}
use Rattle.delivery_items.specs.Items.{separator, fields_from, fields_of, unquoted}

-- each byte of a list passes
unfoldable pub all_of : (ℕ → Bool) → List ℕ → Bool
all_of test [] = true
all_of test (byte ∷ rest) = test byte && all_of test rest

-- a byte of a field: the hyphen, the digits and the letters pass
unfoldable pub plain : ℕ → Bool
plain byte = leb 45 byte && not (eqb byte 59)

-- a byte of a row's line: the comma passes too
unfoldable pub in_row : ℕ → Bool
in_row byte = leb 44 byte

-- a test that holds of all bytes of two lists holds of the one followed by the other
pub all_append : (test : ℕ → Bool) (a b : List ℕ) → all_of test a ≡ true → all_of test b ≡ true → all_of test (a ++ b) ≡ true
unfolding all_of
all_append test [] b p q = q
all_append test (x ∷ a) b p q =
    let s = both (test x) (all_of test a) p in
    and_both s.0 (all_append test a b s.1 q)

-- a test that holds of a byte and of all bytes of a list holds of the list with that byte first
pub all_more : (test : ℕ → Bool) (byte : ℕ) (rest : List ℕ) → test byte ≡ true → all_of test rest ≡ true → all_of test (byte ∷ rest) ≡ true
unfolding all_of
all_more test byte rest p q = and_both p q

-- any test holds of all bytes of an empty list
pub all_none : (test : ℕ → Bool) → all_of test [] ≡ true
unfolding all_of
all_none test = refl

-- a byte from the hyphen on that is no semicolon is one of a field
pub plain-is : (byte : ℕ) → 45 ≤ byte → (byte ≡ 59 → ⊥) → plain byte ≡ true
unfolding plain
plain-is byte a b = rw (le-leb 45 byte a, ne_eqb byte 59 b)

plain-facts : (byte : ℕ) → plain byte ≡ true → (45 ≤ byte) × (byte ≡ 59 → ⊥)
unfolding plain
plain-facts byte e =
    let s = both (leb 45 byte) (not (eqb byte 59)) e in
    (leb-true 45 byte s.0, eqb-false byte 59 (not-true (eqb byte 59) s.1))

-- the comma is a byte of a row's line
pub comma-in : in_row 44 ≡ true
unfolding in_row
comma-in = refl

in-least : (byte : ℕ) → in_row byte ≡ true → 44 ≤ byte
unfolding in_row
in-least byte e = leb-true 44 byte e

plain_in : (byte : ℕ) → plain byte ≡ true → in_row byte ≡ true
unfolding in_row
plain_in byte e =
    let a : 45 ≤ byte = (plain-facts byte e).0 in
    le-leb 44 byte (omega arith)

-- bytes of a field are bytes of a row's line
pub field_in : (xs : List ℕ) → all_of plain xs ≡ true → all_of in_row xs ≡ true
unfolding all_of
field_in [] e = refl
field_in (x ∷ xs) e =
    let s = both (plain x) (all_of plain xs) e in
    and_both (plain_in x s.0) (field_in xs s.1)

-- ---- fields

no-separator : (byte : ℕ) → plain byte ≡ true → separator byte ≡ false
no-separator byte e =
    let a : 45 ≤ byte = (plain-facts byte e).0 in
    rw (ne_eqb byte 44 (λ q. omega arith), ne_eqb byte 59 (plain-facts byte e).1, ne_eqb byte 9 (λ q. omega arith))

fields-pass : (begun xs rest : List ℕ) → all_of plain xs ≡ true → fields_from begun (xs ++ rest) ≡ fields_from (begun ++ xs) rest
unfolding fields_from all_of
fields-pass begun [] rest e = ap (λ (w : List ℕ). fields_from w rest) (sym (append-nil begun))
fields-pass begun (x ∷ xs) rest e =
    let s = both (plain x) (all_of plain xs) e in
    rw (no-separator x s.0)
    (fields-pass (begun ++ (x ∷ [])) xs rest s.1 ∙ ap (λ (w : List ℕ). fields_from w rest) (append_snoc begun x xs))

-- a field, a comma and a rest have that field first, and then the fields of the rest
pub field_next : (xs rest : List ℕ) → all_of plain xs ≡ true → fields_of (xs ++ (44 ∷ rest)) ≡ xs ∷ fields_of rest
unfolding fields_from
field_next xs rest e = fields-pass [] xs (44 ∷ rest) e

-- a field alone is the only one
pub field-last : (xs : List ℕ) → all_of plain xs ≡ true → fields_of xs ≡ xs ∷ []
unfolding fields_from
field-last xs e = ap fields_of (sym (append-nil xs)) ∙ fields-pass [] xs [] e

no-quote : (byte : ℕ) → plain byte ≡ true → eqb byte 34 ≡ false
no-quote byte e =
    let a : 45 ≤ byte = (plain-facts byte e).0 in
    ne_eqb byte 34 (λ q. omega arith)

-- a field has no quotes to take off
pub no-quotes : (xs : List ℕ) → all_of plain xs ≡ true → unquoted xs ≡ xs
unfolding unquoted all_of
no-quotes [] e = refl
no-quotes (x ∷ xs) e =
    let s = both (plain x) (all_of plain xs) e in
    rw (no-quote x s.0, and-false (leb 2 (length (x ∷ xs)))) refl

-- ---- lines

no-blank : (byte : ℕ) → in_row byte ≡ true → blank byte ≡ false
no-blank byte e =
    let a : 44 ≤ byte = in-least byte e in
    rw (ne_eqb byte 32 (λ q. omega arith), ne_eqb byte 9 (λ q. omega arith), ne_eqb byte 13 (λ q. omega arith))

-- there is no blank at its end
pub no-blanks : (xs : List ℕ) → all_of in_row xs ≡ true → trimmed xs ≡ xs
unfolding trimmed all_of
no-blanks [] e = refl
no-blanks (x ∷ xs) e =
    let s = both (in_row x) (all_of in_row xs) e in
    rw (no-blank x s.0) (ap (λ (w : List ℕ). x ∷ w) (no-blanks xs s.1))

no-feed : (byte : ℕ) → in_row byte ≡ true → eqb byte 10 ≡ false
no-feed byte e =
    let a : 44 ≤ byte = in-least byte e in
    ne_eqb byte 10 (λ q. omega arith)

lines-pass : (begun xs rest : List ℕ) → all_of in_row xs ≡ true → lines_from begun (xs ++ rest) ≡ lines_from (begun ++ xs) rest
unfolding lines_from all_of
lines-pass begun [] rest e = ap (λ (w : List ℕ). lines_from w rest) (sym (append-nil begun))
lines-pass begun (x ∷ xs) rest e =
    let s = both (in_row x) (all_of in_row xs) e in
    rw (no-feed x s.0)
    (lines-pass (begun ++ (x ∷ [])) xs rest s.1 ∙ ap (λ (w : List ℕ). lines_from w rest) (append_snoc begun x xs))

-- and no line feed within it
pub one_line : (xs rest : List ℕ) → all_of in_row xs ≡ true → lines_from [] (xs ++ (10 ∷ rest)) ≡ xs ∷ lines_from [] rest
unfolding lines_from
one_line xs rest e = lines-pass [] xs (10 ∷ rest) e
