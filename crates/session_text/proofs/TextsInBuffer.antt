-- Texts written one after the other.
-- Assumes nothing.
use mathlib.Core.Path.{◌≡◌, refl, ◌∙◌, sym, ap}
use mathlib.Core.Bool.{true, false}
use mathlib.Core.List.{List, [], ◌∷◌, ◌++◌, append_assoc}
use mathlib.Core.Logic.{◌⊎◌, inl, inr}
use Prim.Native.Nat.{ℕ, suc, ◌+◌, ◌-◌, ◌≤◌, ◌<◌}
use lib.Dec.{leb}
use native.Mathlib.Nat.{add-zero}
use native.Mathlib.Omega.{arith}
use borrow.Author.Tests.{leb-true, le-leb, lt-leb}
use lib.ListN.{length, set, take, drop, length-set, length-append}
use Rattle.questions.proofs.Bools.{lt-or-ge}
use lib.Seq.{sets, sets-eq}
use Rattle.session_text.specs.Buffer.{Written, roomy, Printed}

sets-append : (buffer : List ℕ) (at : ℕ) (a b : List ℕ) → sets buffer at (a ++ b) ≡ sets (sets buffer at a) (at + length a) b
sets-append buffer at [] b = ap (λ (n : ℕ). sets buffer n b) (sym (add-zero at))
sets-append buffer at (x ∷ a) b =
    sets-append (set buffer at x) (suc at) a b ∙ ap (λ (n : ℕ). sets (sets (set buffer at x) (suc at) a) n b) (omega arith)

-- one byte
pub one_byte : (buffer : List ℕ) (at byte : ℕ) → Written buffer (set buffer at byte) at (at + 1) (byte ∷ [])
one_byte buffer at byte = record { is = refl; to = refl; long = length-set buffer at byte }

-- one text after another
pub then : {a b c : List ℕ} {at m n : ℕ} {t u : List ℕ} → Written a b at m t → Written b c m n u → Written a c at n (t ++ u)
then {a} {b} {c} {at} {m} {n} {t} {u} x y =
    record {
      is = y.is ∙ ap (λ (k : ℕ). sets b k u) x.to ∙ ap (λ (k : List ℕ). sets k (at + length t) u) x.is ∙ sym (sets-append a at t u);
      to = omega (arith, x.to, y.to, length-append t u);
      long = y.long ∙ x.long;
    }

-- with room
pub printed : {a b : List ℕ} {at n : ℕ} {t : List ℕ} → roomy a at ≡ true → Written a b at n t → n ≤ at + 512 → Printed a b at n t
unfolding roomy
printed {a} {b} {at} {n} {t} r w h =
    record {
      is = rw r (w.is ∙ sets-eq t a at (omega (arith, w.to, leb-true (at + 512) (length a) r)) ∙ append_assoc (take at a) t (drop (at + length t) a));
      to = rw r w.to;
      long = w.long;
    }

-- a buffer with room has 512 places from there on
pub room-long : (a : List ℕ) (at : ℕ) → roomy a at ≡ true → at + 512 ≤ length a
unfolding roomy
room-long a at r = leb-true (at + 512) (length a) r

-- the code's test is the definition's
pub no_room : (a : List ℕ) (at : ℕ) → length a < 512 → roomy a at ≡ false
unfolding roomy
no_room a at h = lt-leb (at + 512) (length a) (omega arith)

-- the code's comparison for room in a buffer of 512 or more is the room as stated
pub room-is : (a : List ℕ) (at : ℕ) → 512 ≤ length a → leb at (length a - 512) ≡ roomy a at
unfolding roomy
room-is a at h = go (lt-or-ge (length a) (at + 512))
  where
    go : (length a < at + 512) ⊎ (at + 512 ≤ length a) → leb at (length a - 512) ≡ leb (at + 512) (length a)
    go (inl l) = lt-leb at (length a - 512) (omega arith) ∙ sym (lt-leb (at + 512) (length a) l)
    go (inr l) = le-leb at (length a - 512) (omega arith) ∙ sym (le-leb (at + 512) (length a) l)

-- without room
pub unprinted : {a : List ℕ} {at : ℕ} {t : List ℕ} → roomy a at ≡ false → Printed a a at at t
unprinted r = record { is = rw r refl; to = rw r refl; long = refl }
