-- Records at the start of a lent buffer: one more, and what stays as it was.
-- Assumes nothing.
use mathlib.Core.Path.{◌≡◌, refl, sym, ap, ◌∙◌}
use mathlib.Core.List.{List, ◌++◌}
use mathlib.Core.Logic.{◌⊎◌, inl, inr}
use Prim.Native.Nat.{ℕ, ◌+◌, ◌-◌, ◌≤◌, ◌<◌}
use native.Mathlib.Omega.{arith}
use lib.ListN.{length, take, drop}
use lib.Seq.{length-take-le, take_all, drop-drop, paste, length-paste, take-paste, drop-paste}
use borrow.Author.Tests.{le-leb, lt-leb, eq-eqb, ne_eqb}
use Rattle.questions.proofs.Bools.{lt-or-ge}
use Rattle.file_text_lines.specs.declared.Entry.{Entry}
use Rattle.file_text_read.specs.Lists.{with_record, records_after, Grown, RecordsIn}

-- nothing stored
pub stays : (b : List ℕ) (size : ℕ) → Grown b b size size
stays b size = record { more = omega arith; within = λ h. h; past = λ h. refl; long = refl; unchanged = refl }

-- once more
pub grows-on : {a b c : List ℕ} {n m k : ℕ} → Grown a b n m → Grown b c m k → Grown a c n k
grows-on {a = a} {b = b} {n = n} {m = m} {k = k} g h =
    let more : m + (k - m) ≡ k = omega (arith, h.more) in
    let from : (l : List ℕ) → drop k l ≡ drop (k - m) (drop m l) = λ l. rw (drop-drop (k - m) m l, more) refl in
    record {
      more = omega (arith, g.more, h.more);
      within = λ w. h.within (g.within w);
      past =
          λ p.
          let e : m ≡ n = g.past p in
          h.past (omega (arith, g.long, e)) ∙ e;
      long = h.long ∙ g.long;
      unchanged = h.unchanged ∙ from b ∙ ap (drop (k - m)) g.unchanged ∙ sym (from a);
    }

-- at most as many as the buffer has
take-most : (n : ℕ) (b : List ℕ) → (length (take n b) ≡ n) ⊎ (take n b ≡ b)
take-most n b = go (lt-or-ge n (length b))
  where
    go : (n < length b) ⊎ (length b ≤ n) → (length (take n b) ≡ n) ⊎ (take n b ≡ b)
    go (inl h) = inl (length-take-le n b (omega arith))
    go (inr h) = inr (take_all n b h)

module _ (b : List ℕ) (size : ℕ) (one : List ℕ) where
  -- without room nothing is stored
  left_out : length b < length (take size b) + 32 → RecordsIn b b size size (with_record (length b) (take size b) one)
  unfolding with_record
  left_out h = record { is = rw (lt-leb (length (take size b) + 32) (length b) h) refl; buffer = stays b size }

  -- a buffer of fewer than 32 bytes takes no record and stays as it is
  pub too_short : length b < 32 → RecordsIn b b size size (with_record (length b) (take size b) one)
  too_short h = left_out (omega arith)

  -- a buffer with fewer than 32 bytes after its records takes no further record and stays as it is
  pub no_room : length b - 32 < size → RecordsIn b b size size (with_record (length b) (take size b) one)
  no_room h = left_out (go (take-most size b))
    where
      go : (length (take size b) ≡ size) ⊎ (take size b ≡ b) → length b < length (take size b) + 32
      go (inl e) = omega (arith, e)
      go (inr e) = omega (arith, ap length e)

  -- with room
  pub stored : size + 32 ≤ length b → length one ≡ 32 → RecordsIn b (paste b size one 32) size (size + 32) (with_record (length b) (take size b) one)
  unfolding with_record
  stored h l =
      let n : length (take size b) ≡ size = length-take-le size b (omega arith) in
      record {
        is = rw (le-leb (length (take size b) + 32) (length b) (omega (arith, n)))
            (take-paste b size one 32 (omega arith) (omega (arith, l)) ∙ ap (λ (r : List ℕ). take size b ++ r) (take_all 32 one (omega (arith, l))));
        buffer =
            record {
              more = omega arith;
              within = λ _. omega (arith, h, length-paste b size one 32 h (omega (arith, l)));
              past = λ p. absurd (omega (arith, p, h));
              long = length-paste b size one 32 h (omega (arith, l));
              unchanged = drop-paste b size one 32 (omega arith) (omega (arith, l));
            };
      }

-- by the entry's letter
module _ (b : List ℕ) (size : ℕ) (e : Entry) where
  -- a line that is no product adds no record, and the buffer stays as it is
  pub no-product : (e.letter ≡ 80 → ⊥) → RecordsIn b b size size (records_after (length b) (take size b) e)
  unfolding records_after
  no-product n = record { is = rw (ne_eqb e.letter 80 n) refl; buffer = stays b size }

  -- a line of a product adds its record where there is room for it
  pub one_product : (after : List ℕ) (r : ℕ) → e.letter ≡ 80 → RecordsIn b after size r (with_record (length b) (take size b) e.«record»)
      → RecordsIn b after size r (records_after (length b) (take size b) e)
  unfolding records_after
  one_product after r p s = rw (eq-eqb e.letter 80 p) s
