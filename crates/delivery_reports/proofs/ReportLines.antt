-- One line after the other in a lent buffer, from one key that differs to the next.
-- Assumes nothing.
use mathlib.Core.Path.{◌≡◌, refl, sym, ap, ◌∙◌}
use mathlib.Core.Bool.{Bool, true, false, cond, and-false}
use mathlib.Core.List.{List, ◌∷◌, ◌++◌, append_assoc}
use mathlib.Core.Logic.{◌⊎◌, inl, inr}
use Prim.Native.Nat.{ℕ, zero, suc, ◌+◌, ◌-◌, ◌≤◌, ◌<◌}
use native.Mathlib.Numerals.{add-one}
use native.Mathlib.Omega.{arith}
use lib.Dec.{leb, ltb}
use lib.ListN.{length, take, drop}
use lib.Seq.{drop-drop, paste, length-paste, take-paste, drop-paste}
use borrow.Author.Tests.{lt-ltb, le-ltb, ltb-true, le-leb, lt-leb, leb-true}
use Rattle.questions.specs.Search.{first_from}
use Rattle.questions.proofs.Bools.{both, and_both, clash, lt-or-ge}
use Rattle.questions.proofs.Search.{first-none}
use Rattle.listing.proofs.Lawful.{Found, first_found}
use Rattle.product.specs.declared.Kind.{Kind}
use Rattle.listing.specs.declared.Maturity.{Maturity}
use Rattle.session_lines.specs.declared.Line.{Line}
use Rattle.session_lines.specs.CommandLines.{empty_line}
use Rattle.session_lines.proofs.LineFeeding.{fed-holds, fed-is}
use Rattle.file_text_print.specs.Contents.{LineWith}
use Rattle.delivery_differences.specs.declared.DeliveredRow.{DeliveredRow}
use Rattle.delivery_differences.specs.declared.Difference.{Difference}
use Rattle.delivery_differences.specs.Differences.{differs_in, difference_of, next_difference, differing}
use Rattle.delivery_reports.specs.Reports.{difference_text, keys_text, differing_from, report_from, another_key, ReportLinesIn}
use Rattle.delivery_reports.proofs.ReportLengths.{difference-short}

-- ---- whether there is another

module _ (next : ℕ) (out : List ℕ) (k : ℕ) where
  -- there is no other line where no key is left
  pub no_more : 65536 ≤ next → false ≡ another_key next out k
  unfolding another_key
  no_more h = rw (le-ltb next 65536 h) refl

  -- there is no other line in a buffer of fewer than 64 bytes
  pub too_short : length out < 64 → false ≡ another_key next out k
  unfolding another_key
  too_short h = rw (lt-leb (k + 64) (length out) (omega arith)) (sym (and-false (ltb next 65536)))

  -- where a key is left and the buffer has 64 bytes, there is another line exactly where 64 bytes are free
  pub room-is : next < 65536 → 64 ≤ length out → leb k (length out - 64) ≡ another_key next out k
  unfolding another_key
  room-is h g = rw (lt-ltb next 65536 h) (go (lt-or-ge (length out) (k + 64)))
    where
      go : (length out < k + 64) ⊎ (k + 64 ≤ length out) → leb k (length out - 64) ≡ leb (k + 64) (length out)
      go (inl l) = lt-leb k (length out - 64) (omega arith) ∙ sym (lt-leb (k + 64) (length out) l)
      go (inr l) = le-leb k (length out - 64) (omega arith) ∙ sym (le-leb (k + 64) (length out) l)

  -- where there is another line, a key is left and 64 bytes are free
  pub has_more : {r : Bool} → r ≡ another_key next out k → r ≡ true → (next < 65536) × (k + 64 ≤ length out)
  unfolding another_key
  has_more e t =
      let b : (ltb next 65536 ≡ true) × (leb (k + 64) (length out) ≡ true) = both (ltb next 65536) (leb (k + 64) (length out)) (sym e ∙ t) in
      (ltb-true next 65536 b.0, leb-true (k + 64) (length out) b.1)

  more : next < 65536 → k + 64 ≤ length out → another_key next out k ≡ true
  unfolding another_key
  more h g = and_both (lt-ltb next 65536 h) (le-leb (k + 64) (length out) g)

-- ---- a line that was made

module _ (kind : Kind) (id : List ℕ) (k : ℕ) (d : Difference) (four : length id ≡ 4) (l : Line) (made : LineWith empty_line (difference_text kind id k d) l) where
  short : length (difference_text kind id k d) < 64
  short = difference-short kind id k d (omega arith)

  line-room : length l.bytes ≡ 64
  line-room = rw made.is (fed-holds (difference_text kind id k d)).room

  -- the line made of a key that differs has at most 64 bytes
  pub line-fits : l.length ≤ 64
  line-fits =
      let c : l.length ≡ length (difference_text kind id k d) = rw made.is (fed-is (difference_text kind id k d) short).0 in
      omega (arith, short)

  line-is : take l.length l.bytes ≡ difference_text kind id k d
  line-is = rw made.is (fed-is (difference_text kind id k d) short).1

-- ---- from key to key

module _ (listed : List Maturity) (rows : List DeliveredRow) where
  -- keys that do not differ have no line
  skipped : (n from next : ℕ) → next ≡ first_from (differs_in listed rows) 65536 n from → from + n ≡ 65536
      → differing listed rows n from ≡ differing_from listed rows next
  unfolding differing first_from
  skipped zero from next e s =
      let z : 65536 - next ≡ 0 = omega arith in
      sym (ap (λ (n : ℕ). differing listed rows n next) z)
  skipped (suc n) from next e s = go (differs_in listed rows from) refl e (skipped n (suc from) next)
    where
      there : differs_in listed rows from ≡ true → next ≡ from → differing listed rows (65536 - next) next ≡ from ∷ differing listed rows n (suc from)
      there d q =
          let z : 65536 - next ≡ suc n = omega arith in
          ap (λ (n : ℕ). differing listed rows n next) z ∙ ap (differing listed rows (suc n)) q ∙ rw d refl

      go : (b : Bool) → differs_in listed rows from ≡ b → next ≡ cond b from (first_from (differs_in listed rows) 65536 n (suc from))
          → (next ≡ first_from (differs_in listed rows) 65536 n (suc from) → suc from + n ≡ 65536
          → differing listed rows n (suc from) ≡ differing listed rows (65536 - next) next)
          → cond b (from ∷ differing listed rows n (suc from)) (differing listed rows n (suc from)) ≡ differing listed rows (65536 - next) next
      go true d e ih = sym (there d e)
      go false d e ih = ih e (omega arith)

  none : (a b : ℕ) → differing listed rows 0 a ≡ differing listed rows 0 b
  unfolding differing
  none a b = refl

  -- the keys that differ from a key on are those from the next key that differs on
  pub next-skips : (from next : ℕ) → next ≡ next_difference listed rows from → differing_from listed rows from ≡ differing_from listed rows next
  unfolding next_difference
  next-skips from next e = go (lt-or-ge 65536 from)
    where
      go : (65536 < from) ⊎ (from ≤ 65536) → differing_from listed rows from ≡ differing_from listed rows next
      go (inl h) =
          let z : 65536 - from ≡ 0 = omega arith in
          let q : next ≡ 65536 = e ∙ ap (λ (n : ℕ). first_from (differs_in listed rows) 65536 n from) z ∙ first-none (differs_in listed rows) 65536 from in
          let y : 65536 - next ≡ 0 = omega arith in
          ap (λ (n : ℕ). differing listed rows n from) z ∙ none from next ∙ sym (ap (λ (n : ℕ). differing listed rows n next) y)
      go (inr h) = skipped (65536 - from) from next e (omega arith)

  -- the next key that differs is at most 65,536
  pub next-most : (from next : ℕ) → next ≡ next_difference listed rows from → next ≤ 65536
  unfolding next_difference
  next-most from next e = go (first_found (differs_in listed rows) 65536 (65536 - from) from)
    where
      go : (first_from (differs_in listed rows) 65536 (65536 - from) from ≡ 65536)
          ⊎ Found (differs_in listed rows) (65536 - from) from (first_from (differs_in listed rows) 65536 (65536 - from) from) → next ≤ 65536
      go (inl q) = omega arith
      go (inr w) = omega (arith, w.below, w.from)

  -- the next key that differs from a key of at most 65,536 on is not below that key
  pub next-on : (from next : ℕ) → next ≡ next_difference listed rows from → from ≤ 65536 → from ≤ next
  unfolding next_difference
  next-on from next e h = go (first_found (differs_in listed rows) 65536 (65536 - from) from)
    where
      go : (first_from (differs_in listed rows) 65536 (65536 - from) from ≡ 65536)
          ⊎ Found (differs_in listed rows) (65536 - from) from (first_from (differs_in listed rows) 65536 (65536 - from) from) → from ≤ next
      go (inl q) = omega arith
      go (inr w) = omega (arith, w.from)

  next-from : (from next : ℕ) → next ≡ next_difference listed rows from → next < 65536 → from ≤ next
  unfolding next_difference
  next-from from next e h = go (first_found (differs_in listed rows) 65536 (65536 - from) from)
    where
      go : (first_from (differs_in listed rows) 65536 (65536 - from) from ≡ 65536)
          ⊎ Found (differs_in listed rows) (65536 - from) from (first_from (differs_in listed rows) 65536 (65536 - from) from) → from ≤ next
      go (inl q) = absurd (omega arith)
      go (inr w) = omega (arith, w.from)

  next-differs : (from next : ℕ) → next ≡ next_difference listed rows from → next < 65536 → differs_in listed rows next ≡ true
  unfolding next_difference
  next-differs from next e h = go (first_found (differs_in listed rows) 65536 (65536 - from) from)
    where
      go : (first_from (differs_in listed rows) 65536 (65536 - from) from ≡ 65536)
          ⊎ Found (differs_in listed rows) (65536 - from) from (first_from (differs_in listed rows) 65536 (65536 - from) from) → differs_in listed rows next ≡ true
      go (inl q) = absurd (omega arith)
      go (inr w) = ap (differs_in listed rows) e ∙ w.passes

  one_more : (k : ℕ) → k < 65536 → differs_in listed rows k ≡ true → differing_from listed rows k ≡ k ∷ differing_from listed rows (k + 1)
  unfolding differing
  one_more k h d =
      let z : 65536 - k ≡ suc (65536 - (k + 1)) = omega arith in
      ap (λ (n : ℕ). differing listed rows n k) z ∙ rw (d, add-one k) refl

module _ (kind : Kind) (id : List ℕ) (listed : List Maturity) (rows : List DeliveredRow) where
  key-line : (k : ℕ) → k < 65536 → differs_in listed rows k ≡ true
      → report_from kind id listed rows k ≡ difference_text kind id k (difference_of listed rows k) ++ report_from kind id listed rows (k + 1)
  unfolding report_from keys_text
  key-line k h d = ap (keys_text kind id listed rows) (one_more listed rows k h d)

  skip-lines : (from next : ℕ) → next ≡ next_difference listed rows from → report_from kind id listed rows from ≡ report_from kind id listed rows next
  unfolding report_from
  skip-lines from next e = ap (keys_text kind id listed rows) (next-skips listed rows from next e)

-- ---- line by line

pub record Printing (kind : Kind) (id : List ℕ) (listed : List Maturity) (rows : List DeliveredRow) (from : ℕ) (before : List ℕ) (next n lines : ℕ)
    (out : List ℕ) : Type 0 where
  -- what was written and the lines that are left are all lines
  pub is : report_from kind id listed rows from ≡ take n out ++ report_from kind id listed rows next
  -- the keys that differ are as many as the lines written and those left
  pub written : length (differing_from listed rows from) ≡ lines + length (differing_from listed rows next)
  -- what was written fits the buffer
  pub fits : n ≤ length out
  -- after what was written the buffer is unchanged
  pub unchanged : drop n out ≡ drop n before
  -- the buffer keeps its length
  pub long : length out ≡ length before
  -- nothing is written yet and the next key, where there is one, is not below the first, or it is past the first
  pub on : ((n ≡ 0) × (next < 65536 → from ≤ next)) ⊎ (from < next)
  -- the next key is at most 65,536
  pub within : next ≤ 65536
  -- the lines written are at most as many as the number of the next key
  pub few : lines ≤ next
  -- the next key, where there is one, differs
  pub differs : next < 65536 → differs_in listed rows next ≡ true

module _ (kind : Kind) (id : List ℕ) (four : length id ≡ 4) (listed : List Maturity) (rows : List DeliveredRow) (from : ℕ) (before : List ℕ) where
  -- before the first line nothing is written, and the next key is the first that differs
  pub begins : (next : ℕ) → next ≡ next_difference listed rows from → Printing kind id listed rows from before next 0 0 before
  begins next e =
      record {
        is = skip-lines kind id listed rows from next e;
        written = omega (arith, ap length (next-skips listed rows from next e));
        fits = omega arith;
        unchanged = refl;
        long = refl;
        on = inl (refl, next-from listed rows from next e);
        within = next-most listed rows from next e;
        few = omega arith;
        differs = next-differs listed rows from next e;
      }

  module _ (next n lines : ℕ) (out : List ℕ) (g : Printing kind id listed rows from before next n lines out) {b : Bool} (s : b ≡ another_key next out n) where
    -- where there is another line, it is written after those before it, and the next key that differs follows
    pub goes : b ≡ true → (l : Line) → LineWith empty_line (difference_text kind id next (difference_of listed rows next)) l → (r : ℕ) (after : List ℕ)
        → r ≡ n + l.length → after ≡ paste out n l.bytes l.length → (then : ℕ) → then ≡ next_difference listed rows (next + 1)
        → Printing kind id listed rows from before then r (lines + 1) after
    goes t l e r after p a then q =
        let m : (next < 65536) × (n + 64 ≤ length out) = has_more next out n s t in
        let d : differs_in listed rows next ≡ true = g.differs m.0 in
        let k : length l.bytes ≡ 64 = line-room kind id next (difference_of listed rows next) four l e in
        let w : l.length ≤ 64 = line-fits kind id next (difference_of listed rows next) four l e in
        let x : take r after ≡ take n out ++ difference_text kind id next (difference_of listed rows next) =
        rw (p, a) (take-paste out n l.bytes l.length g.fits (omega (arith, k, w)) ∙
        ap (λ (t : List ℕ). take n out ++ t) (line-is kind id next (difference_of listed rows next) four l e)) in
        let len : length after ≡ length out = rw a (length-paste out n l.bytes l.length (omega (arith, w, m.1)) (omega (arith, k, w))) in
        let u : next + 1 ≤ then = next-on listed rows (next + 1) then q (omega (arith, m.0)) in
        record {
          is = g.is ∙ ap (λ (t : List ℕ). take n out ++ t)
              (key-line kind id listed rows next m.0 d ∙
              ap (λ (t : List ℕ). difference_text kind id next (difference_of listed rows next) ++ t) (skip-lines kind id listed rows (next + 1) then q))
              ∙ sym (append_assoc (take n out) (difference_text kind id next (difference_of listed rows next)) (report_from kind id listed rows then))
              ∙ ap (λ (t : List ℕ). t ++ report_from kind id listed rows then) (sym x);
          written = omega (arith, g.written, ap length (one_more listed rows next m.0 d), ap length (next-skips listed rows (next + 1) then q));
          fits = omega (arith, p, w, m.1, len);
          unchanged = rw (p, a)
              (drop-paste out n l.bytes l.length g.fits (omega (arith, k, w))
              ∙ sym (drop-drop l.length n out) ∙ ap (drop l.length) g.unchanged ∙ drop-drop l.length n before);
          long = len ∙ g.long;
          on = inr (later g.on u m.0);
          within = next-most listed rows (next + 1) then q;
          few = omega (arith, u, g.few);
          differs = next-differs listed rows (next + 1) then q;
        }
      where
        later : ((n ≡ 0) × (next < 65536 → from ≤ next)) ⊎ (from < next) → next + 1 ≤ then → next < 65536 → from < then
        later (inl h) u m = omega (arith, h.1 m)
        later (inr h) u m = omega arith

    -- where there is no other line, the lines of the keys from the first to the next stand in the buffer
    pub ends : b ≡ false → ReportLinesIn kind id listed rows from before out (record { next = next; length = n; lines = lines })
    ends t =
        record {
          is = g.is;
          lines = g.written;
          fits = g.fits;
          unchanged = g.unchanged;
          long = g.long;
          moves = λ h l. moved g.on h l;
          within =
              g.within;
        }
      where
        moved : ((n ≡ 0) × (next < 65536 → from ≤ next)) ⊎ (from < next) → 64 ≤ length before → from < 65536 → from < next
        moved (inl d) h l = still (lt-or-ge next 65536)
          where
            still : (next < 65536) ⊎ (65536 ≤ next) → from < next
            still (inl z) = clash (s ∙ more next out n z (omega (arith, d.0, g.long))) t
            still (inr z) = omega arith
        moved (inr d) h l = d
