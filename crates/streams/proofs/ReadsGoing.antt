-- Reads that go on until they have brought enough: what holds after some of them, and at the end.
-- Assumes nothing.
use Rattle.std.proofs.Common.{◌≡◌, ℕ, zero, suc, ◌+◌, ◌-◌, ◌%◌, ◌^◌, ◌<◌, ◌≤◌, Bool, true, false, ◌&&◌, eqb, ltb, ◌⊎◌, List, length, sym, refl, ap}
use Rattle.std.proofs.Common.{◌∙◌, inl, inr, true≢false, arith, ltb-true, eqb-true}
use borrow.Author.Tests.{eqb-false}
use Rattle.io.proofs.Counting.{prefix_len_of_le}
use Rattle.streams.specs.declared.calls.Transfer.{Transfer}
use Rattle.streams.specs.declared.reads.Input.{Input}
use Rattle.streams.specs.declared.reads.Part.{Part}
use Rattle.streams.specs.Inputs.{input_after, ReadOn}

-- ---- the loop's test

both : (a b : Bool) → (a && b) ≡ true → (a ≡ true) × (b ≡ true)
both true b e = (refl, e)
both false b e = absurd (true≢false (sym e))

-- more is asked for, there is room for it, and a read is left
pub test-yes : (n enough room left : ℕ) → (ltb n enough && (ltb n room && ltb 0 left)) ≡ true → (n < enough) × (n < room) × (0 < left)
test-yes n enough room left e =
    let p = both (ltb n enough) (ltb n room && ltb 0 left) e in
    let q = both (ltb n room) (ltb 0 left) p.1 in
    (ltb-true n enough p.0, ltb-true n room q.0, ltb-true 0 left q.1)

-- ---- the reads

-- after some reads: each brought a byte or more, or the last one brought none though more was asked for
pub record Going (i so : Input) (enough room n : ℕ) : Type 0 where
  pub count : so.bytes ≡ (i.bytes + n) % 2 ^ 64
  pub fewer : so.left ≤ i.left
  pub moved : (so.left < i.left) ⊎ (n ≡ 0)
  pub all : ((i.left ≤ so.left + n) × (so.failed ≡ i.failed)) ⊎ ((so.left ≡ 0) × (n < enough) × (n < room))

-- before the first read
pub none_made : (i : Input) (enough room : ℕ) → i.bytes < 2 ^ 64 → Going i i enough room 0
none_made i enough room h = record { count = omega (arith, h); fewer = omega arith; moved = inr refl; all = inl (omega arith, refl) }

some : (n : ℕ) → (n ≡ 0 → ⊥) → 0 < n
some zero h = absurd (h refl)
some (suc n) h = omega arith

module _ (i so : Input) (enough room n : ℕ) (g : Going i so enough room n) (a : n < enough) (b : n < room) (l : 0 < so.left) (t : Transfer) (next : Input)
    (e : next ≡ input_after so t) (m : ℕ) (p : m ≡ n + t.length) where
  each : ((i.left ≤ so.left + n) × (so.failed ≡ i.failed)) ⊎ ((so.left ≡ 0) × (n < enough) × (n < room))
      → (i.left ≤ so.left + n) × (so.failed ≡ i.failed)
  each (inl x) = x
  each (inr x) = absurd (omega (arith, x.0, l))

  -- one read more
  pub one-made : Going i next enough room m
  unfolding input_after
  one-made = go (eqb t.length 0) refl
    where
      go : (x : Bool) → eqb t.length 0 ≡ x → Going i next enough room m
      go true x =
          let z : t.length ≡ 0 = eqb-true t.length 0 x in
          let q : next ≡ record { left = 0; bytes = so.bytes; failed = t.failed } = e ∙ rw x refl in
          let k : next.left ≡ 0 = ap (λ (u : Input). u.left) q in
          let c : next.bytes ≡ so.bytes = ap (λ (u : Input). u.bytes) q in
          let f : so.left ≤ i.left = g.fewer in
          record {
            count = omega (arith, c, g.count, p, z);
            fewer = omega (arith, k);
            moved = inl (omega (arith, k, l, f));
            all = inr (k, omega (arith, p, z, a), omega (arith, p, z, b));
          }
      go false x =
          let q : next ≡ record { left = so.left - 1; bytes = (so.bytes + t.length) % 2 ^ 64; failed = so.failed } = e ∙ rw x refl in
          let k : next.left ≡ so.left - 1 = ap (λ (u : Input). u.left) q in
          let c : next.bytes ≡ (so.bytes + t.length) % 2 ^ 64 = ap (λ (u : Input). u.bytes) q in
          let y = each g.all in
          let w : i.left ≤ so.left + n = y.0 in
          let f : so.left ≤ i.left = g.fewer in
          let s : 0 < t.length = some t.length (eqb-false t.length 0 x) in
          record {
            count = omega (arith, c, g.count, p);
            fewer = omega (arith, k, f);
            moved = inl (omega (arith, k, l, f));
            all = inl (omega (arith, k, l, w, p, s), ap (λ (u : Input). u.failed) q ∙ y.1);
          }

-- so the reads that are left become fewer
pub falls : (so : Input) (t : Transfer) (next : Input) → 0 < so.left → next ≡ input_after so t → next.left < so.left
unfolding input_after
falls so t next l e = go (eqb t.length 0) refl
  where
    go : (x : Bool) → eqb t.length 0 ≡ x → next.left < so.left
    go true x =
        let q : next ≡ record { left = 0; bytes = so.bytes; failed = t.failed } = e ∙ rw x refl in
        let k : next.left ≡ 0 = ap (λ (u : Input). u.left) q in
        omega (arith, k, l)
    go false x =
        let q : next ≡ record { left = so.left - 1; bytes = (so.bytes + t.length) % 2 ^ 64; failed = so.failed } = e ∙ rw x refl in
        let k : next.left ≡ so.left - 1 = ap (λ (u : Input). u.left) q in
        omega (arith, k, l)

-- the end: no read is left, or enough has come, or the buffer is full
pub all_made : (i : Input) (enough room : ℕ) (buffer : List ℕ) (r : Part) → length buffer ≡ room → Going i r.input enough room r.length
    → r.length ≤ length buffer
    → (r.length < enough → r.length < length buffer → r.input.left ≡ 0) → ReadOn i enough buffer r
all_made i enough room buffer r q g h stop =
    record { within = prefix_len_of_le r.length buffer h; count = g.count; ended = stop; goes = goes g.all; fewer = fewer g.moved }
  where
    goes : ((i.left ≤ r.input.left + r.length) × (r.input.failed ≡ i.failed)) ⊎ ((r.input.left ≡ 0) × (r.length < enough) × (r.length < room))
        → (enough ≤ r.length) ⊎ (length buffer ≤ r.length) → (i.left ≤ r.input.left + r.length) × (r.input.failed ≡ i.failed)
    goes (inl x) y = x
    goes (inr x) (inl y) = absurd (omega (arith, x.1, y))
    goes (inr x) (inr y) = absurd (omega (arith, x.2, y, q))

    fewer : (r.input.left < i.left) ⊎ (r.length ≡ 0) → 0 < enough → 0 < length buffer → 0 < i.left → r.input.left < i.left
    fewer (inl x) a b c = x
    fewer (inr x) a b c = let z : r.input.left ≡ 0 = stop (omega (arith, x, a)) (omega (arith, x, b)) in omega (arith, z, c)
