-- One notice more in two lists: the places before it are untouched, and its own are read back.
-- Assumes nothing.
use mathlib.Core.Path.{◌≡◌, refl, ◌∙◌, sym, ap}
use mathlib.Core.List.{List, [], ◌∷◌, ◌++◌}
use Prim.Native.Nat.{ℕ, zero, suc, ◌+◌, ◌*◌, ◌≤◌, ◌<◌}
use native.Mathlib.Numerals.{add-one}
use native.Mathlib.Omega.{arith}
use lib.ListN.{length, get_or, set, length-set}
use lib.Seq.{get_or-set_same, get_or-set_other}
use Rattle.delivery_lines.specs.declared.NoticeLine.{NoticeLine}
use Rattle.delivery_notices.specs.NoticeLists.{notice_at, notices_to, kind_in, first_in, line_notice, StoredIn}

-- four numbers in a row, and five
module _ (l : List ℕ) (n a b c d : ℕ) (h : n + 4 ≤ length l) where
  four-before : (k : ℕ) → k < n → get_or (set (set (set (set l n a) (n + 1) b) (n + 2) c) (n + 3) d) k 0 ≡ get_or l k 0
  four-before k s =
      get_or-set_other (set (set (set l n a) (n + 1) b) (n + 2) c) (n + 3) k d 0 (λ e. omega arith)
      ∙ get_or-set_other (set (set l n a) (n + 1) b) (n + 2) k c 0 (λ e. omega arith)
      ∙ get_or-set_other (set l n a) (n + 1) k b 0 (λ e. omega arith)
      ∙ get_or-set_other l n k a 0 (λ e. omega arith)

  four-0 : get_or (set (set (set (set l n a) (n + 1) b) (n + 2) c) (n + 3) d) n 0 ≡ a
  four-0 =
      get_or-set_other (set (set (set l n a) (n + 1) b) (n + 2) c) (n + 3) n d 0 (λ e. omega arith)
      ∙ get_or-set_other (set (set l n a) (n + 1) b) (n + 2) n c 0 (λ e. omega arith)
      ∙ get_or-set_other (set l n a) (n + 1) n b 0 (λ e. omega arith)
      ∙ get_or-set_same l n a 0 (omega arith)

  four-1 : get_or (set (set (set (set l n a) (n + 1) b) (n + 2) c) (n + 3) d) (n + 1) 0 ≡ b
  four-1 =
      get_or-set_other (set (set (set l n a) (n + 1) b) (n + 2) c) (n + 3) (n + 1) d 0 (λ e. omega arith)
      ∙ get_or-set_other (set (set l n a) (n + 1) b) (n + 2) (n + 1) c 0 (λ e. omega arith)
      ∙ get_or-set_same (set l n a) (n + 1) b 0 (simp length-set (omega arith))

  four-2 : get_or (set (set (set (set l n a) (n + 1) b) (n + 2) c) (n + 3) d) (n + 2) 0 ≡ c
  four-2 =
      get_or-set_other (set (set (set l n a) (n + 1) b) (n + 2) c) (n + 3) (n + 2) d 0 (λ e. omega arith)
      ∙ get_or-set_same (set (set l n a) (n + 1) b) (n + 2) c 0 (simp length-set (omega arith))

  four-3 : get_or (set (set (set (set l n a) (n + 1) b) (n + 2) c) (n + 3) d) (n + 3) 0 ≡ d
  four-3 = get_or-set_same (set (set (set l n a) (n + 1) b) (n + 2) c) (n + 3) d 0 (simp length-set (omega arith))

-- the notices before are untouched
same-notice : (calls calls' ids ids' : List ℕ) (i j : ℕ) → j < i
    → ((k : ℕ) → k < 5 * i → get_or calls' k 0 ≡ get_or calls k 0) → ((k : ℕ) → k < 4 * i → get_or ids' k 0 ≡ get_or ids k 0)
    → notice_at calls' ids' j ≡ notice_at calls ids j
same-notice calls calls' ids ids' i j h c d =
    rw (
      c (5 * j) (omega arith),
      c (5 * j + 1) (omega arith),
      c (5 * j + 2) (omega arith),
      c (5 * j + 3) (omega arith),
      c (5 * j + 4) (omega arith),
      d (4 * j) (omega arith),
      d (4 * j + 1) (omega arith),
      d (4 * j + 2) (omega arith),
      d (4 * j + 3) (omega arith),
    ) refl

same-notices : (calls calls' ids ids' : List ℕ) (i j : ℕ) → j ≤ i
    → ((k : ℕ) → k < 5 * i → get_or calls' k 0 ≡ get_or calls k 0) → ((k : ℕ) → k < 4 * i → get_or ids' k 0 ≡ get_or ids k 0)
    → notices_to calls' ids' j ≡ notices_to calls ids j
unfolding notices_to
same-notices calls calls' ids ids' i zero h c d = refl
same-notices calls calls' ids ids' i (suc j) h c d =
    rw (same-notices calls calls' ids ids' i j (omega arith) c d, same-notice calls calls' ids ids' i j (omega arith) c d) refl

notices-more : (calls ids : List ℕ) (i : ℕ) → notices_to calls ids (i + 1) ≡ notices_to calls ids i ++ (notice_at calls ids i ∷ [])
unfolding notices_to
notices-more calls ids i = rw (add-one i) refl

module _ (line : ℕ) (n : NoticeLine) (i : ℕ) (calls calls' ids ids' : List ℕ) (kind first : ℕ)
    (h : 5 * i + 5 ≤ length calls) (g : 4 * i + 4 ≤ length ids) (p : kind ≡ kind_in n.letter) (q : first ≡ first_in n.letter n.day n.p)
    (x : calls' ≡ set (set (set (set (set calls (5 * i) line) (5 * i + 1) kind) (5 * i + 2) first) (5 * i + 3) n.q) (5 * i + 4) n.price)
    (y : ids' ≡ set (set (set (set ids (4 * i) (get_or n.id 0 0)) (4 * i + 1) (get_or n.id 1 0)) (4 * i + 2) (get_or n.id 2 0)) (4 * i + 3)
    (get_or n.id 3 0)) where
  abbrev four' : List ℕ
  four' = set (set (set (set calls (5 * i) line) (5 * i + 1) kind) (5 * i + 2) first) (5 * i + 3) n.q

  other : (k : ℕ) → (5 * i + 4 ≡ k → ⊥) → get_or calls' k 0 ≡ get_or four' k 0
  other k e = rw x (get_or-set_other four' (5 * i + 4) k n.price 0 (λ s. e (sym s)))

  before : (k : ℕ) → k < 5 * i → get_or calls' k 0 ≡ get_or calls k 0
  before k s = other k (λ e. omega arith) ∙ four-before calls (5 * i) line kind first n.q (omega arith) k s

  before-ids : (k : ℕ) → k < 4 * i → get_or ids' k 0 ≡ get_or ids k 0
  before-ids k s = rw y (four-before ids (4 * i) (get_or n.id 0 0) (get_or n.id 1 0) (get_or n.id 2 0) (get_or n.id 3 0) g k s)

  stored-notice : notice_at calls' ids' i ≡ line_notice line n
  unfolding line_notice
  stored-notice =
      let a : get_or calls' (5 * i) 0 ≡ line = other (5 * i) (λ e. omega arith) ∙ four-0 calls (5 * i) line kind first n.q (omega arith) in
      let b : get_or calls' (5 * i + 1) 0 ≡ kind = other (5 * i + 1) (λ e. omega arith) ∙ four-1 calls (5 * i) line kind first n.q (omega arith) in
      let c : get_or calls' (5 * i + 2) 0 ≡ first = other (5 * i + 2) (λ e. omega arith) ∙ four-2 calls (5 * i) line kind first n.q (omega arith) in
      let d : get_or calls' (5 * i + 3) 0 ≡ n.q = other (5 * i + 3) (λ e. omega arith) ∙ four-3 calls (5 * i) line kind first n.q (omega arith) in
      let e : get_or calls' (5 * i + 4) 0 ≡ n.price = rw x (get_or-set_same four' (5 * i + 4) n.price 0 (simp length-set (omega arith))) in
      let s : get_or ids' (4 * i) 0 ≡ get_or n.id 0 0 =
      rw y (four-0 ids (4 * i) (get_or n.id 0 0) (get_or n.id 1 0) (get_or n.id 2 0) (get_or n.id 3 0) g) in
      let t : get_or ids' (4 * i + 1) 0 ≡ get_or n.id 1 0 =
      rw y (four-1 ids (4 * i) (get_or n.id 0 0) (get_or n.id 1 0) (get_or n.id 2 0) (get_or n.id 3 0) g) in
      let u : get_or ids' (4 * i + 2) 0 ≡ get_or n.id 2 0 =
      rw y (four-2 ids (4 * i) (get_or n.id 0 0) (get_or n.id 1 0) (get_or n.id 2 0) (get_or n.id 3 0) g) in
      let v : get_or ids' (4 * i + 3) 0 ≡ get_or n.id 3 0 =
      rw y (four-3 ids (4 * i) (get_or n.id 0 0) (get_or n.id 1 0) (get_or n.id 2 0) (get_or n.id 3 0) g) in
      rw (a, b, c, d, e, s, t, u, v, p, q) refl

  -- the five numbers and the four bytes stored at a place are the line's notice, those before it unchanged
  pub stored : StoredIn line n i calls calls' ids ids'
  stored =
      record {
        is = notices-more calls' ids' i ∙ rw (same-notices calls calls' ids ids' i i (omega arith) before before-ids, stored-notice) refl;
        calls-long = ap length x ∙ simp length-set;
        ids-long = ap length y ∙ simp length-set;
      }
