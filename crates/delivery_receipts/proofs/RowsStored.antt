-- One row more in six lists: the rows before it are untouched, and its own is read back.
-- Assumes nothing.
use mathlib.Core.Path.{◌≡◌, refl, ◌∙◌, ap}
use mathlib.Core.Bool.{Bool, true, false, not}
use mathlib.Core.List.{List, [], ◌∷◌, ◌++◌}
use Prim.Native.Nat.{ℕ, zero, suc, ◌+◌, ◌*◌, ◌≤◌, ◌<◌}
use native.Mathlib.Numerals.{add-one}
use native.Mathlib.Omega.{arith}
use lib.Dec.{eqb}
use lib.ListN.{length, get_or, set, length-set, length-append}
use lib.Seq.{get_or-set_same, get_or-set_other}
use Rattle.delivery_items.specs.declared.ItemRead.{ItemRead}
use Rattle.delivery_receipts.specs.Receipts.{received_of}
use Rattle.delivery_receipts.specs.Receiving.{Lists, received_at, received_to, full_mark, RowStored, SameLengths}

-- four bytes in a row
module _ (l : List ℕ) (n a b c d : ℕ) (h : n + 4 ≤ length l) where
  abbrev after : List ℕ
  after = set (set (set (set l n a) (n + 1) b) (n + 2) c) (n + 3) d

  four-before : (k : ℕ) → k < n → get_or (set (set (set (set l n a) (n + 1) b) (n + 2) c) (n + 3) d) k 0 ≡ get_or l k 0
  four-before k s =
      get_or-set_other (set (set (set l n a) (n + 1) b) (n + 2) c) (n + 3) k d 0 (λ e. omega arith)
      ∙ get_or-set_other (set (set l n a) (n + 1) b) (n + 2) k c 0 (λ e. omega arith)
      ∙ get_or-set_other (set l n a) (n + 1) k b 0 (λ e. omega arith)
      ∙ get_or-set_other l n k a 0 (λ e. omega arith)

  four-0 : get_or (set (set (set (set l n a) (n + 1) b) (n + 2) c) (n + 3) d) n 0 ≡ a
  four-0 =
      get_or-set_other (set (set (set l n a) (n + 1) b) (n + 2) c) (n + 3) n d 0 (λ e. omega arith)
      ∙ get_or-set_other (set (set l n a) (n + 1) b) (n + 2) n c 0 (λ e. omega arith)
      ∙ get_or-set_other (set l n a) (n + 1) n b 0 (λ e. omega arith)
      ∙ get_or-set_same l n a 0 (omega arith)

  four-1 : get_or (set (set (set (set l n a) (n + 1) b) (n + 2) c) (n + 3) d) (n + 1) 0 ≡ b
  four-1 =
      get_or-set_other (set (set (set l n a) (n + 1) b) (n + 2) c) (n + 3) (n + 1) d 0 (λ e. omega arith)
      ∙ get_or-set_other (set (set l n a) (n + 1) b) (n + 2) (n + 1) c 0 (λ e. omega arith)
      ∙ get_or-set_same (set l n a) (n + 1) b 0 (simp length-set (omega arith))

  four-2 : get_or (set (set (set (set l n a) (n + 1) b) (n + 2) c) (n + 3) d) (n + 2) 0 ≡ c
  four-2 =
      get_or-set_other (set (set (set l n a) (n + 1) b) (n + 2) c) (n + 3) (n + 2) d 0 (λ e. omega arith)
      ∙ get_or-set_same (set (set l n a) (n + 1) b) (n + 2) c 0 (simp length-set (omega arith))

  four-3 : get_or (set (set (set (set l n a) (n + 1) b) (n + 2) c) (n + 3) d) (n + 3) 0 ≡ d
  four-3 = get_or-set_same (set (set (set l n a) (n + 1) b) (n + 2) c) (n + 3) d 0 (simp length-set (omega arith))

-- 1 says that a row has five fields
mark-is : (full : Bool) → not (eqb (full_mark full) 0) ≡ full
mark-is true = refl
mark-is false = refl

-- four bytes are their list
four-of : (id : List ℕ) → length id ≡ 4 → get_or id 0 0 ∷ get_or id 1 0 ∷ get_or id 2 0 ∷ get_or id 3 0 ∷ [] ≡ id
four-of [] h = absurd (omega arith)
four-of (a ∷ []) h = absurd (omega arith)
four-of (a ∷ b ∷ []) h = absurd (omega arith)
four-of (a ∷ b ∷ c ∷ []) h = absurd (omega arith)
four-of (a ∷ b ∷ c ∷ d ∷ []) h = refl
four-of (a ∷ b ∷ c ∷ d ∷ e ∷ rest) h = absurd (omega arith)

-- the first n rows of six lists are n rows
pub received-long : (a : Lists) (n : ℕ) → length (received_to a n) ≡ n
unfolding received_to
received-long a zero = refl
received-long a (suc n) = omega (arith, length-append (received_to a n) (received_at a n ∷ []), received-long a n)

module _ (i : ℕ) (item : ItemRead) (b a : Lists) (s : RowStored i item b a) (h : 4 * i + 4 ≤ length b.ids)
    (hk : i < length b.keys) (hd : i < length b.days) (hf : i < length b.fulls) (hn : i < length b.numbers) (hb : i < length b.backs) where
  same_row : (j : ℕ) → j < i → received_at a j ≡ received_at b j
  same_row j l =
      rw (
        s.ids,
        s.keys,
        s.days,
        s.fulls,
        s.numbers,
        s.backs,
        four-before b.ids (4 * i) (get_or item.id 0 0) (get_or item.id 1 0) (get_or item.id 2 0) (get_or item.id 3 0) h (4 * j) (omega arith),
        four-before b.ids (4 * i) (get_or item.id 0 0) (get_or item.id 1 0) (get_or item.id 2 0) (get_or item.id 3 0) h (4 * j + 1) (omega arith),
        four-before b.ids (4 * i) (get_or item.id 0 0) (get_or item.id 1 0) (get_or item.id 2 0) (get_or item.id 3 0) h (4 * j + 2) (omega arith),
        four-before b.ids (4 * i) (get_or item.id 0 0) (get_or item.id 1 0) (get_or item.id 2 0) (get_or item.id 3 0) h (4 * j + 3) (omega arith),
        get_or-set_other b.keys i j item.key 0 (λ e. omega arith),
        get_or-set_other b.days i j item.day 0 (λ e. omega arith),
        get_or-set_other b.fulls i j (full_mark item.full) 0 (λ e. omega arith),
        get_or-set_other b.numbers i j item.number 0 (λ e. omega arith),
        get_or-set_other b.backs i j item.back 0 (λ e. omega arith),
      ) refl

  same_rows : (j : ℕ) → j ≤ i → received_to a j ≡ received_to b j
  unfolding received_to
  same_rows zero l = refl
  same_rows (suc j) l = rw (same_rows j (omega arith), same_row j (omega arith)) refl

  row_back : length item.id ≡ 4 → received_at a i ≡ received_of item
  row_back four =
      rw (
        s.ids,
        s.keys,
        s.days,
        s.fulls,
        s.numbers,
        s.backs,
        four-0 b.ids (4 * i) (get_or item.id 0 0) (get_or item.id 1 0) (get_or item.id 2 0) (get_or item.id 3 0) h,
        four-1 b.ids (4 * i) (get_or item.id 0 0) (get_or item.id 1 0) (get_or item.id 2 0) (get_or item.id 3 0) h,
        four-2 b.ids (4 * i) (get_or item.id 0 0) (get_or item.id 1 0) (get_or item.id 2 0) (get_or item.id 3 0) h,
        four-3 b.ids (4 * i) (get_or item.id 0 0) (get_or item.id 1 0) (get_or item.id 2 0) (get_or item.id 3 0) h,
        get_or-set_same b.keys i item.key 0 hk,
        get_or-set_same b.days i item.day 0 hd,
        get_or-set_same b.fulls i (full_mark item.full) 0 hf,
        get_or-set_same b.numbers i item.number 0 hn,
        get_or-set_same b.backs i item.back 0 hb,
        mark-is item.full,
        four-of item.id four,
      ) refl

  -- after row i is stored, the first i + 1 rows are those before it and the row
  pub stored_more : length item.id ≡ 4 → received_to a (i + 1) ≡ received_to b i ++ (received_of item ∷ [])
  unfolding received_to
  stored_more four = rw (add-one i, same_rows i (omega arith), row_back four) refl

  -- after a row is stored, the six lists have the lengths they had
  pub stored-lengths : SameLengths b a
  stored-lengths =
      record {
        ids = ap length s.ids ∙ simp length-set refl;
        keys = ap length s.keys ∙ length-set b.keys i item.key;
        days = ap length s.days ∙ length-set b.days i item.day;
        fulls = ap length s.fulls ∙ length-set b.fulls i (full_mark item.full);
        numbers = ap length s.numbers ∙ length-set b.numbers i item.number;
        backs = ap length s.backs ∙ length-set b.backs i item.back;
      }
