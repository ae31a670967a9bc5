-- Read after read: the bytes so far brought what the lists hold and the line begun, and their bad lines were told.
-- Assumes nothing.
use mathlib.Core.Path.{◌≡◌, refl, sym, ap, ◌∙◌}
use mathlib.Core.Bool.{Bool, true, false, not, ◌&&◌, cond}
use mathlib.Core.List.{List, [], ◌∷◌, ◌++◌, append_assoc}
use mathlib.Core.Logic.{◌⊎◌, inl, inr}
use Prim.Native.Nat.{ℕ, ◌+◌, ◌%◌, ◌^◌, ◌≤◌, ◌<◌}
use native.Mathlib.Omega.{arith}
use lib.Dec.{eqb, ltb}
use lib.ListN.{length, take, length-append}
use lib.Seq.{length-take-le}
use borrow.Author.Tests.{ltb-true, lt-ltb}
use Rattle.questions.proofs.Bools.{clash, both, lt-or-ge}
use Rattle.session_lines.specs.InputRest.{rest_over}
use Rattle.streams.specs.declared.reads.Input.{Input}
use Rattle.delivery_items.specs.declared.LongLine.{LongLine}
use Rattle.delivery_items.specs.declared.LineRead.{LineRead}
use Rattle.delivery_items.specs.Items.{empty_long, lengthened, held_read}
use Rattle.delivery_receipts.specs.Receipts.{Receipt, sort_of, line_brought, line_received, receipt_of, rest_received}
use Rattle.delivery_receipts.specs.Receiving.{Lists, room_in, receipt_in}
use Rattle.delivery_row_parts.specs.declared.RowsKept.{RowsKept}
use Rattle.delivery_row_parts.specs.declared.LinesRead.{LinesRead}
use Rattle.delivery_row_parts.specs.RowParts.{PartTold, LastTold, FirstTold}
use Rattle.delivery_row_parts.proofs.PartsTaken.{told_more}
use Rattle.delivery_reading.specs.Reading.{RowsReadTo, RowsOfInput}

-- ---- from part to part

-- an input of which the first bytes were read to the start of a buffer
pub read_first : (f : List ℕ) (told : ℕ) (before : Lists) (buffer : List ℕ) (m : ℕ) → m ≤ length buffer → (r : LinesRead) (after : Lists)
    → FirstTold f told before (take m buffer) r after → room_in before ≡ 65536
    → (left n : ℕ) → (m < 3 → left ≡ 0) → n ≡ (0 + m) % 2 ^ 64 → RowsReadTo f told after left n r
read_first f told before buffer m fits r after d room left n z e =
    record {
      input = take m buffer;
      count = omega (arith, e, length-take-le m buffer fits);
      came = d.came room left (λ l. z (omega (arith, length-take-le m buffer fits)));
    }

module _ (f : List ℕ) (told : ℕ) (a : Lists) (room : room_in a ≡ 65536) (left n : ℕ) (k : LinesRead) (c : RowsReadTo f told a left n k) (some : 0 < left)
    (part : List ℕ) (r : LinesRead) (b : Lists) (d : PartTold f k a part r b []) where
  more-is : (rest : List ℕ) → receipt_of f ((c.input ++ part) ++ rest)
      ≡ rest_received 65536 f (receipt_in r.kept.state b (c.came.bads ++ d.bads)) r.line rest
  more-is rest =
      ap (receipt_of f) (append_assoc c.input part rest)
      ∙ c.came.is (part ++ rest) (λ z. absurd (omega arith))
      ∙ ap (λ (m : ℕ). rest_received m f (receipt_in k.kept.state a c.came.bads) k.line (part ++ rest)) (sym room)
      ∙ d.is c.came.bads rest
      ∙ ap (λ (m : ℕ). rest_received m f (receipt_in r.kept.state b (c.came.bads ++ d.bads)) r.line rest) room

  -- one part more of an input
  read_more : (left' n' : ℕ) → n' ≡ (n + length part) % 2 ^ 64 → RowsReadTo f told b left' n' r
  read_more left' n' e =
      record {
        input = c.input ++ part;
        count = omega (arith, e, c.count, length-append c.input part);
        came =
            record {
              bads = c.came.bads ++ d.bads;
              is = λ rest z. more-is rest;
              tells = told_more told c.came.bads d.bads k.kept r.kept c.came.tells d.tells;
            };
      }

-- the same of the bytes that a read left at the start of a buffer
pub read-on : (f : List ℕ) (told : ℕ) (a : Lists) → room_in a ≡ 65536 → (left n : ℕ) (k : LinesRead) → RowsReadTo f told a left n k → 0 < left
    → (buffer : List ℕ) (m : ℕ) → m ≤ length buffer → (r : LinesRead) (b : Lists) → PartTold f k a (take m buffer) r b []
    → (left' n' : ℕ) → n' ≡ (n + m) % 2 ^ 64 → RowsReadTo f told b left' n' r
read-on f told a room left n k c some buffer m fits r b d left' n' e =
    read_more f told a room left n k c some (take m buffer) r b d left' n'
    (e ∙ ap (λ (x : ℕ). (n + x) % 2 ^ 64) (sym (length-take-le m buffer fits)))

-- where reading goes on, reads are left
pub goes : (left : ℕ) (over test : Bool) → test ≡ (ltb 0 left && not over) → test ≡ true → 0 < left
goes left over test e t = ltb-true 0 left (both (ltb 0 left) (not over) (sym e ∙ t)).0

-- where it does not, and there was no good row too many, none is left
pub stops : (left : ℕ) (over test : Bool) → test ≡ (ltb 0 left && not over) → test ≡ false → over ≡ false → left ≡ 0
stops left true test e t z = clash refl z
stops left false test e t z = go (lt-or-ge 0 left)
  where
    go : (0 < left) ⊎ (left ≤ 0) → left ≡ 0
    go (inl l) = clash (rw (lt-ltb 0 left l) refl) (sym e ∙ t)
    go (inr l) = omega arith

-- ---- after a good row too many nothing changes

over-line : (room : ℕ) (f : List ℕ) (s : Receipt) (r : LineRead) → s.over ≡ true → line_received room f s r ≡ s
unfolding line_received sort_of line_brought
over-line room f s r o = rw o refl

over_last : (room : ℕ) (f : List ℕ) (s : Receipt) (l : LongLine) → s.over ≡ true → rest_received room f s l [] ≡ s
unfolding rest_received rest_over
over_last room f s l o = go (eqb l.length 0) (over-line room f s (held_read l) o)
  where
    go : (b : Bool) → line_received room f s (held_read l) ≡ s → cond b s (line_received room f s (held_read l)) ≡ s
    go true e = refl
    go false e = e

pick_same : (b : Bool) (x y s : Receipt) → x ≡ s → y ≡ s → cond b x y ≡ s
pick_same true x y s e g = e
pick_same false x y s e g = g

over-rest : (room : ℕ) (f : List ℕ) (s : Receipt) (l : LongLine) (rest : List ℕ) → s.over ≡ true → rest_received room f s l rest ≡ s
unfolding rest_received rest_over
over-rest room f s l [] o = over_last room f s l o
over-rest room f s l (byte ∷ rest) o =
    pick_same (eqb byte 10) (rest_received room f (line_received room f s (held_read l)) empty_long rest) (rest_received room f s (lengthened l byte) rest) s
    (ap (λ (x : Receipt). rest_received room f x empty_long rest) (over-line room f s (held_read l) o) ∙ over-rest room f s empty_long rest o)
    (over-rest room f s (lengthened l byte) rest o)

-- where there is no good row too many after the last line, there was none before it
none_over : (f : List ℕ) (k : LinesRead) (a b : Lists) (r : RowsKept) → LastTold f k a b r → r.state.over ≡ false → k.kept.state.over ≡ false
none_over f k a b r d z = go k.kept.state.over refl
  where
    go : (o : Bool) → k.kept.state.over ≡ o → k.kept.state.over ≡ false
    go false e = e
    go true e =
        clash e
        (sym (ap (λ (x : Receipt). x.over) (d.is [] ∙ over_last (room_in a) f (receipt_in k.kept.state a []) k.line e)) ∙ z)

-- ---- the whole input

module _ (f : List ℕ) (told : ℕ) (a : Lists) (room : room_in a ≡ 65536) (i : Input) (k : LinesRead) (c : RowsReadTo f told a i.left i.bytes k)
    (end : k.kept.state.over ≡ false → i.left ≡ 0) (b : Lists) (r : RowsKept) (d : LastTold f k a b r) where
  held : receipt_in r.state b (c.came.bads ++ d.bads) ≡ rest_received 65536 f (receipt_in k.kept.state a c.came.bads) k.line []
  held =
      d.is c.came.bads
      ∙ ap (λ (m : ℕ). rest_received m f (receipt_in k.kept.state a c.came.bads) k.line []) room

  nothing-more : (rest : List ℕ) → (i.left ≡ 0 → rest ≡ [])
      → rest_received 65536 f (receipt_in k.kept.state a c.came.bads) k.line []
      ≡ rest_received 65536 f (receipt_in k.kept.state a c.came.bads) k.line rest
  nothing-more rest z = go k.kept.state.over refl
    where
      go : (o : Bool) → k.kept.state.over ≡ o
          → rest_received 65536 f (receipt_in k.kept.state a c.came.bads) k.line []
          ≡ rest_received 65536 f (receipt_in k.kept.state a c.came.bads) k.line rest
      go true o =
          over-rest 65536 f (receipt_in k.kept.state a c.came.bads) k.line [] o
          ∙ sym (over-rest 65536 f (receipt_in k.kept.state a c.came.bads) k.line rest o)
      go false o = ap (rest_received 65536 f (receipt_in k.kept.state a c.came.bads) k.line) (sym (z (end o)))

  -- after the last line the lists hold the rows of every input that begins so, and its bad lines were told
  rows_all : RowsOfInput f told b i r
  rows_all =
      record {
        bads = c.came.bads ++ d.bads;
        is =
            record {
              input = c.input;
              count = c.count;
              is = λ rest z. held ∙ nothing-more rest z ∙ sym (c.came.is rest z);
            };
        tells = told_more told c.came.bads d.bads k.kept r c.came.tells d.tells;
      }

module _ (f : List ℕ) (i : Input) (k : LinesRead) (a b : Lists) (r : RowsKept) (j : Input) (same : j ≡ i) (last : i.failed ≡ false → LastTold f k a b r)
    (z : j.failed ≡ false) (end : k.kept.state.over ≡ false → i.left ≡ 0) where
  taken : LastTold f k a b r
  taken = last (sym (ap (λ (x : Input). x.failed) same) ∙ z)

  -- where no read failed, the lists hold the rows of every input that begins with the bytes that were read
  pub rows-read : (told : ℕ) → room_in a ≡ 65536 → RowsReadTo f told a i.left i.bytes k → RowsOfInput f told b j r
  rows-read told room c = rw same (rows_all f told a room i k c end b r taken)

  -- and where there was no good row too many, it was read to its end
  pub to_end : r.state.over ≡ false → j.left ≡ 0
  to_end o = rw same (end (none_over f k a b r taken o))
