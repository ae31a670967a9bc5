-- The lines of an input, byte by byte.
-- Assumes nothing.
use mathlib.Core.Path.{◌≡◌, refl, ◌∙◌, sym, ap}
use mathlib.Core.Bool.{Bool, true, false, cond}
use mathlib.Core.List.{List, [], ◌∷◌, ◌++◌}
use Prim.Native.Nat.{ℕ}
use lib.Dec.{eqb}
use lib.ListN.{length, drop}
use Rattle.session_lines.specs.CommandLines.{lines_from}
use Rattle.session_lines.specs.InputRest.{rest_over}
use Rattle.delivery_lines.specs.NoticeLines.{unmarked}
use Rattle.delivery_items.specs.declared.LongLine.{LongLine}
use Rattle.delivery_items.specs.declared.LineEnd.{LineEnd}
use Rattle.delivery_items.specs.Items.{empty_long, lengthened, fed_long, held_read}
use Rattle.delivery_items.specs.LineEnds.{line_end}
use Rattle.delivery_items.proofs.LongItems.{any-length, any-empty, fed-more}
use Rattle.delivery_items.proofs.LineEnds.{rest_ended, rest-begun}
use Rattle.delivery_receipts.specs.Receipts.{Receipt, no_receipt, line_received, lines_received, receipt_of, rest_received}

-- a line from a place of a part on
module _ (l : LongLine) (part : List ℕ) (from : ℕ) (e : LineEnd) (is : e ≡ line_end l (drop from part) from)
    (room : ℕ) (f : List ℕ) (s : Receipt) (rest : List ℕ) where
  -- one that ends is received, and the next begins after it
  pub received-ended : e.ended ≡ true → rest_received room f s l (drop from part ++ rest)
      ≡ rest_received room f (line_received room f s (held_read e.line)) empty_long (drop e.next part ++ rest)
  unfolding rest_received
  received-ended y = rest_ended l part from e is _ _ s rest y

  -- one that does not end goes on after the part
  pub received-begun : e.ended ≡ false → rest_received room f s l (drop from part ++ rest) ≡ rest_received room f s e.line rest
  unfolding rest_received
  received-begun n = rest-begun l part from e is _ _ s rest n

-- ---- the whole input

no_bytes : fed_long empty_long [] ≡ empty_long
unfolding fed_long
no_bytes = refl

whole : (room : ℕ) (f : List ℕ) (s : Receipt) (begun input : List ℕ)
    → rest_received room f s (fed_long empty_long begun) input ≡ lines_received room f s (lines_from begun input)
unfolding rest_received rest_over lines_received lines_from
whole room f s begun [] = rw (any-empty begun) (go (eqb (length begun) 0))
  where
    go : (b : Bool) → cond b s (line_received room f s (held_read (fed_long empty_long begun))) ≡ lines_received room f s (cond b [] (begun ∷ []))
    go true = refl
    go false = ap (line_received room f s) (any-length begun)
whole room f s begun (byte ∷ rest) = go (eqb byte 10) (whole room f (line_received room f s (held_read (fed_long empty_long begun))) [] rest)
    (whole room f s (begun ++ (byte ∷ [])) rest)
  where
    go : (b : Bool) → rest_received room f (line_received room f s (held_read (fed_long empty_long begun))) (fed_long empty_long []) rest
        ≡ lines_received room f (line_received room f s (held_read (fed_long empty_long begun))) (lines_from [] rest)
        → rest_received room f s (fed_long empty_long (begun ++ (byte ∷ []))) rest ≡ lines_received room f s (lines_from (begun ++ (byte ∷ [])) rest)
        → cond b (rest_received room f (line_received room f s (held_read (fed_long empty_long begun))) empty_long rest)
        (rest_received room f s (lengthened (fed_long empty_long begun) byte) rest)
        ≡ lines_received room f s (cond b (begun ∷ lines_from [] rest) (lines_from (begun ++ (byte ∷ [])) rest))
    go true p q = none-fed p ∙ ap (λ (x : Receipt). lines_received room f x (lines_from [] rest)) (ap (line_received room f s) (any-length begun))
      where
        none-fed : rest_received room f (line_received room f s (held_read (fed_long empty_long begun))) (fed_long empty_long []) rest
            ≡ lines_received room f (line_received room f s (held_read (fed_long empty_long begun))) (lines_from [] rest)
            → rest_received room f (line_received room f s (held_read (fed_long empty_long begun))) empty_long rest
            ≡ lines_received room f (line_received room f s (held_read (fed_long empty_long begun))) (lines_from [] rest)
        none-fed p = ap (λ (x : LongLine). rest_received room f (line_received room f s (held_read (fed_long empty_long begun))) x rest) (sym no_bytes) ∙ p
    go false p q = ap (λ (x : LongLine). rest_received room f s x rest) (sym (fed-more empty_long begun byte)) ∙ q

-- what an input brought, whatever its parts are
pub whole-input : (f input : List ℕ) → rest_received 65536 f no_receipt empty_long (unmarked input) ≡ receipt_of f input
unfolding receipt_of
whole-input f input = ap (λ (x : LongLine). rest_received 65536 f no_receipt x (unmarked input)) (sym no_bytes) ∙ whole 65536 f no_receipt [] (unmarked input)
