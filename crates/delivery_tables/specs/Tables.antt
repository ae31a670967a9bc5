-- The table of a product after the notices, and the calls that were refused
-- (docs/DELIVERY.md, Meaning, from which the quotations are; 01, The table; 02, notes 9 and 11).
-- Assumes nothing.
use Rattle.std.specs.Prelude.{ℕ, ◌≡◌, Bool, true, false, not, ◌||◌, cond, List, [], ◌∷◌, ◌++◌, map, leb, length, take, drop}
use Rattle.file_load.specs.Products.{same_id}
use Rattle.table.specs.declared.Table.{Table}
use Rattle.table.specs.declared.Outcome.{Outcome}
use Rattle.table.specs.Table.{open_call}
use Rattle.history.specs.declared.Called.{Called}
use Rattle.history.specs.Book.{Call, roll, close, reopen, measure, Reply}
use Rattle.history.specs.History.{table_call, table_run, table_replies, FromFile}
use Rattle.delivery_notices.specs.Notices.{Notice}
use Rattle.delivery_tables.specs.declared.Delivered.{Delivered}

-- a call is a measure
abbrev pub is_measure : Call → Bool
is_measure (roll date) = false
is_measure (close day) = false
is_measure (reopen day) = false
is_measure (measure p q price) = true

-- 'a measure is a call of the product it names only';
-- every other notice is a call on every table
unfoldable pub concerns : List ℕ → Notice → Bool
concerns id n = not (is_measure n.call) || same_id n.id id

-- 'notices are its list of calls':
-- those of the product with an id, in their order, are the list of demand 3
unfoldable pub calls_for : List ℕ → List Notice → List Call
calls_for id [] = []
calls_for id (n ∷ ns) = cond (concerns id n) (n.call ∷ calls_for id ns) (calls_for id ns)

-- 'The table of a product: opened on the date, then each call in its order'
abbrev pub table_after : List ℕ → List ℕ → ℕ → List Notice → Table
table_after f id date ns = table_run (open_call f id date).table (calls_for id ns)

-- no call: the same table, and zeros
abbrev pub no_call : Table → Called
no_call t = record { refusal = 0; table = t; entered = 0; left = 0; price = 0 }

-- 'A refused call leaves the table as it was', by the definition of each call:
-- a notice on a product's table; one that is no call of the product changes nothing
unfoldable pub noticed : List ℕ → Table → Notice → Called
noticed id t n = cond (concerns id n) (table_call t n.call) (no_call t)

-- the number of each notice's refusal, 0 where it is accepted or is no call of the product
unfoldable pub refusals_for : List ℕ → Table → List Notice → List ℕ
refusals_for id t [] = []
refusals_for id t (n ∷ ns) = (noticed id t n).refusal ∷ refusals_for id (noticed id t n).table ns

-- of a list beside the notices, the numbers of those that are calls of a product
unfoldable pub only_for : List ℕ → List Notice → List ℕ → List ℕ
only_for id [] rs = []
only_for id (n ∷ ns) [] = []
only_for id (n ∷ ns) (r ∷ rs) = cond (concerns id n) (r ∷ only_for id ns rs) (only_for id ns rs)

-- of a product with notices:
-- what is said of them is what demand 3 says of the list of their calls, and it holds of this list, at its end and after any more calls
pub record Claimed (f id : List ℕ) (date : ℕ) (ns : List Notice) : Type 0 where
  pub replies : only_for id ns (refusals_for id (open_call f id date).table ns)
      ≡ map (λ (x : Reply). x.refusal) (table_replies (open_call f id date).table (calls_for id ns))
  pub history : (open_call f id date).refusal ≡ 0 → (ds : List Call) → FromFile f id date (calls_for id ns) ds

-- 'A notice that is refused for every product may be made a comment: nothing changes by it':
-- of a product with some notices, one that is refused on its table or is no call of it, and more
pub record Comment (id : List ℕ) (t : Table) (before : List Notice) (n : Notice) (rest : List Notice) : Type 0 where
  pub table : table_run t (calls_for id (before ++ (n ∷ rest))) ≡ table_run t (calls_for id (before ++ rest))
  pub refusals : refusals_for id t (before ++ (n ∷ rest))
      ≡ refusals_for id t before ++ ((noticed id (table_run t (calls_for id before)) n).refusal ∷ refusals_for id (table_run t (calls_for id before)) rest)
  pub without : refusals_for id t (before ++ rest) ≡ refusals_for id t before ++ refusals_for id (table_run t (calls_for id before)) rest

-- of a table, notices and a buffer before and after: the table is the one that the calls leave, and the buffer starts with the refusals
pub record NoticesMade (t : Table) (id : List ℕ) (ns : List Notice) (before after : List ℕ) (r : Table) : Type 0 where
  pub table : r ≡ table_run t (calls_for id ns)
  pub refusals : take (length ns) after ≡ refusals_for id t ns
  pub unchanged : drop (length ns) after ≡ drop (length ns) before
  pub long : length after ≡ length before

-- of a product's table after the notices, by what an id and a date open:
-- with room for the refusals every notice is taken; without it none is, and nothing is written
pub record Delivers (opening : List ℕ → ℕ → Outcome) (id : List ℕ) (date : ℕ) (ns : List Notice) (before after : List ℕ) (r : Delivered) : Type 0 where
  pub fits : r.fits ≡ leb (length ns) (length before)
  pub refusal : r.refusal ≡ (opening id date).refusal
  pub made : r.fits ≡ true → NoticesMade (opening id date).table id ns before after r.table
  pub idle : r.fits ≡ false → (r.table ≡ (opening id date).table) × (after ≡ before)
  pub long : length after ≡ length before
