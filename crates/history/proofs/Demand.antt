-- Demand 3, for every product that opens and every list of calls.
-- Assumes nothing.
use mathlib.Core.Path.{◌≡◌, refl, sym, ap, ◌∙◌}
use mathlib.Core.Bool.{Bool, true, false, cond}
use mathlib.Core.List.{List, [], ◌∷◌, ◌++◌, map}
use mathlib.Core.Logic.{◌⊎◌, inl, inr, ◌↔◌}
use Prim.Native.Nat.{ℕ, suc, ◌-◌, ◌≤◌, ◌<◌}
use native.Mathlib.Omega.{arith}
use Rattle.questions.specs.Search.{one_of}
use Rattle.questions.proofs.Bools.{clash, or_left, is_false, lt-or-ge}
use Rattle.calendar.specs.declared.Calendar.{Calendar}
use Rattle.product.specs.declared.Product.{Product}
use Rattle.listing.specs.Rules.{Rule, widest, last_day_of, count_from, fresh_keys, maturity}
use Rattle.expiry.specs.LastDays.{last_trading_day}
use Rattle.listing.specs.Months.{cover_rule, keys_of, rule_of, fresh_of}
use Rattle.listing.proofs.OpenPlaces.{before-none}
use Rattle.listing.proofs.Lawful.{Lawful, key-of, day-past}
use Rattle.listing.proofs.OfKinds.{rule-lawful, rule-keys, months-most}
use Rattle.table.specs.declared.Table.{Table}
use Rattle.history.specs.declared.Called.{Called}
use Rattle.table_numbering.specs.Numbering.{is_listed, number_of, unnumbered}
use Rattle.table.specs.Table.{listed_in, sound, opened_table}
use Rattle.history.specs.Book.{Call, Book, book_opened, book_after, book_run, book_replies}
use Rattle.history.specs.History.{table_call, table_run, table_replies, calendar_of_calls, date_of_calls, opens, WasListed, Demand3}
use Rattle.history.proofs.Gone.{once-apart}
use Rattle.history.proofs.Left.{left-listed}
use Rattle.history.proofs.Moves.{fresh, now, present-is, number_is, given-most, numbers_first}
use Rattle.history.proofs.Soundness.{Opened, opened}
use Rattle.history.proofs.BookMoments.{rule_in, front_in, known, Inv, Later, starts, turn-later, run-later, run-append}
use Rattle.history.proofs.TableAsBook.{table_in, table-lists, sound-in, turn, table-run, reply-run, calendar-run, date-run, opened_in}

-- without its numbers a numbered listing is the fresh one
unnumbered-is : (r : Rule) (cal : Calendar) (nu : ℕ → ℕ) (ks : List ℕ) → unnumbered (map (maturity r cal nu) ks) ≡ map (maturity r cal (λ k. 0)) ks
unnumbered-is r cal nu [] = refl
unnumbered-is r cal nu (k ∷ ks) = ap (◌∷◌ (maturity r cal (λ k. 0) k)) (unnumbered-is r cal nu ks)

-- a key of the cover that ever had a number
record Ever (p : Product) (b : Book) (nu : ℕ → ℕ) (m : ℕ) : Type 0 where
  number : 1 ≤ nu m
  below : m < (rule_in p b).beyond
  wide : widest (rule_in p b).places m ≡ true

-- it is one later
ever-after : (p : Product) (b : Book) (nu : ℕ → ℕ) (b' : Book) (z : Later p b nu b') (m : ℕ) → Ever p b nu m → Ever p b' z.nu' m
ever-after p b nu b' z m v = record {
  number = omega (arith, v.number, z.grows m v.number);
  below = rw z.rule v.below;
  wide =
      rw z.rule v.wide;
}

module _ (p : Product) (b : Book) (nu : ℕ → ℕ) (I : Inv p b nu) where
  abbrev w : Lawful (rule_in p b)
  w = rule-lawful b.calendar.cover p.kind p.group

  abbrev in-now : ℕ → Bool
  in-now = now (rule_in p b) b.calendar b.date

  listed-in : (m : ℕ) → is_listed b.maturities m ≡ in-now m
  listed-in = present-is (rule_in p b) w b.calendar b.date b.maturities b.given nu I.numbered

  number_in : (m : ℕ) → number_of b.maturities m ≡ cond (in-now m) (nu m) 0
  number_in = number_is (rule_in p b) w b.calendar b.date b.maturities b.given nu I.numbered

  -- a number that the book shows is the key's
  had : (m n : ℕ) → number_of b.maturities m ≡ suc n → nu m ≡ suc n
  had m n e = go (in-now m) refl
    where
      go : (t : Bool) → in-now m ≡ t → nu m ≡ suc n
      go true q = let i : number_of b.maturities m ≡ nu m = number_in m ∙ rw q in omega arith
      go false q = let i : number_of b.maturities m ≡ 0 = number_in m ∙ rw q in absurd (omega arith)

  has-number : (m : ℕ) → is_listed b.maturities m ≡ true → 1 ≤ number_of b.maturities m
  has-number m e =
      let q : in-now m ≡ true = sym (listed-in m) ∙ e in
      let i : number_of b.maturities m ≡ nu m = number_in m ∙ rw q in
      omega (arith, I.numbered.numbers.pos m q)

  before-front : (m : ℕ) → m < front_in p b → is_listed b.maturities m ≡ false
  before-front m l = listed-in m ∙ before-none (rule_in p b).beyond (rule_in p b).places (front_in p b) m l

  ever : (m : ℕ) → is_listed b.maturities m ≡ true → Ever p b nu m
  ever m e =
      let q : in-now m ≡ true = sym (listed-in m) ∙ e in
      let k = key-of (rule_in p b) w b.calendar b.date m q in
      record { number = I.numbered.numbers.pos m q; below = k.below; wide = k.wide }

  -- it is off exactly when its day is past
  off-iff : (m : ℕ) → Ever p b nu m → (is_listed b.maturities m ≡ false) ↔ (last_trading_day b.calendar p.kind p.group m < b.date)
  unfolding last_trading_day cover_rule
  off-iff m v = (gone (lt-or-ge m (front_in p b)), past)
    where
      gone : (m < front_in p b) ⊎ (front_in p b ≤ m) → is_listed b.maturities m ≡ false → last_day_of (rule_in p b) b.calendar m < b.date
      gone (inl s) e = day-past (rule_in p b) w b.calendar b.date m v.below v.wide s
      gone (inr s) e = clash (listed-in m ∙ I.numbered.there m v.number s) e

      past : last_day_of (rule_in p b) b.calendar m < b.date → is_listed b.maturities m ≡ false
      past s = is_false (is_listed b.maturities m) (λ t. absurd (omega (arith, (key-of (rule_in p b) w b.calendar b.date m (sym (listed-in m) ∙ t)).day)))

  most-given : b.given ≤ count_from (rule_in p b).counted ((rule_in p b).beyond - (rule_in p b).first) (rule_in p b).first
  most-given = given-most (rule_in p b) w b.calendar b.date b.maturities b.given nu I.numbered

  most-number : (m : ℕ) → number_of b.maturities m ≤ b.given
  most-number m = rw (number_in m) (go (in-now m))
    where
      go : (t : Bool) → cond t (nu m) 0 ≤ b.given
      go true = omega (arith, I.numbered.numbers.small m)
      go false = omega arith

module _ (p : Product) (cal : Calendar) (date : ℕ) (o : Opened p cal date) where
  abbrev start : Book
  start = book_opened p.kind p.group p.size cal date

  abbrev nu₀ : ℕ → ℕ
  nu₀ = numbers_first (rule_of cal p.kind p.group) cal date

  abbrev table : List Call → Table
  table cs = table_run (opened_table p cal date) cs

  abbrev book : List Call → Book
  book cs = book_run p.kind p.group start cs

  -- after the calls
  at : (cs : List Call) → Later p start nu₀ (book cs)
  at cs = run-later p cs start nu₀ (starts p cal date o)

  -- and after more of them
  after : (cs ds : List Call) → Later p (book cs) (at cs).nu' (book (cs ++ ds))
  after cs ds = rw (run-append p cs ds start) (run-later p ds (book cs) (at cs).nu' (at cs).inv)

  table_is : (cs : List Call) → table cs ≡ table_in p (book cs)
  table_is cs = ap (λ (t : Table). table_run t cs) (opened_in p cal date) ∙ table-run p cs start nu₀ (starts p cal date o)

  replies-are : (cs : List Call) → table_replies (opened_table p cal date) cs ≡ book_replies p.kind p.group start cs
  replies-are cs = ap (λ (t : Table). table_replies t cs) (opened_in p cal date) ∙ reply-run p cs start nu₀ (starts p cal date o)

  listed-are : (cs : List Call) → listed_in (table cs) ≡ (book cs).maturities
  listed-are cs = ap listed_in (table_is cs) ∙ table-lists p (book cs) (at cs).nu' (at cs).inv

  calendar-at : (cs : List Call) → (table cs).calendar ≡ calendar_of_calls cal cs (table_replies (opened_table p cal date) cs)
  unfolding book_opened
  calendar-at cs = ap (λ (t : Table). t.calendar) (table_is cs) ∙ calendar-run p cs start ∙ ap (calendar_of_calls cal cs) (sym (replies-are cs))

  date-at : (cs : List Call) → (table cs).date ≡ date_of_calls date cs (table_replies (opened_table p cal date) cs)
  unfolding book_opened
  date-at cs = ap (λ (t : Table). t.date) (table_is cs) ∙ date-run p cs start ∙ ap (date_of_calls date cs) (sym (replies-are cs))

  fresh_at : (cs : List Call) → unnumbered (listed_in (table cs))
      ≡ fresh_of (calendar_of_calls cal cs (table_replies (opened_table p cal date) cs)) p.kind p.group
      (date_of_calls date cs (table_replies (opened_table p cal date) cs))
  fresh_at cs =
      rw (listed-are cs, ← calendar-at cs, ← date-at cs, table_is cs, (at cs).inv.numbered.listing)
      (unnumbered-is (rule_in p (book cs)) (book cs).calendar (at cs).nu' (fresh_keys (rule_in p (book cs)) (book cs).calendar (book cs).date))

  -- the number shown now is the key's number at any later moment
  still-had : (cs ds : List Call) (m n : ℕ) → number_of (listed_in (table cs)) m ≡ suc n → (after cs ds).nu' m ≡ suc n
  still-had cs ds m n e =
      let q : (at cs).nu' m ≡ suc n = had p (book cs) (at cs).nu' (at cs).inv m n (rw (listed-are cs) at e) in
      (after cs ds).grows m (omega arith) ∙ q

  later-had : (cs ds : List Call) (m n : ℕ) → number_of (listed_in (table (cs ++ ds))) m ≡ suc n → (after cs ds).nu' m ≡ suc n
  later-had cs ds m n e = had p (book (cs ++ ds)) (after cs ds).nu' (after cs ds).inv m n (rw (listed-are (cs ++ ds)) at e)

  for-good : (cs ds : List Call) (m : ℕ) → one_of (book cs).gone m ≡ true → is_listed (listed_in (table (cs ++ ds))) m ≡ false
  for-good cs ds m e =
      rw (listed-are (cs ++ ds))
      (before-front p (book (cs ++ ds)) (after cs ds).nu' (after cs ds).inv m (omega (arith, (at cs).inv.past m e, (after cs ds).on)))

  -- a month that was listed and is not any more has left
  has_left : (cs ds : List Call) (m : ℕ) → is_listed (listed_in (table cs)) m ≡ true → is_listed (listed_in (table (cs ++ ds))) m ≡ false
      → one_of (book (cs ++ ds)).gone m ≡ true
  has_left cs ds m e off =
      let h : known (book cs) m ≡ true = or_left (one_of (book cs).gone m) (rw (listed-are cs) at e) in
      let l : is_listed (book (cs ++ ds)).maturities m ≡ false = rw (listed-are (cs ++ ds)) at off in
      rw l at ((after cs ds).stays m h)

  -- a month that left was listed after some beginning of the calls
  listed-once : (cs : List Call) (m : ℕ) → one_of (book cs).gone m ≡ true → WasListed p cal date cs m
  listed-once cs m e =
      let s = left-listed p.kind p.group p.size cal date cs m e in
      record { beginning = s.beginning; rest = s.rest; whole = s.whole; listed = rw (listed-are s.beginning) s.listed }

  -- one more call
  next-table : (cs : List Call) (c : Call) → (table_call (table cs) c).table ≡ table_in p (book_after p.kind p.group (book cs) c)
  next-table cs c = rw (table_is cs) (ap (λ (o : Called). o.table) (turn p (book cs) (at cs).nu' (at cs).inv c))

  taken-off : (cs : List Call) (c : Call) (m : ℕ) → is_listed (listed_in (table cs)) m ≡ true
      → (is_listed (listed_in (table_call (table cs) c).table) m ≡ false) ↔
      (last_trading_day (table_call (table cs) c).table.calendar p.kind p.group m < (table_call (table cs) c).table.date)
  taken-off cs c m e =
      let b' : Book = book_after p.kind p.group (book cs) c in
      let z : Later p (book cs) (at cs).nu' b' = turn-later p (book cs) (at cs).nu' (at cs).inv c in
      let v : Ever p (book cs) (at cs).nu' m = ever p (book cs) (at cs).nu' (at cs).inv m (rw (listed-are cs) at e) in
      rw (next-table cs c, table-lists p b' z.nu' z.inv) (off-iff p b' z.nu' z.inv m (ever-after p (book cs) (at cs).nu' b' z m v))

  -- the opened product's rule stays, and so does the number of its keys
  within : (cs : List Call) → (book cs).given ≤ keys_of cal.cover p.kind
  unfolding book_opened
  within cs =
      omega (
        arith,
        most-given p (book cs) (at cs).nu' (at cs).inv,
        ap (λ (r : Rule). count_from r.counted (r.beyond - r.first) r.first) (at cs).rule,
        rule-keys cal.cover p.kind p.group,
      )

  given-within : (cs : List Call) → (table cs).given ≤ keys_of cal.cover p.kind
  given-within cs = omega (arith, ap (λ (t : Table). t.given) (table_is cs), within cs)

  number-within : (cs : List Call) (m : ℕ) → number_of (listed_in (table cs)) m ≤ keys_of cal.cover p.kind
  number-within cs m = rw (listed-are cs) (omega (arith, most-number p (book cs) (at cs).nu' (at cs).inv m, within cs))

  history : (cs ds : List Call) → Demand3 p cal date cs ds
  history cs ds = record {
    book-calendar = ap (λ (t : Table). t.calendar) (table_is cs);
    book-date = ap (λ (t : Table). t.date) (table_is cs);
    book-maturities = ap (λ (t : Table). t.maturities) (table_is cs);
    book-listed = listed-are cs;
    book-given = ap (λ (t : Table). t.given) (table_is cs);
    product = ap (λ (t : Table). t.product) (table_is cs);
    replies = replies-are cs;
    calendar-is = calendar-at cs;
    date-is = date-at cs;
    fresh = fresh_at cs;
    one-month = λ m m' n e d. (after cs ds).inv.numbered.numbers.inj m m' (still-had cs ds m n e ∙ sym (later-had cs ds m' n d))
        (omega (arith, still-had cs ds m n e));
    one_number = λ m n n' e d. omega (arith, still-had cs ds m n e, later-had cs ds m n' d);
    numbered = λ m e. rw (listed-are cs) (has-number p (book cs) (at cs).nu' (at cs).inv m (rw (listed-are cs) at e));
    for-good = for-good cs ds;
    never_back = λ m es e off. for-good (cs ++ ds) es m (has_left cs ds m e off);
    in-gone = has_left cs ds;
    was-listed = listed-once cs;
    gone-once = once-apart (book cs).gone (at cs).inv.apart;
    off = taken-off cs;
    sum = rw (listed-are cs) (ap (λ (t : Table). t.given) (table_is cs) ∙ (at cs).inv.total);
    stays-sound = ap sound (table_is cs) ∙ sound-in p (book cs) (at cs).nu' (at cs).inv;
    number-most = number-within cs;
    given-most = given-within cs;
    number-below-193 = λ q m. omega (arith, number-within cs m, months-most cal.cover p.kind o.valid q);
    below-193 = λ q. omega (arith, given-within cs, months-most cal.cover p.kind o.valid q);
  }

-- Demand 3
pub demand3 : (p : Product) (cal : Calendar) (date : ℕ) → opens p cal date ≡ true → (cs ds : List Call) → Demand3 p cal date cs ds
demand3 p cal date e = history p cal date (opened p cal date e)

-- an accepted open gives a sound table
pub opened-sound : (p : Product) (cal : Calendar) (date : ℕ) → opens p cal date ≡ true → sound (opened_table p cal date) ≡ true
unfolding table_run
opened-sound p cal date e = (demand3 p cal date e [] []).stays-sound
