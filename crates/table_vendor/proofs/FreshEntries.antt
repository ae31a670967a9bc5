-- The fresh entries of a sound table: what its places hold, each key at most once, in 16 bits; and what is said of a list.
-- Assumes nothing.
use Prim.Native.Nat.{ℕ, suc, ◌+◌, ◌≤◌, ◌<◌}
use mathlib.Core.Path.{◌≡◌, refl, ◌∙◌, sym, ap}
use mathlib.Core.Bool.{Bool, true, false, cond}
use mathlib.Core.List.{List, [], ◌∷◌, map}
use native.Mathlib.Nat.{zero-add}
use native.Mathlib.Omega.{arith}
use lib.Dec.{eqb}
use lib.ListN.{length, get_or, take, length-map}
use borrow.Author.Tests.{eqb-true, ne_eqb}
use Rattle.questions.specs.Questions.{first_no, answer}
use Rattle.questions.proofs.Bools.{clash, is_false}
use Rattle.listing.specs.declared.Maturity.{Maturity}
use Rattle.listing.specs.Rules.{Rule, fresh_keys, maturity, unused}
use Rattle.listing.specs.Months.{places_of_kind}
use Rattle.listing.proofs.Lawful.{key-at}
use Rattle.listing.proofs.OfKinds.{rule-lawful, rule-beyond}
use Rattle.table_numbering.specs.Numbering.{is_listed, unnumbered}
use Rattle.table_numbering.specs.NumberingLaws.{Rising}
use Rattle.table_numbering.proofs.MonthsRise.{place_of, rising-tail, rising-once, at_map, fresh-rises}
use Rattle.table.specs.declared.Table.{Table}
use Rattle.table.specs.Table.{listed_in, sound, rule_in, fresh_in}
use Rattle.table.proofs.Staying.{listed-fresh}
use Rattle.table_vendor.proofs.Judging.{judged}
use Rattle.table_vendor.proofs.VendorPasses.{listed-none, passes-find, passes-most}
use Rattle.table_vendor.specs.Vendor.{VendorEntry, vendor_entry_of, entries_of, fresh_entries, times, smallest, Judgement, yes_said, nothing_said, judgement}
use Rattle.table_vendor.specs.Vendor.{vendor_call, Reordered, Short, Judged, Vendors}
use Rattle.table_vendor.specs.VendorPasses.{least_listed, least_other, said}

-- a key stands at most once in a listing whose keys rise
rising-times : (ms : List Maturity) (k : ℕ) → Rising ms → times (map vendor_entry_of ms) k ≤ 1
unfolding times
rising-times [] k r = omega arith
rising-times (m ∷ ms) k r = go (eqb m.key k) refl (rising-times ms k (rising-tail m ms r))
  where
    go : (b : Bool) → eqb m.key k ≡ b → times (map vendor_entry_of ms) k ≤ 1 → cond b 1 0 + times (map vendor_entry_of ms) k ≤ 1
    go true e ih = omega (arith, ap (times (map vendor_entry_of ms)) (sym (eqb-true m.key k e)) ∙ listed-none ms m.key (rising-once m ms r))
    go false e ih = omega arith

-- numbers and days stepped back play no part
unnumbered-entries : (ms : List Maturity) → map vendor_entry_of (unnumbered ms) ≡ map vendor_entry_of ms
unnumbered-entries [] = refl
unnumbered-entries (m ∷ ms) = ap (λ (es : List VendorEntry). vendor_entry_of m ∷ es) (unnumbered-entries ms)

-- the fresh listing of any table, of months or of Fridays: each key stands at most once, and has 16 bits
module _ (t : Table) where
  abbrev rule : Rule
  rule = rule_in t t.calendar

  abbrev keys : List ℕ
  keys = fresh_keys (rule_in t t.calendar) t.calendar t.date

  abbrev fresh : List Maturity
  fresh = fresh_in t t.calendar t.date

  -- each key stands at most once in the fresh entries of a table
  pub fresh-once : (k : ℕ) → times (fresh_entries t) k ≤ 1
  unfolding fresh_entries
  fresh-once k = rising-times fresh k (fresh-rises t.calendar t.product.kind t.product.group t.date)

  key_below : (k : ℕ) → is_listed fresh k ≡ true → k < 36525
  key_below k e =
      let p = place_of fresh k e in
      let h : p.place < length keys = omega (arith, p.below, length-map keys (maturity rule t.calendar (λ j. 0))) in
      let q : (get_or fresh p.place unused).key ≡ get_or keys p.place 0 =
      ap (λ (m : Maturity). m.key) (at_map (maturity rule t.calendar (λ j. 0)) unused keys p.place h) in
      omega (
        arith,
        p.key,
        q,
        (key-at rule (rule-lawful t.calendar.cover t.product.kind t.product.group) t.calendar t.date
            p.place h).below,
        rule-beyond t.calendar.cover t.product.kind t.product.group,
      )

  -- the keys of the fresh entries of a table fit 16 bits
  pub fresh-short : Short (fresh_entries t)
  unfolding fresh_entries
  fresh-short = record { below = λ k l. listed-none fresh k (is_false (is_listed fresh k) (λ e. omega (arith, key_below k e))) }

module _ (t : Table) (e : sound t ≡ true) (long : length t.maturities ≡ 15) where
  -- the places hold the fresh entries
  pub listed-entries : fresh_entries t ≡ map vendor_entry_of (listed_in t)
  unfolding fresh_entries
  listed-entries = ap (map vendor_entry_of) (listed-fresh t e long) ∙ unnumbered-entries (listed_in t)

  -- each key stands at most once in the places of a sound table
  pub listed-once : (k : ℕ) → times (map vendor_entry_of (listed_in t)) k ≤ 1
  listed-once k = rw (← listed-entries) (fresh-once t k)

  -- what the code finds
  module _ (list : List ℕ) (n first least : ℕ) (i : n ≡ places_of_kind t.product.kind)
      (p : first ≡ least_listed (entries_of list) (take n t.maturities) 65536)
      (q : least ≡ least_other (listed_in t) (entries_of list) first) where
    least-is : least ≡ least_other (listed_in t) (entries_of list) (least_listed (entries_of list) (listed_in t) 65536)
    least-is = q ∙ ap (least_other (listed_in t) (entries_of list)) (p ∙ ap (λ (k : ℕ). least_listed (entries_of list) (take k t.maturities) 65536) i)

    -- the least key that the code finds to differ is at most 65536
    pub least-most : least ≤ 65536
    least-most = omega (arith, least-is, passes-most (listed_in t) (entries_of list) listed-once)

    found : least ≡ smallest (fresh_entries t) (entries_of list)
    found = least-is ∙ passes-find (listed_in t) (entries_of list) listed-once ∙ ap (λ (es : List VendorEntry). smallest es (entries_of list)) (sym listed-entries)

    -- the answer by the least key that the code finds is that of the call
    pub vendor-said : said least ≡ vendor_call t list
    unfolding said vendor_call answer first_no judgement
    vendor-said = rw (e, found)

-- question 10
pub vendor-10 : (t : Table) (list : List ℕ) → sound t ≡ false → vendor_call t list ≡ record { refusal = 10; value = nothing_said }
unfolding vendor_call answer first_no
vendor-10 t list e = rw e

-- a list of 16-bit numbers
list-short : (list : List ℕ) (m : ℕ) → ((i : ℕ) → i < length list → get_or list i 0 < m) → times (entries_of list) m ≡ 0
unfolding entries_of times
list-short [] m h = refl
list-short (x ∷ []) m h =
    let l : x < m = h 0 (omega arith) in
    rw (ne_eqb x m (λ e. omega arith))
list-short (x ∷ d ∷ rest) m h =
    let l : x < m = h 0 (omega arith) in
    rw (ne_eqb x m (λ e. omega arith)) (zero-add (times (entries_of rest) m) ∙ list-short rest m (λ i g. h (suc (suc i)) (omega arith)))

-- what note 12 says, of a sound table and a list of 16-bit numbers
module _ (t : Table) (list : List ℕ) (e : sound t ≡ true) (short : (i : ℕ) → i < length list → get_or list i 0 < 65536) where
  table-judged : Judged (fresh_entries t) (entries_of list)
  table-judged =
      judged (fresh_entries t) (entries_of list) (fresh-once t) (fresh-short t)
      (record { below = λ m l. list-short list m (λ i g. omega (arith, short i g)) })

  accepted : vendor_call t list ≡ record { refusal = 0; value = judgement (fresh_entries t) (entries_of list) }
  unfolding vendor_call answer first_no
  accepted = rw e

  yes-zero : (judgement (fresh_entries t) (entries_of list)).same ≡ true → judgement (fresh_entries t) (entries_of list) ≡ yes_said
  unfolding judgement
  yes-zero s = go (eqb (smallest (fresh_entries t) (entries_of list)) 65536) s
    where
      go : (b : Bool) → (cond {A = Judgement} b yes_said (record { same = false; key = smallest (fresh_entries t) (entries_of list) })).same ≡ true
          → ◌≡◌ {A = Judgement} (cond b yes_said (record { same = false; key = smallest (fresh_entries t) (entries_of list) })) yes_said
      go true s = refl
      go false s = clash s refl

  -- 'A vendor whose list the rules give for the table's product, calendar and date always gets yes'
  vendor-right : Reordered (fresh_entries t) (entries_of list) → vendor_call t list ≡ record { refusal = 0; value = yes_said }
  vendor-right r = accepted ∙ ap (λ (j : Judgement). record { refusal = 0; value = j }) (yes-zero (table-judged.yes.1 r))

-- for each table and each list of 16-bit numbers the call answers as note 12 says
pub vendors : (t : Table) (list : List ℕ) (short : (i : ℕ) → i < length list → get_or list i 0 < 65536) → Vendors t list short
vendors t list short =
    record {
      answers = λ e. accepted t list e short;
      judged = λ e. table-judged t list e short;
      once = λ e. fresh-once t;
      unsound = vendor-10 t list;
      always = λ e. vendor-right t list e short;
    }
