-- What was read of a text of notices is what is said of it: of a bad line its number, else the date, the line of the opening and the count.
-- Assumes nothing.
use mathlib.Core.Path.{◌≡◌, refl, ◌∙◌, sym, ap}
use mathlib.Core.Bool.{Bool, true, false, cond}
use mathlib.Core.List.{List, [], ◌∷◌, map}
use Prim.Native.Nat.{ℕ, zero, suc}
use native.Mathlib.Omega.{arith}
use lib.Dec.{eqb}
use lib.ListN.{length, length-append, length-map}
use borrow.Author.Tests.{eq-eqb, ne_eqb, eqb-true}
use Rattle.questions.proofs.Bools.{clash}
use Rattle.delivery_notices.specs.declared.NoticesTaken.{NoticesTaken}
use Rattle.delivery_notices.specs.Notices.{NoticesTold, text_told}
use Rattle.delivery_notices.specs.NoticeLists.{notice_at, notices_to, notice_held, lists_fit, TextIn}
use Rattle.c_delivery.specs.declared.Notices.{Notices}
use Rattle.c_delivery.specs.Delivered.{no_notices, said_notices, notices_of, notices_read, NoticesIn}

module _ (t : NoticesTaken) where
  -- without room in the lists nothing is said of the notices
  pub of_none : t.fits ≡ false → no_notices false 0 ≡ notices_of t
  unfolding notices_of
  of_none e = rw e refl

  -- of notices with a bad line only that line's number is said
  pub of-bad : t.fits ≡ true → (t.bad ≡ 0 → ⊥) → no_notices true t.bad ≡ notices_of t
  unfolding notices_of said_notices
  of-bad e n = rw (e, ne_eqb t.bad 0 n) refl

  -- of notices without a bad line their date, the line of the opening and their count are said
  pub of-good : t.fits ≡ true → t.bad ≡ 0 → record { fits = true; date = t.date; opened = t.opened; count = t.count; bad = 0 } ≡ notices_of t
  unfolding notices_of said_notices
  of-good e z = rw (e, eq-eqb t.bad 0 z) refl

-- the first n notices of two lists are n
pub notices-length : (calls ids : List ℕ) (n : ℕ) → length (notices_to calls ids n) ≡ n
unfolding notices_to
notices-length calls ids zero = refl
notices-length calls ids (suc n) =
    length-append (notices_to calls ids n) (notice_at calls ids n ∷ []) ∙ omega (arith, notices-length calls ids n)

module _ (bad date opened count : ℕ) where
  said_fits : (said_notices bad date opened count).fits ≡ true
  unfolding said_notices
  said_fits = go (eqb bad 0)
    where
      go : (b : Bool) → (cond b (record { fits = true; date = date; opened = opened; count = count; bad = 0 }) (no_notices true bad)).fits ≡ true
      go true = refl
      go false = refl

  said-good : bad ≡ 0 → said_notices bad date opened count ≡ record { fits = true; date = date; opened = opened; count = count; bad = 0 }
  unfolding said_notices
  said-good z = rw (eq-eqb bad 0 z) refl

  said-bad : (said_notices bad date opened count).bad ≡ bad
  unfolding said_notices
  said-bad = go (eqb bad 0) refl
    where
      go : (b : Bool) → eqb bad 0 ≡ b → (cond b (record { fits = true; date = date; opened = opened; count = count; bad = 0 }) (no_notices true bad)).bad ≡ bad
      go true e = sym (eqb-true bad 0 e)
      go false e = refl

module _ (text : List ℕ) (calls ids : ℕ) where
  with-room : lists_fit calls ids ≡ true
      → notices_read text calls ids ≡ said_notices (text_told text).bad (text_told text).date (text_told text).opened (length (text_told text).notices)
  unfolding notices_read
  with-room h = rw h refl

  without-room : lists_fit calls ids ≡ false → notices_read text calls ids ≡ no_notices false 0
  unfolding notices_read
  without-room h = rw h refl

module _ (text calls calls' ids ids' : List ℕ) (t : NoticesTaken) (x : TextIn text calls calls' ids ids' t) where
  abbrev told : NoticesTold
  told = text_told text

  module _ (h : t.fits ≡ true) where
    bad-is : t.bad ≡ told.bad
    bad-is = ap (λ (u : NoticesTold). u.bad) (x.is h)

    date-is : t.date ≡ told.date
    date-is = ap (λ (u : NoticesTold). u.date) (x.is h)

    opened-is : t.opened ≡ told.opened
    opened-is = ap (λ (u : NoticesTold). u.opened) (x.is h)

    notices-are : notices_to calls' ids' t.count ≡ map notice_held told.notices
    notices-are = ap (λ (u : NoticesTold). u.notices) (x.is h)

    count-is : t.count ≡ length told.notices
    count-is = sym (notices-length calls' ids' t.count) ∙ ap length notices-are ∙ length-map told.notices notice_held

    of-said : notices_of t ≡ said_notices t.bad t.date t.opened t.count
    unfolding notices_of
    of-said = rw h refl

    -- with room in the lists, what is said of the notices read is what the definition says of the text
    pub said-is : notices_of t ≡ notices_read text (length calls) (length ids)
    said-is =
        of-said
        ∙ ap (λ (k : ℕ). said_notices k t.date t.opened t.count) bad-is
        ∙ ap (λ (k : ℕ). said_notices told.bad k t.opened t.count) date-is
        ∙ ap (λ (k : ℕ). said_notices told.bad told.date k t.count) opened-is
        ∙ ap (said_notices told.bad told.date told.opened) count-is
        ∙ sym (with-room text (length calls) (length ids) (sym x.fits ∙ h))

    held-is : (notices_of t).bad ≡ 0 → notices_to calls' ids' (notices_of t).count ≡ map notice_held told.notices
    held-is z =
        let b : t.bad ≡ 0 = sym (said-bad t.bad t.date t.opened t.count) ∙ ap (λ (n : Notices). n.bad) (sym of-said) ∙ z in
        let k : (notices_of t).count ≡ t.count = ap (λ (n : Notices). n.count) (of-said ∙ said-good t.bad t.date t.opened t.count b) in
        ap (notices_to calls' ids') k ∙ notices-are

    -- with room in the lists, they hold the notices of a text without a bad line
    pub read_whole : NoticesIn text calls calls' ids ids' (notices_of t)
    read_whole =
        record {
          is = said-is;
          held = λ f z. held-is z;
          idle = λ f. clash (ap (λ (n : Notices). n.fits) of-said ∙ said_fits t.bad t.date t.opened t.count) f;
          calls-long = x.calls-long;
          ids-long = x.ids-long;
        }

  module _ (h : t.fits ≡ false) where
    of-nothing : notices_of t ≡ no_notices false 0
    of-nothing = sym (of_none t h)

    -- without room in the lists they are untouched
    pub read-idle : NoticesIn text calls calls' ids ids' (notices_of t)
    read-idle =
        record {
          is = of-nothing ∙ sym (without-room text (length calls) (length ids) (sym x.fits ∙ h));
          held = λ f z. clash f (ap (λ (n : Notices). n.fits) of-nothing);
          idle = λ f. x.idle h;
          calls-long = x.calls-long;
          ids-long = x.ids-long;
        }

  -- with room or without, the lists and what is said are those of the definition
  pub read-in : (r : Notices) → r ≡ notices_of t → NoticesIn text calls calls' ids ids' r
  read-in r e = rw e (go t.fits refl)
    where
      go : (b : Bool) → t.fits ≡ b → NoticesIn text calls calls' ids ids' (notices_of t)
      go true h = read_whole h
      go false h = read-idle h

-- what is said of a text without a bad line is its date, its opening and its notices
pub read-good : (text : List ℕ) (calls ids : ℕ) (n : Notices) → n ≡ notices_read text calls ids → n.fits ≡ true → n.bad ≡ 0
    → (n.date ≡ (text_told text).date) × (n.opened ≡ (text_told text).opened)
read-good text calls ids n e f z = go (lists_fit calls ids) refl
  where
    go : (b : Bool) → lists_fit calls ids ≡ b → (n.date ≡ (text_told text).date) × (n.opened ≡ (text_told text).opened)
    go true h =
        let s : n ≡ said_notices (text_told text).bad (text_told text).date (text_told text).opened (length (text_told text).notices) = e
        ∙ with-room text calls ids h in
        let b : (text_told text).bad ≡ 0 = sym (said-bad (text_told text).bad (text_told text).date (text_told text).opened
        (length (text_told text).notices)) ∙ ap (λ (m : Notices). m.bad) (sym s) ∙ z in
        let w : n ≡ record {
          fits = true;
          date = (text_told text).date;
          opened = (text_told text).opened;
          count = length
              (text_told text).notices;
          bad = 0;
        } = s ∙ said-good (text_told text).bad (text_told text).date (text_told text).opened
        (length (text_told text).notices) b in
        (ap (λ (m : Notices). m.date) w, ap (λ (m : Notices). m.opened) w)
    go false h = clash f (ap (λ (m : Notices). m.fits) (e ∙ without-room text calls ids h))
