-- What is held after each line stands for what the definition says of the lines so far.
-- Assumes nothing.
use mathlib.Core.Path.{◌≡◌, refl, ◌∙◌, sym, ap}
use mathlib.Core.Bool.{Bool, true, false, ◌&&◌, cond}
use mathlib.Core.Logic.{◌⊎◌, inl, inr}
use mathlib.Core.List.{List, [], ◌∷◌, ◌++◌, map}
use Prim.Native.Nat.{ℕ, ◌+◌, ◌-◌, ◌*◌, ◌≤◌, ◌<◌}
use native.Mathlib.Omega.{arith}
use lib.Dec.{eqb, leb, ltb}
use lib.ListN.{length, get_or, take, drop, length-drop, length-take}
use lib.Seq.{take_all, length-take-le}
use borrow.Author.Tests.{eq-eqb, ne_eqb, eqb-true, eqb-false, lt-ltb, le-ltb, not-true, not-false, leb-true}
use Rattle.questions.proofs.Bools.{lt-or-ge, clash, both}
use Rattle.history.specs.Book.{Call, roll, close, reopen, measure}
use Rattle.session_lines.specs.CommandLines.{lines_from}
use Rattle.session_lines.specs.BytePlaces.{ByteFrom}
use Rattle.delivery_lines.specs.declared.NoticeLine.{NoticeLine}
use Rattle.delivery_lines.specs.NoticeLines.{Said, nothing, bad, opening, notice, said_by, line_held, mark_length, unmarked}
use Rattle.delivery_lines.proofs.NoticeLengths.{said-long, said-four, four_of}
use Rattle.delivery_notices.specs.declared.NoticesTaken.{NoticesTaken}
use Rattle.delivery_notices.specs.Notices.{Notice, NoticesTold, nothing_told, bad_told, good_told, said_told, next_told, lines_told, whole_told, text_told}
use Rattle.delivery_notices.specs.NoticeLists.{notices_to, notice_held, told_held, told_in, kind_in, first_in, line_notice, StoredIn, lists_fit, TextIn}
use Rattle.delivery_notices.specs.NoticeReading.{no_notices_taken, bad_taken, may_stand, whole_taken, read_length, SaidIn, LineTaken, NoticeLinesIn}
use Rattle.delivery_notices.proofs.NoticeEnds.{lines_none, line-more, line-length, is_last}

-- ---- what the definitions say in one step

after-no : (told : NoticesTold) (said : Said) → (told.bad ≡ 0 → ⊥) → {x : NoticesTold} → x ≡ told_held told → x ≡ told_held (next_told told said)
unfolding next_told
after-no told said n q = rw (ne_eqb told.bad 0 n) q

cut-is : (t : NoticesTaken) (calls ids : List ℕ) (told : NoticesTold) → told_in t calls ids ≡ told_held told
    → told_in (bad_taken t) calls ids ≡ told_held (said_told told bad)
unfolding said_told bad_told
cut-is t calls ids told q = ap bad_told q

said-id : (line : List ℕ) → (line_held (said_by line)).id
    ≡ get_or (line_held (said_by line)).id 0 0 ∷ get_or (line_held (said_by line)).id 1 0 ∷ get_or (line_held (said_by line)).id 2 0
    ∷ get_or (line_held (said_by line)).id 3 0 ∷ []
unfolding four_of
said-id line = said-four line

no-notices : (calls ids : List ℕ) → told_in (no_notices_taken true) calls ids ≡ told_held nothing_told
unfolding nothing_told notices_to
no-notices calls ids = refl

one_line : (long : Bool) (t : NoticesTold) (line : List ℕ) (lines : List (List ℕ)) (cut : Bool) → cut ≡ (long && eqb (length lines) 0)
    → lines_told long t (line ∷ lines) ≡ lines_told long (next_told t (cond cut bad (said_by line))) lines
unfolding lines_told
one_line long t line lines cut e = rw e refl

no_line : (long : Bool) (t : NoticesTold) → lines_told long t [] ≡ t
unfolding lines_told
no_line long t = refl

-- ---- a line by what it says

-- the notice that is stored is the one that the line says, as it is held
held-notice : (c : Call) (id : List ℕ) (line : ℕ) (n : NoticeLine) → n ≡ line_held (notice c id)
    → n.id ≡ get_or n.id 0 0 ∷ get_or n.id 1 0 ∷ get_or n.id 2 0 ∷ get_or n.id 3 0 ∷ []
    → line_notice line n ≡ notice_held (record { line = line; call = c; id = id })
unfolding line_notice kind_in first_in line_held
held-notice (roll d) id line n e f = let g = rw e at f in rw e (rw (← g) refl)
held-notice (close d) id line n e f = let g = rw e at f in rw e (rw (← g) refl)
held-notice (reopen d) id line n e f = let g = rw e at f in rw e (rw (← g) refl)
held-notice (measure p q price) id line n e f = let g = rw e at f in rw e (rw (← g) refl)

-- the letters of calls
call-letter : (c : Call) (id : List ℕ) → ((line_held (notice c id)).letter ≡ 35 → ⊥) × ((line_held (notice c id)).letter ≡ 0 → ⊥)
    × ((line_held (notice c id)).letter ≡ 79 → ⊥)
unfolding line_held
call-letter (roll d) id = (λ e. omega arith, λ e. omega arith, λ e. omega arith)
call-letter (close d) id = (λ e. omega arith, λ e. omega arith, λ e. omega arith)
call-letter (reopen d) id = (λ e. omega arith, λ e. omega arith, λ e. omega arith)
call-letter (measure p q price) id = (λ e. omega arith, λ e. omega arith, λ e. omega arith)

letter-nothing : (line_held nothing).letter ≡ 35
unfolding line_held
letter-nothing = refl

letter-bad : (line_held bad).letter ≡ 0
unfolding line_held
letter-bad = refl

letter-opening : (d : ℕ) → (line_held (opening d)).letter ≡ 79
unfolding line_held
letter-opening d = refl

day-opening : (d : ℕ) → (line_held (opening d)).day ≡ d
unfolding line_held
day-opening d = refl

map_snoc : (f : Notice → Notice) (xs : List Notice) (x : Notice) → map f (xs ++ (x ∷ [])) ≡ map f xs ++ (f x ∷ [])
map_snoc f [] x = refl
map_snoc f (y ∷ ys) x = ap (λ (l : List Notice). f y ∷ l) (map_snoc f ys x)

module _ (t : NoticesTaken) (n : NoticeLine) (calls ids : List ℕ) (z : t.bad ≡ 0) where
  module _ (told : NoticesTold) (q : told_in t calls ids ≡ told_held told) where
    opened-same : t.opened ≡ told.opened
    opened-same = ap (λ (x : NoticesTold). x.opened) q

    lines_same : t.lines ≡ told.lines
    lines_same = ap (λ (x : NoticesTold). x.lines) q

    after-good : record { opened = t.opened; date = t.date; notices = notices_to calls ids t.count; lines = t.lines + 1; bad = t.bad }
        ≡ told_held (said_told told nothing)
    unfolding said_told
    after-good = rw z (ap (λ (x : NoticesTold). good_told x x.opened x.date x.notices) q)

    after-bad : told_in (bad_taken t) calls ids ≡ told_held (bad_told told)
    unfolding bad_told
    after-bad = ap bad_told q

    after-cut : told_in (bad_taken t) calls ids ≡ told_held (said_told told bad)
    unfolding said_told
    after-cut = after-bad

  comment-told : n.letter ≡ 35 → (told : NoticesTold) (said : Said) → n ≡ line_held said → told_in t calls ids ≡ told_held told
      → record { opened = t.opened; date = t.date; notices = notices_to calls ids t.count; lines = t.lines + 1; bad = t.bad }
      ≡ told_held (said_told told said)
  comment-told l told nothing e q = after-good told q
  comment-told l told bad e q = absurd (omega (arith, ap (λ (m : NoticeLine). m.letter) e, letter-bad))
  comment-told l told (opening d) e q = absurd (omega (arith, ap (λ (m : NoticeLine). m.letter) e, letter-opening d))
  comment-told l told (notice c id) e q = absurd ((call-letter c id).0 (sym (ap (λ (m : NoticeLine). m.letter) e) ∙ l))

  -- a line that says nothing counts as a line and changes nothing else
  pub said-comment : n.letter ≡ 35 → SaidIn t n calls calls ids ids
      (record { fits = t.fits; opened = t.opened; date = t.date; count = t.count; lines = t.lines + 1; bad = t.bad })
  said-comment l = record {
    is = λ told said e f q. comment-told l told said e q;
    grows = inl refl;
    lines = refl;
    fits = refl;
    calls-long = refl;
    ids-long =
        refl;
  }

  module _ (c : n.letter ≡ 35 → ⊥) where
    bad-told : n.letter ≡ 0 → (told : NoticesTold) (said : Said) → n ≡ line_held said → told_in t calls ids ≡ told_held told
        → told_in (bad_taken t) calls ids ≡ told_held (said_told told said)
    bad-told l told nothing e q = absurd (omega (arith, ap (λ (m : NoticeLine). m.letter) e, letter-nothing))
    bad-told l told bad e q = after-cut told q
    bad-told l told (opening d) e q = absurd (omega (arith, ap (λ (m : NoticeLine). m.letter) e, letter-opening d))
    bad-told l told (notice k id) e q = absurd ((call-letter k id).1 (sym (ap (λ (m : NoticeLine). m.letter) e) ∙ l))

    -- a line that is bad is taken as the bad line
    pub said-bad : n.letter ≡ 0 → SaidIn t n calls calls ids ids (bad_taken t)
    said-bad l = record { is = λ told said e f q. bad-told l told said e q; grows = inl refl; lines = refl; fits = refl; calls-long = refl; ids-long = refl }

    module _ (b : n.letter ≡ 0 → ⊥) where
      -- a line that may not stand there
      opening-strayed : may_stand 79 t.opened ≡ false → (told : NoticesTold) (d : ℕ) → told_in t calls ids ≡ told_held told
          → told_in (bad_taken t) calls ids ≡ told_held (said_told told (opening d))
      unfolding said_told
      opening-strayed m told d q =
          let e : eqb told.opened 0 ≡ false = rw (opened-same told q) at m in
          rw e (after-bad told q)

      notice-strayed : (letter : ℕ) → (letter ≡ 79 → ⊥) → may_stand letter t.opened ≡ false → (told : NoticesTold) (k : Call) (id : List ℕ)
          → told_in t calls ids ≡ told_held told
          → told_in (bad_taken t) calls ids ≡ told_held (said_told told (notice k id))
      unfolding said_told
      notice-strayed letter o m told k id q =
          let e : eqb told.opened 0 ≡ true = not-false (eqb told.opened 0) (rw (ne_eqb letter 79 o, opened-same told q) at m) in
          rw e (after-bad told q)

      strayed-told : may_stand n.letter t.opened ≡ false → (told : NoticesTold) (said : Said) → n ≡ line_held said → told_in t calls ids ≡ told_held told
          → told_in (bad_taken t) calls ids ≡ told_held (said_told told said)
      strayed-told m told nothing e q = absurd (c (ap (λ (x : NoticeLine). x.letter) e ∙ letter-nothing))
      strayed-told m told bad e q = absurd (b (ap (λ (x : NoticeLine). x.letter) e ∙ letter-bad))
      strayed-told m told (opening d) e q = opening-strayed (rw (ap (λ (x : NoticeLine). x.letter) e ∙ letter-opening d) at m) told d q
      strayed-told m told (notice k id) e q =
          notice-strayed n.letter (λ o. (call-letter k id).2 (sym (ap (λ (x : NoticeLine). x.letter) e) ∙ o)) m told k id q

      -- a line that may not stand there, a second O or one before the O, is taken as the bad line
      pub said-strayed : may_stand n.letter t.opened ≡ false → SaidIn t n calls calls ids ids (bad_taken t)
      said-strayed m = record {
        is = λ told said e f q. strayed-told m told said e q;
        grows = inl refl;
        lines = refl;
        fits = refl;
        calls-long = refl;
        ids-long =
            refl;
      }

      module _ (m : may_stand n.letter t.opened ≡ true) where
        -- the O
        opening-stands : n.letter ≡ 79 → (told : NoticesTold) (d : ℕ) → n.day ≡ d → told_in t calls ids ≡ told_held told
            → record { opened = t.lines + 1; date = n.day; notices = notices_to calls ids t.count; lines = t.lines + 1; bad = t.bad }
            ≡ told_held (said_told told (opening d))
        unfolding said_told
        opening-stands l told d y q =
            let e : eqb told.opened 0 ≡ true = rw (l, opened-same told q) at m in
            rw (e, y, z) (ap (λ (x : NoticesTold). good_told x (x.lines + 1) d x.notices) q)

        open_told : n.letter ≡ 79 → (told : NoticesTold) (said : Said) → n ≡ line_held said → told_in t calls ids ≡ told_held told
            → record { opened = t.lines + 1; date = n.day; notices = notices_to calls ids t.count; lines = t.lines + 1; bad = t.bad }
            ≡ told_held (said_told told said)
        open_told l told nothing e q = absurd (c (ap (λ (x : NoticeLine). x.letter) e ∙ letter-nothing))
        open_told l told bad e q = absurd (b (ap (λ (x : NoticeLine). x.letter) e ∙ letter-bad))
        open_told l told (opening d) e q = opening-stands l told d (ap (λ (x : NoticeLine). x.day) e ∙ day-opening d) q
        open_told l told (notice k id) e q = absurd ((call-letter k id).2 (sym (ap (λ (x : NoticeLine). x.letter) e) ∙ l))

        -- an O is taken with its line and its date
        pub said-open : n.letter ≡ 79 → SaidIn t n calls calls ids ids
            (record { fits = t.fits; opened = t.lines + 1; date = n.day; count = t.count; lines = t.lines + 1; bad = t.bad })
        said-open l = record {
          is = λ told said e f q. open_told l told said e q;
          grows = inl refl;
          lines = refl;
          fits = refl;
          calls-long = refl;
          ids-long =
              refl;
        }

        -- a call
        module _ (o : n.letter ≡ 79 → ⊥) (calls' ids' : List ℕ) (s : StoredIn (t.lines + 1) n t.count calls calls' ids ids') where
          notice-stands : (told : NoticesTold) (k : Call) (id : List ℕ)
              → line_notice (t.lines + 1) n ≡ notice_held (record { line = t.lines + 1; call = k; id = id })
              → told_in t calls ids ≡ told_held told
              → record { opened = t.opened; date = t.date; notices = notices_to calls' ids' (t.count + 1); lines = t.lines + 1; bad = t.bad }
              ≡ told_held (said_told told (notice k id))
          unfolding said_told
          notice-stands told k id h q =
              let e : eqb told.opened 0 ≡ false = not-true (eqb told.opened 0) (rw (ne_eqb n.letter 79 o, opened-same told q) at m) in
              rw (e, z, s.is, h, lines_same told q, map_snoc notice_held told.notices (record { line = told.lines + 1; call = k; id = id }))
              (ap (λ (x : NoticesTold). good_told (record { opened = x.opened; date = x.date; notices = x.notices; lines = told.lines; bad = 0 }) x.opened
              x.date (x.notices ++ (notice_held (record { line = told.lines + 1; call = k; id = id }) ∷ []))) q)

          call-told : (told : NoticesTold) (said : Said) → n ≡ line_held said
              → n.id ≡ get_or n.id 0 0 ∷ get_or n.id 1 0 ∷ get_or n.id 2 0 ∷ get_or n.id 3 0 ∷ []
              → told_in t calls ids ≡ told_held told
              → record { opened = t.opened; date = t.date; notices = notices_to calls' ids' (t.count + 1); lines = t.lines + 1; bad = t.bad }
              ≡ told_held (said_told told said)
          call-told told nothing e f q = absurd (c (ap (λ (x : NoticeLine). x.letter) e ∙ letter-nothing))
          call-told told bad e f q = absurd (b (ap (λ (x : NoticeLine). x.letter) e ∙ letter-bad))
          call-told told (opening d) e f q = absurd (o (ap (λ (x : NoticeLine). x.letter) e ∙ letter-opening d))
          call-told told (notice k id) e f q = notice-stands told k id (held-notice k id (t.lines + 1) n e f) q

          -- a call is stored as the next notice
          pub said-call : SaidIn t n calls calls' ids ids'
              (record { fits = t.fits; opened = t.opened; date = t.date; count = t.count + 1; lines = t.lines + 1; bad = t.bad })
          said-call = record { is = call-told; grows = inr (refl, (c, b)); lines = refl; fits = refl; calls-long = s.calls-long; ids-long = s.ids-long }

-- ---- a line by its bytes

module _ (t : NoticesTaken) (line : List ℕ) (calls ids : List ℕ) where
  bad-same : (told : NoticesTold) → told_in t calls ids ≡ told_held told → t.bad ≡ told.bad
  bad-same told q = ap (λ (x : NoticesTold). x.bad) q

  -- after a bad line no further line changes what is taken
  pub line-after-bad : (cut : Bool) → (t.bad ≡ 0 → ⊥) → LineTaken t line cut calls calls ids ids t
  line-after-bad cut n = record { is = stays; grows = inl refl; lines = omega arith; fits = refl; calls-long = refl; ids-long = refl }
    where
      stays : (told : NoticesTold) → told_in t calls ids ≡ told_held told → told_in t calls ids ≡ told_held (next_told told (cond cut bad (said_by line)))
      stays told q = after-no told (cond cut bad (said_by line)) (λ e. n (bad-same told q ∙ e)) q

  module _ (z : t.bad ≡ 0) where
    next-is : (told : NoticesTold) (said : Said) → told_in t calls ids ≡ told_held told → next_told told said ≡ said_told told said
    unfolding next_told
    next-is told said q = rw (eq-eqb told.bad 0 (sym (bad-same told q) ∙ z)) refl

    cut-told : (told : NoticesTold) → told_in t calls ids ≡ told_held told → told_in (bad_taken t) calls ids ≡ told_held (next_told told bad)
    cut-told told q = rw (next-is told bad q) (after-cut-line told q)
      where
        after-cut-line : (x : NoticesTold) → told_in t calls ids ≡ told_held x → told_in (bad_taken t) calls ids ≡ told_held (said_told x bad)
        after-cut-line x p = cut-is t calls ids x p

    -- a line that is cut off is taken as the bad line
    pub line-cut : (cut : Bool) → cut ≡ true → LineTaken t line cut calls calls ids ids (bad_taken t)
    line-cut cut e =
        record { is = λ told q. rw e (cut-told told q); grows = inl refl; lines = omega arith; fits = refl; calls-long = refl; ids-long = refl }

    -- a line that is not cut off is taken as what it says
    pub line-said : (cut : Bool) → cut ≡ false → (n : NoticeLine) → n ≡ line_held (said_by line) → (calls' ids' : List ℕ) (r : NoticesTaken)
        → SaidIn t n calls calls' ids ids' r
        → LineTaken t line cut calls calls' ids ids' r
    line-said cut e n h calls' ids' r s =
        record {
          is = λ told q. rw (e, next-is told (said_by line) q) (s.is told (said_by line) h four q);
          grows = go s.grows;
          lines = omega (arith, s.lines);
          fits = s.fits;
          calls-long = s.calls-long;
          ids-long = s.ids-long;
        }
      where
        four : n.id ≡ get_or n.id 0 0 ∷ get_or n.id 1 0 ∷ get_or n.id 2 0 ∷ get_or n.id 3 0 ∷ []
        four = rw h (said-id line)

        go : (r.count ≡ t.count) ⊎ ((r.count ≡ t.count + 1) × ((n.letter ≡ 35 → ⊥) × (n.letter ≡ 0 → ⊥)))
            → (r.count ≡ t.count) ⊎ ((r.count ≡ t.count + 1) × (9 ≤ length line))
        go (inl x) = inl x
        go (inr x) = inr (x.0, said-long line n.letter (ap (λ (m : NoticeLine). m.letter) h) x.1.0 x.1.1)

-- ---- line by line

-- after the lines that end before a place
pub record Going (text : List ℕ) (long : Bool) (calls₀ ids₀ : List ℕ) (t : NoticesTaken) (calls ids : List ℕ) (from : ℕ) : Type 0 where
  -- what the lines so far tell
  pub told : NoticesTold
  -- what is taken and the lists hold what the lines so far tell
  pub stands : told_in t calls ids ≡ told_held told
  -- the lines left, after those so far, tell what the whole text tells
  pub rest : lines_told long told (lines_from [] (drop from text)) ≡ lines_told long nothing_told (lines_from [] text)
  -- the place is at most one past the end of the text
  pub within : from ≤ length text + 1
  -- every notice has taken at least 10 bytes of the text
  pub few : 10 * t.count ≤ from
  -- every line has taken at least one byte of the text
  pub lines : t.lines ≤ from
  -- the lists are long enough
  pub fits : t.fits ≡ true
  -- the list of calls keeps its length
  pub calls-long : length calls ≡ length calls₀
  -- the list of ids keeps its length
  pub ids-long : length ids ≡ length ids₀

module _ (text : List ℕ) (long : Bool) (calls₀ ids₀ : List ℕ) where
  -- the state before the first line
  pub begins : (t : NoticesTaken) → t ≡ no_notices_taken true → Going text long calls₀ ids₀ t calls₀ ids₀ 0
  begins t e =
      record {
        told = nothing_told;
        stands = rw e nothing-stands;
        rest = refl;
        within = omega arith;
        few = rw e (omega arith);
        lines = rw e (omega arith);
        fits = rw e refl;
        calls-long = refl;
        ids-long = refl;
      }
    where
      nothing-stands : told_in (no_notices_taken true) calls₀ ids₀ ≡ told_held nothing_told
      nothing-stands = no-notices calls₀ ids₀

  -- the state after one more line
  pub goes_on : (t : NoticesTaken) (calls ids : List ℕ) (from end : ℕ) → Going text long calls₀ ids₀ t calls ids from → from < length text
      → ByteFrom 10 text from end
      → (cut : Bool) → cut ≡ (long && leb (length text) (end + 1)) → (calls' ids' : List ℕ) (r : NoticesTaken)
      → LineTaken t (take (end - from) (drop from text)) cut calls calls' ids ids' r
      → Going text long calls₀ ids₀ r calls' ids' (end + 1)
  goes_on t calls ids from end g h l cut e calls' ids' r s =
      record {
        told = next_told g.told (cond cut bad (said_by line));
        stands = s.is g.told g.stands;
        rest = sym one ∙ g.rest;
        within = omega (arith, l.within);
        few = grown s.grows;
        lines = omega (arith, s.lines, g.lines, l.on);
        fits = s.fits ∙ g.fits;
        calls-long = s.calls-long ∙ g.calls-long;
        ids-long = s.ids-long ∙ g.ids-long;
      }
    where
      line : List ℕ
      line = take (end - from) (drop from text)

      one : lines_told long g.told (lines_from [] (drop from text))
          ≡ lines_told long (next_told g.told (cond cut bad (said_by line))) (lines_from [] (drop (end + 1) text))
      one =
          ap (lines_told long g.told) (line-more text from end h l)
          ∙ one_line long g.told line (lines_from [] (drop (end + 1) text)) cut (e ∙ ap (λ (b : Bool). long && b) (is_last text (end + 1)))

      grown : (r.count ≡ t.count) ⊎ ((r.count ≡ t.count + 1) × (9 ≤ length line)) → 10 * r.count ≤ end + 1
      grown (inl x) = omega (arith, g.few, l.on)
      grown (inr x) = omega (arith, g.few, x.0, x.1, l.on, line-length text from end h l)

  -- after the last line the lists hold the notices of all lines
  pub all_lines : (t : NoticesTaken) (calls ids : List ℕ) (from : ℕ) → Going text long calls₀ ids₀ t calls ids from → length text ≤ from → length text ≤ 65537
      → NoticeLinesIn text long calls₀ calls ids₀ ids t
  all_lines t calls ids from g h few =
      record {
        is = g.stands ∙ ap told_held (sym (ends-told g.told) ∙ g.rest);
        lines = omega (arith, g.lines, g.within);
        fits = g.fits;
        calls-long = g.calls-long;
        ids-long = g.ids-long;
      }
    where
      ends-told : (x : NoticesTold) → lines_told long x (lines_from [] (drop from text)) ≡ x
      ends-told x = rw (lines_none from text h) (no_line long x)

-- ---- the whole text

module _ (t : NoticesTaken) where
  -- a text with an O is taken as its lines are
  pub whole-opened : (t.opened ≡ 0 → ⊥) → t ≡ whole_taken t
  whole-opened n = rw (ne_eqb t.opened 0 n) refl

  -- a text without an O but with a bad line is taken as its lines are
  pub whole-bad : t.opened ≡ 0 → (t.bad ≡ 0 → ⊥) → t ≡ whole_taken t
  whole-bad e n = rw (eq-eqb t.opened 0 e, ne_eqb t.bad 0 n) refl

  -- a text without an O and without a bad line has a bad line at its end
  pub whole-missing : t.opened ≡ 0 → t.bad ≡ 0 → bad_taken t ≡ whole_taken t
  whole-missing e z = rw (eq-eqb t.opened 0 e, eq-eqb t.bad 0 z) refl

  module _ (calls ids : List ℕ) (told : NoticesTold) (q : told_in t calls ids ≡ told_held told) where
    held-opened : (t.opened ≡ 0 → ⊥) → told_in t calls ids ≡ told_held (whole_told told)
    unfolding whole_told
    held-opened n = rw (ne_eqb told.opened 0 (λ e. n (ap (λ (x : NoticesTold). x.opened) q ∙ e))) q

    held-bad : t.opened ≡ 0 → (t.bad ≡ 0 → ⊥) → told_in t calls ids ≡ told_held (whole_told told)
    unfolding whole_told next_told
    held-bad e n =
        rw (eq-eqb told.opened 0 (sym (ap (λ (x : NoticesTold). x.opened) q) ∙ e), ne_eqb told.bad 0 (λ z. n (ap (λ (x : NoticesTold). x.bad) q ∙ z))) q

    held-missing : t.opened ≡ 0 → t.bad ≡ 0 → told_in (bad_taken t) calls ids ≡ told_held (whole_told told)
    unfolding whole_told next_told
    held-missing e z =
        rw (eq-eqb told.opened 0 (sym (ap (λ (x : NoticesTold). x.opened) q) ∙ e), eq-eqb told.bad 0 (sym (ap (λ (x : NoticesTold). x.bad) q) ∙ z))
        (cut-is t calls ids told q)

    whole-held : told_in (whole_taken t) calls ids ≡ told_held (whole_told told)
    whole-held = go (eqb t.opened 0) refl (eqb t.bad 0) refl
      where
        go : (a : Bool) → eqb t.opened 0 ≡ a → (b : Bool) → eqb t.bad 0 ≡ b → told_in (whole_taken t) calls ids ≡ told_held (whole_told told)
        go false ea b eb = rw (← whole-opened (eqb-false t.opened 0 ea)) (held-opened (eqb-false t.opened 0 ea))
        go true ea false eb = rw (← whole-bad (eqb-true t.opened 0 ea) (eqb-false t.bad 0 eb))
            (held-bad (eqb-true t.opened 0 ea) (eqb-false t.bad 0 eb))
        go true ea true eb = rw (← whole-missing (eqb-true t.opened 0 ea) (eqb-true t.bad 0 eb))
            (held-missing (eqb-true t.opened 0 ea) (eqb-true t.bad 0 eb))

  whole-fits : (whole_taken t).fits ≡ t.fits
  whole-fits = go (eqb t.opened 0) (eqb t.bad 0)
    where
      go : (a b : Bool) → (cond a (cond b (bad_taken t) t) t).fits ≡ t.fits
      go false b = refl
      go true false = refl
      go true true = refl

-- as many bytes as are read
pub read_all : (n : ℕ) → n ≤ 65537 → n ≡ read_length n
unfolding read_length
read_all n h = rw (le-ltb 65537 n h) refl

-- of a text of more than 65537 bytes 65537 are read
pub read-most : (n : ℕ) → 65537 < n → 65537 ≡ read_length n
unfolding read_length
read-most n h = rw (lt-ltb 65537 n h) refl

-- no more bytes are read than the text has, and at most 65537
pub read-within : (n : ℕ) → (read_length n ≤ n) × (read_length n ≤ 65537)
read-within n = go (lt-or-ge 65537 n)
  where
    go : (65537 < n) ⊎ (n ≤ 65537) → (read_length n ≤ n) × (read_length n ≤ 65537)
    go (inl h) = (omega (arith, read-most n h), omega (arith, read-most n h))
    go (inr h) = (omega (arith, read_all n h), omega (arith, read_all n h))

read_take : (text : List ℕ) → take (read_length (length text)) text ≡ take 65537 text
read_take text = go (lt-or-ge 65537 (length text))
  where
    go : (65537 < length text) ⊎ (length text ≤ 65537) → take (read_length (length text)) text ≡ take 65537 text
    go (inl h) = rw (← read-most (length text) h) refl
    go (inr h) =
        take_all (read_length (length text)) text (omega (arith, read_all (length text) h)) ∙ sym (take_all 65537 text h)

-- the bytes read are no more than the text has
pub part-few : (text : List ℕ) (n : ℕ) → n ≡ read_length (length text) → n ≤ length text
part-few text n e = omega (arith, (read-within (length text)).0)

-- the part of a text after its mark
rest-long : (part : List ℕ) (mark : ℕ) → length (take (length part - mark) (drop mark part)) ≤ length part
rest-long part mark = omega (arith, length-take (length part - mark) (drop mark part), length-drop mark part)

-- the part read, without the mark, has at most 65537 bytes
pub rest-few : (text : List ℕ) (n mark : ℕ) → n ≡ read_length (length text) → length (take (length (take n text) - mark) (drop mark (take n text))) ≤ 65537
rest-few text n mark e =
    omega (arith, rest-long (take n text) mark, length-take-le n text (part-few text n e), (read-within (length text)).1)

module _ (text calls calls' ids ids' : List ℕ) (n mark : ℕ) (long : Bool) (t : NoticesTaken) (e : n ≡ read_length (length text))
    (m : mark ≡ mark_length (take n text)) (l : long ≡ ltb 65536 (length text)) where
  marked : take (length (take n text) - mark) (drop mark (take n text)) ≡ unmarked (take 65537 text)
  unfolding unmarked
  marked =
      take_all (length (take n text) - mark) (drop mark (take n text)) (omega (arith, length-drop mark (take n text)))
      ∙ rw (m, e, read_take text) refl

  is-text : take (length (take n text) - mark) (drop mark (take n text)) ≡ unmarked (take 65537 text)
      → whole_told (lines_told long nothing_told (lines_from [] (take (length (take n text) - mark) (drop mark (take n text))))) ≡ text_told text
  unfolding text_told
  is-text g = rw (g, l) refl

  -- in lists that fit, the lines of the part read, without the mark, give what the text tells
  pub text-read : NoticeLinesIn (take (length (take n text) - mark) (drop mark (take n text))) long calls calls' ids ids' t → (r : NoticesTaken)
      → r ≡ whole_taken t → (b : Bool) → b ≡ lists_fit (length calls) (length ids) → b ≡ true
      → TextIn text calls calls' ids ids' r
  text-read s r w b f y =
      record {
        fits = rw (w, whole-fits t, s.fits) (sym y ∙ f);
        is = λ z. rw w (whole-held t calls' ids' (lines_told long nothing_told (lines_from [] (take (length (take n text) - mark) (drop mark (take n text)))))
            s.is ∙ said);
        idle = λ z. clash (rw (w, whole-fits t) s.fits) z;
        calls-long = s.calls-long;
        ids-long = s.ids-long;
      }
    where
      said : told_held (whole_told (lines_told long nothing_told (lines_from [] (take (length (take n text) - mark) (drop mark (take n text))))))
          ≡ told_held (text_told text)
      said = ap told_held (is-text marked)

-- without room nothing is read
pub text-idle : (text calls ids : List ℕ) (r : NoticesTaken) → r ≡ no_notices_taken false → (b : Bool) → b ≡ lists_fit (length calls) (length ids) → b ≡ false
    → TextIn text calls calls ids ids r
text-idle text calls ids r e b f n =
    record { fits = rw e (sym n ∙ f); is = λ z. clash z (rw e refl); idle = λ z. (refl, refl); calls-long = refl; ids-long = refl }

-- the room of two lists
pub lists-room : (calls ids : List ℕ) (b : Bool) → b ≡ lists_fit (length calls) (length ids) → b ≡ true → (32770 ≤ length calls) × (26216 ≤ length ids)
lists-room calls ids b f y =
    let (p, q) = both (leb 32770 (length calls)) (leb 26216 (length ids)) (sym f ∙ y) in
    (leb-true 32770 (length calls) p, leb-true 26216 (length ids) q)
