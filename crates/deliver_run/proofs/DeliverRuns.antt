-- A whole run of `deliver`: what was handed out, and its status, where a file was not read and where both were.
-- Assumes nothing.
use mathlib.Core.Path.{◌≡◌, refl, sym, ap, ◌∙◌}
use mathlib.Core.Bool.{Bool, true, false, not, ◌||◌}
use mathlib.Core.List.{List, []}
use Prim.Native.Nat.{ℕ}
use lib.Dec.{eqb}
use lib.ListN.{length}
use Rattle.questions.proofs.Bools.{clash, or_left, or-either}
use mathlib.Core.Logic.{◌⊎◌, inl, inr}
use Rattle.streams.specs.declared.calls.Transfer.{Transfer}
use Rattle.program_status.specs.Statuses.{status_of}
use Rattle.delivery_handing.specs.declared.output.DeliveryHanded.{DeliveryHanded}
use Rattle.delivery_parts.specs.PlaceParts.{deliver_text, deliver_refusals, deliver_refused}
use Rattle.deliver_run.specs.declared.DeliverOutcome.{DeliverOutcome}
use Rattle.deliver_run.specs.DeliverRuns.{deliver_failed, DeliverRan}

-- of a run in which nothing failed, so many bytes told say whether something was refused; of another one it plays no part
status-is : (failed : Bool) (n : ℕ) (f notices : List ℕ) → (failed ≡ false → n ≡ length (deliver_refusals f notices))
    → status_of failed (not (eqb n 0)) ≡ status_of failed (deliver_refused f notices)
unfolding status_of deliver_refused
status-is true n f notices h = refl
status-is false n f notices h = rw (h refl) refl

none-failed : (a b c : Bool) → (a || (b || not c)) ≡ false → (b ≡ false) × (c ≡ true)
none-failed true b c e = clash refl e
none-failed false true c e = clash refl e
none-failed false false true e = (refl, refl)
none-failed false false false e = clash refl e

module _ (r : DeliverOutcome) (m n : Transfer) (h : DeliveryHanded) (a : r.master ≡ m) (b : r.notices ≡ n) (d : r.handed ≡ h)
    (s : r.status ≡ status_of (deliver_failed r) (not (eqb r.handed.told 0))) where
  -- a run whose file could not be read
  pub unread : m.failed ≡ true → m.length ≡ 0 → n.length ≡ 0 → h.sent.bytes ≡ 0 → h.told ≡ 0 → DeliverRan r
  unread e k j x y =
      let fails : deliver_failed r ≡ true = or_left _ (ap (λ (t : Transfer). t.failed) a ∙ e) in
      record {
        file = [];
        notices = [];
        file-long = ap (λ (t : Transfer). t.length) a ∙ k;
        notices-long = ap (λ (t : Transfer). t.length) b ∙ j;
        rows = λ w. clash fails w;
        told = λ w. clash fails w;
        nothing = λ w. (ap (λ (t : DeliveryHanded). t.sent.bytes) d ∙ x, ap (λ (t : DeliveryHanded). t.told) d ∙ y);
        status = s ∙ status-is (deliver_failed r) r.handed.told [] [] (λ w. clash fails w);
      }

  -- a run whose file was read
  pub ran : (file notices : List ℕ) → m.failed ≡ false → m.length ≡ length file → n.length ≡ length notices
      → (n.failed ≡ true → (h.sent.bytes ≡ 0) × (h.told ≡ 0))
      → (n.failed ≡ false → h.sent.open ≡ true → (h.sent.bytes ≡ length (deliver_text file notices)) × (h.told ≡ length (deliver_refusals file notices)))
      → DeliverRan r
  ran file notices e k j none all =
      record {
        file = file;
        notices = notices;
        file-long = ap (λ (t : Transfer). t.length) a ∙ k;
        notices-long = ap (λ (t : Transfer). t.length) b ∙ j;
        rows = λ w. ap (λ (t : DeliveryHanded). t.sent.bytes) d ∙ (whole w).0;
        told = told;
        nothing = λ w. nothing (or-either r.master.failed r.notices.failed w);
        status = s ∙ status-is (deliver_failed r) r.handed.told file notices told;
      }
    where
      whole : deliver_failed r ≡ false → (h.sent.bytes ≡ length (deliver_text file notices)) × (h.told ≡ length (deliver_refusals file notices))
      whole w =
          let f = none-failed r.master.failed r.notices.failed r.handed.sent.open w in
          all (sym (ap (λ (t : Transfer). t.failed) b) ∙ f.0) (sym (ap (λ (t : DeliveryHanded). t.sent.open) d) ∙ f.1)

      told : deliver_failed r ≡ false → r.handed.told ≡ length (deliver_refusals file notices)
      told w = ap (λ (t : DeliveryHanded). t.told) d ∙ (whole w).1

      nothing : (r.master.failed ≡ true) ⊎ (r.notices.failed ≡ true) → (r.handed.sent.bytes ≡ 0) × (r.handed.told ≡ 0)
      nothing (inl w) = clash (sym (ap (λ (t : Transfer). t.failed) a) ∙ w) e
      nothing (inr w) =
          let z = none (sym (ap (λ (t : Transfer). t.failed) b) ∙ w) in
          (ap (λ (t : DeliveryHanded). t.sent.bytes) d ∙ z.0, ap (λ (t : DeliveryHanded). t.told) d ∙ z.1)
