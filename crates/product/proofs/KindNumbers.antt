-- A kind and its number undo each other; the first digit of a group, by the number.
-- Assumes nothing.
use mathlib.Core.Path.{◌≡◌, refl, sym, ap, ◌∙◌}
use mathlib.Core.Bool.{Bool, true, false, cond}
use mathlib.Core.List.{[]}
use Prim.Native.Nat.{ℕ, zero, suc, ◌<◌}
use native.Mathlib.Omega.{arith}
use borrow.Author.Tests.{ne_eqb, leb-true, leb-false}
use Rattle.std.specs.Prelude.{Result, Ok, Err}
use Rattle.questions.specs.Questions.{Answer}
use Rattle.questions.specs.Refusals.{refusal_number}
use Rattle.questions.specs.declared.Refusal.{Refusal}
use Rattle.questions.proofs.Refusals.{numbered-from-1}
use Rattle.questions.proofs.Bools.{is_false}
use Rattle.questions.specs.declared.Refusal.TheVariants.{WrongRecord}
use Rattle.questions.proofs.Asks.{no-asks, first-yes, first-no, accepted, refused}
use Rattle.product.specs.Fields.{kind_number, kind_of, kind_right, kind_asks, kind_call, kind_answer, is_future, first_digit, fields_right, product_right}
use Rattle.product.specs.declared.ListingText.TheVariants.{Of2008, Of2005}
use Rattle.product.specs.declared.Term.TheVariants.{Months12, Months24, Months60, Weeks5}
use Rattle.product.specs.declared.Kind.{Kind}
use Rattle.product.specs.declared.Kind.TheVariants.{Future, Option}
use Rattle.product.specs.declared.Product.{Product}

-- the number of every kind is one of 0 to 5
pub kind-right : (kind : Kind) → kind_right (kind_number kind) ≡ true
kind-right (Future Of2008) = refl
kind-right (Future Of2005) = refl
kind-right (Option Months12) = refl
kind-right (Option Months24) = refl
kind-right (Option Months60) = refl
kind-right (Option Weeks5) = refl

-- the kind of a kind's number is that kind
pub kind-back : (kind : Kind) → kind_of (kind_number kind) ≡ kind
unfolding kind_of
kind-back (Future Of2008) = refl
kind-back (Future Of2005) = refl
kind-back (Option Months12) = refl
kind-back (Option Months24) = refl
kind-back (Option Months60) = refl
kind-back (Option Weeks5) = refl

-- the number of the kind of a number from 0 to 5 is that number
pub number-back : (number : ℕ) → kind_right number ≡ true → kind_number (kind_of number) ≡ number
unfolding kind_of
number-back zero right = refl
number-back (suc zero) right = refl
number-back (suc (suc zero)) right = refl
number-back (suc (suc (suc zero))) right = refl
number-back (suc (suc (suc (suc zero)))) right = refl
number-back (suc (suc (suc (suc (suc zero))))) right = refl
number-back (suc (suc (suc (suc (suc (suc n)))))) right = absurd (omega (arith, leb-true (suc (suc (suc (suc (suc (suc n)))))) 5 right))

kind-none : (number : ℕ) → kind_right number ≡ false → kind_of number ≡ Future Of2008
unfolding kind_of
kind-none number wrong =
    let h : 5 < number = leb-false number 5 wrong in
    rw (
      ne_eqb number 1 (λ e. omega arith),
      ne_eqb number 2 (λ e. omega arith),
      ne_eqb number 3 (λ e. omega arith),
      ne_eqb number 4 (λ e. omega arith),
      ne_eqb number 5 (λ e. omega arith),
    )

-- the answer to a number: its kind from 0 to 5, else the refusal
pub kind-found : (number : ℕ) → kind_right number ≡ true → kind_call number ≡ record { refusal = 0; value = kind_of number }
unfolding kind_call
kind-found number right = accepted (kind_asks number) (Future Of2008) (kind_of number) (first-yes 7 [] right ∙ no-asks)

-- a number above 5 is no kind and is refused with 7
pub kind-missing : (number : ℕ) → kind_right number ≡ false → kind_call number ≡ kind_answer (Err WrongRecord)
unfolding kind_call
kind-missing number wrong = refused (kind_asks number) (Future Of2008) (kind_of number) 6 (first-no 7 [] wrong)

-- the call on a kind's number answers that kind
pub kind-of-number : (kind : Kind) → kind_call (kind_number kind) ≡ kind_answer (Ok kind)
kind-of-number kind = kind-found (kind_number kind) (kind-right kind) ∙ rw (kind-back kind)

-- a number for which the call answers a kind is that kind's number
pub number-of-kind : (number : ℕ) (kind : Kind) → kind_call number ≡ kind_answer (Ok kind) → kind_number kind ≡ number
number-of-kind number kind e = go (kind_right number) refl
  where
    go : (b : Bool) → kind_right number ≡ b → kind_number kind ≡ number
    go true right =
        let same : kind_of number ≡ kind = ap (λ (a : Answer Kind). a.value) (sym (kind-found number right) ∙ e) in
        rw same at (number-back number right)
    go false wrong =
        let z : ◌≡◌ {A = ℕ} 7 0 = ap (λ (a : Answer Kind). a.refusal) (sym (kind-missing number wrong) ∙ e) in
        absurd (omega arith)

-- the value of an answer is the kind of the number, a right one or not
pub kind-value : (a : Result Kind Refusal) (number : ℕ) → kind_answer a ≡ kind_call number → (kind_answer a).value ≡ kind_of number
kind-value a number e = go (kind_right number) refl
  where
    go : (b : Bool) → kind_right number ≡ b → (kind_answer a).value ≡ kind_of number
    go true right = ap (λ (x : Answer Kind). x.value) (e ∙ kind-found number right)
    go false wrong = ap (λ (x : Answer Kind). x.value) (e ∙ kind-missing number wrong) ∙ sym (kind-none number wrong)

-- a number of which a kind is answered is right, and that is its kind
pub kind-there : (a : Result Kind Refusal) (number : ℕ) → kind_answer a ≡ kind_call number → (kind : Kind) → a ≡ Ok kind
    → (kind_right number ≡ true) × (kind ≡ kind_of number)
kind-there a number e kind q = go (kind_right number) refl
  where
    answered : record { refusal = 0; value = kind } ≡ kind_call number
    answered = sym (ap kind_answer q) ∙ e

    go : (b : Bool) → kind_right number ≡ b → (kind_right number ≡ true) × (kind ≡ kind_of number)
    go true right = (right, ap (λ (x : Answer Kind). x.value) (answered ∙ kind-found number right))
    go false wrong =
        let z : ◌≡◌ {A = ℕ} 0 7 = ap (λ (x : Answer Kind). x.refusal) (answered ∙ kind-missing number wrong) in
        absurd (omega arith)

-- a number that is refused is no kind's
pub kind-refused : (a : Result Kind Refusal) (number : ℕ) → kind_answer a ≡ kind_call number → (k : Refusal) → a ≡ Err k → kind_right number ≡ false
kind-refused a number e k q = is_false (kind_right number) (λ right.
    let z : refusal_number k ≡ 0 = ap (λ (x : Answer Kind). x.refusal) (sym (ap kind_answer q) ∙ e ∙ kind-found number right) in
    absurd (omega (arith, numbered-from-1 k)))

-- a product whose kind was read from a number is right where the fields with that number are
pub product-read : (number : ℕ) (p : Product) → kind_number p.kind ≡ number
    → product_right p ≡ fields_right p.id p.group p.market number p.size p.tick p.currency
unfolding product_right
product-read number p e = rw e

-- the digit by a kind's number is the digit of a future or of an option
pub digit-of-kind : (kind : Kind) → first_digit (kind_number kind) ≡ cond (is_future kind) 48 49
digit-of-kind (Future Of2008) = refl
digit-of-kind (Future Of2005) = refl
digit-of-kind (Option Months12) = refl
digit-of-kind (Option Months24) = refl
digit-of-kind (Option Months60) = refl
digit-of-kind (Option Weeks5) = refl
