-- The answer of a call, case by case: a negative number or another.
use Rattle.std.proofs.Common.{◌≡◌, ℕ, ◌≤◌, true, false, List, length, ℤ, pos, negsuc, sym, refl, true≢false, zero-le, arith, ltb-true}
use lib.Signed.{lt_z}
use Rattle.io.specs.Counts.{clamp_len}
use Rattle.io.proofs.Counting.{prefix_len_of_le}
use Rattle.streams.specs.declared.calls.Transfer.{Transfer}
use Rattle.streams.specs.Transfers.{failed, moved_bytes, transfer_of, Within}

-- a negative answer is a failure
pub of_negative : (z : ℤ) (most : ℕ) → lt_z z (pos 0) ≡ true → failed ≡ transfer_of z most
unfolding transfer_of
of_negative (pos n) most e = absurd (omega (arith, ltb-true n 0 e))
of_negative (negsuc n) most e = refl

-- an answer of 0 or more is the bytes moved, at most as many as were asked for
pub of-moved : (z : ℤ) (most : ℕ) → lt_z z (pos 0) ≡ false → moved_bytes (clamp_len z most) ≡ transfer_of z most
unfolding transfer_of
of-moved (pos n) most e = refl
of-moved (negsuc n) most e = absurd (true≢false e)

-- a call that failed moved nothing, so what it moved lies within any buffer
pub none_within : (t : Transfer) (buffer : List ℕ) → t ≡ failed → Within t buffer
none_within t buffer e = rw e (prefix_len_of_le 0 buffer zero-le, λ _. refl)

-- bytes moved lie at the start of a buffer that is as long as them or longer
pub moved-within : (n : ℕ) (buffer : List ℕ) → n ≤ length buffer → Within (moved_bytes n) buffer
moved-within n buffer h = (prefix_len_of_le n buffer h, λ x. absurd (true≢false (sym x)))

-- whatever the answer, what was moved lies within a buffer of the length asked for
pub answer-within : (t : Transfer) (z : ℤ) (buffer : List ℕ) → t ≡ transfer_of z (length buffer) → Within t buffer
unfolding transfer_of
answer-within t (pos n) buffer e = rw e (moved-within _ buffer (omega arith))
answer-within t (negsuc n) buffer e = none_within t buffer e
