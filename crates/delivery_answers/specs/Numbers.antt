-- Numbers of more than five digits in decimal.
-- Assumes nothing.
use Rattle.std.specs.Prelude.{ℕ, ◌/◌, ◌%◌, cond, List, ◌++◌, ltb}
use Rattle.session_text.specs.TermsText.{in_four_digits, decimal}

-- a number below 100,000,000 in eight digits
unfoldable pub in_eight_digits : ℕ → List ℕ
in_eight_digits n = in_four_digits (n / 10000) ++ in_four_digits (n % 10000)

-- a number below 100,000,000 in decimal, with no zeros before it
unfoldable pub decimal_short : ℕ → List ℕ
decimal_short n = cond (ltb n 10000) (decimal n) (decimal (n / 10000) ++ in_four_digits (n % 10000))

-- a number below 10^24 in decimal, with no zeros before it
unfoldable pub number_text : ℕ → List ℕ
number_text n =
    cond (ltb n 100000000) (decimal_short n)
    (cond (ltb (n / 100000000) 100000000) (decimal_short (n / 100000000) ++ in_eight_digits (n % 100000000))
    ((decimal_short (n / 100000000 / 100000000) ++ in_eight_digits (n / 100000000 % 100000000)) ++ in_eight_digits (n % 100000000)))
