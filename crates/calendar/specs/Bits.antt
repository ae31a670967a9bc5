-- Maps of bits in bytes (01, Master file, 'Calendar block'; 02, note 9).
-- Assumes nothing.
use Rattle.std.specs.Prelude.{ℕ, ◌-◌, ◌/◌, ◌%◌, ◌^◌, Bool, List, eqb, get_or, set}
use Rattle.std.specs.Int.Bits.{bit_or, bit_and}

-- 'the bit of value 2^(7 − n mod 8)'
-- of a byte, n from 0 to 7, is 1
abbrev pub byte_bit : ℕ → ℕ → Bool
byte_bit byte n = eqb (byte / 2 ^ (7 - n) % 2) 1

-- 'day n .. is the bit of value 2^(7 − n mod 8) in byte .. n div 8; 1 means closed'
unfoldable pub bit_at : List ℕ → ℕ → Bool
bit_at bytes n = byte_bit (get_or bytes (n / 8) 0) (n % 8)

-- the map with the bit n set
unfoldable pub set_bit : List ℕ → ℕ → List ℕ
set_bit bytes n = set bytes (n / 8) (bit_or (get_or bytes (n / 8) 0) (2 ^ (7 - n % 8)))

-- the map with the bit n cleared
unfoldable pub clear_bit : List ℕ → ℕ → List ℕ
clear_bit bytes n = set bytes (n / 8) (bit_and (get_or bytes (n / 8) 0) (255 - 2 ^ (7 - n % 8)))
