-- An input as the code reads it, line by line. Only the code needs these.
-- Assumes nothing.
use Rattle.std.specs.Prelude.{ℕ, ◌+◌, ◌≡◌, cond, List, [], ◌++◌, leb, length, take, Option}
use Rattle.confirm_lines.specs.declared.ListingEntry.{ListingEntry}
use Rattle.confirm_inputs.specs.ConfirmInputs.{entry_numbers, confirm_text}

-- what is said with a lent list of so many places:
-- 6,900 numbers are more than 65,537 bytes can say, as a line of 18 bytes and its line feed are the fewest; with fewer places nothing is said
unfoldable pub said_in : ℕ → List ℕ → List ℕ → List ℕ
said_in places file input = cond (leb 6900 places) (confirm_text file input) []

-- of a list before and after: an entry's numbers, where there are any, stand after its first `at`
pub record EntryPut (entry : Option ListingEntry) (at : ℕ) (before after : List ℕ) (r : ℕ) : Type 0 where
  pub is : take r after ≡ take at before ++ entry_numbers entry
  pub to : r ≡ at + length (entry_numbers entry)
  pub long : length after ≡ length before
