-- The whole input of the program `confirm`, and the line that it prints
-- (02, note 12; docs/OPERATIONS.md, `confirm`, and docs/DECISIONS.md, Listings from elsewhere, from which the quotations are).
-- Assumes nothing.
use Rattle.std.specs.Prelude.{ℕ, suc, Bool, not, ◌&&◌, ◌||◌, cond, List, [], ◌∷◌, ◌++◌, eqb, ltb, length, take, get_or, Option, Some, None}
use Rattle.questions.specs.Questions.{Answer}
use Rattle.product.specs.declared.Kind.{Kind}
use Rattle.session_text.specs.TermsText.{decimal, name_text}
use Rattle.session_lines.specs.CommandLines.{lines_from}
use Rattle.table_vendor.specs.Vendor.{Judgement, vendor_call}
use Rattle.confirm_lines.specs.declared.ListingEntry.{ListingEntry}
use Rattle.confirm_lines.specs.declared.ListingSoFar.{ListingSoFar}
use Rattle.confirm_lines.specs.ListingLines.{no_listing, read_listing_line}

-- 'YES', and a line feed, 10
abbrev pub yes_text : List ℕ
yes_text = 89 ∷ 69 ∷ 83 ∷ 10 ∷ []

-- 'DIFFERS' and the month, or the Friday, that differs
unfoldable pub differs_text : Kind → ℕ → List ℕ
differs_text kind key = (68 ∷ 73 ∷ 70 ∷ 70 ∷ 69 ∷ 82 ∷ 83 ∷ 32 ∷ []) ++ (name_text kind key ++ (10 ∷ []))

-- 'REFUSED' and the number of a call that was refused
unfoldable pub refused_text : ℕ → List ℕ
refused_text n = (82 ∷ 69 ∷ 70 ∷ 85 ∷ 83 ∷ 69 ∷ 68 ∷ 32 ∷ []) ++ (decimal n ++ (10 ∷ []))

-- 'BAD' and the number of a line
unfoldable pub bad_input_text : ℕ → List ℕ
bad_input_text n = (66 ∷ 65 ∷ 68 ∷ 32 ∷ []) ++ (decimal n ++ (10 ∷ []))

-- what is said of a listing
unfoldable pub judged_text : Kind → Answer Judgement → List ℕ
judged_text kind a =
    cond (eqb a.refusal 0) (cond a.value.same yes_text (differs_text kind a.value.key)) (refused_text a.refusal)

-- 'so is an empty input, at line 1':
-- the end of an input, with the numbers of its listing
unfoldable pub end_text : ListingSoFar → List ℕ → List ℕ
end_text s list = cond s.opened (judged_text s.table.product.kind (vendor_call s.table list)) (bad_input_text 1)

-- the key and the day of a line of the listing; another line has none
unfoldable pub entry_numbers : Option ListingEntry → List ℕ
entry_numbers None = []
entry_numbers (Some entry) = entry.key ∷ entry.day ∷ []

-- 'It stops at the first line that is refused or bad':
-- after line n; else the rest is printed
unfoldable pub after_line : ListingSoFar → Bool → ℕ → List ℕ → List ℕ
after_line s cut n rest = cond (s.bad || cut) (bad_input_text n) (cond (eqb s.refusal 0) rest (refused_text s.refusal))

-- what is printed of the lines of an input, of which n are behind, and of the numbers of the listing so far;
-- where the input is too long, its last line is bad whatever it says
unfoldable pub input_lines_text : Bool → List ℕ → ℕ → ListingSoFar → List ℕ → List (List ℕ) → List ℕ
input_lines_text long file n s list [] = end_text s list
input_lines_text long file n s list (line ∷ lines) =
    after_line (read_listing_line file s line) (long && eqb (length lines) 0) (suc n)
    (input_lines_text long file (suc n) (read_listing_line file s line) (list ++ entry_numbers (read_listing_line file s line).entry) lines)

-- '`confirm` reads `master.bin` and standard input .., and prints one line', of an input of
-- 'at most 65,536 bytes in all; a line that does not end within them is bad':
-- of a longer one, that is the line that holds byte 65,537, the last of the lines of the first 65,537 bytes
unfoldable pub confirm_text : List ℕ → List ℕ → List ℕ
confirm_text file input = input_lines_text (ltb 65536 (length input)) file 0 no_listing [] (lines_from [] (take 65537 input))

-- a text is 'YES' and its line feed
unfoldable pub is_yes : List ℕ → Bool
is_yes text =
    eqb (length text) 4 && (eqb (get_or text 0 0) 89 && (eqb (get_or text 1 0) 69 && (eqb (get_or text 2 0) 83 && eqb (get_or text 3 0) 10)))

-- 'something was refused, bad or differs' (docs/OPERATIONS.md, The status):
-- the line that is printed is another than `YES`
unfoldable pub confirm_refused : List ℕ → List ℕ → Bool
confirm_refused file input = not (is_yes (confirm_text file input))
