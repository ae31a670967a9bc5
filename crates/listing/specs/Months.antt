-- The sets of months and of Fridays, the rows of counts, and the rule of each kind
-- (01, Listed months; The table; Questions, 16; 002, 1.6.3; 000, 2.6.4; 02, note 1, with 003, and note 3).
-- Assumes nothing.
use Rattle.std.specs.Prelude.{ℕ, ◌+◌, ◌-◌, Bool, false, not, ◌||◌, List, [], ◌∷◌, ◌++◌, map, leb, length, get_or, replicate}
use Rattle.questions.specs.Search.{one_of}
use Rattle.days.specs.Gregorian.{month_name}
use Rattle.calendar.specs.declared.Cover.{Cover}
use Rattle.calendar.specs.declared.Calendar.{Calendar}
use Rattle.calendar.specs.Trading.{cover_start, cover_end}
use Rattle.product.specs.declared.Kind.{Kind}
use Rattle.product.specs.Fields.{kind_number, is_weekly}
use Rattle.listing.specs.declared.Listing.{Listing}
use Rattle.listing.specs.declared.Maturity.{Maturity}
use Rattle.expiry.specs.LastDays.{weekly_friday, anchor_of, key_of}
use Rattle.listing.specs.Rules.{Rule, count_from, fresh_keys, complete, maturity, places15}

-- a month of one of the names
unfoldable pub in_set : List ℕ → ℕ → Bool
in_set names m = one_of names (month_name m)

-- the names of 'Mar Jun Sep Dec'
abbrev pub quarters : List ℕ
quarters = 3 ∷ 6 ∷ 9 ∷ 12 ∷ []

-- 'every month', 'Mar Jun Sep Dec', 'Jun Dec', 'Dec':
-- the head of the table of counts
abbrev pub month_sets : List (ℕ → Bool)
month_sets =
    in_set (1 ∷ 2 ∷ 3 ∷ 4 ∷ 5 ∷ 6 ∷ 7 ∷ 8 ∷ 9 ∷ 10 ∷ 11 ∷ 12 ∷ [])
    ∷ in_set quarters
    ∷ in_set (6 ∷ 12 ∷ [])
    ∷ in_set (12 ∷ [])
    ∷ []

-- 'those seven names' (02, note 1):
-- March, April, May, June, July, September, December
abbrev pub names2005 : List ℕ
names2005 = 3 ∷ 4 ∷ 5 ∷ 6 ∷ 7 ∷ 9 ∷ 12 ∷ []

-- 'the counts stand in four rows of four';
-- a row for kind 4, 'the next seven months of that set' (02, note 1), and one for kind 5, 'the next four expiry days' (02, note 3)
abbrev pub counts : List (List ℕ)
counts =
    (13 ∷ 0 ∷ 0 ∷ 2 ∷ [])
    ∷ (3 ∷ 3 ∷ 0 ∷ 0 ∷ [])
    ∷ (3 ∷ 3 ∷ 2 ∷ 0 ∷ [])
    ∷ (3 ∷ 3 ∷ 4 ∷ 2 ∷ [])
    ∷ (7 ∷ 0 ∷ 0 ∷ 0 ∷ [])
    ∷ (4 ∷ 0 ∷ 0 ∷ 0 ∷ [])
    ∷ []

-- the sets of each row's steps: the head of the table; kinds 4 and 5 take from one set each, the seven names and the weekly Fridays
abbrev pub step_sets : List (List (ℕ → Bool))
step_sets =
    month_sets ∷ month_sets ∷ month_sets ∷ month_sets ∷ replicate 4 (in_set names2005) ∷ replicate 4 weekly_friday ∷ []

-- the set of a row's step
abbrev pub set_at : ℕ → ℕ → ℕ → Bool
set_at row step = get_or (get_or step_sets row []) step (λ k. false)

-- a step takes so many keys of its set: so many places
unfoldable pub places_of : List ℕ → List (ℕ → Bool) → List (ℕ → Bool)
places_of [] sets = []
places_of (count ∷ counts) [] = []
places_of (count ∷ counts) (set ∷ sets) = replicate count set ++ places_of counts sets

-- 'the counts stand in four rows of four', and one row each for kinds 4 and 5:
-- the row of counts of a kind
abbrev pub row_of : Kind → List ℕ
row_of kind = get_or counts (kind_number kind) []

-- the sets of its steps: the head of the table, the seven names (02, note 1), or the weekly Fridays (02, note 3)
abbrev pub sets_of : Kind → List (ℕ → Bool)
sets_of kind = get_or step_sets (kind_number kind) []

-- how many maturities a complete listing of a kind has, and so how many places of a table are used: as many as its row of counts sums to
abbrev pub places_of_kind : Kind → ℕ
places_of_kind kind = length (places_of (row_of kind) (sets_of kind))

-- every one of the 'cover months'; 'the cover's weekly Fridays .. take the place of cover months' (02, note 3):
-- the keys that are counted before the front
unfoldable pub counted_for : Kind → ℕ → Bool
counted_for kind k = not (is_weekly kind) || weekly_friday k

-- the rule of a product: its places, the anchors of its keys, and the keys of its cover
unfoldable pub cover_rule : Cover → Kind → List ℕ → Rule
cover_rule cover kind group =
    record {
      places = places_of (row_of kind) (sets_of kind);
      anchor = anchor_of kind group;
      start = key_of kind;
      first = key_of kind (cover_start cover);
      beyond = key_of kind (cover_end cover);
      counted = counted_for kind;
    }

-- how many months a cover has; of weekly maturities how many weekly Fridays (02, note 3)
unfoldable pub keys_of : Cover → Kind → ℕ
keys_of cover kind =
    count_from (counted_for kind) (key_of kind (cover_end cover) - key_of kind (cover_start cover)) (key_of kind (cover_start cover))

-- the rule of a product under a calendar
abbrev pub rule_of : Calendar → Kind → List ℕ → Rule
rule_of cal kind group = cover_rule cal.cover kind group

-- the fresh listing of a product's kind and group, under a calendar, on a date
abbrev pub fresh_of : Calendar → Kind → List ℕ → ℕ → List Maturity
fresh_of cal kind group date = map (maturity (rule_of cal kind group) cal (λ k. 0)) (fresh_keys (rule_of cal kind group) cal date)

-- 16: 'Are all months of the fresh listing in the cover?', or all Fridays (02, note 3)
abbrev pub all_in_cover : Calendar → Kind → List ℕ → ℕ → Bool
all_in_cover cal kind group date = complete (rule_of cal kind group) cal date

-- the fresh listing in 15 places, and whether it is complete (16)
unfoldable pub listing_of : Calendar → Kind → List ℕ → ℕ → Listing
listing_of cal kind group date = record { complete = all_in_cover cal kind group date; maturities = places15 (fresh_of cal kind group date) }

-- 24: 'is the date at least seven days after the cover's first day?';
-- it is asked 'in opening kind 5', of no other kind, and 'in soundness .. the date passes 24' (02, note 3)
unfoldable pub week_into_cover : Kind → Cover → ℕ → Bool
week_into_cover kind cover date = not (is_weekly kind) || leb (cover_start cover + 7) date
