-- What a run of `deliver` has handed out, place by place. Only the code needs these.
-- Assumes nothing.
use Rattle.std.specs.Prelude.{ℕ, ◌+◌, ◌*◌, ◌≤◌, ◌≡◌, List, length}
use Rattle.questions.specs.Questions.{Answer}
use Rattle.calendar.specs.declared.Calendar.{Calendar}
use Rattle.file_load.specs.Load.{judge_call}
use Rattle.delivery_notices.specs.declared.NoticesTaken.{NoticesTaken}
use Rattle.delivery_notices.specs.Notices.{NoticesTold, text_told}
use Rattle.delivery_notices.specs.NoticeLists.{told_in, told_held}
use Rattle.delivery_rows.specs.Delivery.{delivery_heading, rows_text, place_rows}
use Rattle.delivery_refusals.specs.Refusals.{place_refusals}
use Rattle.delivery_parts.specs.PlaceParts.{parts_text}

-- the rows of the product at a place, as a text
unfoldable pub place_rows_text : List ℕ → NoticesTold → ℕ → List ℕ
place_rows_text f t p = rows_text (place_rows f t.date t.notices p)

-- rows are printed: the file is accepted and its verdict at hand, no line of the notices is bad, and two lists hold them
pub record Runs (f notices : List ℕ) (verdict : Answer Calendar) (t : NoticesTaken) (calls ids : List ℕ) : Type 0 where
  pub size : length f ≤ 65537
  pub own : verdict ≡ judge_call f
  pub accepted : verdict.refusal ≡ 0
  pub held : told_in t calls ids ≡ told_held (text_told notices)
  pub good : t.bad ≡ 0

-- n bytes of rows and m bytes of refused calls are those of the heading and of the first p places; neither comes near 2^64
pub record HandedTo (f notices : List ℕ) (p n m : ℕ) : Type 0 where
  pub rows : n ≡ length delivery_heading + length (parts_text (place_rows_text f (text_told notices)) p)
  pub told : m ≡ length (parts_text (place_refusals f (text_told notices)) p)
  pub rows_few : n ≤ 64 + 1024 * p
  pub told-few : m ≤ 419520 * p
