-- The line of a product, by its record: letter, id, group, market, kind, size with its part, tick, currency and line feed.
-- Each text follows the one before it (`then`), from an empty line (`first`); what a call read from the record is that field (`same`).
use Prim.Native.Nat.{ℕ}
use mathlib.Core.List.{List}
use Rattle.file_text_print.proofs.Building.{then, one, first, same}
use Rattle.session_text.specs.TermsText.{spaced}
use Rattle.file_text_print.specs.Contents.{id_text, part_text, product_text}
use Rattle.file_text_print.proofs.product_line.Goals as goal

-- ---- the texts of the line, one after the other
pub returns : goal.returns
unfolding product_text
returns c =
    let bytes : List ℕ → List ℕ = λ b. b in
    first c.empty_line.ensures
    (then (then (one _ _ _ c.extend-letter.ensures) (one _ _ _ c.extend.ensures))
    (then (same id_text c.with_id-id.ensures c.four_at.ensures)
    (then (one _ _ _ c.extend-2.ensures)
    (then (same bytes c.with_bytes-group.ensures c.four_at-2.ensures)
    (then (one _ _ _ c.extend-3.ensures)
    (then (same bytes c.with_bytes-market.ensures c.four_at-3.ensures)
    (then (same spaced c.with_spaced-kind.ensures c.byte_at.ensures)
    (then (same spaced c.with_spaced-size.ensures c.field_at.ensures)
    (then (same part_text c.with_part-part.ensures c.field_at-2.ensures)
    (then (same spaced c.with_spaced-tick.ensures c.field_at-3.ensures)
    (then (one _ _ _ c.extend-4.ensures)
    (then (same bytes c.with_bytes-currency.ensures c.three_at.ensures)
    (one _ _ _ c.extend-5.ensures)))))))))))))
