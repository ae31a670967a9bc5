-- A line with the bytes of a slice more: what `feed` ensures.
use Rattle.file_text_print.proofs.with_bytes.Goals as goal

pub returns : goal.returns
returns c = record { is = c.feed.ensures }
