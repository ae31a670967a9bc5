-- The whole blocks of a file: the chunks of 512 bytes that `as_chunks` gives first.
use mathlib.Core.Path.{◌∙◌}
use Rattle.file_blocks.proofs.Files.{chunks-blocks}
use Rattle.file_blocks.proofs.blocks.Goals as goal

pub returns : goal.returns
returns c = (c.as_chunks.ensures.front ∙ chunks-blocks _, c.as_chunks.ensures.front_len)
