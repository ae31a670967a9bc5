-- Whether a point stands before the last four bytes of a word: a word under five bytes has none (short-word), of another the byte is asked.
use Rattle.file_text_lines.proofs.NumberWords.{short-word, long-word}
use Rattle.file_text_lines.proofs.is_pointed.Goals as goal

pub returns-then-n-lt5 : goal.returns-then-n-lt5
returns-then-n-lt5 c = short-word _ c.if-n-lt5.true

pub returns : goal.returns
returns c = long-word _ c.if-n-lt5.false
