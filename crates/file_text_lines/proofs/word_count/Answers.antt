-- How many words a line has: one more than its spaces (`words-of-spaces`).
use Rattle.std.proofs.Common.{rules, ◌≡◌, [], ◌+◌, ◌==◌, count_by, sym, ◌∙◌, ap}
use Rattle.file_text_lines.proofs.LineWords.{words-of-spaces}
use Rattle.file_text_lines.proofs.word_count.Goals as goal

pub returns : goal.returns
returns c =
    let e : c.count.result ≡ count_by (λ b. b == 32) c.args.line.now = search rules in
    ap (λ n. 1 + n) e ∙ sym (words-of-spaces [] c.args.line.now)
