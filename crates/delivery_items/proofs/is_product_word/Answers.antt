-- `is_product_word` says whether some bytes are the word `product`: `==` compares their lengths, and then byte by byte (`told_bytes`).
use Rattle.delivery_lines.proofs.SameWords.{told_bytes}
use Rattle.delivery_items.specs.Items.{is_product_word, product_word}
use Rattle.delivery_items.proofs.is_product_word.Goals as goal

pub returns : goal.returns
unfolding is_product_word
returns c = told_bytes c.args.field.now product_word _ (rw c.as_slice.ensures at c.eq.ensures)
