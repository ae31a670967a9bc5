-- `tick_asked` gives a bad line where the word is no price (`tick-none`), else the question with the price (`tick-some`).
use mathlib.Core.Path.{◌∙◌}
use borrow.Author.Tests.{not-true, not-false}
use Rattle.delivery_questions.proofs.QuestionForms.{tick-none, tick-some}
use Rattle.delivery_questions.proofs.tick_asked.Goals as goal

pub returns-then-not-price : goal.returns-then-not-price
returns-then-not-price c = c.bare_held.ensures ∙ tick-none _ _ _ c.read_price-price.ensures (not-true _ c.if-not-price.true)

pub returns : goal.returns
returns c = c.one_held.ensures ∙ tick-some _ _ _ c.read_price-price.ensures (not-false _ c.if-not-price.false)
