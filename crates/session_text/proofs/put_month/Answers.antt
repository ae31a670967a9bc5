-- The month is written by its year and its place in the year, 7 bytes at most, which is the contract of `put_year_month`;
-- both sums fit, by search.
use Rattle.session_text.specs.TermsText.{month_text}
use Rattle.session_text.proofs.put_month.Goals as goal

pub returns : goal.returns
unfolding month_text
returns c = c.put_year_month.ensures
