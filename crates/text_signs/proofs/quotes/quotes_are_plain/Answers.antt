use Rattle.text_signs.proofs.PlainQuotes.{quoted_plain}
use Rattle.text_signs.proofs.quotes.quotes_are_plain.Goals as goal

pub returns : goal.returns
returns c = quoted_plain
