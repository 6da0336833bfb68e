use Rattle.line_view.proofs.SentencesTrue.{ups_are_worded}
use Rattle.line_view.proofs.laws.sentences_are_true.Goals as goal

pub returns : goal.returns
returns c = ups_are_worded
