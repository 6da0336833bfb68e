use Rattle.node_rules.proofs.Unread.{hear_hands_on}
use Rattle.node_rules.proofs.laws.commands_are_handed_on.Goals as goal

pub returns : goal.returns
returns c = λ l got cost note now way body e. (hear_hands_on l got cost note now).rests way body e
