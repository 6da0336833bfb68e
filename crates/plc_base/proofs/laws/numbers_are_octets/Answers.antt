use Rattle.plc_base.proofs.OctetLists.{big_octets, little_octets}
use Rattle.plc_base.proofs.laws.numbers_are_octets.Goals as goal

pub returns-clause-big : goal.returns-clause-big
returns-clause-big c = big_octets

pub returns-clause-little : goal.returns-clause-little
returns-clause-little c = little_octets
