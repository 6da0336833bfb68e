use Rattle.plc_base.proofs.OctetLists.{after_octets, part_octets}
use Rattle.plc_base.proofs.Places.{octet_low}
use Rattle.plc_base.proofs.laws.parts_of_octets_are_octets.Goals as goal

pub returns-clause-octet : goal.returns-clause-octet
returns-clause-octet c = octet_low

pub returns-clause-rest : goal.returns-clause-rest
returns-clause-rest c = after_octets

pub returns-clause-part : goal.returns-clause-part
returns-clause-part c = part_octets
