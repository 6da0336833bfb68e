use Rattle.eap_psk.proofs.PacketOctets.{first_octets, second_octets, third_octets, fourth_octets}
use Rattle.eap_psk.proofs.laws.packets_are_octets.Goals as goal

pub returns-clause-first : goal.returns-clause-first
returns-clause-first c = first_octets

pub returns-clause-second : goal.returns-clause-second
returns-clause-second c = second_octets

pub returns-clause-third : goal.returns-clause-third
returns-clause-third c = third_octets

pub returns-clause-fourth : goal.returns-clause-fourth
returns-clause-fourth c = fourth_octets
