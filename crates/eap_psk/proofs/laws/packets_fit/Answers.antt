use Rattle.eap_psk.proofs.PacketSizes.{first_fits, second_fits, third_fits, fourth_fits}
use Rattle.eap_psk.proofs.laws.packets_fit.Goals as goal

pub returns-clause-first : goal.returns-clause-first
returns-clause-first c = first_fits

pub returns-clause-second : goal.returns-clause-second
returns-clause-second c = second_fits

pub returns-clause-third : goal.returns-clause-third
returns-clause-third c = third_fits

pub returns-clause-fourth : goal.returns-clause-fourth
returns-clause-fourth c = fourth_fits
