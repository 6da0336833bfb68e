-- The law, by what AES makes of octets.
use Rattle.line_laws.proofs.StorableGrants.{network_ranges}
use Rattle.line_laws.proofs.laws.network_keeps_ranges.Goals as goal

pub returns : goal.returns
returns c = network_ranges
