use Rattle.fragment_buffers.proofs.LoadOctets.{load_octets_spelled}
use Rattle.fragment_buffers.proofs.laws.loads_spell_octets.Goals as goal

pub returns : goal.returns
returns c = load_octets_spelled
