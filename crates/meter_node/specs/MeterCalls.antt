-- What the calls of a meter leave.
use Rattle.std.specs.Prelude.{◌≡◌}
use Rattle.node_rules.specs.Agreement.{Agrees}
use Rattle.meter_node.specs.MeterStates.{MeterState}

-- What its station holds as stored is what its store gives, and its pair key is the one before.
pub record MeterAfter (old new : MeterState) : Type 0 where
  pub agrees : Agrees new.station
  pub psk : new.psk ≡ old.psk
