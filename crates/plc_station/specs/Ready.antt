-- What a call of a station asks, and what it leaves.
use Rattle.std.specs.Prelude.{◌≡◌, Some, IfSome, IsSome}
use Rattle.plc_base.specs.Grant.{Granted}
use Rattle.plc_base.specs.declared.out_frame.Out.{Out}
use Rattle.node_rules.specs.Memory.{StationMemory}
use Rattle.node_rules.specs.States.{State}
use Rattle.node_rules.specs.CarriedPlans.{nothing}
use Rattle.node_rules.specs.Agreement.{Agrees}

-- It is not halted, and what it holds as stored is what its store gives.
pub record Ready (s : State StationMemory) : Type 0 where
  pub running : IsSome s.memory
  pub agrees : Agrees s

-- The same in a call that has given out nothing yet.
pub record ReadyToAnswer (s : State StationMemory) (out : Out) : Type 0 where
  pub running : IsSome s.memory
  pub agrees : Agrees s
  pub empty : out ≡ nothing

-- The same of a station that is joined by this grant.
pub record ReadyToSend (s : State StationMemory) (grant : Granted) (out : Out) : Type 0 where
  pub running : IsSome s.memory
  pub agrees : Agrees s
  pub ring : IfSome s.memory (λ l. l.ring ≡ Some grant)
  pub empty : out ≡ nothing

-- What it holds as stored is what its store gives, and the last reply is the one before.
pub record After (old new : State StationMemory) : Type 0 where
  pub agrees : Agrees new
  pub replied : new.replied ≡ old.replied
