-- The key of a sealed flight is the one that its sender seals with.
use Rattle.std.specs.Prelude.{◌≡◌, All, List, [], ◌∷◌, Option, Some, IfSome, drop, length}
use Rattle.plc_base.specs.declared.key.Key.{Key}
use Rattle.plc_base.specs.Grant.{Granted, key_at}
use Rattle.node_rules.specs.Ciphers.{network}
use Rattle.node_rules.specs.Memory.{Memory, Node}
use Rattle.line_rules.specs.Nonces.{HasSender}
use Rattle.line_rules.specs.Runs.{Entry, IsLineRun}
use Rattle.line_rules.specs.Worlds.{World, Flight, node_at, start}

-- A node is there and runs, and seals with this key: it stands in its ring at the active index.
pub record SealsWith (found : Option Node) (key : Key) : Type 0 where
  pub node : Node
  pub there : found ≡ Some node
  pub memory : Memory
  pub runs : node.memory ≡ Some memory
  pub granted : Granted
  pub ring : memory.station.ring ≡ Some granted
  pub active : key_at granted granted.active ≡ Some key

-- a sealed flight is under the key that its node seals with
abbrev pub IsUnderOwnKey : World → Flight → Type 0
IsUnderOwnKey w f = IfSome f.key (SealsWith (node_at w f.from))

-- it has the address and the key of its node
abbrev pub HasOwn : World → Flight → Type 0
HasOwn w f = HasSender w f × IsUnderOwnKey w f

-- each sealed flight is under the key that its node seals with after the event that sent it
abbrev pub AreUnderOwnKeys : World → List Entry → Type 0
AreUnderOwnKeys w [] = Unit {0}
AreUnderOwnKeys w (x ∷ xs) = All (IsUnderOwnKey x.after) (drop (length w.flights) x.after.flights) × AreUnderOwnKeys x.after xs

-- so it is in every run of the network, forged or not
abbrev pub EveryKeyIsOwn : Type 0
EveryKeyIsOwn = (entries : List Entry) → IsLineRun network entries → AreUnderOwnKeys start entries
