-- What flights are: each sealed one is the spelling of a letter in its ranges, each other one a plain frame.
use Rattle.std.specs.Prelude.{◌≡◌, ◌≢◌, ℕ, ◌<◌, ◌≤◌, ◌^◌, All, List, length, Some, None, ⊤}
use Rattle.plc_base.specs.Addresses.{IsAddress}
use Rattle.plc_base.specs.declared.key.Key.{Key}
use Rattle.mac_frames.specs.Grammar.{IsTarget}
use Rattle.mesh_header.specs.declared.unit.Unit.{Unit}
use Rattle.mesh_header.specs.declared.unit.Unit.TheVariants as units
use Rattle.mesh_header.specs.Grammar.{IsUnit, spelling}
use Rattle.loadng_messages.specs.declared.message.Message.{Message}
use Rattle.loadng_messages.specs.Grammar.{IsMessage}
use Rattle.loadng_messages.specs.Grammar as messages
use Rattle.joining_messages.specs.declared.message.JoinMessage.{JoinMessage}
use Rattle.pan_discovery.specs.declared.message.Discovery.{Discovery}
use Rattle.pan_discovery.specs.Messages.{discovery_spelling}
use Rattle.node_rules.specs.Ciphers.{Ciphers}
use Rattle.node_rules.specs.Frames.{SealedUnit, Sent, Sealed, Up, Down, spelled, to_all}
use Rattle.line_rules.specs.Worlds.{Flight}

-- A unit that a sealed frame has room for.
pub record IsFit (unit : Unit) : Type 0 where
  pub fields : IsUnit unit
  pub size : length (spelling unit) ≤ 381

-- a command alone of code 01 is a route message
abbrev pub IsRoute : Unit → Type 0
IsRoute (units.Local code body) =
    code ≡ 1 → (message : Message) × IsMessage message × (body ≡ messages.spelling message)
IsRoute (units.Whole mesh octets) = ⊤
IsRoute (units.Part mesh piece) = ⊤
IsRoute (units.Carried mesh body) = ⊤

-- a unit with a mesh header goes to one node, and never to all
abbrev pub GoesToOne : ℕ → Unit → Type 0
GoesToOne to (units.Local code body) = ⊤
GoesToOne to (units.Whole mesh octets) = to ≢ to_all
GoesToOne to (units.Part mesh piece) = to ≢ to_all
GoesToOne to (units.Carried mesh body) = to ≢ to_all

-- A letter in its ranges.
pub record IsSealedUnit (l : SealedUnit) : Type 0 where
  pub to : IsTarget l.to
  pub from : IsAddress l.from
  pub counter : l.counter < 2 ^ 32
  pub index : l.index ≤ 1
  pub unit : IsFit l.unit
  pub route : IsRoute l.unit
  pub one : GoesToOne l.to l.unit

-- A flight under a key is the spelling of a letter that this key sealed, under the letter's note.
pub record SpellsSealedUnit (ciphers : Ciphers) (f : Flight) (key : Key) : Type 0 where
  pub sealed_unit : SealedUnit
  pub fits : IsSealedUnit sealed_unit
  pub key_is : sealed_unit.key ≡ key
  pub octets : f.octets ≡ (spelled ciphers (Sealed sealed_unit)).octets
  pub note : f.note ≡ sealed_unit.note

-- A frame without a key: up to an agent, down to the node of its message, or of discovery.
pub data IsPlain (ciphers : Ciphers) (octets : List ℕ) : Type 0 where
  GoesUp : (agent : ℕ) → (from : _) → (message : JoinMessage)
      → octets ≡ (spelled ciphers (Up agent from message)).octets → IsPlain ciphers octets
  GoesDown : (from : ℕ) → (message : JoinMessage) → octets ≡ (spelled ciphers (Down from message)).octets
      → IsPlain ciphers octets
  Discovers : (frame : Discovery) → octets ≡ discovery_spelling frame → IsPlain ciphers octets

-- A flight is what its key says.
pub record IsFlight (ciphers : Ciphers) (f : Flight) : Type 0 where
  pub sealed : (key : Key) → f.key ≡ Some key → SpellsSealedUnit ciphers f key
  pub plain : f.key ≡ None → IsPlain ciphers f.octets × (f.note ≡ 0)

-- all the flights are
abbrev pub AreFlights : Ciphers → List Flight → Type 0
AreFlights ciphers flights = All (IsFlight ciphers) flights

-- a frame that is not sealed
abbrev pub IsPlainFrame : Sent → Type 0
IsPlainFrame (Sealed l) = ⊥
IsPlainFrame (Up agent from message) = ⊤
IsPlainFrame (Down from message) = ⊤

-- a sealed frame is a letter in its ranges
abbrev pub IsSent : Sent → Type 0
IsSent (Sealed l) = IsSealedUnit l
IsSent (Up agent from message) = ⊤
IsSent (Down from message) = ⊤
