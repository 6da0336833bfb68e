-- What holds of every run of the line.
use Rattle.std.specs.Prelude.{◌≡◌, ◌⊎◌, ℕ, Some, None, All, List, IsOk}
use Rattle.plc_base.specs.declared.key.Key.{Key}
use Rattle.mac_frames.specs.Reader.{head_in}
use Rattle.pan_discovery.specs.declared.message.Discovery.{Discovery}
use Rattle.pan_discovery.specs.Messages.{discovery_spelling}
use Rattle.node_rules.specs.Ciphers.{Ciphers, network}
use Rattle.node_rules.specs.Memory.{Node}
use Rattle.node_rules.specs.RestartStates.{memory_of}
use Rattle.line_rules.specs.Worlds.{Flight, start}
use Rattle.line_rules.specs.Runs.{Entry, IsLineRun}
use Rattle.line_rules.specs.SafeRuns.{IsAlwaysSized, IsAlwaysSizedBy, RestartsAreAnswered}
use Rattle.line_rules.specs.Nonces.{CountersRise, NoncesDiffer, IsPlainFrame, IsSealedUnder, nonce_in_head, AreSpelled, AreAddressed, AreApart}
use Rattle.line_rules.specs.Forgery.{IsForgedRight}
use Rattle.line_rules.specs.Traces.{CountsRight, AreTracedRight}
use Rattle.line_laws.specs.Owed.{AreOctets, KeepsRanges}
use Rattle.line_laws.specs.Sizes.{IsAnyLoad}

-- every flight of a run is octets
abbrev pub FlightsAreOctets : List Entry → Type 0
FlightsAreOctets entries = All (λ (x : Entry). All (λ (f : Flight). AreOctets f.octets) x.after.flights) entries

-- # The history and the report, whatever the ciphers are

-- the counts of each world are those of its history
abbrev pub EveryCountIsRight : Type 0
EveryCountIsRight = (ciphers : Ciphers) (entries : List Entry) → IsLineRun ciphers entries → CountsRight start entries

-- the history has of each event what the report says
abbrev pub EveryTraceIsRight : Type 0
EveryTraceIsRight = (ciphers : Ciphers) (entries : List Entry) → IsLineRun ciphers entries → AreTracedRight start entries

-- exactly forged events are reported to be forged
abbrev pub EveryForgeryIsReported : Type 0
EveryForgeryIsReported = (ciphers : Ciphers) (entries : List Entry) → IsLineRun ciphers entries → IsForgedRight ciphers start entries

-- # What flies

-- The octets are those of a beacon request or of a beacon, whatever its address and its cost are, and no sealed frame.
pub record IsDiscoveryOctets (octets : List ℕ) : Type 0 where
  pub frame : Discovery
  pub spelled : octets ≡ discovery_spelling frame
  pub nonce : nonce_in_head (head_in octets) ≡ None

-- A flight with a key is a sealed frame under this key, and one without a key is a plain frame or one of discovery, which carry no send.
pub record IsFrame (ciphers : Ciphers) (f : Flight) : Type 0 where
  pub sealed : (key : Key) → f.key ≡ Some key → IsSealedUnder ciphers key f.octets
  pub plain : f.key ≡ None → (IsPlainFrame f.octets ⊎ IsDiscoveryOctets f.octets) × (f.note ≡ 0)

-- so it is of all flights, after every event of a run
abbrev pub AreFrames : Ciphers → List Entry → Type 0
AreFrames ciphers entries = All (λ (x : Entry). All (IsFrame ciphers) x.after.flights) entries

-- so it is of every run, whatever the ciphers are
abbrev pub EveryFlightIsAFrame : Type 0
EveryFlightIsAFrame = (ciphers : Ciphers) (entries : List Entry) → IsLineRun ciphers entries → AreFrames ciphers entries

-- and the address and the cost of a beacon are in their ranges too, where the ciphers keep ranges
abbrev pub EveryFlightIsSpelled : Type 0
EveryFlightIsSpelled =
    (ciphers : Ciphers) → KeepsRanges ciphers → (entries : List Entry) → IsLineRun ciphers entries
    → FlightsAreOctets entries → AreSpelled ciphers entries

-- # The network's frames

-- whatever comes in, the frames that nodes send are octets
abbrev pub EveryFlightIsOctets : Type 0
EveryFlightIsOctets = (entries : List Entry) → IsLineRun network entries → FlightsAreOctets entries

-- no table passes its size, commands that wait have at most 374 octets, and no event sends more than 24 frames
abbrev pub EveryNetworkRunIsSized : Type 0
EveryNetworkRunIsSized = (entries : List Entry) → IsLineRun network entries → IsAlwaysSized entries

-- # Forged or not

-- no table passes its size, and no event sends more than 24 frames; a command that waits may be of any length, since the ciphers are any
abbrev pub EveryRunIsSized : Type 0
EveryRunIsSized =
    (ciphers : Ciphers) → KeepsRanges ciphers → (entries : List Entry) → IsLineRun ciphers entries
    → FlightsAreOctets entries → IsAlwaysSizedBy IsAnyLoad entries

-- the records of a node have a reading: what it would hold after a restart
abbrev pub HasReading : Node → Type 0
HasReading x = IsOk (memory_of x.role x.store.records)

-- so have those of every node of every world, also where a failed write has halted it
abbrev pub StoresAreReadable : List Entry → Type 0
StoresAreReadable entries = All (λ (x : Entry). All HasReading x.after.nodes) entries

abbrev pub EveryStoreIsReadable : Type 0
EveryStoreIsReadable =
    (ciphers : Ciphers) → KeepsRanges ciphers → (entries : List Entry) → IsLineRun ciphers entries
    → FlightsAreOctets entries → StoresAreReadable entries

-- a restart finds a store that has a reading
abbrev pub EveryRestartIsAnswered : Type 0
EveryRestartIsAnswered =
    (ciphers : Ciphers) → KeepsRanges ciphers → (entries : List Entry) → IsLineRun ciphers entries
    → FlightsAreOctets entries → RestartsAreAnswered entries

-- the counters of one node's sealed flights rise
abbrev pub EveryCounterRises : Type 0
EveryCounterRises =
    (ciphers : Ciphers) → KeepsRanges ciphers → (entries : List Entry) → IsLineRun ciphers entries
    → FlightsAreOctets entries → CountersRise entries

-- a sealed flight has in its sender field the address of the node that sent it
abbrev pub EverySenderIsRight : Type 0
EverySenderIsRight =
    (ciphers : Ciphers) → KeepsRanges ciphers → (entries : List Entry) → IsLineRun ciphers entries
    → FlightsAreOctets entries → AreAddressed start entries

-- # Before the first forged event

-- no two nodes have one address
abbrev pub EveryAddressDiffers : Type 0
EveryAddressDiffers =
    (ciphers : Ciphers) → KeepsRanges ciphers → (entries : List Entry) → IsLineRun ciphers entries
    → FlightsAreOctets entries → AreApart entries

-- no two flights under one key have one nonce
abbrev pub EveryNonceDiffers : Type 0
EveryNonceDiffers =
    (ciphers : Ciphers) → KeepsRanges ciphers → (entries : List Entry) → IsLineRun ciphers entries
    → FlightsAreOctets entries → NoncesDiffer entries
