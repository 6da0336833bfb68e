-- Flights: their counters and nonces, what they are, and whose address they have.
use Rattle.std.specs.Prelude.{◌≡◌, ◌≢◌, ◌⊎◌, ℕ, ◌<◌, true, false, is_some, List, [], ◌∷◌, length, drop, All, AllPairs, Option, Some, None, IfSome}
use Rattle.plc_base.specs.declared.key.Key.{Key}
use Rattle.mac_frames.specs.declared.head.MacHead.{MacHead}
use Rattle.mac_frames.specs.declared.head.MacHead.TheVariants as heads
use Rattle.mac_frames.specs.Grammar.{IsSealed, IsPlain, header, header_then}
use Rattle.mac_frames.specs.Reader.{head_in}
use Rattle.mesh_header.specs.Grammar.{spelling}
use Rattle.joining_messages.specs.declared.message.JoinMessage.{JoinMessage}
use Rattle.pan_discovery.specs.declared.message.Discovery.{Discovery}
use Rattle.pan_discovery.specs.Messages.{SpellsDiscovery}
use Rattle.node_rules.specs.Ciphers.{Ciphers, OpensWhatItSeals}
use Rattle.node_rules.specs.Frames.{joining_unit}
use Rattle.line_rules.specs.Worlds.{World, Flight}
use Rattle.line_rules.specs.Runs.{Entry}
use Rattle.line_rules.specs.SafeRuns.{HasAddress}

-- # Counters and nonces

-- the address and the counter that stand in a sealed frame, which make its nonce
pub record NonceParts : Type 0 where
  pub from : ℕ
  pub counter : ℕ

-- what a sealed frame has of its nonce
abbrev pub nonce_in_head : MacHead → Option NonceParts
nonce_in_head (heads.Sealed ack seq pan to from counter index) = Some (record { from = from; counter = counter })
nonce_in_head (heads.Up ack version seq pan to from) = None
nonce_in_head (heads.Down ack version seq pan to from) = None

-- of a flight, with the key that sealed it
abbrev pub nonce_parts : Flight → Option NonceParts
nonce_parts f = nonce_in_head (head_in f.octets)

-- two sealed flights of one node: the later one has the greater counter
abbrev pub CounterRises : Flight → Flight → Type 0
CounterRises f g = f.from ≡ g.from → IfSome (nonce_parts f) (λ p. IfSome (nonce_parts g) (λ q. p.counter < q.counter))

-- two flights under one key have different nonces
abbrev pub HasAnotherNonce : Flight → Flight → Type 0
HasAnotherNonce f g =
    f.key ≡ g.key → IfSome f.key (λ _. IfSome (nonce_parts f) (λ p. IfSome (nonce_parts g) (λ q. p ≢ q)))

-- In every run, forged or not, the counters of the sealed flights of one node rise.
abbrev pub CountersRise : List Entry → Type 0
CountersRise entries = All (λ (x : Entry). AllPairs CounterRises x.after.flights) entries

-- In every run, before its first forged event, no two flights that were sealed under one key have one nonce.
abbrev pub NoncesDiffer : List Entry → Type 0
NoncesDiffer [] = Unit {0}
NoncesDiffer (x ∷ xs) = x.trace.happenings.forged ≡ false → AllPairs HasAnotherNonce x.after.flights × NoncesDiffer xs

-- # What flights are

-- The octets are a sealed frame under a key: a head, and what the key seals under this head. The nonce is read back from the octets.
pub record IsSealedUnder (ciphers : Ciphers) (key : Key) (octets : List ℕ) : Type 0 where
  pub head : MacHead
  pub payload : List ℕ
  pub sealed : IsSealed head
  pub spelled : octets ≡ header_then head (ciphers.seals key head payload)
  pub nonce : is_some (nonce_in_head (head_in octets)) ≡ true
  -- the key opens what it sealed, where the ciphers do so at all
  pub opened : OpensWhatItSeals ciphers
      → ciphers.opens key head (header head) (ciphers.seals key head payload) ≡ Some payload

-- The octets are a plain frame with a joining message, and no sealed one.
pub record IsPlainFrame (octets : List ℕ) : Type 0 where
  pub head : MacHead
  pub message : JoinMessage
  pub plain : IsPlain head
  pub spelled : octets ≡ header_then head (spelling (joining_unit message))
  pub nonce : nonce_in_head (head_in octets) ≡ None

-- The octets are a beacon request or a beacon, and no sealed frame.
pub record IsDiscoveryFrame (octets : List ℕ) : Type 0 where
  pub frame : Discovery
  pub spelled : SpellsDiscovery frame octets
  pub nonce : nonce_in_head (head_in octets) ≡ None

-- A flight with a key is a sealed frame under this key, and one without a key is a plain frame or one of discovery, which carry no send.
pub record IsSpelled (ciphers : Ciphers) (f : Flight) : Type 0 where
  pub sealed : (key : Key) → f.key ≡ Some key → IsSealedUnder ciphers key f.octets
  pub plain : f.key ≡ None → (IsPlainFrame f.octets ⊎ IsDiscoveryFrame f.octets) × (f.note ≡ 0)

-- so it is of all flights, after every event of a run
abbrev pub AreSpelled : Ciphers → List Entry → Type 0
AreSpelled ciphers entries = All (λ (x : Entry). All (IsSpelled ciphers) x.after.flights) entries

-- # Addresses

-- the sender field of a sealed flight is the address of the node that sent it
abbrev pub HasSender : World → Flight → Type 0
HasSender w f = IfSome (nonce_parts f) (λ p. HasAddress w f.from p.from)

-- each sealed flight has in its sender field the address that its node has after the event that sent it
abbrev pub AreAddressed : World → List Entry → Type 0
AreAddressed w [] = Unit {0}
AreAddressed w (x ∷ xs) = All (HasSender x.after) (drop (length w.flights) x.after.flights) × AreAddressed x.after xs

-- no two nodes have one address
abbrev pub AddressesDiffer : World → Type 0
AddressesDiffer w = (i j address : ℕ) → HasAddress w i address → HasAddress w j address → i ≡ j

-- so it is after each event before the first forged one
abbrev pub AreApart : List Entry → Type 0
AreApart [] = Unit {0}
AreApart (x ∷ xs) = x.trace.happenings.forged ≡ false → AddressesDiffer x.after × AreApart xs
