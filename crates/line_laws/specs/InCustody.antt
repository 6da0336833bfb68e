-- What holds of the datagrams that were sent, before the first forged event.
use Rattle.std.specs.Prelude.{◌≡◌, ℕ, Bool, All, List, Some, IfSome, slice_get}
use Rattle.mesh_header.specs.declared.unit.Unit.{Unit as MeshUnit}
use Rattle.node_rules.specs.Ciphers.{Ciphers}
use Rattle.node_rules.specs.Memory.{StationMemory, Memory, Node, address_of}
use Rattle.line_rules.specs.Runs.{send_at}
use Rattle.line_rules.specs.Worlds.{World, Flight, Sending}
use Rattle.line_events.specs.declared.happenings.Handed.{Handed}
use Rattle.line_laws.specs.SealedUnits.{AreFlights}
use Rattle.line_laws.specs.Places.{IsInCustody, unit_of}
use Rattle.line_laws.specs.Ranges.{NodeRanged}
use Rattle.line_laws.specs.Sends.{SentAs, UnitIsOf, BodyIsOf, HeldIsOf}

-- # Sends by their numbers

-- a send as one from an address to another
abbrev pub sent_as : (ℕ → ℕ) → Sending → SentAs
sent_as home s = record { origin = home s.from; to = home s.to; octets = s.datagram; tag = s.tag }

-- under a note there was the send of this number
pub record SentUnder (home : ℕ → ℕ) (sent : List Sending) (note : ℕ) (s : SentAs) : Type 0 where
  pub sending : Sending
  pub is : send_at sent note ≡ Some sending
  pub of : sent_as home sending ≡ s

-- # What holds

-- A flight with a note is of the send of that note.
pub record FlightIsOf (ciphers : Ciphers) (S : ℕ → SentAs → Type 0) (f : Flight) : Type 0 where
  pub unit : (u : MeshUnit) → unit_of ciphers f ≡ Some u → UnitIsOf S f.note u

-- What a node of this address holds is of the sends.
pub record StationIsTrue (S : ℕ → SentAs → Type 0) (own : ℕ) (l : StationMemory) : Type 0 where
  pub address : (a : ℕ) → address_of l ≡ Some a → a ≡ own
  pub bodies : All (BodyIsOf S own) l.waiting
  pub held : All (HeldIsOf S own) l.reassemblies

-- what a node of this address holds is of the sends
abbrev pub NodeTrue : (ℕ → SentAs → Type 0) → ℕ → Node → Type 0
NodeTrue S own x = IfSome x.memory (λ (m : Memory). StationIsTrue S own m.station)

-- What holds of a world, its sends and what was handed up: at each node's number its address.
pub record Custody (ciphers : Ciphers) (live : World → Flight → Bool) (S : ℕ → SentAs → Type 0) (home : ℕ → ℕ) (w : World) (ups : List Handed) : Type 0 where
  pub flights : AreFlights ciphers w.flights
  pub ranged : All NodeRanged w.nodes
  pub sent : All (FlightIsOf ciphers S) w.flights
  pub nodes : (number : ℕ) (x : Node) → slice_get w.nodes number ≡ Some x → NodeTrue S (home number) x
  pub places : IsInCustody ciphers live w ups
