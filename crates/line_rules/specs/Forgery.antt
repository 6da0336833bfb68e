-- Which events are forged, said without the tests of the step.
use Rattle.std.specs.Prelude.{◌≡◌, ◌↔◌, ℕ, Bool, true, List, [], ◌∷◌, All, Some, Result, Ok, Err, slice_get}
use Rattle.plc_base.specs.Addresses.{eui_number}
use Rattle.plc_base.specs.declared.address.Eui.{Eui}
use Rattle.plc_base.specs.declared.key.Key.{Key}
use Rattle.plc_base.specs.declared.key.RandomOctets.{RandomOctets}
use Rattle.plc_base.specs.declared.tags.PairTag.{PairTag}
use Rattle.plc_base.specs.declared.tags.PairTag.TheVariants as tags
use Rattle.line_events.specs.declared.event.Event.{Event}
use Rattle.line_events.specs.declared.event.Event.TheVariants as events
use Rattle.node_rules.specs.Accepted.{Accepted}
use Rattle.node_rules.specs.declared.heard.Path.TheVariants as paths
use Rattle.node_rules.specs.declared.refusal.FrameRefusal.{FrameRefusal}
use Rattle.node_rules.specs.declared.refusal.FrameRefusal.TheVariants as frames
use Rattle.node_rules.specs.Acceptance.{accept}
use Rattle.node_rules.specs.Ciphers.{Ciphers}
use Rattle.node_rules.specs.Frames.{arrived}
use Rattle.node_rules.specs.Memory.{Node}
use Rattle.node_rules.specs.NodeSteps.{NodeStep, acts, of_station}
use Rattle.line_rules.specs.Worlds.{World, Flight, node_at, flight_at}
use Rattle.line_rules.specs.Runs.{Entry}

-- # Frames

-- octets come to the node of a number: those of a flight, or of the script
pub data Comes (w : World) : Event → ℕ → List ℕ → Type 0 where
  OfFlight : (flight number cost : ℕ) (f : Flight) → flight_at w flight ≡ Some f
      → Comes w (events.Deliver flight number cost) number f.octets
  OfScript : (number cost : ℕ) (octets : List ℕ) → Comes w (events.Inject number cost octets) number octets

-- what a node does about octets before it hears what they carry
abbrev pub accepting : Ciphers → Node → List ℕ → NodeStep (Result Accepted FrameRefusal)
accepting ciphers x octets =
    acts x (Err frames.Halted) (λ m. of_station m (accept m.station x.eui (arrived ciphers octets)))

-- A node accepts octets that come to it, sealed under a key.
pub record AcceptsSealed (ciphers : Ciphers) (w : World) (event : Event) (octets : List ℕ) (key : Key) : Type 0 where
  pub number : ℕ
  pub comes : Comes w event number octets
  pub node : Node
  pub there : node_at w number ≡ Some node
  pub got : Accepted
  pub is : (accepting ciphers node octets).answer ≡ Ok got
  pub from : ℕ
  pub to_all : Bool
  pub path : got.path ≡ paths.Sealed from to_all key

-- no flight, lost or not, has these octets under this key
abbrev pub NoneFlew : List Flight → List ℕ → Key → Type 0
NoneFlew flights octets key = All (λ (f : Flight). (f.octets ≡ octets) × (f.key ≡ Some key) → ⊥) flights

-- # Pair tags

-- two pair tags were computed over the same, under the pair key of one meter
pub data IsSameTag : PairTag → PairTag → Type 0 where
  BothMacP : (a b : Eui) (octets : List ℕ) → eui_number a ≡ eui_number b
      → IsSameTag (tags.MacP a octets) (tags.MacP b octets)
  BothMacS : (a b : Eui) (octets : List ℕ) → eui_number a ≡ eui_number b
      → IsSameTag (tags.MacS a octets) (tags.MacS b octets)
  BothChannel : (a b : Eui) (rand_p : RandomOctets) (nonce : ℕ) (header text : List ℕ) → eui_number a ≡ eui_number b
      → IsSameTag (tags.Channel a rand_p nonce header text) (tags.Channel b rand_p nonce header text)

-- no node made this tag
abbrev pub NoneMade : List PairTag → PairTag → Type 0
NoneMade made tag = All (λ (t : PairTag). IsSameTag tag t → ⊥) made

-- # Events

-- an event in which a node accepts octets that no node sent under their key, or finds a pair tag right that no node made
pub data IsForged (ciphers : Ciphers) (w : World) (event : Event) (opened : List PairTag) : Type 0 where
  ByFrame : (octets : List ℕ) (key : Key) → AcceptsSealed ciphers w event octets key → NoneFlew w.flights octets key
      → IsForged ciphers w event opened
  ByTag : (place : ℕ) (tag : PairTag) → slice_get opened place ≡ Some tag → NoneMade w.made tag
      → IsForged ciphers w event opened

-- exactly such events are reported to be forged
abbrev pub IsForgedRight : Ciphers → World → List Entry → Type 0
IsForgedRight ciphers w [] = Unit {0}
IsForgedRight ciphers w (x ∷ xs) =
    ((x.trace.happenings.forged ≡ true) ↔ IsForged ciphers w x.event x.trace.opened) × IsForgedRight ciphers x.after xs
