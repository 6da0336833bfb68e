-- The homes of nodes: the address that each has for good, and that a grant which a meter takes has its home.
use Rattle.std.specs.Prelude.{◌≡◌, ℕ, ◌<◌, false, List, Some, None, Result, Ok, Err}
use Rattle.std.specs.List.{list_any}
use Rattle.plc_base.specs.declared.key.Key.{Key}
use Rattle.plc_base.specs.declared.tags.PairTag.{PairTag}
use Rattle.plc_base.specs.Grant.{Granted}
use Rattle.eap_psk.specs.declared.peer.Peer.{Peer}
use Rattle.eap_psk.specs.declared.server.Agreed.{Agreed}
use Rattle.eap_psk.specs.Messages.{granting_text}
use Rattle.eap_psk.specs.Sessions.{identifier_of}
use Rattle.eap_psk.specs.Tags.{granting_tag}
use Rattle.joining_messages.specs.declared.message.JoinMessage.{JoinMessage}
use Rattle.joining_messages.specs.declared.message.JoinBody.TheVariants as body
use Rattle.joining_messages.specs.Reader.{join_in}
use Rattle.line_events.specs.declared.event.Event.{Event}
use Rattle.line_events.specs.declared.event.Event.TheVariants as events
use Rattle.node_rules.specs.Accepted.{Accepted}
use Rattle.node_rules.specs.declared.heard.MeterHeard.TheVariants as meter_heard
use Rattle.node_rules.specs.declared.refusal.CoordinatorRefusal.TheVariants as orders
use Rattle.node_rules.specs.declared.refusal.FrameRefusal.{FrameRefusal}
use Rattle.node_rules.specs.Ciphers.{Ciphers}
use Rattle.node_rules.specs.Coordinators as coordinator_rules
use Rattle.node_rules.specs.HearingRules.{hear}
use Rattle.node_rules.specs.MemoryDrafts.{unread, Unread}
use Rattle.node_rules.specs.Memory.{Memory, MeterSession, Meter, Node, node_address}
use Rattle.node_rules.specs.Meters as meters
use Rattle.node_rules.specs.Meters.{Identity}
use Rattle.node_rules.specs.NodeSteps.{NodeStep, acts}
use Rattle.line_rules.specs.Forgery.{accepting}
use Rattle.line_rules.specs.Steps.{identity, hearing_step, psk_of, note_by}
use Rattle.line_rules.specs.Worlds.{World, node_at, is_forged_tag}
use Rattle.line_laws.specs.Owed.{AreOctets}
use Rattle.line_laws.proofs.IssueWords.{Among}
pub use Rattle.line_laws.specs.Ranked.{Homes}

-- # Addresses

-- What the part of addresses says: each address that a node has is its home, and no two nodes have one home.
pub record Addressed (h : Homes) (w : World) : Type 0 where
  pub home : (i : ℕ) (x : Node) → node_at w i ≡ Some x → (address : ℕ) → node_address x ≡ Some address
      → h i ≡ Some address
  pub apart : (i j address : ℕ) → h i ≡ Some address → h j ≡ Some address → i ≡ j
  pub low : (i address : ℕ) → h i ≡ Some address → address < 0xFFFE

-- no home that was given is taken back
abbrev pub Grows : Homes → Homes → Type 0
Grows h k = (i address : ℕ) → h i ≡ Some address → k i ≡ Some address

-- # Grants

-- A grant that stands in the challenge of a frame, for the peer of the meter's session.
pub record TakenFrom (x : Identity) (m : Memory) (got : Accepted) (cost note now : ℕ) (granted : Granted) : Type 0 where
  pub unread_is : Unread
  pub frame : unread (hear m.station got cost note now).answer ≡ Some unread_is
  pub join : JoinMessage
  pub read : join_in unread_is.body ≡ Some join
  pub packet : List ℕ
  pub challenge : join.body ≡ body.Challenge packet
  pub session : MeterSession
  pub open_is : m.session ≡ Some session
  pub peer : Peer
  pub has : session.peer ≡ Some peer
  pub right : x.ciphers.third_fault x.psk peer packet ≡ None
  pub is : x.ciphers.granted x.psk peer packet ≡ Some granted

-- the tag of the grant's packet is among those that were found right
abbrev pub IsTagged : {x : Identity} {m : Memory} {got : Accepted} {cost note now : ℕ} {granted : Granted}
    → TakenFrom x m got cost note now granted → List PairTag → Type 0
IsTagged {granted = granted} t opened =
    Among (granting_tag t.peer.eui (identifier_of t.packet) t.peer.rand_s t.peer.rand_p (granting_text granted)) opened

-- where a meter takes the grant of a frame that it accepted, and no pair tag that it finds right there is forged, the grant has the meter's home
abbrev pub TakesItsOwn : Ciphers → Homes → World → ℕ → List ℕ → ℕ → NodeStep (Result Accepted FrameRefusal) → Type 0
TakesItsOwn ciphers h w number octets cost d =
    (got : Accepted) → d.answer ≡ Ok got
    → list_any (is_forged_tag w.made) (hearing_step ciphers d.node got cost (note_by w octets got.path) w.clock).opened ≡ false
    → (psk : Key) → d.node.role ≡ Meter psk → (m : Memory) → d.node.memory ≡ Some m
    → (agreed : Agreed) →
    (meters.hear_meter (identity ciphers d.node psk) m got cost (note_by w octets got.path) w.clock).answer
    ≡ Ok (meter_heard.Took agreed)
    → (granted : Granted)
    → (t : TakenFrom (identity ciphers d.node psk) m got cost (note_by w octets got.path) w.clock granted)
    → IsTagged t (meters.hear_meter (identity ciphers d.node psk) m got cost (note_by w octets got.path) w.clock).opened
    → h number ≡ Some granted.address

-- What the part of addresses says of an event: the homes are those after it, and each grant that a meter takes has its home.
pub record HomesFit (ciphers : Ciphers) (h : Homes) (w : World) : Type 0 where
  pub addressed : Addressed h w
  pub took : (number : ℕ) (x : Node) (octets : List ℕ) (cost : ℕ) → node_at w number ≡ Some x → AreOctets octets
      → TakesItsOwn ciphers h w number octets cost (accepting ciphers x octets)

-- and the grant of the workshop has the home of its meter, which it may have since this event
abbrev pub DepotFits : Ciphers → Homes → World → Event → Type 0
DepotFits ciphers h w (events.Depot number) =
    (x c : Node) (psk : Key) (g : Granted) → node_at w number ≡ Some x → node_at w 0 ≡ Some c → psk_of x ≡ Some psk
    → (acts c (Err orders.Halted) (λ m. coordinator_rules.depot m x.eui psk)).answer ≡ Ok g → h number ≡ Some g.address
DepotFits ciphers h w _ = Unit {0}
