-- What the history has of an event, as the report says it, and what the world counts.
use Rattle.std.specs.Prelude.{◌≡◌, ◌&&◌, not, ℕ, ◌+◌, Bool, true, false, List, [], ◌∷◌, ◌++◌, length, is_some, Some, IfSome, if◌then◌else◌}
use Rattle.std.specs.Option.{option_map}
use Rattle.plc_base.specs.Grant.{Granted}
use Rattle.plc_base.specs.declared.address.Eui.{Eui}
use Rattle.line_events.specs.declared.event.Answer.{Answer}
use Rattle.line_events.specs.declared.event.Answer.TheVariants as answers
use Rattle.line_events.specs.declared.event.Event.{Event}
use Rattle.line_events.specs.declared.event.Event.TheVariants as events
use Rattle.line_events.specs.declared.happenings.Handed.{Handed}
use Rattle.node_rules.specs.Memory.{Node}
use Rattle.line_rules.specs.Worlds.{World, Sending, Issued, Pairing, node_at}
use Rattle.line_rules.specs.Steps.{is_taken, tag_of, issued_by}
use Rattle.line_rules.specs.Runs.{Entry, one_of}

-- # Counts

-- What an event adds to the counts of a world.
pub record Adds (w : World) (x : Entry) : Type 0 where
  pub events : x.after.events ≡ w.events + 1
  pub sends : x.after.sends ≡ w.sends + length (one_of x.trace.sent)
  pub ups : x.after.ups ≡ w.ups + length (one_of x.trace.happenings.up)
  pub forged : x.after.forged ≡ w.forged + (if x.trace.happenings.forged then 1 else 0)
  pub done : x.after.done ≡ w.done + length (one_of x.trace.done)
  -- its flights are numbered after those before it
  pub first : x.trace.happenings.first_flight ≡ length w.flights + 1
  pub flights : length x.after.flights ≡ length w.flights + x.trace.happenings.flights
  pub made : x.after.made ≡ w.made ++ x.trace.made

-- so the counts of a world are those of its history
abbrev pub CountsRight : World → List Entry → Type 0
CountsRight w [] = Unit {0}
CountsRight w (x ∷ xs) = Adds w x × CountsRight x.after xs

-- # Answers

-- whether a datagram was handed up
abbrev pub is_up : Answer → Bool
is_up answers.Up = true
is_up _ = false

-- whether a meter took its grant
abbrev pub is_took : Answer → Bool
is_took answers.Took = true
is_took _ = false

-- whether a joining is done
abbrev pub is_done : Answer → Bool
is_done answers.Done = true
is_done _ = false

-- whether keys were issued
abbrev pub is_issue : Answer → Bool
is_issue answers.Keyed = true
is_issue answers.Joined = true
is_issue _ = false

-- octets come to the node of a number
abbrev pub ComesTo : Event → ℕ → Type 0
ComesTo (events.Deliver flight node cost) number = node ≡ number
ComesTo (events.Inject node cost octets) number = node ≡ number
ComesTo _ number = ⊥

-- A send is the one of its event, under the tag that its node takes next.
pub record IsSendOf (w : World) (event : Event) (s : Sending) : Type 0 where
  pub fields : event ≡ events.Send s.from s.to s.datagram
  pub node : Node
  pub there : node_at w s.from ≡ Some node
  pub tag : s.tag ≡ tag_of node

-- Keys are issued together, as those of one grant to one meter; in the workshop it is the meter of the event.
pub record IsIssue (w : World) (event : Event) (issued : List Issued) : Type 0 where
  pub eui : Eui
  pub granted : Granted
  pub keys : issued ≡ issued_by eui granted
  pub depot : (number : ℕ) → event ≡ events.Depot number → (x : Node) × (node_at w number ≡ Some x) × (eui ≡ x.eui)

-- whether a datagram goes to all: its word is that of a send, and it is none
abbrev pub is_broadcast : Event → Bool
is_broadcast (events.Bcast number datagram) = true
is_broadcast _ = false

-- What the history has of an event is there exactly where the answer says so; a broadcast is no send.
pub record IsTracedRight (w : World) (x : Entry) : Type 0 where
  pub sent : is_some x.trace.sent ≡ (is_taken x.trace.happenings.answer && not (is_broadcast x.event))
  pub send : IfSome x.trace.sent (IsSendOf w x.event)
  pub up : is_some x.trace.happenings.up ≡ is_up x.trace.happenings.answer
  pub up_at : IfSome x.trace.happenings.up (λ (u : Handed). ComesTo x.event u.node)
  pub taken : is_some x.trace.taken ≡ is_took x.trace.happenings.answer
  pub taken_at : IfSome x.trace.taken (λ (p : Pairing). ComesTo x.event p.node)
  pub took : x.trace.happenings.took ≡ option_map (λ (p : Pairing). p.node) x.trace.taken
  pub done : is_some x.trace.done ≡ is_done x.trace.happenings.answer
  pub done_node : x.trace.happenings.done ≡ option_map (λ (p : Pairing). p.node) x.trace.done
  pub issues : is_issue x.trace.happenings.answer ≡ true → IsIssue w x.event x.trace.issued
  pub none_issued : is_issue x.trace.happenings.answer ≡ false → x.trace.issued ≡ []

-- so it is of each event of a run
abbrev pub AreTracedRight : World → List Entry → Type 0
AreTracedRight w [] = Unit {0}
AreTracedRight w (x ∷ xs) = IsTracedRight w x × AreTracedRight x.after xs
