-- The sentences of a run, made while it goes on, and what they go by.
use Rattle.std.specs.Prelude.{ℕ, ◌+◌, ◌==◌, ◌&&◌, zero, suc, Bool, true, false, not, List, [], ◌∷◌, ◌++◌, is_some, length, min, slice_get}
use Rattle.std.specs.Prelude.{Option, None, Some, if◌then◌else◌}
use Rattle.plc_base.specs.declared.address.Eui.{Eui}
use Rattle.plc_base.specs.declared.key.Key.{Key}
use Rattle.node_rules.specs.Memory.{Node}
use Rattle.node_rules.specs.declared.shown.Shown.{Shown}
use Rattle.node_rules.specs.declared.shown.ShownPeer.{ShownPeer}
use Rattle.node_rules.specs.declared.shown.ShownRoute.{ShownRoute}
use Rattle.node_rules.specs.ShownNodes.{nothing_shown, shown_of}
use Rattle.line_events.specs.declared.event.Answer.{Answer}
use Rattle.line_events.specs.declared.event.Event.{Event}
use Rattle.line_events.specs.declared.event.Event.TheVariants as events
use Rattle.line_rules.specs.Worlds.{World, node_at}
use Rattle.frame_facts.specs.declared.detail.FlightMore.{FlightMore}
use Rattle.line_record.specs.declared.act.Act.{Act}
use Rattle.line_record.specs.declared.act.Act.TheVariants as acts
use Rattle.line_record.specs.declared.recorded.RecordedEvent.{RecordedEvent}
use Rattle.line_record.specs.declared.recorded.RecordedFlight.{RecordedFlight}
use Rattle.line_record.specs.Kinds.{actor_of, is_for_another, makes_node}
use Rattle.line_record.specs.Lists.{changed_place}
use Rattle.line_record.specs.RunRecords.{made_by, numbered}
use Rattle.line_record.specs.Stories.{homes_with, newcomer}
use Rattle.sentence_parts.specs.declared.part.Who.{Who}
use Rattle.sentence_parts.specs.declared.part.Who.TheVariants as whos
use Rattle.event_sentences.specs.declared.heard.DrawnKey.{DrawnKey}
use Rattle.event_sentences.specs.declared.heard.Heard.{Heard}
use Rattle.event_sentences.specs.Heards.{heard_flight, heard_octets}
use Rattle.event_sentences.specs.RouteEnds.{has_ended, valid_dests}
use Rattle.event_sentences.specs.Scenes.{Scene}
use Rattle.event_sentences.specs.Texts.{event_text}
use Rattle.event_sentences.specs.Watches.{Watched, looked, noted, unwatched}
use Rattle.line_view.specs.Recordings.{Recording, is_drawn, key_at, octets_at}

pub record Sentences : Type 0 where
  -- the sentence of each event; what came to a node that it is not for has no words
  pub sentences : List (List ℕ)
  -- the node of each short address
  pub homes : List ℕ
  -- the group keys that were drawn
  pub keys : List DrawnKey
  -- what is kept of each node
  pub watches : List Watched
  -- the marks that each node showed last
  pub marks : List (List ShownPeer)

abbrev pub no_sentences : Sentences
no_sentences = record { sentences = []; homes = []; keys = []; watches = []; marks = [] }

-- # What an event says of addresses, nodes and keys

abbrev pub key_if : Bool → DrawnKey → List DrawnKey → List DrawnKey
key_if true key keys = keys ++ (key ∷ [])
key_if false key keys = keys

abbrev pub keys_after : Event → Answer → List DrawnKey → List DrawnKey
keys_after (events.Coordinator eui key) _ keys = key_if true (record { index = 0; key = key }) keys
keys_after (events.Rekey index key) answer keys = key_if (is_drawn answer) (record { index = index; key = key }) keys
keys_after _ _ keys = keys

abbrev pub watches_with : Bool → List Watched → List Watched
watches_with true watches = watches ++ (unwatched ∷ [])
watches_with false watches = watches

abbrev pub marks_with : Bool → List (List ShownPeer) → List (List ShownPeer)
marks_with true marks = marks ++ ([] ∷ [])
marks_with false marks = marks

unfoldable pub learned : Event → RecordedEvent → Sentences → Sentences
learned event e s =
    record s {
      homes = homes_with (newcomer (length s.homes) e.act e.answer e.address) s.homes;
      keys = keys_after event e.answer s.keys;
      watches = watches_with (makes_node e.act) s.watches;
      marks = marks_with (makes_node e.act) s.marks;
    }

-- # The frame that came

abbrev pub flight_came : ℕ → Option (List ℕ) → Option Key → Option RecordedFlight → Option FlightMore → List ℕ → List Eui → Option Heard
flight_came number (Some octets) key (Some flight) (Some more) homes euis = Some (heard_flight number octets key flight more homes euis)
flight_came number _ key _ _ homes euis = None

-- the flight of a number, as it comes to a node
unfoldable pub flight_heard : ℕ → Recording → List ℕ → Option Heard
flight_heard number r homes =
    flight_came number (octets_at r.world number) (key_at r.world number) (numbered r.flights number) (numbered r.more number) homes r.euis

abbrev pub heard_by : Event → Recording → Sentences → Option Heard
heard_by (events.Deliver flight node cost) r s = flight_heard flight r s.homes
heard_by (events.Inject node cost octets) r s = Some (heard_octets octets s.keys s.homes r.euis)
heard_by _ r s = None

abbrev pub is_at : Who → ℕ → Bool
is_at (whos.Node node) place = node == place
is_at _ place = false

-- whether a frame came to a node that it is not for
abbrev pub is_hushed : Option Heard → RecordedEvent → Bool
is_hushed None e = false
is_hushed (Some heard) e = is_for_another e.answer && not (is_at heard.to (actor_of e.act))

-- # What is kept of nodes

abbrev pub shown_by : Option Node → Shown
shown_by None = nothing_shown
shown_by (Some node) = shown_of node

-- by the routes that a node shows
abbrev pub looked_in : ℕ → List ShownRoute → ℕ → List Watched → List Watched
looked_in event routes place watches = changed_place (slice_get watches place) place (looked event routes) watches

-- after an event, by what a node shows then, if there is such a node
unfoldable pub look_at : ℕ → World → ℕ → List Watched → List Watched
look_at event w place watches =
    if is_some (node_at w place) then looked_in event (shown_by (node_at w place)).routes place watches else watches

-- by what each of this many nodes shows
abbrev pub look_at_all : ℕ → World → ℕ → List Watched → List Watched
look_at_all event w zero watches = watches
look_at_all event w (suc place) watches = look_at event w place (look_at_all event w place watches)

-- by what the nodes show that an event may have changed beside the one that it is about
abbrev pub look_around : ℕ → Act → World → List Watched → List Watched
look_around event (acts.Tick seconds) w watches = look_at_all event w (min (length watches) 1000) watches
look_around event (acts.Near a b) w watches = look_at event w b watches
look_around event _ w watches = watches

-- whether a route that was valid is not any more, by those that a node shows
abbrev pub ended_in : Option Watched → List ShownRoute → Bool
ended_in None routes = false
ended_in (Some watch) routes = has_ended (valid_dests routes) watch.routes.valid

abbrev pub ended_at : World → ℕ → List Watched → Bool
ended_at w place watches =
    if is_some (node_at w place) then ended_in (slice_get watches place) (shown_by (node_at w place)).routes else false

abbrev pub noted_at : ℕ → RecordedEvent → List Watched → List Watched
noted_at event e watches =
    changed_place (slice_get watches (actor_of e.act)) (actor_of e.act) (noted e event) watches

-- # One event

-- with the words of an event, which is noted
unfoldable pub ending : List ℕ → ℕ → RecordedEvent → Sentences → Sentences
ending words event e s =
    record s {
      sentences = s.sentences ++ (words ∷ []);
      watches = noted_at event e s.watches;
    }

abbrev pub shown_marks : List ShownPeer → List ShownPeer → List ShownPeer
shown_marks peers old = peers

-- with the marks that a node shows
abbrev pub marks_set : ℕ → List ShownPeer → List (List ShownPeer) → List (List ShownPeer)
marks_set place peers marks = changed_place (slice_get marks place) place (shown_marks peers) marks

-- with the looks at the nodes, and the marks that the node of the event shows
abbrev pub with_looks : RecordedEvent → World → List Watched → Sentences → Sentences
with_looks e w watches s =
    record s { watches = watches; marks = marks_set (actor_of e.act) (shown_by (node_at w (actor_of e.act))).peers s.marks }

-- what the sentence goes by: what the node shows that the event is about, and whether a route of it ended
abbrev pub scene : RecordedEvent → Option Heard → Shown → Bool → Recording → Sentences → Scene
scene e heard shown ended r s =
    record {
      recorded = e;
      flights = made_by e r.flights;
      heard = heard;
      node = actor_of e.act;
      shown = shown;
      watch = slice_get s.watches (actor_of e.act);
      ended = ended;
      counters = r.counters;
      homes = s.homes;
      euis = r.euis;
    }

-- the words of an event, after the look at its node, and whether a route of that ended
abbrev pub words_of : RecordedEvent → Option Heard → Bool → Recording → Sentences → List ℕ
words_of e heard ended r s = event_text (scene e heard (shown_by (node_at r.world (actor_of e.act))) ended r s)

abbrev pub worded_with : ℕ → RecordedEvent → Option Heard → Bool → Recording → Sentences → Sentences
worded_with event e heard ended r s = ending (words_of e heard ended r s) event e s

-- an event that has words, after the looks at other nodes
unfoldable pub worded : ℕ → RecordedEvent → Option Heard → List Watched → Recording → Sentences → Sentences
worded event e heard watches r s =
    worded_with event e heard (ended_at r.world (actor_of e.act) watches) r
    (with_looks e r.world (look_at event r.world (actor_of e.act) watches) s)

abbrev pub with_event : ℕ → RecordedEvent → Option Heard → Recording → Sentences → Sentences
with_event event e heard r s =
    if is_hushed heard e then ending [] event e s else worded event e heard (look_around event e.act r.world s.watches) r s

unfoldable pub event_worded : ℕ → Event → RecordedEvent → Recording → Sentences → Sentences
event_worded number event e r s = with_event number e (heard_by event r (learned event e s)) r (learned event e s)

abbrev pub with_last : Option RecordedEvent → Event → Recording → Sentences → Sentences
with_last None event r s = s
with_last (Some e) event r s = event_worded (length r.events) event e r s

-- with the sentence of the event that a run took last
unfoldable pub with_sentence : Event → Recording → Sentences → Sentences
with_sentence event r s = with_last (numbered r.events (length r.events)) event r s
