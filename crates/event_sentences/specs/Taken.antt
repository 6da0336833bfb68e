-- What a node did with a datagram or a route message that it took, in words.
use Rattle.std.specs.Prelude.{ℕ, ◌==◌, Bool, true, false, List, [], ◌∷◌, ◌++◌, length, codes, slice_get, Option, None, Some, if◌then◌else◌}
use Rattle.line_events.specs.declared.event.Answer.{Answer}
use Rattle.line_events.specs.declared.event.Answer.TheVariants as answers
use Rattle.line_record.specs.declared.recorded.RecordedFlight.{RecordedFlight}
use Rattle.frame_facts.specs.declared.detail.Detail.{Detail}
use Rattle.frame_facts.specs.declared.detail.Detail.TheVariants as details
use Rattle.frame_facts.specs.declared.gist.Gist.{Gist}
use Rattle.frame_facts.specs.declared.gist.Gist.TheVariants as gists
use Rattle.sentence_parts.specs.declared.part.Part.TheVariants.{Words, Number, Node, Place}
use Rattle.sentence_parts.specs.Parts.{parts_text}
use Rattle.event_sentences.specs.declared.claim.Deed.{Deed}
use Rattle.event_sentences.specs.declared.claim.Deed.TheVariants as deeds
use Rattle.event_sentences.specs.declared.flights.Meant.TheVariants as meants
use Rattle.event_sentences.specs.declared.heard.Heard.{Heard}
use Rattle.event_sentences.specs.Claims.{deed_text}
use Rattle.event_sentences.specs.Flights.{is_request}
use Rattle.event_sentences.specs.Joined.{further_text}
use Rattle.event_sentences.specs.RouteEnds.{end_of}
use Rattle.event_sentences.specs.Scenes.{Scene, at, follows_text, leads_and_leaving, target, with_flights}
use Rattle.event_sentences.specs.Watches.{Watched}

-- # Datagrams

-- a datagram that is handed up, by the number of its send, 0 if there is none
abbrev pub sent_up : ℕ → Deed
sent_up send = if send == 0 then deeds.HandsUpStray else deeds.HandsUp send

abbrev pub handed_up : Option ℕ → Deed
handed_up None = deeds.HandsUpStray
handed_up (Some send) = sent_up send

-- a piece that waits for the others
abbrev pub holds_octets_text : ℕ → ℕ → ℕ → ℕ → List ℕ
holds_octets_text node start end size =
    parts_text
    (Node node ∷ Words (codes " holds octets ") ∷ Number start ∷ Words (codes " to ") ∷ Number end ∷ Words (codes " of ") ∷ Number size
    ∷ Words (codes " and waits for the rest") ∷ [])

abbrev pub held_text : ℕ → Detail → List ℕ
held_text node (details.Piece start end size) = holds_octets_text node start end size
held_text node _ = parts_text (Node node ∷ Words (codes " holds a piece and waits for the rest") ∷ [])

-- # Requests and replies

abbrev pub relayed_request_text : ℕ → ℕ → Scene → List ℕ
relayed_request_text origin sought s =
    parts_text
    (Node s.node ∷ Words (codes " passes the request for ") ∷ at sought s ∷ Words (codes " on to all")
    ∷ Words (follows_text meants.Requests origin s) ∷ [])

abbrev pub relayed_reply_text : ℕ → Scene → List ℕ
relayed_reply_text origin s =
    parts_text
    (Node s.node ∷ Words (codes " passes the reply on to ") ∷ Place (target meants.Replies s) ∷ Words (follows_text meants.Replies origin s) ∷ [])

abbrev pub relayed_text : Gist → Scene → List ℕ
relayed_text (gists.Seeks origin sought cost) s = relayed_request_text origin sought s
relayed_text (gists.Replies origin to) s = relayed_reply_text origin s
relayed_text _ s = with_flights (Node s.node ∷ Words (codes " passes it on to ") ∷ Place (target meants.All s) ∷ []) s

abbrev pub answered_request_text : Heard → ℕ → Scene → List ℕ
answered_request_text heard origin s =
    parts_text
    (Node s.node ∷ Words (codes " is the one that is sought: it replies to ") ∷ Place heard.by ∷ Words (follows_text meants.Replies origin s) ∷ [])

abbrev pub answered_text : Gist → Heard → Scene → List ℕ
answered_text (gists.Seeks origin sought cost) heard s = answered_request_text heard origin s
answered_text _ heard s =
    with_flights (Node s.node ∷ Words (codes " is the one that is sought: it answers ") ∷ Place heard.by ∷ []) s

abbrev pub learned_of_text : ℕ → Scene → List ℕ
learned_of_text origin s =
    parts_text (Node s.node ∷ Words (codes " has its route to ") ∷ at origin s ∷ Words (leads_and_leaving origin s) ∷ [])

abbrev pub learned_text : Gist → Scene → List ℕ
learned_text (gists.Replies origin to) s = learned_of_text origin s
learned_text (gists.Seeks origin sought cost) s = learned_of_text origin s
learned_text _ s = parts_text (Node s.node ∷ Words (codes " has its route") ∷ [])

-- # Route errors

-- the event at which the route to an address ended, 0 where it is valid or never was
abbrev pub end_by : ℕ → Option Watched → ℕ
end_by dest None = 0
end_by dest (Some watched) = end_of dest watched.routes

abbrev pub since_text : ℕ → List ℕ
since_text event =
    if event == 0 then parts_text []
    else parts_text (Words (codes " any more (it ended at event ") ∷ Number event ∷ Words (codes ")") ∷ [])

abbrev pub any_more_text : ℕ → Scene → List ℕ
any_more_text dest s = since_text (end_by dest s.watch)

abbrev pub reported_end_text : ℕ → ℕ → Scene → List ℕ
reported_end_text lost to s =
    with_flights
    (Node s.node ∷ Words (codes " has no route to ") ∷ at lost s ∷ Words (any_more_text lost s)
    ∷ Words (codes ": the datagram ends here, and ") ∷ at to s ∷ Words (codes " is told") ∷ []) s

abbrev pub ends_here_text : Scene → List ℕ
ends_here_text s = with_flights (Node s.node ∷ Words (codes " has no route: the datagram ends here") ∷ []) s

abbrev pub reported_text : Gist → Scene → List ℕ
reported_text (gists.Ends lost to) s = reported_end_text lost to s
reported_text _ s = ends_here_text s

abbrev pub gist_by : Option RecordedFlight → Gist
gist_by None = gists.Unread
gist_by (Some flight) = flight.gist

-- what the first flight of an event is about
abbrev pub first_gist : List RecordedFlight → Gist
first_gist flights = gist_by (slice_get flights 0)

abbrev pub lost_of : Gist → ℕ
lost_of (gists.Ends lost to) = lost
lost_of _ = 65535

abbrev pub end_words : Bool → List ℕ
end_words true = codes ": its route ends"
end_words false = codes "; it had no such route"

abbrev pub passes_on_text : Scene → List ℕ
passes_on_text s = if length s.flights == 0 then parts_text [] else with_flights (Words (codes "; it passes the error on") ∷ []) s

abbrev pub out_of_reach_text : Heard → Scene → List ℕ
out_of_reach_text heard s =
    parts_text
    (Node s.node ∷ Words (codes " hears that ") ∷ at (lost_of heard.gist) s ∷ Words (codes " is out of reach by ") ∷ Place heard.by
    ∷ Words (end_words s.ended) ∷ [])

abbrev pub broken_text : Heard → Scene → List ℕ
broken_text heard s = out_of_reach_text heard s ++ passes_on_text s

-- # Joining messages on their way

abbrev pub way_words : Detail → List ℕ
way_words details.Up = codes "up to the coordinator"
way_words _ = codes "down to the meter"

abbrev pub carried_first_text : RecordedFlight → Detail → Scene → List ℕ
carried_first_text first detail s =
    if is_request first.kind
    then with_flights
    (Node s.node ∷ Words (codes " has no route to the coordinator: the message waits, and a route request goes out") ∷ []) s
    else with_flights (Node s.node ∷ Words (codes " carries the message ") ∷ Words (way_words detail) ∷ []) s

abbrev pub carried_by : Option RecordedFlight → Detail → Scene → List ℕ
carried_by None detail s = parts_text (Node s.node ∷ Words (codes " has no route to the coordinator: the message waits") ∷ [])
carried_by (Some first) detail s = carried_first_text first detail s

abbrev pub carried_text : List RecordedFlight → Detail → Scene → List ℕ
carried_text flights detail s = carried_by (slice_get flights 0) detail s

-- # Each answer

abbrev pub taken_text : Answer → Heard → Scene → List ℕ
taken_text answers.Up heard s = deed_text s.node (handed_up s.recorded.up)
taken_text answers.Held heard s = held_text s.node heard.more.detail
taken_text answers.Relayed heard s = relayed_text heard.gist s
taken_text answers.Answered heard s = answered_text heard.gist heard s
taken_text answers.Learned heard s = learned_text heard.gist s
taken_text answers.Reported heard s = reported_text (first_gist s.flights) s
taken_text answers.Broken heard s = broken_text heard s
taken_text answers.Carried heard s = carried_text s.flights heard.more.detail s
taken_text a heard s = further_text a heard s
