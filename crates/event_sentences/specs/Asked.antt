-- What came of an event that somebody asked for, and that was answered ok, in words.
use Rattle.std.specs.Prelude.{ℕ, ◌==◌, nat_le, List, [], ◌∷◌, length, codes, Option, None, Some, if◌then◌else◌}
use Rattle.plc_base.specs.declared.limits.TheConstants.{GREATEST_COUNTER}
use Rattle.line_events.specs.declared.event.Answer.{Answer}
use Rattle.line_events.specs.declared.event.Answer.TheVariants as answers
use Rattle.line_script.specs.AnswerWords.{answer_word}
use Rattle.line_record.specs.declared.act.Act.{Act}
use Rattle.line_record.specs.declared.act.Act.TheVariants as acts
use Rattle.sentence_parts.specs.declared.part.Part.TheVariants.{Words, Number, Node, Place, Short}
use Rattle.sentence_parts.specs.Parts.{parts_text}
use Rattle.event_sentences.specs.declared.flights.Meant.TheVariants as meants
use Rattle.event_sentences.specs.Scenes.{Scene, named, target, with_flights}

-- # Sends

abbrev pub sent_at_once_text : Scene → List ℕ
sent_at_once_text s =
    parts_text
    (Node s.node ∷ Words (codes " has a route and sends ") ∷ Words (named meants.All s) ∷ Words (codes " to ") ∷ Place (target meants.All s) ∷ [])

abbrev pub waits_first_text : ℕ → Scene → List ℕ
waits_first_text to s =
    with_flights
    (Node s.node ∷ Words (codes " has no route to ") ∷ Node to ∷ Words (codes ": the datagram waits, and a route request goes to all") ∷ []) s

abbrev pub waits_text : ℕ → Scene → List ℕ
waits_text to s =
    if length s.flights == 0
    then parts_text
    (Node s.node ∷ Words (codes " has no route to ") ∷ Node to ∷ Words (codes ": the datagram waits with what waited before") ∷ [])
    else waits_first_text to s

abbrev pub sent_text : Answer → ℕ → Scene → List ℕ
sent_text answers.Sent to s = sent_at_once_text s
sent_text _ to s = waits_text to s

-- # Joinings and keys

abbrev pub address_or_0 : Option ℕ → ℕ
address_or_0 None = 0
address_or_0 (Some address) = address

-- a meter that may join, with the address that it has from now
abbrev pub allowed_text : ℕ → Option ℕ → List ℕ
allowed_text meter address = parts_text (Node meter ∷ Words (codes " may join, and has address ") ∷ Short (address_or_0 address) ∷ [])

abbrev pub challenged_text : ℕ → Scene → List ℕ
challenged_text meter s =
    if length s.flights == 0 then parts_text (Words (codes "the coordinator opens a session with ") ∷ Node meter ∷ [])
    else parts_text (Words (codes "the coordinator opens a session with ") ∷ Node meter ∷ Words (codes ": ") ∷ Words (named meants.All s) ∷ [])

abbrev pub tells_to_seal_text : ℕ → ℕ → Scene → List ℕ
tells_to_seal_text meter index s =
    with_flights (Words (codes "the coordinator tells ") ∷ Node meter ∷ Words (codes " to seal with key ") ∷ Number index ∷ []) s

abbrev pub activated_text : ℕ → ℕ → Scene → List ℕ
activated_text meter index s =
    if meter == 0 then parts_text (Words (codes "the coordinator seals with key ") ∷ Number index ∷ Words (codes " from now") ∷ [])
    else tells_to_seal_text meter index s

-- a meter is shut out, and no command says so to it: the coordinator has no counter left, or no route to it
abbrev pub kicked_silently_text : ℕ → Scene → List ℕ
kicked_silently_text meter s =
    if nat_le GREATEST_COUNTER s.shown.next_counter
    then parts_text (Node meter ∷ Words (codes " is shut out; no counter is left, so it is not told") ∷ [])
    else parts_text (Node meter ∷ Words (codes " is shut out; no route to it, so it is not told") ∷ [])

abbrev pub kicked_text : ℕ → Scene → List ℕ
kicked_text meter s =
    if length s.flights == 0 then kicked_silently_text meter s
    else parts_text (Node meter ∷ Words (codes " is shut out; ") ∷ Words (named meants.All s) ∷ Words (codes " tells it") ∷ [])

abbrev pub asks_to_join_text : ℕ → Scene → List ℕ
asks_to_join_text agent s = with_flights (Node s.node ∷ Words (codes " asks ") ∷ Node agent ∷ Words (codes " to join") ∷ []) s

-- # Each event

abbrev pub chooses_text : ℕ → Scene → List ℕ
chooses_text k s = with_flights (Node s.node ∷ Words (codes " asks the agent of rank ") ∷ Number k ∷ Words (codes " to join") ∷ []) s

abbrev pub asked_further_text : Act → Scene → List ℕ
asked_further_text (acts.Bcast node octets) s = with_flights (Node s.node ∷ Words (codes " sends a datagram to all") ∷ []) s
asked_further_text (acts.Scan node) s = with_flights (Node s.node ∷ Words (codes " looks for agents") ∷ []) s
asked_further_text (acts.Choose node k) s = chooses_text k s
asked_further_text (acts.Path from to) s = with_flights (Node s.node ∷ Words (codes " asks for the way to ") ∷ Node to ∷ []) s
asked_further_text _ s = parts_text (Words (answer_word s.recorded.answer) ∷ [])

abbrev pub ordered_text : Act → Scene → List ℕ
ordered_text (acts.Challenge node) s = challenged_text node s
ordered_text (acts.Activate node index) s = activated_text node index s
ordered_text (acts.Kick node) s = kicked_text node s
ordered_text act s = asked_further_text act s

abbrev pub asked_text : Act → Scene → List ℕ
asked_text (acts.Send from to octets) s = sent_text s.recorded.answer to s
asked_text (acts.Allow node) s = allowed_text node s.recorded.address
asked_text (acts.RandomOctets node) s = parts_text (Node s.node ∷ Words (codes " has one more random value") ∷ [])
asked_text (acts.Join node agent) s = asks_to_join_text agent s
asked_text (acts.Leave node) s = parts_text (Node s.node ∷ Words (codes " forgets its address and keys") ∷ [])
asked_text (acts.Lose flight) s = parts_text (Words (codes "flight ") ∷ Number flight ∷ Words (codes " is lost") ∷ [])
asked_text act s = ordered_text act s
