-- What a node did with a joining message or a frame of further reach that it took, in words.
use Rattle.std.specs.Prelude.{ℕ, ◌==◌, List, [], ◌∷◌, codes, Option, None, Some, if◌then◌else◌}
use Rattle.plc_base.specs.declared.address.Eui.{Eui}
use Rattle.line_events.specs.declared.event.Answer.{Answer}
use Rattle.line_events.specs.declared.event.Answer.TheVariants as answers
use Rattle.line_script.specs.AnswerWords.{answer_word}
use Rattle.frame_facts.specs.declared.detail.Detail.{Detail}
use Rattle.frame_facts.specs.declared.detail.Detail.TheVariants as details
use Rattle.frame_facts.specs.declared.gist.Gist.{Gist}
use Rattle.frame_facts.specs.declared.gist.Gist.TheVariants as gists
use Rattle.sentence_parts.specs.declared.part.Part.{Part}
use Rattle.sentence_parts.specs.declared.part.Part.TheVariants.{Words, Number, Node, Place, Short}
use Rattle.sentence_parts.specs.Parts.{parts_text}
use Rattle.sentence_parts.specs.Whos.{node_with}
use Rattle.event_sentences.specs.declared.heard.Heard.{Heard}
use Rattle.event_sentences.specs.Scenes.{Scene, with_flights}

-- # Joinings

-- the index of an order to seal
abbrev pub ordered_index : Detail → ℕ
ordered_index (details.Activate index) = index
ordered_index _ = 0

abbrev pub meter_or : Option ℕ → Part
meter_or None = Words (codes "the meter")
meter_or (Some meter) = Node meter

abbrev pub device_part : Eui → List Eui → Part
device_part eui euis = meter_or (node_with eui euis)

-- the meter that a joining message is about
abbrev pub meter_part : Gist → List Eui → Part
meter_part (gists.Joins eui) euis = device_part eui euis
meter_part _ euis = Words (codes "the meter")

abbrev pub took_address_text : ℕ → Scene → List ℕ
took_address_text address s =
    with_flights
    (Node s.node ∷ Words (codes " takes its address ") ∷ Short address ∷ Words (codes " and keys, and sends message 4") ∷ []) s

abbrev pub took_text : Option ℕ → Scene → List ℕ
took_text None s = with_flights (Node s.node ∷ Words (codes " takes its address and keys, and sends message 4") ∷ []) s
took_text (Some address) s = took_address_text address s

abbrev pub declined_text : Scene → List ℕ
declined_text s =
    if s.node == 0 then with_flights (Words (codes "the coordinator does not allow this meter, and declines") ∷ []) s
    else parts_text (Node s.node ∷ Words (codes " is declined; its joining is over") ∷ [])

-- a node that seals with another key
abbrev pub seals_text : ℕ → Detail → List ℕ
seals_text node detail =
    parts_text (Node node ∷ Words (codes " seals with key ") ∷ Number (ordered_index detail) ∷ Words (codes " from now") ∷ [])

abbrev pub challenged_by_text : Heard → Scene → List ℕ
challenged_by_text heard s =
    with_flights
    (Words (codes "the coordinator opens a session with ") ∷ meter_part heard.gist s.euis ∷ Words (codes ": EAP-PSK message 1") ∷ []) s

abbrev pub keyed_text : Heard → Scene → List ℕ
keyed_text heard s =
    with_flights
    (Words (codes "the coordinator finds message 2 right: message 3 carries address and keys of ") ∷ meter_part heard.gist s.euis ∷ []) s

abbrev pub joining_done_text : Heard → Scene → List ℕ
joining_done_text heard s =
    with_flights
    (Words (codes "the coordinator finds message 4 right: the joining of ") ∷ meter_part heard.gist s.euis ∷ Words (codes " is done") ∷ []) s

abbrev pub joining_text : Answer → Heard → Scene → List ℕ
joining_text answers.Challenged heard s = challenged_by_text heard s
joining_text answers.Replied heard s = with_flights (Node s.node ∷ Words (codes " answers with message 2") ∷ []) s
joining_text answers.Keyed heard s = keyed_text heard s
joining_text answers.Took heard s = took_text s.shown.address s
joining_text answers.Done heard s = joining_done_text heard s
joining_text answers.Noted heard s = with_flights (Node s.node ∷ Words (codes " takes note that it is accepted") ∷ []) s
joining_text answers.Declined heard s = declined_text s
joining_text answers.Left heard s =
    parts_text (Node s.node ∷ Words (codes " hears that it is shut out: it forgets its address and keys") ∷ [])
joining_text answers.Activated heard s = seals_text s.node heard.more.detail
joining_text a heard s = parts_text (Words (answer_word a) ∷ [])

-- # Further reach

abbrev pub acked_text : ℕ → Heard → List ℕ
acked_text node heard = parts_text (Node node ∷ Words (codes " hears that ") ∷ Place heard.by ∷ Words (codes " has its reply") ∷ [])

abbrev pub way_is_known_text : ℕ → List ℕ
way_is_known_text node = parts_text (Node node ∷ Words (codes " has the answer: the way is known") ∷ [])

abbrev pub further_text : Answer → Heard → Scene → List ℕ
further_text answers.Acked heard s = acked_text s.node heard
further_text answers.Bup heard s = with_flights (Node s.node ∷ Words (codes " hands up the broadcast and passes it on") ∷ []) s
further_text answers.Beacon heard s = with_flights (Node s.node ∷ Words (codes " answers with a beacon") ∷ []) s
further_text answers.Beaconed heard s = parts_text (Node s.node ∷ Words (codes " takes note of the beacon") ∷ [])
further_text answers.Path heard s = way_is_known_text s.node
further_text a heard s = joining_text a heard s
