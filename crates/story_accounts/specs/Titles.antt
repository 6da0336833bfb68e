-- What a story is about, in words.
use Rattle.std.specs.Prelude.{ℕ, ◌==◌, List, [], ◌∷◌, ◌++◌, codes, drop, length, slice_get, Option, None, Some, if◌then◌else◌}
use Rattle.std.specs.Str.{chars}
use Rattle.std.specs.Char.{to_ascii_uppercase}
use Rattle.std.specs.Prelude.{encode_utf8}
use Rattle.line_record.specs.declared.act.Act.{Act}
use Rattle.line_record.specs.declared.act.Act.TheVariants as acts
use Rattle.line_record.specs.declared.recorded.RecordedEvent.{RecordedEvent}
use Rattle.line_record.specs.declared.story.Story.{Story}
use Rattle.line_record.specs.RunRecords.{numbered}
use Rattle.sentence_parts.specs.declared.part.Part.TheVariants.{Words, Number, Node}
use Rattle.sentence_parts.specs.Parts.{parts_text}
use Rattle.story_accounts.specs.Indexes.{send_at}
use Rattle.story_accounts.specs.Accounts.{RunAccount}

abbrev pub octets_word : ℕ → List ℕ
octets_word count = if count == 1 then codes " octet" else codes " octets"

abbrev pub send_text : ℕ → List ℕ
send_text send = if send == 0 then codes "send, refused" else parts_text (Words (codes "send ") ∷ Number send ∷ [])

abbrev pub datagram_by : List ℕ → ℕ → ℕ → ℕ → List ℕ → List ℕ
datagram_by send from to size unit =
    parts_text
    (Words send ∷ Words (codes ": ") ∷ Node from ∷ Words (codes " to ") ∷ Node to ∷ Words (codes ", ") ∷ Number size ∷ Words unit ∷ [])

unfoldable pub datagram_title : ℕ → ℕ → ℕ → ℕ → List ℕ
datagram_title send from to size = datagram_by (send_text send) from to size (octets_word size)

-- a node, some words and another node
abbrev pub two_nodes : ℕ → List ℕ → ℕ → List ℕ
two_nodes a between b = parts_text (Node a ∷ Words between ∷ Node b ∷ [])

-- a node, some words and a number
abbrev pub with_number : ℕ → List ℕ → ℕ → List ℕ
with_number a between n = parts_text (Node a ∷ Words between ∷ Number n ∷ [])

-- some words, a node and other words
abbrev pub with_node : List ℕ → ℕ → List ℕ → List ℕ
with_node before a after = parts_text (Words before ∷ Node a ∷ Words after ∷ [])

abbrev pub broadcast_title : ℕ → ℕ → List ℕ
broadcast_title from size = parts_text (Node from ∷ Words (codes " to all, ") ∷ Number size ∷ Words (octets_word size) ∷ [])

-- what a story is about that begins with an event, by the number of its send
abbrev pub title_by : Act → ℕ → List ℕ
title_by (acts.Send from to size) send = datagram_title send from to size
title_by (acts.Join meter agent) send = two_nodes meter (codes " joins at ") agent
title_by (acts.Choose meter k) send = with_number meter (codes " joins at the agent of rank ") k
title_by (acts.Challenge meter) send = with_node (codes "the coordinator gives ") meter (codes " its keys")
title_by (acts.Activate meter index) send = with_number meter (codes " is ordered to seal with key ") index
title_by (acts.Kick meter) send = with_node [] meter (codes " is to be shut out")
title_by (acts.Inject node cost size) send = with_node (codes "injected octets come to ") node []
title_by (acts.Bcast node size) send = broadcast_title node size
title_by (acts.Path from to) send = two_nodes from (codes " asks for the way to ") to
title_by _ send = []

abbrev pub title_of : Option RecordedEvent → ℕ → List ℕ
title_of None send = []
title_of (Some e) send = title_by e.act send

-- what a story is about, by the event that it begins with
unfoldable pub title : RunAccount → ℕ → Story → List ℕ
title a number story = title_of (numbered a.events story.first) (send_at a.index number)

-- # Sentences

abbrev pub capital_by : Option ℕ → List ℕ → List ℕ
capital_by None text = []
capital_by (Some c) text = encode_utf8 (to_ascii_uppercase c) ++ drop (length (encode_utf8 c)) text

-- a text whose first character is a capital
unfoldable pub capital : List ℕ → List ℕ
capital text = capital_by (slice_get (chars text) 0) text
