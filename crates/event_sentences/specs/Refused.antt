-- Why a frame or an order was refused, in words.
use Rattle.std.specs.Prelude.{ℕ, ◌+◌, ◌==◌, Bool, false, List, [], ◌∷◌, codes, is_some, Option, None, Some, if◌then◌else◌}
use Rattle.std.specs.Str.{bytes_eq}
use Rattle.plc_base.specs.declared.key.Key.{Key}
use Rattle.node_rules.specs.declared.shown.ShownRoute.{ShownRoute}
use Rattle.line_events.specs.declared.event.Answer.{Answer}
use Rattle.line_events.specs.declared.event.Answer.TheVariants as answers
use Rattle.line_record.specs.declared.act.Act.{Act}
use Rattle.line_record.specs.declared.act.Act.TheVariants as acts
use Rattle.frame_facts.specs.declared.detail.Detail.{Detail}
use Rattle.frame_facts.specs.declared.detail.Detail.TheVariants as details
use Rattle.frame_facts.specs.declared.gist.Gist.{Gist}
use Rattle.frame_facts.specs.declared.gist.Gist.TheVariants as gists
use Rattle.frame_facts.specs.Kinds.{kind_word}
use Rattle.sentence_parts.specs.declared.part.Part.TheVariants.{Words, Number, Node, Short}
use Rattle.sentence_parts.specs.Parts.{parts_text}
use Rattle.event_sentences.specs.declared.heard.Heard.{Heard}
use Rattle.event_sentences.specs.Reasons.{held_keys, plain_reason, plain_refusal}
use Rattle.event_sentences.specs.Replayed.{replayed_text}
use Rattle.event_sentences.specs.Scenes.{Scene, at, route}

-- # Keys

-- the node that is no longer the one, or not yet, that a frame is for; an address where the frame goes to one
abbrev pub not_for_me_text : ℕ → Option ℕ → List ℕ
not_for_me_text node (Some address) =
    parts_text (Node node ∷ Words (codes " does not take it: it has no address any more, and the frame goes to ") ∷ Short address ∷ [])
not_for_me_text node None = parts_text (Node node ∷ Words (codes " does not take it: it is joined, and the frame goes to its EUI") ∷ [])

-- a node that holds no key at the index of a frame
abbrev pub no_key_text : ℕ → Scene → List ℕ
no_key_text index s =
    parts_text
    (Node s.node ∷ Words (codes " holds no key at index ") ∷ Number index
    ∷ Words (held_keys (is_some s.shown.key0) (is_some s.shown.key1)) ∷ [])

abbrev pub is_same : List ℕ → List ℕ → Bool
is_same held key = bytes_eq held key

abbrev pub is_key : Option Key → Key → Bool
is_key None key = false
is_key (Some held) key = is_same held.0 key.0

abbrev pub holds : ℕ → Key → Scene → Bool
holds index key s = if index == 0 then is_key s.shown.key0 key else is_key s.shown.key1 key

abbrev pub other_key : ℕ → Key → Scene → List ℕ
other_key index key s =
    if holds index key s then codes "" else codes ": it holds another key there than the one that sealed the frame"

abbrev pub wrong_key : ℕ → Option Key → Scene → List ℕ
wrong_key index None s = codes ", and no key of the script opens the frame: its octets were changed or forged"
wrong_key index (Some key) s = other_key index key s

abbrev pub bad_tag_text : Heard → Scene → List ℕ
bad_tag_text heard s =
    parts_text
    (Node s.node ∷ Words (codes " finds the tag wrong under its key at index ") ∷ Number heard.more.index
    ∷ Words (wrong_key heard.more.index heard.key s) ∷ [])

-- # Ranks

-- the origin of a request or a reply
abbrev pub origin_of : Gist → ℕ
origin_of (gists.Seeks origin sought cost) = origin
origin_of (gists.Replies origin to) = origin
origin_of _ = 0

abbrev pub is_own : Option ℕ → ℕ → Bool
is_own None origin = false
is_own (Some address) origin = address == origin

abbrev pub number_of : Detail → ℕ
number_of (details.Route number cost) = number
number_of _ = 0

abbrev pub cost_of : Detail → ℕ
cost_of (details.Route number cost) = cost
cost_of _ = 0

-- the cost of the link over which a frame came
abbrev pub link_cost : Act → ℕ
link_cost (acts.Deliver flight node cost) = cost
link_cost (acts.Inject node cost octets) = cost
link_cost _ = 0

abbrev pub kept_by_text : Option ℕ → Scene → List ℕ
kept_by_text None s = parts_text (Words (codes ", broken: no better") ∷ [])
kept_by_text (Some next) s = parts_text (Words (codes " by ") ∷ at next s ∷ Words (codes ": no better") ∷ [])

abbrev pub kept_rank_text : ShownRoute → Scene → List ℕ
kept_rank_text kept s =
    parts_text
    (Words (codes ", and has number ") ∷ Number kept.number ∷ Words (codes " at cost ") ∷ Number kept.cost ∷ Words (kept_by_text kept.next s) ∷ [])

abbrev pub kept_or : Option ShownRoute → Scene → List ℕ
kept_or None s = parts_text (Words (codes ": no better than what it knows") ∷ [])
kept_or (Some kept) s = kept_rank_text kept s

-- the rank that is kept of an origin
abbrev pub kept_text : ℕ → Scene → List ℕ
kept_text origin s = kept_or (route origin s) s

-- the rank that a request or a reply offers, and the one that is kept
abbrev pub would_reach_text : ℕ → Detail → Scene → List ℕ
would_reach_text origin detail s =
    parts_text
    (Node s.node ∷ Words (codes " would reach ") ∷ at origin s ∷ Words (codes " with number ") ∷ Number (number_of detail)
    ∷ Words (codes " at cost ") ∷ Number (cost_of detail + link_cost s.recorded.act) ∷ Words (kept_text origin s) ∷ [])

abbrev pub not_better_text : Heard → Scene → List ℕ
not_better_text heard s =
    if is_own s.shown.address (origin_of heard.gist)
    then parts_text (Node s.node ∷ Words (codes " hears its own ") ∷ Words (kind_word heard.kind) ∷ Words (codes " again") ∷ [])
    else would_reach_text (origin_of heard.gist) heard.more.detail s

abbrev pub no_route_text : Gist → Scene → List ℕ
no_route_text (gists.Replies origin to) s =
    parts_text (Node s.node ∷ Words (codes " has no way back to ") ∷ at to s ∷ Words (codes " for this reply") ∷ [])
no_route_text _ s = parts_text (Node s.node ∷ Words (codes " has no route for it") ∷ [])

-- # Each answer

abbrev pub no_random_text : ℕ → List ℕ
no_random_text node =
    parts_text (Node node ∷ Words (codes " refuses: no random value is held: `rand ") ∷ Number node ∷ Words (codes "` is missing") ∷ [])

abbrev pub refused_plainly_text : Answer → ℕ → List ℕ
refused_plainly_text answers.Malformed node = parts_text (Node node ∷ Words (codes ": no frame") ∷ [])
refused_plainly_text answers.Halted node = parts_text (Node node ∷ Words (codes " is halted and hears nothing") ∷ [])
refused_plainly_text answers.Store node =
    parts_text (Node node ∷ Words (codes " loses power in a write to its store: it halts, and nothing goes out") ∷ [])
refused_plainly_text answers.NoRandom node = no_random_text node
refused_plainly_text a node = parts_text (Node node ∷ Words (codes " refuses: ") ∷ Words (plain_reason a) ∷ [])

abbrev pub refused_frame_text : Answer → Heard → Scene → List ℕ
refused_frame_text answers.NotForMe heard s = not_for_me_text s.node heard.to_address
refused_frame_text answers.NoKey heard s = no_key_text heard.more.index s
refused_frame_text answers.BadTag heard s = bad_tag_text heard s
refused_frame_text answers.Replayed heard s = replayed_text heard s
refused_frame_text answers.NotBetter heard s = not_better_text heard s
refused_frame_text answers.NoRoute heard s = no_route_text heard.gist s
refused_frame_text a heard s = refused_plainly_text a s.node

-- # Orders

-- the node that a refused send, or another event with two nodes, is for
abbrev pub second_node : Act → Option ℕ
second_node (acts.Send from to octets) = Some to
second_node (acts.Join node agent) = Some agent
second_node (acts.Break node next) = Some next
second_node (acts.Path from to) = Some to
second_node _ = None

abbrev pub no_address_text : Option ℕ → List ℕ
no_address_text None = parts_text (Words (codes "refused: ") ∷ Words (codes "no address") ∷ [])
no_address_text (Some to) = parts_text (Words (codes "refused: ") ∷ Node to ∷ Words (codes " is halted or not joined") ∷ [])

abbrev pub refused_order_text : Answer → Scene → List ℕ
refused_order_text answers.NoAddress s = no_address_text (second_node s.recorded.act)
refused_order_text answers.NotJoined s = parts_text (Words (codes "refused: ") ∷ Node s.node ∷ Words (codes " is not joined") ∷ [])
refused_order_text answers.Halted s = parts_text (Words (codes "refused: ") ∷ Node s.node ∷ Words (codes " is halted") ∷ [])
refused_order_text answers.AlreadyJoined s =
    parts_text (Words (codes "refused: ") ∷ Node s.node ∷ Words (codes " has an address already") ∷ [])
refused_order_text answers.Store s = parts_text (Words (codes "refused: ") ∷ Node s.node ∷ Words (codes " loses power in a write: it halts") ∷ [])
refused_order_text a s = parts_text (Words (codes "refused: ") ∷ Words (plain_refusal a) ∷ [])
