-- The lines of a report: each but a flight's is kept in a quiet report.
use Rattle.std.proofs.Common.{◌≡◌, ℕ, ◌+◌, ◌<◌, ◌==◌, Bool, true, false, not, List, [], ◌∷◌, ◌++◌, codes, Option, Some, None, if◌then◌else◌, refl, sym, ◌∙◌, ap}
use Rattle.std.proofs.Common.{append_assoc, arith}
use Rattle.std.specs.Fmt.{decimal}
use Rattle.std.proofs.lemmas.Bool.{ne_eqb}
use Rattle.hex.specs.Hex.{encode_lower}
use Rattle.byteorder.specs.Endian.{big_bytes}
use Rattle.plc_base.specs.declared.key.Key.{Key}
use Rattle.node_rules.specs.declared.shown.Shown.{Shown}
use Rattle.node_rules.specs.declared.shown.ShownRoute.{ShownRoute}
use Rattle.node_rules.specs.declared.shown.ShownPeer.{ShownPeer}
use Rattle.line_events.specs.declared.event.Event.{Event}
use Rattle.line_events.specs.declared.event.Event.TheVariants as events
use Rattle.line_events.specs.declared.event.Answer.{Answer}
use Rattle.line_events.specs.declared.happenings.Handed.{Handed}
use Rattle.line_events.specs.declared.happenings.BroadcastUp.{BroadcastUp}
use Rattle.line_events.specs.declared.happenings.AgentLine.{AgentLine}
use Rattle.line_events.specs.declared.happenings.PathLine.{PathLine}
use Rattle.line_events.specs.declared.happenings.Admission.{Admission}
use Rattle.line_events.specs.declared.happenings.Happenings.{Happenings}
use Rattle.line_script.specs.declared.report.Reason.{Reason}
use Rattle.line_script.specs.declared.report.Reason.TheVariants as reasons
use Rattle.line_script.specs.declared.report.Totals.{Totals}
use Rattle.line_script.specs.AnswerWords.{answer_word, verdict_word}
use Rattle.line_script.specs.NodeTexts.{address_word, index_word, next_word, head_text, key_text, route_text, routes_text, floor_text, floors_text, peer_text}
use Rattle.line_script.specs.NodeTexts.{peers_text, running_text, node_text}
use Rattle.line_script.specs.Texts.{answer_text, forged_text, up_text, bup_text, agent_text, walk_text, path_text, further_text, grant_text, took_text}
use Rattle.line_script.specs.Texts.{done_text, shown_text, details_text, happened_text, fly_text, reason_word, bad_text, end_text}
use Rattle.line_replay.specs.Replay.{is_fly, rest_without, without_flights}
use Rattle.line_replay.proofs.Inside.{IsInside, is_inside, inside, joined, decimal_has, decimal_inside, hex_inside}
use Rattle.line_replay.proofs.AnswerLines.{answer_inside, verdict_inside}

-- ---- whole lines

-- A text of whole lines that are kept.
pub record IsKept (text : List ℕ) : Type 0 where
  pub kept : (rest : List ℕ) → without_flights (text ++ rest) ≡ text ++ without_flights rest

-- A text of whole lines that are left out.
pub record IsLeftOut (text : List ℕ) : Type 0 where
  pub left_out : (rest : List ℕ) → without_flights (text ++ rest) ≡ without_flights rest

pub none_kept : IsKept []
none_kept = record { kept = λ rest. refl }

pub kept_then : (a : List ℕ) {b : List ℕ} → IsKept a → IsKept b → IsKept (a ++ b)
kept_then a {b} ka kb = record {
  kept = λ rest.
      ap without_flights (append_assoc a b rest) ∙ ka.kept (b ++ rest) ∙ ap (λ l. a ++ l) (kb.kept rest) ∙ sym (append_assoc a b (without_flights rest));
}

-- ---- one line

-- The rest of one line, with its line feed.
record IsLineRest (text : List ℕ) : Type 0 where
  kept : (rest : List ℕ) → rest_without true (text ++ rest) ≡ text ++ without_flights rest
  left_out : (rest : List ℕ) → rest_without false (text ++ rest) ≡ without_flights rest

line_feed : IsLineRest (codes "\n")
line_feed = record { kept = λ rest. refl; left_out = λ rest. refl }

after_octet : (c : ℕ) (t : List ℕ) → (c == 10) ≡ false → IsLineRest t → IsLineRest (c ∷ t)
after_octet c t is line = record {
  kept = λ rest. rw is (ap (λ (l : List ℕ). c ∷ l) (line.kept rest));
  left_out = λ rest. rw is (line.left_out rest);
}

after_inside : (a : List ℕ) {t : List ℕ} → IsInside a → IsLineRest t → IsLineRest (a ++ t)
after_inside [] is line = line
after_inside (c ∷ cs) {t} is line = after_octet c (cs ++ t) is.0 (after_inside cs is.1 line)

after_word : (a : List ℕ) {t : List ℕ} → is_inside a ≡ true → IsLineRest t → IsLineRest (a ++ t)
after_word a is line = after_inside a (inside a is) line

after_number : (n : ℕ) {t : List ℕ} → IsLineRest t → IsLineRest (decimal n ++ t)
after_number n line = after_inside (decimal n) (decimal_inside n) line

after_hex : (octets : List ℕ) {t : List ℕ} → IsLineRest t → IsLineRest (encode_lower octets ++ t)
after_hex octets line = after_inside (encode_lower octets) (hex_inside octets) line

-- a line that does not begin as that of a flight is kept, one that does is left out
kept_line : (text : List ℕ) → ((rest : List ℕ) → is_fly (text ++ rest) ≡ false) → IsLineRest text → IsKept text
kept_line text other line = record { kept = λ rest. ap (λ b. rest_without (not b) (text ++ rest)) (other rest) ∙ line.kept rest }

left_out_line : (text : List ℕ) → ((rest : List ℕ) → is_fly (text ++ rest) ≡ true) → IsLineRest text → IsLeftOut text
left_out_line text fly line = record { left_out = λ rest. ap (λ b. rest_without (not b) (text ++ rest)) (fly rest) ∙ line.left_out rest }

-- ---- the lines of an event

digit_first : (d : ℕ) (acc : List ℕ) → d < 10 → (rest : List ℕ) → is_fly (((48 + d) ∷ acc) ++ rest) ≡ false
digit_first d acc digit rest = rw (ne_eqb 102 (48 + d) (λ e. omega (arith, e))) refl

-- a number in decimal begins with a digit
number_first : (n : ℕ) (t rest : List ℕ) → is_fly ((decimal n ++ t) ++ rest) ≡ false
number_first n t rest =
    rw (append_assoc (decimal n) t rest) (decimal_has (λ ds. (rest : List ℕ) → is_fly (ds ++ rest) ≡ false)
    (λ d acc digit is. digit_first d acc digit) (λ d digit. digit_first d [] digit) n (t ++ rest))

answer_kept : (number : ℕ) (answer : Answer) → IsKept (answer_text number answer)
unfolding answer_text
answer_kept number answer =
    kept_line _ (number_first number _) (after_number number (after_word (codes " ") refl
    (after_word (verdict_word answer) (verdict_inside answer) (after_word (codes " ") refl
    (after_word (answer_word answer) (answer_inside answer) line_feed)))))

forged_kept : (number : ℕ) (forged : Bool) → IsKept (forged_text number forged)
unfolding forged_text
forged_kept number true = kept_line _ (λ rest. refl) (after_word (codes "forged ") refl (after_number number line_feed))
forged_kept number false = none_kept

up_kept : (up : Option Handed) → IsKept (up_text up)
unfolding up_text
up_kept None = none_kept
up_kept (Some up) =
    kept_line _ (λ rest. refl) (after_word (codes "up ") refl (after_number up.node (after_word (codes " ") refl
    (after_number up.note (after_word (codes " ") refl (after_hex up.octets line_feed))))))

bup_kept : (up : Option BroadcastUp) → IsKept (bup_text up)
unfolding bup_text
bup_kept None = none_kept
bup_kept (Some up) =
    kept_line _ (λ rest. refl) (after_word (codes "bup ") refl (after_number up.node (after_word (codes " ") refl
    (after_hex (big_bytes 2 up.origin) (after_word (codes " ") refl
    (after_number up.number (after_word (codes " ") refl (after_hex up.octets line_feed))))))))

agent_kept : (agent : Option AgentLine) → IsKept (agent_text agent)
unfolding agent_text
agent_kept None = none_kept
agent_kept (Some agent) =
    kept_line _ (λ rest. refl) (after_word (codes "agent ") refl (after_number agent.node (after_word (codes " ") refl
    (after_hex (big_bytes 2 agent.address) (after_word (codes " ") refl (after_number agent.total line_feed))))))

walk_inside : (walk : List ℕ) → IsInside (walk_text walk)
walk_inside [] = tt
walk_inside (address ∷ walk) =
    joined (codes " ") (encode_lower (big_bytes 2 address) ++ walk_text walk) (inside (codes " ") refl)
    (joined (encode_lower (big_bytes 2 address)) (walk_text walk) (hex_inside (big_bytes 2 address)) (walk_inside walk))

path_kept : (path : Option PathLine) → IsKept (path_text path)
unfolding path_text
path_kept None = none_kept
path_kept (Some path) =
    kept_line _ (λ rest. refl) (after_word (codes "path ") refl (after_number path.node
    (after_inside (walk_text path.walk) (walk_inside path.walk) line_feed)))

further_kept : (happenings : Happenings) → IsKept (further_text happenings)
unfolding further_text
further_kept happenings =
    kept_then (bup_text happenings.bup) (bup_kept happenings.bup)
    (kept_then (agent_text happenings.agent) (agent_kept happenings.agent) (path_kept happenings.path))

grant_kept : (grant : Option Admission) → IsKept (grant_text grant)
unfolding grant_text
grant_kept None = none_kept
grant_kept (Some grant) =
    kept_line _ (λ rest. refl) (after_word (codes "grant ") refl (after_number grant.node (after_word (codes " ") refl
    (after_hex (big_bytes 2 grant.address) line_feed))))

took_kept : (took : Option ℕ) → IsKept (took_text took)
unfolding took_text
took_kept None = none_kept
took_kept (Some node) = kept_line _ (λ rest. refl) (after_word (codes "took ") refl (after_number node line_feed))

done_kept : (done : Option ℕ) → IsKept (done_text done)
unfolding done_text
done_kept None = none_kept
done_kept (Some node) = kept_line _ (λ rest. refl) (after_word (codes "done ") refl (after_number node line_feed))

-- ---- the lines of a node that is shown

address_inside : (address : Option ℕ) → IsInside (address_word address)
address_inside None = inside (codes "-") refl
address_inside (Some address) = hex_inside (big_bytes 2 address)

index_inside : (index : Option ℕ) → IsInside (index_word index)
index_inside None = inside (codes "-") refl
index_inside (Some index) = decimal_inside index

next_inside : (next : Option ℕ) → IsInside (next_word next)
next_inside None = inside (codes "-") refl
next_inside (Some next) = hex_inside (big_bytes 2 next)

head_kept : (node : ℕ) (shown : Shown) → IsKept (head_text node shown)
unfolding head_text
head_kept node shown =
    kept_line _ (λ rest. refl) (after_word (codes "node ") refl (after_number node (after_word (codes " ") refl
    (after_inside (address_word shown.address) (address_inside shown.address) (after_word (codes " ") refl
    (after_inside (index_word shown.active) (index_inside shown.active) (after_word (codes " ") refl
    (after_number shown.next_counter (after_word (codes " ") refl (after_number shown.last_number line_feed))))))))))

key_kept : (index : ℕ) (key : Option Key) → IsKept (key_text index key)
unfolding key_text
key_kept index None = none_kept
key_kept index (Some key) =
    kept_line _ (λ rest. refl) (after_word (codes "key ") refl (after_number index (after_word (codes " ") refl (after_hex key.0 line_feed))))

route_kept : (route : ShownRoute) → IsKept (route_text route)
unfolding route_text
route_kept route =
    kept_line _ (λ rest. refl) (after_word (codes "route ") refl (after_hex (big_bytes 2 route.dest) (after_word (codes " ") refl
    (after_number route.number (after_word (codes " ") refl (after_number route.cost (after_word (codes " ") refl
    (after_inside (next_word route.next) (next_inside route.next) line_feed))))))))

routes_kept : (routes : List ShownRoute) → IsKept (routes_text routes)
routes_kept [] = none_kept
routes_kept (route ∷ routes) = kept_then (route_text route) (route_kept route) (routes_kept routes)

floor_by : (class floor : ℕ) (b : Bool) → IsKept (if b then [] else codes "floor " ++ (decimal class ++ (codes " " ++ (decimal floor ++ codes "\n"))))
floor_by class floor true = none_kept
floor_by class floor false =
    kept_line _ (λ rest. refl) (after_word (codes "floor ") refl (after_number class (after_word (codes " ") refl (after_number floor line_feed))))

floor_kept : (class floor : ℕ) → IsKept (floor_text class floor)
unfolding floor_text
floor_kept class floor = floor_by class floor (floor == 0)

floors_kept : (class : ℕ) (floors : List ℕ) → IsKept (floors_text class floors)
floors_kept class [] = none_kept
floors_kept class (floor ∷ floors) = kept_then (floor_text class floor) (floor_kept class floor) (floors_kept (class + 1) floors)

peer_kept : (peer : ShownPeer) → IsKept (peer_text peer)
unfolding peer_text
peer_kept peer =
    kept_line _ (λ rest. refl) (after_word (codes "peer ") refl (after_hex (big_bytes 2 peer.from) (after_word (codes " ") refl
    (after_number peer.mark line_feed))))

peers_kept : (peers : List ShownPeer) → IsKept (peers_text peers)
peers_kept [] = none_kept
peers_kept (peer ∷ peers) = kept_then (peer_text peer) (peer_kept peer) (peers_kept peers)

running_kept : (node : ℕ) (shown : Shown) → IsKept (running_text node shown)
unfolding running_text
running_kept node shown =
    kept_then (head_text node shown) (head_kept node shown) (kept_then (key_text 0 shown.key0) (key_kept 0 shown.key0)
    (kept_then (key_text 1 shown.key1) (key_kept 1 shown.key1) (kept_then (routes_text shown.routes) (routes_kept shown.routes)
    (kept_then (floors_text 0 shown.floors) (floors_kept 0 shown.floors) (peers_kept shown.peers)))))

node_by : (node : ℕ) (shown : Shown) (b : Bool) → IsKept (if b then codes "node " ++ (decimal node ++ codes " halted\n") else running_text node shown)
node_by node shown true =
    kept_line _ (λ rest. refl) (after_word (codes "node ") refl (after_number node (after_word (codes " halted") refl line_feed)))
node_by node shown false = running_kept node shown

node_kept : (node : ℕ) (shown : Shown) → IsKept (node_text node shown)
unfolding node_text
node_kept node shown = node_by node shown shown.halted

shown_kept : (event : Event) (shown : Option Shown) → IsKept (shown_text event shown)
unfolding shown_text
shown_kept (events.Coordinator _ _) shown = none_kept
shown_kept (events.Meter _ _) shown = none_kept
shown_kept (events.Depot _) shown = none_kept
shown_kept (events.Near _ _ _) shown = none_kept
shown_kept (events.Counter _ _) shown = none_kept
shown_kept (events.Number _ _) shown = none_kept
shown_kept (events.Allow _) shown = none_kept
shown_kept (events.RandomOctets _ _) shown = none_kept
shown_kept (events.Join _ _) shown = none_kept
shown_kept (events.Leave _) shown = none_kept
shown_kept (events.Send _ _ _) shown = none_kept
shown_kept (events.Deliver _ _ _) shown = none_kept
shown_kept (events.Inject _ _ _) shown = none_kept
shown_kept (events.Lose _) shown = none_kept
shown_kept (events.Break _ _) shown = none_kept
shown_kept (events.Tick _) shown = none_kept
shown_kept (events.Restart _) shown = none_kept
shown_kept (events.Cut _ _ _) shown = none_kept
shown_kept (events.Rekey _ _) shown = none_kept
shown_kept (events.Challenge _) shown = none_kept
shown_kept (events.Activate _ _) shown = none_kept
shown_kept (events.Kick _) shown = none_kept
shown_kept (events.Show node) None = none_kept
shown_kept (events.Show node) (Some shown) = node_kept node shown
shown_kept events.Checks shown = none_kept
shown_kept (events.Bcast _ _) shown = none_kept
shown_kept (events.Scan _) shown = none_kept
shown_kept (events.Choose _ _) shown = none_kept
shown_kept (events.Path _ _) shown = none_kept

-- ---- all lines of an event

details_kept : (event : Event) (happenings : Happenings) → IsKept (details_text event happenings)
unfolding details_text
details_kept event happenings =
    kept_then (grant_text happenings.grant) (grant_kept happenings.grant) (kept_then (took_text happenings.took) (took_kept happenings.took)
    (kept_then (done_text happenings.done) (done_kept happenings.done) (shown_kept event happenings.shown)))

pub happened_kept : (number : ℕ) (event : Event) (happenings : Happenings) → IsKept (happened_text number event happenings)
unfolding happened_text
happened_kept number event happenings =
    kept_then (answer_text number happenings.answer) (answer_kept number happenings.answer)
    (kept_then (forged_text number happenings.forged) (forged_kept number happenings.forged)
    (kept_then (up_text happenings.up) (up_kept happenings.up) (kept_then (further_text happenings) (further_kept happenings) (details_kept event happenings))))

-- ---- the last line

reason_inside : (reason : Reason) → is_inside (reason_word reason) ≡ true
reason_inside reasons.Input = refl
reason_inside reasons.Long = refl
reason_inside reasons.Form = refl
reason_inside reasons.Events = refl
reason_inside reasons.Setup = refl
reason_inside reasons.Node = refl
reason_inside reasons.Flight = refl

pub bad_kept : (number : ℕ) (reason : Reason) → IsKept (bad_text number reason)
unfolding bad_text
bad_kept number reason =
    kept_line _ (λ rest. refl) (after_word (codes "bad ") refl (after_number number (after_word (codes " ") refl
    (after_word (reason_word reason) (reason_inside reason) line_feed))))

pub end_kept : (totals : Totals) → IsKept (end_text totals)
unfolding end_text
end_kept totals =
    kept_line _ (λ rest. refl) (after_word (codes "end ") refl (after_number totals.events (after_word (codes " ") refl
    (after_number totals.flights (after_word (codes " ") refl (after_number totals.sends (after_word (codes " ") refl
    (after_number totals.ups (after_word (codes " ") refl (after_number totals.forged line_feed))))))))))

-- ---- the line of a flight

pub fly_left_out : (number node : ℕ) (octets : List ℕ) → IsLeftOut (fly_text number node octets)
unfolding fly_text
fly_left_out number node octets =
    left_out_line _ (λ rest. refl) (after_word (codes "fly ") refl (after_number number (after_word (codes " ") refl
    (after_number node (after_word (codes " ") refl (after_hex octets line_feed))))))
