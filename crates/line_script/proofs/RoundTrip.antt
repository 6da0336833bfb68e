-- The line of each event is read as that event.
use Rattle.std.proofs.Common.{◌≡◌, ℕ, ◌<◌, ◌≤◌, Bool, true, false, List, length, Some, refl, ap, ◌∙◌, arith}
use Rattle.std.specs.Fmt.{decimal}
use Rattle.hex.specs.Hex.{encode_lower}
use Rattle.std.proofs.lemmas.Bool.{lt-ltb, le-ltb, le-leb, eq-eqb}
use Rattle.plc_base.specs.declared.address.Eui.{Eui}
use Rattle.plc_base.specs.declared.key.Key.{Key}
use Rattle.plc_base.specs.declared.key.RandomOctets.{RandomOctets}
use Rattle.line_events.specs.declared.event.Event.{Event}
use Rattle.line_events.specs.declared.event.Event.TheVariants.{Coordinator, Meter, Depot, Near, Counter, Number, Allow, RandomOctets as GiveRand, Join, Leave}
use Rattle.line_events.specs.declared.event.Event.TheVariants.{Send}
use Rattle.line_events.specs.declared.event.Event.TheVariants.{Deliver, Inject, Lose, Break, Tick, Restart, Cut, Rekey, Challenge, Activate, Kick, Show, Checks}
use Rattle.line_events.specs.declared.event.Event.TheVariants.{Bcast, Scan, Choose, Path}
use Rattle.line_events.specs.Events.{IsEvent, AreOctets, IsEui, IsLineOctets}
use Rattle.line_script.specs.declared.kind.EventKind.{EventKind}
use Rattle.line_script.specs.declared.kind.EventKind.TheVariants as kinds
use Rattle.line_script.specs.declared.reading.Reading.TheVariants.{Reads}
use Rattle.line_script.specs.Kinds.{kind_word, kind_named}
use Rattle.line_script.specs.Words.{field, number_within, cost, eui, sixteen_octets, hex_octets, keeps_new}
use Rattle.line_script.specs.LineReader.{coordinator_of, meter_of, depot_of, near_of, counter_of, number_of, allow_of, rand_of, join_of, leave_of, send_of}
use Rattle.line_script.specs.LineReader.{deliver_of, inject_of, lose_of, break_of, tick_of, restart_of, cut_of, rekey_of, challenge_of, activate_of, kick_of}
use Rattle.line_script.specs.LineReader.{show_of, bcast_of, scan_of, choose_of, path_of, event_by, event_alone, event_of, reads, reading}
use Rattle.line_script.specs.Lines.{spaced, kept_word}
use Rattle.line_script.specs.Laws.{LinesAreReadBack}
use Rattle.line_script.proofs.WordsRead.{IsWord, field_read, number_read, decimal_word, hex_word, octets_read, digits_long}

-- # Words

within_read : (low high n : ℕ) → n < 4294967296 → low ≤ n → n ≤ high → number_within low high (decimal n) ≡ Some n
unfolding number_within
within_read low high n room above below = rw (number_read n room, le-ltb n low above, le-ltb high n below) refl

cost_read : (n : ℕ) → 1 ≤ n → n ≤ 255 → cost (decimal n) ≡ Some n
unfolding cost
cost_read n above below = within_read 1 255 n (omega arith) above below

sixteen_read : (octets : List ℕ) → AreOctets 16 octets → sixteen_octets (encode_lower octets) ≡ Some octets
unfolding sixteen_octets
sixteen_read octets are =
    let long = digits_long octets in
    rw (eq-eqb (length (encode_lower octets)) 32 (omega (arith, long, are.0))) (octets_read octets are.1)

eui_read : (who : Eui) → IsEui who → eui (encode_lower who.0) ≡ Some who
unfolding eui
eui_read who are =
    let long = digits_long who.0 in
    rw (eq-eqb (length (encode_lower who.0)) 16 (omega (arith, long, are.0)), octets_read who.0 are.1) refl

hex_read : (octets : List ℕ) → IsLineOctets octets → hex_octets (encode_lower octets) ≡ Some octets
unfolding hex_octets
hex_read octets are =
    let long = digits_long octets in
    rw (lt-ltb 0 (length (encode_lower octets)) (omega (arith, long, are.0)), le-leb (length (encode_lower octets)) 4096 (omega (arith, long, are.1)))
    (octets_read octets are.2)

kept_read : (keeps : Bool) → keeps_new (kept_word keeps) ≡ Some keeps
unfolding keeps_new
kept_read true = refl
kept_read false = refl

-- # Kinds

kind_is_word : (kind : EventKind) → IsWord (kind_word kind)
kind_is_word kinds.Coordinator = (refl, (refl, (refl, (refl, (refl, (refl, (refl, (refl, (refl, (refl, (refl, tt)))))))))))
kind_is_word kinds.Meter = (refl, (refl, (refl, (refl, (refl, tt)))))
kind_is_word kinds.Depot = (refl, (refl, (refl, (refl, (refl, tt)))))
kind_is_word kinds.Near = (refl, (refl, (refl, (refl, tt))))
kind_is_word kinds.Counter = (refl, (refl, (refl, (refl, (refl, (refl, (refl, tt)))))))
kind_is_word kinds.Number = (refl, (refl, (refl, (refl, (refl, (refl, tt))))))
kind_is_word kinds.Allow = (refl, (refl, (refl, (refl, (refl, tt)))))
kind_is_word kinds.RandomOctets = (refl, (refl, (refl, (refl, tt))))
kind_is_word kinds.Join = (refl, (refl, (refl, (refl, tt))))
kind_is_word kinds.Leave = (refl, (refl, (refl, (refl, (refl, tt)))))
kind_is_word kinds.Send = (refl, (refl, (refl, (refl, tt))))
kind_is_word kinds.Deliver = (refl, (refl, (refl, (refl, (refl, (refl, (refl, tt)))))))
kind_is_word kinds.Inject = (refl, (refl, (refl, (refl, (refl, (refl, tt))))))
kind_is_word kinds.Lose = (refl, (refl, (refl, (refl, tt))))
kind_is_word kinds.Break = (refl, (refl, (refl, (refl, (refl, tt)))))
kind_is_word kinds.Tick = (refl, (refl, (refl, (refl, tt))))
kind_is_word kinds.Restart = (refl, (refl, (refl, (refl, (refl, (refl, (refl, tt)))))))
kind_is_word kinds.Cut = (refl, (refl, (refl, tt)))
kind_is_word kinds.Rekey = (refl, (refl, (refl, (refl, (refl, tt)))))
kind_is_word kinds.Challenge = (refl, (refl, (refl, (refl, (refl, (refl, (refl, (refl, (refl, tt)))))))))
kind_is_word kinds.Activate = (refl, (refl, (refl, (refl, (refl, (refl, (refl, (refl, tt))))))))
kind_is_word kinds.Kick = (refl, (refl, (refl, (refl, tt))))
kind_is_word kinds.Show = (refl, (refl, (refl, (refl, tt))))
kind_is_word kinds.Checks = (refl, (refl, (refl, (refl, (refl, (refl, tt))))))
kind_is_word kinds.Bcast = (refl, (refl, (refl, (refl, (refl, tt)))))
kind_is_word kinds.Scan = (refl, (refl, (refl, (refl, tt))))
kind_is_word kinds.Choose = (refl, (refl, (refl, (refl, (refl, (refl, tt))))))
kind_is_word kinds.Path = (refl, (refl, (refl, (refl, tt))))

named_by_word : (kind : EventKind) → kind_named (kind_word kind) ≡ Some kind
unfolding kind_named
named_by_word kinds.Coordinator = refl
named_by_word kinds.Meter = refl
named_by_word kinds.Depot = refl
named_by_word kinds.Near = refl
named_by_word kinds.Counter = refl
named_by_word kinds.Number = refl
named_by_word kinds.Allow = refl
named_by_word kinds.RandomOctets = refl
named_by_word kinds.Join = refl
named_by_word kinds.Leave = refl
named_by_word kinds.Send = refl
named_by_word kinds.Deliver = refl
named_by_word kinds.Inject = refl
named_by_word kinds.Lose = refl
named_by_word kinds.Break = refl
named_by_word kinds.Tick = refl
named_by_word kinds.Restart = refl
named_by_word kinds.Cut = refl
named_by_word kinds.Rekey = refl
named_by_word kinds.Challenge = refl
named_by_word kinds.Activate = refl
named_by_word kinds.Kick = refl
named_by_word kinds.Show = refl
named_by_word kinds.Checks = refl
named_by_word kinds.Bcast = refl
named_by_word kinds.Scan = refl
named_by_word kinds.Choose = refl
named_by_word kinds.Path = refl

event_read : (kind : EventKind) (rest : List ℕ) → event_of (spaced (kind_word kind) rest) ≡ event_by kind rest
unfolding event_of
event_read kind rest = rw (field_read (kind_word kind) rest (kind_is_word kind), named_by_word kind) refl

kind_read : (kind : EventKind) (rest : List ℕ) → reading (spaced (kind_word kind) rest) ≡ reads (event_by kind rest)
unfolding reading
kind_read kinds.Coordinator rest = ap reads (event_read kinds.Coordinator rest)
kind_read kinds.Meter rest = ap reads (event_read kinds.Meter rest)
kind_read kinds.Depot rest = ap reads (event_read kinds.Depot rest)
kind_read kinds.Near rest = ap reads (event_read kinds.Near rest)
kind_read kinds.Counter rest = ap reads (event_read kinds.Counter rest)
kind_read kinds.Number rest = ap reads (event_read kinds.Number rest)
kind_read kinds.Allow rest = ap reads (event_read kinds.Allow rest)
kind_read kinds.RandomOctets rest = ap reads (event_read kinds.RandomOctets rest)
kind_read kinds.Join rest = ap reads (event_read kinds.Join rest)
kind_read kinds.Leave rest = ap reads (event_read kinds.Leave rest)
kind_read kinds.Send rest = ap reads (event_read kinds.Send rest)
kind_read kinds.Deliver rest = ap reads (event_read kinds.Deliver rest)
kind_read kinds.Inject rest = ap reads (event_read kinds.Inject rest)
kind_read kinds.Lose rest = ap reads (event_read kinds.Lose rest)
kind_read kinds.Break rest = ap reads (event_read kinds.Break rest)
kind_read kinds.Tick rest = ap reads (event_read kinds.Tick rest)
kind_read kinds.Restart rest = ap reads (event_read kinds.Restart rest)
kind_read kinds.Cut rest = ap reads (event_read kinds.Cut rest)
kind_read kinds.Rekey rest = ap reads (event_read kinds.Rekey rest)
kind_read kinds.Challenge rest = ap reads (event_read kinds.Challenge rest)
kind_read kinds.Activate rest = ap reads (event_read kinds.Activate rest)
kind_read kinds.Kick rest = ap reads (event_read kinds.Kick rest)
kind_read kinds.Show rest = ap reads (event_read kinds.Show rest)
kind_read kinds.Checks rest = ap reads (event_read kinds.Checks rest)
kind_read kinds.Bcast rest = ap reads (event_read kinds.Bcast rest)
kind_read kinds.Scan rest = ap reads (event_read kinds.Scan rest)
kind_read kinds.Choose rest = ap reads (event_read kinds.Choose rest)
kind_read kinds.Path rest = ap reads (event_read kinds.Path rest)

-- # Lines

line_read : (kind : EventKind) (rest : List ℕ) (event : Event) → event_by kind rest ≡ Some event → reading (spaced (kind_word kind) rest) ≡ Reads event
line_read kind rest event is = kind_read kind rest ∙ ap reads is

coordinator_line_read : (who : Eui) (key : Key) → IsEvent (Coordinator who key)
    → coordinator_of (spaced (encode_lower who.0) (encode_lower key.0)) ≡ Some (Coordinator who key)
unfolding coordinator_of
coordinator_line_read who key is =
    rw (field_read (encode_lower who.0) (encode_lower key.0) (hex_word who.0), eui_read who is.0, sixteen_read key.0 is.1) refl

meter_line_read : (who : Eui) (psk : Key) → IsEvent (Meter who psk) → meter_of (spaced (encode_lower who.0) (encode_lower psk.0)) ≡ Some (Meter who psk)
unfolding meter_of
meter_line_read who psk is =
    rw (field_read (encode_lower who.0) (encode_lower psk.0) (hex_word who.0), eui_read who is.0, sixteen_read psk.0 is.1) refl

depot_line_read : (node : ℕ) → IsEvent (Depot node) → depot_of (decimal node) ≡ Some (Depot node)
unfolding depot_of
depot_line_read node is =
    rw (number_read node is) refl

near_line_read : (a : ℕ) (b : ℕ) (link : ℕ) → IsEvent (Near a b link) → near_of (spaced (decimal a) (spaced (decimal b) (decimal link))) ≡ Some (Near a b link)
unfolding near_of
near_line_read a b link is =
    let above_link : 1 ≤ link = is.2.0 in let below_link : link ≤ 255 = is.2.1 in
    rw (
      field_read (decimal a) (spaced (decimal b) (decimal link)) (decimal_word a is.0),
      number_read a is.0,
      field_read (decimal b) (decimal link) (decimal_word b is.1),
      number_read b is.1,
      cost_read link above_link below_link,
    ) refl

counter_line_read : (node : ℕ) (value : ℕ) → IsEvent (Counter node value) → counter_of (spaced (decimal node) (decimal value)) ≡ Some (Counter node value)
unfolding counter_of
counter_line_read node value is =
    rw (field_read (decimal node) (decimal value) (decimal_word node is.0), number_read node is.0, number_read value is.1) refl

number_line_read : (node : ℕ) (value : ℕ) → IsEvent (Number node value) → number_of (spaced (decimal node) (decimal value)) ≡ Some (Number node value)
unfolding number_of
number_line_read node value is =
    let above_value : 1 ≤ value = is.1 in let room_value : value < 65536 = is.2 in let below_value : value ≤ 65535 = omega arith in
    rw (
      field_read (decimal node) (decimal value) (decimal_word node is.0),
      number_read node is.0,
      within_read 1 65535 value (omega arith) above_value below_value,
    ) refl

allow_line_read : (node : ℕ) → IsEvent (Allow node) → allow_of (decimal node) ≡ Some (Allow node)
unfolding allow_of
allow_line_read node is =
    rw (number_read node is) refl

rand_line_read : (node : ℕ) (value : RandomOctets) → IsEvent (GiveRand node value)
    → rand_of (spaced (decimal node) (encode_lower value.0)) ≡ Some (GiveRand node value)
unfolding rand_of
rand_line_read node value is =
    rw (field_read (decimal node) (encode_lower value.0) (decimal_word node is.0), number_read node is.0, sixteen_read value.0 is.1) refl

join_line_read : (node : ℕ) (agent : ℕ) → IsEvent (Join node agent) → join_of (spaced (decimal node) (decimal agent)) ≡ Some (Join node agent)
unfolding join_of
join_line_read node agent is =
    rw (field_read (decimal node) (decimal agent) (decimal_word node is.0), number_read node is.0, number_read agent is.1) refl

leave_line_read : (node : ℕ) → IsEvent (Leave node) → leave_of (decimal node) ≡ Some (Leave node)
unfolding leave_of
leave_line_read node is =
    rw (number_read node is) refl

send_line_read : (from : ℕ) (to : ℕ) (datagram : List ℕ) → IsEvent (Send from to datagram)
    → send_of (spaced (decimal from) (spaced (decimal to) (encode_lower datagram))) ≡ Some (Send from to datagram)
unfolding send_of
send_line_read from to datagram is =
    rw (
      field_read (decimal from) (spaced (decimal to) (encode_lower datagram)) (decimal_word from is.0),
      number_read from is.0,
      field_read (decimal to) (encode_lower datagram) (decimal_word to is.1),
      number_read to is.1,
      hex_read datagram is.2,
    ) refl

deliver_line_read : (flight : ℕ) (node : ℕ) (link : ℕ) → IsEvent (Deliver flight node link)
    → deliver_of (spaced (decimal flight) (spaced (decimal node) (decimal link))) ≡ Some (Deliver flight node link)
unfolding deliver_of
deliver_line_read flight node link is =
    let above_link : 1 ≤ link = is.2.0 in let below_link : link ≤ 255 = is.2.1 in
    rw (
      field_read (decimal flight) (spaced (decimal node) (decimal link)) (decimal_word flight is.0),
      number_read flight is.0,
      field_read (decimal node) (decimal link) (decimal_word node is.1),
      number_read node is.1,
      cost_read link above_link below_link,
    ) refl

inject_line_read : (node : ℕ) (link : ℕ) (octets : List ℕ) → IsEvent (Inject node link octets)
    → inject_of (spaced (decimal node) (spaced (decimal link) (encode_lower octets))) ≡ Some (Inject node link octets)
unfolding inject_of
inject_line_read node link octets is =
    let above_link : 1 ≤ link = is.1.0 in let below_link : link ≤ 255 = is.1.1 in
    rw (
      field_read (decimal node) (spaced (decimal link) (encode_lower octets)) (decimal_word node is.0),
      number_read node is.0,
      field_read (decimal link) (encode_lower octets) (decimal_word link (omega arith)),
      cost_read link above_link below_link,
      hex_read octets is.2,
    ) refl

lose_line_read : (flight : ℕ) → IsEvent (Lose flight) → lose_of (decimal flight) ≡ Some (Lose flight)
unfolding lose_of
lose_line_read flight is =
    rw (number_read flight is) refl

break_line_read : (node : ℕ) (next : ℕ) → IsEvent (Break node next) → break_of (spaced (decimal node) (decimal next)) ≡ Some (Break node next)
unfolding break_of
break_line_read node next is =
    rw (field_read (decimal node) (decimal next) (decimal_word node is.0), number_read node is.0, number_read next is.1) refl

tick_line_read : (seconds : ℕ) → IsEvent (Tick seconds) → tick_of (decimal seconds) ≡ Some (Tick seconds)
unfolding tick_of
tick_line_read seconds is =
    let above_seconds : 1 ≤ seconds = is.0 in let below_seconds : seconds ≤ 86400 = is.1 in
    rw (within_read 1 86400 seconds (omega arith) above_seconds below_seconds) refl

restart_line_read : (node : ℕ) → IsEvent (Restart node) → restart_of (decimal node) ≡ Some (Restart node)
unfolding restart_of
restart_line_read node is =
    rw (number_read node is) refl

cut_line_read : (node : ℕ) (nth : ℕ) (keeps : Bool) → IsEvent (Cut node nth keeps)
    → cut_of (spaced (decimal node) (spaced (decimal nth) (kept_word keeps))) ≡ Some (Cut node nth keeps)
unfolding cut_of
cut_line_read node nth keeps is =
    let above_nth : 1 ≤ nth = is.1 in let below_nth : nth ≤ 1000 = is.2 in
    rw (
      field_read (decimal node) (spaced (decimal nth) (kept_word keeps)) (decimal_word node is.0),
      number_read node is.0,
      field_read (decimal nth) (kept_word keeps) (decimal_word nth (omega arith)),
      within_read 1 1000 nth (omega arith) above_nth below_nth,
      kept_read keeps,
    ) refl

rekey_line_read : (index : ℕ) (key : Key) → IsEvent (Rekey index key) → rekey_of (spaced (decimal index) (encode_lower key.0)) ≡ Some (Rekey index key)
unfolding rekey_of
rekey_line_read index key is =
    let above_index : 0 ≤ index = omega arith in let below_index : index ≤ 1 = is.0 in
    rw (
      field_read (decimal index) (encode_lower key.0) (decimal_word index (omega arith)),
      within_read 0 1 index (omega arith) above_index below_index,
      sixteen_read key.0 is.1,
    ) refl

challenge_line_read : (node : ℕ) → IsEvent (Challenge node) → challenge_of (decimal node) ≡ Some (Challenge node)
unfolding challenge_of
challenge_line_read node is =
    rw (number_read node is) refl

activate_line_read : (node : ℕ) (index : ℕ) → IsEvent (Activate node index) → activate_of (spaced (decimal node) (decimal index)) ≡ Some (Activate node index)
unfolding activate_of
activate_line_read node index is =
    let above_index : 0 ≤ index = omega arith in let below_index : index ≤ 1 = is.1 in
    rw (field_read (decimal node) (decimal index) (decimal_word node is.0), number_read node is.0, within_read 0 1 index (omega arith) above_index below_index)
    refl

kick_line_read : (node : ℕ) → IsEvent (Kick node) → kick_of (decimal node) ≡ Some (Kick node)
unfolding kick_of
kick_line_read node is =
    rw (number_read node is) refl

show_line_read : (node : ℕ) → IsEvent (Show node) → show_of (decimal node) ≡ Some (Show node)
unfolding show_of
show_line_read node is =
    rw (number_read node is) refl

bcast_line_read : (node : ℕ) (datagram : List ℕ) → IsEvent (Bcast node datagram)
    → bcast_of (spaced (decimal node) (encode_lower datagram)) ≡ Some (Bcast node datagram)
unfolding bcast_of
bcast_line_read node datagram is =
    rw (field_read (decimal node) (encode_lower datagram) (decimal_word node is.0), number_read node is.0, hex_read datagram is.1) refl

scan_line_read : (node : ℕ) → IsEvent (Scan node) → scan_of (decimal node) ≡ Some (Scan node)
unfolding scan_of
scan_line_read node is =
    rw (number_read node is) refl

choose_line_read : (node : ℕ) (k : ℕ) → IsEvent (Choose node k) → choose_of (spaced (decimal node) (decimal k)) ≡ Some (Choose node k)
unfolding choose_of
choose_line_read node k is =
    let above_k : 1 ≤ k = is.1 in let below_k : k ≤ 16 = is.2 in
    rw (field_read (decimal node) (decimal k) (decimal_word node is.0), number_read node is.0, within_read 1 16 k (omega arith) above_k below_k) refl

path_line_read : (from : ℕ) (to : ℕ) → IsEvent (Path from to) → path_of (spaced (decimal from) (decimal to)) ≡ Some (Path from to)
unfolding path_of
path_line_read from to is =
    rw (field_read (decimal from) (decimal to) (decimal_word from is.0), number_read from is.0, number_read to is.1) refl

by_kind_coordinator : (who : Eui) (key : Key) → IsEvent (Coordinator who key)
    → event_by kinds.Coordinator (spaced (encode_lower who.0) (encode_lower key.0)) ≡ Some (Coordinator who key)
unfolding event_by
by_kind_coordinator who key is = coordinator_line_read who key is

by_kind_meter : (who : Eui) (psk : Key) → IsEvent (Meter who psk)
    → event_by kinds.Meter (spaced (encode_lower who.0) (encode_lower psk.0)) ≡ Some (Meter who psk)
unfolding event_by
by_kind_meter who psk is = meter_line_read who psk is

by_kind_depot : (node : ℕ) → IsEvent (Depot node) → event_by kinds.Depot (decimal node) ≡ Some (Depot node)
unfolding event_by
by_kind_depot node is = depot_line_read node is

by_kind_near : (a : ℕ) (b : ℕ) (link : ℕ) → IsEvent (Near a b link)
    → event_by kinds.Near (spaced (decimal a) (spaced (decimal b) (decimal link))) ≡ Some (Near a b link)
unfolding event_by
by_kind_near a b link is = near_line_read a b link is

by_kind_counter : (node : ℕ) (value : ℕ) → IsEvent (Counter node value)
    → event_by kinds.Counter (spaced (decimal node) (decimal value)) ≡ Some (Counter node value)
unfolding event_by
by_kind_counter node value is = counter_line_read node value is

by_kind_number : (node : ℕ) (value : ℕ) → IsEvent (Number node value) → event_by kinds.Number (spaced (decimal node) (decimal value)) ≡ Some (Number node value)
unfolding event_by
by_kind_number node value is = number_line_read node value is

by_kind_allow : (node : ℕ) → IsEvent (Allow node) → event_by kinds.Allow (decimal node) ≡ Some (Allow node)
unfolding event_by
by_kind_allow node is = allow_line_read node is

by_kind_rand : (node : ℕ) (value : RandomOctets) → IsEvent (GiveRand node value)
    → event_by kinds.RandomOctets (spaced (decimal node) (encode_lower value.0)) ≡ Some (GiveRand node value)
unfolding event_by
by_kind_rand node value is = rand_line_read node value is

by_kind_join : (node : ℕ) (agent : ℕ) → IsEvent (Join node agent) → event_by kinds.Join (spaced (decimal node) (decimal agent)) ≡ Some (Join node agent)
unfolding event_by
by_kind_join node agent is = join_line_read node agent is

by_kind_leave : (node : ℕ) → IsEvent (Leave node) → event_by kinds.Leave (decimal node) ≡ Some (Leave node)
unfolding event_by
by_kind_leave node is = leave_line_read node is

by_kind_send : (from : ℕ) (to : ℕ) (datagram : List ℕ) → IsEvent (Send from to datagram)
    → event_by kinds.Send (spaced (decimal from) (spaced (decimal to) (encode_lower datagram))) ≡ Some (Send from to datagram)
unfolding event_by
by_kind_send from to datagram is = send_line_read from to datagram is

by_kind_deliver : (flight : ℕ) (node : ℕ) (link : ℕ) → IsEvent (Deliver flight node link)
    → event_by kinds.Deliver (spaced (decimal flight) (spaced (decimal node) (decimal link))) ≡ Some (Deliver flight node link)
unfolding event_by
by_kind_deliver flight node link is = deliver_line_read flight node link is

by_kind_inject : (node : ℕ) (link : ℕ) (octets : List ℕ) → IsEvent (Inject node link octets)
    → event_by kinds.Inject (spaced (decimal node) (spaced (decimal link) (encode_lower octets))) ≡ Some (Inject node link octets)
unfolding event_by
by_kind_inject node link octets is = inject_line_read node link octets is

by_kind_lose : (flight : ℕ) → IsEvent (Lose flight) → event_by kinds.Lose (decimal flight) ≡ Some (Lose flight)
unfolding event_by
by_kind_lose flight is = lose_line_read flight is

by_kind_break : (node : ℕ) (next : ℕ) → IsEvent (Break node next) → event_by kinds.Break (spaced (decimal node) (decimal next)) ≡ Some (Break node next)
unfolding event_by
by_kind_break node next is = break_line_read node next is

by_kind_tick : (seconds : ℕ) → IsEvent (Tick seconds) → event_by kinds.Tick (decimal seconds) ≡ Some (Tick seconds)
unfolding event_by
by_kind_tick seconds is = tick_line_read seconds is

by_kind_restart : (node : ℕ) → IsEvent (Restart node) → event_by kinds.Restart (decimal node) ≡ Some (Restart node)
unfolding event_by
by_kind_restart node is = restart_line_read node is

by_kind_cut : (node : ℕ) (nth : ℕ) (keeps : Bool) → IsEvent (Cut node nth keeps)
    → event_by kinds.Cut (spaced (decimal node) (spaced (decimal nth) (kept_word keeps))) ≡ Some (Cut node nth keeps)
unfolding event_by
by_kind_cut node nth keeps is = cut_line_read node nth keeps is

by_kind_rekey : (index : ℕ) (key : Key) → IsEvent (Rekey index key)
    → event_by kinds.Rekey (spaced (decimal index) (encode_lower key.0)) ≡ Some (Rekey index key)
unfolding event_by
by_kind_rekey index key is = rekey_line_read index key is

by_kind_challenge : (node : ℕ) → IsEvent (Challenge node) → event_by kinds.Challenge (decimal node) ≡ Some (Challenge node)
unfolding event_by
by_kind_challenge node is = challenge_line_read node is

by_kind_activate : (node : ℕ) (index : ℕ) → IsEvent (Activate node index)
    → event_by kinds.Activate (spaced (decimal node) (decimal index)) ≡ Some (Activate node index)
unfolding event_by
by_kind_activate node index is = activate_line_read node index is

by_kind_kick : (node : ℕ) → IsEvent (Kick node) → event_by kinds.Kick (decimal node) ≡ Some (Kick node)
unfolding event_by
by_kind_kick node is = kick_line_read node is

by_kind_show : (node : ℕ) → IsEvent (Show node) → event_by kinds.Show (decimal node) ≡ Some (Show node)
unfolding event_by
by_kind_show node is = show_line_read node is

by_kind_bcast : (node : ℕ) (datagram : List ℕ) → IsEvent (Bcast node datagram)
    → event_by kinds.Bcast (spaced (decimal node) (encode_lower datagram)) ≡ Some (Bcast node datagram)
unfolding event_by
by_kind_bcast node datagram is = bcast_line_read node datagram is

by_kind_scan : (node : ℕ) → IsEvent (Scan node) → event_by kinds.Scan (decimal node) ≡ Some (Scan node)
unfolding event_by
by_kind_scan node is = scan_line_read node is

by_kind_choose : (node : ℕ) (k : ℕ) → IsEvent (Choose node k) → event_by kinds.Choose (spaced (decimal node) (decimal k)) ≡ Some (Choose node k)
unfolding event_by
by_kind_choose node k is = choose_line_read node k is

by_kind_path : (from : ℕ) (to : ℕ) → IsEvent (Path from to) → event_by kinds.Path (spaced (decimal from) (decimal to)) ≡ Some (Path from to)
unfolding event_by
by_kind_path from to is = path_line_read from to is

-- the one line of one word
alone_read : reading (kind_word kinds.Checks) ≡ Reads Checks
unfolding reading event_of field event_alone
alone_read = refl

-- the line of each event that a line can say is read as that event
pub read_back : LinesAreReadBack
read_back (Coordinator who key) is = line_read kinds.Coordinator _ _ (by_kind_coordinator who key is)
read_back (Meter who psk) is = line_read kinds.Meter _ _ (by_kind_meter who psk is)
read_back (Depot node) is = line_read kinds.Depot _ _ (by_kind_depot node is)
read_back (Near a b link) is = line_read kinds.Near _ _ (by_kind_near a b link is)
read_back (Counter node value) is = line_read kinds.Counter _ _ (by_kind_counter node value is)
read_back (Number node value) is = line_read kinds.Number _ _ (by_kind_number node value is)
read_back (Allow node) is = line_read kinds.Allow _ _ (by_kind_allow node is)
read_back (GiveRand node value) is = line_read kinds.RandomOctets _ _ (by_kind_rand node value is)
read_back (Join node agent) is = line_read kinds.Join _ _ (by_kind_join node agent is)
read_back (Leave node) is = line_read kinds.Leave _ _ (by_kind_leave node is)
read_back (Send from to datagram) is = line_read kinds.Send _ _ (by_kind_send from to datagram is)
read_back (Deliver flight node link) is = line_read kinds.Deliver _ _ (by_kind_deliver flight node link is)
read_back (Inject node link octets) is = line_read kinds.Inject _ _ (by_kind_inject node link octets is)
read_back (Lose flight) is = line_read kinds.Lose _ _ (by_kind_lose flight is)
read_back (Break node next) is = line_read kinds.Break _ _ (by_kind_break node next is)
read_back (Tick seconds) is = line_read kinds.Tick _ _ (by_kind_tick seconds is)
read_back (Restart node) is = line_read kinds.Restart _ _ (by_kind_restart node is)
read_back (Cut node nth keeps) is = line_read kinds.Cut _ _ (by_kind_cut node nth keeps is)
read_back (Rekey index key) is = line_read kinds.Rekey _ _ (by_kind_rekey index key is)
read_back (Challenge node) is = line_read kinds.Challenge _ _ (by_kind_challenge node is)
read_back (Activate node index) is = line_read kinds.Activate _ _ (by_kind_activate node index is)
read_back (Kick node) is = line_read kinds.Kick _ _ (by_kind_kick node is)
read_back (Show node) is = line_read kinds.Show _ _ (by_kind_show node is)
read_back Checks is = alone_read
read_back (Bcast node datagram) is = line_read kinds.Bcast _ _ (by_kind_bcast node datagram is)
read_back (Scan node) is = line_read kinds.Scan _ _ (by_kind_scan node is)
read_back (Choose node k) is = line_read kinds.Choose _ _ (by_kind_choose node k is)
read_back (Path from to) is = line_read kinds.Path _ _ (by_kind_path from to is)
