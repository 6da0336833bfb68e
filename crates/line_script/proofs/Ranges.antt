-- What is read is an event that a line can say.
use Rattle.std.proofs.Common.{◌≡◌, ℕ, ◌+◌, ◌*◌, ◌-◌, ◌<◌, ◌≤◌, ◌==◌, Bool, true, false, ◌&&◌, List, [], ◌∷◌, length, Option, Some, None, Result, Ok, Err, refl}
use Rattle.std.proofs.Common.{arith}
use Rattle.std.specs.Prelude.{All, IfSome, nat_lt, nat_le, if◌then◌else◌}
use Rattle.std.specs.Result.{result_ok}
use Rattle.std.proofs.lemmas.Option.{IfSome_then}
use Rattle.std.proofs.lemmas.List.Elements.{All-from_get_or}
use Rattle.std.proofs.lemmas.Bool.{ltb-true, ltb-false, leb-true, leb-false, eqb-true, and_parts}
use Rattle.hex.specs.Hex.{IsBytes, decode_of}
use Rattle.hex.specs.declared.error.FromHexError.{FromHexError}
use Rattle.hex.proofs.HexLemmas.{decode_of-ok}
use Rattle.line_events.specs.Events.{AreOctets, IsEui, IsLineOctets, IsNumber, IsCost, IsEvent}
use Rattle.line_script.specs.declared.kind.EventKind.{EventKind}
use Rattle.line_script.specs.declared.kind.EventKind.TheVariants as kinds
use Rattle.line_events.specs.declared.event.Event.{Event}
use Rattle.line_events.specs.declared.event.Event.TheVariants.{Checks}
use Rattle.std.specs.Str.{bytes_eq}
use Rattle.line_script.specs.declared.reading.Reading.TheVariants.{Quiet}
use Rattle.line_script.specs.Kinds.{kind_word, kind_named}
use Rattle.line_script.specs.Words.{◌>>=◌, Field, field, digit_more, number_from, number, number_within, cost, eui, sixteen_octets, hex_octets, keeps_new}
use Rattle.line_script.specs.LineReader.{coordinator_of, meter_of, depot_of, near_of, counter_of, number_of, allow_of, rand_of, join_of, leave_of, send_of}
use Rattle.line_script.specs.LineReader.{deliver_of, inject_of, lose_of, break_of, tick_of, restart_of, cut_of, rekey_of, challenge_of, activate_of, kick_of}
use Rattle.line_script.specs.LineReader.{show_of, bcast_of, scan_of, choose_of, path_of, event_by, event_alone, event_with, event_of, reads, reading}
use Rattle.line_script.specs.Lines.{IsInRange}

if_then : {A B : Type 0} (P : A → Type 0) (Q : B → Type 0) (o : Option A) (f : A → Option B) → IfSome o P → ((a : A) → P a → IfSome (f a) Q)
    → IfSome (o >>= f) Q
if_then P Q (Some a) f is all = all a is
if_then P Q None f is all = tt

if_not : {A : Type 0} (P : A → Type 0) (b : Bool) (o : Option A) → IfSome o P → IfSome (if b then None else o) P
if_not P true o is = tt
if_not P false o is = is

if_so : {A : Type 0} (P : A → Type 0) (b test : Bool) (o : Option A) → test ≡ b → (test ≡ true → IfSome o P) → IfSome (if b then o else None) P
if_so P true test o by is = is by
if_so P false test o by is = tt

abbrev Whatever : Field → Type 0
Whatever found = Unit {0}

whatever : (o : Option Field) → IfSome o Whatever
whatever (Some found) = tt
whatever None = tt

abbrev Chosen : Bool → Type 0
Chosen choice = Unit {0}

chosen : (o : Option Bool) → IfSome o Chosen
chosen (Some choice) = tt
chosen None = tt

abbrev Kinded : EventKind → Type 0
Kinded kind = Unit {0}

kinded : (o : Option EventKind) → IfSome o Kinded
kinded (Some kind) = tt
kinded None = tt

-- # Numbers

digit_by : (m : ℕ) (low high large : Bool) → nat_le 4294967296 m ≡ large
    → IfSome (if low then None else if high then None else if large then None else Some m) IsNumber
digit_by m true high large is = tt
digit_by m false true large is = tt
digit_by m false false true is = tt
digit_by m false false false is = leb-false 4294967296 m is

digit_is : (n c : ℕ) → IfSome (digit_more n c) IsNumber
digit_is n c = digit_by (n * 10 + (c - 48)) (nat_lt c 48) (nat_lt 57 c) (nat_le 4294967296 (n * 10 + (c - 48))) refl

digits_are : (n : ℕ) (ds : List ℕ) → IsNumber n → IfSome (number_from n ds) IsNumber
digits_are n [] is = is
digits_are n (c ∷ cs) is = if_then IsNumber IsNumber (digit_more n c) (λ m. number_from m cs) (digit_is n c) (λ m im. digits_are m cs im)

number_is : (word : List ℕ) → IfSome (number word) IsNumber
unfolding number
number_is [] = tt
number_is (c ∷ cs) = if_not IsNumber (c == 48 && nat_lt 0 (length cs)) (number_from 0 (c ∷ cs)) (digits_are 0 (c ∷ cs) (omega arith))

-- a number in a range
abbrev IsWithin : ℕ → ℕ → ℕ → Type 0
IsWithin low high n = (low ≤ n) × (n ≤ high)

range_by : (low high n : ℕ) (under over : Bool) → nat_lt n low ≡ under → nat_lt high n ≡ over
    → IfSome (if under then None else if over then None else Some n) (IsWithin low high)
range_by low high n true over above below = tt
range_by low high n false true above below = tt
range_by low high n false false above below = (ltb-false n low above, ltb-false high n below)

within_is : (low high : ℕ) (word : List ℕ) → IfSome (number_within low high word) (IsWithin low high)
unfolding number_within
within_is low high word =
    if_then IsNumber (IsWithin low high) (number word) _ (number_is word) (λ n is. range_by low high n (nat_lt n low) (nat_lt high n) refl refl)

cost_is : (word : List ℕ) → IfSome (cost word) IsCost
unfolding cost
cost_is word = within_is 1 255 word

below_65536 : (n : ℕ) → n ≤ 65535 → n < 65536
below_65536 n is = omega (arith, is)

-- # Octets

all_from : (octets : List ℕ) → IsBytes octets → All (λ x. x < 256) octets
all_from octets are = All-from_get_or (λ x. x < 256) octets 0 (λ i within. are i)

abbrev Decoded : List ℕ → List ℕ → Type 0
Decoded word octets = (length word ≡ 2 * length octets) × All (λ x. x < 256) octets

decoded_by : (word : List ℕ) (r : Result (List ℕ) FromHexError) → decode_of word ≡ r → IfSome (result_ok r) (Decoded word)
decoded_by word (Ok octets) is = let read = decode_of-ok word octets is in (read.2, all_from octets read.3)
decoded_by word (Err fault) is = tt

decoded : (word : List ℕ) → IfSome (result_ok (decode_of word)) (Decoded word)
decoded word = decoded_by word (decode_of word) refl

sized : (word : List ℕ) (digits count : ℕ) → digits ≡ 2 * count → IfSome (if length word == digits then result_ok (decode_of word) else None) (AreOctets count)
sized word digits count twice =
    if_so (AreOctets count) (length word == digits) (length word == digits) (result_ok (decode_of word)) refl
    (λ is. IfSome_then (result_ok (decode_of word)) (decoded word)
    (λ octets read. let long = eqb-true (length word) digits is in (omega (arith, long, read.0, twice), read.1)))

sixteen_is : (word : List ℕ) → IfSome (sixteen_octets word) (AreOctets 16)
unfolding sixteen_octets
sixteen_is word = sized word 32 16 refl

eui_is : (word : List ℕ) → IfSome (eui word) IsEui
unfolding eui
eui_is word = if_then (AreOctets 8) IsEui (if length word == 16 then result_ok (decode_of word) else None) _ (sized word 16 8 refl) (λ octets are. are)

line_octets : (word octets : List ℕ) → 0 < length word → length word ≤ 4096 → Decoded word octets → IsLineOctets octets
line_octets word octets some room read = (omega (arith, some, read.0), omega (arith, room, read.0), read.1)

hex_is : (word : List ℕ) → IfSome (hex_octets word) IsLineOctets
unfolding hex_octets
hex_is word =
    if_so IsLineOctets (nat_lt 0 (length word) && nat_le (length word) 4096) (nat_lt 0 (length word) && nat_le (length word) 4096) (result_ok (decode_of word))
    refl
    (λ is. let both = and_parts (nat_lt 0 (length word)) (nat_le (length word) 4096) is in
    IfSome_then (result_ok (decode_of word)) (decoded word)
    (λ octets read. line_octets word octets (ltb-true 0 (length word) both.0) (leb-true (length word) 4096 both.1) read))

-- # Kinds

coordinator_fits : (octets : List ℕ) → IfSome (coordinator_of octets) IsEvent
unfolding coordinator_of
coordinator_fits octets = if_then Whatever IsEvent (field octets) _ (whatever (field octets))
    (λ first u0. if_then IsEui IsEvent (eui first.word) _ (eui_is first.word)
    (λ who is_who. if_then (AreOctets 16) IsEvent (sixteen_octets first.rest) _ (sixteen_is first.rest) (λ key is_key. (is_who, is_key))))

meter_fits : (octets : List ℕ) → IfSome (meter_of octets) IsEvent
unfolding meter_of
meter_fits octets = if_then Whatever IsEvent (field octets) _ (whatever (field octets))
    (λ first u0. if_then IsEui IsEvent (eui first.word) _ (eui_is first.word)
    (λ who is_who. if_then (AreOctets 16) IsEvent (sixteen_octets first.rest) _ (sixteen_is first.rest) (λ psk is_psk. (is_who, is_psk))))

depot_fits : (octets : List ℕ) → IfSome (depot_of octets) IsEvent
unfolding depot_of
depot_fits octets = if_then IsNumber IsEvent (number octets) _ (number_is octets) (λ node is_node. is_node)

near_fits : (octets : List ℕ) → IfSome (near_of octets) IsEvent
unfolding near_of
near_fits octets = if_then Whatever IsEvent (field octets) _ (whatever (field octets))
    (λ first u0. if_then IsNumber IsEvent (number first.word) _ (number_is first.word)
    (λ a is_a. if_then Whatever IsEvent (field first.rest) _ (whatever (field first.rest))
    (λ second u1. if_then IsNumber IsEvent (number second.word) _ (number_is second.word)
    (λ b is_b. if_then IsCost IsEvent (cost second.rest) _ (cost_is second.rest) (λ link is_link. (is_a, is_b, is_link))))))

counter_fits : (octets : List ℕ) → IfSome (counter_of octets) IsEvent
unfolding counter_of
counter_fits octets = if_then Whatever IsEvent (field octets) _ (whatever (field octets))
    (λ first u0. if_then IsNumber IsEvent (number first.word) _ (number_is first.word)
    (λ node is_node. if_then IsNumber IsEvent (number first.rest) _ (number_is first.rest) (λ value is_value. (is_node, is_value))))

number_fits : (octets : List ℕ) → IfSome (number_of octets) IsEvent
unfolding number_of
number_fits octets = if_then Whatever IsEvent (field octets) _ (whatever (field octets))
    (λ first u0. if_then IsNumber IsEvent (number first.word) _ (number_is first.word)
    (λ node is_node. if_then (IsWithin 1 65535) IsEvent (number_within 1 65535 first.rest) _ (within_is 1 65535 first.rest)
    (λ value is_value. (is_node, is_value.0, below_65536 value is_value.1))))

allow_fits : (octets : List ℕ) → IfSome (allow_of octets) IsEvent
unfolding allow_of
allow_fits octets = if_then IsNumber IsEvent (number octets) _ (number_is octets) (λ node is_node. is_node)

rand_fits : (octets : List ℕ) → IfSome (rand_of octets) IsEvent
unfolding rand_of
rand_fits octets = if_then Whatever IsEvent (field octets) _ (whatever (field octets))
    (λ first u0. if_then IsNumber IsEvent (number first.word) _ (number_is first.word)
    (λ node is_node. if_then (AreOctets 16) IsEvent (sixteen_octets first.rest) _ (sixteen_is first.rest) (λ value is_value. (is_node, is_value))))

join_fits : (octets : List ℕ) → IfSome (join_of octets) IsEvent
unfolding join_of
join_fits octets = if_then Whatever IsEvent (field octets) _ (whatever (field octets))
    (λ first u0. if_then IsNumber IsEvent (number first.word) _ (number_is first.word)
    (λ node is_node. if_then IsNumber IsEvent (number first.rest) _ (number_is first.rest) (λ agent is_agent. (is_node, is_agent))))

leave_fits : (octets : List ℕ) → IfSome (leave_of octets) IsEvent
unfolding leave_of
leave_fits octets = if_then IsNumber IsEvent (number octets) _ (number_is octets) (λ node is_node. is_node)

send_fits : (octets : List ℕ) → IfSome (send_of octets) IsEvent
unfolding send_of
send_fits octets = if_then Whatever IsEvent (field octets) _ (whatever (field octets))
    (λ first u0. if_then IsNumber IsEvent (number first.word) _ (number_is first.word)
    (λ from is_from. if_then Whatever IsEvent (field first.rest) _ (whatever (field first.rest))
    (λ second u1. if_then IsNumber IsEvent (number second.word) _ (number_is second.word)
    (λ to is_to. if_then IsLineOctets IsEvent (hex_octets second.rest) _ (hex_is second.rest) (λ datagram is_datagram. (is_from, is_to, is_datagram))))))

deliver_fits : (octets : List ℕ) → IfSome (deliver_of octets) IsEvent
unfolding deliver_of
deliver_fits octets = if_then Whatever IsEvent (field octets) _ (whatever (field octets))
    (λ first u0. if_then IsNumber IsEvent (number first.word) _ (number_is first.word)
    (λ flight is_flight. if_then Whatever IsEvent (field first.rest) _ (whatever (field first.rest))
    (λ second u1. if_then IsNumber IsEvent (number second.word) _ (number_is second.word)
    (λ node is_node. if_then IsCost IsEvent (cost second.rest) _ (cost_is second.rest) (λ link is_link. (is_flight, is_node, is_link))))))

inject_fits : (octets : List ℕ) → IfSome (inject_of octets) IsEvent
unfolding inject_of
inject_fits octets = if_then Whatever IsEvent (field octets) _ (whatever (field octets))
    (λ first u0. if_then IsNumber IsEvent (number first.word) _ (number_is first.word)
    (λ node is_node. if_then Whatever IsEvent (field first.rest) _ (whatever (field first.rest))
    (λ second u1. if_then IsCost IsEvent (cost second.word) _ (cost_is second.word)
    (λ link is_link. if_then IsLineOctets IsEvent (hex_octets second.rest) _ (hex_is second.rest) (λ octets is_octets. (is_node, is_link, is_octets))))))

lose_fits : (octets : List ℕ) → IfSome (lose_of octets) IsEvent
unfolding lose_of
lose_fits octets = if_then IsNumber IsEvent (number octets) _ (number_is octets) (λ flight is_flight. is_flight)

break_fits : (octets : List ℕ) → IfSome (break_of octets) IsEvent
unfolding break_of
break_fits octets = if_then Whatever IsEvent (field octets) _ (whatever (field octets))
    (λ first u0. if_then IsNumber IsEvent (number first.word) _ (number_is first.word)
    (λ node is_node. if_then IsNumber IsEvent (number first.rest) _ (number_is first.rest) (λ next is_next. (is_node, is_next))))

tick_fits : (octets : List ℕ) → IfSome (tick_of octets) IsEvent
unfolding tick_of
tick_fits octets =
    if_then (IsWithin 1 86400) IsEvent (number_within 1 86400 octets) _ (within_is 1 86400 octets) (λ seconds is_seconds. (is_seconds.0, is_seconds.1))

restart_fits : (octets : List ℕ) → IfSome (restart_of octets) IsEvent
unfolding restart_of
restart_fits octets = if_then IsNumber IsEvent (number octets) _ (number_is octets) (λ node is_node. is_node)

cut_fits : (octets : List ℕ) → IfSome (cut_of octets) IsEvent
unfolding cut_of
cut_fits octets = if_then Whatever IsEvent (field octets) _ (whatever (field octets))
    (λ first u0. if_then IsNumber IsEvent (number first.word) _ (number_is first.word)
    (λ node is_node. if_then Whatever IsEvent (field first.rest) _ (whatever (field first.rest))
    (λ second u1. if_then (IsWithin 1 1000) IsEvent (number_within 1 1000 second.word) _ (within_is 1 1000 second.word)
    (λ nth is_nth. if_then Chosen IsEvent (keeps_new second.rest) _ (chosen (keeps_new second.rest)) (λ keeps is_keeps. (is_node, is_nth.0, is_nth.1))))))

rekey_fits : (octets : List ℕ) → IfSome (rekey_of octets) IsEvent
unfolding rekey_of
rekey_fits octets = if_then Whatever IsEvent (field octets) _ (whatever (field octets))
    (λ first u0. if_then (IsWithin 0 1) IsEvent (number_within 0 1 first.word) _ (within_is 0 1 first.word)
    (λ index is_index. if_then (AreOctets 16) IsEvent (sixteen_octets first.rest) _ (sixteen_is first.rest) (λ key is_key. (is_index.1, is_key))))

challenge_fits : (octets : List ℕ) → IfSome (challenge_of octets) IsEvent
unfolding challenge_of
challenge_fits octets = if_then IsNumber IsEvent (number octets) _ (number_is octets) (λ node is_node. is_node)

activate_fits : (octets : List ℕ) → IfSome (activate_of octets) IsEvent
unfolding activate_of
activate_fits octets = if_then Whatever IsEvent (field octets) _ (whatever (field octets))
    (λ first u0. if_then IsNumber IsEvent (number first.word) _ (number_is first.word)
    (λ node is_node. if_then (IsWithin 0 1) IsEvent (number_within 0 1 first.rest) _ (within_is 0 1 first.rest) (λ index is_index. (is_node, is_index.1))))

kick_fits : (octets : List ℕ) → IfSome (kick_of octets) IsEvent
unfolding kick_of
kick_fits octets = if_then IsNumber IsEvent (number octets) _ (number_is octets) (λ node is_node. is_node)

show_fits : (octets : List ℕ) → IfSome (show_of octets) IsEvent
unfolding show_of
show_fits octets = if_then IsNumber IsEvent (number octets) _ (number_is octets) (λ node is_node. is_node)

bcast_fits : (octets : List ℕ) → IfSome (bcast_of octets) IsEvent
unfolding bcast_of
bcast_fits octets =
    if_then Whatever IsEvent (field octets) _ (whatever (field octets))
    (λ first u0. if_then IsNumber IsEvent (number first.word) _ (number_is first.word)
    (λ node is_node. if_then IsLineOctets IsEvent (hex_octets first.rest) _ (hex_is first.rest) (λ datagram is_datagram. (is_node, is_datagram))))

scan_fits : (octets : List ℕ) → IfSome (scan_of octets) IsEvent
unfolding scan_of
scan_fits octets = if_then IsNumber IsEvent (number octets) _ (number_is octets) (λ node is_node. is_node)

choose_fits : (octets : List ℕ) → IfSome (choose_of octets) IsEvent
unfolding choose_of
choose_fits octets =
    if_then Whatever IsEvent (field octets) _ (whatever (field octets))
    (λ first u0. if_then IsNumber IsEvent (number first.word) _ (number_is first.word)
    (λ node is_node. if_then (IsWithin 1 16) IsEvent (number_within 1 16 first.rest) _ (within_is 1 16 first.rest) (λ k is_k. (is_node, is_k.0, is_k.1))))

path_fits : (octets : List ℕ) → IfSome (path_of octets) IsEvent
unfolding path_of
path_fits octets =
    if_then Whatever IsEvent (field octets) _ (whatever (field octets))
    (λ first u0. if_then IsNumber IsEvent (number first.word) _ (number_is first.word)
    (λ from is_from. if_then IsNumber IsEvent (number first.rest) _ (number_is first.rest) (λ to is_to. (is_from, is_to))))

-- # Lines

kind_fits : (kind : EventKind) (rest : List ℕ) → IfSome (event_by kind rest) IsEvent
unfolding event_by
kind_fits kinds.Coordinator rest = coordinator_fits rest
kind_fits kinds.Meter rest = meter_fits rest
kind_fits kinds.Depot rest = depot_fits rest
kind_fits kinds.Near rest = near_fits rest
kind_fits kinds.Counter rest = counter_fits rest
kind_fits kinds.Number rest = number_fits rest
kind_fits kinds.Allow rest = allow_fits rest
kind_fits kinds.RandomOctets rest = rand_fits rest
kind_fits kinds.Join rest = join_fits rest
kind_fits kinds.Leave rest = leave_fits rest
kind_fits kinds.Send rest = send_fits rest
kind_fits kinds.Deliver rest = deliver_fits rest
kind_fits kinds.Inject rest = inject_fits rest
kind_fits kinds.Lose rest = lose_fits rest
kind_fits kinds.Break rest = break_fits rest
kind_fits kinds.Tick rest = tick_fits rest
kind_fits kinds.Restart rest = restart_fits rest
kind_fits kinds.Cut rest = cut_fits rest
kind_fits kinds.Rekey rest = rekey_fits rest
kind_fits kinds.Challenge rest = challenge_fits rest
kind_fits kinds.Activate rest = activate_fits rest
kind_fits kinds.Kick rest = kick_fits rest
kind_fits kinds.Show rest = show_fits rest
kind_fits kinds.Checks rest = tt
kind_fits kinds.Bcast rest = bcast_fits rest
kind_fits kinds.Scan rest = scan_fits rest
kind_fits kinds.Choose rest = choose_fits rest
kind_fits kinds.Path rest = path_fits rest

alone_by : (b : Bool) → IfSome (if b then Some Checks else None) IsEvent
alone_by true = tt
alone_by false = tt

alone_fits : (line : List ℕ) → IfSome (event_alone line) IsEvent
unfolding event_alone
alone_fits line = alone_by (bytes_eq line (kind_word kinds.Checks))

with_fits : (line : List ℕ) (o : Option Field) → IfSome (event_with line o) IsEvent
with_fits line None = alone_fits line
with_fits line (Some first) = if_then Kinded IsEvent (kind_named first.word) _ (kinded (kind_named first.word)) (λ kind k. kind_fits kind first.rest)

event_fits : (line : List ℕ) → IfSome (event_of line) IsEvent
unfolding event_of
event_fits line = with_fits line (field line)

reads_fit : (o : Option Event) → IfSome o IsEvent → IsInRange (reads o)
reads_fit (Some event) is = is
reads_fit None is = tt

comment_by : (b : Bool) (o : Option Event) → IfSome o IsEvent → IsInRange (if b then Quiet else reads o)
comment_by true o is = tt
comment_by false o is = reads_fit o is

-- what is read is an event that a line can say
pub reading_fits : (line : List ℕ) → IsInRange (reading line)
unfolding reading
reading_fits [] = tt
reading_fits (c ∷ cs) = comment_by (c == 35) (event_of (c ∷ cs)) (event_fits (c ∷ cs))
