-- A line has a fault exactly where it has no reading.
use Rattle.std.proofs.Common.{◌≡◌, ℕ, ◌+◌, ◌==◌, Bool, true, false, ◌&&◌, not, List, [], ◌∷◌, length, Option, Some, None, refl, ap, ◌∙◌, sym}
use Rattle.std.specs.Prelude.{is_some, if◌then◌else◌}
use Rattle.std.specs.Str.{bytes_eq}
use Rattle.line_events.specs.declared.event.Event.{Event}
use Rattle.line_events.specs.declared.event.Event.TheVariants as events
use Rattle.line_script.specs.declared.kind.EventKind.{EventKind}
use Rattle.line_script.specs.declared.kind.EventKind.TheVariants as kinds
use Rattle.line_script.specs.declared.reading.Reading.TheVariants.{Quiet}
use Rattle.line_script.specs.Kinds.{kind_named, kind_word}
use Rattle.line_script.specs.Words.{◌>>=◌, Field, field, number, number_within, cost, eui, sixteen_octets, hex_octets, keeps_new}
use Rattle.line_script.specs.LineReader.{coordinator_of, meter_of, depot_of, near_of, counter_of, number_of, allow_of, rand_of, join_of, leave_of, send_of}
use Rattle.line_script.specs.LineReader.{deliver_of, inject_of, lose_of, break_of, tick_of, restart_of, cut_of, rekey_of, challenge_of, activate_of, kick_of}
use Rattle.line_script.specs.LineReader.{show_of, bcast_of, scan_of, choose_of, path_of, event_by, event_alone, event_with, event_of, reads, reading}
use Rattle.script_faults.specs.declared.form.WordKind.{WordKind}
use Rattle.script_faults.specs.declared.form.WordKind.TheVariants as words
use Rattle.script_faults.specs.declared.form.Form.{Form}
use Rattle.script_faults.specs.declared.form.Form.TheVariants.{Alone, One, Two, Three}
use Rattle.script_faults.specs.declared.fault.Fault.{Fault}
use Rattle.script_faults.specs.Forms.{form_of, is_word, wrong_unless, split_fault, last_fault, short_fault, two_fault, words_fault, alone_fault, spaced_fault}
use Rattle.script_faults.specs.Forms.{event_fault_by, event_fault, fault_of, has_reading}
use Rattle.script_faults.proofs.WordKinds.{some_then, eui_is, sixteen_is, cost_is}

-- # Words one after the other

-- a word of a kind, and then words that pass a test
abbrev pub first_by : WordKind → (List ℕ → Bool) → Option Field → Bool
first_by kind test None = false
first_by kind test (Some first) = is_word kind first.word && test first.rest

abbrev pub first_ok : WordKind → (List ℕ → Bool) → List ℕ → Bool
first_ok kind test rest = first_by kind test (field rest)

abbrev pub two_ok : WordKind → WordKind → List ℕ → Bool
two_ok kind last = first_ok kind (is_word last)

abbrev pub three_ok : WordKind → WordKind → WordKind → List ℕ → Bool
three_ok kind next last = first_ok kind (two_ok next last)

abbrev pub form_ok : Form → List ℕ → Bool
form_ok Alone rest = false
form_ok (One first) rest = is_word first rest
form_ok (Two first second) rest = two_ok first second rest
form_ok (Three first second third) rest = three_ok first second third rest

-- a reader reads the words of a kind
abbrev Reads : {A : Type 0} → (List ℕ → Option A) → WordKind → Type 0
Reads read kind = (word : List ℕ) → is_some (read word) ≡ is_word kind word

then_and : {A B : Type 0} (o : Option A) (f : A → Option B) (holds : Bool) → ((a : A) → is_some (f a) ≡ holds) → is_some (o >>= f) ≡ (is_some o && holds)
then_and None f holds all = refl
then_and (Some a) f holds all = all a

both : (a b c : Bool) → a ≡ b → (a && c) ≡ (b && c)
both a b c is = ap (λ x. x && c) is

two_by : {A B : Type 0} (p : List ℕ → Option A) (q : List ℕ → Option B) (f : A → B → Event) (k l : WordKind) → Reads p k → Reads q l → (o : Option Field)
    → is_some (o >>= λ x. p x.word >>= λ a. q x.rest >>= λ b. Some (f a b))
    ≡ first_by k (is_word l) o
two_by p q f k l pk ql None = refl
two_by p q f k l pk ql (Some x) =
    then_and (p x.word) (λ a. q x.rest >>= λ b. Some (f a b)) (is_word l x.rest) (λ a. some_then (q x.rest) (λ b. f a b) ∙ ql x.rest)
    ∙ both (is_some (p x.word)) (is_word k x.word) (is_word l x.rest) (pk x.word)

two : {A B : Type 0} (p : List ℕ → Option A) (q : List ℕ → Option B) (f : A → B → Event) (k l : WordKind) → Reads p k → Reads q l → (rest : List ℕ)
    → is_some (field rest >>= λ x. p x.word >>= λ a. q x.rest >>= λ b. Some (f a b)) ≡ two_ok k l rest
two p q f k l pk ql rest = two_by p q f k l pk ql (field rest)

three_by : {A B C : Type 0} (p : List ℕ → Option A) (q : List ℕ → Option B) (r : List ℕ → Option C) (f : A → B → C → Event) (k l m : WordKind)
    → Reads p k → Reads q l → Reads r m → (o : Option Field)
    → is_some (o >>= λ x. p x.word >>= λ a. field x.rest >>= λ y. q y.word >>= λ b. r y.rest >>= λ c. Some (f a b c))
    ≡ first_by k (two_ok l m) o
three_by p q r f k l m pk ql rm None = refl
three_by p q r f k l m pk ql rm (Some x) =
    then_and (p x.word) (λ a. field x.rest >>= λ y. q y.word >>= λ b. r y.rest >>= λ c. Some (f a b c)) (two_ok l m x.rest)
    (λ a. two q r (λ b c. f a b c) l m ql rm x.rest)
    ∙ both (is_some (p x.word)) (is_word k x.word) (two_ok l m x.rest) (pk x.word)

three : {A B C : Type 0} (p : List ℕ → Option A) (q : List ℕ → Option B) (r : List ℕ → Option C) (f : A → B → C → Event) (k l m : WordKind)
    → Reads p k → Reads q l → Reads r m → (rest : List ℕ)
    → is_some (field rest >>= λ x. p x.word >>= λ a. field x.rest >>= λ y. q y.word >>= λ b. r y.rest >>= λ c. Some (f a b c))
    ≡ three_ok k l m rest
three p q r f k l m pk ql rm rest = three_by p q r f k l m pk ql rm (field rest)

number_ok : (word : List ℕ) → is_some (number word) ≡ is_some (number word)
number_ok word = refl

within_ok : (low high : ℕ) (word : List ℕ) → is_some (number_within low high word) ≡ is_some (number_within low high word)
within_ok low high word = refl

octets_ok : (word : List ℕ) → is_some (hex_octets word) ≡ is_some (hex_octets word)
octets_ok word = refl

record_ok : (word : List ℕ) → is_some (keeps_new word) ≡ is_some (keeps_new word)
record_ok word = refl

-- # Each kind of line

coordinator_line : (rest : List ℕ) → is_some (coordinator_of rest) ≡ two_ok words.Eui words.Key rest
unfolding coordinator_of
coordinator_line rest = two eui sixteen_octets (λ who value. events.Coordinator who (record { 0 = value })) words.Eui words.Key eui_is sixteen_is rest

meter_line : (rest : List ℕ) → is_some (meter_of rest) ≡ two_ok words.Eui words.Key rest
unfolding meter_of
meter_line rest = two eui sixteen_octets (λ who value. events.Meter who (record { 0 = value })) words.Eui words.Key eui_is sixteen_is rest

depot_line : (rest : List ℕ) → is_some (depot_of rest) ≡ is_word words.Node rest
unfolding depot_of
depot_line rest = some_then (number rest) (λ node. events.Depot node)

near_line : (rest : List ℕ) → is_some (near_of rest) ≡ three_ok words.Node words.Node words.Cost rest
unfolding near_of
near_line rest = three number number cost (λ a b link. events.Near a b link) words.Node words.Node words.Cost number_ok number_ok cost_is rest

counter_line : (rest : List ℕ) → is_some (counter_of rest) ≡ two_ok words.Node words.Counter rest
unfolding counter_of
counter_line rest = two number number (λ node value. events.Counter node value) words.Node words.Counter number_ok number_ok rest

number_line : (rest : List ℕ) → is_some (number_of rest) ≡ two_ok words.Node words.Own rest
unfolding number_of
number_line rest = two number (number_within 1 65535) (λ node value. events.Number node value) words.Node words.Own number_ok (within_ok 1 65535) rest

allow_line : (rest : List ℕ) → is_some (allow_of rest) ≡ is_word words.Node rest
unfolding allow_of
allow_line rest = some_then (number rest) (λ node. events.Allow node)

rand_line : (rest : List ℕ) → is_some (rand_of rest) ≡ two_ok words.Node words.Random rest
unfolding rand_of
rand_line rest = two number sixteen_octets (λ node value. events.RandomOctets node (record { 0 = value })) words.Node words.Random number_ok sixteen_is rest

join_line : (rest : List ℕ) → is_some (join_of rest) ≡ two_ok words.Node words.Node rest
unfolding join_of
join_line rest = two number number (λ node agent. events.Join node agent) words.Node words.Node number_ok number_ok rest

leave_line : (rest : List ℕ) → is_some (leave_of rest) ≡ is_word words.Node rest
unfolding leave_of
leave_line rest = some_then (number rest) (λ node. events.Leave node)

send_line : (rest : List ℕ) → is_some (send_of rest) ≡ three_ok words.Node words.Node words.Octets rest
unfolding send_of
send_line rest =
    three number number hex_octets (λ from to datagram. events.Send from to datagram) words.Node words.Node words.Octets number_ok number_ok octets_ok rest

deliver_line : (rest : List ℕ) → is_some (deliver_of rest) ≡ three_ok words.Flight words.Node words.Cost rest
unfolding deliver_of
deliver_line rest =
    three number number cost (λ flight node link. events.Deliver flight node link) words.Flight words.Node words.Cost number_ok number_ok cost_is rest

inject_line : (rest : List ℕ) → is_some (inject_of rest) ≡ three_ok words.Node words.Cost words.Octets rest
unfolding inject_of
inject_line rest =
    three number cost hex_octets (λ node link brought. events.Inject node link brought) words.Node words.Cost words.Octets number_ok cost_is octets_ok rest

lose_line : (rest : List ℕ) → is_some (lose_of rest) ≡ is_word words.Flight rest
unfolding lose_of
lose_line rest = some_then (number rest) (λ flight. events.Lose flight)

break_line : (rest : List ℕ) → is_some (break_of rest) ≡ two_ok words.Node words.Node rest
unfolding break_of
break_line rest = two number number (λ node next. events.Break node next) words.Node words.Node number_ok number_ok rest

tick_line : (rest : List ℕ) → is_some (tick_of rest) ≡ is_word words.Seconds rest
unfolding tick_of
tick_line rest = some_then (number_within 1 86400 rest) (λ seconds. events.Tick seconds)

restart_line : (rest : List ℕ) → is_some (restart_of rest) ≡ is_word words.Node rest
unfolding restart_of
restart_line rest = some_then (number rest) (λ node. events.Restart node)

cut_line : (rest : List ℕ) → is_some (cut_of rest) ≡ three_ok words.Node words.Write words.Record rest
unfolding cut_of
cut_line rest = three number (number_within 1 1000) keeps_new (λ node nth keeps. events.Cut node nth keeps) words.Node words.Write words.Record number_ok
    (within_ok 1 1000) record_ok rest

rekey_line : (rest : List ℕ) → is_some (rekey_of rest) ≡ two_ok words.Index words.Key rest
unfolding rekey_of
rekey_line rest =
    two (number_within 0 1) sixteen_octets (λ index value. events.Rekey index (record { 0 = value })) words.Index words.Key (within_ok 0 1) sixteen_is rest

challenge_line : (rest : List ℕ) → is_some (challenge_of rest) ≡ is_word words.Node rest
unfolding challenge_of
challenge_line rest = some_then (number rest) (λ node. events.Challenge node)

activate_line : (rest : List ℕ) → is_some (activate_of rest) ≡ two_ok words.Node words.Index rest
unfolding activate_of
activate_line rest = two number (number_within 0 1) (λ node index. events.Activate node index) words.Node words.Index number_ok (within_ok 0 1) rest

kick_line : (rest : List ℕ) → is_some (kick_of rest) ≡ is_word words.Node rest
unfolding kick_of
kick_line rest = some_then (number rest) (λ node. events.Kick node)

show_line : (rest : List ℕ) → is_some (show_of rest) ≡ is_word words.Node rest
unfolding show_of
show_line rest = some_then (number rest) (λ node. events.Show node)

bcast_line : (rest : List ℕ) → is_some (bcast_of rest) ≡ two_ok words.Node words.Octets rest
unfolding bcast_of
bcast_line rest = two number hex_octets (λ node datagram. events.Bcast node datagram) words.Node words.Octets number_ok octets_ok rest

scan_line : (rest : List ℕ) → is_some (scan_of rest) ≡ is_word words.Node rest
unfolding scan_of
scan_line rest = some_then (number rest) (λ node. events.Scan node)

choose_line : (rest : List ℕ) → is_some (choose_of rest) ≡ two_ok words.Node words.Choice rest
unfolding choose_of
choose_line rest = two number (number_within 1 16) (λ node k. events.Choose node k) words.Node words.Choice number_ok (within_ok 1 16) rest

path_line : (rest : List ℕ) → is_some (path_of rest) ≡ two_ok words.Node words.Node rest
unfolding path_of
path_line rest = two number number (λ from to. events.Path from to) words.Node words.Node number_ok number_ok rest

pub line_by : (kind : EventKind) (rest : List ℕ) → is_some (event_by kind rest) ≡ form_ok (form_of kind) rest
unfolding event_by
line_by kinds.Coordinator rest = coordinator_line rest
line_by kinds.Meter rest = meter_line rest
line_by kinds.Depot rest = depot_line rest
line_by kinds.Near rest = near_line rest
line_by kinds.Counter rest = counter_line rest
line_by kinds.Number rest = number_line rest
line_by kinds.Allow rest = allow_line rest
line_by kinds.RandomOctets rest = rand_line rest
line_by kinds.Join rest = join_line rest
line_by kinds.Leave rest = leave_line rest
line_by kinds.Send rest = send_line rest
line_by kinds.Deliver rest = deliver_line rest
line_by kinds.Inject rest = inject_line rest
line_by kinds.Lose rest = lose_line rest
line_by kinds.Break rest = break_line rest
line_by kinds.Tick rest = tick_line rest
line_by kinds.Restart rest = restart_line rest
line_by kinds.Cut rest = cut_line rest
line_by kinds.Rekey rest = rekey_line rest
line_by kinds.Challenge rest = challenge_line rest
line_by kinds.Activate rest = activate_line rest
line_by kinds.Kick rest = kick_line rest
line_by kinds.Show rest = show_line rest
line_by kinds.Bcast rest = bcast_line rest
line_by kinds.Scan rest = scan_line rest
line_by kinds.Choose rest = choose_line rest
line_by kinds.Path rest = path_line rest
line_by kinds.Checks rest = refl

-- # Faults

wrong_is : (test : Bool) (kind : WordKind) (at : ℕ) (word : List ℕ) (fault : Fault) → is_some (wrong_unless test kind at word (Some fault)) ≡ true
wrong_is true kind at word fault = refl
wrong_is false kind at word fault = refl

split_is : (o : Option Field) (kind : WordKind) (at : ℕ) (rest : List ℕ) → is_some (split_fault o kind at rest) ≡ true
split_is None kind at rest = refl
split_is (Some first) kind at rest = wrong_is (is_word kind first.word) kind at first.word _

last_by : (test : Bool) (kind : WordKind) (at : ℕ) (rest : List ℕ) → is_some (if test then None else split_fault (field rest) kind at rest) ≡ not test
last_by true kind at rest = refl
last_by false kind at rest = split_is (field rest) kind at rest

wrong_by : (test : Bool) (kind : WordKind) (at : ℕ) (word : List ℕ) (o : Option Fault) (holds : Bool) → is_some o ≡ not holds
    → is_some (wrong_unless test kind at word o) ≡ not (test && holds)
wrong_by true kind at word o holds is = is
wrong_by false kind at word o holds is = refl

two_split : (o : Option Field) (kind last : WordKind) (at : ℕ) (rest : List ℕ)
    → is_some (elim o [
      | None ↦ short_fault kind last at rest
      | Some first ↦ wrong_unless (is_word kind first.word) kind at first.word (last_fault last (at + length first.word + 1) first.rest)
    ])
    ≡ not (first_by kind (is_word last) o)
two_split None kind last at rest = wrong_is (is_word kind rest) kind at rest _
two_split (Some first) kind last at rest =
    wrong_by (is_word kind first.word) kind at first.word (last_fault last (at + length first.word + 1) first.rest) (is_word last first.rest)
    (last_by (is_word last first.rest) last (at + length first.word + 1) first.rest)

three_split : (o : Option Field) (kind next last : WordKind) (at : ℕ) (rest : List ℕ)
    → is_some (elim o [
      | None ↦ short_fault kind next at rest
      | Some first ↦ wrong_unless (is_word kind first.word) kind at first.word (two_fault next last (at + length first.word + 1) first.rest)
    ])
    ≡ not (first_by kind (two_ok next last) o)
three_split None kind next last at rest = wrong_is (is_word kind rest) kind at rest _
three_split (Some first) kind next last at rest =
    wrong_by (is_word kind first.word) kind at first.word (two_fault next last (at + length first.word + 1) first.rest) (two_ok next last first.rest)
    (two_split (field first.rest) next last (at + length first.word + 1) first.rest)

words_are : (form : Form) (at : ℕ) (rest : List ℕ) → is_some (words_fault form at rest) ≡ not (form_ok form rest)
words_are Alone at rest = refl
words_are (One first) at rest = last_by (is_word first rest) first at rest
words_are (Two first second) at rest = two_split (field rest) first second at rest
words_are (Three first second third) at rest = three_split (field rest) first second third at rest

-- # Lines

alone_by : (test : Bool) (kind : Option EventKind) (octets : List ℕ)
    → is_some (alone_fault test kind octets) ≡ not (is_some (if test then Some events.Checks else None))
alone_by true kind octets = refl
alone_by false None octets = refl
alone_by false (Some kind) octets = refl

spaced_by : (kind : Option EventKind) (first : Field)
    → is_some (spaced_fault kind first) ≡ not (is_some (kind >>= λ k. event_by k first.rest))
spaced_by None first = refl
spaced_by (Some kind) first = words_are (form_of kind) (length first.word + 1) first.rest ∙ ap not (sym (line_by kind first.rest))

event_fault_is : (o : Option Field) (octets : List ℕ) → is_some (event_fault_by o octets) ≡ not (is_some (event_with octets o))
unfolding event_alone
event_fault_is None octets = alone_by (bytes_eq octets (kind_word kinds.Checks)) (kind_named octets) octets
event_fault_is (Some first) octets = spaced_by (kind_named first.word) first

pub reads_is : (o : Option Event) → has_reading (reads o) ≡ is_some o
reads_is None = refl
reads_is (Some event) = refl

quiet_by : (test : Bool) (octets : List ℕ)
    → is_some (if test then None else event_fault octets) ≡ not (has_reading (if test then Quiet else reads (event_of octets)))
unfolding event_of
quiet_by true octets = refl
quiet_by false octets = event_fault_is (field octets) octets ∙ ap not (sym (reads_is (event_with octets (field octets))))

pub faults_are : (line : List ℕ) → is_some (fault_of line) ≡ not (has_reading (reading line))
unfolding fault_of reading
faults_are [] = refl
faults_are (c ∷ cs) = quiet_by (c == 35) (c ∷ cs)
