-- What a doing keeps and sends is octets: the bodies that wait, random values and the ends of joinings; units and plain frames. A command
-- is no longer than it may be.
use Rattle.std.proofs.Common.{◌≡◌, ℕ, ◌+◌, ◌≤◌, Bool, true, false, List, [], ◌∷◌, length, Option, Some, None, Result, Ok, Err, refl, arith}
use Rattle.std.specs.Prelude.{if◌then◌else◌, All, IfSome, not, nat_lt}
use Rattle.std.specs.List.{filter, flat_map}
use Rattle.std.specs.Option.{option_map_or}
use Rattle.std.proofs.lemmas.List.{length-append}
use Rattle.std.proofs.lemmas.List.Elements.{All-nil, All-cons, All-head, All-tail, All-push, All-append, All-map, All-weaker, All-filter}
use Rattle.plc_base.specs.declared.address.TheConstants.{PAN}
use Rattle.plc_base.specs.Fields.{AreOctets}
use Rattle.plc_base.proofs.OctetLists.{front, remainder}
use Rattle.plc_base.specs.Grant.{Granted}
use Rattle.plc_base.specs.declared.address.Eui.{Eui}
use Rattle.plc_base.specs.declared.key.Key.{Key}
use Rattle.plc_base.specs.declared.key.RandomOctets.{RandomOctets}
use Rattle.plc_base.specs.declared.tags.PairTag.{PairTag}
use Rattle.group_keys.specs.declared.key_book.BookEntry.{BookEntry}
use Rattle.group_keys.specs.KeyRing as ring
use Rattle.eap_psk.specs.declared.peer.Peer.{Peer}
use Rattle.joining_messages.specs.declared.message.JoinMessage.{JoinMessage}
use Rattle.joining_messages.specs.declared.message.JoinBody.{JoinBody}
use Rattle.joining_messages.specs.Messages as joining
use Rattle.joining_messages.specs.Laws as joins
use Rattle.joining_messages.proofs.JoinOctets.{spelling_octets as join_octets}
use Rattle.loadng_messages.specs.declared.message.Message.{Message}
use Rattle.loadng_messages.specs.declared.message.Message.TheVariants.{Rreq, Rrep, Rerr}
use Rattle.loadng_messages.specs.Grammar as messages
use Rattle.loadng_messages.proofs.MessageOctets.{message_octets}
use Rattle.mesh_header.specs.declared.unit.Unit.{Unit as MeshUnit}
use Rattle.mesh_header.specs.declared.unit.Unit.TheVariants as units
use Rattle.mesh_header.specs.Grammar.{spelling}
use Rattle.mesh_header.specs.Reader.{unit_in}
use Rattle.mesh_header.specs.Laws.{HasOctets, SpellsOctets}
use Rattle.mesh_header.proofs.UnitOctets.{spelling_octets, read_octets}
use Rattle.mac_frames.specs.declared.head.MacHead.TheVariants as heads
use Rattle.mac_frames.specs.Sent.{sealed_body}
use Rattle.mac_frames.proofs.FrameOctets.{header_octets, sealed_octets}
use Rattle.fragment_buffers.specs.Loads.{load_octets, IsShort}
use Rattle.fragment_buffers.proofs.LoadOctets.{load_octets_spelled}
use Rattle.node_rules.specs.declared.heard.Heard.{Heard}
use Rattle.node_rules.specs.Ciphers.{network}
use Rattle.node_rules.specs.Frames.{SealedUnit, Sent, Sealed, Up, Down, head_of, joining_unit, spelled}
use Rattle.node_rules.specs.HearingRules.{Hearing, dropped, hop_less}
use Rattle.node_rules.specs.Memory.{StationMemory, Memory, Body, Load, Datagram, Command, MeterSession, CoordinatorSession, address_of, next_hop}
use Rattle.node_rules.specs.Plans.{Plan, resting, within}
use Rattle.node_rules.specs.Drafts.{Draft, Ends, UnsealedUnit, alone, empty_draft, with_rank, with_own_number, with_next_tag, with_ring, with_routing_by, goes}
use Rattle.node_rules.specs.Drafts.{body_goes, waits, leave, waits_for, all_go, units_of, is_awaited, seeks, seeks_once, sets_out, sealed_units, sealed_by}
use Rattle.node_rules.specs.Drafts.{sealing_key, counters_left, refused, sealing, sealed, checked, choose}
use Rattle.node_rules.specs.MemoryDrafts.{in_memory, with_station, on_station, station_part, with_memory_by, with_pair_tags, goes_up, goes_down, is_commanded}
use Rattle.node_rules.specs.Coordinators.{with_book_entry}
use Rattle.node_rules.specs.JoiningPackets.{command_of}
use Rattle.node_rules.proofs.MemoryDraftShapes.{whole, reading}
use Rattle.line_laws.specs.Stores.{IsReadable, HasEui}
use Rattle.line_laws.proofs.CoordinatorCalls.{ring_key_octets}
use Rattle.node_rules.specs.OctetLaws.{WayFits}
use Rattle.line_laws.proofs.HearingForms.{Handed, HandsUp, HandsOn, Gathers, Completes, MadeOf}
use Rattle.line_laws.proofs.Made.{Given, IsCome, IsLess, Whole, Part, Carried, Made, Starts, Ranks, Numbers, Tags, Rings, Idles, Loses, Goes, Sends, Waits}
use Rattle.line_laws.proofs.Made.{Leaves, IsSaid, Seeks, Answers, Relays, Passes, SaysTheSame, Forwards}
use Rattle.line_laws.proofs.NodeCalls.{NoWord}
use Rattle.line_laws.proofs.Planned.{Planned, Refuses, Keeps, Ended}
use Rattle.line_laws.proofs.StoreFold.{ring_fits}

-- # What is said

-- a command that is no longer than it may be
abbrev pub IsCommandShort : Load → Type 0
IsCommandShort (Datagram octets tag) = Unit {0}
IsCommandShort (Command octets) = length octets ≤ 374

-- a load of octets, which is short
abbrev pub LoadSpeaks : Load → Type 0
LoadSpeaks load = AreOctets (load_octets load) × IsShort load × IsCommandShort load

-- A joining message of octets, which a command has room for.
pub record JoinSpeaks (join : JoinMessage) : Type 0 where
  pub octets : joins.HasOctets join
  pub short : length (command_of join) ≤ 374

-- an EUI and 364 octets
pub command_short : (join : JoinMessage) → length join.eui.0 ≡ 8 → length (joining.rest_of join.body) ≤ 364 → length (command_of join) ≤ 374
command_short join eight rest = let both = length-append join.eui.0 (joining.rest_of join.body) in omega arith

pub join_speaks : (eui : Eui) (b : JoinBody) → HasEui eui → AreOctets (joining.rest_of b) → length (joining.rest_of b) ≤ 364
    → JoinSpeaks (record { eui = eui; body = b })
join_speaks eui b own all rest = record { octets = record { eui = own.1; rest = all }; short = command_short (record { eui = eui; body = b }) own.0 rest }

-- the unit of a route message
route_octets : (m : Message) → SpellsOctets (units.Local 1 (messages.spelling m))
route_octets m = spelling_octets (units.Local 1 (messages.spelling m)) (omega arith, message_octets m)

-- # What is kept

abbrev pub BodySpeaks : Body → Type 0
BodySpeaks b = LoadSpeaks b.load

abbrev pub RandSpeaks : RandomOctets → Type 0
RandSpeaks value = AreOctets value.0 × (length value.0 ≤ 16)

-- a peer names itself, and repeats the server's random value
abbrev pub PeerSpeaks : Peer → Type 0
PeerSpeaks p = AreOctets p.eui.0 × AreOctets p.rand_s.0 × (length p.rand_s.0 ≤ 16)

abbrev pub SessionSpeaks : MeterSession → Type 0
SessionSpeaks s = IfSome s.peer PeerSpeaks

-- a server names the meter, and repeats its own random value; over the mesh it speaks to one node
abbrev pub ServerSpeaks : CoordinatorSession → Type 0
ServerSpeaks s = HasEui s.server.eui × AreOctets s.server.rand_s.0 × (length s.server.rand_s.0 ≤ 16) × WayFits s.way

-- What a node holds beside its store and may say later is octets, no longer than a random value is, and goes to one node.
pub record MemorySpeaks (m : Memory) : Type 0 where
  pub waiting : All BodySpeaks m.station.waiting
  pub randoms : All RandSpeaks m.randoms
  pub session : IfSome m.session SessionSpeaks
  pub sessions : All ServerSpeaks m.sessions

-- # What is sent

abbrev pub OutSpeaks : UnsealedUnit → Type 0
OutSpeaks o = SpellsOctets o.unit

abbrev pub PlainSpeaks : Sent → Type 0
PlainSpeaks (Sealed l) = ⊥
PlainSpeaks (Up agent from message) = AreOctets from.0 × JoinSpeaks message
PlainSpeaks (Down from message) = JoinSpeaks message

-- a frame of the network is octets
abbrev pub SentOctets : Sent → Type 0
SentOctets f = AreOctets (spelled network f).octets

-- What is being done on the line.
pub record DraftSpeaks (d : Draft StationMemory) : Type 0 where
  pub ring : IfSome d.memory.ring IsReadable
  pub waiting : All BodySpeaks d.memory.waiting
  pub units : All OutSpeaks d.units
  pub plain : All PlainSpeaks d.plain

-- What is being done over all of the memory.
pub record DraftSpeaksIn (d : Draft Memory) : Type 0 where
  pub ring : IfSome d.memory.station.ring IsReadable
  pub memory : MemorySpeaks d.memory
  pub units : All OutSpeaks d.units
  pub plain : All PlainSpeaks d.plain

-- # Frames

sealed_unit_octets : (l : SealedUnit) → l.index ≤ 1 → AreOctets l.key.0 → SpellsOctets l.unit → SentOctets (Sealed l)
unfolding spelled
sealed_unit_octets l low fits unit = header_octets (head_of l) (sealed_body l.key.0 (head_of l) (spelling l.unit)) (remainder l.counter, omega arith)
    (sealed_octets l.key.0 (head_of l) (spelling l.unit) fits unit)

joining_octets : (message : JoinMessage) → JoinSpeaks message → SpellsOctets (joining_unit message)
joining_octets message h = spelling_octets (joining_unit message) (omega arith, join_octets message h.octets)

plain_octets : (f : Sent) → PlainSpeaks f → SentOctets f
unfolding spelled
plain_octets (Sealed l) h = absurd h
plain_octets (Up agent from message) h =
    header_octets (heads.Up true 1 0 PAN agent from) (spelling (joining_unit message)) (omega arith, omega arith, h.0) (joining_octets message h.1)
plain_octets (Down from message) h = header_octets (heads.Down true 1 0 PAN message.eui from) (spelling (joining_unit message))
    (omega arith, omega arith, h.octets.eui) (joining_octets message h)

sealed_units_speak : (g : Granted) (key : Key) (first : ℕ) (us : List UnsealedUnit) → g.active ≤ 1 → AreOctets key.0 → All OutSpeaks us
    → All SentOctets (sealed_units g key first us)
sealed_units_speak g key first [] low fits all = All-nil SentOctets
sealed_units_speak g key first (o ∷ rest) low fits all =
    All-cons SentOctets (Sealed (record { to = o.to; from = g.address; counter = first; index = g.active; key = key; unit = o.unit; note = o.note }))
    (sealed_units g key (first + 1) rest)
    (sealed_unit_octets (record { to = o.to; from = g.address; counter = first; index = g.active; key = key; unit = o.unit; note = o.note }) low fits
    (All-head OutSpeaks o rest all))
    (sealed_units_speak g key (first + 1) rest low fits (All-tail OutSpeaks o rest all))

pub sealed_speak : (r : ring.Ring) (first : ℕ) (us : List UnsealedUnit) → IfSome r IsReadable → All OutSpeaks us → All SentOctets (sealed_by r first us)
sealed_speak None first us reads all = All-nil SentOctets
sealed_speak (Some g) first us reads all = by_key (sealing_key g) refl
  where
    by_key : (key : Option Key) → sealing_key g ≡ key → All SentOctets (option_map_or (λ k. sealed_units g k first us) key [])
    by_key None e = All-nil SentOctets
    by_key (Some key) e = sealed_units_speak g key first us reads.grant.index (ring_key_octets (Some g) g.active key reads e) all

-- # Plans

-- What a plan leaves and sends is octets.
pub record PlanSpeaks {A : Type 0} (p : Plan Memory A) : Type 0 where
  pub memory : MemorySpeaks p.memory
  pub frames : All SentOctets p.frames

abbrev pub KeepsSpeaking : {H : Type 0} → Memory → H → Type 0
KeepsSpeaking n answer = MemorySpeaks n

abbrev pub DoesSpeak : {H : Type 0} → Draft Memory → H → Type 0
DoesSpeak d answer = DraftSpeaksIn d

pub sealing_speaks : {H F : Type 0} (ends : Ends F) (d : Draft Memory) (answer : H) → DraftSpeaksIn d → PlanSpeaks (sealing in_memory ends d answer)
sealing_speaks ends d answer done = record {
  memory = record { waiting = done.memory.waiting; randoms = done.memory.randoms; session = done.memory.session; sessions = done.memory.sessions };
  frames = All-append SentOctets d.plain (sealed_by d.memory.station.ring d.memory.station.counter.next d.units)
      (All-weaker PlainSpeaks SentOctets plain_octets d.plain done.plain)
      (sealed_speak d.memory.station.ring d.memory.station.counter.next d.units done.ring done.units);
}

pub rests_speaks : {A : Type 0} (n : Memory) (answer failed : A) → MemorySpeaks n → PlanSpeaks (resting n answer failed)
unfolding resting
rests_speaks n answer failed h = record { memory = h; frames = All-nil SentOctets }

pub planned_speaks : {H F : Type 0} (ends : Ends F) (m : Memory) (p : Plan Memory (Result H F)) → Planned in_memory ends m KeepsSpeaking DoesSpeak p
    → MemorySpeaks m → PlanSpeaks p
planned_speaks ends m p (Refuses reason) h = rests_speaks m (Err reason) (Err ends.store) h
planned_speaks ends m p (Keeps n answer k) h = rests_speaks n (Ok answer) (Err ends.store) k
planned_speaks ends m p (Ended d answer done left) h = sealing_speaks ends d answer done

-- by the cases of a test, and of a look-up
pub choose_speaks : {A : Type 0} {test : Bool} {p q : Plan Memory A} → (test ≡ true → PlanSpeaks p) → (test ≡ false → PlanSpeaks q)
    → PlanSpeaks (choose test p q)
unfolding choose
choose_speaks {test = true} s t = s refl
choose_speaks {test = false} s t = t refl

pub option_speaks : {A X : Type 0} (f : X → Plan Memory A) (x : Option X) (p : Plan Memory A) → ((y : X) → x ≡ Some y → PlanSpeaks (f y)) → PlanSpeaks p
    → PlanSpeaks (option_map_or f x p)
option_speaks f None p s t = t
option_speaks f (Some y) p s t = s y refl

-- a plan of a memory that speaks
module _ (m : Memory) (h : MemorySpeaks m) where
  pub refuses : {H F : Type 0} (reason store : F) → PlanSpeaks (resting {A = Result H F} m (Err reason) (Err store))
  refuses reason store = rests_speaks m (Err reason) (Err store) h

  pub checked_speaks : {H F : Type 0} (ends : Ends F) {fault : Option F} {p : Plan Memory (Result H F)} → (fault ≡ None → PlanSpeaks p)
      → PlanSpeaks (checked ends m fault p)
  unfolding checked
  checked_speaks ends {fault = None} s = s refl
  checked_speaks ends {fault = Some reason} s = rests_speaks m (Err reason) (Err ends.store) h

  pub sealed_speaks : {H F : Type 0} (ends : Ends F) (answer : H) (d : Draft Memory) → DraftSpeaksIn d → PlanSpeaks (sealed in_memory ends m d answer)
  unfolding sealed
  sealed_speaks ends answer d done = by_test (nat_lt (counters_left m.station) (length d.units))
    where
      by_test : (b : Bool) → PlanSpeaks (if b then refused ends m ends.spent else sealing in_memory ends d answer)
      by_test true = rests_speaks m (Err ends.spent) (Err ends.store) h
      by_test false = sealing_speaks ends d answer done

-- # What comes

-- what a unit that came gives to a unit that goes on
abbrev pub UnitSpeaks : MeshUnit → Type 0
UnitSpeaks u = HasOctets u

pub unit_speaks : (payload : List ℕ) (u : MeshUnit) → AreOctets payload → unit_in payload ≡ Some u → UnitSpeaks u
unit_speaks payload u are e = read_octets u payload are e

less_speaks : (u less : MeshUnit) → IsLess u less → UnitSpeaks u → SpellsOctets less
less_speaks u less (Whole mesh octets) h = spelling_octets (units.Whole (hop_less mesh) octets) (let low = h.0 in omega arith, h.1)
less_speaks u less (Part mesh piece) h = spelling_octets (units.Part (hop_less mesh) piece) (let low = h.0 in omega arith, h.1, h.2)
less_speaks u less (Carried mesh octets) h = spelling_octets (units.Carried (hop_less mesh) octets) (let low = h.0 in omega arith, h.1)

-- the units of bodies that leave
bodies_speak : (own hop : ℕ) (bodies : List Body) → All BodySpeaks bodies → All OutSpeaks (flat_map (λ b. all_go hop b.note (units_of own b.to b.load)) bodies)
bodies_speak own hop [] all = All-nil OutSpeaks
bodies_speak own hop (b ∷ bodies) all =
    All-append OutSpeaks (all_go hop b.note (units_of own b.to b.load)) (flat_map (λ x. all_go hop x.note (units_of own x.to x.load)) bodies)
    (load_goes own b.to hop b.note b.load (All-head BodySpeaks b bodies all)) (bodies_speak own hop bodies (All-tail BodySpeaks b bodies all))
  where
    load_goes : (own to hop note : ℕ) (load : Load) → LoadSpeaks load → All OutSpeaks (all_go hop note (units_of own to load))
    load_goes own to hop note load h = All-map OutSpeaks (λ unit. record { to = hop; unit = unit; note = note }) (units_of own to load)
        (λ k u lt. load_octets_spelled own to load h.0 h.1 k u lt)

-- # Words of the line

-- what a rule makes of a frame brings no body and no grant
module _ (g : Given) (comes : (by : ℕ) (all : Bool) (u : MeshUnit) → IsCome g by all u → UnitSpeaks u) where
  said_speaks : (s d : Draft StationMemory) (to : ℕ) (unit : MeshUnit) (note : ℕ) → IsSaid NoWord g s d to unit note → SpellsOctets unit
  said_speaks s d to unit note (Seeks own dest number n load here last some carried) = absurd carried
  said_speaks s d to unit note (Answers own by origin number n c dest here last some came_so) = route_octets (Rrep number 0 own origin)
  said_speaks s d to unit note (Relays by origin dest n c rank o just came_so) = route_octets (Rreq rank.number rank.cost origin dest)
  said_speaks s d to unit note (Passes by origin t hop n c rank o just came_so there) = route_octets (Rrep rank.number rank.cost origin t)
  said_speaks s d to unit note (SaysTheSame hop lost t dest why there) = route_octets (Rerr lost t)
  said_speaks s d to unit note (Forwards by hop dest u less came is there) = less_speaks u less is (comes by false u came)

  pub made_speaks : (s d : Draft StationMemory) → Made NoWord g s d → DraftSpeaks s → DraftSpeaks d
  unfolding with_rank with_own_number with_next_tag with_ring with_routing_by goes body_goes waits leave
  made_speaks s d Starts h = h
  made_speaks s d (Ranks by origin rank e made o fits) h =
      let r = made_speaks s e made h in record { ring = r.ring; waiting = r.waiting; units = r.units; plain = r.plain }
  made_speaks s d (Numbers e made left) h = let r = made_speaks s e made h in record { ring = r.ring; waiting = r.waiting; units = r.units; plain = r.plain }
  made_speaks s d (Tags e made first) h = let r = made_speaks s e made h in record { ring = r.ring; waiting = r.waiting; units = r.units; plain = r.plain }
  made_speaks s d (Rings x e made change) h = let r = made_speaks s e made h in
      record { ring = ring_fits NoWord (λ w none. absurd none) e.memory.ring x change r.ring; waiting = r.waiting; units = r.units; plain = r.plain }
  made_speaks s d (Idles e made) h = let r = made_speaks s e made h in record { ring = r.ring; waiting = All-nil BodySpeaks; units = r.units; plain = r.plain }
  made_speaks s d (Loses lost by e made) h = let r = made_speaks s e made h in record { ring = r.ring; waiting = r.waiting; units = r.units; plain = r.plain }
  made_speaks s d (Goes to unit note e made said lone) h =
      let r = made_speaks s e made h in
      record {
        ring = r.ring;
        waiting = r.waiting;
        units = All-push OutSpeaks e.units (record { to = to; unit = unit; note = note }) r.units (said_speaks s e to unit note said);
        plain = r.plain;
      }
  made_speaks s d (Sends own hop to note load e made here there short carried lone) h = absurd carried
  made_speaks s d (Waits to note load now e made none room short carried lone) h = absurd carried
  made_speaks s d (Leaves own dest hop rank e made here o) h =
      let r = made_speaks s e made h in
      record {
        ring = r.ring;
        waiting = All-filter (λ b. not (waits_for dest b)) BodySpeaks e.memory.waiting r.waiting;
        units = All-append OutSpeaks e.units _ r.units
            (bodies_speak own hop (filter (waits_for dest) e.memory.waiting) (All-filter (waits_for dest) BodySpeaks e.memory.waiting r.waiting));
        plain = r.plain;
      }

  -- what the line makes of a frame, over all of the memory
  module _ (m : Memory) (h : MemorySpeaks m) (reads : IfSome m.station.ring IsReadable) where
    handed_speaks : (n : StationMemory) (a : Heard) → Handed g m.station n a → MemorySpeaks (with_station n m)
    handed_speaks n a (HandsUp by own mesh octets came here mine) =
        record { waiting = h.waiting; randoms = h.randoms; session = h.session; sessions = h.sessions }
    handed_speaks n a (HandsOn x none) = record { waiting = h.waiting; randoms = h.randoms; session = h.session; sessions = h.sessions }
    handed_speaks n a (Gathers by own mesh piece came here mine e) =
        record { waiting = h.waiting; randoms = h.randoms; session = h.session; sessions = h.sessions }
    handed_speaks n a (Completes by own mesh piece note octets came here mine e) =
        record { waiting = h.waiting; randoms = h.randoms; session = h.session; sessions = h.sessions }

    begun_line : DraftSpeaks (empty_draft m.station)
    unfolding empty_draft
    begun_line = record { ring = reads; waiting = h.waiting; units = All-nil OutSpeaks; plain = All-nil PlainSpeaks }

    line_planned : {H : Type 0} (word : Heard → H) (p : Hearing) → Planned alone dropped m.station (Handed g m.station) (MadeOf NoWord g m.station) p
        → Planned in_memory dropped m KeepsSpeaking DoesSpeak (within (λ l. with_station l m) (reading word) p)
    unfolding resting
    line_planned word p (Refuses reason) = Refuses reason
    line_planned word p (Keeps n answer k) = Keeps (with_station n m) (word answer) (handed_speaks n answer k)
    line_planned word p (Ended d answer done left) =
        let r = made_speaks (empty_draft m.station) d done.0 begun_line in
        Ended (whole m d) (word answer) (record {
          ring = r.ring;
          memory = record { waiting = r.waiting; randoms = h.randoms; session = h.session; sessions = h.sessions };
          units = r.units;
          plain = r.plain;
        }) left

    pub line_speaks : {H : Type 0} (word : Heard → H) (p : Hearing) → Planned alone dropped m.station (Handed g m.station) (MadeOf NoWord g m.station) p
        → PlanSpeaks (within (λ l. with_station l m) (reading word) p)
    line_speaks word p s = planned_speaks dropped m (within (λ l. with_station l m) (reading word) p) (line_planned word p s) h

-- # Words over all of the memory

pub begun_speaks : (m : Memory) → MemorySpeaks m → IfSome m.station.ring IsReadable → DraftSpeaksIn (empty_draft m)
unfolding empty_draft
begun_speaks m h reads = record { ring = reads; memory = h; units = All-nil OutSpeaks; plain = All-nil PlainSpeaks }

pub remembers_speaks : (change : Memory → Memory) (d : Draft Memory) → DraftSpeaksIn d → IfSome (change d.memory).station.ring IsReadable
    → MemorySpeaks (change d.memory) → DraftSpeaksIn (with_memory_by change d)
unfolding with_memory_by
remembers_speaks change d s reads h = record { ring = reads; memory = h; units = s.units; plain = s.plain }

pub tagged_speaks : (made opened : List PairTag) (d : Draft Memory) → DraftSpeaksIn d → DraftSpeaksIn (with_pair_tags made opened d)
unfolding with_pair_tags
tagged_speaks made opened d s = record { ring = s.ring; memory = s.memory; units = s.units; plain = s.plain }

pub entered_speaks : (e : BookEntry) (d : Draft Memory) → DraftSpeaksIn d → DraftSpeaksIn (with_book_entry e d)
unfolding with_book_entry
entered_speaks e d s = record {
  ring = s.ring;
  memory = record { waiting = s.memory.waiting; randoms = s.memory.randoms; session = s.memory.session; sessions = s.memory.sessions };
  units = s.units;
  plain = s.plain;
}

pub up_speaks : (agent : ℕ) (own : Eui) (message : JoinMessage) (d : Draft Memory) → DraftSpeaksIn d → AreOctets own.0 → JoinSpeaks message
    → DraftSpeaksIn (goes_up agent own message d)
unfolding goes_up
up_speaks agent own message d s named says =
    record { ring = s.ring; memory = s.memory; units = s.units; plain = All-push PlainSpeaks d.plain (Up agent own message) s.plain (named, says) }

pub down_speaks : (own : ℕ) (message : JoinMessage) (d : Draft Memory) → DraftSpeaksIn d → JoinSpeaks message → DraftSpeaksIn (goes_down own message d)
unfolding goes_down
down_speaks own message d s says =
    record { ring = s.ring; memory = s.memory; units = s.units; plain = All-push PlainSpeaks d.plain (Down own message) s.plain says }

pub ringed_speaks : (r : ring.Ring) (d : Draft Memory) → DraftSpeaksIn d → IfSome r IsReadable → DraftSpeaksIn (on_station (with_ring r) d)
unfolding on_station with_ring
ringed_speaks r d s reads = record {
  ring = reads;
  memory = record { waiting = s.memory.waiting; randoms = s.memory.randoms; session = s.memory.session; sessions = s.memory.sessions };
  units = s.units;
  plain = s.plain;
}

-- a request for the route, unless something waits for the address
sought_speaks : (own dest : ℕ) (d : Draft StationMemory) → DraftSpeaks d → DraftSpeaks (seeks_once own dest d)
unfolding seeks_once with_own_number goes
sought_speaks own dest d s = by_wait (is_awaited d.memory dest)
  where
    by_wait : (b : Bool) → DraftSpeaks (if b then d else seeks own dest d)
    by_wait true = s
    by_wait false = record {
      ring = s.ring;
      waiting = s.waiting;
      units = All-push OutSpeaks d.units _ s.units (route_octets (Rreq (d.memory.own_number.last + 1) 0 own dest));
      plain = s.plain;
    }

waits_speaks : (to note : ℕ) (load : Load) (now : ℕ) (d : Draft StationMemory) → LoadSpeaks load → DraftSpeaks d → DraftSpeaks (waits to note load now d)
unfolding waits
waits_speaks to note load now d says s = record {
  ring = s.ring;
  waiting = All-push BodySpeaks d.memory.waiting (record { to = to; note = note; since = now; load = load }) s.waiting says;
  units = s.units;
  plain = s.plain;
}

body_speaks : (own hop to note : ℕ) (load : Load) (d : Draft StationMemory) → LoadSpeaks load → DraftSpeaks d → DraftSpeaks (body_goes own hop to note load d)
unfolding body_goes
body_speaks own hop to note load d says s = record {
  ring = s.ring;
  waiting = s.waiting;
  units = All-append OutSpeaks d.units (all_go hop note (units_of own to load)) s.units
      (All-map OutSpeaks (λ unit. record { to = hop; unit = unit; note = note }) (units_of own to load)
      (λ k u lt. load_octets_spelled own to load says.0 says.1 k u lt));
  plain = s.plain;
}

pub sets_out_speaks : (own to note : ℕ) (load : Load) (now : ℕ) (d : Draft StationMemory) → LoadSpeaks load → DraftSpeaks d
    → DraftSpeaks (sets_out own to note load now d)
sets_out_speaks own to note load now d says s = by_hop (next_hop d.memory to) refl
  where
    by_hop : (hop : Option ℕ) → next_hop d.memory to ≡ hop → DraftSpeaks (sets_out own to note load now d)
    by_hop None e = rw e (waits_speaks to note load now (seeks_once own to d) says (sought_speaks own to d s))
    by_hop (Some hop) e = rw e (body_speaks own hop to note load d says s)

-- a command: its code, and the message
pub commanded_speaks : (to : ℕ) (message : JoinMessage) (now : ℕ) (d : Draft Memory) → JoinSpeaks message → DraftSpeaksIn d
    → DraftSpeaksIn (is_commanded to message now d)
unfolding is_commanded on_station
commanded_speaks to message now d says s = by_address (address_of d.memory.station)
  where
    by_address : (own : Option ℕ) → DraftSpeaksIn (option_map_or (λ own. on_station (sets_out own to 0 (Command (command_of message)) now) d) own d)
    by_address None = s
    by_address (Some own) =
        let r = sets_out_speaks own to 0 (Command (command_of message)) now (station_part d)
        (front 2 (joining.spelling message) (omega arith) (join_octets message says.octets), tt, says.short)
        (record { ring = s.ring; waiting = s.memory.waiting; units = s.units; plain = s.plain }) in
        record {
          ring = r.ring;
          memory = record { waiting = r.waiting; randoms = s.memory.randoms; session = s.memory.session; sessions = s.memory.sessions };
          units = r.units;
          plain = r.plain;
        }
