-- What a frame without a seal costs, by the plans that it may make.
use Rattle.std.proofs.Common.{◌≡◌, ⊎_elim, inl, inr, ℕ, suc, ◌+◌, ◌≤◌, Bool, true, false, List, [], ◌∷◌, ◌++◌, length, Option, Some, None}
use Rattle.std.proofs.Common.{Result, Ok, Err, refl, sym, ap, ◌∙◌, subst, arith}
use Rattle.std.specs.Prelude.{nat_lt, if◌then◌else◌, ◌==◌}
use Rattle.std.specs.Option.{option_map, option_map_or}
use Rattle.std.proofs.lemmas.List.{length-append}
use Rattle.plc_base.specs.Faults.{◌when◌}
use Rattle.plc_base.specs.Grant.{Granted}
use Rattle.plc_base.specs.declared.address.Eui.{Eui}
use Rattle.plc_base.specs.declared.key.Key.{Key}
use Rattle.plc_base.specs.declared.key.RandomOctets.{RandomOctets}
use Rattle.frame_counters.specs.PeerMarks as marks
use Rattle.frame_counters.specs.SendCounter as counter
use Rattle.frame_counters.specs.declared.fault.PeerFault.{PeerFault}
use Rattle.mac_frames.specs.declared.head.MacHead.{MacHead}
use Rattle.mac_frames.specs.declared.head.MacHead.TheVariants as heads
use Rattle.group_keys.specs.KeyBook as books
use Rattle.group_keys.specs.KeyRing as ring
use Rattle.group_keys.specs.declared.key_book.BookEntry.{BookEntry}
use Rattle.routing_set.specs.OwnNumber as own_number
use Rattle.eap_psk.specs.Faults.{first_fault}
use Rattle.eap_psk.specs.Messages.{granting_text}
use Rattle.eap_psk.specs.Sessions.{identifier_of, peer_for, rand_p_in}
use Rattle.eap_psk.specs.Tags.{granting_tag, mac_p_tag, mac_s_tag, success_tag}
use Rattle.eap_psk.specs.declared.peer.Peer.{Peer}
use Rattle.joining_messages.specs.Reader.{join_in}
use Rattle.joining_messages.specs.declared.message.JoinBody.{JoinBody}
use Rattle.joining_messages.specs.declared.message.JoinBody.TheVariants as body
use Rattle.joining_messages.specs.declared.message.JoinMessage.{JoinMessage}
use Rattle.mesh_header.specs.Reader.{unit_in}
use Rattle.mesh_header.specs.declared.unit.Unit.{Unit as MeshUnit}
use Rattle.node_rules.specs.Acceptance.{Accepting, accept_head, admitted, is_for_me, mark_refusal, marking, open_sealed, refuse, with_key}
use Rattle.node_rules.specs.Accepted.{Accepted}
use Rattle.node_rules.specs.Coordinators as coordinator_rules
use Rattle.node_rules.specs.Coordinators.{CoordinatorIdentity, with_book_entry}
use Rattle.node_rules.specs.Drafts.{Draft, UnsealedUnit, body_goes, checked, choose, counted, counters_left, empty_draft, goes, is_awaited, refused, sealed}
use Rattle.node_rules.specs.Drafts.{sealed_by, sealing, seeks, seeks_once, sets_out, waits, with_own_number, with_ring}
use Rattle.node_rules.specs.Frames.{Arrived, Sent, to_all}
use Rattle.node_rules.specs.HearingRules.{dropped, hear_plain, hear_unit_in, is_joining}
use Rattle.node_rules.specs.JoiningPackets.{command_of, first_packet, message, server_for}
use Rattle.node_rules.specs.Memory.{Body, ByAgent, Command, CoordinatorSession, Load, Memory, MeterSession, StationMemory, address_of, next_hop}
use Rattle.node_rules.specs.MemoryDrafts.{goes_down, goes_up, in_memory, is_commanded, oldest, on_station, packet_fault, station_part, unread, with_memory_by}
use Rattle.node_rules.specs.MemoryDrafts.{with_pair_tags, without_oldest}
use Rattle.node_rules.specs.Meters as meters
use Rattle.node_rules.specs.Meters.{Identity}
use Rattle.node_rules.specs.Plans.{Plan, resting}
use Rattle.node_rules.specs.declared.heard.CoordinatorHeard.{CoordinatorHeard}
use Rattle.node_rules.specs.declared.heard.Heard.TheVariants as station_heard
use Rattle.node_rules.specs.declared.heard.MeterHeard.{MeterHeard}
use Rattle.node_rules.specs.declared.heard.Path.{Path}
use Rattle.node_rules.specs.declared.heard.Path.TheVariants as paths
use Rattle.node_rules.specs.declared.heard.Way.{Way}
use Rattle.node_rules.specs.declared.heard.Way.TheVariants.{Air, Mesh, Near}
use Rattle.node_rules.specs.declared.refusal.Dropped.{Dropped}
use Rattle.node_rules.specs.declared.refusal.Dropped.TheVariants as drops
use Rattle.node_rules.specs.declared.refusal.FrameRefusal.{FrameRefusal}
use Rattle.node_rules.specs.declared.refusal.FrameRefusal.TheVariants as refusals
use Rattle.node_rules.proofs.Bounds.{sealed_few}
use Rattle.node_rules.proofs.PutCounts.{one_more_put}
use Rattle.line_progress.specs.PlainCosts.{AcceptingPlainFramesIsFree, CostsLittle, HasNoSeal, HasOneLess, HasOpened, IsSpared, OpensLittle}
use Rattle.line_progress.specs.PlainCosts.{PlainFramesCostMetersLittle, PlainFramesCostTheCoordinatorLittle}

-- # A command that sets out

-- What seeks a route makes one put and one unit at most, and nothing more waits.
record Seeks (s d : Draft StationMemory) : Type 0 where
  puts : length d.puts ≤ suc (length s.puts)
  units : length d.units ≤ suc (length s.units)
  plain : d.plain ≡ s.plain
  ring : d.memory.ring ≡ s.memory.ring
  marks : d.memory.marks ≡ s.memory.marks
  routing : d.memory.routing ≡ s.memory.routing
  next_tag : d.memory.next_tag ≡ s.memory.next_tag
  reassemblies : d.memory.reassemblies ≡ s.memory.reassemblies
  waiting : d.memory.waiting ≡ s.memory.waiting
  opened : d.opened ≡ s.opened

-- So does a command that sets out, and one body more waits at most.
record SetsOut (s d : Draft StationMemory) : Type 0 where
  puts : length d.puts ≤ suc (length s.puts)
  units : length d.units ≤ suc (length s.units)
  plain : d.plain ≡ s.plain
  opened : d.opened ≡ s.opened
  spared : IsSpared s.memory d.memory

unchanged : (l : StationMemory) → IsSpared l l
unchanged l = record { ring = refl; marks = refl; routing = refl; next_tag = refl; reassemblies = refl; waiting = inl refl }

one_more : (us : List UnsealedUnit) (u : UnsealedUnit) → length (us ++ u ∷ []) ≤ suc (length us)
one_more us u = let e = length-append us (u ∷ []) in omega arith

seeks_more : (own dest : ℕ) (s : Draft StationMemory) → Seeks s (seeks own dest s)
unfolding with_own_number goes
seeks_more own dest s = record {
  puts = one_more_put (length s.puts) s.puts (own_number.advance_write s.memory.own_number) (omega arith);
  units = one_more s.units _;
  plain = refl;
  ring = refl;
  marks = refl;
  routing = refl;
  next_tag = refl;
  reassemblies = refl;
  waiting = refl;
  opened = refl;
}

sought : (own dest : ℕ) (s : Draft StationMemory) → Seeks s (seeks_once own dest s)
unfolding seeks_once
sought own dest s = by_wait (is_awaited s.memory dest)
  where
    by_wait : (w : Bool) → Seeks s (if w then s else seeks own dest s)
    by_wait true = record {
      puts = omega arith;
      units = omega arith;
      plain = refl;
      ring = refl;
      marks = refl;
      routing = refl;
      next_tag = refl;
      reassemblies = refl;
      waiting = refl;
      opened = refl;
    }
    by_wait false = seeks_more own dest s

waits_more : (to : ℕ) (load : Load) (now : ℕ) (s d : Draft StationMemory) → Seeks s d → SetsOut s (waits to 0 load now d)
unfolding waits
waits_more to load now s d h =
    let b : Body = record { to = to; note = 0; since = now; load = load } in
    record {
      puts = h.puts;
      units = h.units;
      plain = h.plain;
      opened = h.opened;
      spared = record {
        ring = h.ring;
        marks = h.marks;
        routing = h.routing;
        next_tag = h.next_tag;
        reassemblies = h.reassemblies;
        waiting = inr (b, ap (λ (bs : List Body). bs ++ b ∷ []) h.waiting);
      };
    }

goes_more : (own hop to : ℕ) (octets : List ℕ) (s : Draft StationMemory) → SetsOut s (body_goes own hop to 0 (Command octets) s)
unfolding body_goes
goes_more own hop to octets s = record { puts = omega arith; units = one_more s.units _; plain = refl; opened = refl; spared = unchanged s.memory }

set_out : (own to : ℕ) (octets : List ℕ) (now : ℕ) (s : Draft StationMemory) → SetsOut s (sets_out own to 0 (Command octets) now s)
set_out own to octets now s = by_hop (next_hop s.memory to) refl
  where
    by_hop : (hop : Option ℕ) → next_hop s.memory to ≡ hop → SetsOut s (sets_out own to 0 (Command octets) now s)
    by_hop None e = rw e (waits_more to (Command octets) now s (seeks_once own to s) (sought own to s))
    by_hop (Some hop) e = rw e (goes_more own hop to octets s)

-- # A doing

-- A doing makes one put at most and one frame, and spares what is to be spared; S is said of what else it leaves.
record Spares (S : Memory → Memory → Type 0) (m : Memory) (d : Draft Memory) : Type 0 where
  puts : length d.puts ≤ 1
  out : length d.plain + length d.units ≤ 1
  station : IsSpared m.station d.memory.station
  randoms : HasOneLess m.randoms d.memory.randoms
  book : d.memory.book ≡ m.book
  beside : S m d.memory

-- the frames of a doing that is carried to its end
few_frames : (d : Draft Memory) → length d.plain + length d.units ≤ 1
    → length (d.plain ++ sealed_by d.memory.station.ring d.memory.station.counter.next d.units) ≤ 1
few_frames d out =
    let few = sealed_few d.memory.station.ring d.memory.station.counter.next d.units in
    let both = length-append d.plain (sealed_by d.memory.station.ring d.memory.station.counter.next d.units) in
    omega arith

-- What a plan costs that finds no pair tag right.
record Costs (S : Memory → Memory → Type 0) (m : Memory) {H : Type 0} (p : Plan Memory (Result H Dropped)) : Type 0 where
  little : p.opened ≡ [] → CostsLittle m p × S m p.memory

module _ (S : Memory → Memory → Type 0) (m : Memory) {H : Type 0} where
  choose_costs : {test : Bool} {p q : Plan Memory (Result H Dropped)} → (test ≡ true → Costs S m p) → (test ≡ false → Costs S m q)
      → Costs S m (choose test p q)
  unfolding choose
  choose_costs {test = true} s t = s refl
  choose_costs {test = false} s t = t refl

  option_costs : {X : Type 0} (f : X → Plan Memory (Result H Dropped)) (x : Option X) (p : Plan Memory (Result H Dropped))
      → ((y : X) → x ≡ Some y → Costs S m (f y)) → (x ≡ None → Costs S m p) → Costs S m (option_map_or f x p)
  option_costs f None p s t = t refl
  option_costs f (Some y) p s t = s y refl

  abbrev nothing : Dropped → Plan Memory (Result H Dropped)
  nothing reason = refused dropped m reason

  module _ (same : S m m) where
    refuses : (reason : Dropped) → Costs S m (nothing reason)
    unfolding resting
    refuses reason = record {
      little = λ none.
          (record { frames = omega arith; puts = omega arith; station = unchanged m.station; randoms = inl refl; book = refl }, same);
    }

    checked_costs : {fault : Option Dropped} {p : Plan Memory (Result H Dropped)} → (fault ≡ None → Costs S m p) → Costs S m (checked dropped m fault p)
    unfolding checked
    checked_costs {fault = None} s = s refl
    checked_costs {fault = Some reason} s = refuses reason

    module _ (keeps : (n : Memory) (count : ℕ) → S m n → S m (counted in_memory count n)) where
      sealing_costs : (d : Draft Memory) (answer : H) → (d.opened ≡ [] → Spares S m d) → Costs S m (sealing in_memory dropped d answer)
      sealing_costs d answer spares = record {
        little = λ none.
            let s = spares none in
            let put = one_more_put 1 d.puts (counter.reserve_write d.memory.station.counter (length d.units)) s.puts in (
              record {
                frames = few_frames d s.out;
                puts = put;
                station = record {
                  ring = s.station.ring;
                  marks = s.station.marks;
                  routing = s.station.routing;
                  next_tag = s.station.next_tag;
                  reassemblies = s.station.reassemblies;
                  waiting = s.station.waiting;
                };
                randoms = s.randoms;
                book = s.book;
              },
              keeps d.memory (length d.units) s.beside,
            );
      }

      sealed_costs : (d : Draft Memory) (answer : H) → (d.opened ≡ [] → Spares S m d) → Costs S m (sealed in_memory dropped m d answer)
      unfolding sealed
      sealed_costs d answer spares = by_test (nat_lt (counters_left m.station) (length d.units))
        where
          by_test : (b : Bool) → Costs S m (if b then refused dropped m dropped.spent else sealing in_memory dropped d answer)
          by_test true = refuses dropped.spent
          by_test false = sealing_costs d answer spares

-- # A meter

-- a meter has no sessions of the coordinator, and gets none
abbrev SameSessions : Memory → Memory → Type 0
SameSessions m n = n.sessions ≡ m.sessions

out_of : (plain : List Sent) (units : List UnsealedUnit) → plain ≡ [] → length units ≤ 1 → length plain + length units ≤ 1
out_of plain units none few = let e : length plain ≡ 0 = ap length none in omega arith

module _ (m : Memory) where
  begun : Spares SameSessions m (empty_draft m)
  unfolding empty_draft
  begun = record { puts = omega arith; out = omega arith; station = unchanged m.station; randoms = inl refl; book = refl; beside = refl }

  commanded : (to : ℕ) (join : JoinMessage) (now : ℕ) → Spares SameSessions m (is_commanded to join now (empty_draft m))
  unfolding is_commanded on_station empty_draft
  commanded to join now = by_address (address_of m.station)
    where
      by_address : (own : Option ℕ) → Spares SameSessions m
          (option_map_or (λ own. on_station (sets_out own to 0 (Command (command_of join)) now) (empty_draft m)) own (empty_draft m))
      by_address None = record { puts = omega arith; out = omega arith; station = unchanged m.station; randoms = inl refl; book = refl; beside = refl }
      by_address (Some own) =
          let d : Draft StationMemory = sets_out own to 0 (Command (command_of join)) now (station_part (empty_draft m)) in
          let s = set_out own to (command_of join) now (station_part (empty_draft m)) in
          record { puts = s.puts; out = out_of d.plain d.units s.plain s.units; station = s.spared; randoms = inl refl; book = refl; beside = refl }

  ends_session : Spares SameSessions m (with_memory_by (meters.with_session None) (empty_draft m))
  unfolding with_memory_by empty_draft
  ends_session = record { puts = omega arith; out = omega arith; station = unchanged m.station; randoms = inl refl; book = refl; beside = refl }

  -- the second packet goes up to the agent
  replies : (agent : ℕ) (peer : Peer) (join : JoinMessage) (now : ℕ) → Spares SameSessions m
      (meters.says (ByAgent agent) peer.eui join now
      (with_pair_tags (mac_p_tag peer.eui peer.id_s peer.rand_s peer.rand_p ∷ []) []
      (with_memory_by (λ n. meters.with_session (Some (record { session_way = ByAgent agent; peer = Some peer; since = now })) (without_oldest n))
      (empty_draft m))))
  unfolding goes_up with_pair_tags with_memory_by empty_draft
  replies agent peer join now =
      record { puts = omega arith; out = omega arith; station = unchanged m.station; randoms = inr refl; book = refl; beside = refl }

  -- a grant that is taken has found two tags right
  takes_some : (agent : ℕ) (peer : Peer) (identifier : ℕ) (granted : Granted) (join : JoinMessage) (now : ℕ)
      → (meters.says (ByAgent agent) peer.eui join now
      (with_pair_tags (success_tag peer.eui identifier peer.rand_s peer.rand_p ∷ [])
      (mac_s_tag peer.eui peer.id_s peer.rand_p ∷ granting_tag peer.eui identifier peer.rand_s peer.rand_p (granting_text granted) ∷ [])
      (on_station (with_ring (Some granted)) (with_memory_by (meters.with_session None) (empty_draft m))))).opened ≡ [] → ⊥
  unfolding goes_up with_pair_tags with_memory_by empty_draft on_station with_ring
  takes_some agent peer identifier granted join now none = cc (none)

module _ (x : Identity) (m : Memory) (now : ℕ) where
  abbrev Is : meters.Hearing → Type 0
  Is p = Costs SameSessions m p

  turned : (reason : Dropped) → Is (refused dropped m reason)
  turned reason = refuses SameSessions m refl reason

  faulty : {fault : Option Dropped} {p : meters.Hearing} → (fault ≡ None → Is p) → Is (checked dropped m fault p)
  faulty s = checked_costs SameSessions m refl s

  either : {test : Bool} {p q : meters.Hearing} → (test ≡ true → Is p) → (test ≡ false → Is q) → Is (choose test p q)
  either s t = choose_costs SameSessions m s t

  ended : (d : Draft Memory) (answer : MeterHeard) → (d.opened ≡ [] → Spares SameSessions m d) → Is (sealed in_memory dropped m d answer)
  ended d answer spares = sealed_costs SameSessions m refl (λ n count h. h) d answer spares

  carry_up_is : (from : Eui) (join : JoinMessage) (b : JoinBody) → Is (meters.carry_up m from join b now)
  carry_up_is from join (body.Join eap) =
      either (λ own. faulty (λ e. ended _ _ (λ none. commanded m 0 join now))) (λ other. turned _)
  carry_up_is from join _ = turned _

  reply_is : (agent : ℕ) (packet : List ℕ) → Is (meters.reply x m (ByAgent agent) packet now)
  reply_is agent packet = faulty (λ e.
      option_costs SameSessions m
      (λ value. checked dropped m (option_map packet_fault (first_fault packet)) (meters.reply_with x m (ByAgent agent) packet now value))
      (oldest m) (meters.drop_it m drops.NoRandom)
      (λ value here. faulty (λ right. faulty (λ lacks. ended _ _ (λ none.
      replies m agent (peer_for x.eui value packet)
      (message x.eui (body.Join (x.ciphers.second x.psk (identifier_of packet) (peer_for x.eui value packet)))) now))))
      (λ none. turned _))

  takes_is : (agent : ℕ) (peer : Peer) (identifier : ℕ) (granted : Granted) (join : JoinMessage)
      → Is (meters.takes m (ByAgent agent) peer identifier granted join now)
  takes_is agent peer identifier granted join =
      faulty (λ e. ended _ _ (λ none. absurd (takes_some m agent peer identifier granted join now none)))

  take_with_is : (agent : ℕ) (packet : List ℕ) (peer : Peer) (granted : Option Granted) → Is (meters.take_with x m (ByAgent agent) packet now peer granted)
  take_with_is agent packet peer None = turned _
  take_with_is agent packet peer (Some granted) = takes_is agent peer _ granted _

  take_by_is : (agent : ℕ) (packet : List ℕ) (peer : Option Peer) → Is (meters.take_by x m (ByAgent agent) packet now peer)
  take_by_is agent packet None = turned _
  take_by_is agent packet (Some peer) = faulty (λ e. take_with_is agent packet peer (x.ciphers.granted x.psk peer packet))

  take_is : (agent : ℕ) (packet : List ℕ) → Is (meters.take x m (ByAgent agent) packet now)
  take_is agent packet = faulty (λ e.
      option_costs SameSessions m (λ (s : MeterSession). meters.take_by x m (ByAgent agent) packet now s.peer) m.session (meters.drop_it m drops.NoSession)
      (λ s here. take_by_is agent packet s.peer) (λ none. turned _))

  challenged_is : (agent : ℕ) (packet : List ℕ) → Is (meters.challenged x m (ByAgent agent) packet now)
  challenged_is agent packet = either (λ first. reply_is agent packet) (λ third. take_is agent packet)

  declined_is : (agent : ℕ) → Is (meters.declined m agent)
  declined_is agent =
      either (λ joined. turned _) (λ outside. either (λ runs. ended _ _ (λ none. ends_session m)) (λ none. turned _))

  near_is : (agent : ℕ) (b : JoinBody) → Is (meters.hear_near x m agent b now)
  near_is agent (body.Challenge eap) = challenged_is agent eap
  near_is agent (body.Accept identifier) = ended _ _ (λ none. begun m)
  near_is agent body.Decline = declined_is agent
  near_is agent _ = turned _

  up_in_is : (from : Eui) (join : Option JoinMessage) → Is (meters.hear_join_in x m (Air from) join now)
  up_in_is from None = turned _
  up_in_is from (Some join) = carry_up_is from join join.body

  down_in_is : (agent : ℕ) (join : Option JoinMessage) → Is (meters.hear_join_in x m (Near agent) join now)
  down_in_is agent None = turned _
  down_in_is agent (Some join) = either (λ own. near_is agent join.body) (λ other. turned _)

  up_is : (from : Eui) (octets : Option (List ℕ))
      → let p = hear_plain m.station (λ b. station_heard.Joining (Air from) b) octets in Is (meters.heard_by x m now p (unread p.answer))
  unfolding resting
  up_is from None = turned drops.BadUnit
  up_is from (Some octets) = up_in_is from (join_in octets)

  down_is : (agent : ℕ) (octets : Option (List ℕ))
      → let p = hear_plain m.station (λ b. station_heard.Joining (Near agent) b) octets in Is (meters.heard_by x m now p (unread p.answer))
  unfolding resting
  down_is agent None = turned drops.BadUnit
  down_is agent (Some octets) = down_in_is agent (join_in octets)

  heard_is : (path : Path) (unit : Option MeshUnit) (cost note : ℕ) → HasNoSeal path
      → let p = hear_unit_in m.station path unit cost note now in Is (meters.heard_by x m now p (unread p.answer))
  unfolding resting
  heard_is (paths.Sealed from all key) unit cost note plain = absurd plain
  heard_is (paths.Up from) None cost note plain = turned drops.BadUnit
  heard_is (paths.Up from) (Some unit) cost note plain = up_is from (is_joining unit)
  heard_is (paths.Down from) None cost note plain = turned drops.BadUnit
  heard_is (paths.Down from) (Some unit) cost note plain = down_is from (is_joining unit)

pub meters_cost : PlainFramesCostMetersLittle
meters_cost x m got cost note now plain none =
    ((heard_is x m now got.path (unit_in got.payload) cost note plain).little none).0

-- # The coordinator

-- a command finds no tag right
commanded_opens : (to : ℕ) (join : JoinMessage) (now : ℕ) (d : Draft Memory) → (is_commanded to join now d).opened ≡ d.opened
unfolding is_commanded on_station
commanded_opens to join now d = by_address (address_of d.memory.station)
  where
    by_address : (own : Option ℕ) → (option_map_or (λ own. on_station (sets_out own to 0 (Command (command_of join)) now) d) own d).opened ≡ d.opened
    by_address None = refl
    by_address (Some own) = (set_out own to (command_of join) now (station_part d)).opened

opens_still : (m n : Memory) (count : ℕ) → OpensLittle m n → OpensLittle m (counted in_memory count n)
opens_still m n count h = record {
  waiting = h.waiting;
  sessions = ⊎_elim
      (λ (e : n.sessions ≡ m.sessions). inl e)
      (λ (o : HasOpened m n). inr (record { session = o.session; is = o.is; allowed = o.allowed; room = o.room }))
      h.sessions;
}

opens_none : (m : Memory) → OpensLittle m m
opens_none m = record { waiting = refl; sessions = inl refl }

no_fault : (m : Memory) (eui : Eui) → coordinator_rules.session_fault m eui ≡ None → coordinator_rules.sessions_full m eui ≡ false
no_fault m eui = by_full (coordinator_rules.sessions_full m eui)
  where
    by_full : (b : Bool) → (Some drops.SessionsFull when b) ≡ None → b ≡ false
    by_full true e = absurd (cc)
    by_full false e = refl

module _ (m : Memory) (now : ℕ) where
  declines : (from : Eui) (join : JoinMessage) → Spares OpensLittle m (coordinator_rules.says (Air from) join now (empty_draft m))
  unfolding goes_down empty_draft
  declines from join =
      record { puts = omega arith; out = omega arith; station = unchanged m.station; randoms = inl refl; book = refl; beside = opens_none m }

  opens_one : (from : Eui) (join : JoinMessage) (s : CoordinatorSession) → books.is_allowed m.book s.server.eui ≡ true
      → coordinator_rules.sessions_full m s.server.eui ≡ false
      → Spares OpensLittle m (coordinator_rules.says (Air from) join now (coordinator_rules.opens s (empty_draft m)))
  unfolding goes_down with_memory_by empty_draft
  opens_one from join s allowed room = record {
    puts = omega arith;
    out = omega arith;
    station = unchanged m.station;
    randoms = inr refl;
    book = refl;
    beside = record { waiting = refl; sessions = inr (record { session = s; is = refl; allowed = allowed; room = room }) };
  }

  says_opened : (way : Way) (join : JoinMessage) (d : Draft Memory) → (coordinator_rules.says way join now d).opened ≡ d.opened
  unfolding goes_down
  says_opened (Air eui) join d = refl
  says_opened (Near agent) join d = refl
  says_opened (Mesh origin) join d = commanded_opens origin join now d

  -- what answers the second packet has found a tag right
  abbrev keys_draft : CoordinatorSession → BookEntry → RandomOctets → Granted → Draft Memory
  keys_draft s e rand_p granted =
      with_pair_tags
      (mac_s_tag s.server.eui s.server.id_s rand_p ∷ granting_tag s.server.eui 2 s.server.rand_s rand_p (granting_text granted) ∷ [])
      (mac_p_tag s.server.eui s.server.id_s s.server.rand_s rand_p ∷ [])
      (with_book_entry (books.issued_entry s.server.eui granted e)
      (with_memory_by (coordinator_rules.with_session (record s { server = record s.server { rand_p = Some rand_p } })) (empty_draft m)))

  keys_some : (s : CoordinatorSession) (e : BookEntry) (rand_p : RandomOctets) (granted : Granted) → (keys_draft s e rand_p granted).opened ≡ [] → ⊥
  unfolding with_pair_tags with_book_entry with_memory_by empty_draft
  keys_some s e rand_p granted none = cc (none)

  -- and so has what answers the fourth
  abbrev done_draft : CoordinatorSession → RandomOctets → Draft Memory
  done_draft s rand_p =
      with_pair_tags [] (success_tag s.server.eui 2 s.server.rand_s rand_p ∷ [])
      (with_memory_by (coordinator_rules.without_session s.server.eui) (empty_draft m))

  done_some : (s : CoordinatorSession) (rand_p : RandomOctets) → (done_draft s rand_p).opened ≡ [] → ⊥
  unfolding with_pair_tags with_memory_by empty_draft
  done_some s rand_p none = cc (none)

module _ (own : CoordinatorIdentity) (m : Memory) (now : ℕ) where
  abbrev At : coordinator_rules.Hearing → Type 0
  At p = Costs OpensLittle m p

  turned_at : (reason : Dropped) → At (refused dropped m reason)
  turned_at reason = refuses OpensLittle m (opens_none m) reason

  faulty_at : {fault : Option Dropped} {p : coordinator_rules.Hearing} → (fault ≡ None → At p) → At (checked dropped m fault p)
  faulty_at s = checked_costs OpensLittle m (opens_none m) s

  either_at : {test : Bool} {p q : coordinator_rules.Hearing} → (test ≡ true → At p) → (test ≡ false → At q) → At (choose test p q)
  either_at s t = choose_costs OpensLittle m s t

  ended_at : (d : Draft Memory) (answer : CoordinatorHeard) → (d.opened ≡ [] → Spares OpensLittle m d) → At (sealed in_memory dropped m d answer)
  ended_at d answer spares = sealed_costs OpensLittle m (opens_none m) (opens_still m) d answer spares

  keys_at : (s : CoordinatorSession) (e : BookEntry) (rand_p : RandomOctets) (granted : Granted) → At (coordinator_rules.keys_for own m s e rand_p granted now)
  keys_at s e rand_p granted =
      let join : JoinMessage = message s.server.eui (body.Challenge (own.ciphers.third e.psk s.server rand_p granted)) in
      faulty_at (λ lacks. ended_at _ _ (λ none.
      absurd (keys_some m now s e rand_p granted (sym (says_opened m now s.way join (keys_draft m now s e rand_p granted)) ∙ none))))

  accepts_at : (s : CoordinatorSession) (rand_p : RandomOctets) → At (coordinator_rules.accepts m s rand_p now)
  accepts_at s rand_p = faulty_at (λ lacks. ended_at _ _ (λ none.
      absurd (done_some m now s rand_p (sym (says_opened m now s.way (message s.server.eui (body.Accept 2)) (done_draft m now s rand_p)) ∙ none))))

  second_at : (s : CoordinatorSession) (e : BookEntry) (packet : List ℕ) → At (coordinator_rules.take_second own m s e packet now)
  second_at s e packet = faulty_at (λ right.
      option_costs OpensLittle m (λ granted. coordinator_rules.keys_for own m s e (rand_p_in packet) granted now) (coordinator_rules.grant_for m s.server.eui)
      (coordinator_rules.drop_it m drops.NotAllowed) (λ granted here. keys_at s e (rand_p_in packet) granted) (λ none. turned_at _))

  packet_at : (e : BookEntry) (packet : List ℕ) (s : CoordinatorSession) → At (coordinator_rules.take_packet own m e packet now s)
  packet_at e packet s =
      option_costs OpensLittle m (λ rand_p. coordinator_rules.take_fourth own m s e packet rand_p now) s.server.rand_p
      (coordinator_rules.take_second own m s e packet now)
      (λ rand_p is. faulty_at (λ right. accepts_at s rand_p)) (λ none. second_at s e packet)

  with_packet_at : (eui : Eui) (packet : List ℕ) → At (coordinator_rules.join_with_packet own m eui packet now)
  with_packet_at eui packet =
      option_costs OpensLittle m (λ e. option_map_or (coordinator_rules.take_packet own m e packet now) (coordinator_rules.session_of m eui)
      (coordinator_rules.drop_it m drops.NoSession))
      (coordinator_rules.allowed_entry m eui) (coordinator_rules.drop_it m drops.NotAllowed)
      (λ e here. option_costs OpensLittle m (coordinator_rules.take_packet own m e packet now) (coordinator_rules.session_of m eui)
      (coordinator_rules.drop_it m drops.NoSession) (λ s there. packet_at e packet s) (λ none. turned_at _))
      (λ none. turned_at _)

  open_at : (from eui : Eui) → books.is_allowed m.book eui ≡ true → At (coordinator_rules.open_session own m (Air from) eui now)
  open_at from eui allowed = faulty_at (λ room.
      option_costs OpensLittle m (λ value. coordinator_rules.challenges m (Air from) (server_for eui own.eui value) now) (oldest m)
      (coordinator_rules.drop_it m drops.NoRandom)
      (λ value here. faulty_at (λ lacks. ended_at _ _ (λ none.
      opens_one m now from (message eui (body.Challenge (first_packet (server_for eui own.eui value))))
      (record { server = server_for eui own.eui value; way = Air from; since = now }) allowed (no_fault m eui room))))
      (λ none. turned_at _))

  without_packet_at : (from eui : Eui) → At (coordinator_rules.join_without_packet own m (Air from) eui now)
  without_packet_at from eui =
      either_at (λ allowed. open_at from eui allowed)
      (λ other. faulty_at (λ lacks. ended_at _ _ (λ none. declines m now from (message eui body.Decline))))

  join_at : (from eui : Eui) (b : JoinBody) → At (coordinator_rules.hear_join own m (Air from) eui b now)
  join_at from eui (body.Join []) = without_packet_at from eui
  join_at from eui (body.Join (o ∷ packet)) = with_packet_at eui (o ∷ packet)
  join_at from eui _ = turned_at _

  up_in_at : (from : Eui) (join : Option JoinMessage) → At (coordinator_rules.hear_join_in own m (Air from) join now)
  up_in_at from None = turned_at _
  up_in_at from (Some join) = either_at (λ mine. join_at from join.eui join.body) (λ other. turned_at _)

  down_in_at : (agent : ℕ) (join : Option JoinMessage) → At (coordinator_rules.hear_join_in own m (Near agent) join now)
  down_in_at agent None = turned_at _
  down_in_at agent (Some join) = either_at (λ mine. absurd (never mine)) (λ other. turned_at _)
    where
      never : false ≡ true → ⊥
      never e = cc (e)

  up_at : (from : Eui) (octets : Option (List ℕ))
      → let p = hear_plain m.station (λ b. station_heard.Joining (Air from) b) octets in At (coordinator_rules.heard_by own m now p (unread p.answer))
  unfolding resting
  up_at from None = turned_at drops.BadUnit
  up_at from (Some octets) = up_in_at from (join_in octets)

  down_at : (agent : ℕ) (octets : Option (List ℕ))
      → let p = hear_plain m.station (λ b. station_heard.Joining (Near agent) b) octets in At (coordinator_rules.heard_by own m now p (unread p.answer))
  unfolding resting
  down_at agent None = turned_at drops.BadUnit
  down_at agent (Some octets) = down_in_at agent (join_in octets)

  heard_at : (path : Path) (unit : Option MeshUnit) (cost note : ℕ) → HasNoSeal path
      → let p = hear_unit_in m.station path unit cost note now in At (coordinator_rules.heard_by own m now p (unread p.answer))
  unfolding resting
  heard_at (paths.Sealed from all key) unit cost note plain = absurd plain
  heard_at (paths.Up from) None cost note plain = turned_at drops.BadUnit
  heard_at (paths.Up from) (Some unit) cost note plain = up_at from (is_joining unit)
  heard_at (paths.Down from) None cost note plain = turned_at drops.BadUnit
  heard_at (paths.Down from) (Some unit) cost note plain = down_at from (is_joining unit)

pub coordinators_cost : PlainFramesCostTheCoordinatorLittle
coordinators_cost own m got cost note now plain none =
    (heard_at own m now got.path (unit_in got.payload) cost note plain).little none

-- # Accepting it

module _ (l : StationMemory) (got : Accepted) (plain : HasNoSeal got.path) where
  abbrev IsFree : Accepting → Type 0
  IsFree p = p.answer ≡ Ok got → p ≡ resting l (Ok got) (Err refusals.Store)

  refused_free : (reason : FrameRefusal) → IsFree (refuse l reason)
  unfolding resting
  refused_free reason e = absurd (cc (e))

  plain_free : (other : Accepted) → IsFree (resting l (Ok other) (Err refusals.Store))
  unfolding resting
  plain_free other e = ap (λ (r : Result Accepted FrameRefusal). resting l r (Err refusals.Store)) e

  marked_free : (from counter : ℕ) (other : Accepted) → (HasNoSeal other.path → ⊥) → IsFree (marking l from counter other)
  unfolding marking
  marked_free from counter other sealed e =
      let same : other ≡ got = cc in absurd (sealed (subst (λ (g : Accepted). HasNoSeal g.path) (sym same) plain))

  admitted_free : (from counter : ℕ) (other : Accepted) → (HasNoSeal other.path → ⊥) → (room : Result (Unit {0}) PeerFault)
      → IsFree (admitted l from counter other room)
  admitted_free from counter other sealed (Ok u) = marked_free from counter other sealed
  admitted_free from counter other sealed (Err fault) = refused_free (mark_refusal fault)

  opened_free : (from counter to : ℕ) (key : Key) (payload : Option (List ℕ)) → IsFree (open_sealed l to from counter key payload)
  opened_free from counter to key None = refused_free refusals.BadTag
  opened_free from counter to key (Some payload) =
      admitted_free from counter (record { path = paths.Sealed from (to == to_all) key; payload = payload }) (λ h. h) (marks.room_for l.marks from counter)

  keyed_free : (a : Arrived) (from counter to : ℕ) (key : Option Key) → IsFree (with_key l a to from counter key)
  keyed_free a from counter to None = refused_free refusals.NoKey
  keyed_free a from counter to (Some key) = opened_free from counter to key (a.opened key)

  head_free : (a : Arrived) (head : MacHead) → IsFree (accept_head l a head)
  head_free a (heads.Sealed ack seq pan to from counter index) = keyed_free a from counter to (ring.key_in_ring l.ring index)
  head_free a (heads.Up ack version seq pan to from) = plain_free (record { path = paths.Up from; payload = a.body })
  head_free a (heads.Down ack version seq pan to from) = plain_free (record { path = paths.Down from; payload = a.body })

  for_me_free : (a : Arrived) (test : Bool) → IsFree (if test then accept_head l a a.head else refuse l refusals.NotForMe)
  for_me_free a true = head_free a a.head
  for_me_free a false = refused_free refusals.NotForMe

pub accepting_is_free : AcceptingPlainFramesIsFree
accepting_is_free l own None got plain e = refused_free l got plain refusals.Malformed e
accepting_is_free l own (Some a) got plain e = for_me_free l got plain a (is_for_me l own a.head) e
