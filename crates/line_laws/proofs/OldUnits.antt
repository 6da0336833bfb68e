-- What nodes without further reach seal: route messages, and what goes over the mesh. So none of it is a command for the neighbours.
use Rattle.std.proofs.Common.{⊎_elim, ◌≡◌, ℕ, ◌+◌, Bool, true, false, List, [], ◌∷◌, length, Option, Some, None, Result, Err, refl, sym, subst}
use Rattle.std.specs.Prelude.{if◌then◌else◌, All, map, nat_le}
use Rattle.std.specs.List.{filter, flat_map}
use Rattle.std.specs.Option.{option_map_or}
use Rattle.std.proofs.lemmas.List.Elements.{All-nil, All-cons, All-head, All-tail, All-append, All-push}
use Rattle.plc_base.specs.declared.address.Eui.{Eui}
use Rattle.plc_base.specs.declared.key.Key.{Key}
use Rattle.plc_base.specs.declared.key.RandomOctets.{RandomOctets}
use Rattle.plc_base.specs.Grant.{Granted}
use Rattle.group_keys.specs.KeyRing as ring
use Rattle.mesh_header.specs.declared.unit.Unit.{Unit as MeshUnit}
use Rattle.mesh_header.specs.declared.unit.Unit.TheVariants as units
use Rattle.mesh_header.specs.Pieces.{Placed}
use Rattle.joining_messages.specs.declared.message.JoinMessage.{JoinMessage}
use Rattle.fragment_buffers.specs.Fragmentation.{pieces_cut}
use Rattle.node_rules.specs.Accepted.{Accepted}
use Rattle.node_rules.specs.declared.refusal.CoordinatorRefusal.{CoordinatorRefusal}
use Rattle.node_rules.specs.declared.refusal.Dropped.TheVariants as drops
use Rattle.node_rules.specs.Calls as calls
use Rattle.node_rules.specs.Ciphers.{Ciphers}
use Rattle.node_rules.specs.Coordinators as coordinators
use Rattle.node_rules.specs.Drafts.{Draft, Ends, UnsealedUnit, all_go, alone, body_goes, empty_draft, goes, leave, sealed_units, own_mesh, sealed_by}
use Rattle.node_rules.specs.Drafts.{sealing_key}
use Rattle.node_rules.specs.Drafts.{units_of, waits, waits_for, with_next_tag, with_own_number, with_rank, with_ring, with_routing_by}
use Rattle.node_rules.specs.Frames.{Sent, Sealed, Up, Down, arrived}
use Rattle.node_rules.specs.HearingRules.{dropped}
use Rattle.node_rules.specs.JoiningPackets.{command_of}
use Rattle.node_rules.specs.Memory.{StationMemory, Memory, Node, Body, Load, Datagram, Command, Role, Coordinator, Meter}
use Rattle.node_rules.specs.MemoryDrafts.{give_random, given_ends, goes_down, goes_up, in_memory, on_station, station_part, with_memory_by, with_pair_tags}
use Rattle.node_rules.specs.Meters as meters
use Rattle.node_rules.specs.NodeSteps.{NodeStep, acts, answering, left_by, of_station, stays}
use Rattle.node_rules.specs.Plans.{Plan, carry_out, resting}
use Rattle.node_rules.specs.Laws.{IsWhole, IsCutOff}
use Rattle.node_rules.proofs.MemoryDraftShapes.{whole}
use Rattle.node_rules.proofs.FailedWrites.{clean}
use Rattle.line_rules.specs.Answers.{Reception, coordinator_reception, meter_reception}
use Rattle.line_rules.specs.Steps.{hearing_step, identity}
use Rattle.line_rules.specs.Worlds.{World}
use Rattle.line_laws.proofs.CallForms.{Few, Nothing, random_is, send_is}
use Rattle.line_laws.proofs.CoordinatorForms.{IsGranted, IsReached, IsSaidDown, activate_is, activate_self_is, challenge_is, coordinator_is, kick_is, rekey_is}
use Rattle.line_laws.proofs.Made.{Given, IsLess, Whole, Part, Carried, IsSaid, Seeks, Answers, Relays, Passes, SaysTheSame, Forwards, Made, Starts, Ranks}
use Rattle.line_laws.proofs.Made.{Numbers}
use Rattle.line_laws.proofs.Made.{Tags as TagsOn, Rings, Idles, Loses, Goes, Sends, Waits, Leaves, RingWord, Carry}
use Rattle.line_laws.proofs.MadeIn.{MadeIn, Begins, Station, OnStation, Remembers, Tags, Enters, Up as UpIn, Down as DownIn}
use Rattle.line_laws.proofs.MemoryDraftForms.{AnyAnswer, MadeBy}
use Rattle.line_laws.proofs.MeterForms.{joins_is, leaves_is, meter_is}
use Rattle.line_laws.proofs.NodeCalls.{NoEui, NoGrant, NoPair, call_given, heard_given}
use Rattle.line_laws.proofs.Planned.{Planned, Refuses, Keeps, Ended}
use Rattle.line_laws.proofs.Quiet.{accept_quiet, acts_quiet, allow_quiet, counter_quiet, depot_quiet, install_quiet, near_quiet, number_quiet}
use Rattle.line_laws.proofs.StoreMarks.{accept_is}
use Rattle.line_laws.proofs.StepKinds as old

-- a command alone of such a unit is a route message
abbrev pub IsOldUnit : MeshUnit → Type 0
IsOldUnit (units.Local code body) = code ≡ 1
IsOldUnit (units.Whole mesh octets) = Unit {0}
IsOldUnit (units.Part mesh piece) = Unit {0}
IsOldUnit (units.Carried mesh body) = Unit {0}

-- a sealed frame has such a unit
abbrev pub IsOldFrame : Sent → Type 0
IsOldFrame (Sealed l) = IsOldUnit l.unit
IsOldFrame (Up agent from message) = Unit {0}
IsOldFrame (Down from message) = Unit {0}

record IsOldOut (o : UnsealedUnit) : Type 0 where
  unit : IsOldUnit o.unit

-- # What is said

less_old : (u less : MeshUnit) → IsLess u less → IsOldUnit less
less_old u less (Whole mesh octets) = tt
less_old u less (Part mesh piece) = tt
less_old u less (Carried mesh body) = tt

said_old : {W : RingWord → Type 0} {g : Given} {s d : Draft StationMemory} (to : ℕ) (unit : MeshUnit) (note : ℕ) → IsSaid W g s d to unit note → IsOldUnit unit
said_old to unit note (Seeks own dest number n load here last some carried) = refl
said_old to unit note (Answers own by origin number n c dest here last some came_so) = refl
said_old to unit note (Relays by origin dest n c rank o just came_so) = refl
said_old to unit note (Passes by origin t hop n c rank o just came_so there) = refl
said_old to unit note (SaysTheSame hop lost t dest why there) = refl
said_old to unit note (Forwards by hop dest u less came is there) = less_old u less is

load_old : (own to hop note : ℕ) (load : Load) → All IsOldOut (all_go hop note (units_of own to load))
load_old own to hop note (Command octets) = All-cons IsOldOut _ [] (record { unit = tt }) (All-nil IsOldOut)
load_old own to hop note (Datagram octets tag) = by_size (nat_le (length octets) 375)
  where
    pieces : (ps : List Placed) → All IsOldOut (all_go hop note (map (λ piece. units.Part (own_mesh own to) piece) ps))
    pieces [] = All-nil IsOldOut
    pieces (p ∷ ps) = All-cons IsOldOut _ _ (record { unit = tt }) (pieces ps)

    by_size : (b : Bool) → All IsOldOut (all_go hop note (if b then units.Whole (own_mesh own to) octets ∷ [] else map
        (λ piece. units.Part (own_mesh own to) piece) (pieces_cut octets tag)))
    by_size true = All-cons IsOldOut _ [] (record { unit = tt }) (All-nil IsOldOut)
    by_size false = pieces (pieces_cut octets tag)

bodies_old : (own hop : ℕ) (bodies : List Body) → All IsOldOut (flat_map (λ b. all_go hop b.note (units_of own b.to b.load)) bodies)
bodies_old own hop [] = All-nil IsOldOut
bodies_old own hop (b ∷ bodies) = All-append IsOldOut (all_go hop b.note (units_of own b.to b.load)) _ (load_old own b.to hop b.note b.load)
    (bodies_old own hop bodies)

module _ (W : RingWord → Type 0) (g : Given) where
  made_old : (s d : Draft StationMemory) → Made W g s d → All IsOldOut s.units → All IsOldOut d.units
  unfolding with_rank with_own_number with_next_tag with_ring with_routing_by goes body_goes waits leave
  made_old s d Starts us = us
  made_old s d (Ranks by origin rank e made o fits) us = made_old s e made us
  made_old s d (Numbers e made left) us = made_old s e made us
  made_old s d (TagsOn e made first) us = made_old s e made us
  made_old s d (Rings x e made change) us = made_old s e made us
  made_old s d (Idles e made) us = made_old s e made us
  made_old s d (Loses lost by e made) us = made_old s e made us
  made_old s d (Goes to unit note e made said alone) us = All-push IsOldOut e.units _ (made_old s e made us) (record { unit = said_old to unit note said })
  made_old s d (Sends own hop to note load e made here there short carried alone) us = All-append IsOldOut e.units _ (made_old s e made us)
      (load_old own to hop note load)
  made_old s d (Waits to note load now e made none room short carried alone) us = made_old s e made us
  made_old s d (Leaves own dest hop rank e made here o) us = All-append IsOldOut e.units _ (made_old s e made us)
      (bodies_old own hop (filter (waits_for dest) e.memory.waiting))

  -- the plain frames stay
  made_plain : (s d : Draft StationMemory) → Made W g s d → d.plain ≡ s.plain
  unfolding with_rank with_own_number with_next_tag with_ring with_routing_by goes body_goes waits leave
  made_plain s d Starts = refl
  made_plain s d (Ranks by origin rank e made o fits) = made_plain s e made
  made_plain s d (Numbers e made left) = made_plain s e made
  made_plain s d (TagsOn e made first) = made_plain s e made
  made_plain s d (Rings x e made change) = made_plain s e made
  made_plain s d (Idles e made) = made_plain s e made
  made_plain s d (Loses lost by e made) = made_plain s e made
  made_plain s d (Goes to unit note e made said alone) = made_plain s e made
  made_plain s d (Sends own hop to note load e made here there short carried alone) = made_plain s e made
  made_plain s d (Waits to note load now e made none room short carried alone) = made_plain s e made
  made_plain s d (Leaves own dest hop rank e made here o) = made_plain s e made

-- Units and plain frames of what is being done.
record IsOldDraft (d : Draft Memory) : Type 0 where
  units : All IsOldOut d.units
  plain : All IsOldFrame d.plain

module _ (W : RingWord → Type 0) (L : Granted → Type 0) (P : Eui → Key → Type 0) (E : Eui → Type 0) (g : Given) (m : Memory) where
  made_in_old : (d : Draft Memory) → MadeIn W L P E g m d → IsOldDraft d
  unfolding empty_draft on_station with_memory_by with_pair_tags coordinators.with_book_entry goes_up goes_down
  made_in_old d Begins = record { units = All-nil IsOldOut; plain = All-nil IsOldFrame }
  made_in_old d (Station e made) = record {
    units = made_old W g (empty_draft m.station) e made (All-nil IsOldOut);
    plain = rw
        (made_plain W g (empty_draft m.station) e made) (All-nil IsOldFrame);
  }
  made_in_old d (OnStation word e made step) =
      let r = made_in_old e made in
      record {
        units = made_old W _ (station_part e) (word (station_part e)) step r.units;
        plain = rw
            (made_plain W _ (station_part e) (word (station_part e)) step) r.plain;
      }
  made_in_old d (Remembers change e made beside) = let r = made_in_old e made in record { units = r.units; plain = r.plain }
  made_in_old d (Tags made opened e x) = let r = made_in_old e x in record { units = r.units; plain = r.plain }
  made_in_old d (Enters x e made change) = let r = made_in_old e made in record { units = r.units; plain = r.plain }
  made_in_old d (UpIn agent own message e made) = let r = made_in_old e made in record
      { units = r.units; plain = All-push IsOldFrame e.plain (Up agent own message) r.plain tt }
  made_in_old d (DownIn own message e made) = let r = made_in_old e made in record
      { units = r.units; plain = All-push IsOldFrame e.plain (Down own message) r.plain tt }

-- # Frames

sealed_units_old : (g : Granted) (key : Key) (first : ℕ) (us : List UnsealedUnit) → All IsOldOut us → All IsOldFrame (sealed_units g key first us)
sealed_units_old g key first [] all = All-nil IsOldFrame
sealed_units_old g key first (o ∷ rest) all = All-cons IsOldFrame _ _ (All-head IsOldOut o rest all).unit
    (sealed_units_old g key (first + 1) rest (All-tail IsOldOut o rest all))

sealed_old : (r : ring.Ring) (first : ℕ) (us : List UnsealedUnit) → All IsOldOut us → All IsOldFrame (sealed_by r first us)
sealed_old None first us all = All-nil IsOldFrame
sealed_old (Some g) first us all = by_key (sealing_key g)
  where
    by_key : (key : Option Key) → All IsOldFrame (option_map_or (λ k. sealed_units g k first us) key [])
    by_key None = All-nil IsOldFrame
    by_key (Some key) = sealed_units_old g key first us all

module _ (W : RingWord → Type 0) (L : Granted → Type 0) (P : Eui → Key → Type 0) (E : Eui → Type 0) (g : Given) (m : Memory) where
  plan_old : {H F : Type 0} (ends : Ends F) (K : Memory → H → Type 0) (D : Draft Memory → H → Type 0)
      → ((d : Draft Memory) (answer : H) → D d answer → MadeIn W L P E g m d) → (p : Plan Memory (Result H F)) → Planned in_memory ends m K D p
      → All IsOldFrame p.frames
  unfolding resting
  plan_old ends K D made p (Refuses reason) = All-nil IsOldFrame
  plan_old ends K D made p (Keeps n answer k) = All-nil IsOldFrame
  plan_old ends K D made p (Ended d answer done left) =
      let r = made_in_old W L P E g m d (made d answer done) in
      All-append IsOldFrame d.plain _ r.plain (sealed_old d.memory.station.ring d.memory.station.counter.next d.units r.units)

acts_old : {A : Type 0} (x : Node) (halted : A) (plan : Memory → Plan Memory A) → ((m : Memory) → All IsOldFrame (plan m).frames)
    → All IsOldFrame (acts x halted plan).frames
unfolding acts
acts_old {A} x halted plan f = by_memory x.memory
  where
    by_outcome : (m : Memory) → All IsOldFrame (carry_out x.store.records x.store.cut (plan m)).frames
    by_outcome m = ⊎_elim
        (λ (w : IsWhole x.store.records x.store.cut (plan m) (carry_out x.store.records x.store.cut (plan m))). subst (All IsOldFrame) (sym w.frames) (f m))
        (λ (c : IsCutOff x.store.records x.store.cut (plan m) (carry_out x.store.records x.store.cut (plan m))). subst (All IsOldFrame) (sym c.frames)
        (All-nil IsOldFrame))
        (clean x.store.records x.store.cut (plan m))

    by_memory : (o : Option Memory) → All IsOldFrame (option_map_or (λ m. left_by x (carry_out x.store.records x.store.cut (plan m))) o (stays x halted)).frames
    by_memory None = All-nil IsOldFrame
    by_memory (Some m) = by_outcome m

none_old : (fs : List Sent) → fs ≡ [] → All IsOldFrame fs
none_old fs e = subst (All IsOldFrame) (sym e) (All-nil IsOldFrame)

-- # Calls

abbrev AnyWord : RingWord → Type 0
AnyWord w = Unit {0}

abbrev AnyPair : Eui → Key → Type 0
AnyPair eui psk = Unit {0}

abbrev AnyEui : Eui → Type 0
AnyEui eui = Unit {0}

send_old : (m : Memory) (to : ℕ) (datagram : List ℕ) (note now : ℕ) → All IsOldFrame (of_station m (calls.send m.station to datagram note now)).frames
unfolding resting
send_old m to datagram note now = plan_old AnyWord NoGrant NoPair NoEui (call_given 0 note now) m calls.sending_ends Nothing
    (λ d a. MadeIn AnyWord NoGrant NoPair NoEui (call_given 0 note now) m d × Few m.station d) (λ d a x. x.0) _
    (over _ (send_is AnyWord (call_given 0 note now) m.station to datagram (λ some short. tt)))
  where
    over : {H F : Type 0} {ends : Ends F} (p : Plan StationMemory (Result H F))
        → Planned alone ends m.station Nothing (λ d (a : H). Made AnyWord (call_given 0 note now) (empty_draft m.station) d × Few m.station d) p
        → Planned in_memory ends m Nothing (λ d (a : H). MadeIn AnyWord NoGrant NoPair NoEui (call_given 0 note now) m d × Few m.station d) (of_station m p)
    over p (Refuses reason) = Refuses reason
    over p (Keeps n answer k) = absurd k
    over p (Ended d answer done left) = Ended (whole m d) answer (Station d done.0, record { few = done.1.few }) left

random_old : (m : Memory) (value : RandomOctets) → All IsOldFrame (give_random m value).frames
random_old m value = plan_old AnyWord NoGrant NoPair NoEui (call_given 0 0 0) m given_ends Nothing
    (MadeBy AnyWord NoGrant NoPair NoEui (call_given 0 0 0) m AnyAnswer) (λ d answer y. y.0) _
    (random_is AnyWord NoGrant NoPair NoEui (call_given 0 0 0) m value)

join_old : (x : meters.Identity) (m : Memory) (agent now : ℕ) → All IsOldFrame (meters.join x m agent now).frames
join_old x m agent now = plan_old _ NoGrant NoPair NoEui (call_given 0 0 now) m meters.joining_ends Nothing
    (MadeBy _ NoGrant NoPair NoEui (call_given 0 0 now) m AnyAnswer) (λ d answer y. y.0) _ (joins_is NoGrant NoPair NoEui (call_given 0 0 now) x m agent)

leave_old : (x : meters.Identity) (m : Memory) → All IsOldFrame (meters.leave m).frames
leave_old x m = plan_old _ NoGrant NoPair NoEui (call_given 0 0 0) m meters.leaving_ends Nothing (MadeBy _ NoGrant NoPair NoEui (call_given 0 0 0) m AnyAnswer)
    (λ d answer y. y.0) _ (leaves_is NoGrant NoPair NoEui (call_given 0 0 0) x m)

module _ (own : coordinators.CoordinatorIdentity) (m : Memory) (now : ℕ) where
  says_any : (to : ℕ) → IsReached (call_given 0 0 now) m to → (join : JoinMessage) → IsSaidDown AnyEui own m join
      → AnyWord (Carry to 0 (Command (command_of join)))
  says_any to there join said = tt

  order_old : {H : Type 0} (p : Plan Memory (Result H CoordinatorRefusal))
      → Planned in_memory coordinators.orders m Nothing (MadeBy AnyWord (IsGranted m) AnyPair AnyEui (call_given 0 0 now) m AnyAnswer) p
      → All IsOldFrame p.frames
  order_old p s = plan_old AnyWord (λ granted. IsGranted m granted) AnyPair AnyEui (call_given 0 0 now) m coordinators.orders Nothing
      (MadeBy AnyWord (IsGranted m) AnyPair AnyEui (call_given 0 0 now) m AnyAnswer) (λ d answer x. x.0) p s

  rekey_old : (index : ℕ) (key : Key) → All IsOldFrame (coordinators.rekey m index key).frames
  rekey_old index key = order_old _ (rekey_is AnyWord AnyPair AnyEui (call_given 0 0 now) own m says_any index key tt)

  turn_old : (index : ℕ) → All IsOldFrame (coordinators.activate_self m index).frames
  turn_old index = order_old _ (activate_self_is AnyWord AnyPair AnyEui (call_given 0 0 now) own m says_any index tt)

  challenge_old : (eui : Eui) → All IsOldFrame (coordinators.challenge own.eui m eui now).frames
  challenge_old eui = order_old _ (challenge_is AnyWord AnyPair AnyEui (call_given 0 0 now) own m says_any eui tt)

  activate_old : (eui : Eui) (index : ℕ) → All IsOldFrame (coordinators.activate m eui index now).frames
  activate_old eui index = order_old _ (activate_is AnyWord AnyPair AnyEui (call_given 0 0 now) own m says_any eui index)

  kick_old : (eui : Eui) → All IsOldFrame (coordinators.kick m eui).frames
  kick_old eui = order_old _ (kick_is AnyWord AnyPair AnyEui (call_given 0 0 now) own m says_any eui tt)

module _ (ciphers : Ciphers) (w : World) where
  abbrev own_of : Node → coordinators.CoordinatorIdentity
  own_of c = record { eui = c.eui; ciphers = ciphers }

  pub call_old : (number : ℕ) (x : Node) (A : Type 0) (halted : A) (plan : Memory → Plan Memory A) → old.IsCall ciphers w number x A halted plan
      → All IsOldFrame (acts x halted plan).frames
  unfolding resting
  call_old number x A halted plan (old.Gives value are) = acts_old x _ _ (λ m. random_old m value)
  call_old number x A halted plan (old.Joins psk a ne pair other) = acts_old x _ _ (λ m. join_old (identity ciphers x psk) m a w.clock)
  call_old number x A halted plan (old.Leaves ne) = acts_old x _ _ (λ m. leave_old (identity ciphers x (record { 0 = [] })) m)
  call_old number x A halted plan (old.Sends a datagram other are) = acts_old x _ _ (λ m. send_old m a datagram (w.sends + 1) w.clock)
  call_old number x A halted plan (old.Breaks a other) = acts_old x _ _ (λ m. All-nil IsOldFrame)
  call_old number x A halted plan (old.Nears a cost open_is other low) = none_old _ (acts_quiet x _ _ (λ m. near_quiet m.station a cost w.clock))
  call_old number x A halted plan (old.Counts value open_is low) = none_old _ (acts_quiet x _ _ (λ m. counter_quiet m.station value))
  call_old number x A halted plan (old.Numbers value open_is some low) = none_old _ (acts_quiet x _ _ (λ m. number_quiet m.station value))
  call_old number x A halted plan (old.Accepts octets event says comes) = none_old _
      (acts_quiet x _ _ (λ m. accept_quiet m.station _ _ (accept_is m.station x.eui (arrived ciphers octets))))
  call_old number x A halted plan (old.Provisions psk c g ne pair at is) = none_old _ (acts_quiet x _ _ (λ m. install_quiet m.station g))
  call_old number x A halted plan (old.Depots meter y psk first open_is at pair) = none_old _ (acts_quiet x _ _ (λ m. depot_quiet m y.eui psk))
  call_old number x A halted plan (old.Allows meter y psk first at pair) = none_old _ (acts_quiet x _ _ (λ m. allow_quiet m y.eui psk))
  call_old number x A halted plan (old.Rekeys index key first low long) = acts_old x _ _ (λ m. rekey_old (own_of x) m 0 index key)
  call_old number x A halted plan (old.Turns index first low) = acts_old x _ _ (λ m. turn_old (own_of x) m 0 index)
  call_old number x A halted plan (old.Challenges meter y first at) = acts_old x _ _ (λ m. challenge_old (own_of x) m w.clock y.eui)
  call_old number x A halted plan (old.Activates meter y index first at low) = acts_old x _ _ (λ m. activate_old (own_of x) m w.clock y.eui index)
  call_old number x A halted plan (old.Kicks meter y first at) = acts_old x _ _ (λ m. kick_old (own_of x) m 0 y.eui)

  -- what is heard
  module _ (got : Accepted) (cost note now : ℕ) where
    meter_old : (x : meters.Identity) (m : Memory) → All IsOldFrame (meters.hear_meter x m got cost note now).frames
    meter_old x m = plan_old _ NoGrant NoPair NoEui (heard_given got cost note now) m dropped _ _ (λ d answer y. y.0) _
        (meter_is NoGrant NoPair NoEui (heard_given got cost note now) x m got refl)

    coordinator_old : (own : coordinators.CoordinatorIdentity) (m : Memory) → All IsOldFrame (coordinators.hear_coordinator own m got cost note now).frames
    coordinator_old own m = plan_old AnyWord (λ granted. IsGranted m granted) AnyPair AnyEui (heard_given got cost note now) m dropped _ _ (λ d answer x. x.0) _
        (coordinator_is AnyWord AnyPair AnyEui (heard_given got cost note now) own m (λ to there join said. tt) got refl (λ u join e read. tt))

    pub hears_old : (x : Node) → All IsOldFrame (hearing_step ciphers x got cost note now).frames
    hears_old x = by_role x.role
      where
        hears_as : Role → NodeStep Reception
        hears_as Coordinator = answering coordinator_reception (acts x (Err drops.Store) (λ m. coordinators.hear_coordinator (own_of x) m got cost note now))
        hears_as (Meter psk) = answering meter_reception (acts x (Err drops.Store) (λ m. meters.hear_meter (identity ciphers x psk) m got cost note now))

        by_role : (r : Role) → All IsOldFrame (hears_as r).frames
        by_role Coordinator = acts_old x (Err drops.Store) (λ m. coordinators.hear_coordinator (own_of x) m got cost note now)
            (λ m. coordinator_old (own_of x) m)
        by_role (Meter psk) = acts_old x (Err drops.Store) (λ m. meters.hear_meter (identity ciphers x psk) m got cost note now)
            (λ m. meter_old (identity ciphers x psk) m)

-- a meter that joins by an agent
pub joins_old : (x : meters.Identity) (m : Memory) (agent now : ℕ) → All IsOldFrame (meters.join x m agent now).frames
joins_old x m agent now = join_old x m agent now
