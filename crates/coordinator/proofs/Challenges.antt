-- What a session comes to that the operator opens over the mesh.
use Rattle.std.proofs.Common.{◌≡◌, ℕ, ◌≤◌, true, false, List, [], ◌∷◌, length, Option, Some, None, Result, refl, sym, ap, subst, ◌∙◌, arith}
use Rattle.std.specs.Prelude.{IfSome, IsSome, drop, slice_get}
use Rattle.std.specs.Option.{option_map, option_map_or}
use Rattle.plc_base.specs.Keeper.{Store}
use Rattle.store_tables.specs.Writes.{Wrote}
use Rattle.plc_base.specs.declared.address.Eui.{Eui}
use Rattle.plc_base.specs.declared.key.RandomOctets.{RandomOctets}
use Rattle.plc_base.specs.declared.out_frame.Out.{Out}
use Rattle.store_tables.proofs.WritesLemmas.{wrote_none}
use Rattle.group_keys.specs.KeyBook as book
use Rattle.eap_psk.specs.declared.server.Server.{Server}
use Rattle.joining_messages.specs.declared.message.JoinMessage.{JoinMessage}
use Rattle.joining_messages.specs.declared.message.JoinBody.TheVariants.{Challenge}
use Rattle.node_rules.specs.declared.heard.Way.TheVariants.{Mesh}
use Rattle.node_rules.specs.declared.refusal.CoordinatorRefusal.{CoordinatorRefusal}
use Rattle.node_rules.specs.declared.refusal.CoordinatorRefusal.TheVariants.{NotAllowed, SessionsFull, NoRandom}
use Rattle.node_rules.specs.Memory.{StationMemory, Memory, CoordinatorSession, Command, address_of}
use Rattle.node_rules.specs.MemoryDrafts.{in_memory, on_station, with_memory_by, is_commanded, oldest, without_oldest}
use Rattle.node_rules.specs.JoiningPackets.{message, command_of, first_packet, server_for}
use Rattle.node_rules.specs.Calls.{commands, command_frames}
use Rattle.node_rules.specs.Drafts.{Draft, empty_draft, refused, sealing, checked}
use Rattle.node_rules.specs.Coordinators.{orders, lacking, with_session, sessions_full, allowed_address, challenge, challenge_by}
use Rattle.node_rules.specs.States.{State}
use Rattle.node_rules.specs.CarriedPlans.{Carries}
use Rattle.node_rules.specs.ComposedPlans.{begun, HasRoom}
use Rattle.node_rules.proofs.ComposedPlans.{command_plan, command_units, room_seals, room_refuses, carries_behind}
use Rattle.coordinator.specs.CoordinatorStates.{memory_in, state_in}
use Rattle.coordinator.specs.CoordinatorAgreement.{CoordinatorAgreesWith, CoordinatorAgrees}
use Rattle.coordinator.specs.Tables.{placed}
use Rattle.coordinator.specs.MeshCommands.{command_sent, sent_command, lacks, RoomFor}
use Rattle.coordinator.proofs.StoredChanges.{carried_by}

-- # The plan, by what is tested

module _ (own : Eui) (m : Memory) (eui : Eui) (now : ℕ) where
  pub not_allowed : None ≡ allowed_address m eui → refused {H = Unit {0}} orders m NotAllowed ≡ challenge own m eui now
  not_allowed e = rw (← e) refl

  pub full : (to : ℕ) → Some to ≡ allowed_address m eui → true ≡ sessions_full m eui → refused {H = Unit {0}} orders m SessionsFull ≡ challenge own m eui now
  unfolding checked
  full to e f = rw (← e, ← f) refl

  pub no_random : (to : ℕ) → Some to ≡ allowed_address m eui → false ≡ sessions_full m eui → None ≡ oldest m
      → refused {H = Unit {0}} orders m NoRandom ≡ challenge own m eui now
  unfolding checked
  no_random to e f v = rw (← e, ← f, ← v) refl

  pub challenges : (to : ℕ) (value : RandomOctets) → Some to ≡ allowed_address m eui → false ≡ sessions_full m eui → Some value ≡ oldest m
      → challenge_by own m to now (server_for eui own value) ≡ challenge own m eui now
  unfolding checked
  challenges to value e f v = rw (← e, ← f, ← v) refl

-- # A session that begins with its command

module _ (own : Eui) (m : Memory) (to now : ℕ) (server : Server) where
  first : JoinMessage
  first = message server.eui (Challenge (first_packet server))

  -- the memory with the session
  pub opened : Memory
  opened = with_session (record { server = server; way = Mesh to; since = now }) (without_oldest m)

  begins : Draft Memory
  begins = begun [] opened [] [] []

  from_address : Option ℕ → Draft Memory
  from_address o = option_map_or (λ from. on_station (commands from to (command_of first) now) begins) o begins

  long : address_of m.station ≡ Some 0 → length (from_address (address_of m.station)).units ≡ command_frames m.station to
  unfolding from_address begins opened
  long home = ap (λ o. length (from_address o).units) home ∙ command_units 0 to (command_of first) now [] opened [] [] []

  pub ordered_plan : address_of m.station ≡ Some 0 → RoomFor m to (message server.eui (Challenge (first_packet server)))
      → sent_command (with_session (record { server = server; way = Mesh to; since = now }) (without_oldest m)) to
      (message server.eui (Challenge (first_packet server))) now
      ≡ challenge_by own m to now server
  unfolding from_address begins opened first is_commanded with_memory_by empty_draft
  ordered_plan home room =
      command_plan orders [] opened [] [] [] 0 to (Command (command_of first)) now tt ∙ (λ i. sealing in_memory orders (from_address (sym home i)) tt)
      ∙ room_seals to (length (command_of first)) orders lacking m (from_address (address_of m.station)) tt room (long home)

  pub lacking_plan : (reason : CoordinatorRefusal) → address_of m.station ≡ Some 0
      → lacks m to (length (command_of (message server.eui (Challenge (first_packet server))))) ≡ Some reason
      → refused {H = Unit {0}} orders m reason ≡ challenge_by own m to now server
  unfolding from_address begins opened first is_commanded with_memory_by empty_draft
  lacking_plan reason home fault =
      room_refuses to (length (command_of first)) orders lacking m (from_address (address_of m.station)) tt reason fault (long home)

  first_done : (s mid t : State Memory) (answer : Result (Unit {0}) CoordinatorRefusal) (out : Out) → CoordinatorAgreesWith m s.store.records
      → RoomFor m to (message server.eui (Challenge (first_packet server)))
      → mid ≡ record s { memory = Some (with_session (record { server = server; way = Mesh to; since = now }) (without_oldest m)) }
      → IfSome mid.memory (λ n. Carries mid (sent_command n to (message server.eui (Challenge (first_packet server))) now) answer out t)
      → Carries s (challenge_by own m to now server) answer out t
  unfolding first opened
  first_done s mid t answer out h room is goes =
      let held : mid.memory ≡ Some opened = ap (λ (x : State Memory). x.memory) is in
      carried_by s t (sent_command opened to first now) (challenge_by own m to now server) answer out (ordered_plan h.home room)
      (carries_behind s mid t [] (sent_command opened to first now) answer out
      (subst (λ (k : Store). Wrote s.store [] true k) (sym (ap (λ (x : State Memory). x.store) is)) (wrote_none s.store))
      (sym (ap (λ (x : State Memory). x.eui) is))
      (subst (λ (o : Option Memory). IfSome o (λ n. Carries mid (sent_command n to first now) answer out t)) held goes))

  -- the same of octets that are this command
  pub ordered_done : (octets : List ℕ) (s mid t : State Memory) (answer : Result (Unit {0}) CoordinatorRefusal) (out : Out)
      → octets ≡ command_of (message server.eui (Challenge (first_packet server)))
      → CoordinatorAgreesWith m s.store.records → HasRoom m.station to (length octets)
      → mid ≡ record s { memory = Some (with_session (record { server = server; way = Mesh to; since = now }) (without_oldest m)) }
      → IfSome mid.memory (λ n. Carries mid (command_sent n to octets now) answer out t) → Carries s (challenge_by own m to now server) answer out t
  ordered_done octets s mid t answer out same h room is goes =
      first_done s mid t answer out h (subst (λ (k : List ℕ). HasRoom m.station to (length k)) same room) is
      (subst (λ (k : List ℕ). IfSome mid.memory (λ n. Carries mid (command_sent n to k now) answer out t)) same goes)

-- # The session in the memory

some_value : (xs : List RandomOctets) → IsSome (slice_get xs 0) → 1 ≤ length xs
some_value [] there = absurd (cc)
some_value (x ∷ xs) there = omega arith

module _ (s : State StationMemory) (randoms after : List RandomOctets) (sessions next : List CoordinatorSession) (b : book.Book) where
  pub began : (session : CoordinatorSession) (l : StationMemory) → s.memory ≡ Some l → after ≡ drop 1 randoms → next ≡ placed session sessions
      → state_in s after next b ≡ record (state_in s randoms sessions b)
      { memory = Some (with_session session (without_oldest (memory_in randoms sessions b l))) }
  began session l running taken put =
      λ i. record { store = s.store; eui = s.eui; memory = option_map (memory_in (taken i) (put i) b) (running i); replied = s.replied }

  pub beside_holds : CoordinatorAgrees (state_in s randoms sessions b) → CoordinatorAgrees (state_in s after next b)
  beside_holds h = by s.memory h
    where
      by : (o : Option StationMemory) → IfSome (option_map (memory_in randoms sessions b) o) (λ m. CoordinatorAgreesWith m s.store.records)
          → IfSome (option_map (memory_in after next b) o) (λ m. CoordinatorAgreesWith m s.store.records)
      by None h = tt
      by (Some l) h = record { station = h.station; book = h.book; home = h.home }

  pub has_value : (l : StationMemory) → s.memory ≡ Some l → IfSome (state_in s randoms sessions b).memory (λ m. IsSome (oldest m)) → 1 ≤ length randoms
  has_value l running there =
      some_value randoms (subst (λ (o : Option StationMemory). IfSome (option_map (memory_in randoms sessions b) o) (λ m. IsSome (oldest m))) running there)

pub session_runs : (s mid : State Memory) (m : Memory) → mid ≡ record s { memory = Some m } → IsSome mid.memory
session_runs s mid m is = subst (λ (o : Option Memory). IsSome o) (sym (ap (λ (x : State Memory). x.memory) is)) refl

pub session_room : (s mid : State Memory) (m : Memory) (session : CoordinatorSession) (to octets : ℕ) → HasRoom m.station to octets
    → mid ≡ record s { memory = Some (with_session session (without_oldest m)) } → IfSome mid.memory (λ n. HasRoom n.station to octets)
session_room s mid m session to octets room is =
    subst (λ (o : Option Memory). IfSome o (λ n. HasRoom n.station to octets)) (sym (ap (λ (x : State Memory). x.memory) is)) room
