-- What came to a node in a frame, and what it then says of it.
use Rattle.std.proofs.Common.{◌≡◌, ⊎_elim, ℕ, ◌+◌, Bool, true, false, List, [], ◌∷◌, ◌++◌, length, Option, Some, None, Result, Ok, Err, refl, sym, ap, ◌∙◌}
use Rattle.std.proofs.Common.{subst}
use Rattle.std.specs.Prelude.{nat_lt, ◌==◌, if◌then◌else◌, IfSome}
use Rattle.std.specs.Option.{option_map_or}
use Rattle.std.proofs.lemmas.Bool.{eqb-true}
use Rattle.std.proofs.lemmas.Option.{same_Some}
use Rattle.plc_base.specs.declared.key.Key.{Key}
use Rattle.plc_base.specs.Faults.{◌then◌, ◌when◌}
use Rattle.mesh_header.specs.declared.unit.Unit.{Unit as MeshUnit}
use Rattle.mesh_header.specs.declared.unit.Unit.TheVariants as units
use Rattle.mesh_header.specs.Reader.{unit_in}
use Rattle.broadcast_log.specs.declared.broadcast.Broadcast.{Broadcast}
use Rattle.broadcast_log.specs.declared.fault.LogFault.{LogFault}
use Rattle.broadcast_log.specs.declared.fault.LogFault.TheVariants as log_faults
use Rattle.broadcast_log.specs.OriginMarks.{room_for}
use Rattle.broadcast_log.specs.Reader.{broadcast_in}
use Rattle.neighbour_checks.specs.Acks.{ack_in}
use Rattle.neighbour_checks.specs.Neighbours.{acked_after, is_awaited}
use Rattle.path_requests.specs.declared.message.PathMessage.{PathMessage}
use Rattle.path_requests.specs.declared.message.PathMessage.TheVariants.{Ask, Tell}
use Rattle.path_requests.specs.declared.step.PathStep.{PathStep}
use Rattle.path_requests.specs.declared.step.PathStep.TheVariants.{Forward, Answer as Answers, Done}
use Rattle.path_requests.specs.declared.step.PathRefusal.{PathRefusal}
use Rattle.path_requests.specs.declared.step.PathRefusal.TheVariants as path_faults
use Rattle.path_requests.specs.Reader.{path_in}
use Rattle.path_requests.specs.PathSteps.{ask_led, hop, taken, tell_taken}
use Rattle.path_requests.specs.Walks.{ends_with, has, has_at}
use Rattle.std.specs.Prelude.{position}
use Rattle.node_rules.specs.Accepted.{Accepted}
use Rattle.node_rules.specs.declared.heard.Path.{Path}
use Rattle.node_rules.specs.declared.heard.Path.TheVariants as paths
use Rattle.node_rules.specs.declared.refusal.Dropped.TheVariants as drops
use Rattle.node_rules.specs.Ciphers.{network}
use Rattle.node_rules.specs.Drafts.{Draft, checked, choose, counters_left, refused, sealed, sealing}
use Rattle.node_rules.specs.Laws.{IsCutOff, IsWhole}
use Rattle.node_rules.specs.Memory.{Memory, Node, address_of}
use Rattle.node_rules.specs.MemoryDrafts.{in_memory}
use Rattle.node_rules.specs.NodeSteps.{acts, left_by, stays}
use Rattle.node_rules.specs.Plans.{Plan, carry_out, resting}
use Rattle.node_rules.proofs.FailedWrites.{clean}
use Rattle.reach_rules.specs.declared.heard.CommandHeard.{CommandHeard}
use Rattle.reach_rules.specs.declared.heard.CommandHeard.TheVariants as heard_of
use Rattle.reach_rules.specs.declared.refusal.ReachDropped.{ReachDropped}
use Rattle.reach_rules.specs.declared.refusal.ReachDropped.TheVariants as reach_drops
use Rattle.reach_rules.specs.Broadcasts.{admits_broadcast, broadcast_fault, hear_broadcast, hear_broadcast_in, mark_fault}
use Rattle.reach_rules.specs.CheckedReplies.{hear_acknowledgement, hear_acknowledgement_in}
use Rattle.reach_rules.specs.PathRequests.{follows_path, hear_path, hear_path_in, next_toward}
use Rattle.reach_rules.specs.ReachingNodes.{Beside, Reaching, drop_it, in_reach, reach_ends, remembers, with_checks}
use Rattle.reach_rules.specs.FurtherReceptions.{NeighbourCommand, command_of, command_on, hear_command, hear_command_at}
use Rattle.line_events.specs.declared.event.Event.{Event}
use Rattle.line_rules.specs.Forgery.{Comes, accepting}
use Rattle.line_rules.specs.Further.{with_beside}
use Rattle.line_rules.specs.Worlds.{World, node_at}
use Rattle.line_laws.specs.ReachTraces.{FrameCame}

-- # The frame of a command

record IsCarried (p : Path) (o : Option MeshUnit) (c : NeighbourCommand) : Type 0 where
  key : Key
  path : p ≡ paths.Sealed c.from c.to_all key
  carries : o ≡ Some (units.Local c.code c.body)

carried : (p : Path) (o : Option MeshUnit) (c : NeighbourCommand) → command_on p o ≡ Some c → IsCarried p o c
carried (paths.Up from) o c e = absurd (cc (e))
carried (paths.Down from) o c e = absurd (cc (e))
carried (paths.Sealed from all key) None c e = absurd (cc (e))
carried (paths.Sealed from all key) (Some (units.Whole mesh octets)) c e = absurd (cc (e))
carried (paths.Sealed from all key) (Some (units.Part mesh piece)) c e = absurd (cc (e))
carried (paths.Sealed from all key) (Some (units.Carried mesh body)) c e = absurd (cc (e))
carried (paths.Sealed from all key) (Some (units.Local code body)) c e = by_code (code == 1) (code == 2) e
  where
    IsSo : NeighbourCommand → Type 0
    IsSo d = IsCarried (paths.Sealed from all key) (Some (units.Local code body)) d

    by_code : (s t : Bool) → (if s then None else (if t then None else Some (record { from = from; to_all = all; code = code; body = body }))) ≡ Some c → IsSo c
    by_code true t is = absurd (cc (is))
    by_code false true is = absurd (cc (is))
    by_code false false is = subst IsSo (same_Some _ _ is) (record { key = key; path = refl; carries = refl })

-- a command that a node accepted came in its frame
pub command_came : (w : World) (event : Event) (number : ℕ) (x : Node) (octets : List ℕ) (got : Accepted) (c : NeighbourCommand) → node_at w number ≡ Some x
    → Comes w event number octets → (accepting network x octets).answer ≡ Ok got → command_of got ≡ Some c
    → FrameCame w event number c.from c.to_all (units.Local c.code c.body)
command_came w event number x octets got c there comes is e =
    let k = carried got.path (unit_in got.payload) c e in
    record { node = x; there = there; octets = octets; comes = comes; got = got; is = is; key = k.key; path = k.path; carries = k.carries }

-- # What a path message leads to

-- only a tell comes to its end, with its own walk
abbrev EndsWalk : PathMessage → Result PathStep PathRefusal → Type 0
EndsWalk message (Ok (Forward to more)) = Unit {0}
EndsWalk message (Ok (Answers to more)) = Unit {0}
EndsWalk message (Ok (Done walk)) = message ≡ Tell walk
EndsWalk message (Err reason) = Unit {0}

ends_walk : (own from : ℕ) (next : Option ℕ) (message : PathMessage) → EndsWalk message (taken own from next message)
ends_walk own from next (Ask target walk) = by_end (ends_with from walk)
  where
    by_hop : (o : Option ℕ) → EndsWalk (Ask target walk) (ask_led own target walk o)
    by_hop None = tt
    by_hop (Some to) = by_tests (has own walk) (target == own) (length walk == 15)
      where
        by_tests : (s t u : Bool) → EndsWalk (Ask target walk)
            (if s then Err path_faults.Revisited else (if t then Ok (Answers to (Tell (walk ++ own ∷ []))) else
            (if u then Err path_faults.PathLong else Ok (Forward to (Ask target (walk ++ own ∷ []))))))
        by_tests true t u = tt
        by_tests false true u = tt
        by_tests false false true = tt
        by_tests false false false = tt

    by_end : (t : Bool) → EndsWalk (Ask target walk) (if t then ask_led own target walk (hop own from next target) else Err path_faults.BadUnit)
    by_end true = by_hop (hop own from next target)
    by_end false = tt
ends_walk own from next (Tell walk) = by_place (position (λ a. a == own) walk)
  where
    by_tests : (s t : Bool) (to : ℕ) → EndsWalk (Tell walk) (if s then Ok (if t then Done walk else Forward to (Tell walk)) else Err path_faults.BadUnit)
    by_tests true true to = refl
    by_tests true false to = tt
    by_tests false t to = tt

    by_place : (o : Option ℕ) → EndsWalk (Tell walk) (tell_taken from walk o)
    by_place None = tt
    by_place (Some place) = by_tests (has_at (place + 1) from walk) (place == 0) _

-- # What a node says of a command

-- an acknowledgement that a check waits for
pub record SaysAcked (b : Beside) (c : NeighbourCommand) (awaited : Bool) : Type 0 where
  pub code : c.code ≡ 3
  pub alone : c.to_all ≡ false
  pub number : ℕ
  pub origin : ℕ
  pub read : ack_in c.body ≡ Some (number, origin)
  pub waits : is_awaited b.checks c.from number origin ≡ awaited

pub record SaysBroadcast (c : NeighbourCommand) (origin number : ℕ) (octets : List ℕ) : Type 0 where
  pub code : c.code ≡ 4
  pub all : c.to_all ≡ true
  pub broadcast : Broadcast
  pub read : broadcast_in c.body ≡ Some broadcast
  pub origin_is : broadcast.origin ≡ origin
  pub number_is : broadcast.number ≡ number
  pub octets_are : broadcast.octets ≡ octets

pub record SaysPath (c : NeighbourCommand) (walk : List ℕ) : Type 0 where
  pub code : c.code ≡ 5
  pub alone : c.to_all ≡ false
  pub read : path_in c.body ≡ Some (Tell walk)

abbrev pub Says : Beside → NeighbourCommand → Result CommandHeard ReachDropped → Type 0
Says b c (Ok heard_of.Acked) = SaysAcked b c true
Says b c (Ok (heard_of.Broadcast origin number octets)) = SaysBroadcast c origin number octets
Says b c (Ok heard_of.Relayed) = Unit {0}
Says b c (Ok heard_of.Answered) = Unit {0}
Says b c (Ok (heard_of.Path walk)) = SaysPath c walk
Says b c (Err (reach_drops.Known reason)) = Unit {0}
Says b c (Err reach_drops.Blacklisted) = ⊥
Says b c (Err reach_drops.NotAwaited) = SaysAcked b c false
Says b c (Err reach_drops.Old) = Unit {0}
Says b c (Err reach_drops.OriginsFull) = Unit {0}
Says b c (Err reach_drops.Revisited) = Unit {0}
Says b c (Err reach_drops.PathLong) = Unit {0}

pub acts_says : {A : Type 0} (P : A → Type 0) (x : Node) (halted : A) (plan : Memory → Plan Memory A) → P halted
    → ((m : Memory) → x.memory ≡ Some m → P (plan m).answer × P (plan m).failed) → P (acts x halted plan).answer
unfolding acts
acts_says P x halted plan h f = by_memory x.memory refl
  where
    by_memory : (o : Option Memory) → x.memory ≡ o
        → P (option_map_or (λ m. left_by x (carry_out x.store.records x.store.cut (plan m))) o (stays x halted)).answer
    by_memory None e = h
    by_memory (Some m) e = ⊎_elim
        (λ (w : IsWhole x.store.records x.store.cut (plan m) (carry_out x.store.records x.store.cut (plan m))). subst P (sym w.answer) (f m e).0)
        (λ (c : IsCutOff x.store.records x.store.cut (plan m) (carry_out x.store.records x.store.cut (plan m))). subst P (sym c.answer) (f m e).1)
        (clean x.store.records x.store.cut (plan m))

module _ (b : Beside) (m : Memory) (c : NeighbourCommand) where
  abbrev y : Reaching Memory
  y = record { memory = m; beside = b }

  abbrev IsSaid : Plan (Reaching Memory) (Result CommandHeard ReachDropped) → Type 0
  IsSaid p = Says b c p.answer × Says b c p.failed

  drops_so : (reason : ReachDropped) → Says b c (Err reason) → IsSaid (drop_it y reason)
  unfolding resting
  drops_so reason h = (h, tt)

  keeps_so : (z : Reaching Memory) (heard : CommandHeard) → Says b c (Ok heard) → IsSaid (remembers z heard)
  unfolding resting
  keeps_so z heard h = (h, tt)

  chosen : (t : Bool) (p q : Plan (Reaching Memory) (Result CommandHeard ReachDropped)) → (t ≡ true → IsSaid p) → (t ≡ false → IsSaid q) → IsSaid (choose t p q)
  unfolding choose
  chosen true p q s t = s refl
  chosen false p q s t = t refl

  seals_so : (d : Draft (Reaching Memory)) (word : CommandHeard) → Says b c (Ok word) → IsSaid (sealed (in_reach in_memory) reach_ends y d word)
  unfolding sealed resting
  seals_so d word h = by_test (nat_lt (counters_left m.station) (length d.units))
    where
      by_test : (t : Bool) → IsSaid (if t then refused reach_ends y reach_ends.spent else sealing (in_reach in_memory) reach_ends d word)
      by_test true = (tt, tt)
      by_test false = (h, tt)

  bad : IsSaid (drop_it y (reach_drops.Known drops.BadUnit))
  bad = drops_so (reach_drops.Known drops.BadUnit) tt

  acks : c.code ≡ 3 → c.to_all ≡ false → (o : Option (ℕ × ℕ)) → ack_in c.body ≡ o → IsSaid (hear_acknowledgement_in y c.from o)
  acks code alone None e = bad
  acks code alone (Some (number, origin)) e = chosen (is_awaited b.checks c.from number origin)
      (remembers (with_checks (acked_after b.checks c.from number origin) y) heard_of.Acked) (drop_it y reach_drops.NotAwaited)
      (λ waits. keeps_so (with_checks (acked_after b.checks c.from number origin) y) heard_of.Acked
      (record { code = code; alone = alone; number = number; origin = origin; read = e; waits = waits }))
      (λ waits. drops_so reach_drops.NotAwaited (record { code = code; alone = alone; number = number; origin = origin; read = e; waits = waits }))

  -- what is wrong with a broadcast is nothing that is said of checks
  mark_says : (own : ℕ) (d : Broadcast) → IfSome (broadcast_fault own b.log d) (λ reason. Says b c (Err reason))
  unfolding broadcast_fault
  mark_says own d = by_tests (d.origin == own) (room_for b.log.marks d.origin d.number)
    where
      by_tests : (t : Bool) (r : Result (Unit {0}) LogFault) → IfSome (Some reach_drops.Old when t then mark_fault r) (λ reason. Says b c (Err reason))
      by_tests true r = tt
      by_tests false (Ok u) = tt
      by_tests false (Err log_faults.NumberSpent) = tt
      by_tests false (Err log_faults.Store) = tt
      by_tests false (Err log_faults.Old) = tt
      by_tests false (Err log_faults.OriginsFull) = tt

  spreads : c.code ≡ 4 → c.to_all ≡ true → (own : ℕ) (o : Option Broadcast) → broadcast_in c.body ≡ o → IsSaid (hear_broadcast_in in_memory y own o)
  unfolding checked
  spreads code all own None e = bad
  spreads code all own (Some d) e = by_fault (broadcast_fault own b.log d) (mark_says own d)
    where
      by_fault : (o : Option ReachDropped) → IfSome o (λ reason. Says b c (Err reason)) → IsSaid (checked reach_ends y o (admits_broadcast in_memory y d))
      by_fault None h = seals_so _ (heard_of.Broadcast d.origin d.number d.octets)
          (record { code = code; all = all; broadcast = d; read = e; origin_is = refl; number_is = refl; octets_are = refl })
      by_fault (Some reason) h = drops_so reason h

  follows : c.code ≡ 5 → c.to_all ≡ false → (message : PathMessage) → path_in c.body ≡ Some message → (o : Result PathStep PathRefusal)
      → EndsWalk message o → IsSaid (follows_path in_memory y o)
  follows code alone message e (Err path_faults.BadUnit) h = bad
  follows code alone message e (Err path_faults.NoRoute) h = drops_so (reach_drops.Known drops.NoRoute) tt
  follows code alone message e (Err path_faults.Revisited) h = drops_so reach_drops.Revisited tt
  follows code alone message e (Err path_faults.PathLong) h = drops_so reach_drops.PathLong tt
  follows code alone message e (Ok (Forward to more)) h = seals_so _ heard_of.Relayed tt
  follows code alone message e (Ok (Answers to more)) h = seals_so _ heard_of.Answered tt
  follows code alone message e (Ok (Done walk)) h = keeps_so y (heard_of.Path walk) (record { code = code; alone = alone; read = e ∙ ap Some h })

  walks : c.code ≡ 5 → c.to_all ≡ false → (own : ℕ) (o : Option PathMessage) → path_in c.body ≡ o → IsSaid (hear_path_in in_memory y own c.from o)
  walks code alone own None e = bad
  walks code alone own (Some message) e = follows code alone message e (taken own c.from (next_toward m.station message) message)
      (ends_walk own c.from (next_toward m.station message) message)

  said_at : (own : ℕ) → IsSaid (hear_command_at in_memory y own c)
  said_at own =
      let drop = drop_it y (reach_drops.Known drops.BadUnit) in
      let path = hear_path in_memory y own c.from c.to_all c.body in
      let spread = hear_broadcast in_memory y own c.to_all c.body in
      let ack = hear_acknowledgement y c.from c.to_all c.body in
      chosen (c.code == 3) ack (choose (c.code == 4) spread (choose (c.code == 5) path drop))
      (λ code. chosen c.to_all drop (hear_acknowledgement_in y c.from (ack_in c.body)) (λ _. bad)
      (λ alone. acks (eqb-true _ _ code) alone (ack_in c.body) refl))
      (λ _. chosen (c.code == 4) spread (choose (c.code == 5) path drop)
      (λ code. chosen c.to_all (hear_broadcast_in in_memory y own (broadcast_in c.body)) drop
      (λ all. spreads (eqb-true _ _ code) all own (broadcast_in c.body) refl) (λ _. bad))
      (λ _. chosen (c.code == 5) path drop
      (λ code. chosen c.to_all drop (hear_path_in in_memory y own c.from (path_in c.body)) (λ _. bad)
      (λ alone. walks (eqb-true _ _ code) alone own (path_in c.body) refl))
      (λ _. bad)))

  pub command_said : let p = with_beside b (λ z. hear_command in_memory z c) m in Says b c p.answer × Says b c p.failed
  command_said = by_address (address_of m.station)
    where
      by_address : (o : Option ℕ) → IsSaid (option_map_or (λ own. hear_command_at in_memory y own c) o (drop_it y (reach_drops.Known drops.BadUnit)))
      by_address None = bad
      by_address (Some own) = said_at own
