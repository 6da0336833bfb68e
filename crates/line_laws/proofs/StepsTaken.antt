-- Each step of an ask that the history has was taken by a node over a valid next hop: by the one that its line names, or by one that heard the ask.
use Rattle.std.proofs.Common.{◌≡◌, ⊎_elim, ◌⊎◌, inl, inr, ℕ, Bool, true, false, List, [], ◌∷◌, length, Option, Some, None, Result, Ok, Err, refl}
use Rattle.std.proofs.Common.{sym, ap, ◌∙◌, subst}
use Rattle.std.specs.Prelude.{All, IfSome, nat_lt, ◌==◌, is_some, if◌then◌else◌}
use Rattle.std.specs.Option.{option_and_then, option_map, option_map_or}
use Rattle.std.proofs.lemmas.Bool.{eqb-true}
use Rattle.std.proofs.lemmas.List.Elements.{All-head, All-tail}
use Rattle.mesh_header.specs.declared.unit.Unit.TheVariants as units
use Rattle.broadcast_log.specs.declared.broadcast.Broadcast.{Broadcast}
use Rattle.broadcast_log.specs.Reader.{broadcast_in}
use Rattle.neighbour_checks.specs.Acks.{ack_in}
use Rattle.neighbour_checks.specs.Neighbours.{acked_after, is_awaited}
use Rattle.path_requests.specs.declared.message.PathMessage.{PathMessage}
use Rattle.path_requests.specs.declared.message.PathMessage.TheVariants.{Ask, Tell}
use Rattle.path_requests.specs.declared.step.PathStep.{PathStep}
use Rattle.path_requests.specs.declared.step.PathStep.TheVariants.{Forward, Answer as Answers, Done}
use Rattle.path_requests.specs.declared.step.PathRefusal.{PathRefusal}
use Rattle.path_requests.specs.declared.step.PathRefusal.TheVariants as path_faults
use Rattle.path_requests.specs.Messages.{path_spelling}
use Rattle.path_requests.specs.Reader.{path_in}
use Rattle.path_requests.specs.PathSteps.{ask_led, hop, taken}
use Rattle.path_requests.specs.Walks.{ends_with}
use Rattle.node_rules.specs.Accepted.{Accepted}
use Rattle.node_rules.specs.declared.heard.Reply.{Reply}
use Rattle.node_rules.specs.declared.refusal.Dropped.TheVariants as drops
use Rattle.node_rules.specs.Ciphers.{network}
use Rattle.node_rules.specs.Drafts.{Draft, checked as checked_plan, choose, counters_left, empty_draft, refused, sealed, sealing}
use Rattle.node_rules.specs.Laws.{IsCutOff, IsWhole}
use Rattle.node_rules.specs.Memory.{StationMemory, Memory, Node, address_of, next_hop, node_address, node_route, station_route}
use Rattle.node_rules.specs.MemoryDrafts.{in_memory}
use Rattle.node_rules.specs.NodeSteps.{NodeStep, acts, left_by, stays}
use Rattle.node_rules.specs.Plans.{Plan, carry_out, resting}
use Rattle.node_rules.specs.Replies.{reply_among}
use Rattle.node_rules.proofs.FailedWrites.{clean}
use Rattle.reach_rules.specs.declared.heard.CommandHeard.{CommandHeard}
use Rattle.reach_rules.specs.declared.heard.CommandHeard.TheVariants as heard_of
use Rattle.reach_rules.specs.declared.refusal.AskRefusal.{AskRefusal}
use Rattle.reach_rules.specs.declared.refusal.AskRefusal.TheVariants as ask_faults
use Rattle.reach_rules.specs.declared.refusal.ReachDropped.{ReachDropped}
use Rattle.reach_rules.specs.declared.refusal.ReachDropped.TheVariants as reach_drops
use Rattle.reach_rules.specs.Broadcasts.{admits_broadcast, broadcast_fault, goes_further, hear_broadcast, hear_broadcast_in, with_broadcast_mark}
use Rattle.reach_rules.specs.CheckedReplies.{hear_acknowledgement, hear_acknowledgement_in, message_of}
use Rattle.reach_rules.specs.PathRequests.{ask_ends, ask_path, asks_by as asks_over, asks_from, follows_path, hear_path, hear_path_in, next_toward, path_word}
use Rattle.reach_rules.specs.ReachingNodes.{Beside, Reaching, drop_it, in_reach, reach_ends, remembers, adds_local, with_checks}
use Rattle.reach_rules.specs.FurtherReceptions.{NeighbourCommand, command_of, hear_command, hear_command_at}
use Rattle.line_rules.specs.Answers.{Reception}
use Rattle.line_events.specs.declared.event.Event.{Event}
use Rattle.line_events.specs.declared.event.Event.TheVariants as events
use Rattle.line_events.specs.Events.{AreEvents, IsEvent}
use Rattle.line_rules.specs.Further.{acknowledged_if, acknowledging, adds_frames, asked, asks_by, beside_at, checked, commanded, due, goes_toward, line_step}
use Rattle.line_rules.specs.Further.{reaches, sends_nothing, step_by, with_beside, with_check}
use Rattle.line_rules.specs.Logs.{LogsKept}
use Rattle.line_rules.specs.Runs.{Entry, IsRun, events_of}
use Rattle.line_rules.specs.Steps.{Step, hearing_outcome, running_world, world_after}
use Rattle.line_rules.specs.Worlds.{Further, Trace, World, node_at, start}
use Rattle.line_laws.specs.FurtherLines.{HoldsAfter}
use Rattle.line_laws.specs.ReachTraces.{FrameCame}
use Rattle.line_laws.specs.StepsTaken.{AreStepsTaken, AskCame, AskSent, EveryStepIsTaken, IsStepTaken}
use Rattle.line_laws.proofs.FurtherOctets.{every_run_holds}
use Rattle.line_laws.proofs.IssueWorlds.{after_here}
use Rattle.line_laws.proofs.ReachCame.{command_came}
use Rattle.line_laws.proofs.ReachHistory.{UntouchedIn, untouched}
use Rattle.line_laws.proofs.ReachSteps.{Asks, Bcasts, Checked, Chooses, Commands, Discovers, Fails, Hears, IsAccepted, IsReachStep, Known, Opens, Restarts}
use Rattle.line_laws.proofs.ReachSteps.{Rests, Scans, Ticks, Unbelieves, after_accepting, heard_node, reach_step_is}
use Rattle.line_laws.proofs.TracesRight.{entry}

-- # What a node keeps

-- the address and the routes of a node that goes on
pub record Keeps (x y : Node) : Type 0 where
  pub address : node_address y ≡ node_address x
  pub route : (dest : ℕ) → node_route y dest ≡ node_route x dest

abbrev StationKept : StationMemory → StationMemory → Type 0
StationKept l k = (address_of k ≡ address_of l) × ((dest : ℕ) → station_route k dest ≡ station_route l dest)

-- an answer of which this is said, or a memory that is kept, with something else
acts_leaves : {A : Type 0} (P : A → Type 0) (Q : Type 0) (x : Node) (halted : A) (plan : Memory → Plan Memory A) → P halted
    → ((m : Memory) → x.memory ≡ Some m → (P (plan m).answer ⊎ (Q × StationKept m.station (plan m).memory.station)) × P (plan m).failed)
    → P (acts x halted plan).answer ⊎ (Q × Keeps x (acts x halted plan).node)
unfolding acts
acts_leaves {A} P Q x halted plan h f = by_memory x.memory refl
  where
    left : Option Memory → NodeStep A
    left o = option_map_or (λ m. left_by x (carry_out x.store.records x.store.cut (plan m))) o (stays x halted)

    by_memory : (o : Option Memory) → x.memory ≡ o → P (left o).answer ⊎ (Q × Keeps x (left o).node)
    by_memory None e = inl h
    by_memory (Some m) e = ⊎_elim
        (λ (w : IsWhole x.store.records x.store.cut (plan m) (carry_out x.store.records x.store.cut (plan m))).
        ⊎_elim (λ (p : P (plan m).answer). inl (subst P (sym w.answer) p))
        (λ (k : Q × StationKept m.station (plan m).memory.station). inr (
          k.0,
          record {
            address = ap (option_and_then (λ (n : Memory). address_of n.station)) w.memory ∙ k.1.0
                ∙ sym (ap (option_and_then (λ (n : Memory). address_of n.station)) e);
            route = λ dest. ap (option_and_then (λ (n : Memory). station_route n.station dest)) w.memory ∙ k.1.1 dest
                ∙ sym (ap (option_and_then (λ (n : Memory). station_route n.station dest)) e);
          },
        )) (f m e).0)
        (λ (c : IsCutOff x.store.records x.store.cut (plan m) (carry_out x.store.records x.store.cut (plan m))). inl (subst P (sym c.answer) (f m e).1))
        (clean x.store.records x.store.cut (plan m))

-- # An ask of a line

module _ (x : Node) (b : Beside) (target : ℕ) (m : Memory) where
  abbrev asker : Reaching Memory
  asker = record { memory = m; beside = b }

  abbrev NoStep : Result (Unit {0}) AskRefusal → Type 0
  NoStep o = asked x target o ≡ None

  abbrev AskLeaves : Plan (Reaching Memory) (Result (Unit {0}) AskRefusal) → Type 0
  AskLeaves p = (NoStep p.answer ⊎ (Unit {0} × StationKept m.station p.memory.memory.station)) × NoStep p.failed

  ask_refused : (reason : AskRefusal) → AskLeaves (refused ask_ends asker reason)
  unfolding resting
  ask_refused reason = (inl refl, refl)

  ask_sealed : (d : Draft (Reaching Memory)) → d.memory ≡ asker → AskLeaves (sealed (in_reach in_memory) ask_ends asker d tt)
  unfolding sealed resting next_hop
  ask_sealed d same = by_test (nat_lt (counters_left m.station) (length d.units))
    where
      by_test : (t : Bool) → AskLeaves (if t then refused ask_ends asker ask_ends.spent else sealing (in_reach in_memory) ask_ends d tt)
      by_test true = (inl refl, refl)
      by_test false = (
        inr (
          tt,
          (
            ap (λ (y : Reaching Memory). address_of y.memory.station) same,
            λ dest. ap (λ (y : Reaching Memory). station_route y.memory.station dest) same,
          ),
        ),
        refl,
      )

  asks_leave : AskLeaves (ask_path in_memory asker target)
  unfolding choose adds_local empty_draft
  asks_leave = by_address (address_of m.station)
    where
      by_route : (own : ℕ) (o : Option ℕ) → AskLeaves (asks_over in_memory asker own target o)
      by_route own None = ask_refused ask_faults.NoRoute
      by_route own (Some to) = ask_sealed (adds_local to 5 (path_spelling (Ask target (own ∷ []))) (empty_draft asker)) refl

      by_test : (own : ℕ) (t : Bool)
          → AskLeaves (choose t (refused ask_ends asker ask_faults.ToSelf) (asks_over in_memory asker own target (station_route m.station target)))
      by_test own true = ask_refused ask_faults.ToSelf
      by_test own false = by_route own (station_route m.station target)

      by_address : (o : Option ℕ) → AskLeaves (option_map_or (λ own. asks_from in_memory asker own target) o (refused ask_ends asker ask_faults.NotJoined))
      by_address None = ask_refused ask_faults.NotJoined
      by_address (Some own) = by_test own (target == own)

-- # An ask that was heard

-- what goes on is an ask whose walk ends with its sender
record IsForward (c : NeighbourCommand) : Type 0 where
  code : c.code ≡ 5
  alone : c.to_all ≡ false
  target : ℕ
  walk : List ℕ
  read : path_in c.body ≡ Some (Ask target walk)
  last : ends_with c.from walk ≡ true

abbrev EndsAsk : ℕ → List ℕ → Result PathStep PathRefusal → Type 0
EndsAsk from walk (Ok (Forward to more)) = ends_with from walk ≡ true
EndsAsk from walk (Ok (Answers to more)) = Unit {0}
EndsAsk from walk (Ok (Done other)) = Unit {0}
EndsAsk from walk (Err reason) = Unit {0}

ends_ask : (own from : ℕ) (next : Option ℕ) (target : ℕ) (walk : List ℕ) → EndsAsk from walk (taken own from next (Ask target walk))
ends_ask own from next target walk = by_end (ends_with from walk) refl
  where
    any : ends_with from walk ≡ true → (o : Result PathStep PathRefusal) → EndsAsk from walk o
    any e (Ok (Forward to more)) = e
    any e (Ok (Answers to more)) = tt
    any e (Ok (Done other)) = tt
    any e (Err reason) = tt

    by_end : (t : Bool) → ends_with from walk ≡ t
        → EndsAsk from walk (if t then ask_led own target walk (hop own from next target) else Err path_faults.BadUnit)
    by_end true e = any e (ask_led own target walk (hop own from next target))
    by_end false e = tt

module _ (x : Node) (b : Beside) (m : Memory) (c : NeighbourCommand) where
  abbrev y : Reaching Memory
  y = record { memory = m; beside = b }

  abbrev StepsNot : Result CommandHeard ReachDropped → Type 0
  StepsNot o = step_by x c o ≡ None

  abbrev Leaves : Plan (Reaching Memory) (Result CommandHeard ReachDropped) → Type 0
  Leaves p = (StepsNot p.answer ⊎ (IsForward c × StationKept m.station p.memory.memory.station)) × StepsNot p.failed

  dropped : (reason : ReachDropped) → Leaves (drop_it y reason)
  unfolding resting
  dropped reason = (inl refl, refl)

  kept : (z : Reaching Memory) (word : CommandHeard) → StepsNot (Ok word) → Leaves (remembers z word)
  unfolding resting
  kept z word none = (inl none, refl)

  chosen : (t : Bool) (p q : Plan (Reaching Memory) (Result CommandHeard ReachDropped)) → (t ≡ true → Leaves p) → (t ≡ false → Leaves q) → Leaves (choose t p q)
  unfolding choose
  chosen true p q s t = s refl
  chosen false p q s t = t refl

  seals : (d : Draft (Reaching Memory)) (word : CommandHeard) → StepsNot (Ok word) ⊎ (IsForward c × (d.memory ≡ y))
      → Leaves (sealed (in_reach in_memory) reach_ends y d word)
  unfolding sealed resting next_hop
  seals d word h = by_test (nat_lt (counters_left m.station) (length d.units))
    where
      by_test : (t : Bool) → Leaves (if t then refused reach_ends y reach_ends.spent else sealing (in_reach in_memory) reach_ends d word)
      by_test true = (inl refl, refl)
      by_test false = (
        ⊎_elim (λ (none : StepsNot (Ok word)). inl none)
            (λ (k : IsForward c × (d.memory ≡ y)). inr (
              k.0,
              (
                ap (λ (z : Reaching Memory). address_of z.memory.station) k.1,
                λ dest. ap (λ (z : Reaching Memory). station_route z.memory.station dest) k.1,
              ),
            )) h,
        refl,
      )

  bad : Leaves (drop_it y (reach_drops.Known drops.BadUnit))
  bad = dropped (reach_drops.Known drops.BadUnit)

  acks : (o : Option (ℕ × ℕ)) → Leaves (hear_acknowledgement_in y c.from o)
  acks None = bad
  acks (Some (number, origin)) = chosen (is_awaited b.checks c.from number origin)
      (remembers (with_checks (acked_after b.checks c.from number origin) y) heard_of.Acked) (drop_it y reach_drops.NotAwaited)
      (λ _. kept (with_checks (acked_after b.checks c.from number origin) y) heard_of.Acked refl) (λ _. dropped reach_drops.NotAwaited)

  spreads : (own : ℕ) (o : Option Broadcast) → Leaves (hear_broadcast_in in_memory y own o)
  unfolding checked_plan
  spreads own None = bad
  spreads own (Some d) = by_fault (broadcast_fault own b.log d)
    where
      by_fault : (o : Option ReachDropped) → Leaves (checked_plan reach_ends y o (admits_broadcast in_memory y d))
      by_fault None = seals (goes_further d (with_broadcast_mark d.origin d.number (empty_draft y))) (heard_of.Broadcast d.origin d.number d.octets) (inl refl)
      by_fault (Some reason) = dropped reason

  same_draft : (to : ℕ) (message : PathMessage) → (adds_local to 5 (path_spelling message) (empty_draft y)).memory ≡ y
  unfolding adds_local empty_draft
  same_draft to message = refl

  replies_follow : (walk : List ℕ) → path_in c.body ≡ Some (Tell walk) → (o : Result PathStep PathRefusal) → Leaves (follows_path in_memory y o)
  replies_follow walk read (Err reason) = dropped (path_word reason)
  replies_follow walk read (Ok (Forward to more)) =
      seals (adds_local to 5 (path_spelling more) (empty_draft y)) heard_of.Relayed (inl (ap (goes_toward x) read))
  replies_follow walk read (Ok (Answers to more)) = seals (adds_local to 5 (path_spelling more) (empty_draft y)) heard_of.Answered (inl refl)
  replies_follow walk read (Ok (Done other)) = kept y (heard_of.Path other) refl

  asks_follow : c.code ≡ 5 → c.to_all ≡ false → (target : ℕ) (walk : List ℕ) → path_in c.body ≡ Some (Ask target walk) → (o : Result PathStep PathRefusal)
      → EndsAsk c.from walk o → Leaves (follows_path in_memory y o)
  asks_follow code alone target walk read (Err reason) last = dropped (path_word reason)
  asks_follow code alone target walk read (Ok (Forward to more)) last = seals (adds_local to 5 (path_spelling more) (empty_draft y)) heard_of.Relayed
      (inr (record { code = code; alone = alone; target = target; walk = walk; read = read; last = last }, same_draft to more))
  asks_follow code alone target walk read (Ok (Answers to more)) last =
      seals (adds_local to 5 (path_spelling more) (empty_draft y)) heard_of.Answered (inl refl)
  asks_follow code alone target walk read (Ok (Done other)) last = kept y (heard_of.Path other) refl

  walks : c.code ≡ 5 → c.to_all ≡ false → (own : ℕ) (o : Option PathMessage) → path_in c.body ≡ o → Leaves (hear_path_in in_memory y own c.from o)
  walks code alone own None e = bad
  walks code alone own (Some (Tell walk)) e = replies_follow walk e (taken own c.from (next_toward m.station (Tell walk)) (Tell walk))
  walks code alone own (Some (Ask target walk)) e = asks_follow code alone target walk e
      (taken own c.from (next_toward m.station (Ask target walk)) (Ask target walk))
      (ends_ask own c.from (next_toward m.station (Ask target walk)) target walk)

  left_at : (own : ℕ) → Leaves (hear_command_at in_memory y own c)
  left_at own =
      let drop = drop_it y (reach_drops.Known drops.BadUnit) in
      let path = hear_path in_memory y own c.from c.to_all c.body in
      let spread = hear_broadcast in_memory y own c.to_all c.body in
      let ack = hear_acknowledgement y c.from c.to_all c.body in
      chosen (c.code == 3) ack (choose (c.code == 4) spread (choose (c.code == 5) path drop))
      (λ _. chosen c.to_all drop (hear_acknowledgement_in y c.from (ack_in c.body)) (λ _. bad) (λ _. acks (ack_in c.body)))
      (λ _. chosen (c.code == 4) spread (choose (c.code == 5) path drop)
      (λ _. chosen c.to_all (hear_broadcast_in in_memory y own (broadcast_in c.body)) drop (λ _. spreads own (broadcast_in c.body)) (λ _. bad))
      (λ _. chosen (c.code == 5) path drop
      (λ code. chosen c.to_all drop (hear_path_in in_memory y own c.from (path_in c.body)) (λ _. bad)
      (λ alone. walks (eqb-true _ _ code) alone own (path_in c.body) refl))
      (λ _. bad)))

  commands_leave : Leaves (hear_command in_memory y c)
  commands_leave = by_address (address_of m.station)
    where
      by_address : (o : Option ℕ) → Leaves (option_map_or (λ own. hear_command_at in_memory y own c) o (drop_it y (reach_drops.Known drops.BadUnit)))
      by_address None = bad
      by_address (Some own) = left_at own

-- # Events

module _ (w : World) (n : ℕ) where
  abbrev TakenIn : Event → Step → Type 0
  TakenIn event (Ok r) = IfSome r.1.further.stepping (IsStepTaken w (entry n event r))
  TakenIn event (Err fault) = Unit {0}

  none_taken : (event : Event) (r : World × Trace) → r.1.further.stepping ≡ None → TakenIn event (Ok r)
  none_taken event r none = subst (λ o. IfSome o (IsStepTaken w (entry n event r))) (sym none) tt

  old_taken : (event : Event) (s : Step) → UntouchedIn w s → TakenIn event s
  old_taken event (Ok r) u = none_taken event r (ap (λ (f : Further). f.stepping) u.further)
  old_taken event (Err fault) u = tt

  -- what a node with an address and a route takes
  module _ (event : Event) (v : World) (t : Trace) (number : ℕ) (x left : Node) (target : ℕ) (there : node_at v number ≡ Some left) (k : Keeps x left)
      (asks : AskSent w event number target ⊎ AskCame w event number target) where
    step_taken : (o p : Option ℕ) → node_address x ≡ o → node_route x target ≡ p
        → IfSome (option_map_or (λ from. option_map (λ to. record { from = from; to = to; target = target }) p) o None) (IsStepTaken w (entry n event (v, t)))
    step_taken None p a e = tt
    step_taken (Some from) None a e = tt
    step_taken (Some from) (Some to) a e =
        record { number = number; node = left; there = there; address = k.address ∙ a; route = k.route target ∙ e; asked = asks }

  asks_taken : (from to : ℕ) (x z : Node) (target : ℕ) → node_at w from ≡ Some x → node_at w to ≡ Some z → node_address z ≡ Some target
      → TakenIn (events.Path from to) (Ok (asks_by network w from x (Some target)))
  asks_taken from to x z target there other address =
      ⊎_elim (λ (none : asked x target d.answer ≡ None). none_taken (events.Path from to) (asks_by network w from x (Some target)) none)
      (λ (k : Unit {0} × Keeps x d.node). by_answer k.1 d.answer)
      (acts_leaves (λ o. asked x target o ≡ None) (Unit {0}) x (Err ask_faults.Halted) (with_beside b (λ y. ask_path in_memory y target)) refl
      (λ m here. asks_leave x b target m))
    where
      b : Beside
      b = beside_at w from

      d : NodeStep (Result (Unit {0}) AskRefusal)
      d = reaches x b (Err ask_faults.Halted) (λ y. ask_path in_memory y target)

      r : World × Trace
      r = asks_by network w from x (Some target)

      by_answer : Keeps x d.node → (o : Result (Unit {0}) AskRefusal) → IfSome (asked x target o) (IsStepTaken w (entry n (events.Path from to) r))
      by_answer k (Err reason) = tt
      by_answer k (Ok u) = step_taken (events.Path from to) r.0 r.1 from x d.node target (after_here network (running_world w) from x d there) k
          (inl (record { other = to; line = refl; node = z; there = other; address = address })) (node_address x) (node_route x target) refl refl

  module _ (event : Event) (number : ℕ) (x : Node) (octets : List ℕ) (cost : ℕ) (got : Accepted) (a : IsAccepted network w event number x octets got) where
    abbrev d : NodeStep Reception
    d = heard_node network w x octets got cost

    abbrev r : World × Trace
    r = hearing_outcome network w number (after_accepting network x octets) octets got cost

    module _ (c : NeighbourCommand) (carries : command_of got ≡ Some c) where
      abbrev halted : Result CommandHeard ReachDropped
      halted = Err (reach_drops.Known drops.Store)

      abbrev did : NodeStep (Result CommandHeard ReachDropped)
      did = reaches d.node (beside_at r.0 number) halted (λ y. hear_command in_memory y c)

      came : IsForward c → FrameCame w event number c.from false (units.Local 5 c.body)
      came f = subst (λ t. FrameCame w event number c.from t (units.Local 5 c.body)) f.alone
          (subst (λ k. FrameCame w event number c.from c.to_all (units.Local k c.body)) f.code
          (command_came w event number x octets got c a.there a.comes a.is carries))

      commands_taken : TakenIn event (Ok (commanded network number d.node c r))
      commands_taken =
          ⊎_elim (λ (none : step_by d.node c did.answer ≡ None). none_taken event (commanded network number d.node c r) none)
          (λ (k : IsForward c × Keeps d.node did.node). by_answer k.0 k.1 did.answer)
          (acts_leaves (λ o. step_by d.node c o ≡ None) (IsForward c) d.node halted (with_beside (beside_at r.0 number) (λ y. hear_command in_memory y c)) refl
          (λ m here. commands_leave d.node (beside_at r.0 number) m c))
        where
          q : World × Trace
          q = commanded network number d.node c r

          by_answer : IsForward c → Keeps d.node did.node → (o : Result CommandHeard ReachDropped)
              → IfSome (step_by d.node c o) (IsStepTaken w (entry n event q))
          by_answer f k (Ok heard_of.Acked) = tt
          by_answer f k (Ok (heard_of.Broadcast origin count body)) = tt
          by_answer f k (Ok heard_of.Answered) = tt
          by_answer f k (Ok (heard_of.Path walk)) = tt
          by_answer f k (Err reason) = tt
          by_answer f k (Ok heard_of.Relayed) = subst (λ o. IfSome (goes_toward d.node o) (IsStepTaken w (entry n event q))) (sym f.read)
              (step_taken event q.0 q.1 number d.node did.node f.target
              (after_here network r.0 number d.node did (after_here network (running_world w) number x d a.there)) k
              (inr (record { from = c.from; body = c.body; came = came f; walk = f.walk; read = f.read; last = f.last }))
              (node_address d.node) (node_route d.node f.target) refl refl)

    checked_taken : TakenIn event (Ok (checked network w number got d r))
    checked_taken = by_due (due got.path (message_of got) d.answer.answer)
      where
        with_it : World × Trace
        with_it = with_check w number (reply_among d.frames) r

        by_memory : (reply : Reply) (t : Bool) → let v : World = world_after network with_it.0 number (acknowledging d.node reply) in
            let q : World × Trace = if t then adds_frames v with_it.1 (acknowledging d.node reply) else sends_nothing w (v, with_it.1) in TakenIn event (Ok q)
        by_memory reply true =
            let k = acknowledging d.node reply in
            none_taken event (adds_frames (world_after network with_it.0 number k) with_it.1 k) refl
        by_memory reply false = none_taken event (sends_nothing w (world_after network with_it.0 number (acknowledging d.node reply), with_it.1)) refl

        by_due : (o : Option Reply) → TakenIn event (Ok (acknowledged_if network w number d.node o with_it))
        by_due None = none_taken event with_it refl
        by_due (Some reply) = by_memory reply (is_some (acknowledging d.node reply).node.memory)

  taken_in : (event : Event) (s : Step) → IsReachStep network w event s → TakenIn event s
  taken_in event s (Fails e fault) = tt
  taken_in event s (Known e t other is none) = old_taken e t (untouched network w e t is)
  taken_in event s (Rests e word idle other none) = tt
  taken_in event s Opens = tt
  taken_in event s (Bcasts number x datagram there are) = tt
  taken_in event s (Asks from to x z target there other address) = asks_taken from to x z target there other address
  taken_in event s (Scans number x m there here) = tt
  taken_in event s (Chooses number k x psk there pair) = tt
  taken_in event s (Discovers e number x m octets link other there here comes over is) = tt
  taken_in event s (Unbelieves e number x octets got a is) = tt
  taken_in event s (Commands e number x octets cost got c a low passes is) = commands_taken e number x octets cost got a c is
  taken_in event s (Checked e number x octets cost got a low passes none on) = checked_taken e number x octets cost got a
  taken_in event s (Hears e number x octets cost got a low passes none off) = tt
  taken_in event s (Ticks seconds) = tt
  taken_in event s (Restarts number x b there read) = tt

-- # Runs

taken_from : (w : World) → LogsKept w → (entries : List Entry) → AreEvents (events_of entries) → IsRun network w entries → All HoldsAfter entries
    → AreStepsTaken w entries
taken_from w logs [] says run holds = tt
taken_from w logs (x ∷ xs) says run holds =
    let event = All-head IsEvent x.event (events_of xs) says in
    let is : TakenIn w x.number x.event (Ok (x.after, x.trace)) = subst (TakenIn w x.number x.event) run.2
    (taken_in w x.number x.event (line_step network w x.event) (reach_step_is network w logs x.event event)) in (
      is,
      taken_from x.after (All-head HoldsAfter x xs holds).logs xs (All-tail IsEvent x.event (events_of xs) says) run.3 (All-tail HoldsAfter x xs holds),
    )

pub every_step : EveryStepIsTaken
every_step entries r = taken_from start tt entries r.events r.run (every_run_holds entries r)
