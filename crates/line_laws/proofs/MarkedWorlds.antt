-- What each node of a world has handed up of broadcasts is among what its log has admitted, at every event.
use Rattle.std.proofs.Common.{◌≡◌, ◌≢◌, ℕ, zero, suc, ◌+◌, ◌-◌, ◌<◌, Bool, true, false, List, [], ◌∷◌, ◌++◌, length, Option, Some}
use Rattle.std.proofs.Common.{None, Result, Ok, Err, refl, sym, ap, ◌∙◌, subst, arith}
use Rattle.std.specs.Prelude.{if◌then◌else◌, ◌==◌, All, IfSome, is_some, map, slice_get, slice_set}
use Rattle.std.specs.Option.{option_map}
use Rattle.std.proofs.lemmas.Bool.{eqb-false, eqb-true}
use Rattle.std.proofs.lemmas.List.{append-nil}
use Rattle.std.proofs.lemmas.Option.{same_Some}
use Rattle.store_tables.proofs.SlotTables.{slice_get-map, slice_get-push_other, slice_get-push, slice_get-set, slice_get-set_other}
use Rattle.node_rules.specs.Accepted.{Accepted}
use Rattle.node_rules.specs.declared.heard.Reply.{Reply}
use Rattle.node_rules.specs.declared.heard.SentHow.{SentHow}
use Rattle.node_rules.specs.declared.refusal.CoordinatorRefusal.{CoordinatorRefusal}
use Rattle.node_rules.specs.declared.refusal.CoordinatorRefusal.TheVariants as orders
use Rattle.node_rules.specs.declared.refusal.Dropped.TheVariants as drops
use Rattle.node_rules.specs.declared.refusal.FrameRefusal.{FrameRefusal}
use Rattle.node_rules.specs.declared.refusal.FrameRefusal.TheVariants as frames
use Rattle.node_rules.specs.declared.refusal.LocalRefusal.TheVariants as locals
use Rattle.node_rules.specs.declared.refusal.SendRefusal.{SendRefusal}
use Rattle.node_rules.specs.declared.refusal.SendRefusal.TheVariants as sends
use Rattle.node_rules.specs.Acceptance.{accept}
use Rattle.node_rules.specs.Calls as calls
use Rattle.node_rules.specs.Ciphers.{Ciphers, network}
use Rattle.node_rules.specs.Coordinators as coordinator_rules
use Rattle.node_rules.specs.Frames.{arrived}
use Rattle.node_rules.specs.LogSlots.{IsBesideLog, LeavesLog}
use Rattle.node_rules.specs.Memory.{Memory, Node, Role, Coordinator, Meter}
use Rattle.node_rules.specs.MemoryDrafts.{in_memory, with_station}
use Rattle.node_rules.specs.Meters as meters
use Rattle.node_rules.specs.NodeSteps.{NodeStep, acts, answering, changing, of_station, stays}
use Rattle.node_rules.specs.Plans.{Plan, resting}
use Rattle.node_rules.specs.Replies.{reply_among}
use Rattle.node_rules.specs.RestartStates.{blank_station, first_grant, remembering}
use Rattle.node_rules.specs.Tables.{HasShortTables}
use Rattle.node_rules.proofs.LogPuts.{coordinators_leave_log, meters_leave_log, stations_leave_log}
use Rattle.std.proofs.lemmas.List.Elements.{All-nil}
use Rattle.reach_rules.specs.declared.refusal.AskRefusal.TheVariants as ask_faults
use Rattle.reach_rules.specs.declared.refusal.BroadcastRefusal.TheVariants as broadcast_faults
use Rattle.reach_rules.specs.declared.refusal.ChooseRefusal.TheVariants as choices
use Rattle.reach_rules.specs.declared.refusal.ReachDropped.TheVariants as reach_drops
use Rattle.reach_rules.specs.declared.heard.CommandHeard.{CommandHeard}
use Rattle.reach_rules.specs.declared.heard.CommandHeard.TheVariants as heard_of
use Rattle.reach_rules.specs.declared.refusal.ReachDropped.{ReachDropped}
use Rattle.reach_rules.specs.Beacons.{begin_scan, choose_agent, hear_discovery}
use Rattle.reach_rules.specs.Broadcasts.{broadcast}
use Rattle.reach_rules.specs.CheckedReplies.{acknowledges, checks_after, message_of}
use Rattle.reach_rules.specs.PathRequests.{ask_path}
use Rattle.reach_rules.specs.ReachingNodes.{Beside, Reaching, nothing_beside, tick_beside}
use Rattle.reach_rules.specs.FurtherReceptions.{NeighbourCommand, command_of, hear_command}
use Rattle.line_rules.specs.Answers.{Reception, coordinator_reception, meter_reception, sent_word}
use Rattle.line_events.specs.declared.event.Answer.{Answer}
use Rattle.line_events.specs.declared.event.Answer.TheVariants as answers
use Rattle.line_events.specs.declared.event.Event.{Event}
use Rattle.line_events.specs.declared.happenings.BroadcastUp.{BroadcastUp}
use Rattle.line_rules.specs.Forgery.{accepting}
use Rattle.line_rules.specs.Further.{acknowledged_if, acknowledging, adds_frames, asks_by, beside_after, beside_at, broadcast_up, broadcasts_by, checked}
use Rattle.line_rules.specs.Further.{chooses_by, commanded, discovers_by, due, reaches, restarts_by, scans_by, sends_nothing, unbelieved, with_check}
use Rattle.line_rules.specs.Logs.{AreLogged, HaveShortTables, LogsKept}
use Rattle.line_rules.specs.Runs.{one_of}
use Rattle.line_rules.specs.Steps.{Step, node_outcome, blank_node, coordinator_node, happenings, hearing_outcome, hearing_step, identity, is_taken, note_by}
use Rattle.line_rules.specs.Steps.{offered_near, running_world, restarts}
use Rattle.line_rules.specs.Steps.{sent_if, set_up, tag_of, ticked, world_after, trace_of}
use Rattle.line_rules.specs.Worlds.{Trace, World, node_at}
use Rattle.line_rules.proofs.LogPlans.{accept_short, acts_short, leave_leaves, random_leaves, acknowledging_leaves}
use Rattle.line_rules.proofs.LogSteps.{Quiet, acts_quiet, quiet_on}
use Rattle.plc_base.specs.Fields.{AreOctets}
use Rattle.plc_base.specs.Grant.{Granted}
use Rattle.broadcast_log.specs.Log.{Log}
use Rattle.line_laws.specs.Lines.{FlightFits, WorldOk}
use Rattle.line_laws.proofs.StorableGrants.{network_ranges}
use Rattle.line_laws.proofs.FurtherSteps.{tables_short}
use Rattle.line_laws.proofs.FurtherLogs.{commands_fit}
use Rattle.line_laws.proofs.MarkedLogs.{MarkedIn, PlanMarks, ask_marks, blank_marks, broadcast_marks, choice_marks, command_marks, further_marks}
use Rattle.line_laws.proofs.MarkedLogs.{others_marks, quiet_marks, restart_marks}
use Rattle.line_laws.proofs.ReachHistory.{aside, aside_more, aside_other, aside_set, aside_ticked, beside_within}
use Rattle.line_laws.proofs.ReachSteps.{Asks, Bcasts, Checked, Chooses, Commands, Discovers, Fails, Hears, IsAccepted, IsOther, IsReachStep, Known, Opens}
use Rattle.line_laws.proofs.ReachSteps.{Restarts, Rests, Scans, Ticks, Unbelieves, after_accepting, heard_node}
use Rattle.line_laws.proofs.StepKinds as old

-- so it is of each node
abbrev pub MarkedWorld : List BroadcastUp → World → Type 0
MarkedWorld ups w = (n : ℕ) (x : Node) → node_at w n ≡ Some x → MarkedIn ups n (beside_at w n).log x.store.records x.memory

-- # Lists of nodes

slice_set-twice : (ns : List Node) (n : ℕ) (y z : Node) → slice_set (slice_set ns n y) n z ≡ slice_set ns n z
slice_set-twice [] n y z = refl
slice_set-twice (x ∷ ns) zero y z = refl
slice_set-twice (x ∷ ns) (suc n) y z = ap (λ xs. x ∷ xs) (slice_set-twice ns n y z)

pub node_within : (ns : List Node) (n : ℕ) (x : Node) → slice_get ns n ≡ Some x → n < length ns
node_within [] n x e = absurd (cc)
node_within (y ∷ ns) zero x e = omega arith
node_within (y ∷ ns) (suc n) x e = let k = node_within ns n x e in omega arith

-- The node of a number is the one that was set, or another number's.
data Set (ns : List Node) (number : ℕ) (z : Node) (n : ℕ) (y : Node) : Type 0 where
  Own : n ≡ number → y ≡ z → Set ns number z n y
  Other : n ≢ number → slice_get ns n ≡ Some y → Set ns number z n y

set_is : (ns : List Node) (number : ℕ) (x z : Node) (n : ℕ) (y : Node) → slice_get ns number ≡ Some x → slice_get (slice_set ns number z) n ≡ Some y
    → Set ns number z n y
set_is ns number x z n y there here = by_number (n == number) refl
  where
    by_number : (t : Bool) → (n == number) ≡ t → Set ns number z n y
    by_number true e =
        let same : n ≡ number = eqb-true n number e in
        Own same (same_Some y z (sym here ∙ ap (slice_get (slice_set ns number z)) same ∙ slice_get-set ns number z (node_within ns number x there)))
    by_number false e = let ne = eqb-false n number e in Other ne (sym (slice_get-set_other ns number n z ne) ∙ here)

-- beside the nodes there is nothing
beyond : (bs : List Beside) (ns : List Node) → AreLogged bs ns → aside bs (length ns) ≡ nothing_beside
beyond [] [] h = refl
beyond [] (x ∷ ns) h = absurd h
beyond (b ∷ bs) [] h = absurd h
beyond (b ∷ bs) (x ∷ ns) h = beyond bs ns h.1

module _ (ups : List BroadcastUp) (w : World) (held : MarkedWorld ups w) where
  -- one node changes without its log
  at_quiet : (v : World) (number : ℕ) (x z : Node) → node_at w number ≡ Some x → v.nodes ≡ slice_set w.nodes number z
      → ((n : ℕ) → beside_at v n ≡ beside_at w n) → Quiet x z → MarkedWorld ups v
  at_quiet v number x z there nodes beside q n y here = by_set (set_is w.nodes number x z n y there (ap (λ ns. slice_get ns n) (sym nodes) ∙ here))
    where
      by_set : Set w.nodes number z n y → MarkedIn ups n (beside_at v n).log y.store.records y.memory
      by_set (Own same is) =
          subst (λ (u : Node). MarkedIn ups n (beside_at v n).log u.store.records u.memory) (sym is)
          (subst (λ k. MarkedIn ups k (beside_at v k).log z.store.records z.memory) (sym same)
          (subst (λ (b : Beside). MarkedIn ups number b.log z.store.records z.memory) (sym (beside number))
          (quiet_marks ups number (beside_at w number).log x z q (held number x there))))
      by_set (Other ne at) = subst (λ (b : Beside). MarkedIn ups n b.log y.store.records y.memory) (sym (beside n)) (held n y at)

  -- no node changes
  at_none : (v : World) → v.nodes ≡ w.nodes → ((n : ℕ) → beside_at v n ≡ beside_at w n) → MarkedWorld ups v
  at_none v nodes beside n y here = subst (λ (b : Beside). MarkedIn ups n b.log y.store.records y.memory) (sym (beside n))
      (held n y (ap (λ ns. slice_get ns n) (sym nodes) ∙ here))

  -- one node changes with what stands beside it, and hands something up
  at_one : (v : World) (number : ℕ) (x z : Node) (b : Beside) (more : Option BroadcastUp) → node_at w number ≡ Some x → number < length w.beside
      → v.nodes ≡ slice_set w.nodes number z → v.beside ≡ slice_set w.beside number b → IfSome more (λ (u : BroadcastUp). u.node ≡ number)
      → MarkedIn (ups ++ one_of more) number b.log z.store.records z.memory → MarkedWorld (ups ++ one_of more) v
  at_one v number x z b more there within nodes beside own k n y here = by_set
      (set_is w.nodes number x z n y there (ap (λ ns. slice_get ns n) (sym nodes) ∙ here))
    where
      other_up : (m : Option BroadcastUp) → IfSome m (λ (u : BroadcastUp). u.node ≡ number) → n ≢ number → IfSome m (λ (u : BroadcastUp). u.node ≡ n → ⊥)
      other_up None o ne = tt
      other_up (Some u) o ne = λ e. ne (sym e ∙ o)

      by_set : Set w.nodes number z n y → MarkedIn (ups ++ one_of more) n (beside_at v n).log y.store.records y.memory
      by_set (Own same is) =
          subst (λ (u : Node). MarkedIn (ups ++ one_of more) n (beside_at v n).log u.store.records u.memory) (sym is)
          (subst (λ i. MarkedIn (ups ++ one_of more) i (beside_at v i).log z.store.records z.memory) (sym same)
          (subst (λ (c : Beside). MarkedIn (ups ++ one_of more) number c.log z.store.records z.memory)
          (sym (ap (λ bs. aside bs number) beside ∙ aside_set w.beside number b within)) k))
      by_set (Other ne at) =
          subst (λ (c : Beside). MarkedIn (ups ++ one_of more) n c.log y.store.records y.memory)
          (sym (ap (λ bs. aside bs n) beside ∙ aside_other w.beside number n b ne))
          (others_marks ups n more (other_up more own ne) (beside_at w n).log y.store.records y.memory (held n y at))

-- # Without further reach

module _ (ciphers : Ciphers) (w : World) (short : HaveShortTables w) where
  abbrev own_of : Node → coordinator_rules.CoordinatorIdentity
  own_of c = record { eui = c.eui; ciphers = ciphers }

  call_quiet : (number : ℕ) (x : Node) (A : Type 0) (halted : A) (plan : Memory → Plan Memory A) → node_at w number ≡ Some x
      → old.IsCall ciphers w number x A halted plan → Quiet x (acts x halted plan).node
  unfolding resting
  call_quiet number x A halted plan there (old.Gives value are) = acts_quiet x _ _ (λ m e. random_leaves m (short number x m there e) value)
  call_quiet number x A halted plan there (old.Joins psk a ne pair other) = acts_quiet x _ _
      (λ m e. (meters_leave_log (identity ciphers x psk) m (short number x m there e)).joins a w.clock)
  call_quiet number x A halted plan there (old.Leaves ne) = acts_quiet x _ _ (λ m e. leave_leaves m (short number x m there e))
  call_quiet number x A halted plan there (old.Sends a datagram other are) = acts_quiet x _ _
      (λ m e. (stations_leave_log m.station (short number x m there e)).sends a datagram (w.sends + 1) w.clock)
  call_quiet number x A halted plan there (old.Breaks a other) = acts_quiet x _ _ (λ m e. All-nil IsBesideLog)
  call_quiet number x A halted plan there (old.Nears a cost open_is other low) = acts_quiet x _ _
      (λ m e. (stations_leave_log m.station (short number x m there e)).near a cost w.clock)
  call_quiet number x A halted plan there (old.Counts value open_is low) = acts_quiet x _ _
      (λ m e. (stations_leave_log m.station (short number x m there e)).counter value)
  call_quiet number x A halted plan there (old.Numbers value open_is some low) = acts_quiet x _ _
      (λ m e. (stations_leave_log m.station (short number x m there e)).number value)
  call_quiet number x A halted plan there (old.Accepts octets event says comes) = acts_quiet x _ _
      (λ m e. (stations_leave_log m.station (short number x m there e)).accepts x.eui (arrived ciphers octets))
  call_quiet number x A halted plan there (old.Provisions psk c g ne pair at is) = acts_quiet x _ _
      (λ m e. (stations_leave_log m.station (short number x m there e)).installs g)
  call_quiet number x A halted plan there (old.Depots meter y psk first open_is at pair) = acts_quiet x _ _
      (λ m e. (coordinators_leave_log (own_of x) m (short number x m there e)).depots y.eui psk)
  call_quiet number x A halted plan there (old.Allows meter y psk first at pair) = acts_quiet x _ _
      (λ m e. (coordinators_leave_log (own_of x) m (short number x m there e)).allows y.eui psk)
  call_quiet number x A halted plan there (old.Rekeys index key first low long) = acts_quiet x _ _
      (λ m e. (coordinators_leave_log (own_of x) m (short number x m there e)).rekeys index key)
  call_quiet number x A halted plan there (old.Turns index first low) = acts_quiet x _ _
      (λ m e. (coordinators_leave_log (own_of x) m (short number x m there e)).seals_with index)
  call_quiet number x A halted plan there (old.Challenges meter y first at) = acts_quiet x _ _
      (λ m e. (coordinators_leave_log (own_of x) m (short number x m there e)).challenges y.eui w.clock)
  call_quiet number x A halted plan there (old.Activates meter y index first at low) = acts_quiet x _ _
      (λ m e. (coordinators_leave_log (own_of x) m (short number x m there e)).activates y.eui index w.clock)
  call_quiet number x A halted plan there (old.Kicks meter y first at) = acts_quiet x _ _
      (λ m e. (coordinators_leave_log (own_of x) m (short number x m there e)).kicks y.eui)

  hears_quiet : (y : Node) → ((m : Memory) → y.memory ≡ Some m → HasShortTables m.station) → (got : Accepted) (cost note now : ℕ)
      → Quiet y (hearing_step ciphers y got cost note now).node
  hears_quiet y has got cost note now = by_role y.role
    where
      hears_as : Role → NodeStep Reception
      hears_as Coordinator = answering coordinator_reception (acts y (Err drops.Store) (λ m. coordinator_rules.hear_coordinator (own_of y) m got cost note now))
      hears_as (Meter psk) = answering meter_reception (acts y (Err drops.Store) (λ m. meters.hear_meter (identity ciphers y psk) m got cost note now))

      by_role : (r : Role) → Quiet y (hears_as r).node
      by_role Coordinator = acts_quiet y (Err drops.Store) (λ m. coordinator_rules.hear_coordinator (own_of y) m got cost note now)
          (λ m e. (coordinators_leave_log (own_of y) m (has m e)).hears got cost note now)
      by_role (Meter psk) = acts_quiet y (Err drops.Store) (λ m. meters.hear_meter (identity ciphers y psk) m got cost note now)
          (λ m e. (meters_leave_log (identity ciphers y psk) m (has m e)).hears got cost note now)

  -- a node that accepts octets, and one that has heard them
  accepts_quiet : (number : ℕ) (x : Node) (octets : List ℕ) → node_at w number ≡ Some x → Quiet x (accepting ciphers x octets).node
  accepts_quiet number x octets there = acts_quiet x (Err frames.Halted) (λ m. of_station m (accept m.station x.eui (arrived ciphers octets)))
      (λ m e. (stations_leave_log m.station (short number x m there e)).accepts x.eui (arrived ciphers octets))

  pub heard_quiet : (number : ℕ) (x : Node) (octets : List ℕ) (got : Accepted) (cost note : ℕ) → node_at w number ≡ Some x
      → Quiet x (hearing_step ciphers (accepting ciphers x octets).node got cost note w.clock).node
  heard_quiet number x octets got cost note there =
      quiet_on x (accepting ciphers x octets).node (hearing_step ciphers (accepting ciphers x octets).node got cost note w.clock).node
      (accepts_quiet number x octets there) (hears_quiet (accepting ciphers x octets).node
      (acts_short x (Err frames.Halted) (λ m. of_station m (accept m.station x.eui (arrived ciphers octets)))
      (λ m e. accept_short m.station (short number x m there e) x.eui (arrived ciphers octets))) got cost note w.clock)

  module _ (ups : List BroadcastUp) (held : MarkedWorld ups w) (logs : LogsKept w) (earlier : All (λ (u : BroadcastUp). u.node < length w.nodes) ups) where
    one_quiet : {A : Type 0} (u : World) (number : ℕ) (x : Node) (d : NodeStep A) → u.nodes ≡ w.nodes → u.beside ≡ w.beside → node_at w number ≡ Some x
        → Quiet x d.node → MarkedWorld ups (world_after ciphers u number d)
    unfolding world_after
    one_quiet u number x d nodes beside there q = at_quiet ups w held (world_after ciphers u number d) number x d.node there
        (ap (λ ns. slice_set ns number d.node) nodes) (λ n. ap (λ bs. aside bs n) beside) q

    -- and then another one
    two_quiet : {A B : Type 0} (u : World) (a b : ℕ) (x y : Node) (d : NodeStep A) (e : NodeStep B) → u.nodes ≡ w.nodes → u.beside ≡ w.beside
        → node_at w a ≡ Some x → node_at w b ≡ Some y → b ≢ a → Quiet x d.node → Quiet y e.node
        → MarkedWorld ups (world_after ciphers (world_after ciphers u a d) b e)
    unfolding world_after
    two_quiet u a b x y d e nodes beside hx hy apart q r =
        at_quiet ups (world_after ciphers u a d) (one_quiet u a x d nodes beside hx q) (world_after ciphers (world_after ciphers u a d) b e) b y e.node
        (ap (λ ns. slice_get (slice_set ns a d.node) b) nodes ∙ slice_get-set_other w.nodes a b d.node apart ∙ hy) refl (λ n. refl) r

    made_marks : (event : Event) (x : Node) → old.IsMade w event x → MarkedIn ups (length w.nodes) nothing_beside.log x.store.records x.memory
    made_marks event x (old.OfCoordinator eui key none known long) =
        quiet_marks ups (length w.nodes) nothing_beside.log (blank_node Coordinator eui) (coordinator_node eui key)
        (acts_quiet (blank_node Coordinator eui) (Ok tt) (λ m. coordinator_rules.begin m (first_grant key)) begins)
        (blank_marks ups (length w.nodes) Coordinator eui earlier)
      where
        begins : (m : Memory) → (blank_node Coordinator eui).memory ≡ Some m → LeavesLog (coordinator_rules.begin m (first_grant key))
        begins m e = subst (λ (n : Memory). LeavesLog (coordinator_rules.begin n (first_grant key))) (same_Some _ _ e)
            ((coordinators_leave_log (record { eui = eui; ciphers = ciphers }) (remembering blank_station [])
            (record { marks = omega arith; ranks = omega arith })).begins (first_grant key))
    made_marks event x (old.OfMeter eui psk some room new known long) = blank_marks ups (length w.nodes) (Meter psk) eui earlier

    abbrev pub MarksIn : Step → Type 0
    MarksIn (Ok r) = MarkedWorld ups r.0
    MarksIn (Err fault) = Unit {0}

    sent_marks : (from to : ℕ) (datagram : List ℕ) (tag : ℕ) (t : Bool) (r : World × Trace) → MarkedWorld ups r.0
        → MarkedWorld ups (sent_if w from to datagram tag t r).0
    sent_marks from to datagram tag true r k = k
    sent_marks from to datagram tag false r k = k

    ticked_marks : (n now : ℕ) (log : Log) (x : Node) → MarkedIn ups n log x.store.records x.memory
        → MarkedIn ups n log (ticked now x).store.records (ticked now x).memory
    ticked_marks n now log x h = by_role x.role x.memory h
      where
        by_role : (r : Role) (o : Option Memory) → MarkedIn ups n log x.store.records o
            → MarkedIn ups n log x.store.records (ticked now (record x { role = r; memory = o })).memory
        by_role Coordinator None k = k
        by_role (Meter psk) None k = k
        by_role Coordinator (Some m) k = k
        by_role (Meter psk) (Some m) k = k

    -- time, with any things beside that have the same logs
    time_marks : (v : World) (now : ℕ) → v.nodes ≡ map (ticked now) w.nodes → ((n : ℕ) → (beside_at v n).log ≡ (beside_at w n).log) → MarkedWorld ups v
    time_marks v now nodes beside n y here = by_node (slice_get w.nodes n) refl
        (sym (slice_get-map (ticked now) w.nodes n) ∙ ap (λ ns. slice_get ns n) (sym nodes) ∙ here)
      where
        by_node : (o : Option Node) → slice_get w.nodes n ≡ o → option_map (ticked now) o ≡ Some y → MarkedIn ups n (beside_at v n).log y.store.records y.memory
        by_node None there e = absurd (cc (e))
        by_node (Some x) there e =
            subst (λ (u : Node). MarkedIn ups n (beside_at v n).log u.store.records u.memory) (same_Some _ _ e)
            (subst (λ l. MarkedIn ups n l (ticked now x).store.records (ticked now x).memory) (sym (beside n))
            (ticked_marks n now (beside_at w n).log x (held n x there)))

    old_marks : (event : Event) (s : Step) → IsOther event → old.IsStep ciphers w event s → MarksIn s
    unfolding world_after
    old_marks event s other (old.Fails e fault) = tt
    old_marks event s other (old.Makes e x is) = made
      where
        made : MarkedWorld ups (record (set_up w) { nodes = w.nodes ++ x ∷ []; beside = w.beside ++ nothing_beside ∷ [] })
        made n y here = by_number (n == length w.nodes) refl
          where
            by_number : (t : Bool) → (n == length w.nodes) ≡ t → MarkedIn ups n (aside (w.beside ++ nothing_beside ∷ []) n).log y.store.records y.memory
            by_number true at =
                let same : n ≡ length w.nodes = eqb-true n (length w.nodes) at in
                let node : x ≡ y = same_Some x y (sym (slice_get-push w.nodes x) ∙ ap (slice_get (w.nodes ++ x ∷ [])) (sym same) ∙ here) in
                subst (λ (u : Node). MarkedIn ups n (aside (w.beside ++ nothing_beside ∷ []) n).log u.store.records u.memory) node
                (subst (λ k. MarkedIn ups k (aside (w.beside ++ nothing_beside ∷ []) k).log x.store.records x.memory) (sym same)
                (subst (λ (b : Beside). MarkedIn ups (length w.nodes) b.log x.store.records x.memory)
                (sym (aside_more w.beside (length w.nodes) ∙ beyond w.beside w.nodes logs)) (made_marks e x is)))
            by_number false at =
                let ne : n ≢ length w.nodes = eqb-false n (length w.nodes) at in
                subst (λ (b : Beside). MarkedIn ups n b.log y.store.records y.memory) (sym (aside_more w.beside n))
                (held n y (sym (slice_get-push_other w.nodes n x ne) ∙ here))
    old_marks event s other (old.Rests e quiet) = at_none ups w held (running_world w) refl (λ n. refl)
    old_marks event s other (old.Shows number x) = at_none ups w held (running_world w) refl (λ n. refl)
    old_marks event s other (old.Acts e number x A halts plan reads there call word asked) =
        one_quiet (running_world w) number x (answering reads (acts x halts plan))
        refl refl there (call_quiet number x A halts plan there call)
    old_marks event s other (old.BreaksLink number next x a there call) =
        let plan : Memory → Plan Memory Answer = λ m. changing answers.Broken (with_station (calls.broke a m.station) m) in
        one_quiet (running_world w) number x (acts x answers.Halted plan) refl refl there (call_quiet number x Answer answers.Halted plan there call)
    old_marks event s other (old.SendsFrom from to datagram x a there call target) =
        let plan : Memory → Plan Memory (Result SentHow SendRefusal) = λ m. of_station m (calls.send m.station a datagram (w.sends + 1) w.clock) in
        let d : NodeStep Answer = answering sent_word (acts x (Err sends.Halted) plan) in
        sent_marks from to datagram (tag_of x) (is_taken d.answer) (node_outcome ciphers w from d)
        (one_quiet (running_world w) from x d refl refl there (call_quiet from x _ (Err sends.Halted) plan there call))
    old_marks event s other (old.AllowsMeter number y c psk there call meter) =
        let plan : Memory → Plan Memory (Result ℕ CoordinatorRefusal) = λ m. coordinator_rules.allow m y.eui psk in
        one_quiet (running_world w) 0 c (acts c (Err orders.Halted) plan) refl refl there (call_quiet 0 c _ (Err orders.Halted) plan there call)
    old_marks event s other (old.Sets e quiet number x plan there open_is is) =
        one_quiet (set_up w) number x (acts x (Ok tt) (λ m. of_station m (plan m.station))) refl refl there
        (call_quiet number x _ (Ok tt) (λ m. of_station m (plan m.station)) there (old.preset_call ciphers w number x plan open_is is))
    old_marks event s other (old.SetsTwo e quiet a b cost x y p q hx hy apart open_is first second fresh near) =
        two_quiet (set_up w) a b x y (offered_near x q cost w.clock) (offered_near y p cost w.clock) refl refl hx hy apart
        (call_quiet a x _ (Ok tt) (λ m. of_station m (calls.preset_near m.station q cost w.clock)) hx first)
        (call_quiet b y _ (Ok tt) (λ m. of_station m (calls.preset_near m.station p cost w.clock)) hy second)
    old_marks event s other (old.Provides number x c psk g d ne open_is hx hc pair same is) =
        two_quiet (set_up w) 0 number c x d (acts x (Ok tt) (λ m. meters.provision m g)) refl refl hc hx ne
        (subst (λ (z : NodeStep (Result Granted CoordinatorRefusal)). Quiet c z.node) (sym same)
        (acts_quiet c (Err orders.Halted) (λ m. coordinator_rules.depot m x.eui psk)
        (λ m e. (coordinators_leave_log (own_of c) m (short 0 c m hc e)).depots x.eui psk)))
        (acts_quiet x (Ok tt) (λ m. meters.provision m g) (λ m e. (stations_leave_log m.station (short number x m hx e)).installs g))
    old_marks event s other (old.TurnsDown e number x octets reason d there says comes same is) =
        one_quiet (running_world w) number x d refl refl there (subst (λ (z : NodeStep (Result Accepted FrameRefusal)). Quiet x z.node) (sym same)
        (accepts_quiet number x octets there))
    old_marks event s other (old.Hears e number x octets cost got there says comes low is) =
        at_quiet ups w held (hearing_outcome ciphers w number (accepting ciphers x octets).node octets got cost).0 number x
        (hearing_step ciphers (accepting ciphers x octets).node got cost (note_by w octets got.path) w.clock).node there refl (λ n. refl)
        (heard_quiet number x octets got cost (note_by w octets got.path) there)
    old_marks event s other (old.Loses number f there) = at_none ups w held
        (record (running_world w) { flights = slice_set w.flights (number - 1) (record f { lost = true }) }) refl (λ n. refl)
    old_marks event s other (old.Ticks seconds) = absurd (cc (other.0))
    old_marks event s other (old.Restarts number x there) = absurd (restart_other number (other.1 number))
      where
        restart_other : (k : ℕ) → (k == k) ≡ false → ⊥
        restart_other k e = eqb-false k k e refl
    old_marks event s other (old.Cuts number nth keeps_new x there) = one_quiet (running_world w) number x
        (stays (record x { store = record x.store { cut = Some (record { nth = nth; keeps_new = keeps_new }) } }) answers.Set) refl refl there
        (record { same = λ slot is. refl; down = λ e. e })

-- # Every event

-- what a step hands up
abbrev pub MarksOn : List BroadcastUp → Step → Type 0
MarksOn ups (Ok r) = MarkedWorld (ups ++ one_of r.1.happenings.bup) r.0
MarksOn ups (Err fault) = Unit {0}

-- nothing
abbrev pub NoneUp : Step → Type 0
NoneUp (Ok r) = r.1.happenings.bup ≡ None
NoneUp (Err fault) = Unit {0}

module _ (w : World) (ok : WorldOk w) (flown_are : All FlightFits w.flights) (logs : LogsKept w) (ups : List BroadcastUp) (held : MarkedWorld ups w)
    (earlier : All (λ (u : BroadcastUp). u.node < length w.nodes) ups) where
  short : HaveShortTables w
  short = tables_short w ok

  within : (number : ℕ) (x : Node) → node_at w number ≡ Some x → number < length w.beside
  within number x there = beside_within w.beside w.nodes number x logs there

  none : (r : World × Trace) → r.1.happenings.bup ≡ None → MarkedWorld ups r.0 → MarksOn ups (Ok r)
  none r e h = rw e (λ n x there. subst (λ us. MarkedIn us n (beside_at r.0 n).log x.store.records x.memory) (sym (append-nil ups)) (h n x there))

  old_none : (event : Event) (s : Step) → old.IsStep network w event s → NoneUp s
  old_none event s (old.Fails e fault) = tt
  old_none event s (old.Makes e x is) = refl
  old_none event s (old.Rests e quiet) = refl
  old_none event s (old.Shows number x) = refl
  old_none event s (old.Acts e number x A halts plan reads there call word asked) = refl
  old_none event s (old.BreaksLink number next x a there call) = refl
  old_none event s (old.SendsFrom from to datagram x a there call target) =
      let d : NodeStep Answer = answering sent_word (acts x (Err sends.Halted) (λ m. of_station m (calls.send m.station a datagram (w.sends + 1) w.clock))) in
      by_taken (is_taken d.answer) (node_outcome network w from d) refl
    where
      by_taken : (t : Bool) (r : World × Trace) → r.1.happenings.bup ≡ None → (sent_if w from to datagram (tag_of x) t r).1.happenings.bup ≡ None
      by_taken true r e = e
      by_taken false r e = e
  old_none event s (old.AllowsMeter number y c psk there call meter) = refl
  old_none event s (old.Sets e quiet number x plan there open_is is) = refl
  old_none event s (old.SetsTwo e quiet a b cost x y p q hx hy apart open_is first second fresh near) = refl
  old_none event s (old.Provides number x c psk g d ne open_is hx hc pair same is) = refl
  old_none event s (old.TurnsDown e number x octets reason d there says comes same is) = refl
  old_none event s (old.Hears e number x octets cost got there says comes low is) = refl
  old_none event s (old.Loses number f there) = refl
  old_none event s (old.Ticks seconds) = refl
  old_none event s (old.Restarts number x there) = refl
  old_none event s (old.Cuts number nth keeps_new x there) = refl

  known_marks : (event : Event) (s : Step) → IsOther event → old.IsStep network w event s → MarksOn ups s
  known_marks event s other is = by_step s (old_none event s is) (old_marks network w short ups held logs earlier event s other is)
    where
      by_step : (t : Step) → NoneUp t → MarksIn network w short ups held logs earlier t → MarksOn ups t
      by_step (Ok r) e h = none r e h
      by_step (Err fault) e h = tt

  -- a node that carries out a further plan, and hands nothing up
  carried : {A : Type 0} (v : World) (t : Trace) (number : ℕ) (x : Node) (halted : A) (plan : Reaching Memory → Plan (Reaching Memory) A)
      → t.happenings.bup ≡ None → node_at w number ≡ Some x
      → ((m : Memory) → x.memory ≡ Some m → PlanMarks ups number (beside_at w number) (λ _. None) (plan (record { memory = m; beside = beside_at w number })))
      → v.nodes ≡ slice_set w.nodes number (reaches x (beside_at w number) halted plan).node
      → v.beside ≡ slice_set w.beside number (beside_after x (beside_at w number) plan (reaches x (beside_at w number) halted plan).node)
      → MarksOn ups (Ok (v, t))
  carried v t number x halted plan silent there marks nodes beside =
      rw silent (at_one ups w held v number x (reaches x (beside_at w number) halted plan).node
      (beside_after x (beside_at w number) plan (reaches x (beside_at w number) halted plan).node) None there (within number x there) nodes beside tt
      (further_marks ups number x (beside_at w number) halted (λ _. None) plan refl marks (held number x there)))

  same_log : (number : ℕ) (x : Node) (b : Beside) → node_at w number ≡ Some x → b.log ≡ (beside_at w number).log → (v : World) → v.nodes ≡ w.nodes
      → v.beside ≡ slice_set w.beside number b → MarkedWorld ups v
  same_log number x b there same v nodes beside n y here = by_number (n == number) refl
    where
      by_number : (t : Bool) → (n == number) ≡ t → MarkedIn ups n (beside_at v n).log y.store.records y.memory
      by_number true e =
          let at : n ≡ number = eqb-true n number e in
          let log : (beside_at v n).log ≡ (beside_at w n).log = ap (λ k. (beside_at v k).log) at ∙ ap (λ bs. (aside bs number).log) beside ∙ ap
          (λ (c : Beside). c.log) (aside_set w.beside number b (within number x there)) ∙ same ∙ ap (λ k. (beside_at w k).log) (sym at) in
          subst (λ l. MarkedIn ups n l y.store.records y.memory) (sym log) (held n y (ap (λ ns. slice_get ns n) (sym nodes) ∙ here))
      by_number false e =
          let other : beside_at v n ≡ beside_at w n = ap (λ bs. aside bs n) beside ∙ aside_other w.beside number n b (eqb-false n number e) in
          subst (λ (c : Beside). MarkedIn ups n c.log y.store.records y.memory) (sym other) (held n y (ap (λ ns. slice_get ns n) (sym nodes) ∙ here))

  module _ (event : Event) (number : ℕ) (x : Node) (octets : List ℕ) (cost : ℕ) (got : Accepted) (a : IsAccepted network w event number x octets got) where
    abbrev h : World × Trace
    h = hearing_outcome network w number (after_accepting network x octets) octets got cost

    abbrev left : Node
    left = (heard_node network w x octets got cost).node

    left_quiet : Quiet x left
    left_quiet = heard_quiet network w short number x octets got cost (note_by w octets got.path) a.there

    left_marks : MarkedIn ups number (beside_at w number).log left.store.records left.memory
    left_marks = quiet_marks ups number (beside_at w number).log x left left_quiet (held number x a.there)

    up_is : (answer : Result CommandHeard ReachDropped) → IfSome (broadcast_up number answer) (λ (u : BroadcastUp). u.node ≡ number)
    up_is (Ok (heard_of.Broadcast origin count body)) = refl
    up_is (Ok heard_of.Acked) = tt
    up_is (Ok heard_of.Relayed) = tt
    up_is (Ok heard_of.Answered) = tt
    up_is (Ok (heard_of.Path walk)) = tt
    up_is (Err reason) = tt

    commanded_marks : (c : NeighbourCommand) → command_of got ≡ Some c → MarksOn ups (Ok (commanded network number left c h))
    unfolding world_after
    commanded_marks c e =
        let d : NodeStep (Result CommandHeard ReachDropped) = reaches left (beside_at w number) (Err (reach_drops.Known drops.Store))
        (λ y. hear_command in_memory y c) in
        let are : AreOctets c.body = commands_fit network network_ranges w ok flown_are event a.says number x octets got c a.there a.comes a.is e in
        at_one ups w held (commanded network number left c h).0 number x d.node
        (beside_after left (beside_at w number) (λ y. hear_command in_memory y c) d.node) (broadcast_up number d.answer) a.there (within number x a.there)
        (slice_set-twice w.nodes number left d.node) refl (up_is d.answer)
        (further_marks ups number left (beside_at w number) (Err (reach_drops.Known drops.Store)) (broadcast_up number) (λ y. hear_command in_memory y c) refl
        (λ m here. command_marks ups number m (beside_at w number) c are) left_marks)

    acked_quiet : (reply : Reply) → Quiet x (acknowledging left reply).node
    acked_quiet reply = quiet_on x left (acknowledging left reply).node left_quiet
        (acts_quiet left (Err locals.Store) (λ m. acknowledges in_memory reply.to reply.number reply.origin m) (λ m e. acknowledging_leaves m reply))

    nothing_in : (z : Node) → MarkedIn ups number (beside_at w number).log z.store.records z.memory
        → MarkedIn (ups ++ []) number (beside_at w number).log z.store.records z.memory
    nothing_in z k = subst (λ us. MarkedIn us number (beside_at w number).log z.store.records z.memory) (sym (append-nil ups)) k

    abbrev b : Beside
    b = record (beside_at w number) { checks = checks_after (beside_at w number).checks (reply_among (heard_node network w x octets got cost).frames) w.clock }

    abbrev noted : World × Trace
    noted = with_check w number (reply_among (heard_node network w x octets got cost).frames) h

    checked_marks : MarksOn ups (Ok (checked network w number got (heard_node network w x octets got cost) h))
    unfolding world_after
    checked_marks = by_due (due got.path (message_of got) (heard_node network w x octets got cost).answer.answer)
      where
        by_memory : (reply : Reply) (t : Bool) → MarksOn ups (Ok (if t then adds_frames (world_after network noted.0 number (acknowledging left reply)) noted.1
            (acknowledging left reply) else sends_nothing w (world_after network noted.0 number (acknowledging left reply), noted.1)))
        by_memory reply true = at_one ups w held (world_after network noted.0 number (acknowledging left reply)) number x (acknowledging left reply).node b None
            a.there (within number x a.there) (slice_set-twice w.nodes number left (acknowledging left reply).node) refl tt
            (nothing_in (acknowledging left reply).node (quiet_marks ups number (beside_at w number).log x (acknowledging left reply).node (acked_quiet reply)
            (held number x a.there)))
        by_memory reply false = none (sends_nothing w (world_after network noted.0 number (acknowledging left reply), noted.1)) refl
            (at_quiet ups w held (sends_nothing w (world_after network noted.0 number (acknowledging left reply), noted.1)).0 number x
            (acknowledging left reply).node
            a.there (slice_set-twice w.nodes number left (acknowledging left reply).node) (λ n. refl) (acked_quiet reply))

        by_due : (o : Option Reply) → MarksOn ups (Ok (acknowledged_if network w number left o noted))
        by_due None = at_one ups w held noted.0 number x left b None a.there (within number x a.there) refl refl tt (nothing_in left left_marks)
        by_due (Some reply) = by_memory reply (is_some (acknowledging left reply).node.memory)

  pub marks_on : (event : Event) (s : Step) → IsReachStep network w event s → MarksOn ups s
  unfolding world_after
  marks_on event s (Fails e fault) = tt
  marks_on event s (Known e t other is nothing) = known_marks event s other is
  marks_on event s (Rests e answer idle other nothing) =
      none (running_world w, trace_of (happenings w answer)) refl (at_none ups w held (running_world w) refl (λ n. refl))
  marks_on event s Opens = none (record (set_up w) { checks_on = true }, trace_of (happenings w answers.Set)) refl
      (at_none ups w held (record (set_up w) { checks_on = true }) refl (λ n. refl))
  marks_on event s (Bcasts number x datagram there are) =
      carried (broadcasts_by network w number x datagram).0 (broadcasts_by network w number x datagram).1 number x (Err broadcast_faults.Halted)
      (λ y. broadcast in_memory y datagram) refl there (λ m here. broadcast_marks ups number m (beside_at w number) datagram) refl refl
  marks_on event s (Asks from to x y target there other address) =
      carried (asks_by network w from x (Some target)).0 (asks_by network w from x (Some target)).1 from x (Err ask_faults.Halted)
      (λ z. ask_path in_memory z target) refl there (λ m here. ask_marks ups from m (beside_at w from) target) refl refl
  marks_on event s (Scans number x m there here) = none (scans_by w number (Some m)) refl
      (same_log number x (record (beside_at w number) { scan = (begin_scan m (beside_at w number).scan).scan }) there refl (scans_by w number (Some m)).0 refl
      refl)
  marks_on event s (Chooses number k x psk there pair) =
      carried (chooses_by network w number x k (Some psk)).0 (chooses_by network w number x k (Some psk)).1 number x (Err choices.Halted)
      (λ y. choose_agent (identity network x psk) y k w.clock) refl there
      (λ m here. choice_marks ups number m (beside_at w number) (identity network x psk) (short number x m there here) k w.clock) refl refl
  marks_on event s (Discovers e number x m octets link other there here comes over is) =
      none (discovers_by w number x octets link (Some m)) refl (same_log number x
      (record (beside_at w number) { scan = (hear_discovery x.role m.station (beside_at w number).scan octets link).scan }) there refl
      (discovers_by w number x octets link (Some m)).0 refl refl)
  marks_on event s (Unbelieves e number x octets got a is) =
      none (unbelieved network w number (after_accepting network x octets) octets got) refl
      (at_quiet ups w held (unbelieved network w number (after_accepting network x octets) octets got).0 number x (after_accepting network x octets) a.there
      refl (λ n. refl) (accepts_quiet network w short number x octets a.there))
  marks_on event s (Commands e number x octets cost got c a low passes is) = commanded_marks event number x octets cost got a c is
  marks_on event s (Checked e number x octets cost got a low passes nothing on) = checked_marks event number x octets cost got a
  marks_on event s (Hears e number x octets cost got a low passes nothing off) =
      none (hearing_outcome network w number (after_accepting network x octets) octets got cost) refl
      (at_quiet ups w held (hearing_outcome network w number (after_accepting network x octets) octets got cost).0 number x
      (heard_node network w x octets got cost).node
      a.there refl (λ n. refl) (left_quiet event number x octets cost got a))
  marks_on event s (Ticks seconds) =
      let v : World = record (running_world w) {
        clock = w.clock + seconds;
        nodes = map (ticked (w.clock + seconds)) w.nodes;
        beside = map
            (tick_beside (w.clock + seconds)) w.beside;
      } in
      none (v, trace_of (happenings w answers.Ticked)) refl (time_marks network w short ups held logs earlier v (w.clock + seconds) refl
      (λ n. ap (λ (c : Beside). c.log) (aside_ticked (w.clock + seconds) w.beside n)))
  marks_on event s (Restarts number x b there read) =
      at_one ups w held (restarts_by network w number x (Ok b)).0 number x (restarts x).node b None there (within number x there) refl refl tt
      (subst (λ us. MarkedIn us number b.log x.store.records (restarts x).node.memory) (sym (append-nil ups))
      (restart_marks ups number (beside_at w number).log b x.store.records x.memory (restarts x).node.memory (held number x there) read))
