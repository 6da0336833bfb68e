-- What comes in an event is octets, so the logs of nodes stay what their stores give.
use Rattle.std.proofs.Common.{◌≡◌, ◌⊎◌, ⊎_elim, inl, inr, ℕ, Bool, true, false, not, List, length, Option, Some, None, Result, Ok, Err, refl, sym, ap, subst}
use Rattle.std.proofs.Common.{◌∙◌, arith}
use Rattle.std.specs.Prelude.{◌==◌, ◌||◌, IfOk, if◌then◌else◌, is_some, nat_lt, take}
use Rattle.std.specs.Option.{option_map_or}
use Rattle.std.proofs.lemmas.Bool.{and_parts, eqb-true}
use Rattle.std.proofs.lemmas.Option.{same_Some}
use Rattle.plc_base.specs.Faults.{◌then◌, ◌when◌, fault_at, cut_off}
use Rattle.plc_base.specs.Fields.{AreOctets, octet}
use Rattle.plc_base.specs.declared.fields.Fault.{Fault}
use Rattle.plc_base.proofs.Faults.{then_none}
use Rattle.store_tables.specs.Writes.{Written, write}
use Rattle.mac_frames.specs.Faults.{bits, fields_fault, frame_fault, low_fault, type_fault}
use Rattle.mac_frames.specs.declared.fault.FrameFaultKind.{FrameFaultKind}
use Rattle.mac_frames.specs.declared.fault.FrameFaultKind.TheVariants.{Kind, Long, Short}
use Rattle.mac_frames.specs.Reader.{head_in, body_in}
use Rattle.node_rules.specs.Accepted.{Accepted}
use Rattle.node_rules.specs.declared.refusal.FrameRefusal.{FrameRefusal}
use Rattle.node_rules.specs.declared.refusal.FrameRefusal.TheVariants as frames
use Rattle.node_rules.specs.Acceptance.{accept}
use Rattle.node_rules.specs.Ciphers.{network}
use Rattle.node_rules.specs.Frames.{Arrived, arrived, arrived_with}
use Rattle.node_rules.specs.Memory.{Memory, Node}
use Rattle.node_rules.specs.NodeSteps.{acts, left_by, of_station, stays}
use Rattle.node_rules.specs.Plans.{Plan, carry_out, finished, halted, resting}
use Rattle.reach_rules.specs.Beacons.{is_discovery, frame_type}
use Rattle.reach_rules.specs.FurtherReceptions.{NeighbourCommand, command_of}
use Rattle.line_flights.specs.Flown.{not_lost}
use Rattle.line_events.specs.declared.event.Event.{Event}
use Rattle.line_events.specs.declared.event.Event.TheVariants as events
use Rattle.line_events.specs.declared.event.StepFault.{StepFault}
use Rattle.line_events.specs.declared.event.StepFault.TheVariants as faults
use Rattle.line_events.specs.declared.happenings.Happenings.{Happenings}
use Rattle.line_rules.specs.Forgery.{Comes, OfFlight, OfScript, accepting}
use Rattle.line_rules.specs.Further.{line_step}
use Rattle.line_rules.specs.Logs.{CommandsAreOctets, LogsKept}
use Rattle.line_rules.specs.Worlds.{Flight, World, flight_at, node_at}
use Rattle.line_rules.proofs.LogsKept.{logs_kept}
use Rattle.line_world.specs.Arrivals.{BringsOctets}
use Rattle.line_world.specs.Soundness.{AreShort}
use Rattle.line_world.specs.Steps.{Gives}
use Rattle.line_world.proofs.Arrivals.{Flies, short_at}

-- # Octets of discovery are no frame that is accepted

frame_is_type_one : (octets : List ℕ) → frame_fault octets ≡ None → bits 0 3 (octet 0 octets) ≡ 1
unfolding fields_fault low_fault
frame_is_type_one octets none =
    let whole = (then_none (fault_at Long 400 when nat_lt 400 (length octets)) (fields_fault octets) none).1 in
    let low = (then_none (low_fault octets) _ whole).0 in
    let kind = (then_none (cut_off Short 1 octets) (type_fault (octet 0 octets)) low).1 in
    let first = (then_none
    (fault_at Kind 0 when (not (bits 0 3 (octet 0 octets) == 1) || bits 4 1 (octet 0 octets) == 1 || bits 7 1 (octet 0 octets) == 1)) _ kind).0 in
    eqb-true _ _ (by_test (bits 0 3 (octet 0 octets) == 1) first)
  where
    by_test : (b : Bool) → (fault_at Kind 0 when (not b || bits 4 1 (octet 0 octets) == 1 || bits 7 1 (octet 0 octets) == 1)) ≡ None → b ≡ true
    by_test true e = refl
    by_test false e = absurd (cc (e))

either_true : (a b : Bool) → (a || b) ≡ true → (a ≡ true) ⊎ (b ≡ true)
either_true true b e = inl refl
either_true false b e = inr e

other_type : (octets : List ℕ) → is_discovery octets ≡ true → bits 0 3 (octet 0 octets) ≡ 1 → ⊥
other_type octets e one = ⊎_elim
    (λ (t : (frame_type octets == 0) ≡ true). let zero_is : frame_type octets ≡ 0 = eqb-true _ _ t in omega arith)
    (λ (t : (frame_type octets == 3) ≡ true). let three_is : frame_type octets ≡ 3 = eqb-true _ _ t in omega arith)
    (either_true _ _ (and_parts _ _ e).1)

not_arrived : (octets : List ℕ) → is_discovery octets ≡ true → arrived network octets ≡ None
unfolding arrived
not_arrived octets e = by_fault (frame_fault octets) refl
  where
    by_fault : (o : Option (Fault FrameFaultKind)) → frame_fault octets ≡ o
        → (if is_some o then None else Some (arrived_with network (head_in octets) (take 15 octets) (body_in octets))) ≡ None
    by_fault None none = absurd (other_type octets e (frame_is_type_one octets none))
    by_fault (Some f) some = refl

none_accepts : (x : Node) (octets : List ℕ) → is_discovery octets ≡ true → (got : Accepted) → (accepting network x octets).answer ≡ Ok got → ⊥
unfolding acts carry_out resting
none_accepts x octets e got is =
    by_memory x.memory (subst (λ (o : Option Arrived). (acts x (Err frames.Halted) (plan o)).answer ≡ Ok got) (not_arrived octets e) is)
  where
    plan : Option Arrived → Memory → Plan Memory (Result Accepted FrameRefusal)
    plan o m = of_station m (accept m.station x.eui o)

    by_whole : (b : Bool) (m : Memory) (w : Written) → (if b then finished w (plan None m) else halted w (plan None m)).answer ≡ Ok got → ⊥
    by_whole true m w h = let bad : Err frames.Malformed ≡ Ok got = h in absurd (cc (bad))
    by_whole false m w h = let bad : Err frames.Store ≡ Ok got = h in absurd (cc (bad))

    by_memory : (o : Option Memory)
        → (option_map_or (λ m. left_by x (carry_out x.store.records x.store.cut (plan None m))) o (stays x (Err frames.Halted))).answer ≡ Ok got → ⊥
    by_memory None h = let bad : Err frames.Halted ≡ Ok got = h in absurd (cc (bad))
    by_memory (Some m) h =
        let w : Written = write (plan None m).puts x.store.cut x.store.records in
        by_whole w.whole m w h

-- # What comes

-- The octets that a delivery brings are those of its flight.
record IsOfFlight (w : World) (flight node number : ℕ) (octets : List ℕ) : Type 0 where
  same : number ≡ node
  flew : Flight
  at : flight_at w flight ≡ Some flew
  octets_are : octets ≡ flew.octets

of_flight : (w : World) (flight node cost number : ℕ) (octets : List ℕ) → Comes w (events.Deliver flight node cost) number octets
    → IsOfFlight w flight node number octets
of_flight w flight node cost number octets (OfFlight a n b f is) = record { same = refl; flew = f; at = is; octets_are = refl }

of_script : (w : World) (node cost : ℕ) (given : List ℕ) (number : ℕ) (octets : List ℕ) → Comes w (events.Inject node cost given) number octets
    → (number ≡ node) × (octets ≡ given)
of_script w node cost given number octets (OfScript n a own) = (refl, refl)

same_flight : (o : Option Flight) (f g : Flight) → o ≡ Some f → not_lost o ≡ Some g → f ≡ g
same_flight None f g is flies = absurd (cc (is))
same_flight (Some h) f g is flies = by h.lost flies
  where
    by : (lost : Bool) → (if lost then None else Some h) ≡ Some g → f ≡ g
    by true e = absurd (cc (e))
    by false e = sym (same_Some _ _ is) ∙ same_Some _ _ e

-- whatever the node of a number accepts of these octets carries octets
abbrev pub GetsOctets : World → ℕ → List ℕ → Type 0
GetsOctets w node octets =
    (z : Node) → node_at w node ≡ Some z → (got : Accepted) (c : NeighbourCommand) → (accepting network z octets).answer ≡ Ok got → command_of got ≡ Some c
    → AreOctets c.body

pub flight_brings : (w : World) (node flight cost : ℕ) (octets : List ℕ) → Flies (not_lost (flight_at w flight)) octets → GetsOctets w node octets
    → CommandsAreOctets network w (events.Deliver flight node cost)
flight_brings w node flight cost octets f one number z own got c there comes is has =
    let b = of_flight w flight node cost number own comes in
    let same : own ≡ octets = b.octets_are ∙ ap (λ (g : Flight). g.octets) (same_flight (flight_at w flight) b.flew f.flight b.at f.at) ∙ sym f.same in
    one z (subst (λ (n : ℕ). node_at w n ≡ Some z) b.same there) got c (subst (λ (o : List ℕ). (accepting network z o).answer ≡ Ok got) same is) has

pub script_brings : (w : World) (node cost : ℕ) (octets : List ℕ) → GetsOctets w node octets → CommandsAreOctets network w (events.Inject node cost octets)
script_brings w node cost octets one number z own got c there comes is has =
    let b = of_script w node cost octets number own comes in
    one z (subst (λ (n : ℕ). node_at w n ≡ Some z) b.0 there) got c (subst (λ (o : List ℕ). (accepting network z o).answer ≡ Ok got) b.1 is) has

-- of octets of discovery nothing is accepted
pub discovery_gets : (w : World) (node : ℕ) (octets : List ℕ) → is_discovery octets ≡ true → GetsOctets w node octets
discovery_gets w node octets e z there got c is has = absurd (none_accepts z octets e got is)

-- # Every event

abbrev brings : Event → Bool
brings (events.Deliver flight node cost) = true
brings (events.Inject node cost octets) = true
brings _ = false

-- octets come in no other
none_comes : (w : World) (event : Event) (number : ℕ) (octets : List ℕ) → brings event ≡ false → Comes w event number octets → ⊥
none_comes w event number octets e (OfFlight flight n cost f is) = absurd (cc (e))
none_comes w event number octets e (OfScript n cost given) = absurd (cc (e))

brought : (w : World) (event : Event) → brings event ≡ false → CommandsAreOctets network w event
brought w event e number x octets got c there comes is has = absurd (none_comes w event number octets e comes)

commands_are_octets : (w : World) (event : Event) → BringsOctets w event → CommandsAreOctets network w event
commands_are_octets w (events.Coordinator eui key) h = brought w (events.Coordinator eui key) refl
commands_are_octets w (events.Meter eui psk) h = brought w (events.Meter eui psk) refl
commands_are_octets w (events.Depot node) h = brought w (events.Depot node) refl
commands_are_octets w (events.Near a b cost) h = brought w (events.Near a b cost) refl
commands_are_octets w (events.Counter node value) h = brought w (events.Counter node value) refl
commands_are_octets w (events.Number node value) h = brought w (events.Number node value) refl
commands_are_octets w (events.Allow node) h = brought w (events.Allow node) refl
commands_are_octets w (events.RandomOctets node value) h = brought w (events.RandomOctets node value) refl
commands_are_octets w (events.Join node agent) h = brought w (events.Join node agent) refl
commands_are_octets w (events.Leave node) h = brought w (events.Leave node) refl
commands_are_octets w (events.Send from to datagram) h = brought w (events.Send from to datagram) refl
commands_are_octets w (events.Deliver flight node cost) h = h
commands_are_octets w (events.Inject node cost octets) h = h
commands_are_octets w (events.Lose flight) h = brought w (events.Lose flight) refl
commands_are_octets w (events.Break node next) h = brought w (events.Break node next) refl
commands_are_octets w (events.Tick seconds) h = brought w (events.Tick seconds) refl
commands_are_octets w (events.Restart node) h = brought w (events.Restart node) refl
commands_are_octets w (events.Cut node nth keeps_new) h = brought w (events.Cut node nth keeps_new) refl
commands_are_octets w (events.Rekey index key) h = brought w (events.Rekey index key) refl
commands_are_octets w (events.Challenge node) h = brought w (events.Challenge node) refl
commands_are_octets w (events.Activate node index) h = brought w (events.Activate node index) refl
commands_are_octets w (events.Kick node) h = brought w (events.Kick node) refl
commands_are_octets w (events.Show node) h = brought w (events.Show node) refl
commands_are_octets w events.Checks h = brought w events.Checks refl
commands_are_octets w (events.Bcast node datagram) h = brought w (events.Bcast node datagram) refl
commands_are_octets w (events.Scan node) h = brought w (events.Scan node) refl
commands_are_octets w (events.Choose node k) h = brought w (events.Choose node k) refl
commands_are_octets w (events.Path from to) h = brought w (events.Path from to) refl

-- the logs are what the stores give after an event, taken or not
pub still_kept : (w v : World) (event : Event) (r : Result Happenings StepFault) → AreShort w.nodes → LogsKept w → IfOk r (λ _. BringsOctets w event)
    → Gives w r v (line_step network w event)
    → LogsKept v
still_kept w v event (Ok h) short kept are g =
    logs_kept network w v event g.trace (λ number x m there here. short_at w.nodes number x m short there here) (commands_are_octets w event are) kept g.taken
still_kept w v event (Err faults.Memory) short kept are g = subst LogsKept (sym g.1) kept
still_kept w v event (Err faults.Setup) short kept are g = subst LogsKept (sym g.1) kept
still_kept w v event (Err faults.Node) short kept are g = subst LogsKept (sym g.1) kept
still_kept w v event (Err faults.Flight) short kept are g = subst LogsKept (sym g.1) kept
