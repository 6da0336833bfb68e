-- What the station of a node did while it was lent, the node of its number did.
use Rattle.std.proofs.Common.{◌≡◌, ℕ, ◌-◌, ◌<◌, Bool, true, false, List, length, get_or, Option, Some, None, Ok, Err, Result, refl, sym, ap, subst, ◌∙◌}
use Rattle.std.specs.Bool.{MatchBool}
use Rattle.std.specs.Option.{option_and_then, option_map, option_map_or}
use Rattle.std.specs.Prelude.{IfSome, IfNone, IfOk, IsSome, is_some, not, slice_get, slice_set, if◌then◌else◌}
use Rattle.plc_base.specs.declared.key.Key.{Key}
use Rattle.plc_base.specs.declared.out_frame.Out.{Out}
use Rattle.store_tables.proofs.SlotTables.{slice_get-set}
use Rattle.broadcast_log.specs.Log.{AgreesWith}
use Rattle.node_rules.specs.Accepted.{Accepted}
use Rattle.node_rules.specs.declared.refusal.FrameRefusal.{FrameRefusal}
use Rattle.node_rules.specs.declared.refusal.Dropped.TheVariants.{Store as Unstored}
use Rattle.node_rules.specs.Agreement.{Agrees}
use Rattle.node_rules.specs.Agreement as agreement
use Rattle.node_rules.specs.CarriedPlans.{nothing}
use Rattle.node_rules.specs.Drafts.{alone}
use Rattle.node_rules.specs.Memory.{StationMemory, Memory, Node, Role, Coordinator, Meter}
use Rattle.node_rules.specs.MemoryDrafts.{in_memory, with_station}
use Rattle.node_rules.specs.Neighbours.{CarriesAfter, valid_route}
use Rattle.node_rules.specs.NodeSteps.{NodeStep, acts}
use Rattle.node_rules.specs.Plans.{Plan}
use Rattle.node_rules.specs.States.{State}
use Rattle.reach_rules.specs.declared.heard.CommandHeard.{CommandHeard}
use Rattle.reach_rules.specs.declared.refusal.ReachDropped.{ReachDropped}
use Rattle.reach_rules.specs.declared.refusal.ReachDropped.TheVariants.{Known}
use Rattle.reach_rules.specs.Beacons.{cost_to_coordinator}
use Rattle.reach_rules.specs.ReachingNodes.{Beside, Reaching}
use Rattle.reach_rules.specs.FurtherReceptions.{NeighbourCommand, hear_command}
use Rattle.line_rules.specs.Further.{reaches}
use Rattle.coordinator.specs.CoordinatorStates.{CoordinatorState}
use Rattle.meter_node.specs.MeterStates.{MeterState}
use Rattle.line_world.specs.declared.nodes.command.Commanded.{Commanded}
use Rattle.line_world.specs.NodeOutcomes.{Did}
use Rattle.line_world.specs.Nodes.{node_in, nodes_in}
use Rattle.line_world.specs.FurtherOutcomes.{DidAfter, IsLogOf, ReachedCommand, Reaches, ReachesCommand, ReachesFirst, ReachedFirst, ReportsCommand}
use Rattle.line_world.specs.Receptions.{MayHear}
use Rattle.line_world.specs.Soundness.{AreSound, IsSound, NodeAgreesWith}
use Rattle.line_world.proofs.NodeActs.{Took}
use Rattle.line_world.proofs.CoordinatorActs as coordinators
use Rattle.line_world.proofs.LentFurther.{command_lent}
use Rattle.line_world.proofs.LentReaches.{AreLent, Added, TookAfter, adds, after_sound, after_took, alone_took, first_sound, first_took, log_of_station}
use Rattle.line_world.proofs.LentReaches.{marks_short, node_halted, station_has}
use Rattle.line_world.proofs.LentStations.{StationPlan, StationStayed, StationCarries, IsOwnPlan, holder, lent, lent_took, lent_sound, node_says}
use Rattle.line_world.proofs.MeterActs as meters
use Rattle.line_world.proofs.NumberedNodes as numbers

-- The node of this number has a station, which was lent: what the node holds beside it, the nodes as they are with each station in its place, and
-- that they are sound if that node is.
pub record IsLent (old : List Node) (number : ℕ) (role : Role) (m : Memory) (u s : State StationMemory) (left : State StationMemory → List Node)
    (kept : State StationMemory → Type 0) : Type 0 where
  pub there : number < length old
  pub found : slice_get old number ≡ Some (node_in role (holder m u))
  pub set : (t : State StationMemory) → left t ≡ slice_set old number (node_in role (holder m t))
  pub back : left u ≡ old
  pub sound : IsSound role (holder m u)
  pub keeps : (t : State StationMemory) → IsSound role (holder m t) → kept t
  pub same : s ≡ u

-- that of a meter
pub meter_lends : (o : Option CoordinatorState) (ms : List MeterState) (old : List Node) (number : ℕ) (x : MeterState) (s : State StationMemory)
    → nodes_in o ms ≡ old → AreSound o ms → 0 < number → number < length old → x ≡ get_or ms (number - 1) x → s ≡ x.station
    → IsLent old number (Meter x.psk) (meters.beside x) x.station s (λ t. nodes_in o (slice_set ms (number - 1) (meters.with_its t x)))
    (λ t. AreSound o (slice_set ms (number - 1) (meters.with_its t x)))
meter_lends o ms old number x s view sound after there here same =
    let at = numbers.meter_at o ms old number x view sound after there here in
    record {
      there = there;
      found = numbers.found at;
      set = λ t. numbers.set at (meters.with_its t x);
      back = numbers.same_at at (meters.with_its x.station x) refl;
      sound = numbers.sound_at at;
      keeps = λ t h. numbers.sound_with at (meters.with_its t x) h;
      same = same;
    }

-- that of the coordinator
pub coordinator_lends : (o : Option CoordinatorState) (ms : List MeterState) (old : List Node) (number : ℕ) (x : CoordinatorState)
    (s : State StationMemory)
    → nodes_in o ms ≡ old → AreSound o ms → o ≡ Some x → number ≡ 0 → s ≡ x.station
    → IsLent old number Coordinator (coordinators.beside x) x.station s (λ t. nodes_in (Some (coordinators.with_its t x)) ms)
    (λ t. AreSound (Some (coordinators.with_its t x)) ms)
coordinator_lends o ms old number x s view sound is first same =
    let at = numbers.coordinator_at o ms old number x view sound is first in
    record {
      there = numbers.its_there at;
      found = numbers.found_first at;
      set = λ t. numbers.set_first at (coordinators.with_its t x);
      back = numbers.its_same at (coordinators.with_its x.station x) refl;
      sound = numbers.its_sound at;
      keeps = λ t h. numbers.its_sound_with at (coordinators.with_its t x) h;
      same = same;
    }

module _ {old : List Node} {number : ℕ} {role : Role} {m : Memory} {u s : State StationMemory} {left : State StationMemory → List Node}
    {kept : State StationMemory → Type 0} (its : IsLent old number role m u s left kept) where
  pub found_lent : (P : Node → Type 0) → P (node_in role (holder m u)) → IfSome (slice_get old number) P
  found_lent P h = subst (λ (q : Option Node). IfSome q P) (sym its.found) h

  pub of_found : (P : Node → Type 0) → IfSome (slice_get old number) P → P (node_in role (holder m u))
  of_found P h = subst (λ (q : Option Node). IfSome q P) its.found h

  -- what holds of it with another station holds of what is found then
  put_lent : (t : State StationMemory) (P : Node → Type 0) → P (node_in role (holder m t)) → IfSome (slice_get (left t) number) P
  put_lent t P h =
      subst (λ (q : Option Node). IfSome q P)
      (sym (ap (λ (k : List Node). slice_get k number) (its.set t) ∙ slice_get-set old number (node_in role (holder m t)) its.there)) h

  -- what was accepted may be heard by it
  pub hears : (t : State StationMemory) (r : Result Accepted FrameRefusal) → IfOk r (λ got. MayHear (node_in role (holder m t)) got)
      → IfOk r (λ got. IfSome (slice_get (left t) number) (λ x. MayHear x got))
  hears t (Ok got) h = put_lent t (λ x. MayHear x got) h
  hears t (Err reason) h = tt

  -- it agrees with its keeper
  pub lent_agrees : Agrees s
  lent_agrees = subst (λ (k : State StationMemory). Agrees k) (sym its.same) (by u.memory its.sound.agrees)
    where
      by : (o : Option StationMemory) → IfSome (option_map (λ l. with_station l m) o) (λ n. NodeAgreesWith role n u.store.records)
          → IfSome o (λ l. agreement.AgreesWith l u.store.records)
      by None a = tt
      by (Some l) a = a.station

  -- one that is given back as it was
  pub unchanged : (t : State StationMemory) → t ≡ s → left t ≡ old
  unchanged t e = ap left (e ∙ its.same) ∙ its.back

  pub sound_back : (t : State StationMemory) → t ≡ s → kept t
  sound_back t e = its.keeps t (subst (λ (k : State StationMemory). IsSound role (holder m k)) (sym (e ∙ its.same)) its.sound)

  -- # What it says

  pub says : {A : Type 0} (f : StationMemory → A) (none r : A) → r ≡ option_map_or f s.memory none
      → IfSome (slice_get old number) (λ n. r ≡ option_map_or (λ (k : Memory). f k.station) n.memory none)
  says {A} f none r h =
      found_lent (λ n. r ≡ option_map_or (λ (k : Memory). f k.station) n.memory none)
      (node_says m u f none r (h ∙ ap (λ (k : State StationMemory). option_map_or f k.memory none) its.same))

  pub is_halted : (r : Bool) → MatchBool r (s.memory ≡ None) (IsSome s.memory) → IfSome (slice_get old number) (λ n. r ≡ not (is_some n.memory))
  is_halted r h =
      found_lent (λ n. r ≡ not (is_some n.memory))
      (node_halted m u r (subst (λ (k : State StationMemory). MatchBool r (k.memory ≡ None) (IsSome k.memory)) its.same h))

  pub joined : IfSome (slice_get old number) (λ n. IfSome n.memory (λ k. IsSome k.station.ring)) → IfSome s.memory (λ l. IsSome l.ring)
  joined h =
      subst (λ (k : State StationMemory). IfSome k.memory (λ l. IsSome l.ring)) (sym its.same)
      (station_has m u (λ l. IsSome l.ring) (of_found (λ n. IfSome n.memory (λ k. IsSome k.station.ring)) h))

  pub log_lent : (b : Beside) → IfSome (slice_get old number) (λ n. IsLogOf b n) → IfSome s.memory (λ l. AgreesWith b.log s.store.records)
  log_lent b h =
      subst (λ (k : State StationMemory). IfSome k.memory (λ l. AgreesWith b.log k.store.records)) (sym its.same)
      (log_of_station m u b (of_found (λ n. IsLogOf b n) h))

  -- # What it did

  did_so : {A : Type 0} (step : NodeStep A) (t : State StationMemory) (answer : A) (out : Out) → Took step answer out (node_in role (holder m t))
      → Did step old number answer out (left t)
  did_so step t answer out k =
      record { answer_is = k.answer_is; out_is = k.out_is; nodes_are = its.set t ∙ ap (λ (n : Node). slice_set old number n) k.node_is }

  module _ {A : Type 0} (halted : A) (q : StationPlan A) (t : State StationMemory) (answer : A) (out : Out) (stayed : StationStayed s halted answer out t)
      (carries : StationCarries s q answer out t) where
    stayed_its : StationStayed u halted answer out t
    stayed_its = subst (λ (k : State StationMemory). StationStayed k halted answer out t) its.same stayed

    carries_its : StationCarries u q answer out t
    carries_its = subst (λ (k : State StationMemory). StationCarries k q answer out t) its.same carries

    -- The node took the step of its station's rule.
    pub station_did : IfSome (slice_get old number) (λ n. Did (acts n halted (lent q n.eui)) old number answer out (left t))
    station_did =
        found_lent (λ n. Did (acts n halted (lent q n.eui)) old number answer out (left t))
        (did_so (acts (node_in role (holder m u)) halted (lent q u.eui)) t answer out
        (lent_took role m u t halted q answer out its.sound.known_cut stayed_its carries_its))

    -- It is sound still.
    pub station_sound : IsOwnPlan q u.eui → Agrees t → kept t
    station_sound own agrees = its.keeps t (lent_sound role m u t halted q answer out own its.sound stayed_its carries_its agrees)

  -- # What it did by a plan of its further rules

  module _ {A : Type 0} (t : State StationMemory) (b c : Beside) (halted answer : A) (p : Reaching Memory → Plan (Reaching Memory) A)
      (q : Reaching StationMemory → Plan (Reaching StationMemory) A) (are : IsSome s.memory → AreLent b p q) where
    are_its : IsSome u.memory → AreLent b p q
    are_its = subst (λ (k : State StationMemory). IsSome k.memory → AreLent b p q) its.same are

    pub reached_first : (out : Out) → ReachesFirst s b halted q answer out t c
        → IfSome (slice_get old number) (λ n. ReachedFirst n b halted p old number answer out (left t) c)
    reached_first out r =
        let k = first_took role m u t b c halted answer p q are_its out its.sound.known_cut
        (subst (λ (k : State StationMemory). ReachesFirst k b halted q answer out t c) its.same r) in
        found_lent (λ n. ReachedFirst n b halted p old number answer out (left t) c)
        (record { did = did_so (reaches (node_in role (holder m u)) b halted p) t answer out k.took; beside = k.beside })

    pub first_sound_still : (out : Out) → ReachesFirst s b halted q answer out t c → Agrees t → kept t
    first_sound_still out r agrees =
        its.keeps t (first_sound role m u t b c halted answer p q are_its out
        (subst (λ (k : State StationMemory). ReachesFirst k b halted q answer out t c) its.same r) agrees its.sound)

    after : (before out : Out) → Reaches s b halted q answer before out t c
        → TookAfter (node_in role (holder m u)) b halted p answer before out (node_in role (holder m t)) c
    after before out r =
        after_took role m u t b c halted answer p q are_its before out its.sound.known_cut
        (subst (λ (k : State StationMemory). Reaches k b halted q answer before out t c) its.same r)

    after_sound_still : (before out : Out) → Reaches s b halted q answer before out t c → Agrees t → kept t
    after_sound_still before out r agrees =
        its.keeps t (after_sound role m u t b c halted answer p q are_its before out
        (subst (λ (k : State StationMemory). Reaches k b halted q answer before out t c) its.same r) agrees its.sound)

  -- # A command that is heard

  module _ (t : State StationMemory) (b d : Beside) (c : NeighbourCommand) (reported : Commanded) (before out : Out)
      (logged : IfSome s.memory (λ l. AgreesWith b.log s.store.records))
      (r : ReachesCommand s b (λ y. hear_command alone y c) reported number before out t d) where
    are_lent : IsSome s.memory → AreLent b (λ y. hear_command in_memory y c) (λ y. hear_command alone y c)
    are_lent is k = command_lent b k (marks_short s b logged is) c

    did_hear : TookAfter (node_in role (holder m u)) b (Err (Known Unstored)) (λ y. hear_command in_memory y c) r.answer before out (node_in role (holder m t))
        d
    did_hear = after t b d (Err (Known Unstored)) r.answer (λ y. hear_command in_memory y c) (λ y. hear_command alone y c) are_lent before out r.reaches

    pub commanded : IfSome (slice_get old number) (λ n. ReachedCommand n b c old number reported before out (left t) d)
    commanded =
        found_lent (λ n. ReachedCommand n b c old number reported before out (left t) d) (record {
          reports = subst (λ (a : Result CommandHeard ReachDropped). ReportsCommand reported number a) did_hear.answer_is r.reports;
          reached = record {
            did = record {
              answer_is = refl;
              out_is = did_hear.out_is;
              nodes_are = its.set t ∙ ap (λ (n : Node). slice_set old number n) did_hear.node_is;
            };
            beside = did_hear.beside;
          };
        })

    pub commanded_sound : Agrees t → kept t
    commanded_sound agrees =
        after_sound_still t b d (Err (Known Unstored)) r.answer (λ y. hear_command in_memory y c) (λ y. hear_command alone y c) are_lent before out r.reaches
        agrees

  -- # What stands beside nothing

  module _ {A : Type 0} (t : State StationMemory) (halted answer : A) (q : StationPlan A) (before out : Out)
      (stayed : IfNone s.memory ((answer ≡ halted) × ((out ≡ nothing) × (t ≡ s))))
      (carried : IfSome s.memory (λ l. CarriesAfter s (q s.eui l) answer before out t)) where
    added_its : Added u t halted answer q before out
    added_its = subst (λ (k : State StationMemory). Added k t halted answer q before out) its.same (adds s t halted answer q before out stayed carried)

    pub did_alone : IfSome (slice_get old number) (λ n. DidAfter (acts n halted (lent q n.eui)) old number answer before out (left t))
    did_alone =
        let k = alone_took role m u t halted answer q before out its.sound.known_cut added_its in
        found_lent (λ n. DidAfter (acts n halted (lent q n.eui)) old number answer before out (left t))
        (record { answer_is = k.answer_is; out_is = k.out_is; nodes_are = its.set t ∙ ap (λ (n : Node). slice_set old number n) k.node_is })

    pub alone_sound : IsOwnPlan q u.eui → Agrees t → kept t
    alone_sound own agrees =
        its.keeps t (lent_sound role m u t halted q answer added_its.added own its.sound added_its.stayed added_its.carries agrees)

-- # The cost to the coordinator

-- a meter's is that of its valid route
pub cost_of_meter : {old : List Node} {number : ℕ} {psk : Key} {m : Memory} {u s : State StationMemory} {left : State StationMemory → List Node}
    {kept : State StationMemory → Type 0} → IsLent old number (Meter psk) m u s left kept
    → (r : Option (ℕ × ℕ)) (cost : Option ℕ) (dest : ℕ) → dest ≡ 0 → (s.memory ≡ None → r ≡ None) → IfSome s.memory (λ l. r ≡ valid_route l dest)
    → cost ≡ option_map (λ (k : ℕ × ℕ). k.1) r
    → IfSome (slice_get old number) (λ n. cost ≡ option_and_then (λ k. cost_to_coordinator n.role k.station) n.memory)
cost_of_meter {old} {number} {psk} {m} {u} {s} {left} {kept} its r cost dest home none some is =
    found_lent its (λ n. cost ≡ option_and_then (λ k. cost_to_coordinator n.role k.station) n.memory)
    (is ∙ by u.memory (λ e. none (ap (λ (k : State StationMemory). k.memory) its.same ∙ e))
    (subst (λ (k : State StationMemory). IfSome k.memory (λ l. r ≡ valid_route l dest)) its.same some))
  where
    by : (o : Option StationMemory) → (o ≡ None → r ≡ None) → IfSome o (λ l. r ≡ valid_route l dest)
        → option_map (λ (k : ℕ × ℕ). k.1) r ≡ option_and_then (λ k. cost_to_coordinator (Meter psk) k.station) (option_map (λ l. with_station l m) o)
    by None n k = ap (λ (q : Option (ℕ × ℕ)). option_map (λ (k : ℕ × ℕ). k.1) q) (n refl)
    by (Some l) n k = ap (λ (q : Option (ℕ × ℕ)). option_map (λ (k : ℕ × ℕ). k.1) q) (k ∙ ap (λ (to : ℕ). valid_route l to) home)

-- the coordinator's is nothing
pub cost_of_coordinator : {old : List Node} {number : ℕ} {m : Memory} {u s : State StationMemory} {left : State StationMemory → List Node}
    {kept : State StationMemory → Type 0} → IsLent old number Coordinator m u s left kept
    → (halted : Bool) (r : Option ℕ) → MatchBool halted (s.memory ≡ None) (IsSome s.memory) → r ≡ (if halted then None else Some 0)
    → IfSome (slice_get old number) (λ n. r ≡ option_and_then (λ k. cost_to_coordinator n.role k.station) n.memory)
cost_of_coordinator {old} {number} {m} {u} {s} {left} {kept} its halted r h is =
    found_lent its (λ n. r ≡ option_and_then (λ k. cost_to_coordinator n.role k.station) n.memory)
    (is ∙ by u.memory halted (subst (λ (k : State StationMemory). MatchBool halted (k.memory ≡ None) (IsSome k.memory)) its.same h))
  where
    by : (o : Option StationMemory) (b : Bool) → MatchBool b (o ≡ None) (IsSome o)
        → (if b then None else Some 0) ≡ option_and_then (λ k. cost_to_coordinator Coordinator k.station) (option_map (λ l. with_station l m) o)
    by None true k = refl
    by None false k = absurd (cc)
    by (Some l) true k = absurd (cc)
    by (Some l) false k = refl
