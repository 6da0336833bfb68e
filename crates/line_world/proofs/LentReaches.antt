-- What a station did by a plan of its further rules, its node did, and the node is sound still.
use Rattle.std.proofs.Common.{◌≡◌, ℕ, Bool, true, false, ◌≤◌, [], length, Option, Some, None, refl, sym, ap, subst, ◌∙◌}
use Rattle.std.specs.Prelude.{IfSome, IfNone, IsSome, is_some, not, if◌then◌else◌}
use Rattle.std.specs.Bool.{MatchBool}
use Rattle.std.specs.Option.{option_map, option_map_or}
use Rattle.plc_base.specs.declared.address.Eui.{Eui}
use Rattle.plc_base.specs.declared.out_frame.Out.{Out}
use Rattle.plc_base.specs.Keeper.{Store}
use Rattle.broadcast_log.specs.Log.{AgreesWith}
use Rattle.node_rules.specs.Agreement.{Agrees}
use Rattle.node_rules.specs.CarriedPlans.{Carries, nothing}
use Rattle.node_rules.specs.Memory.{StationMemory, Memory, Node, Role}
use Rattle.node_rules.specs.MemoryDrafts.{with_station}
use Rattle.node_rules.specs.Neighbours.{CarriesAfter, followed}
use Rattle.node_rules.specs.NodeSteps.{NodeStep, acts}
use Rattle.node_rules.specs.Plans.{Plan, within}
use Rattle.node_rules.specs.States.{State}
use Rattle.node_rules.proofs.ComposedPlans.{carries_within}
use Rattle.node_rules.proofs.StationPuts.{stations_write_their_own}
use Rattle.node_rules.proofs.TablePlans.{stations}
use Rattle.node_rules.specs.Drafts.{alone}
use Rattle.neighbour_checks.specs.Acks.{ack_spelling}
use Rattle.reach_rules.specs.CheckedReplies.{acknowledges}
use Rattle.reach_rules.specs.ReachingNodes.{Beside, Reaching}
use Rattle.line_rules.specs.Further.{beside_after, reaches, with_beside, without_log}
use Rattle.line_world.specs.Nodes.{node_in}
use Rattle.line_world.specs.FurtherOutcomes.{Reaches, ReachesFirst, beside_left, given_after, of_held}
use Rattle.line_world.specs.Soundness.{IsSound}
use Rattle.line_world.proofs.NodeActs.{Took, took}
use Rattle.line_world.proofs.LentFurther.{Lent, node_side, station_side, owns_apart, places_apart}
use Rattle.line_world.proofs.LentStations.{StationPlan, StationStayed, StationCarries, IsOwnPlan, holder, lent, lent_took, lent_sound, over, stays_lent}

-- # What one node did

-- A node carried out a plan of its further rules, first in its step.
pub record TookFirst {A : Type 0} (x : Node) (b : Beside) (halted : A)
    (plan : Reaching Memory → Plan (Reaching Memory) A) (answer : A) (out : Out) (node : Node) (c : Beside) : Type 0 where
  pub took : Took (reaches x b halted plan) answer out node
  pub beside : c ≡ beside_after x b plan (reaches x b halted plan).node

-- The same after what was given out before.
pub record TookAfter {A : Type 0} (x : Node) (b : Beside) (halted : A)
    (plan : Reaching Memory → Plan (Reaching Memory) A) (answer : A) (before out : Out) (node : Node) (c : Beside) : Type 0 where
  pub answer_is : answer ≡ (reaches x b halted plan).answer
  pub out_is : out ≡ given_after before (reaches x b halted plan)
  pub node_is : node ≡ (reaches x b halted plan).node
  pub beside : c ≡ beside_after x b plan (reaches x b halted plan).node

-- It took this step, after what was given out before, and nothing stands beside it.
pub record TookAlone {A : Type 0} (step : NodeStep A) (answer : A) (before out : Out) (node : Node) : Type 0 where
  pub answer_is : answer ≡ step.answer
  pub out_is : out ≡ given_after before step
  pub node_is : node ≡ step.node

-- # After what was given out before

-- What a station gave out by itself in a step that had given out something before.
pub record Added {A : Type 0} (s t : State StationMemory) (halted answer : A) (q : StationPlan A) (before out : Out) : Type 0 where
  pub added : Out
  pub stayed : StationStayed s halted answer added t
  pub carries : StationCarries s q answer added t
  pub out_is : out ≡ (if is_some t.memory then followed before added else nothing)

-- a station that did nothing, or added to it
pub adds : {A : Type 0} (s t : State StationMemory) (halted answer : A) (q : StationPlan A) (before out : Out)
    → IfNone s.memory ((answer ≡ halted) × ((out ≡ nothing) × (t ≡ s))) → IfSome s.memory (λ l. CarriesAfter s (q s.eui l) answer before out t)
    → Added s t halted answer q before out
adds {A} s t halted answer q before out stayed carried =
    record {
      added = by_added s.memory carried;
      stayed = by_stayed s.memory carried stayed;
      carries = by_carries s.memory carried;
      out_is = by_out s.memory refl carried stayed;
    }
  where
    by_added : (o : Option StationMemory) → IfSome o (λ l. CarriesAfter s (q s.eui l) answer before out t) → Out
    by_added None k = nothing
    by_added (Some l) k = k.added

    by_stayed : (o : Option StationMemory) (k : IfSome o (λ l. CarriesAfter s (q s.eui l) answer before out t))
        → IfNone o ((answer ≡ halted) × ((out ≡ nothing) × (t ≡ s)))
        → IfNone o ((answer ≡ halted) × (by_added o k ≡ nothing) × (t ≡ s))
    by_stayed None k h = (h.0, refl, h.1.1)
    by_stayed (Some l) k h = tt

    by_carries : (o : Option StationMemory) (k : IfSome o (λ l. CarriesAfter s (q s.eui l) answer before out t))
        → IfSome o (λ l. Carries s (q s.eui l) answer (by_added o k) t)
    by_carries None k = tt
    by_carries (Some l) k = k.carries

    by_out : (o : Option StationMemory) → s.memory ≡ o → (k : IfSome o (λ l. CarriesAfter s (q s.eui l) answer before out t))
        → IfNone o ((answer ≡ halted) × ((out ≡ nothing) × (t ≡ s)))
        → out ≡ (if is_some t.memory then followed before (by_added o k) else nothing)
    by_out None e k h =
        let none : t.memory ≡ None = ap (λ (z : State StationMemory). z.memory) h.1.1 ∙ e in
        subst (λ (z : Option StationMemory). out ≡ (if is_some z then followed before nothing else nothing)) (sym none) h.1.0
    by_out (Some l) e k h = k.out_is

held_so : (m : Memory) (o : Option StationMemory) → is_some (option_map (λ l. with_station l m) o) ≡ is_some o
held_so m None = refl
held_so m (Some l) = refl

-- The node took the step of its rule after what was given out before.
pub alone_took : {A : Type 0} (role : Role) (m : Memory) (s t : State StationMemory) (halted answer : A) (q : StationPlan A) (before out : Out)
    → IsSome s.store.known_cut → Added s t halted answer q before out
    → TookAlone (acts (node_in role (holder m s)) halted (lent q s.eui)) answer before out (node_in role (holder m t))
alone_took role m s t halted answer q before out reported a =
    let k = lent_took role m s t halted q answer a.added reported a.stayed a.carries in
    let same = sym (held_so m t.memory) ∙ ap (λ (n : Node). is_some n.memory) k.node_is in
    record {
      answer_is = k.answer_is;
      out_is = a.out_is ∙ (λ i. if same i then followed before (k.out_is i) else nothing);
      node_is = k.node_is;
    }

-- # Plans with something beside

-- the plan of a node is that of its station, whatever it holds around it
abbrev pub AreLent : {A : Type 0} → Beside → (Reaching Memory → Plan (Reaching Memory) A) → (Reaching StationMemory → Plan (Reaching StationMemory) A) → Type 0
AreLent b p q = (m : Memory) → Lent b m (p (node_side b m)) (q (station_side b m))

-- as a plan of what a station holds
abbrev pub held_plan : {A : Type 0} → Beside → (Reaching StationMemory → Plan (Reaching StationMemory) A) → StationPlan A
held_plan b q e l = of_held b q l

-- a memory around what a station holds
abbrev around : StationMemory → Memory
around l = record { station = l; randoms = []; session = None; sessions = []; book = [] }

module _ {A : Type 0} (b : Beside) (p : Reaching Memory → Plan (Reaching Memory) A) (q : Reaching StationMemory → Plan (Reaching StationMemory) A)
    (are : AreLent b p q) where
  pub own_held : (e : Eui) → IsOwnPlan (held_plan b q) e
  own_held e = record {
    places = λ n short. places_apart n.station n.book (q (station_side b n)).puts (are n).apart;
    owns = λ l short. owns_apart (q (record { memory = l; beside = b })).puts (are (around l)).apart;
  }

  plan_is : (n : Memory) (e : Eui) → with_beside b p n ≡ lent (held_plan b q) e n
  plan_is n e = ap (λ (k : Plan (Reaching Memory) A). within (λ y. y.memory) (λ a. a) k) (are n).same

  beside_is : (n : Memory) → (p (node_side b n)).memory.beside ≡ (q (station_side b n)).memory.beside
  beside_is n = ap (λ (k : Plan (Reaching Memory) A). k.memory.beside) (are n).same

module _ {A : Type 0} (role : Role) (m : Memory) (s t : State StationMemory) (b c : Beside) (halted answer : A) (p : Reaching Memory → Plan (Reaching Memory) A)
    (q : Reaching StationMemory → Plan (Reaching StationMemory) A) (are : IsSome s.memory → AreLent b p q) where
  there : (l : StationMemory) → s.memory ≡ Some l → AreLent b p q
  there l e = are (subst (λ (o : Option StationMemory). IsSome o) (sym e) (cc))

  stays_so : (out : Out) → IfNone s.memory ((answer ≡ halted) × ((out ≡ nothing) × ((t ≡ s) × (c ≡ b)))) → StationStayed s halted answer out t
  stays_so out h = by s.memory h
    where
      by : (o : Option StationMemory) → IfNone o ((answer ≡ halted) × ((out ≡ nothing) × ((t ≡ s) × (c ≡ b))))
          → IfNone o ((answer ≡ halted) × (out ≡ nothing) × (t ≡ s))
      by None h = (h.0, h.1.0, h.1.1.0)
      by (Some l) h = tt

  carries_so : (out : Out) → IfSome s.memory (λ l. Carries s (of_held b q l) answer out t)
      → IfSome (holder m s).memory (λ n. Carries (holder m s) (with_beside b p n) answer out (holder m t))
  carries_so out h = by s.memory refl h
    where
      by : (o : Option StationMemory) → s.memory ≡ o → IfSome o (λ l. Carries s (of_held b q l) answer out t)
          → IfSome (option_map (λ l. with_station l m) o) (λ n. Carries (holder m s) (with_beside b p n) answer out (holder m t))
      by None e k = tt
      by (Some l) e k =
          subst (λ (f : Plan Memory A). Carries (holder m s) f answer out (holder m t)) (sym (plan_is b p q (there l e) (with_station l m) s.eui))
          (carries_within (λ k. with_station k m) (λ (a : A). a) (holder m s) s t (of_held b q l) answer out refl refl k)

  -- what stands beside the node
  leaves_so : (out : Out) → IfNone s.memory ((answer ≡ halted) × ((out ≡ nothing) × ((t ≡ s) × (c ≡ b))))
      → IfSome s.memory (λ l. c ≡ beside_left b q l t.memory)
      → c ≡ beside_after (node_in role (holder m s)) b p (node_in role (holder m t))
  unfolding beside_after
  leaves_so out h left = by s.memory refl h left
    where
      by : (o : Option StationMemory) → s.memory ≡ o → IfNone o ((answer ≡ halted) × ((out ≡ nothing) × ((t ≡ s) × (c ≡ b))))
          → IfSome o (λ l. c ≡ beside_left b q l t.memory)
          → c ≡ option_map_or (λ n. if is_some (holder m t).memory then (p (record { memory = n; beside = b })).memory.beside else without_log b)
          (option_map (λ l. with_station l m) o) b
      by None e h k = h.1.1.1
      by (Some l) e h k = k ∙ (λ i. if sym (held_so m t.memory) i then sym (beside_is b p q (there l e) (with_station l m)) i else without_log b)

  -- The node did so too, where it comes first in its step.
  pub first_took : (out : Out) → IsSome s.store.known_cut → ReachesFirst s b halted q answer out t c
      → TookFirst (node_in role (holder m s)) b halted p answer out (node_in role (holder m t)) c
  first_took out reported r =
      let k = took role (holder m s) (holder m t) halted (with_beside b p) answer out reported (stays_lent m s t halted answer out (stays_so out r.stayed))
      (carries_so out r.carried) in
      record { took = k; beside = leaves_so out r.stayed r.beside ∙ ap (λ (n : Node). beside_after (node_in role (holder m s)) b p n) k.node_is }

  -- what comes later, as what would come first
  stays_after : (out : Out) → IfNone s.memory ((answer ≡ halted) × ((out ≡ nothing) × ((t ≡ s) × (c ≡ b))))
      → IfNone s.memory ((answer ≡ halted) × ((out ≡ nothing) × (t ≡ s)))
  stays_after out h = by s.memory h
    where
      by : (o : Option StationMemory) → IfNone o ((answer ≡ halted) × ((out ≡ nothing) × ((t ≡ s) × (c ≡ b))))
          → IfNone o ((answer ≡ halted) × ((out ≡ nothing) × (t ≡ s)))
      by None h = (h.0, (h.1.0, h.1.1.0))
      by (Some l) h = tt

  pub added_by : (before out : Out) → Reaches s b halted q answer before out t c → Added s t halted answer (held_plan b q) before out
  added_by before out r = adds s t halted answer (held_plan b q) before out (stays_after out r.stayed) r.carried

  -- The node did so too, after what was given out before in the step.
  pub after_took : (before out : Out) → IsSome s.store.known_cut → Reaches s b halted q answer before out t c
      → TookAfter (node_in role (holder m s)) b halted p answer before out (node_in role (holder m t)) c
  after_took before out reported r =
      let a = added_by before out r in
      let k = took role (holder m s) (holder m t) halted (with_beside b p) answer a.added reported (stays_lent m s t halted answer a.added a.stayed)
      (carries_so a.added a.carries) in
      let same = sym (held_so m t.memory) ∙ ap (λ (n : Node). is_some n.memory) k.node_is in
      record {
        answer_is = k.answer_is;
        out_is = a.out_is ∙ (λ i. if same i then followed before (k.out_is i) else nothing);
        node_is = k.node_is;
        beside = leaves_so out r.stayed r.beside ∙ ap (λ (n : Node). beside_after (node_in role (holder m s)) b p n) k.node_is;
      }

  sound_so : (out : Out) → StationStayed s halted answer out t → StationCarries s (held_plan b q) answer out t → Agrees t → IsSound role (holder m s)
      → IsSound role (holder m t)
  sound_so out stayed carries agrees sound = by s.memory refl stayed
    where
      by : (o : Option StationMemory) → s.memory ≡ o → IfNone o ((answer ≡ halted) × (out ≡ nothing) × (t ≡ s)) → IsSound role (holder m t)
      by None e h = subst (λ (k : State StationMemory). IsSound role (holder m k)) (sym h.2) sound
      by (Some l) e h = lent_sound role m s t halted (held_plan b q) answer out (own_held b p q (there l e) s.eui) sound stayed carries agrees

  -- The node is sound still.
  pub first_sound : (out : Out) → ReachesFirst s b halted q answer out t c → Agrees t → IsSound role (holder m s) → IsSound role (holder m t)
  first_sound out r agrees sound = sound_so out (stays_so out r.stayed) r.carried agrees sound

  pub after_sound : (before out : Out) → Reaches s b halted q answer before out t c → Agrees t → IsSound role (holder m s) → IsSound role (holder m t)
  after_sound before out r agrees sound = let a = added_by before out r in sound_so a.added a.stayed a.carries agrees sound

-- # The log beside

-- the log of a node is that of its station
pub log_of_station : (m : Memory) (s : State StationMemory) (b : Beside) → IfSome (holder m s).memory (λ n. AgreesWith b.log s.store.records)
    → IfSome s.memory (λ l. AgreesWith b.log s.store.records)
log_of_station m s b h = by s.memory h
  where
    by : (o : Option StationMemory) → IfSome (option_map (λ l. with_station l m) o) (λ n. AgreesWith b.log s.store.records)
        → IfSome o (λ l. AgreesWith b.log s.store.records)
    by None k = tt
    by (Some l) k = k

-- and it has at most as many marks as slots
pub marks_short : (s : State StationMemory) (b : Beside) → IfSome s.memory (λ l. AgreesWith b.log s.store.records) → IsSome s.memory → length b.log.marks ≤ 32
marks_short s b h is = by s.memory h is
  where
    by : (o : Option StationMemory) → IfSome o (λ l. AgreesWith b.log s.store.records) → IsSome o → length b.log.marks ≤ 32
    by None k is = absurd (cc)
    by (Some l) k is = k.marks.short

-- # What is reported of a station

pub halted_says : {M : Type 0} (o : Option M) (r : Bool) → MatchBool r (o ≡ None) (IsSome o) → r ≡ not (is_some o)
halted_says o true none = ap (λ k. not (is_some k)) (sym none)
halted_says (Some m) false some = refl
halted_says None false some = absurd (cc)

-- whether a node is halted is said by its station
pub node_halted : (m : Memory) (s : State StationMemory) (r : Bool) → MatchBool r (s.memory ≡ None) (IsSome s.memory) → r ≡ not (is_some (holder m s).memory)
node_halted m s r h = halted_says s.memory r h ∙ ap (λ (b : Bool). not b) (sym (held_so m s.memory))

-- what holds of what a node holds holds of what its station holds
pub station_has : (m : Memory) (s : State StationMemory) (P : StationMemory → Type 0) → IfSome (holder m s).memory (λ n. P n.station) → IfSome s.memory P
station_has m s P h = by s.memory h
  where
    by : (o : Option StationMemory) → IfSome (option_map (λ l. with_station l m) o) (λ n. P n.station) → IfSome o P
    by None k = tt
    by (Some l) k = k

-- a keeper that is given back as it was
pub keeper_back : (s : State StationMemory) (k : Store) → k ≡ s.store → over k s ≡ s
keeper_back s k e = ap (λ (z : Store). over z s) e

-- # An acknowledgement

-- what goes to a neighbour is written by the station itself, and in place
pub acknowledges_own : (to number origin : ℕ) (e : Eui) → IsOwnPlan (λ _ l. acknowledges alone to number origin l) e
acknowledges_own to number origin e = record {
  places = λ m short. (stations m.station m.book short).sends_local 3 (Some to) (ack_spelling number origin);
  owns = λ l short. (stations_write_their_own l short).sends_local 3 (Some to) (ack_spelling number origin);
}
