-- On a line with further reach no flight comes to life, and no node accepts a sealed frame twice.
use Rattle.std.proofs.Common.{◌≡◌, ℕ, ◌<◌, Bool, true, false, List, length, Some, Result, Ok, Err, refl, sym, ap, ◌∙◌, subst}
use Rattle.std.specs.Prelude.{All, if◌then◌else◌, is_some, slice_get, slice_set}
use Rattle.std.specs.Option.{option_map_or}
use Rattle.store_tables.proofs.SlotTables.{slice_get-set}
use Rattle.plc_base.specs.declared.key.Key.{Key}
use Rattle.mac_frames.specs.Reader.{head_in}
use Rattle.mac_frames.specs.declared.head.MacHead.{MacHead}
use Rattle.group_keys.specs.KeyBook as books
use Rattle.node_rules.specs.Accepted.{Accepted}
use Rattle.node_rules.specs.declared.heard.Path.TheVariants as paths
use Rattle.node_rules.specs.declared.heard.Reply.{Reply}
use Rattle.node_rules.specs.declared.refusal.Dropped.TheVariants as drops
use Rattle.node_rules.specs.declared.refusal.FrameRefusal.{FrameRefusal}
use Rattle.node_rules.specs.declared.refusal.LocalRefusal.{LocalRefusal}
use Rattle.node_rules.specs.Ciphers.{Ciphers}
use Rattle.node_rules.specs.Memory.{Node}
use Rattle.node_rules.specs.MemoryDrafts.{in_memory}
use Rattle.node_rules.specs.NodeSteps.{NodeStep, acts}
use Rattle.reach_rules.specs.declared.heard.CommandHeard.{CommandHeard}
use Rattle.reach_rules.specs.declared.refusal.ReachDropped.{ReachDropped}
use Rattle.reach_rules.specs.declared.refusal.ReachDropped.TheVariants as reach_drops
use Rattle.reach_rules.specs.Beacons.{is_discovery}
use Rattle.reach_rules.specs.FurtherReceptions.{NeighbourCommand, command_of, hear_command}
use Rattle.line_events.specs.declared.event.StepFault.TheVariants as faults
use Rattle.line_events.specs.declared.event.Event.{Event}
use Rattle.line_rules.specs.Answers.{Reception}
use Rattle.line_events.specs.Events.{IsEvent}
use Rattle.line_rules.specs.Forgery.{Comes, OfFlight, OfScript, accepting}
use Rattle.line_rules.specs.Further.{line_step, delivers, injects, comes, discovers_by, accepted_further, commanded, acknowledged, acknowledging, adds_frames}
use Rattle.line_rules.specs.Further.{sends_nothing, beside_at, with_beside}
use Rattle.line_rules.specs.Logs.{LogsKept}
use Rattle.line_rules.specs.Runs.{Entry}
use Rattle.line_rules.specs.Steps.{on_flight, world_after}
use Rattle.line_rules.specs.Worlds.{World, Flight, Trace, Issued, node_at}
use Rattle.line_laws.specs.LineAccounts.{LineFlightsFall, LineNodesAcceptOnce}
use Rattle.line_laws.specs.Keyed.{Keyed}
use Rattle.line_laws.specs.Lines.{FlightFits, WorldOk}
use Rattle.line_laws.specs.Live.{FlightsFall, is_live, marks_of}
use Rattle.line_laws.specs.Owed.{KeepsRanges}
use Rattle.line_laws.specs.Stores.{IsBookKept}
use Rattle.line_laws.proofs.AddressBook.{Grows}
use Rattle.line_laws.proofs.BookGrowth.{Goes}
use Rattle.line_laws.proofs.FurtherEvents.{IsHeard, checks_so, further_is, hearing, outcome_of_command, none_accepts, taker, IsUnbelieved, IsPlain, IsCommand}
use Rattle.line_laws.proofs.FurtherEvents.{IsChecked}
use Rattle.line_laws.proofs.FurtherEvents.{IsAnswered}
use Rattle.line_laws.proofs.FurtherForms.{AnyUnits}
use Rattle.line_laws.proofs.FurtherGrowth.{GoesIn, any_line, line_goes}
use Rattle.line_laws.proofs.FurtherSenders.{AnyFrame, further_did, heard_did, known}
use Rattle.line_laws.proofs.FurtherSteps.{ack_did, did_on, line_steps_hold}
use Rattle.line_laws.proofs.FurtherStepKinds.{line_follows}
use Rattle.line_laws.specs.FurtherLines.{StepHolds}
use Rattle.line_laws.proofs.LiveRuns.{Admission, Became, admitted_once, falls_where, head_falls_so, ok_is, passes_so, taken_begun}
use Rattle.line_laws.proofs.MarkOrder.{raised_same}
use Rattle.line_laws.proofs.MarkSteps.{Follows, FollowsIn}
use Rattle.line_laws.proofs.Nodes.{DidOk}
use Rattle.line_laws.proofs.Worlds.{within as place_within}

-- # What became of the node

did_become : {A : Type 0} (ciphers : Ciphers) (v u : World) (number : ℕ) (x z : Node) (d : NodeStep A) → node_at v number ≡ Some x → DidOk z d
    → u.nodes ≡ slice_set v.nodes number d.node → Became u number z
did_become ciphers v u number x z d there did nodes = record {
  node = d.node;
  there = ap (λ ns. slice_get ns number) nodes ∙ slice_get-set v.nodes number d.node (place_within v.nodes number x there);
  role = did.role;
  eui = did.eui;
  raised = did.marked;
}

module _ (ciphers : Ciphers) (fits : KeepsRanges ciphers) (w : World) (ok : WorldOk w) (flown : All FlightFits w.flights) (logs : LogsKept w) (event : Event)
    (number : ℕ) (x : Node) (octets : List ℕ) (cost : ℕ) (got : Accepted)
    (there : node_at w number ≡ Some x) (says : IsEvent event) (outcome_of_arrival : Comes w event number octets)
    (is : (accepting ciphers x octets).answer ≡ Ok got) where
  abbrev y : Node
  y = taker ciphers x octets

  abbrev d : NodeStep Reception
  d = hearing ciphers w x octets got cost

  abbrev r : World × Trace
  r = outcome_of_command ciphers w number x octets got cost

  abbrev with_it : World × Trace
  with_it = checks_so ciphers w number x octets got cost

  did : DidOk y d
  did = heard_did ciphers fits w ok flown logs event number x octets cost got there says outcome_of_arrival is

  now_there : node_at r.0 number ≡ Some d.node
  unfolding world_after
  now_there = slice_get-set w.nodes number d.node (place_within w.nodes number x there)

  plainly : (u : World) → u.nodes ≡ r.0.nodes → Became u number y
  plainly u same = record { node = d.node; there = ap (λ ns. slice_get ns number) same ∙ now_there; role = did.role; eui = did.eui; raised = did.marked }

  commands_become : (c : NeighbourCommand) → command_of got ≡ Some c → Became (commanded ciphers number d.node c r).0 number y
  unfolding world_after
  commands_become c e =
      let halted : Result CommandHeard ReachDropped = Err (reach_drops.Known drops.Store) in
      let does = with_beside (beside_at r.0 number) (λ z. hear_command in_memory z c) in
      let a = acts d.node halted does in
      let one = further_did ciphers fits w ok flown logs d.node halted does did.node
      (λ m here. (known ciphers fits w ok flown logs).commands event number x octets got cost c m says outcome_of_arrival there is e here) in
      did_become ciphers r.0 (commanded ciphers number d.node c r).0 number d.node y a now_there (did_on y d a did one) refl

  answers_become : (reply : Reply) → Became (acknowledged ciphers w number (acknowledging d.node reply) with_it).0 number y
  unfolding world_after
  answers_become reply = by_memory (is_some a.node.memory)
    where
      a : NodeStep (Result (Unit {0}) LocalRefusal)
      a = acknowledging d.node reply

      v : World
      v = world_after ciphers with_it.0 number a

      became : (u : World) → u.nodes ≡ slice_set r.0.nodes number a.node → Became u number y
      became u same = did_become ciphers r.0 u number d.node y a now_there (did_on y d a did (ack_did d.node reply did.node)) same

      by_memory : (b : Bool) → Became (if b then adds_frames v with_it.1 a else sends_nothing w (v, with_it.1)).0 number y
      by_memory true = became v refl
      by_memory false = became (sends_nothing w (v, with_it.1)).0 refl

  heard_becomes : (t : World × Trace) → IsHeard ciphers w number x octets got cost t → Became t.0 number y
  unfolding world_after
  heard_becomes t IsUnbelieved = record {
    node = y;
    there = slice_get-set w.nodes number y
        (place_within w.nodes number x there);
    role = refl;
    eui = refl;
    raised = raised_same (marks_of y);
  }
  heard_becomes t IsPlain = plainly r.0 refl
  heard_becomes t (IsCommand c e) = commands_become c e
  heard_becomes t IsChecked = plainly with_it.0 refl
  heard_becomes t (IsAnswered reply e) = answers_become reply

-- # The step in which octets come

-- Over a link of some cost they were heard.
record HeardBy (ciphers : Ciphers) (w : World) (number : ℕ) (x : Node) (octets : List ℕ) (got : Accepted) (r : World × Trace) : Type 0 where
  cost : ℕ
  how : IsHeard ciphers w number x octets got cost r

ok_same : {g got : Accepted} → (let r : Result Accepted FrameRefusal = Ok g in r ≡ Ok got) → g ≡ got
ok_same e = cc (e)

module _ (ciphers : Ciphers) (w : World) where
  comes_heard : (number : ℕ) (x : Node) (octets : List ℕ) (cost : ℕ) (got : Accepted) → (accepting ciphers x octets).answer ≡ Ok got
      → IsHeard ciphers w number x octets got cost (comes ciphers w number x octets cost)
  unfolding comes acts
  comes_heard number x octets cost got is = by_kind (is_discovery octets) refl
    where
      by_answer : (o : Result Accepted FrameRefusal) → (accepting ciphers x octets).answer ≡ o → o ≡ Ok got
          → IsHeard ciphers w number x octets got cost (accepted_further ciphers w number octets cost (accepting ciphers x octets))
      by_answer (Err reason) e same = absurd (cc (same))
      by_answer (Ok g) e same = subst
          (λ (h : Accepted). IsHeard ciphers w number x octets h cost (accepted_further ciphers w number octets cost (accepting ciphers x octets)))
          (ok_same same) (rw e (further_is ciphers w number x octets g cost))

      by_kind : (b : Bool) → is_discovery octets ≡ b
          → IsHeard ciphers w number x octets got cost
          (if b then discovers_by w number x octets cost x.memory else accepted_further ciphers w number octets cost (accepting ciphers x octets))
      by_kind true e = absurd (none_accepts ciphers x octets e got is)
      by_kind false e = by_answer (accepting ciphers x octets).answer refl is

  line_heard : (event : Event) (number : ℕ) (octets : List ℕ) (x : Node) (got : Accepted) (v : World) (t : Trace) → Comes w event number octets
      → node_at w number ≡ Some x → (accepting ciphers x octets).answer ≡ Ok got → line_step ciphers w event ≡ Ok (v, t)
      → HeardBy ciphers w number x octets got (v, t)
  unfolding delivers injects
  line_heard event number octets x got v t (OfFlight flight n cost f at) there is e =
      let a = taken_begun ciphers w _ (v, t) e in
      let b = sym (ap (λ o. option_map_or (λ (z : Node). on_flight w flight (λ (g : Flight). Ok (comes ciphers w n z g.octets cost))) o
      (Err faults.Node)) there) ∙ a in
      let c = sym (ap (λ o. option_map_or (λ (g : Flight). if g.lost then Err faults.Flight else Ok (comes ciphers w n x g.octets cost)) o
      (Err faults.Flight)) at) ∙ b in
      by_lost f.lost c
    where
      by_lost : (lost : Bool) → (if lost then Err faults.Flight else Ok (comes ciphers w n x f.octets cost)) ≡ Ok (v, t)
          → HeardBy ciphers w n x f.octets got (v, t)
      by_lost true h = absurd (cc)
      by_lost false h = record {
        cost = cost;
        how = subst (IsHeard ciphers w n x f.octets got cost) (ok_is ciphers w _ _ (v, t) refl h)
            (comes_heard n x f.octets cost got is);
      }
  line_heard event number octets x got v t (OfScript n cost o) there is e =
      let a = taken_begun ciphers w _ (v, t) e in
      let b = sym (ap (λ k. option_map_or (λ (z : Node). Ok (comes ciphers w n z o cost)) k (Err faults.Node)) there) ∙ a in
      record { cost = cost; how = subst (IsHeard ciphers w n x o got cost) (ok_is ciphers w _ _ (v, t) refl b) (comes_heard n x o cost got is) }

-- # Every event

module _ (ciphers : Ciphers) (fits : KeepsRanges ciphers) (w : World) (ok : WorldOk w) (flown : All FlightFits w.flights) (logs : LogsKept w) (x : Entry)
    (says : IsEvent x.event) (e : line_step ciphers w x.event ≡ Ok (x.after, x.trace)) where
  pub line_admission : (number : ℕ) (octets : List ℕ) (node : Node) → Comes w x.event number octets → node_at w number ≡ Some node → (got : Accepted)
      → (accepting ciphers node octets).answer ≡ Ok got → (by : ℕ) (all : Bool) (key : Key) → got.path ≡ paths.Sealed by all key
      → Admission x.after number octets node all
  line_admission number octets node outcome_of_arrival there got is by all key path =
      let h = line_heard ciphers w x.event number octets node got x.after x.trace outcome_of_arrival there is e in
      admitted_once ciphers fits w ok flown x.event says number octets node outcome_of_arrival there got is by all key path x.after
      (heard_becomes ciphers fits w ok flown logs x.event number node octets h.cost got there says outcome_of_arrival is (x.after, x.trace) h.how)

  pub line_follow : Follows w x.after
  line_follow = subst (FollowsIn ciphers fits w ok flown) e
      (line_follows AnyUnits AnyFrame ciphers fits w ok flown x.event (line_step ciphers w x.event) (any_line ciphers fits w ok flown logs x.event says))

  pub line_okv : WorldOk x.after
  line_okv = let h : StepHolds w (Ok (x.after, x.trace)) = subst (StepHolds w) e (line_steps_hold ciphers fits w ok flown logs x.event says) in h.0.0

  module _ (given : List Issued) (k : Keyed w given) where
    on : 0 < length w.nodes → Goes ciphers fits w ok flown given k x.after
    on = subst (GoesIn ciphers fits w ok flown logs given k) e (line_goes ciphers fits w ok flown logs given k x.event says)

    later : 0 < length w.nodes → (c : Node) → node_at x.after 0 ≡ Some c → (b : books.Book) → IsBookKept b c.store.records → Grows k.book b
    later some = (on some).grows

    pub line_head_falls : (h : MacHead) → is_live x.after h ≡ true → is_live w h ≡ true
    line_head_falls = head_falls_so ciphers w ok given k x line_okv line_follow later

    pub line_passes_one : (number : ℕ) (octets : List ℕ) (node : Node) → Comes w x.event number octets → node_at w number ≡ Some node → (got : Accepted)
        → (accepting ciphers node octets).answer ≡ Ok got → (by : ℕ) (key : Key) → got.path ≡ paths.Sealed by false key
        → (is_live w (head_in octets) ≡ true) × (is_live x.after (head_in octets) ≡ false)
    line_passes_one number octets node outcome_of_arrival there got is by key path =
        passes_so ciphers w ok given k x line_okv line_follow later number octets node there
        (line_admission number octets node outcome_of_arrival there got is by false key path)

    pub line_falls : FlightsFall ciphers w x
    line_falls = falls_where ciphers w ok given k x line_okv line_follow later
        (λ number octets node outcome_of_arrival there got is by key path. line_admission number octets node outcome_of_arrival there got is by false key path)

pub line_flights_fall : LineFlightsFall
line_flights_fall ciphers fits w ok flown logs given k x says e = record {
  falls = line_falls ciphers fits w ok flown logs x says e given k;
  heads = line_head_falls ciphers fits w ok flown logs x says e given k;
  alone = λ octets key a one. line_passes_one ciphers fits w ok flown logs x says e given k a.number octets a.node a.comes a.there a.got a.is a.from key
      (a.path ∙ ap (λ all. paths.Sealed a.from all key) one);
}

pub line_nodes_accept_once : LineNodesAcceptOnce
line_nodes_accept_once ciphers fits w ok flown logs x says e octets key a =
    let one = line_admission ciphers fits w ok flown logs x says e a.number octets a.node a.comes a.there a.got a.is a.from a.to_all key a.path in
    record {
      from = one.from;
      counter = one.counter;
      head = (one.head.0, one.head.1, one.head.2, one.head.3, one.to, one.head.4);
      before = one.open_before;
      left = one.left;
      there = one.left_there;
      after = one.shut_after;
    }
