-- No mark of any node falls in any event, forged or not, whatever power was lost.
use Rattle.std.proofs.Common.{◌≡◌, ◌≢◌, ⊎_elim, ℕ, ◌+◌, ◌<◌, Bool, true, false, List, [], length, Option, Some, None, Result, Ok, Err, refl, sym, ap, ◌∙◌}
use Rattle.std.proofs.Common.{subst, arith}
use Rattle.std.specs.Prelude.{All, slice_get, slice_set}
use Rattle.std.specs.Option.{option_map}
use Rattle.std.proofs.lemmas.Bool.{cases_eq}
use Rattle.std.proofs.lemmas.Option.{same_Some}
use Rattle.plc_base.specs.Grant.{Granted}
use Rattle.plc_base.specs.declared.address.Eui.{Eui}
use Rattle.plc_base.specs.declared.key.Key.{Key}
use Rattle.store_tables.proofs.SlotTables.{slice_get-set, slice_get-set_other, slice_get-map, slice_get-push_other}
use Rattle.line_events.specs.declared.event.Answer.{Answer}
use Rattle.line_events.specs.declared.event.Answer.TheVariants as answers
use Rattle.line_events.specs.declared.event.Event.{Event}
use Rattle.node_rules.specs.Accepted.{Accepted}
use Rattle.node_rules.specs.declared.heard.SentHow.{SentHow}
use Rattle.node_rules.specs.declared.refusal.CoordinatorRefusal.{CoordinatorRefusal}
use Rattle.node_rules.specs.declared.refusal.CoordinatorRefusal.TheVariants as orders
use Rattle.node_rules.specs.declared.refusal.FrameRefusal.{FrameRefusal}
use Rattle.node_rules.specs.declared.refusal.FrameRefusal.TheVariants as frames
use Rattle.node_rules.specs.declared.refusal.SendRefusal.{SendRefusal}
use Rattle.node_rules.specs.declared.refusal.SendRefusal.TheVariants as sends
use Rattle.node_rules.specs.Ciphers.{Ciphers}
use Rattle.node_rules.specs.Frames.{arrived}
use Rattle.node_rules.specs.Memory.{Memory, Role, Coordinator, Meter, Node}
use Rattle.node_rules.specs.Plans.{Plan}
use Rattle.node_rules.specs.Acceptance.{accept}
use Rattle.node_rules.specs.Calls as calls
use Rattle.node_rules.specs.Meters as meters
use Rattle.node_rules.specs.Coordinators as coordinator_rules
use Rattle.node_rules.specs.MemoryDrafts.{with_station}
use Rattle.node_rules.specs.NodeSteps.{NodeStep, acts, stays, answering, changing, of_station}
use Rattle.line_rules.specs.Answers.{sent_word}
use Rattle.line_events.specs.Events.{IsEvent}
use Rattle.line_rules.specs.Forgery.{Comes, accepting}
use Rattle.line_rules.specs.Runs.{Entry}
use Rattle.line_rules.specs.Worlds.{World, node_at}
use Rattle.line_rules.specs.Steps.{Step, set_up, running_world, world_after, node_outcome, sending, sent_if, is_taken, tag_of, hearing_step, offered_near}
use Rattle.line_rules.specs.Steps.{note_by, identity, psk_of}
use Rattle.line_rules.specs.Steps.{restarts}
use Rattle.line_rules.specs.Steps.{ticked, step}
use Rattle.line_laws.specs.Live.{marks_of, MarksRise}
use Rattle.line_laws.specs.Stores.{IsReadable, IsKept, HasEui, IsPair}
use Rattle.line_laws.specs.Sizes.{IsMemorySized}
use Rattle.line_laws.specs.Owed.{KeepsRanges}
use Rattle.line_laws.proofs.MarkOrder.{Raised, raised_same, raised_trans, raised_admits}
use Rattle.line_laws.proofs.Nodes.{PlanOk, NodeOk, DidFits, DidOk, acts_fits, acts_ok, ring_readable, node_kept}
use Rattle.line_laws.proofs.NodeCalls.{RoutesFit, random_ok, join_ok, leave_ok, send_ok, near_ok, counter_ok, number_ok, broke_ok, provision_ok}
use Rattle.line_laws.proofs.CoordinatorCalls.{accept_ok, accept_failed, accepted_routes, allow_ok, depot_ok, depot_failed, rekey_ok, activate_self_ok}
use Rattle.line_laws.proofs.CoordinatorCalls.{challenge_ok, activate_ok, kick_ok}
use Rattle.line_laws.proofs.StorableGrants.{held}
use Rattle.line_laws.proofs.StoreMarks.{accept_is}
use Rattle.line_laws.proofs.Answered.{acts_answered, depot_grants}
use Rattle.line_laws.proofs.Worlds.{NodeFits, FlightFits, WorldOk, within as place_within, at_place}
use Rattle.line_laws.proofs.StepsOk.{hears_ok}
use Rattle.line_laws.proofs.NodesOk.{coordinator_acts, restarts_ok}
use Rattle.line_laws.proofs.FlightFolds.{address_low, came_octets}
use Rattle.line_laws.proofs.OctetRuns.{psk_role}
use Rattle.line_laws.proofs.StepKinds.{IsCall, Gives, Joins, Leaves, Sends, Breaks, Nears, Counts, Numbers, Accepts, Provisions, Depots, Allows, Rekeys, Turns}
use Rattle.line_laws.proofs.StepKinds.{Challenges, Activates, Kicks, workshop, preset_call, IsStep, Fails, Makes, Rests, Shows, Acts, BreaksLink, SendsFrom}
use Rattle.line_laws.proofs.StepKinds.{AllowsMeter, Sets, SetsTwo, Provides, TurnsDown, Hears, Loses, Ticks, Restarts, Cuts, step_is}

-- # Nodes

-- What a node did to its marks.
pub record DidMark (x : Node) {A : Type 0} (d : NodeStep A) : Type 0 where
  pub role : d.node.role ≡ x.role
  pub eui : d.node.eui ≡ x.eui
  pub raised : Raised (marks_of x) (marks_of d.node)

pub of_did : {A : Type 0} (x : Node) (d : NodeStep A) → DidOk x d → DidMark x d
of_did x d did = record { role = did.role; eui = did.eui; raised = did.marked }

of_fits : {A : Type 0} (x : Node) (d : NodeStep A) → DidFits x d → DidMark x d
of_fits x d did = record { role = did.role; eui = did.eui; raised = did.marked }

-- # Worlds

-- A node of a number is there, with the same role and EUI and no lower mark.
pub record Later (v : World) (number : ℕ) (x : Node) : Type 0 where
  pub node : Node
  pub there : node_at v number ≡ Some node
  pub role : node.role ≡ x.role
  pub eui : node.eui ≡ x.eui
  pub raised : Raised (marks_of x) (marks_of node)

pub record Follows (w v : World) : Type 0 where
  pub at : (number : ℕ) (x : Node) → node_at w number ≡ Some x → Later v number x

pub same_follows : (w v : World) → v.nodes ≡ w.nodes → Follows w v
same_follows w v e =
    record { at = λ n x there. record { node = x; there = ap (λ ns. slice_get ns n) e ∙ there; role = refl; eui = refl; raised = raised_same (marks_of x) } }

pub after_follows : {A : Type 0} (w u v : World) (number : ℕ) (x : Node) (d : NodeStep A) → Follows w u → node_at u number ≡ Some x
    → v.nodes ≡ slice_set u.nodes number d.node → DidMark x d → Follows w v
after_follows w u v number x d f there nodes did = record { at = at }
  where
    here : node_at v number ≡ Some d.node
    here = ap (λ ns. slice_get ns number) nodes ∙ slice_get-set u.nodes number d.node (place_within u.nodes number x there)

    other : (n : ℕ) → n ≢ number → node_at v n ≡ node_at u n
    other n ne = ap (λ ns. slice_get ns n) nodes ∙ slice_get-set_other u.nodes number n d.node ne

    at : (n : ℕ) (y : Node) → node_at w n ≡ Some y → Later v n y
    at n y old =
        let l = f.at n y old in
        ⊎_elim
        (λ (e : n ≡ number).
        let same : l.node ≡ x = same_Some _ _ (sym l.there ∙ ap (node_at u) e ∙ there) in
        record {
          node = d.node;
          there = ap (node_at v) e ∙ here;
          role = did.role ∙ ap (λ (z : Node). z.role) (sym same) ∙ l.role;
          eui = did.eui ∙ ap (λ (z : Node). z.eui) (sym same) ∙ l.eui;
          raised = raised_trans (marks_of y) (marks_of l.node) (marks_of d.node) l.raised
              (subst (λ (z : Node). Raised (marks_of z) (marks_of d.node)) (sym same) did.raised);
        })
        (λ (ne : n ≢ number). record { node = l.node; there = other n ne ∙ l.there; role = l.role; eui = l.eui; raised = l.raised })
        (cases_eq n number)

pub after_nodes : {A : Type 0} (ciphers : Ciphers) (u : World) (number : ℕ) (d : NodeStep A)
    → (world_after ciphers u number d).nodes ≡ slice_set u.nodes number d.node
unfolding world_after
after_nodes ciphers u number d = refl

-- time
ticked_raised : (now : ℕ) (x : Node) → (Raised (marks_of x) (marks_of (ticked now x))) × ((ticked now x).role ≡ x.role) × ((ticked now x).eui ≡ x.eui)
ticked_raised now x = by_role x.role x.memory
  where
    by_role : (role : Role) (o : Option Memory) → let y : Node = record { role = role; eui = x.eui; store = x.store; memory = o } in
        (Raised (marks_of y) (marks_of (ticked now y))) × ((ticked now y).role ≡ y.role) × ((ticked now y).eui ≡ y.eui)
    by_role Coordinator None = (raised_same _, refl, refl)
    by_role (Meter psk) None = (raised_same _, refl, refl)
    by_role Coordinator (Some m) = (raised_same m.station.marks, refl, refl)
    by_role (Meter psk) (Some m) = (raised_same m.station.marks, refl, refl)

module _ (ciphers : Ciphers) (fits : KeepsRanges ciphers) (w : World) (ok : WorldOk w) (flown : All FlightFits w.flights) where
  good_at : (number : ℕ) (x : Node) → node_at w number ≡ Some x → NodeOk x
  good_at number x there = at_place NodeOk w.nodes number x there ok.nodes

  given_at : (number : ℕ) (x : Node) → node_at w number ≡ Some x → NodeFits x
  given_at number x there = at_place NodeFits w.nodes number x there ok.fits

  pair_at : (number : ℕ) (x : Node) (psk : Key) → node_at w number ≡ Some x → psk_of x ≡ Some psk → IsPair psk
  pair_at number x psk there pair = (given_at number x there).psk psk (psk_role x psk pair)

  abbrev own_of : Node → coordinator_rules.CoordinatorIdentity
  own_of c = record { eui = c.eui; ciphers = ciphers }

  first_at : (c : Node) → node_at w 0 ≡ Some c → c.role ≡ Coordinator
  first_at c there = ok.first c there

  -- what the workshop grants is read back
  workshop_grants : (c : Node) (eui : Eui) (psk : Key) (g : Granted) → node_at w 0 ≡ Some c → HasEui eui → IsPair psk → (workshop c eui psk).answer ≡ Ok g
      → IsReadable g
  workshop_grants c eui psk g there known pair e =
      let a = acts_answered c orders.Halted orders.Store (λ m. coordinator_rules.depot m eui psk)
      (λ m. depot_failed ciphers fits (own_of c) m eui psk known pair) g e in
      let kept : IsKept c.role a.memory c.store.records = node_kept c a.memory (good_at 0 c there) a.there in
      let k : IsKept Coordinator a.memory c.store.records = subst (λ role. IsKept role a.memory c.store.records) (first_at c there) kept in
      depot_grants a.memory eui psk g k.station.range.ring k.book.table.short a.is

  -- # Calls

  order_marks : {A : Type 0} (number : ℕ) (x : Node) (plan : Memory → Plan Memory (Result A CoordinatorRefusal)) → number ≡ 0 → node_at w number ≡ Some x
      → ((m : Memory) → IsMemorySized m → PlanOk Coordinator m (plan m)) → DidMark x (acts x (Err orders.Halted) plan)
  order_marks number x plan first there f =
      of_did x _ (coordinator_acts x (Err orders.Halted) plan (first_at x (ap (slice_get w.nodes) (sym first) ∙ there)) (good_at number x there) f)

  call_marks : (number : ℕ) (x : Node) (A : Type 0) (halted : A) (plan : Memory → Plan Memory A) → node_at w number ≡ Some x
      → IsCall ciphers w number x A halted plan → DidMark x (acts x halted plan)
  call_marks number x A halted plan there (Gives value are) =
      of_did x _ (acts_ok x _ _ (good_at number x there) (λ m here kept sized. random_ok x.role m sized value))
  call_marks number x A halted plan there (Joins psk a ne pair other) =
      of_did x _ (acts_ok x _ _ (good_at number x there) (λ m here kept sized. join_ok x.role m sized ciphers fits (identity ciphers x psk) refl a w.clock))
  call_marks number x A halted plan there (Leaves ne) = of_did x _
      (acts_ok x _ _ (good_at number x there) (λ m here kept sized. leave_ok x.role m sized ciphers fits (identity ciphers x (record { 0 = [] })) refl))
  call_marks number x A halted plan there (Sends a datagram other are) =
      of_did x _ (acts_ok x _ _ (good_at number x there) (λ m here kept sized. send_ok x.role m sized a datagram (w.sends + 1) w.clock))
  call_marks number x A halted plan there (Breaks a other) =
      of_did x _ (acts_ok x _ _ (good_at number x there) (λ m here kept sized. broke_ok x.role m sized a answers.Broken))
  call_marks number x A halted plan there (Nears a cost open_is other low) =
      let small : a < 0xFFFE = address_low other.node a (good_at other.number other.node other.there) other.address in
      of_did x _ (acts_ok x _ _ (good_at number x there) (λ m here kept sized. near_ok x.role m sized a cost w.clock small (omega arith)))
  call_marks number x A halted plan there (Counts value open_is low) =
      of_fits x _ (acts_fits x _ _ (good_at number x there) (λ m here kept sized. counter_ok x.role m sized value low))
  call_marks number x A halted plan there (Numbers value open_is some low) =
      of_fits x _ (acts_fits x _ _ (good_at number x there) (λ m here kept sized. number_ok x.role m sized value some low))
  call_marks number x A halted plan there (Accepts octets event says comes) =
      of_did x _ (acts_ok x _ _ (good_at number x there)
      (λ m here kept sized. accept_ok ciphers fits octets (came_octets ciphers fits w ok flown event number octets says comes) x.role m x.eui sized))
  call_marks number x A halted plan there (Provisions psk c g ne pair at is) =
      let reads = workshop_grants c x.eui psk g at (given_at number x there).eui (pair_at number x psk there pair) is in
      of_did x _ (acts_ok x _ _ (good_at number x there) (λ m here kept sized. provision_ok x.role m sized g reads))
  call_marks number x A halted plan there (Depots meter y psk first open_is at pair) = order_marks number x _ first there
      (λ m sized. depot_ok ciphers fits (own_of x) m sized y.eui psk (given_at meter y at.there).eui (pair_at meter y psk at.there pair))
  call_marks number x A halted plan there (Allows meter y psk first at pair) = order_marks number x _ first there
      (λ m sized. allow_ok ciphers fits (own_of x) m sized y.eui psk (given_at meter y at.there).eui (pair_at meter y psk at.there pair))
  call_marks number x A halted plan there (Rekeys index key first low long) =
      order_marks number x _ first there (λ m sized. rekey_ok ciphers fits (own_of x) m sized index key (held key long.0 long.1))
  call_marks number x A halted plan there (Turns index first low) =
      order_marks number x _ first there (λ m sized. activate_self_ok ciphers fits (own_of x) m sized index low)
  call_marks number x A halted plan there (Challenges meter y first at) =
      order_marks number x _ first there (λ m sized. challenge_ok ciphers fits (own_of x) m sized y.eui w.clock (given_at meter y at.there).eui)
  call_marks number x A halted plan there (Activates meter y index first at low) =
      order_marks number x _ first there (λ m sized. activate_ok ciphers fits (own_of x) m sized y.eui index w.clock)
  call_marks number x A halted plan there (Kicks meter y first at) =
      order_marks number x _ first there (λ m sized. kick_ok ciphers fits (own_of x) m sized y.eui (given_at meter y at.there).eui)

  -- # What comes

  -- what became of octets that a node accepted
  pub heard_marks : (event : Event) (number : ℕ) (x : Node) (octets : List ℕ) (cost : ℕ) (got : Accepted) → node_at w number ≡ Some x → IsEvent event
      → Comes w event number octets → (accepting ciphers x octets).answer ≡ Ok got
      → DidMark x (accepting ciphers x octets)
      × DidMark (accepting ciphers x octets).node (hearing_step ciphers (accepting ciphers x octets).node got cost (note_by w octets got.path) w.clock)
  heard_marks event number x octets cost got there says comes is =
      let are = came_octets ciphers fits w ok flown event number octets says comes in
      let plan : Memory → Plan Memory (Result Accepted FrameRefusal) = λ m. of_station m (accept m.station x.eui (arrived ciphers octets)) in
      let did = acts_ok x (Err frames.Halted) plan (good_at number x there) (λ m here kept sized. accept_ok ciphers fits octets are x.role m x.eui sized) in
      let a = acts_answered x frames.Halted frames.Store plan
      (λ m. accept_failed ciphers fits octets are m.station _ (accept_is m.station x.eui (arrived ciphers octets))) got is in
      let routes : RoutesFit got = accepted_routes ciphers fits octets are a.memory.station (ring_readable x a.memory (good_at number x there) a.there) _ got
      (accept_is a.memory.station x.eui (arrived ciphers octets)) a.is in
      let y = (accepting ciphers x octets).node in
      (of_did x _ did, of_did y _ (hears_ok ciphers fits w ok flown y got cost (note_by w octets got.path) w.clock did.node routes))

  both_marks : (x : Node) {A B : Type 0} (d : NodeStep A) (e : NodeStep B) → DidMark x d → DidMark d.node e → DidMark x e
  both_marks x d e f g =
      record { role = g.role ∙ f.role; eui = g.eui ∙ f.eui; raised = raised_trans (marks_of x) (marks_of d.node) (marks_of e.node) f.raised g.raised }

  answered : {A B : Type 0} (x : Node) (reads : A → B) (d : NodeStep A) → DidMark x d → DidMark x (answering reads d)
  answered x reads d f = record { role = f.role; eui = f.eui; raised = f.raised }

  -- # Events

  abbrev pub FollowsIn : Step → Type 0
  FollowsIn (Ok r) = Follows w r.0
  FollowsIn (Err fault) = Unit {0}

  -- one node, of a world with the same nodes
  one_follows : {A : Type 0} (u v : World) (number : ℕ) (x : Node) (d : NodeStep A) → u.nodes ≡ w.nodes → v.nodes ≡ slice_set u.nodes number d.node
      → node_at w number ≡ Some x → DidMark x d → Follows w v
  one_follows u v number x d e nodes there did = after_follows w u v number x d (same_follows w u e) (ap (λ ns. slice_get ns number) e ∙ there) nodes did

  sent_nodes : (from to : ℕ) (datagram : List ℕ) (tag : ℕ) (d : NodeStep Answer)
      → (sending ciphers w from to datagram tag d).0.nodes ≡ slice_set w.nodes from d.node
  sent_nodes from to datagram tag d = by_taken (is_taken d.answer)
    where
      by_taken : (b : Bool) → (sent_if w from to datagram tag b (node_outcome ciphers w from d)).0.nodes ≡ slice_set w.nodes from d.node
      by_taken true = after_nodes ciphers (running_world w) from d
      by_taken false = after_nodes ciphers (running_world w) from d

  pub follows : (event : Event) (s : Step) → IsStep ciphers w event s → FollowsIn s
  follows event s (Fails e fault) = tt
  follows event s (Makes e x is) = record {
    at = λ n y there.
        let lt = place_within w.nodes n y there in
        record {
          node = y;
          there = slice_get-push_other w.nodes n x (λ (z : n ≡ length w.nodes). omega arith) ∙ there;
          role = refl;
          eui = refl;
          raised = raised_same (marks_of y);
        };
  }
  follows event s (Rests e quiet) = same_follows w (running_world w) refl
  follows event s (Shows number x) = same_follows w (running_world w) refl
  follows event s (Acts e number x A halted plan reads there call word asked) =
      one_follows (running_world w) _ number x (answering reads (acts x halted plan)) refl
      (after_nodes ciphers (running_world w) number (answering reads (acts x halted plan)))
      there (answered x reads _ (call_marks number x A halted plan there call))
  follows event s (BreaksLink number next x a there call) =
      let plan : Memory → Plan Memory Answer = λ m. changing answers.Broken (with_station (calls.broke a m.station) m) in
      one_follows (running_world w) _ number x (acts x answers.Halted plan) refl (after_nodes ciphers (running_world w) number (acts x answers.Halted plan))
      there
      (call_marks number x Answer answers.Halted plan there call)
  follows event s (SendsFrom from to datagram x a there call asked) =
      let plan : Memory → Plan Memory (Result SentHow SendRefusal) = λ m. of_station m (calls.send m.station a datagram (w.sends + 1) w.clock) in
      let d = answering sent_word (acts x (Err sends.Halted) plan) in
      one_follows w _ from x d refl (sent_nodes from to datagram (tag_of x) d) there
      (answered x sent_word _ (call_marks from x _ (Err sends.Halted) plan there call))
  follows event s (AllowsMeter number y c psk there call meter) =
      let plan : Memory → Plan Memory (Result ℕ CoordinatorRefusal) = λ m. coordinator_rules.allow m y.eui psk in
      one_follows (running_world w) _ 0 c (acts c (Err orders.Halted) plan) refl (after_nodes ciphers (running_world w) 0 (acts c (Err orders.Halted) plan))
      there
      (call_marks 0 c _ (Err orders.Halted) plan there call)
  follows event s (Sets e quiet number x plan there open_is is) =
      one_follows (set_up w) _ number x (acts x (Ok tt) (λ m. of_station m (plan m.station))) refl
      (after_nodes ciphers (set_up w) number (acts x (Ok tt) (λ m. of_station m (plan m.station)))) there
      (call_marks number x _ (Ok tt) (λ m. of_station m (plan m.station)) there (preset_call ciphers w number x plan open_is is))
  follows event s (SetsTwo e quiet a b cost x y p q hx hy apart open_is first second fresh low) =
      let d = offered_near x q cost w.clock in
      let k = offered_near y p cost w.clock in
      let u = world_after ciphers (set_up w) a d in
      let one : Follows w u = one_follows (set_up w) u a x d refl (after_nodes ciphers (set_up w) a d) hx
      (answered x (λ _. tt) _ (call_marks a x _ (Ok tt) (λ m. of_station m (calls.preset_near m.station q cost w.clock)) hx first)) in
      let there : node_at u b ≡ Some y = ap (λ ns. slice_get ns b) (after_nodes ciphers (set_up w) a d) ∙ slice_get-set_other w.nodes a b d.node apart ∙ hy in
      after_follows w u _ b y k one there (after_nodes ciphers u b k)
      (answered y (λ _. tt) _ (call_marks b y _ (Ok tt) (λ m. of_station m (calls.preset_near m.station p cost w.clock)) hy second))
  follows event s (Provides number x c psk g d ne open_is hx hc pair same is) =
      let plan : Memory → Plan Memory (Result Granted CoordinatorRefusal) = λ m. coordinator_rules.depot m x.eui psk in
      let did : DidMark c d = subst (λ (z : NodeStep (Result Granted CoordinatorRefusal)). DidMark c z) (sym same)
      (order_marks 0 c plan refl hc (λ m sized. depot_ok ciphers fits (own_of c) m sized x.eui psk (given_at number x hx).eui
      (pair_at number x psk hx pair))) in
      let u = world_after ciphers (set_up w) 0 d in
      let k = acts x (Ok tt) (λ m. meters.provision m g) in
      let answer : (workshop c x.eui psk).answer ≡ Ok g = ap (λ (z : NodeStep (Result Granted CoordinatorRefusal)). z.answer) (sym same) ∙ is in
      let one : Follows w u = one_follows (set_up w) u 0 c d refl (after_nodes ciphers (set_up w) 0 d) hc did in
      let there : node_at u number ≡ Some x = ap (λ ns. slice_get ns number) (after_nodes ciphers (set_up w) 0 d)
      ∙ slice_get-set_other w.nodes 0 number d.node ne ∙ hx in
      after_follows w u _ number x k one there (after_nodes ciphers u number k)
      (call_marks number x _ (Ok tt) (λ m. meters.provision m g) hx (Provisions psk c g ne pair hc answer))
  follows event s (TurnsDown e number x octets reason d there says comes same is) =
      let kind : IsCall ciphers w number x _ (Err frames.Halted) (λ m. of_station m (accept m.station x.eui (arrived ciphers octets))) = Accepts octets e says
      comes in
      let did : DidMark x d = subst (λ (z : NodeStep (Result Accepted FrameRefusal)). DidMark x z) (sym same)
      (call_marks number x _ (Err frames.Halted) (λ m. of_station m (accept m.station x.eui (arrived ciphers octets))) there kind) in
      one_follows (running_world w) _ number x d refl (after_nodes ciphers (running_world w) number d) there did
  follows event s (Hears e number x octets cost got there says comes low is) =
      let a = accepting ciphers x octets in
      let d = hearing_step ciphers a.node got cost (note_by w octets got.path) w.clock in
      let h = heard_marks e number x octets cost got there says comes is in
      one_follows (running_world w) _ number x d refl (after_nodes ciphers (running_world w) number d) there (both_marks x a d h.0 h.1)
  follows event s (Loses number f there) = same_follows w _ refl
  follows event s (Ticks seconds) = record {
    at = λ n y there.
        let t = ticked_raised (w.clock + seconds) y in
        record {
          node = ticked (w.clock + seconds) y;
          there = slice_get-map (ticked (w.clock + seconds)) w.nodes n ∙ ap (option_map (ticked (w.clock + seconds))) there;
          role = t.1;
          eui = t.2;
          raised = t.0;
        };
  }
  follows event s (Restarts number x there) =
      one_follows (running_world w) _ number x (restarts x) refl (after_nodes ciphers (running_world w) number (restarts x)) there
      (of_did x _ (restarts_ok x (good_at number x there)))
  follows event s (Cuts number nth keeps_new x there) =
      let d : NodeStep Answer = stays (record x { store = record x.store { cut = Some (record { nth = nth; keeps_new = keeps_new }) } }) answers.Set in
      one_follows (running_world w) _ number x d refl (after_nodes ciphers (running_world w) number d) there
      (record { role = refl; eui = refl; raised = raised_same (marks_of x) })

-- # Runs

pub marks_rise : (w v : World) → Follows w v → MarksRise w v
marks_rise w v f = record {
  later = λ number x there.
      let l = f.at number x there in
      record { node = l.node; there = l.there; role = l.role; eui = l.eui; marks = raised_admits (marks_of x) (marks_of l.node) l.raised };
}

pub entry_follows : (ciphers : Ciphers) (fits : KeepsRanges ciphers) (w : World) (ok : WorldOk w) (flown : All FlightFits w.flights) (x : Entry)
    → IsEvent x.event → step ciphers w x.event ≡ Ok (x.after, x.trace) → Follows w x.after
entry_follows ciphers fits w ok flown x says e =
    subst (FollowsIn ciphers fits w ok flown) e (follows ciphers fits w ok flown x.event (step ciphers w x.event) (step_is ciphers w x.event says))
