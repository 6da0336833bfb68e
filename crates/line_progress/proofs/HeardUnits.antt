-- What a node makes of a unit of a datagram: it takes it up, or sends it on.
use Rattle.std.proofs.Common.{◌≡◌, ◌≢◌, ℕ, ◌≤◌, false, List, [], ◌∷◌, Some, None, Ok, Err, refl, sym, ap, subst, ◌∙◌}
use Rattle.std.specs.Prelude.{if◌then◌else◌, nat_lt, ◌==◌}
use Rattle.std.specs.Option.{option_map, option_map_or}
use Rattle.std.proofs.lemmas.Bool.{eq-eqb, ne_eqb, le-ltb}
use Rattle.plc_base.specs.declared.key.Key.{Key}
use Rattle.plc_base.specs.Grant.{Granted}
use Rattle.frame_counters.specs.SendCounter as counters
use Rattle.mesh_header.specs.declared.unit.Mesh.{Mesh}
use Rattle.mesh_header.specs.Reader.{unit_in}
use Rattle.node_rules.specs.Accepted.{Accepted}
use Rattle.node_rules.specs.declared.heard.Path.TheVariants as paths
use Rattle.node_rules.specs.declared.heard.Heard.{Heard}
use Rattle.node_rules.specs.declared.heard.Heard.TheVariants as heard
use Rattle.node_rules.specs.declared.refusal.Dropped.TheVariants as drops
use Rattle.node_rules.specs.Ciphers.{Ciphers}
use Rattle.node_rules.specs.Coordinators as coordinator_rules
use Rattle.node_rules.specs.Drafts.{Draft, alone, choose, counters_left, empty_draft, goes, refused, sealed, sealed_by, sealed_units, sealing, sealing_key}
use Rattle.node_rules.specs.Frames.{Sent, Sealed}
use Rattle.node_rules.specs.HearingRules.{Hearing, drop_it, dropped, forward, forward_by, forwards, hear, hear_sealed, hear_unit_in}
use Rattle.node_rules.specs.HearingRules.{hop_less, is_spent}
use Rattle.node_rules.specs.Memory.{StationMemory, Memory, Node, Role, Coordinator, Meter, next_hop}
use Rattle.node_rules.specs.MemoryDrafts.{unread, with_station}
use Rattle.node_rules.specs.Meters as meters
use Rattle.node_rules.specs.NodeSteps.{NodeStep}
use Rattle.node_rules.specs.Plans.{within}
use Rattle.line_rules.specs.Answers.{Reception, station_reception, meter_reception, coordinator_reception}
use Rattle.line_rules.specs.Steps.{hearing_step, identity}
use Rattle.line_progress.proofs.WholePlans.{acted, acts_whole}
use Rattle.line_progress.proofs.Contents.{Content, unit_with, taken_up, is_heard}

-- What a station makes of a frame: this answer, these frames, and this memory.
pub record Hears (p : Hearing) (answer : Heard) (frames : List Sent) (left : StationMemory) : Type 0 where
  pub answer_is : p.answer ≡ Ok answer
  pub frames_is : p.frames ≡ frames
  pub memory_is : p.memory ≡ left

-- a counter is taken
abbrev pub sent_one : StationMemory → StationMemory
sent_one l = record l { counter = counters.reserved l.counter 1 }

module _ (l : StationMemory) (g : Granted) (ring : l.ring ≡ Some g) (from : ℕ) (key : Key) (mesh : Mesh) (content : Content) (payload : List ℕ)
    (unit : unit_in payload ≡ Some (unit_with mesh content)) (cost note now : ℕ) where
  abbrev got : Accepted
  got = record { path = paths.Sealed from false key; payload = payload }

  abbrev forwarded : Hearing
  forwarded = forward l g.address mesh (unit_with (hop_less mesh) content) note

  over : hear l got cost note now ≡ choose (mesh.to == g.address) (taken_up l content mesh.origin note now) forwarded
  over =
      (λ i. hear_unit_in l got.path (unit i) cost note now)
      ∙ (λ i. option_map_or (λ own. hear_sealed l own from false (unit_with mesh content) cost note now)
      (option_map (λ (g : Granted). g.address) (ring i)) (drop_it l drops.BadUnit))
      ∙ is_heard l g.address from mesh content cost note now

  -- at its target it is taken up
  pub is_taken_up : mesh.to ≡ g.address → hear l got cost note now ≡ taken_up l content mesh.origin note now
  unfolding choose
  is_taken_up to = over ∙ (λ i. choose (eq-eqb mesh.to g.address to i) (taken_up l content mesh.origin note now) forwarded)

  -- at another node it goes on by the next hop
  pub goes_on : mesh.to ≢ g.address → (hop : ℕ) → next_hop l mesh.to ≡ Some hop → 2 ≤ mesh.hops → nat_lt (counters_left l) 1 ≡ false
      → (k : Key) → sealing_key g ≡ Some k
      → Hears (hear l got cost note now) heard.Relayed
      (Sealed (record {
        to = hop;
        from = g.address;
        counter = l.counter.next;
        index = g.active;
        key = k;
        unit = unit_with (hop_less mesh) content;
        note = note;
      }) ∷ []) (sent_one l)
  unfolding choose sealed goes empty_draft
  goes_on away hop route left counter k keyed =
      let unit_on = unit_with (hop_less mesh) content in
      let unspent : is_spent mesh ≡ false = not_below mesh.hops left in
      let d : Draft StationMemory = goes hop unit_on note (empty_draft l) in
      let path : hear l got cost note now ≡ sealing alone dropped d heard.Relayed = over
      ∙ (λ i. choose (ne_eqb mesh.to g.address away i) (taken_up l content mesh.origin note now) forwarded)
      ∙ (λ i. forward_by l g.address mesh unit_on note (route i))
      ∙ (λ i. choose (unspent i) (drop_it l drops.HopsSpent) (forwards l hop unit_on note))
      ∙ (λ i. if counter i then refused dropped l dropped.spent else sealing alone dropped d heard.Relayed) in
      subst (λ p. Hears p heard.Relayed
      (Sealed (record {
        to = hop;
        from = g.address;
        counter = l.counter.next;
        index = g.active;
        key = k;
        unit = unit_on;
        note = note;
      }) ∷ []) (sent_one l)) (sym path) (record {
        answer_is = refl;
        memory_is = refl;
        frames_is =
            (λ i. sealed_by (ring i) l.counter.next d.units) ∙ (λ i. option_map_or (λ key. sealed_units g key l.counter.next d.units) (keyed i) []);
      })
    where
      not_below : (n : ℕ) → 2 ≤ n → nat_lt n 2 ≡ false
      not_below n h = le-ltb n 2 h

-- # Nodes

-- What a node did about a frame: this is said of it, these frames go out, and it holds this, with no loss of power to come.
pub record Does (d : NodeStep Reception) (answer : Reception) (frames : List Sent) (left : Memory) : Type 0 where
  pub answer_is : d.answer ≡ answer
  pub frames_is : d.frames ≡ frames
  pub memory_is : d.node.memory ≡ Some left
  pub spared_is : d.node.store.cut ≡ None

module _ (ciphers : Ciphers) (x : Node) (m : Memory) (runs : x.memory ≡ Some m) (spared : x.store.cut ≡ None) (got : Accepted) (cost note now : ℕ)
    (a : Heard) (frames : List Sent) (left : StationMemory) (h : Hears (hear m.station got cost note now) a frames left) (none : unread (Ok a) ≡ None) where
  as_meter : (psk : Key) → Does (hearing_step ciphers (record x { role = Meter psk }) got cost note now) (station_reception a) frames (with_station left m)
  as_meter psk =
      let p = hear m.station got cost note now in
      let own = identity ciphers x psk in
      let plan : meters.hear_meter own m got cost note now ≡ within (λ l. with_station l m) meters.heard_by_station p =
      (λ i. meters.heard_by own m now p (unread (h.answer_is i))) ∙ (λ i. meters.heard_by own m now p (none i)) in
      let y : Node = record x { role = Meter psk } in
      let did = acts_whole y m (Err drops.Store) (λ n. meters.hear_meter own n got cost note now) runs spared ∙ ap (acted y) plan in
      record {
        answer_is = ap (λ (d : NodeStep _). meter_reception d.answer) did ∙ ap (λ r. meter_reception (meters.heard_by_station r)) h.answer_is;
        frames_is = ap (λ (d : NodeStep _). d.frames) did ∙ h.frames_is;
        memory_is = ap (λ (d : NodeStep _). d.node.memory) did ∙ ap (λ (l : StationMemory). Some (with_station l m)) h.memory_is;
        spared_is = ap (λ (d : NodeStep _). d.node.store.cut) did;
      }

  as_coordinator : Does (hearing_step ciphers (record x { role = Coordinator }) got cost note now) (station_reception a) frames (with_station left m)
  as_coordinator =
      let p = hear m.station got cost note now in
      let own : coordinator_rules.CoordinatorIdentity = record { eui = x.eui; ciphers = ciphers } in
      let plan : coordinator_rules.hear_coordinator own m got cost note now ≡ within (λ l. with_station l m) coordinator_rules.heard_by_station p =
      (λ i. coordinator_rules.heard_by own m now p (unread (h.answer_is i))) ∙ (λ i. coordinator_rules.heard_by own m now p (none i)) in
      let y : Node = record x { role = Coordinator } in
      let did = acts_whole y m (Err drops.Store) (λ n. coordinator_rules.hear_coordinator own n got cost note now) runs spared ∙ ap (acted y) plan in
      record {
        answer_is =
            ap (λ (d : NodeStep _). coordinator_reception d.answer) did ∙ ap (λ r. coordinator_reception (coordinator_rules.heard_by_station r)) h.answer_is;
        frames_is = ap (λ (d : NodeStep _). d.frames) did ∙ h.frames_is;
        memory_is = ap (λ (d : NodeStep _). d.node.memory) did ∙ ap (λ (l : StationMemory). Some (with_station l m)) h.memory_is;
        spared_is = ap (λ (d : NodeStep _). d.node.store.cut) did;
      }

  pub hears_so : Does (hearing_step ciphers x got cost note now) (station_reception a) frames (with_station left m)
  hears_so = by_role x.role refl
    where
      by_role : (role : Role) → x.role ≡ role → Does (hearing_step ciphers x got cost note now) (station_reception a) frames (with_station left m)
      by_role Coordinator e =
          subst (λ r. Does (hearing_step ciphers (record x { role = r }) got cost note now) (station_reception a) frames (with_station left m)) (sym e)
          as_coordinator
      by_role (Meter psk) e =
          subst (λ r. Does (hearing_step ciphers (record x { role = r }) got cost note now) (station_reception a) frames (with_station left m)) (sym e)
          (as_meter psk)
