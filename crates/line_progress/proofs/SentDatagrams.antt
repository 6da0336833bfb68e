-- A node sends a datagram by a valid route: whole, or in pieces.
use Rattle.std.proofs.Common.{◌≡◌, ◌≢◌, ℕ, ◌+◌, ◌<◌, ◌≤◌, true, false, List, [], ◌∷◌, ◌++◌, length, map, Some, None, Result, Ok, Err, refl, sym}
use Rattle.std.proofs.Common.{ap, subst, ◌∙◌, arith}
use Rattle.std.specs.Prelude.{if◌then◌else◌, nat_lt, nat_le, is_some, slice_set, ◌==◌, ◌||◌}
use Rattle.std.specs.Option.{option_map, option_map_or}
use Rattle.std.proofs.lemmas.Bool.{ne_eqb, le-ltb, lt-ltb}
use Rattle.plc_base.specs.Faults.{◌then◌, ◌when◌}
use Rattle.plc_base.specs.declared.key.Key.{Key}
use Rattle.plc_base.specs.Grant.{Granted}
use Rattle.plc_base.specs.Keeper.{Write}
use Rattle.mesh_header.specs.declared.unit.Unit.{Unit as MeshUnit}
use Rattle.fragment_buffers.specs.Loads.{all_go, units_of}
use Rattle.node_rules.specs.declared.heard.SentHow.{SentHow}
use Rattle.node_rules.specs.declared.heard.SentHow.TheVariants as how_of
use Rattle.node_rules.specs.declared.refusal.SendRefusal.{SendRefusal}
use Rattle.node_rules.specs.declared.refusal.SendRefusal.TheVariants as refusals
use Rattle.node_rules.specs.Acceptance.{is_own}
use Rattle.node_rules.specs.Calls.{Sending, how, lacking, send, send_fault, send_from, sending_ends, tag_taken}
use Rattle.node_rules.specs.Ciphers.{Ciphers}
use Rattle.node_rules.specs.Drafts.{Draft, OfRoom, OfNumbers, alone, body_goes, checked, counted, counters_left, empty_draft, is_awaited, lack, no_room}
use Rattle.node_rules.specs.Drafts.{tag_after, tag_write}
use Rattle.node_rules.specs.Drafts.{numbers_spent}
use Rattle.node_rules.specs.Drafts.{refused, sealed, sealed_by, sealed_units, sealing, sealing_key, sets_out, with_next_tag}
use Rattle.node_rules.specs.Frames.{Sent, spelled}
use Rattle.node_rules.specs.Memory.{StationMemory, Memory, Node, Datagram, next_hop, node_address}
use Rattle.node_rules.specs.MemoryDrafts.{with_station}
use Rattle.node_rules.specs.NodeSteps.{NodeStep, acts, answering, of_station}
use Rattle.line_events.specs.declared.event.Answer.{Answer}
use Rattle.line_events.specs.declared.event.Event.TheVariants as events
use Rattle.line_events.specs.declared.event.StepFault.TheVariants as faults
use Rattle.line_rules.specs.Answers.{sent_word}
use Rattle.line_rules.specs.Further.{line_step}
use Rattle.line_rules.specs.Steps as steps
use Rattle.line_rules.specs.Steps.{flight_by, has_begun, is_taken, node_outcome, on_node, sending, sends_by, sent_if, tag_of, world_after}
use Rattle.line_rules.specs.Worlds.{World, Trace, node_at}
use Rattle.line_progress.proofs.WholePlans.{acts_whole}
use Rattle.line_progress.proofs.Acceptance.{own_is}
use Rattle.line_progress.proofs.Deliveries.{within}

-- What a station does about a datagram: it says this, these frames go out, and it holds this.
pub record SendsIt (p : Sending) (how : SentHow) (frames : List Sent) (left : StationMemory) : Type 0 where
  pub answer_is : p.answer ≡ Ok how
  pub frames_is : p.frames ≡ frames
  pub memory_is : p.memory ≡ left

-- the draft of a datagram before its units, with the tag that is then the next one
abbrev pub begun_with : StationMemory → List Write → ℕ → Draft StationMemory
begun_with l puts tag = record {
  puts = puts;
  memory = record l { next_tag = tag };
  units = [];
  plain = [];
  made = [];
  opened = [];
}

-- a datagram that goes whole takes no tag
pub takes_none : (l : StationMemory) (datagram : List ℕ) → nat_le (length datagram) 375 ≡ true
    → tag_taken datagram (empty_draft l) ≡ begun_with l [] l.next_tag
unfolding empty_draft
takes_none l datagram small = λ i. if small i then empty_draft l else with_next_tag (empty_draft l)

-- one in pieces takes the next one
pub takes_next : (l : StationMemory) (datagram : List ℕ) → nat_le (length datagram) 375 ≡ false
    → tag_taken datagram (empty_draft l) ≡ begun_with l (tag_write l.next_tag ∷ []) (tag_after l.next_tag)
unfolding empty_draft with_next_tag
takes_next l datagram long = λ i. if long i then empty_draft l else with_next_tag (empty_draft l)

-- A datagram of these units, and what stands before them in its draft.
pub record IsCut (l : StationMemory) (own dest : ℕ) (datagram : List ℕ) (puts : List Write) (tag : ℕ) (us : List MeshUnit) : Type 0 where
  pub begun : tag_taken datagram (empty_draft l) ≡ begun_with l puts tag
  pub units : units_of own dest (Datagram datagram l.next_tag) ≡ us

module _ (l : StationMemory) (g : Granted) (ring : l.ring ≡ Some g) (dest hop : ℕ) (away : g.address ≢ dest) (route : next_hop l dest ≡ Some hop)
    (k : Key) (keyed : sealing_key g ≡ Some k) (datagram : List ℕ) (some : 0 < length datagram) (few : length datagram ≤ 1280) (note now : ℕ)
    (puts : List Write) (tag : ℕ) (us : List MeshUnit) (cut : IsCut l g.address dest datagram puts tag us)
    (left : nat_lt (counters_left l) (length (all_go hop note us)) ≡ false) where
  abbrev begun : Draft StationMemory
  begun = begun_with l puts tag

  route_then : next_hop begun.memory dest ≡ Some hop
  unfolding next_hop
  route_then = route

  sets : sets_out g.address dest note (Datagram datagram l.next_tag) now begun ≡ body_goes g.address hop dest note (Datagram datagram l.next_tag) begun
  sets = rw route_then refl

  none_lacks : lack l dest (length datagram) ≡ None
  unfolding lack
  none_lacks =
      λ i. if is_some (route i) then None
      else (Some OfRoom when no_room l (length datagram)
      then Some OfNumbers when (if is_awaited l dest then false else numbers_spent l))

  no_fault : send_fault l dest datagram ≡ None
  no_fault =
      let n : ℕ = length datagram in
      let zero_not : (n == 0) ≡ false = ne_eqb n 0 (λ e. absurd (omega arith)) in
      let big_not : nat_lt 1280 n ≡ false = le-ltb 1280 n few in
      let own_not : is_own l dest ≡ false = own_is l g ring dest ∙ ne_eqb g.address dest away in
      λ i. Some refusals.BadSize when (zero_not i || big_not i)
      then Some refusals.ToSelf when own_not i
      then option_map lacking (none_lacks i)

  -- the draft with its units
  abbrev drafted : Draft StationMemory
  drafted = record begun { units = all_go hop note us }

  body_is : body_goes g.address hop dest note (Datagram datagram l.next_tag) begun ≡ drafted
  unfolding body_goes
  body_is = λ i. record begun { units = all_go hop note (cut.units i) }

  -- what is left of the station
  abbrev pub left_with : StationMemory
  left_with = counted alone (length drafted.units) drafted.memory

  plan_is : send l dest datagram note now ≡ sealing alone sending_ends drafted how_of.Sent
  unfolding checked sealed
  plan_is =
      (λ i. option_map_or (λ own. send_from l own dest datagram note now) (option_map (λ (g : Granted). g.address) (ring i))
      (refused sending_ends l refusals.NotJoined))
      ∙ (λ i. checked sending_ends l (no_fault i)
      (sealed alone sending_ends l (sets_out g.address dest note (Datagram datagram l.next_tag) now (tag_taken datagram (empty_draft l))) (how l dest)))
      ∙ (λ i. sealed alone sending_ends l (sets_out g.address dest note (Datagram datagram l.next_tag) now (cut.begun i)) (how l dest))
      ∙ (λ i. sealed alone sending_ends l (sets i) (how l dest))
      ∙ (λ i. sealed alone sending_ends l (body_is i) (how l dest))
      ∙ (λ i. if left i then refused sending_ends l sending_ends.spent else sealing alone sending_ends drafted (how l dest))
      ∙ (λ i. sealing alone sending_ends drafted (if is_some (route i) then how_of.Sent else how_of.Waiting))

  pub sends_it : SendsIt (send l dest datagram note now) how_of.Sent (sealed_units g k l.counter.next (all_go hop note us)) left_with
  sends_it = record {
    answer_is = ap (λ (p : Sending). p.answer) plan_is;
    memory_is = ap (λ (p : Sending). p.memory) plan_is;
    frames_is =
        ap (λ (p : Sending). p.frames) plan_is
        ∙ (λ i. sealed_by (ring i) l.counter.next drafted.units)
        ∙ (λ i. option_map_or (λ key. sealed_units g key l.counter.next drafted.units) (keyed i) []);
  }

-- # In the world

-- The datagram was taken with this answer: the frames fly, and the node holds this.
pub record Leaves (ciphers : Ciphers) (w : World) (number : ℕ) (word : Answer) (frames : List Sent) (left : Memory) (r : World × Trace) : Type 0 where
  pub node : Node
  pub memory : node.memory ≡ Some left
  pub spared : node.store.cut ≡ None
  pub nodes : r.0.nodes ≡ slice_set w.nodes number node
  pub flights : r.0.flights ≡ w.flights ++ map (λ (frame : Sent). flight_by number (spelled ciphers frame)) frames
  pub events : r.0.events ≡ w.events + 1
  pub clock : r.0.clock ≡ w.clock
  pub checks : r.0.checks_on ≡ w.checks_on
  pub answer_is : r.1.happenings.answer ≡ word
  pub up_is : r.1.happenings.up ≡ None

module _ (ciphers : Ciphers) (w : World) (from to : ℕ) (datagram : List ℕ) where
  leaves : (tag : ℕ) (d : NodeStep Answer) (word : Answer) (frames : List Sent) (left : Memory) → is_taken word ≡ true → d.answer ≡ word
      → d.frames ≡ frames → d.node.memory ≡ Some left → d.node.store.cut ≡ None
      → Leaves ciphers w from word frames left (sending ciphers w from to datagram tag d)
  unfolding world_after
  leaves tag d word frames left taken a f m c =
      subst (λ b. Leaves ciphers w from word frames left (sent_if w from to datagram tag b (node_outcome ciphers w from d)))
      (sym (ap is_taken a ∙ taken)) (record {
        node = d.node;
        memory = m;
        spared = c;
        nodes = refl;
        flights = ap (λ (fs : List Sent). w.flights ++ map (λ (frame : Sent). flight_by from (spelled ciphers frame)) fs) f;
        events = refl;
        clock = refl;
        checks = refl;
        answer_is = a;
        up_is = refl;
      })

  module _ (x y : Node) (dest : ℕ) (there : node_at w from ≡ Some x) (target : node_at w to ≡ Some y) (address : node_address y ≡ Some dest) where
    pub steps_so : line_step ciphers w (events.Send from to datagram) ≡ Ok (sends_by ciphers w from to datagram x (Some dest))
    unfolding steps.send
    steps_so =
        let begun : has_begun w ≡ true = lt-ltb 0 (length w.nodes) (within w.nodes from x there) in
        (λ i. if begun i then on_node w from (λ a. on_node w to (λ b. Ok (sends_by ciphers w from to datagram a (node_address b))))
        else Err faults.Setup)
        ∙ (λ i. option_map_or (λ a. on_node w to (λ b. Ok (sends_by ciphers w from to datagram a (node_address b)))) (there i) (Err faults.Node))
        ∙ (λ i. option_map_or (λ b. Ok (sends_by ciphers w from to datagram x (node_address b))) (target i) (Err faults.Node))
        ∙ (λ i. Ok (sends_by ciphers w from to datagram x (address i)))

    pub it_leaves : (m : Memory) → x.memory ≡ Some m → x.store.cut ≡ None → (how : SentHow) (frames : List Sent) (left : StationMemory)
        → is_taken (sent_word (Ok how)) ≡ true
        → SendsIt (send m.station dest datagram (w.sends + 1) w.clock) how frames left
        → Leaves ciphers w from (sent_word (Ok how)) frames (with_station left m) (sends_by ciphers w from to datagram x (Some dest))
    it_leaves m runs spared how frames left taken s =
        let plan = λ (n : Memory). of_station n (send n.station dest datagram (w.sends + 1) w.clock) in
        let did = acts_whole x m (Err refusals.Halted) plan runs spared in
        leaves (tag_of x) (answering sent_word (acts x (Err refusals.Halted) plan)) (sent_word (Ok how)) frames (with_station left m) taken
        (ap (λ (d : NodeStep (Result SentHow SendRefusal)). sent_word d.answer) did ∙ ap sent_word s.answer_is)
        (ap (λ (d : NodeStep (Result SentHow SendRefusal)). d.frames) did ∙ s.frames_is)
        (ap (λ (d : NodeStep (Result SentHow SendRefusal)). d.node.memory) did
        ∙ ap (λ (l : StationMemory). Some (with_station l m)) s.memory_is)
        (ap (λ (d : NodeStep (Result SentHow SendRefusal)). d.node.store.cut) did)
