-- Joining messages in commands: a node sends one by a valid route, and one comes to the node that it is for.
use Rattle.std.proofs.Common.{◌≡◌, ◌≢◌, ℕ, ◌<◌, ◌≤◌, ◌^◌, Bool, true, false, List, [], ◌∷◌, length, Some, None, Ok, Err, refl, sym, ap, subst, ◌∙◌, arith}
use Rattle.std.specs.Prelude.{if◌then◌else◌, is_some, nat_lt, ◌||◌}
use Rattle.std.specs.List.{list_any}
use Rattle.std.specs.Option.{option_and_then, option_map, option_map_or}
use Rattle.std.proofs.lemmas.Bool.{and_right, eq-eqb}
use Rattle.plc_base.specs.Addresses.{IsAddress}
use Rattle.plc_base.specs.Faults.{◌then◌, ◌when◌}
use Rattle.plc_base.specs.declared.key.Key.{Key}
use Rattle.plc_base.specs.declared.tags.PairTag.{PairTag}
use Rattle.plc_base.specs.Grant.{Granted, key_at}
use Rattle.plc_base.specs.Keeper.{Records, Write}
use Rattle.frame_counters.specs.PeerMarks.{kept_after, room_for}
use Rattle.mac_frames.specs.Grammar.{IsTarget}
use Rattle.mesh_header.specs.declared.unit.Mesh.{Mesh}
use Rattle.mesh_header.specs.declared.unit.Unit.{Unit as MeshUnit}
use Rattle.mesh_header.specs.declared.unit.Unit.TheVariants as units
use Rattle.mesh_header.specs.Grammar.{IsMesh, spelled_length, spelling}
use Rattle.mesh_header.specs.Reader.{unit_in}
use Rattle.mesh_header.proofs.Readings.{length_read}
use Rattle.joining_messages.specs.declared.message.JoinMessage.{JoinMessage}
use Rattle.joining_messages.specs.Messages as joining
use Rattle.fragment_buffers.specs.Loads.{Command, own_mesh}
use Rattle.node_rules.specs.declared.heard.Heard.TheVariants as heard
use Rattle.node_rules.specs.declared.heard.Path.TheVariants as paths
use Rattle.node_rules.specs.declared.heard.Way.TheVariants.{Mesh as ByMesh}
use Rattle.node_rules.specs.declared.refusal.Dropped.TheVariants.{BadUnit, Store}
use Rattle.node_rules.specs.Acceptance.{accept, marking}
use Rattle.node_rules.specs.Ciphers.{Ciphers, OpensWhatItSeals}
use Rattle.node_rules.specs.Drafts.{Draft, Ends, OfNumbers, OfRoom, UnsealedUnit, body_goes, choose, counted, counters_left, is_awaited, lack, no_room}
use Rattle.node_rules.specs.Drafts.{numbers_spent, refused, sealed, sealed_by, sealed_units, sealing, sealing_key, sets_out}
use Rattle.node_rules.specs.Frames.{SealedUnit, Sealed, Sent, arrived, spelled, to_all}
use Rattle.node_rules.specs.HearingRules.{drop_it, dropped_for, forward, hear, hear_sealed, hear_unit_in, hop_less}
use Rattle.node_rules.specs.JoiningPackets.{command_of}
use Rattle.node_rules.specs.Memory.{Memory, Node, StationMemory, next_hop}
use Rattle.node_rules.specs.MemoryDrafts.{command_lack, in_memory, is_commanded, memory_part, on_station, station_part, with_station}
use Rattle.node_rules.specs.NodeSteps.{NodeStep}
use Rattle.node_rules.specs.Plans.{resting}
use Rattle.store_tables.specs.Writes.{write}
use Rattle.node_rules.specs.Replies.{route_message}
use Rattle.node_rules.specs.Calls as calls
use Rattle.reach_rules.specs.CheckedReplies.{message_of}
use Rattle.reach_rules.specs.FurtherReceptions as further
use Rattle.line_rules.specs.Answers.{Reception}
use Rattle.line_rules.specs.Further.{checked, comes, due_of, is_dropped, is_reply_taken}
use Rattle.line_rules.specs.Steps.{forged_by, hearing_outcome, hearing_step, note_by}
use Rattle.line_rules.specs.Worlds.{World, is_forged_tag}
use Rattle.line_progress.proofs.Acceptance.{accepts, got_of}
use Rattle.line_progress.proofs.Deliveries.{is_heard}
use Rattle.line_progress.proofs.SealedUnits.{IsSealable, unit_whole}
use Rattle.line_progress.proofs.PlainComings.{Acts, HasHeard, checked_acts, holding, received_acts}
use Rattle.line_progress.proofs.PlainPlans.{Gives}
use Rattle.line_progress.proofs.PlainFrames.{short}

-- # Sending one

-- the memory of a node that has sealed one frame
abbrev pub sealed_one : Memory → Memory
sealed_one m = counted in_memory 1 m

-- the unit of a message to an address
abbrev pub command_to : (own to : ℕ) → JoinMessage → MeshUnit
command_to own to said = units.Carried (own_mesh own to) (joining.spelling said)

-- what a node with a ring seals for a hop
abbrev pub letter : Granted → Key → (hop to counter : ℕ) → JoinMessage → SealedUnit
letter g key hop to counter said = record {
  to = hop;
  from = g.address;
  counter = counter;
  index = g.active;
  key = key;
  unit = command_to g.address to said;
  note = 0;
}

module _ (m : Memory) (to hop : ℕ) (route : next_hop m.station to ≡ Some hop) where
  pub none_lacks : (said : JoinMessage) → command_lack m to said ≡ None
  unfolding lack
  none_lacks said =
      λ i. option_map dropped_for
      (if is_some (route i) then None
      else (Some OfRoom when no_room m.station (length (command_of said))
      then Some OfNumbers when (if is_awaited m.station to then false else numbers_spent m.station)))

  module _ {H E : Type 0} (ends : Ends E) (g : Granted) (ring : m.station.ring ≡ Some g) (key : Key) (keyed : sealing_key g ≡ Some key)
      (left : nat_lt (counters_left m.station) 1 ≡ false) (said : JoinMessage) (now : ℕ) (puts : List Write) (made opened : List PairTag)
      (after : Memory) (same : after.station ≡ m.station) (answer : H) where
    -- what is done before it goes
    abbrev pub before : Draft Memory
    before = record { puts = puts; memory = after; units = []; plain = []; made = made; opened = opened }

    abbrev one : List UnsealedUnit
    one = record { to = hop; unit = command_to g.address to said; note = 0 } ∷ []

    abbrev with_it : Draft Memory
    with_it = record before { units = one }

    ring_after : after.station.ring ≡ Some g
    ring_after = ap (λ (l : StationMemory). l.ring) same ∙ ring

    route_after : next_hop after.station to ≡ Some hop
    route_after = ap (λ l. next_hop l to) same ∙ route

    sets : sets_out g.address to 0 (Command (command_of said)) now (station_part before)
        ≡ body_goes g.address hop to 0 (Command (command_of said)) (station_part before)
    sets = rw route_after refl

    commanded : is_commanded to said now before ≡ with_it
    unfolding is_commanded on_station body_goes
    commanded =
        (λ i. option_map_or (λ own. on_station (calls.commands own to (command_of said) now) before)
        (option_map (λ (g : Granted). g.address) (ring_after i)) before)
        ∙ (λ i. memory_part before (sets i))

    pub commands_it : Gives (sealed in_memory ends m (is_commanded to said now before) answer) answer
        (Sealed (letter g key hop to after.station.counter.next said) ∷ []) (sealed_one after)
    unfolding sealed
    commands_it =
        let path : sealed in_memory ends m (is_commanded to said now before) answer ≡ sealing in_memory ends with_it answer =
        ap (λ d. sealed in_memory ends m d answer) commanded
        ∙ (λ i. if left i then refused ends m ends.spent else sealing in_memory ends with_it answer) in
        subst (λ p. Gives p answer (Sealed (letter g key hop to after.station.counter.next said) ∷ []) (sealed_one after)) (sym path) (record {
          answer_is = refl;
          frames_is =
              (λ i. sealed_by (ring_after i) after.station.counter.next one)
              ∙ (λ i. option_map_or (λ key. sealed_units g key after.station.counter.next one) (keyed i) []);
          memory_is = refl;
        })

-- # One that comes

-- the memory of a node that has kept the counter of a sender
abbrev pub heard_from : Memory → (from counter : ℕ) → Memory
heard_from m from counter = with_station (record m.station { marks = kept_after m.station.marks from counter }) m

module _ (ciphers : Ciphers) (opens : OpensWhatItSeals ciphers) (w : World) (number cost : ℕ) (x : Node) (m : Memory) (g : Granted)
    (runs : x.memory ≡ Some m) (spared : x.store.cut ≡ None) (ring : m.station.ring ≡ Some g) (u : SealedUnit) (fits : IsSealable u)
    (mesh : Mesh) (body : List ℕ) (unit_is : u.unit ≡ units.Carried mesh body)
    (to : g.address ≡ u.to) (one : u.to ≢ to_all) (apart : g.address ≢ u.from) (key : key_at g u.index ≡ Some u.key)
    (room : room_for m.station.marks u.from u.counter ≡ Ok tt) where
  reads : unit_in (got_of u).payload ≡ Some (units.Carried mesh body)
  reads = unit_whole ciphers opens u fits ∙ ap (λ (v : MeshUnit). Some v) unit_is

  no_message : message_of (got_of u) ≡ None
  no_message = ap (option_and_then route_message) reads

  no_command : further.command_of (got_of u) ≡ None
  no_command = ap (further.command_with u.from false) reads

  believed : is_dropped w number (got_of u) ≡ false
  believed = and_right w.checks_on false refl

  accepted : accept m.station x.eui (arrived ciphers (spelled ciphers (Sealed u)).octets) ≡ marking m.station u.from u.counter (got_of u)
  accepted = accepts ciphers opens u fits m.station x.eui g ring apart key room to one

  -- the records of the node that has accepted the frame
  abbrev pub kept : Records
  kept = (write (marking m.station u.from u.counter (got_of u)).puts None x.store.records).records

  -- that node, and what it does about the frame
  abbrev pub taken : Node
  taken = holding x kept (heard_from m u.from u.counter)

  abbrev octets_of : List ℕ
  octets_of = (spelled ciphers (Sealed u)).octets

  abbrev pub note_of : ℕ
  note_of = note_by w octets_of (got_of u).path

  abbrev pub hears : NodeStep Reception
  hears = hearing_step ciphers taken (got_of u) cost note_of w.clock

  none_due : (by : Bool) → (if by then due_of u.from None else None) ≡ None
  none_due true = refl
  none_due false = refl

  pub sealed_comes : (answer : Reception) (sent : List Sent) (left : Memory) → HasHeard x answer sent left hears
      → Acts ciphers w number x answer sent left (comes ciphers w number x octets_of cost)
  unfolding marking
  sealed_comes answer sent left has =
      subst (λ r. Acts ciphers w number x answer sent left r)
      (sym (is_heard ciphers opens w number cost x m runs spared u fits false accepted believed no_command)) (by_checks w.checks_on)
    where
      outcome : Acts ciphers w number x answer sent left (hearing_outcome ciphers w number taken octets_of (got_of u) cost)
      outcome =
          received_acts ciphers w number x answer sent left (forged_by w octets_of (got_of u).path || list_any (is_forged_tag w.made) hears.opened) hears has

      by_checks : (b : Bool) → Acts ciphers w number x answer sent left
          (if b then checked ciphers w number (got_of u) hears (hearing_outcome ciphers w number taken octets_of (got_of u) cost)
          else hearing_outcome ciphers w number taken octets_of (got_of u) cost)
      by_checks true =
          checked_acts ciphers w number x answer sent left (got_of u) hears (hearing_outcome ciphers w number taken octets_of (got_of u) cost)
          ((λ i. if is_reply_taken hears.answer.answer then due_of u.from (no_message i) else None) ∙ none_due (is_reply_taken hears.answer.answer)) outcome
      by_checks false = outcome

  -- at its target the message is handed on unread
  pub hears_carried : (l : StationMemory) → l.ring ≡ Some g → mesh.to ≡ g.address → (c note now : ℕ)
      → hear l (got_of u) c note now ≡ resting l (Ok (heard.Joining (ByMesh mesh.origin) body)) (Err Store)
  unfolding choose
  hears_carried l held at c note now =
      (λ i. hear_unit_in l (paths.Sealed u.from false u.key) (reads i) c note now)
      ∙ (λ i. option_map_or (λ own. hear_sealed l own u.from false (units.Carried mesh body) c note now)
      (option_map (λ (g : Granted). g.address) (held i)) (drop_it l BadUnit))
      ∙ (λ i. choose (eq-eqb mesh.to g.address at i) (resting l (Ok (heard.Joining (ByMesh mesh.origin) body)) (Err Store))
      (forward l g.address mesh (units.Carried (hop_less mesh) body) note))

-- a letter in its ranges
pub letter_fits : (g : Granted) (key : Key) (hop to counter : ℕ) (said : JoinMessage) → IsTarget hop → IsAddress g.address → counter < 2 ^ 32 → g.active ≤ 1
    → IsAddress to → joining.IsMessage said → IsSealable (letter g key hop to counter said)
letter_fits g key hop to counter said target from low index address fits =
    let mesh : IsMesh (own_mesh g.address to) = record { hops = omega arith; origin = from; to = address } in
    let unit : MeshUnit = command_to g.address to said in
    let long : spelled_length unit ≡ length (spelling unit) = length_read (spelling unit) (Ok unit) (mesh, refl) in
    let few = short said fits in
    record { to = target; from = from; counter = low; index = index; fields = mesh; size = omega (arith, long, few) }
