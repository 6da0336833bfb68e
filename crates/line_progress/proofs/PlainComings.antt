-- A plain frame comes to a node: what it does about it is in the world and in the history.
use Rattle.std.proofs.Common.{◌≡◌, ℕ, ◌+◌, Bool, true, false, List, [], ◌++◌, map, Option, Some, None, Ok, Err, refl, sym, ap, subst, ◌∙◌}
use Rattle.std.specs.Prelude.{if◌then◌else◌, slice_set, ◌&&◌, ◌||◌}
use Rattle.std.specs.List.{list_any}
use Rattle.std.specs.Option.{option_map}
use Rattle.std.proofs.lemmas.Bool.{and_right}
use Rattle.plc_base.specs.declared.address.Eui.{Eui}
use Rattle.plc_base.specs.Keeper.{Records}
use Rattle.mesh_header.specs.declared.unit.Unit.{Unit as MeshUnit}
use Rattle.mesh_header.specs.Reader.{unit_in}
use Rattle.loadng_messages.specs.declared.message.Message.{Message}
use Rattle.neighbour_checks.specs.Neighbours.{Neighbours}
use Rattle.eap_psk.specs.declared.server.Agreed.{Agreed}
use Rattle.node_rules.specs.Accepted.{Accepted}
use Rattle.node_rules.specs.declared.heard.Path.{Path}
use Rattle.node_rules.specs.declared.heard.Path.TheVariants as paths
use Rattle.node_rules.specs.declared.heard.Reply.{Reply}
use Rattle.node_rules.specs.declared.refusal.FrameRefusal.TheVariants as frames
use Rattle.node_rules.specs.Acceptance.{accept}
use Rattle.node_rules.specs.Ciphers.{Ciphers}
use Rattle.node_rules.specs.Frames.{Sent, arrived, spelled}
use Rattle.node_rules.specs.Memory.{Memory, Node}
use Rattle.node_rules.specs.NodeSteps.{NodeStep, acts, of_station}
use Rattle.node_rules.specs.Plans.{resting}
use Rattle.node_rules.specs.Replies.{reply_among}
use Rattle.reach_rules.specs.Beacons.{is_discovery}
use Rattle.reach_rules.specs.CheckedReplies.{is_unbelieved, message_of}
use Rattle.reach_rules.specs.FurtherReceptions.{command_of, command_on}
use Rattle.line_events.specs.declared.event.Answer.{Answer}
use Rattle.line_rules.specs.Answers.{Reception}
use Rattle.line_rules.specs.Further.{accepted_further, acknowledged_if, beside_at, checked, comes, discovers_by, due, hearing_outcome_by, is_dropped}
use Rattle.line_rules.specs.Further.{unbelieved, with_check}
use Rattle.line_rules.specs.Steps.{done_by, flight_by, forged_by, hearing_outcome, hearing_step, note_by, received, world_after}
use Rattle.line_rules.specs.Worlds.{World, Trace, is_forged_tag}
use Rattle.line_progress.proofs.WholePlans.{acted, acts_whole}

-- # What a node did

-- the node with other records, which it has stored, and another memory
abbrev pub holding : Node → Records → Memory → Node
holding x records m = record x { store = record { records = records; cut = None }; memory = Some m }

-- A node has done this about a frame: this is said of it, these frames go out, and it holds this.
pub record HasHeard (x : Node) (answer : Reception) (frames : List Sent) (left : Memory) (d : NodeStep Reception) : Type 0 where
  pub records : Records
  pub node_is : d.node ≡ holding x records left
  pub answer_is : d.answer ≡ answer
  pub frames_is : d.frames ≡ frames

-- What a node has done is in the world and in the history.
pub record Acts (ciphers : Ciphers) (w : World) (number : ℕ) (x : Node) (answer : Reception) (frames : List Sent) (left : Memory) (r : World × Trace)
    : Type 0 where
  pub records : Records
  pub nodes : r.0.nodes ≡ slice_set w.nodes number (holding x records left)
  pub flights : r.0.flights ≡ w.flights ++ map (λ (frame : Sent). flight_by number (spelled ciphers frame)) frames
  pub events : r.0.events ≡ w.events + 1
  pub clock : r.0.clock ≡ w.clock
  pub answer_is : r.1.happenings.answer ≡ answer.answer
  pub taken_is : r.1.taken ≡ option_map (λ (agreed : Agreed). record { node = number; agreed = agreed }) answer.took
  pub done_is : r.1.done ≡ done_by w answer.done

module _ (ciphers : Ciphers) (w : World) (number : ℕ) (x : Node) (answer : Reception) (frames : List Sent) (left : Memory) where
  pub received_acts : (forged : Bool) (d : NodeStep Reception) → HasHeard x answer frames left d
      → Acts ciphers w number x answer frames left (received ciphers w number forged d)
  unfolding world_after
  received_acts forged d has = record {
    records = has.records;
    nodes = ap (slice_set w.nodes number) has.node_is;
    flights = ap (λ (fs : List Sent). w.flights ++ map (λ (frame : Sent). flight_by number (spelled ciphers frame)) fs) has.frames_is;
    events = refl;
    clock = refl;
    answer_is = ap (λ (a : Reception). a.answer) has.answer_is;
    taken_is = ap (λ (a : Reception). option_map (λ (agreed : Agreed). record { node = number; agreed = agreed }) a.took) has.answer_is;
    done_is = ap (λ (a : Reception). done_by w a.done) has.answer_is;
  }

  -- checks of neighbours add nothing to it
  pub checked_acts : (got : Accepted) (h : NodeStep Reception) (r : World × Trace) → due got.path (message_of got) h.answer.answer ≡ None
      → Acts ciphers w number x answer frames left r → Acts ciphers w number x answer frames left (checked ciphers w number got h r)
  checked_acts got h r none a =
      subst (λ (o : Option Reply). Acts ciphers w number x answer frames left
      (acknowledged_if ciphers w number h.node o (with_check w number (reply_among h.frames) r))) (sym none) (record {
        records = a.records;
        nodes = a.nodes;
        flights = a.flights;
        events = a.events;
        clock = a.clock;
        answer_is = a.answer_is;
        taken_is = a.taken_is;
        done_is = a.done_is;
      })

-- # Plain frames

-- a frame came without a seal
pub data IsPlain : Path → Type 0 where
  FromBelow : (from : Eui) → IsPlain (paths.Up from)
  FromAbove : (from : ℕ) → IsPlain (paths.Down from)

none_due : (path : Path) → IsPlain path → (message : Option Message) (answer : Answer) → due path message answer ≡ None
none_due path (FromBelow from) message _ = refl
none_due path (FromAbove from) message _ = refl

all_believed : (path : Path) → IsPlain path → (s : Neighbours) (message : Option Message) → is_unbelieved s path message ≡ false
all_believed path (FromBelow from) s message = refl
all_believed path (FromAbove from) s message = refl

no_command : (path : Path) → IsPlain path → (unit : Option MeshUnit) → command_on path unit ≡ None
no_command path (FromBelow from) unit = refl
no_command path (FromAbove from) unit = refl

module _ (ciphers : Ciphers) (w : World) (number cost : ℕ) (x : Node) (m : Memory) (runs : x.memory ≡ Some m) (spared : x.store.cut ≡ None)
    (octets : List ℕ) (other : is_discovery octets ≡ false) (got : Accepted) (plain : IsPlain got.path)
    (accepted : accept m.station x.eui (arrived ciphers octets) ≡ resting m.station (Ok got) (Err frames.Store)) where
  -- the node that has accepted it, which has stored nothing
  abbrev pub ready : Node
  ready = holding x x.store.records m

  -- what it then does about it
  abbrev pub hears : NodeStep Reception
  hears = hearing_step ciphers ready got cost (note_by w octets got.path) w.clock

  is_ready : acts x (Err frames.Halted) (λ n. of_station n (accept n.station x.eui (arrived ciphers octets)))
      ≡ record { node = ready; answer = Ok got; frames = []; made = []; opened = [] }
  unfolding resting
  is_ready =
      acts_whole x m (Err frames.Halted) (λ n. of_station n (accept n.station x.eui (arrived ciphers octets))) runs spared
      ∙ ap (λ p. acted x (of_station m p)) accepted

  believed : is_dropped w number got ≡ false
  believed = (λ i. w.checks_on && all_believed got.path plain (beside_at w number).checks (message_of got) i) ∙ and_right w.checks_on false refl

  is_heard : comes ciphers w number x octets cost ≡ hearing_outcome_by ciphers w number ready octets got cost None
  unfolding comes
  is_heard =
      (λ i. if other i then discovers_by w number x octets cost x.memory
      else accepted_further ciphers w number octets cost
      (acts x (Err frames.Halted) (λ n. of_station n (accept n.station x.eui (arrived ciphers octets)))))
      ∙ ap (accepted_further ciphers w number octets cost) is_ready
      ∙ (λ i. if believed i then unbelieved ciphers w number ready octets got
      else hearing_outcome_by ciphers w number ready octets got cost (command_of got))
      ∙ ap (hearing_outcome_by ciphers w number ready octets got cost) (no_command got.path plain (unit_in got.payload))

  pub plainly_comes : (answer : Reception) (sent : List Sent) (left : Memory) → HasHeard ready answer sent left hears
      → Acts ciphers w number x answer sent left (comes ciphers w number x octets cost)
  plainly_comes answer sent left has = subst (λ r. Acts ciphers w number x answer sent left r) (sym is_heard) (by_checks w.checks_on)
    where
      outcome : Acts ciphers w number x answer sent left (hearing_outcome ciphers w number ready octets got cost)
      outcome =
          let a = received_acts ciphers w number ready answer sent left
          (forged_by w octets got.path || list_any (is_forged_tag w.made) hears.opened) hears has in record {
            records = a.records;
            nodes = a.nodes;
            flights = a.flights;
            events = a.events;
            clock = a.clock;
            answer_is = a.answer_is;
            taken_is = a.taken_is;
            done_is = a.done_is;
          }

      by_checks : (b : Bool) → Acts ciphers w number x answer sent left
          (if b then checked ciphers w number got hears (hearing_outcome ciphers w number ready octets got cost)
          else hearing_outcome ciphers w number ready octets got cost)
      by_checks true =
          checked_acts ciphers w number x answer sent left got hears (hearing_outcome ciphers w number ready octets got cost)
          (none_due got.path plain (message_of got) hears.answer.answer) outcome
      by_checks false = outcome
