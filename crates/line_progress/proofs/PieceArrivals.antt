-- What an event makes of a piece for its node, which accepts it, whatever power is lost.
use Rattle.std.proofs.Common.{◌≡◌, ℕ, false, List, Some, None, refl, sym, ap, subst, ◌∙◌}
use Rattle.std.specs.Prelude.{if◌then◌else◌, ◌&&◌}
use Rattle.std.specs.Option.{option_map_or}
use Rattle.std.proofs.lemmas.Bool.{and_right, eq-eqb}
use Rattle.std.proofs.lemmas.Option.{same_Some}
use Rattle.plc_base.specs.declared.key.Key.{Key}
use Rattle.mesh_header.specs.declared.unit.Mesh.{Mesh}
use Rattle.mesh_header.specs.declared.unit.Unit.TheVariants as units
use Rattle.mesh_header.specs.Pieces.{Placed}
use Rattle.mesh_header.specs.Reader.{unit_in}
use Rattle.fragment_buffers.specs.Reassembly.{Reassembly, begun, placed}
use Rattle.fragment_buffers.specs.PieceIntake as pieces
use Rattle.node_rules.specs.Accepted.{Accepted}
use Rattle.node_rules.specs.declared.heard.Path.TheVariants as paths
use Rattle.node_rules.specs.declared.refusal.Dropped.TheVariants as drops
use Rattle.node_rules.specs.Ciphers.{Ciphers}
use Rattle.node_rules.specs.Drafts.{choose}
use Rattle.node_rules.specs.HearingRules.{Hearing, drop_it, forward, gather, gathered, hear, hear_sealed, hear_unit_in, hop_less}
use Rattle.node_rules.specs.Memory.{StationMemory, Memory, Node, address_of}
use Rattle.node_rules.specs.MemoryDrafts.{unread}
use Rattle.node_rules.specs.NodeSteps.{NodeStep}
use Rattle.node_rules.specs.Plans.{resting}
use Rattle.reach_rules.specs.CheckedReplies.{is_unbelieved, message_of}
use Rattle.reach_rules.specs.FurtherReceptions.{command_of, command_on}
use Rattle.line_events.specs.declared.event.Answer.TheVariants as answers
use Rattle.line_rules.specs.Answers.{Reception}
use Rattle.line_rules.specs.Forgery.{accepting}
use Rattle.line_rules.specs.Further.{accepted_further, beside_at, comes, discovers_by, hearing_outcome_by, unbelieved}
use Rattle.line_rules.specs.Steps.{handed_by, hearing_step, note_by}
use Rattle.line_rules.specs.Worlds.{World, Trace, node_at}
use Rattle.line_progress.specs.EventFates.{ArrivingFate, IsGathered, MakesWhole, NotTaken, NodeHalts, PiecesArrive}
use Rattle.line_progress.specs.Lists.{Among}
use Rattle.line_progress.specs.PieceFates.{ComingFate, ComesIn, Completes, NoRoom}
use Rattle.line_progress.proofs.ComesFates.{After, GoesOn, Fails, by_command, station_in}
use Rattle.line_progress.proofs.HeldEvents.{station_of}
use Rattle.line_progress.proofs.PieceReceipts.{pieces_come}
use Rattle.line_progress.proofs.StationReceipts.{Receives, AsPlanned, HasHalted, receives, says}

module _ (ciphers : Ciphers) (w : World) (number cost from : ℕ) (x y : Node) (octets : List ℕ) (got : Accepted) (m : Memory) (key : Key) (mesh : Mesh)
    (piece : Placed) (there : node_at w number ≡ Some x) (path : got.path ≡ paths.Sealed from false key)
    (unit : unit_in got.payload ≡ Some (units.Part mesh piece)) (runs : y.memory ≡ Some m) (own : address_of m.station ≡ Some mesh.to) where
  abbrev noted : ℕ
  noted = note_by w octets got.path

  abbrev plan : Hearing
  plan = hear m.station got cost noted w.clock

  abbrev d : NodeStep Reception
  d = hearing_step ciphers y got cost noted w.clock

  abbrev taking : pieces.Taking
  taking = pieces.taken m.station.reassemblies mesh.origin piece noted w.clock

  abbrev Fate : World × Trace → Type 0
  Fate r = ArrivingFate number (begun mesh.origin piece noted w.clock) (placed piece) r

  -- the station takes it by the rule of reassembly
  gathers : plan ≡ gather m.station mesh.origin piece noted w.clock
  unfolding choose
  gathers =
      (λ i. hear_unit_in m.station (path i) (unit i) cost noted w.clock)
      ∙ (λ i. option_map_or (λ a. hear_sealed m.station a from false (units.Part mesh piece) cost noted w.clock) (own i) (drop_it m.station drops.BadUnit))
      ∙ (λ i. if eq-eqb mesh.to mesh.to refl i then gather m.station mesh.origin piece noted w.clock
      else forward m.station mesh.to mesh (units.Part (hop_less mesh) piece) noted)

  none_read : unread plan.answer ≡ None
  unfolding gathered resting
  none_read = ap (λ (q : Hearing). unread q.answer) gathers ∙ by_outcome taking.held taking.outcome
    where
      by_outcome : (held : List Reassembly) (o : pieces.Outcome) → unread (gathered m.station mesh.origin (record { held = held; outcome = o })).answer ≡ None
      by_outcome held pieces.Full = refl
      by_outcome held pieces.Held = refl
      by_outcome held (pieces.Whole note whole) = refl

  held_then : plan.memory.reassemblies ≡ taking.held
  unfolding gathered resting
  held_then = ap (λ (q : Hearing). q.memory.reassemblies) gathers

  up_then : (n : ℕ) (whole : List ℕ) → taking.outcome ≡ pieces.Whole n whole
      → handed_by number (says plan.answer).up ≡ Some (record { node = number; note = n; octets = whole })
  unfolding gathered resting
  up_then n whole e =
      ap (λ (q : Hearing). handed_by number (says q.answer).up) gathers
      ∙ ap (λ (o : pieces.Outcome). handed_by number (says (gathered m.station mesh.origin (record { held = taking.held; outcome = o })).answer).up) e

  full_then : taking.outcome ≡ pieces.Full → (says plan.answer).answer ≡ answers.BufferFull
  unfolding gathered resting
  full_then e =
      ap (λ (q : Hearing). (says q.answer).answer) gathers
      ∙ ap (λ (o : pieces.Outcome). (says (gathered m.station mesh.origin (record { held = taking.held; outcome = o })).answer).answer) e

  none_carried : command_of got ≡ None
  none_carried = λ i. command_on (path i) (unit i)

  by_coming : (r : World × Trace) → After ciphers w number (command_of got) d r → Receives plan d
      → ComingFate (begun mesh.origin piece noted w.clock) (placed piece) taking → Fate r
  by_coming r (Fails a e) heard coming = NodeHalts a e
  by_coming r (GoesOn held now before at k more flights up says_so) (HasHalted a f g) coming =
      let h : station_of d.node ≡ None = ap station_in g in absurd (cc)
  by_coming r (GoesOn held now before at k more flights up says_so) (AsPlanned a f g) (ComesIn s p here named in_s same e) =
      let is : held ≡ plan.memory = same_Some held plan.memory (sym before ∙ g) in
      let kept : now.reassemblies ≡ taking.held = k.reassemblies ∙ ap (λ (l : StationMemory). l.reassemblies) is ∙ held_then in
      IsGathered now s p at (subst (Among s) (sym kept) here) named in_s same
  by_coming r (GoesOn held now before at k more flights up says_so) (AsPlanned a f g) (Completes s whole named in_s full e) =
      MakesWhole s whole named in_s full (up ∙ ap (λ (q : Reception). handed_by number q.up) a ∙ up_then s.note whole e)
  by_coming r (GoesOn held now before at k more flights up says_so) (AsPlanned a f g) (NoRoom e) =
      NotTaken (says_so none_carried ∙ ap (λ (q : Reception). q.answer) a ∙ full_then e)

  arrives : Fate (hearing_outcome_by ciphers w number y octets got cost None)
  arrives =
      by_coming (hearing_outcome_by ciphers w number y octets got cost None)
      (by_command ciphers w number cost x octets there y got m runs None none_carried)
      (receives ciphers y m runs got cost noted w.clock none_read)
      (pieces_come m.station.reassemblies mesh.origin piece noted w.clock)

pub pieces_arrive : PiecesArrive
unfolding comes
pieces_arrive ciphers w number cost from x octets got m key mesh piece there known is path unit runs own =
    let d = accepting ciphers x octets in
    let way : comes ciphers w number x octets cost ≡ hearing_outcome_by ciphers w number d.node octets got cost None =
    (λ i. if known i then discovers_by w number x octets cost x.memory else accepted_further ciphers w number octets cost d)
    ∙ (λ i. accepted_further ciphers w number octets cost (record d { answer = is i }))
    ∙ (λ i. if w.checks_on && is_unbelieved (beside_at w number).checks (path i) (message_of got) then unbelieved ciphers w number d.node octets got
    else hearing_outcome_by ciphers w number d.node octets got cost (command_of got))
    ∙ (λ i. if and_right w.checks_on false refl i then unbelieved ciphers w number d.node octets got
    else hearing_outcome_by ciphers w number d.node octets got cost (command_of got))
    ∙ (λ i. hearing_outcome_by ciphers w number d.node octets got cost
    (none_carried ciphers w number cost from x d.node octets got m key mesh piece there path unit runs own i)) in
    subst (λ r. ArrivingFate number (begun mesh.origin piece (note_by w octets got.path) w.clock) (placed piece) r) (sym way)
    (arrives ciphers w number cost from x d.node octets got m key mesh piece there path unit runs own)
