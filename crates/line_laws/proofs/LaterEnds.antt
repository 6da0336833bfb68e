-- The law of later rules at its ends: what may be sealed, what may not, and that it is sealed.
use Rattle.std.proofs.Common.{zero-le, ◌≡◌, ℕ, ◌≤◌, ◌<◌, [], ◌∷◌, Option, Some, None, Result, Err, ap, ◌∙◌, arith}
use Rattle.std.specs.Option.{option_map_or}
use Rattle.std.proofs.lemmas.List.Elements.{All-nil, All-cons}
use Rattle.std.proofs.lemmas.Option.{none-some}
use Rattle.plc_base.specs.Grant.{Granted}
use Rattle.plc_base.specs.declared.key.Key.{Key}
use Rattle.mesh_header.specs.declared.unit.Unit.{Unit as MeshUnit}
use Rattle.node_rules.specs.Ciphers.{network}
use Rattle.node_rules.specs.Drafts.{Ends, counters_left, sealed_by, sealing_key}
use Rattle.node_rules.specs.Frames.{Sent, Sealed}
use Rattle.node_rules.specs.Memory.{Memory, Node}
use Rattle.node_rules.specs.NodeSteps.{acts, left_by, stays}
use Rattle.node_rules.specs.Plans.{Plan, carry_out}
use Rattle.node_rules.proofs.FailedWrites.{no_cut}
use Rattle.line_rules.specs.Nonces.{IsSpelled}
use Rattle.line_rules.specs.Worlds.{start}
use Rattle.line_laws.specs.InCustody.{FlightIsOf, SentUnder}
use Rattle.line_laws.specs.Keyed.{AtHome}
use Rattle.line_laws.specs.Later.{CommandsMayBeSealed, JoinedNodesSeal, OthersMayNot, StartHolds, seals_at}
use Rattle.line_laws.specs.SealedUnits.{IsFlight}
use Rattle.line_laws.specs.Lines.{FlightFits}
use Rattle.line_laws.specs.Ranges.{NodeRanged}
use Rattle.line_laws.proofs.IssueRuns.{start_keyed}
use Rattle.line_laws.proofs.LaterSeals.{goes_out_is, plan}
use Rattle.line_laws.proofs.LoopRuns.{start_routes}
use Rattle.line_laws.proofs.RangeRuns.{start_ranged}
use Rattle.line_laws.proofs.EveryRun.{start_ok}
use Rattle.line_laws.proofs.TagRuns.{start_tags}

pub may_be_sealed : CommandsMayBeSealed
may_be_sealed code body low high short are = record {
  beside = low;
  fit = record { fields = (omega arith, high); size = omega arith };
  octets = All-cons (λ n. n < 256) 0x40 (code ∷ body) (omega arith) (All-cons (λ n. n < 256) code body (omega arith) are);
}

pub others_may_not : OthersMayNot
others_may_not = record {
  route = λ message may. let low = may.beside in absurd (omega arith);
  joining = λ body may. let low = may.beside in absurd (omega arith);
  datagram = λ mesh octets may. may.beside;
  piece = λ mesh piece may. may.beside;
  carried = λ mesh body may. may.beside;
}

module _ {E : Type 0} (ends : Ends E) (halted : E) (to : ℕ) (unit : MeshUnit) (x : Node) (m : Memory) (g : Granted) (key : Key) where
  abbrev sealed_unit : Sent
  sealed_unit = Sealed (record { to = to; from = g.address; counter = m.station.counter.next; index = g.active; key = key; unit = unit; note = 0 })

  plan_sends : m.station.ring ≡ Some g → sealing_key g ≡ Some key → 1 ≤ counters_left m.station → (plan ends to unit m).frames ≡ sealed_unit ∷ []
  plan_sends rings keyed left =
      ap (λ (p : Plan Memory (Result (Unit {0}) E)). p.frames) (goes_out_is ends to unit m left)
      ∙ ap (λ r. sealed_by r m.station.counter.next (record { to = to; unit = unit; note = 0 } ∷ [])) rings
      ∙ ap (λ (k : Option Key). option_map_or (λ (q : Key). Sealed
      (record { to = to; from = g.address; counter = m.station.counter.next; index = g.active; key = q; unit = unit; note = 0 }) ∷ []) k []) keyed

  node_sends : x.memory ≡ Some m → x.store.cut ≡ None → (plan ends to unit m).frames ≡ sealed_unit ∷ []
      → (seals_at ends halted to unit x).frames ≡ sealed_unit ∷ []
  unfolding acts
  node_sends here safe sends =
      ap (λ (o : Option Memory). (option_map_or (λ n. left_by x (carry_out x.store.records x.store.cut (plan ends to unit n))) o (stays x (Err halted))).frames)
      here
      ∙ ap (λ c. (carry_out x.store.records c (plan ends to unit m)).frames) safe
      ∙ (no_cut x.store.records (plan ends to unit m)).frames
      ∙ sends

pub joined_nodes_seal : {E : Type 0} → JoinedNodesSeal E
joined_nodes_seal ends halted to unit x m g key here safe rings keyed left =
    node_sends ends halted to unit x m g key here safe (plan_sends ends halted to unit x m g key rings keyed left)

pub start_holds : StartHolds
start_holds all home = record {
  line = start_ok;
  octets = All-nil FlightFits;
  spelled = All-nil (IsSpelled network);
  ranged = start_ranged;
  keyed = start_keyed;
  senders = All-nil (AtHome start_keyed.book start);
  joinings = tt;
  routes = start_routes;
  tags = start_tags;
  custody = record {
    flights = All-nil (IsFlight network);
    ranged = All-nil NodeRanged;
    sent = All-nil (FlightIsOf network (SentUnder home all));
    nodes = λ number x there. absurd (none-some x there);
    places = record { at_most = λ n i some. zero-le };
  };
}
