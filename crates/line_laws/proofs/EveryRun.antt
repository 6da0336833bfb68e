-- The laws of every run.
use Rattle.std.proofs.Common.{◌≡◌, ◌≤◌, length, Option, Some, None, Ok, Err, refl, ap, subst, arith}
use Rattle.std.specs.Prelude.{All, IfSome}
use Rattle.std.proofs.lemmas.List.Elements.{All-nil, All-weaker}
use Rattle.plc_base.specs.Keeper.{Records}
use Rattle.line_events.specs.declared.event.Answer.TheVariants as answers
use Rattle.node_rules.specs.Ciphers.{Ciphers}
use Rattle.line_events.specs.Events.{IsEvent}
use Rattle.node_rules.specs.Memory.{Memory, Role, Coordinator, Meter, Node}
use Rattle.line_rules.specs.Worlds.{World, start}
use Rattle.line_rules.specs.SafeRuns.{IsSizedBy}
use Rattle.node_rules.specs.Laws.{IsWithin}
use Rattle.line_rules.specs.Runs.{Entry}
use Rattle.line_rules.specs.Steps.{Step, step, restarts, restart_word}
use Rattle.line_laws.specs.Stores.{IsKept}
use Rattle.line_laws.specs.Sizes.{IsAnyLoad, IsMemorySized}
use Rattle.line_laws.specs.Owed.{KeepsRanges}
use Rattle.line_laws.proofs.KeptMemory.{Left}
use Rattle.line_laws.proofs.Nodes.{NodeOk}
use Rattle.line_laws.proofs.Worlds.{none_rising, NodeFits, FlightFits, WorldOk}
use Rattle.line_laws.proofs.StepsOk.{StepGood, Fails, Taken, step_good}
use Rattle.line_laws.proofs.NodesOk.{read_again}

pub start_ok : WorldOk start
start_ok = record {
  rising = none_rising start refl;
  quiet = λ e. refl;
  nodes = All-nil NodeOk;
  fits = All-nil NodeFits;
  first = λ c e. absurd (cc);
  count = omega arith;
}

-- what holds of a step that was taken
abbrev Good : Step → Type 0
Good (Ok r) = WorldOk r.0 × (r.1.happenings.flights ≤ 24)
Good (Err fault) = Unit {0}

good : (w : World) (s : Step) → StepGood w s → Good s
good w s (Fails fault) = tt
good w s (Taken r ok few is) = (ok, few)

pub taken_good : (ciphers : Ciphers) → KeepsRanges ciphers → (w : World) → WorldOk w → All FlightFits w.flights → (x : Entry) → IsEvent x.event
    → step ciphers w x.event ≡ Ok (x.after, x.trace) → WorldOk x.after × (x.trace.happenings.flights ≤ 24)
taken_good ciphers fits w ok flown x says e = subst Good e (good w _ (step_good ciphers fits w ok flown x.event says))

-- # Sizes

memory_sized : (role : Role) (m : Memory) (r : Records) → IsKept role m r → IsMemorySized m → IsWithin IsAnyLoad m
memory_sized role m r k h = record {
  peers = k.station.range.marks.short;
  ranks = k.station.range.routing.entries.short;
  floors = k.station.range.routing.sixteen;
  reassemblies = h.station.reassemblies;
  waiting = h.station.waiting;
  loads = h.station.loads;
  sessions = h.sessions;
  randoms = h.randoms;
  book = by_role role k;
}
  where
    by_role : (role : Role) → IsKept role m r → length m.book ≤ 999
    by_role Coordinator k = k.book.table.short
    by_role (Meter psk) k = rw k.book.0 (omega arith)

pub node_sized : (x : Node) → NodeOk x → IfSome x.memory (IsWithin IsAnyLoad)
node_sized x ok = by_memory x.memory ok.kept ok.sized
  where
    by_memory : (o : Option Memory) → Left (IsKept x.role) x.store.records o → IfSome o IsMemorySized → IfSome o (IsWithin IsAnyLoad)
    by_memory None k h = tt
    by_memory (Some m) k h = memory_sized x.role m x.store.records k h

abbrev NodeSized : Node → Type 0
NodeSized x = IfSome x.memory (IsWithin IsAnyLoad)

pub world_sized : (w : World) → WorldOk w → IsSizedBy IsAnyLoad w
world_sized w ok = record { nodes = ok.count; memories = All-weaker NodeOk NodeSized node_sized w.nodes ok.nodes }

-- # Restarts

pub restart_answers : (x : Node) → NodeOk x → (restarts x).answer ≡ answers.Restarted
restart_answers x ok =
    let a = read_again x.role x.store.records x.memory ok.kept in
    ap restart_word a.is
