-- What the law of the logs asks of a line holds of it, so every event keeps the logs.
use Rattle.std.proofs.Common.{◌≡◌, ℕ, Bool, true, false, List, Option, Some, None, Result, Ok, Err, refl, subst}
use Rattle.std.proofs.lemmas.Option.{same_Some}
use Rattle.std.specs.Prelude.{if◌then◌else◌, ◌==◌}
use Rattle.mesh_header.specs.declared.unit.Unit.{Unit as MeshUnit}
use Rattle.mesh_header.specs.declared.unit.Unit.TheVariants as units
use Rattle.mesh_header.specs.Reader.{unit_in}
use Rattle.plc_base.specs.Fields.{AreOctets}
use Rattle.node_rules.specs.Accepted.{Accepted}
use Rattle.node_rules.specs.declared.heard.Path.{Path}
use Rattle.node_rules.specs.declared.heard.Path.TheVariants as paths
use Rattle.node_rules.specs.declared.refusal.FrameRefusal.{FrameRefusal}
use Rattle.node_rules.specs.declared.refusal.FrameRefusal.TheVariants as frames
use Rattle.node_rules.specs.Acceptance.{accept}
use Rattle.node_rules.specs.Frames.{arrived}
use Rattle.node_rules.specs.Memory.{Memory}
use Rattle.node_rules.specs.NodeSteps.{of_station}
use Rattle.node_rules.specs.Plans.{Plan}
use Rattle.node_rules.proofs.HeardOctets.{unit_brings}
use Rattle.reach_rules.specs.FurtherReceptions.{NeighbourCommand, command_on}
use Rattle.line_rules.specs.Further.{line_step}
use Rattle.line_rules.specs.Logs.{LogsKept}
use Rattle.line_rules.specs.Steps.{Step}
use Rattle.line_rules.specs.Worlds.{World, Trace}
use Rattle.line_rules.proofs.LogsKept.{logs_kept}
use Rattle.line_laws.specs.FurtherLines.{CommandsFit, LineLogsHold, LogsHold}
use Rattle.line_laws.specs.Lines.{NodeOk}
use Rattle.line_laws.proofs.Answered.{acts_answered}
use Rattle.line_laws.proofs.FlightFolds.{came_octets}
use Rattle.line_laws.proofs.CoordinatorCalls.{accept_failed, accepted_routes}
use Rattle.line_laws.proofs.FurtherSteps.{tables_short}
use Rattle.line_laws.proofs.Nodes.{ring_readable}
use Rattle.line_laws.proofs.StoreMarks.{accept_is}
use Rattle.line_laws.proofs.Worlds.{at_place}

-- the body of a command that octets bring is octets
brought : (p : Path) (payload : List ℕ) (c : NeighbourCommand) → AreOctets payload → command_on p (unit_in payload) ≡ Some c → AreOctets c.body
brought p payload c are = by_unit p (unit_in payload) refl
  where
    by_code : (from : ℕ) (all s t : Bool) (code : ℕ) (body : List ℕ) → AreOctets body
        → (if s then None else (if t then None else Some (record { from = from; to_all = all; code = code; body = body }))) ≡ Some c → AreOctets c.body
    by_code from all true t code body b is = absurd (cc (is))
    by_code from all false true code body b is = absurd (cc (is))
    by_code from all false false code body b is = subst (λ (k : NeighbourCommand). AreOctets k.body) (same_Some _ _ is) b

    by_unit : (p : Path) (o : Option MeshUnit) → unit_in payload ≡ o → command_on p o ≡ Some c → AreOctets c.body
    by_unit (paths.Sealed from all key) None e is = absurd (cc (is))
    by_unit (paths.Sealed from all key) (Some (units.Local code body)) e is =
        by_code from all (code == 1) (code == 2) code body (unit_brings payload (units.Local code body) are e) is
    by_unit (paths.Sealed from all key) (Some (units.Whole mesh octets)) e is = absurd (cc (is))
    by_unit (paths.Sealed from all key) (Some (units.Part mesh piece)) e is = absurd (cc (is))
    by_unit (paths.Sealed from all key) (Some (units.Carried mesh body)) e is = absurd (cc (is))
    by_unit (paths.Up from) o e is = absurd (cc (is))
    by_unit (paths.Down from) o e is = absurd (cc (is))

pub commands_fit : CommandsFit
commands_fit ciphers fits w ok flown event says number x octets got c there comes is e =
    let are : AreOctets octets = came_octets ciphers fits w ok flown event number octets says comes in
    let plan : Memory → Plan Memory (Result Accepted FrameRefusal) = λ m. of_station m (accept m.station x.eui (arrived ciphers octets)) in
    let a = acts_answered x frames.Halted frames.Store plan
    (λ m. accept_failed ciphers fits octets are m.station _ (accept_is m.station x.eui (arrived ciphers octets))) got is in
    let routes = accepted_routes ciphers fits octets are a.memory.station (ring_readable x a.memory (at_place NodeOk w.nodes number x there ok.nodes) a.there) _
    got (accept_is a.memory.station x.eui (arrived ciphers octets)) a.is in
    brought got.path got.payload c routes.payload e

logs_hold : (s : Step) → ((v : World) (t : Trace) → s ≡ Ok (v, t) → LogsKept v) → LogsHold s
logs_hold (Ok r) h = h r.0 r.1 refl
logs_hold (Err fault) h = tt

pub line_logs_hold : LineLogsHold
line_logs_hold ciphers fits w ok flown logs event says =
    logs_hold (line_step ciphers w event) (λ v t e. logs_kept ciphers w v event t (tables_short w ok) (commands_fit ciphers fits w ok flown event says) logs e)
