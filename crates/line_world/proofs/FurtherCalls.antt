-- Broadcasts and path requests that a node is told to begin, and commands for the neighbours that it hears.
use Rattle.std.proofs.Common.{◌≡◌, ℕ, zero, suc, ◌<◌, List, [], ◌∷◌, length, map, Option, Some, Ok, sym, ap, subst, ◌∙◌, arith}
use Rattle.std.specs.Prelude.{IfSome, get_or, slice_get, unwrap_or}
use Rattle.std.proofs.lemmas.List.{length-set}
use Rattle.std.proofs.lemmas.Option.{slice_get_within}
use Rattle.store_tables.proofs.SlotTables.{slice_get-set}
use Rattle.plc_base.specs.declared.out_frame.Out.{Out}
use Rattle.node_rules.specs.Accepted.{Accepted}
use Rattle.node_rules.specs.Ciphers.{network}
use Rattle.node_rules.specs.Frames.{spelled}
use Rattle.node_rules.specs.Memory.{Node, node_address}
use Rattle.node_rules.specs.NodeSteps.{NodeStep}
use Rattle.reach_rules.specs.ReachingNodes.{Beside, nothing_beside}
use Rattle.reach_rules.specs.FurtherReceptions.{NeighbourCommand, command_of}
use Rattle.line_rules.specs.Answers.{Reception}
use Rattle.line_rules.specs.Further.{asks_by, bcast, beside_at, broadcasts_by, path}
use Rattle.line_rules.specs.Logs.{LogsKept}
use Rattle.line_rules.specs.Steps.{hearing_step, on_node}
use Rattle.line_rules.specs.Worlds.{World}
use Rattle.line_rules.proofs.LogSteps.{log_at, logged_at, quiet_in}
use Rattle.line_world.specs.declared.nodes.command.Commanded.{Commanded}
use Rattle.line_world.specs.declared.nodes.reception.Reception as receiving
use Rattle.line_world.specs.Arrivals.{in_run}
use Rattle.line_world.specs.Bounds.{IsBounded}
use Rattle.line_world.specs.FurtherOutcomes.{IsLogOf, ReachedCommand}
use Rattle.line_world.specs.Receptions.{Received}
use Rattle.line_world.proofs.Arrivals.{as_many, at_node_after, in_run_again}
use Rattle.line_world.proofs.HeardCommands.{command_silent, log_of}
use Rattle.line_world.proofs.Orders.{Runs, as_found}
use Rattle.line_world.proofs.SetupSteps.{bounded_beside}
use Rattle.line_world.proofs.EventSteps.{IsThere, at_node, begun}

-- what is found at a place is what stands beside the node of that number
pub beside_found : (bs : List Beside) (number : ℕ) (b : Beside) → number < length bs → b ≡ get_or bs number b
    → b ≡ unwrap_or (slice_get bs number) nothing_beside
beside_found [] number b within e = absurd (omega (arith, within))
beside_found (c ∷ bs) zero b within e = e
beside_found (c ∷ bs) (suc number) b within e = let below : number < length bs = omega (arith, within) in beside_found bs number b below e

-- the log beside a node that was found is what its store gives
pub log_there : {w : World} {number found : ℕ} (there : IsThere w number found) (b : Beside) → LogsKept w → b ≡ beside_at w found
    → IfSome (slice_get w.nodes found) (λ x. IsLogOf b x)
log_there {w} {number} {found} there b kept is =
    let at : slice_get w.nodes found ≡ Some there.node = ap (λ n. slice_get w.nodes n) there.same ∙ there.at in
    as_found there (λ x. IsLogOf b x)
    (subst (λ (k : Beside). IsLogOf k there.node) (sym is) (log_of (beside_at w found) there.node (logged_at w.beside w.nodes found there.node kept at)))

pub bcast_at : {w : World} {number found : ℕ} (r : Runs w) (there : IsThere w number found) (datagram : List ℕ)
    → bcast network w number datagram ≡ Ok (broadcasts_by network w number there.node datagram)
unfolding bcast
bcast_at {w} {number} r there datagram = begun w _ r.begun ∙ at_node w number there.node (λ x. Ok (broadcasts_by network w number x datagram)) there.at

pub path_at : {w : World} {from found to other : ℕ} (r : Runs w) (there : IsThere w from found) (toward : IsThere w to other)
    → path network w from to ≡ Ok (asks_by network w from there.node (node_address toward.node))
unfolding path
path_at {w} {from} {found} {to} r there toward =
    begun w _ r.begun ∙ at_node w from there.node (λ x. on_node w to (λ y. Ok (asks_by network w from x (node_address y)))) there.at
    ∙ at_node w to toward.node (λ y. Ok (asks_by network w from there.node (node_address y))) toward.at

-- A node heard the frame of a command for the neighbours: it can hear the command then.
module _ (w : World) (number : ℕ) (x : Node) (got : Accepted) (c : NeighbourCommand) (cost note : ℕ) (r : receiving.Reception) (out : Out) (nodes : List Node)
    (at : slice_get w.nodes number ≡ Some x) (command : command_of got ≡ Some c)
    (rec : Received (hearing_step network x got cost note w.clock) w.nodes number r out nodes) where
  pub command_many : length nodes ≡ length w.nodes
  command_many =
      let d : NodeStep Reception = hearing_step network x got cost note w.clock in
      as_many d w.nodes number d.answer out nodes rec.did

  pub command_room : length out.frames < 24
  command_room =
      let none : out.frames ≡ [] =
      ap (λ (o : Out). o.frames) rec.did.out_is ∙ ap (map (spelled network)) (command_silent x got cost note w.clock c command).frames in
      let few : length out.frames ≡ 0 = ap (λ fs. length fs) none in
      omega (arith, few)

  at_heard : slice_get nodes number ≡ Some (hearing_step network x got cost note w.clock).node
  at_heard =
      ap (λ (ns : List Node). slice_get ns number) rec.did.nodes_are
      ∙ slice_get-set w.nodes number (hearing_step network x got cost note w.clock).node (slice_get_within w.nodes number x at)

  pub command_log : (b : Beside) → b ≡ beside_at w number → LogsKept w → IfSome (slice_get nodes number) (λ y. IsLogOf b y)
  command_log b is kept =
      let z : Node = (hearing_step network x got cost note w.clock).node in
      let own : IsLogOf (beside_at w number) z =
      log_of (beside_at w number) z
      (quiet_in (log_at w.beside number) x z (command_silent x got cost note w.clock c command).quiet (logged_at w.beside w.nodes number x kept at)) in
      subst (λ (o : Option Node). IfSome o (λ y. IsLogOf b y)) (sym at_heard) (subst (λ (k : Beside). IsLogOf k z) (sym is) own)

  -- and the bounds hold after it
  pub command_bounded : (b after_b : Beside) (reported : Commanded) (after_out : Out) (left : List Node) (bs : List Beside)
      → IfSome (slice_get nodes number) (λ y. ReachedCommand y b c nodes number reported out after_out left after_b)
      → IsBounded (in_run w) → IsBounded (in_run (record w { nodes = left; beside = bs }))
  command_bounded b after_b reported after_out left bs reached bounded =
      let z : Node = (hearing_step network x got cost note w.clock).node in
      let rc : ReachedCommand z b c nodes number reported out after_out left after_b =
      at_node_after nodes number z (λ y. ReachedCommand y b c nodes number reported out after_out left after_b) at_heard reached in
      let many : length left ≡ length w.nodes =
      ap (λ (ns : List Node). length ns) rc.reached.did.nodes_are ∙ length-set nodes number _ ∙ command_many in
      bounded_beside (in_run (record w { nodes = left })) bs (in_run_again w left bounded many)
