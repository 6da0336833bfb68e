-- A command that is heard.
use Rattle.std.proofs.Common.{◌≡◌, ◌∙◌, Bool, None, Err, subst, sym}
use Rattle.std.specs.Bool.{MatchBool}
use Rattle.std.specs.Prelude.{IsSome}
use Rattle.plc_base.specs.declared.out_frame.Out.{Out}
use Rattle.node_rules.specs.declared.refusal.Dropped.TheVariants.{BadUnit, Store}
use Rattle.node_rules.specs.Drafts.{alone}
use Rattle.reach_rules.specs.declared.refusal.ReachDropped.TheVariants.{Known}
use Rattle.reach_rules.specs.FurtherReceptions.{hear_command}
use Rattle.line_world.specs.FurtherOutcomes.{Reaches, command_of}
use Rattle.line_world.proofs.FurtherPlans.{held_by, stayed_after}
use Rattle.line_world.proofs.PathPlans.{dropped_after, heard_unjoined, only_dropped, owned}
use Rattle.line_world.proofs.nodes.station_further.hear_command_at.Goals as goal

pub returns-then-halted-clause-reaches : goal.returns-then-halted-clause-reaches
returns-then-halted-clause-reaches c =
    let s = c.args.station.now in
    let b = c.args.beside.now in
    record {
      answer = Err (Known Store);
      reports = only_dropped c.commanded_of.result c.args.number (Known Store) c.commanded_of.ensures;
      reaches =
          subst (λ (o : Out). Reaches s b (Err (Known Store)) (λ y. hear_command alone y (command_of c.args.command.now)) (Err (Known Store)) c.args.out.now o s
          b) (sym c.clear.ensures)
          (stayed_after s b (Err (Known Store)) (λ y. hear_command alone y (command_of c.args.command.now)) c.args.out.now
          (subst (λ (h : Bool). MatchBool h (s.memory ≡ None) (IsSome s.memory)) c.if-halted.true c.halted.ensures));
    }

pub returns-in_default-clause-reaches : goal.returns-in_default-clause-reaches
returns-in_default-clause-reaches c =
    let s = c.args.station.now in
    let b = c.args.beside.now in
    let m = held_by s.memory (subst (λ (h : Bool). MatchBool h (s.memory ≡ None) (IsSome s.memory)) c.if-halted.false c.halted.ensures) in
    dropped_after s b (λ y. hear_command alone y (command_of c.args.command.now)) m.0 (Known BadUnit) c.commanded_of-in_default.result c.args.number
    c.args.out.now m.1
    (heard_unjoined m.0 b (command_of c.args.command.now) (owned s c.ring.result.now c.joined.result m.0 m.1 c.ring.ensures c.joined.ensures ∙ c.in_default.is))
    c.commanded_of-in_default.ensures
