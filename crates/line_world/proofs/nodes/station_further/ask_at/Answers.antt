-- Asking for a path.
use Rattle.std.proofs.Common.{◌≡◌, ◌∙◌, Bool, None, sym, subst, Err}
use Rattle.std.specs.Bool.{MatchBool}
use Rattle.std.specs.Prelude.{IsSome}
use Rattle.plc_base.specs.declared.out_frame.Out.{Out}
use Rattle.node_rules.specs.Drafts.{alone}
use Rattle.node_rules.specs.Memory.{station_route}
use Rattle.plc_station.proofs.CarriedPlans.{at_some}
use Rattle.reach_rules.specs.declared.refusal.AskRefusal.TheVariants as asks
use Rattle.reach_rules.specs.PathRequests.{ask_path}
use Rattle.reach_rules.specs.ReachingNodes.{Beside}
use Rattle.line_world.specs.FurtherOutcomes.{ReachesFirst}
use Rattle.line_world.proofs.FurtherPlans.{held_by, first_rests, asks_unjoined, asks_itself, asks_nowhere}
use Rattle.line_world.proofs.PathPlans.{asked, owned}
use Rattle.line_world.proofs.nodes.station_further.ask_at.Goals as goal

pub returns-in_default-clause-reaches : goal.returns-in_default-clause-reaches
returns-in_default-clause-reaches c =
    let s = c.args.station.now in
    let m = held_by s.memory (subst (λ (b : Bool). MatchBool b (s.memory ≡ None) (IsSome s.memory)) c.if-halted.false c.halted.ensures) in
    subst (λ (o : Out). ReachesFirst s c.args.beside.now (Err asks.Halted) (λ y. ask_path alone y c.args.target) (Err asks.NotJoined) o s c.args.beside.now)
    (sym c.clear.ensures)
    (first_rests s c.args.beside.now (Err asks.Halted) (λ y. ask_path alone y c.args.target) m.0 m.1 (Err asks.NotJoined) (Err asks.Store)
    (asks_unjoined m.0 c.args.beside.now c.args.target (owned s c.ring.result.now c.joined.result m.0 m.1 c.ring.ensures c.joined.ensures ∙ c.in_default.is)))

pub returns-then-number-clause-reaches : goal.returns-then-number-clause-reaches
returns-then-number-clause-reaches c =
    let s = c.args.station.now in
    let m = held_by s.memory (subst (λ (b : Bool). MatchBool b (s.memory ≡ None) (IsSome s.memory)) c.if-halted.false c.halted.ensures) in
    subst (λ (o : Out). ReachesFirst s c.args.beside.now (Err asks.Halted) (λ y. ask_path alone y c.args.target) (Err asks.ToSelf) o s c.args.beside.now)
    (sym c.clear.ensures)
    (first_rests s c.args.beside.now (Err asks.Halted) (λ y. ask_path alone y c.args.target) m.0 m.1 (Err asks.ToSelf) (Err asks.Store)
    (asks_itself m.0 c.args.beside.now c.args.target c.in-Some.own
    (owned s c.ring.result.now c.joined.result m.0 m.1 c.ring.ensures c.joined.ensures ∙ c.in-Some.is)
    (sym c.number.ensures.value ∙ c.if-number.true ∙ c.number-2.ensures.value)))

pub returns-in_default-hop_to-clause-reaches : goal.returns-in_default-hop_to-clause-reaches
returns-in_default-hop_to-clause-reaches c =
    let s = c.args.station.now in
    let m = held_by s.memory (subst (λ (b : Bool). MatchBool b (s.memory ≡ None) (IsSome s.memory)) c.if-halted.false c.halted.ensures) in
    subst (λ (o : Out). ReachesFirst s c.args.beside.now (Err asks.Halted) (λ y. ask_path alone y c.args.target) (Err asks.NoRoute) o s c.args.beside.now)
    (sym c.clear.ensures)
    (first_rests s c.args.beside.now (Err asks.Halted) (λ y. ask_path alone y c.args.target) m.0 m.1 (Err asks.NoRoute) (Err asks.Store)
    (asks_nowhere m.0 c.args.beside.now c.args.target c.in-Some.own
    (owned s c.ring.result.now c.joined.result m.0 m.1 c.ring.ensures c.joined.ensures ∙ c.in-Some.is)
    (λ e. c.if-number.false (c.number.ensures.value ∙ e ∙ sym c.number-2.ensures.value))
    (sym (at_some s.memory (λ l. c.hop_to.result ≡ station_route l c.args.target) m.0 m.1 c.hop_to.ensures) ∙ c.in_default-hop_to.is)))

pub returns-clause-reaches : goal.returns-clause-reaches
returns-clause-reaches c =
    let s = c.args.station.now in
    let m = held_by s.memory (subst (λ (b : Bool). MatchBool b (s.memory ≡ None) (IsSome s.memory)) c.if-halted.false c.halted.ensures) in
    let b : Beside = record { checks = c.beside.inside.checks; log = c.beside.inside.log; scan = c.beside.inside.scan } in
    rw (← c.beside.view_is)
    (asked s c.path_goes-sent.new.station b c.args.target c.in-Some.own c.in-Some-hop_to.hop m.0 c.ask_of-message.result c.path_goes-sent.result
    c.ended_by.result c.clear.new.self c.path_goes-sent.new.out c.path_goes-sent.new.log
    m.1 (owned s c.ring.result.now c.joined.result m.0 m.1 c.ring.ensures c.joined.ensures ∙ c.in-Some.is)
    (λ e. c.if-number.false (c.number.ensures.value ∙ e ∙ sym c.number-2.ensures.value))
    (sym (at_some s.memory (λ l. c.hop_to.result ≡ station_route l c.args.target) m.0 m.1 c.hop_to.ensures) ∙ c.in-Some-hop_to.is)
    c.clear.ensures c.ask_of-message.ensures.value c.path_goes-sent.ensures.carries c.path_goes-sent.ensures.log c.ended_by.ensures)
