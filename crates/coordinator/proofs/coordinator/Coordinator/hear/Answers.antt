use Rattle.std.proofs.Common.{Result, sym, subst}
use Rattle.node_rules.specs.declared.heard.CoordinatorHeard.{CoordinatorHeard}
use Rattle.node_rules.specs.declared.refusal.Dropped.{Dropped}
use Rattle.node_rules.specs.CarriedPlans.{Carries}
use Rattle.node_rules.specs.Coordinators as rules
use Rattle.plc_station.proofs.CarriedPlans.{at_some}
use Rattle.coordinator.specs.CoordinatorStates.{memory_in, node_of, identity_of}
use Rattle.coordinator.proofs.StoredChanges.{on_parts, by_some}
use Rattle.coordinator.proofs.Parts.{part_runs}
use Rattle.coordinator.proofs.HearingRules.{runs_on, nothing_out, heard_joining, heard_other, never_itself, replied_other}
use Rattle.coordinator.proofs.coordinator.Coordinator.hear.Goals as goal

pub hear_joining-requires : goal.hear_joining-requires
hear_joining-requires g c =
    record {
      ready = record {
        running =
            by_some c.args.self.now.station.memory _ (part_runs c.args.self.now.station.memory _ c.requires.ready.running) (λ l running.
            runs_on c.args.self.now c.hear_frame-heard.new.self c.args.got c.args.cost c.args.note c.args.now c.hear_frame-heard.result
            c.hear_frame-heard.new.out
            c.hear_frame-heard.ensures.beside l running (at_some c.args.self.now.station.memory _ l running c.hear_frame-heard.ensures.carries)
            c.in-Some.command.way
            c.in-Some.command.body c.in-Some.ensures);
        holds = c.hear_frame-heard.ensures.holds;
        empty =
            by_some c.args.self.now.station.memory _ (part_runs c.args.self.now.station.memory _ c.requires.ready.running) (λ l running.
            nothing_out c.args.self.now c.hear_frame-heard.new.self c.args.got c.args.cost c.args.note c.args.now c.hear_frame-heard.result
            c.hear_frame-heard.new.out c.hear_frame-heard.ensures.beside l running
            (at_some c.args.self.now.station.memory _ l running c.hear_frame-heard.ensures.carries) c.in-Some.command.way c.in-Some.command.body
            c.in-Some.ensures);
      };
    }

pub returns-in-Some-clause-carries : goal.returns-in-Some-clause-carries
returns-in-Some-clause-carries g c =
    on_parts c.args.self.now.station.memory _ _ (λ l running.
    heard_joining c.args.self.now c.hear_frame-heard.new.self c.args.got c.args.cost c.args.note c.args.now c.hear_frame-heard.result
    c.hear_frame-heard.new.out c.hear_frame-heard.ensures.beside l running
    (at_some c.args.self.now.station.memory _ l running c.hear_frame-heard.ensures.carries) c.in-Some.command.way c.in-Some.command.body c.in-Some.ensures _ _ _
    (rw c.octets.ensures at c.hear_joining.ensures.carries))

pub returns-in-None-clause-carries : goal.returns-in-None-clause-carries
returns-in-None-clause-carries g c =
    on_parts c.args.self.now.station.memory _ _ (λ l running.
    subst (λ (r : Result CoordinatorHeard Dropped). Carries (node_of c.args.self.now)
    (rules.hear_coordinator (identity_of c.args.self.now) (memory_in c.args.self.now.randoms c.args.self.now.sessions c.args.self.now.book l) c.args.got
    c.args.cost c.args.note c.args.now) r c.hear_frame-heard.new.out (node_of c.hear_frame-heard.new.self))
    (sym c.heard_by_station.ensures)
    (heard_other c.args.self.now c.hear_frame-heard.new.self c.args.got c.args.cost c.args.note c.args.now c.hear_frame-heard.result
    c.hear_frame-heard.new.out c.hear_frame-heard.ensures.beside l running
    (at_some c.args.self.now.station.memory _ l running c.hear_frame-heard.ensures.carries) c.in-None.ensures))

pub returns-in-Some-clause-replied : goal.returns-in-Some-clause-replied
returns-in-Some-clause-replied g c =
    on_parts c.args.self.now.station.memory _ _ (λ l running none. absurd (
    never_itself c.args.self.now c.hear_frame-heard.new.self c.args.got c.args.cost c.args.note c.args.now c.hear_frame-heard.result
    c.hear_frame-heard.new.out c.hear_frame-heard.ensures.beside l running
    (at_some c.args.self.now.station.memory _ l running c.hear_frame-heard.ensures.carries) c.in-Some.command.way c.in-Some.command.body c.in-Some.ensures
    none))

pub returns-in-None-clause-replied : goal.returns-in-None-clause-replied
returns-in-None-clause-replied g c =
    on_parts c.args.self.now.station.memory _ _ (λ l running none.
    replied_other c.args.self.now c.hear_frame-heard.new.self c.args.got c.args.cost c.args.note c.args.now c.hear_frame-heard.result
    c.hear_frame-heard.new.out c.hear_frame-heard.ensures.beside l running
    (at_some c.args.self.now.station.memory _ l running c.hear_frame-heard.ensures.carries) c.in-None.ensures
    (at_some c.args.self.now.station.memory _ l running c.hear_frame-heard.ensures.replied))
