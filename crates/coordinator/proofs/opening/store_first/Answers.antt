use Rattle.std.proofs.Common.{[], ◌∙◌}
use Rattle.plc_station.proofs.CarriedPlans.{if_some, at_some}
use Rattle.coordinator.proofs.StoredChanges.{by_some}
use Rattle.coordinator.proofs.Beginnings.{ring_reads, store_reads, first_stored, first_unstored, first_holds}
use Rattle.coordinator.proofs.opening.store_first.Goals as goal

pub unreachable-requires : goal.unreachable-requires
unreachable-requires g c =
    by_some c.args.station.now.memory ⊥ c.requires.running (λ l running.
    ring_reads c.args.station.now l running c.requires.read _ c.keeper_mut.ensures.value c.open.result _ c.open.ensures.ring c.in_default.is)

pub returns-in_default-keep-clause-carries : goal.returns-in_default-keep-clause-carries
returns-in_default-keep-clause-carries g c =
    λ b. if_some c.args.station.now.memory _ (λ l running.
    first_unstored c.args.station.now l running c.requires.read c.args.key.now _ _
    (c.keeper_mut-2.ensures.value ∙ c.keeper_mut.ensures.value) c.first_grant.result c.first_grant.ensures
    [] [] b c.halt.new.self _ (at_some c.args.station.now.memory _ l running c.requires.empty) c.in_default-keep.ensures.store c.halt.ensures)

pub unreachable-requires-in_default-restart : goal.unreachable-requires-in_default-restart
unreachable-requires-in_default-restart g c =
    by_some c.args.station.now.memory ⊥ c.requires.running (λ l running.
    store_reads c.args.station.now l running c.requires.read c.args.key.now _ (g.K.Keeper.store c.keep.new.keeper)
    (c.keeper_mut-2.ensures.value ∙ c.keeper_mut.ensures.value) c.first_grant.result c.first_grant.ensures
    c.keep.new.self c.in-Ok-keep.ensures.ring c.in-Ok-keep.ensures.kept c.in-Ok-keep.ensures.elsewhere c.restart.result _ c.restart.ensures.answer
    c.in_default-restart.is)

pub returns-clause-carries : goal.returns-clause-carries
returns-clause-carries g c =
    λ b. if_some c.args.station.now.memory _ (λ l running.
    first_stored c.args.station.now l running c.requires.read c.args.key.now _ _
    (c.keeper_mut-2.ensures.value ∙ c.keeper_mut.ensures.value) c.first_grant.result c.first_grant.ensures
    [] [] b c.restart.new.self _ (at_some c.args.station.now.memory _ l running c.requires.empty) c.in-Ok-keep.ensures.store
    c.keep.new.self c.in-Ok-keep.ensures.ring c.in-Ok-keep.ensures.kept c.in-Ok-keep.ensures.elsewhere c.restart.ensures.state)

pub returns-clause-holds : goal.returns-clause-holds
returns-clause-holds g c =
    λ b agrees stays. by_some c.args.station.now.memory _ c.requires.running (λ l running.
    first_holds c.args.station.now l running c.requires.read c.args.key.now _ _
    (c.keeper_mut-2.ensures.value ∙ c.keeper_mut.ensures.value) c.first_grant.result c.first_grant.ensures
    [] [] b c.restart.new.self _ (at_some c.args.station.now.memory _ l running agrees) stays
    c.keep.new.self c.in-Ok-keep.ensures.ring c.in-Ok-keep.ensures.kept c.in-Ok-keep.ensures.elsewhere c.restart.ensures.state)
