use Rattle.std.proofs.Common.{arith}
use Rattle.std.specs.Prelude.{Some}
use Rattle.store_tables.proofs.StoreLemmas.{stores_elsewhere}
use Rattle.routing_set.specs.RoutingSet.{floors_write}
use Rattle.routing_set.proofs.FloorRecords.{floors_stored, floors_either}
use Rattle.routing_set.proofs.floors.store_floors.Goals as goal

pub returns-clause-store : goal.returns-clause-store
returns-clause-store g c = rw (← c.floors_record.ensures) c.put.ensures

pub returns-clause-stored : goal.returns-clause-stored
returns-clause-stored g c =
    let old = g.K.Keeper.store c.args.keeper.now in
    let new = g.K.Keeper.store c.put.new.self in
    floors_stored c.put.result old new c.args.floors.now (omega arith) (λ i. omega arith) (returns-clause-store g c)

pub returns-clause-elsewhere : goal.returns-clause-elsewhere
returns-clause-elsewhere g c =
    let old = g.K.Keeper.store c.args.keeper.now in
    let new = g.K.Keeper.store c.put.new.self in
    stores_elsewhere old new (Some (floors_write c.args.floors.now)) _ 5 5 (returns-clause-store g c) (omega arith, omega arith)

pub returns-clause-either : goal.returns-clause-either
returns-clause-either g c =
    let old = g.K.Keeper.store c.args.keeper.now in
    let new = g.K.Keeper.store c.put.new.self in
    floors_either old.records new.records c.args.floors.now (omega arith) (λ i. omega arith) (rw (← c.floors_record.ensures) c.put.ensures.old_or_new)
