use Rattle.std.proofs.Common.{arith}
use Rattle.store_tables.proofs.StoreLemmas.{stores_elsewhere}
use Rattle.group_keys.specs.KeyRing.{ring_write}
use Rattle.group_keys.proofs.Rings.{ring_stored, ring_either}
use Rattle.group_keys.proofs.key_ring.store_ring.Goals as goal

pub returns-clause-store : goal.returns-clause-store
returns-clause-store g c = rw (← c.ring_record.ensures.octets) c.put.ensures

pub returns-clause-stored : goal.returns-clause-stored
returns-clause-stored g c =
    let old = g.K.Keeper.store c.args.keeper.now in
    let new = g.K.Keeper.store c.put.new.self in
    ring_stored c.put.result old new c.args.grant.now c.ring_record.ensures.reads_back (returns-clause-store g c)

pub returns-clause-elsewhere : goal.returns-clause-elsewhere
returns-clause-elsewhere g c =
    let old = g.K.Keeper.store c.args.keeper.now in
    let new = g.K.Keeper.store c.put.new.self in
    stores_elsewhere old new (ring_write c.args.grant.now) _ 1 1 (returns-clause-store g c) (omega arith, omega arith)

pub returns-clause-either : goal.returns-clause-either
returns-clause-either g c =
    let old = g.K.Keeper.store c.args.keeper.now in
    let new = g.K.Keeper.store c.put.new.self in
    ring_either old.records new.records c.args.grant.now c.ring_record.ensures.reads_back (rw (← c.ring_record.ensures.octets) c.put.ensures.old_or_new)
