use Rattle.std.proofs.Common.{rules, ◌≡◌, ◌⊎◌, Some, ℕ, arith, subst}
use Rattle.std.specs.FinMap.{insert}
use Rattle.store_tables.specs.SlotTables.{slot_of}
use Rattle.store_tables.proofs.SlotTables.{stored_push, push_either}
use Rattle.store_tables.proofs.slot_table.SlotTable.push_stored.Goals as goal

pub push-requires : goal.push-requires
push-requires g c = (search rules, (c.requires.room, (omega (arith, c.store_entry.ensures.fits, c.len.ensures.value), c.requires.free)))

pub returns-clause-kept : goal.returns-clause-kept
returns-clause-kept g c =
    let layout = g.E.SlotEntry.layout in
    let old = (g.K.Keeper.store c.args.keeper.now).records in
    let new = (g.K.Keeper.store c.store_entry.new.keeper).records in
    let entry = c.args.entry in
    rw c.push.ensures
    (stored_push layout c.args.self.now old new entry c.requires.kept c.requires.room
    (subst (λ (k : ℕ). new ≡ insert old (slot_of layout k) (layout.octets k entry)) c.len.ensures.value c.in_ok-store_entry.ensures.store.stored)
    (subst (λ (k : ℕ). layout.read k (layout.octets k entry) ≡ Some (layout.rest entry)) c.len.ensures.value c.store_entry.ensures.reads_back))

pub returns-in_err-store_entry-clause-either : goal.returns-in_err-store_entry-clause-either
returns-in_err-store_entry-clause-either g c =
    let layout = g.E.SlotEntry.layout in
    let old = (g.K.Keeper.store c.args.keeper.now).records in
    let new = (g.K.Keeper.store c.store_entry.new.keeper).records in
    push_either layout c.args.self.now old new c.args.entry c.requires.kept c.requires.room
    (subst (λ (k : ℕ). (new ≡ old) ⊎ (new ≡ insert old (slot_of layout k) (layout.octets k c.args.entry))) c.len.ensures.value
    c.store_entry.ensures.store.old_or_new)
    (subst (λ (k : ℕ). layout.read k (layout.octets k c.args.entry) ≡ Some (layout.rest c.args.entry)) c.len.ensures.value c.store_entry.ensures.reads_back)

pub returns-clause-either : goal.returns-clause-either
returns-clause-either g c =
    let layout = g.E.SlotEntry.layout in
    let old = (g.K.Keeper.store c.args.keeper.now).records in
    let new = (g.K.Keeper.store c.store_entry.new.keeper).records in
    push_either layout c.args.self.now old new c.args.entry c.requires.kept c.requires.room
    (subst (λ (k : ℕ). (new ≡ old) ⊎ (new ≡ insert old (slot_of layout k) (layout.octets k c.args.entry))) c.len.ensures.value
    c.store_entry.ensures.store.old_or_new)
    (subst (λ (k : ℕ). layout.read k (layout.octets k c.args.entry) ≡ Some (layout.rest c.args.entry)) c.len.ensures.value c.store_entry.ensures.reads_back)
