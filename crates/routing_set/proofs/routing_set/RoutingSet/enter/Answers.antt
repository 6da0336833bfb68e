use Rattle.std.proofs.Common.{◌≡◌, ◌∷◌, [], List, Some, None, true, false, length, sym, ap, subst, ◌∙◌}
use Rattle.std.specs.Prelude.{◌==◌, is_ok}
use Rattle.plc_base.specs.Keeper.{Write}
use Rattle.store_tables.specs.Writes.{Wrote}
use Rattle.store_tables.specs.SlotTables.{entry_write}
use Rattle.routing_set.specs.declared.entry.RoutingEntry.{RoutingEntry}
use Rattle.routing_set.specs.RoutingSet.{Routing, ranks, AgreesWith, place_of, entered, half_entered, entry_writes, Keeps}
use Rattle.routing_set.proofs.Offers.{room_old, entered_held, entered_new, entered_first, writes_held, writes_new, writes_first, held_keeps, new_keeps}
use Rattle.routing_set.proofs.Offers.{first_keeps, stored_ok, ok_is, wrote_last}
use Rattle.routing_set.proofs.routing_set.RoutingSet.enter.Goals as goal

pub replace-requires-clause-old : goal.replace-requires-clause-old
replace-requires-clause-old g c =
    let r : Routing = c.args.self.now in
    let new : place_of r.entries c.args.entry.address ≡ None
    = ap (λ (k : Routing). place_of k.entries c.args.entry.address) (sym c.self.view_is) ∙ ap (place_of c.self.inside.table) (sym c.key.ensures.value)
    ∙ sym c.in-None.ensures.place in
    let whole : (length r.entries == 64) ≡ true = ap (λ (k : Routing). length k.entries == 64) (sym c.self.view_is) ∙ sym c.if-is_full.ensures in
    room_old r c.args.entry.address c.args.now new whole c.requires.room

-- the address has a place

pub returns-in-Some-clause-routing : goal.returns-in-Some-clause-routing
returns-in-Some-clause-routing g c =
    let r : Routing = record { entries = c.self.inside.table; floors = c.self.inside.floors } in
    let at : place_of r.entries c.args.entry.address ≡ Some c.in-Some.place = ap (place_of r.entries) (sym c.key.ensures.value) ∙ sym c.in-Some.ensures.place in
    let named = sym (entered_held r c.args.entry c.args.now c.in-Some.place at)
    ∙ ap (λ (k : Routing). entered k c.args.entry c.args.now) c.self.view_is in
    ok_is (List RoutingEntry) Routing _ _ (λ es. record { entries = es; floors = c.self.inside.floors }) _ c.set_stored.result c.set_stored.ensures.table named

pub returns-in-Some-clause-store : goal.returns-in-Some-clause-store
returns-in-Some-clause-store g c =
    let r : Routing = record { entries = c.self.inside.table; floors = c.self.inside.floors } in
    let s = g.K.Keeper.store c.args.keeper.now in
    let t = g.K.Keeper.store c.set_stored.new.keeper in
    let at : place_of r.entries c.args.entry.address ≡ Some c.in-Some.place = ap (place_of r.entries) (sym c.key.ensures.value) ∙ sym c.in-Some.ensures.place in
    let e : RoutingEntry = c.args.entry in
    let named : entry_write ranks c.in-Some.place e ∷ [] ≡ entry_writes c.args.self.now c.args.entry c.args.now
    = sym (writes_held r c.args.entry c.args.now c.in-Some.place at)
    ∙ ap (λ (k : Routing). entry_writes k c.args.entry c.args.now) c.self.view_is in
    subst (λ (ws : List Write). Wrote s ws (is_ok c.set_stored.result) t) named
    (wrote_last s t (entry_write ranks c.in-Some.place e) _ c.set_stored.ensures.store)

pub returns-in-Some-clause-keeps : goal.returns-in-Some-clause-keeps
returns-in-Some-clause-keeps g c =
    let r : Routing = record { entries = c.self.inside.table; floors = c.self.inside.floors } in
    let s = g.K.Keeper.store c.args.keeper.now in
    let t = g.K.Keeper.store c.set_stored.new.keeper in
    let at : place_of r.entries c.args.entry.address ≡ Some c.in-Some.place = ap (place_of r.entries) (sym c.key.ensures.value) ∙ sym c.in-Some.ensures.place in
    let kept : AgreesWith r s.records = subst (λ (k : Routing). AgreesWith k s.records) (sym c.self.view_is) c.requires.kept in
    let stored = stored_ok c.set_stored.result _ _ t.records c.set_stored.ensures.table c.set_stored.ensures.kept in
    let keeps = held_keeps r c.args.entry c.args.now c.in-Some.place (is_ok c.set_stored.result) s.records t.records at kept stored c.set_stored.ensures.either
    c.set_stored.ensures.elsewhere in
    subst (λ (k : Routing). Keeps k (half_entered k c.args.entry.address c.args.now) (entered k c.args.entry c.args.now) (is_ok c.set_stored.result) s.records
    t.records) c.self.view_is keeps

-- another one is forgotten

pub returns-in-None-clause-routing : goal.returns-in-None-clause-routing
returns-in-None-clause-routing g c =
    let r : Routing = c.args.self.now in
    let new : place_of r.entries c.args.entry.address ≡ None
    = ap (λ (k : Routing). place_of k.entries c.args.entry.address) (sym c.self.view_is) ∙ ap (place_of c.self.inside.table) (sym c.key.ensures.value)
    ∙ sym c.in-None.ensures.place in
    let whole : (length r.entries == 64) ≡ true = ap (λ (k : Routing). length k.entries == 64) (sym c.self.view_is) ∙ sym c.if-is_full.ensures in
    ok_is Routing Routing _ _ (λ k. k) _ c.replace.result c.replace.ensures.routing (sym (entered_first r c.args.entry c.args.now new whole))

pub returns-in-None-clause-store : goal.returns-in-None-clause-store
returns-in-None-clause-store g c =
    let r : Routing = c.args.self.now in
    let s = g.K.Keeper.store c.args.keeper.now in
    let t = g.K.Keeper.store c.replace.new.keeper in
    let new : place_of r.entries c.args.entry.address ≡ None
    = ap (λ (k : Routing). place_of k.entries c.args.entry.address) (sym c.self.view_is) ∙ ap (place_of c.self.inside.table) (sym c.key.ensures.value)
    ∙ sym c.in-None.ensures.place in
    let whole : (length r.entries == 64) ≡ true = ap (λ (k : Routing). length k.entries == 64) (sym c.self.view_is) ∙ sym c.if-is_full.ensures in
    subst (λ (ws : List Write). Wrote s ws (is_ok c.replace.result) t) (sym (writes_first r c.args.entry c.args.now new whole)) c.replace.ensures.store

pub returns-in-None-clause-keeps : goal.returns-in-None-clause-keeps
returns-in-None-clause-keeps g c =
    let r : Routing = c.args.self.now in
    let s = g.K.Keeper.store c.args.keeper.now in
    let t = g.K.Keeper.store c.replace.new.keeper in
    let new : place_of r.entries c.args.entry.address ≡ None
    = ap (λ (k : Routing). place_of k.entries c.args.entry.address) (sym c.self.view_is) ∙ ap (place_of c.self.inside.table) (sym c.key.ensures.value)
    ∙ sym c.in-None.ensures.place in
    let whole : (length r.entries == 64) ≡ true = ap (λ (k : Routing). length k.entries == 64) (sym c.self.view_is) ∙ sym c.if-is_full.ensures in
    first_keeps r c.args.entry c.args.now (is_ok c.replace.result) s.records t.records new whole c.replace.ensures.keeps

-- a place is empty

pub returns-in-None-2-clause-routing : goal.returns-in-None-2-clause-routing
returns-in-None-2-clause-routing g c =
    let r : Routing = record { entries = c.self.inside.table; floors = c.self.inside.floors } in
    let new : place_of r.entries c.args.entry.address ≡ None = ap (place_of r.entries) (sym c.key.ensures.value) ∙ sym c.in-None-2.ensures.place in
    let short : (length r.entries == 64) ≡ false = sym c.if-is_full.ensures in
    let named = sym (entered_new r c.args.entry c.args.now new short)
    ∙ ap (λ (k : Routing). entered k c.args.entry c.args.now) c.self.view_is in
    ok_is (List RoutingEntry) Routing _ _ (λ es. record { entries = es; floors = c.self.inside.floors }) _ c.push_stored.result c.push_stored.ensures.table
    named

pub returns-in-None-2-clause-store : goal.returns-in-None-2-clause-store
returns-in-None-2-clause-store g c =
    let r : Routing = record { entries = c.self.inside.table; floors = c.self.inside.floors } in
    let s = g.K.Keeper.store c.args.keeper.now in
    let t = g.K.Keeper.store c.push_stored.new.keeper in
    let new : place_of r.entries c.args.entry.address ≡ None = ap (place_of r.entries) (sym c.key.ensures.value) ∙ sym c.in-None-2.ensures.place in
    let short : (length r.entries == 64) ≡ false = sym c.if-is_full.ensures in
    let e : RoutingEntry = c.args.entry in
    let named : entry_write ranks (length r.entries) e ∷ [] ≡ entry_writes c.args.self.now c.args.entry c.args.now
    = sym (writes_new r c.args.entry c.args.now new short)
    ∙ ap (λ (k : Routing). entry_writes k c.args.entry c.args.now) c.self.view_is in
    subst (λ (ws : List Write). Wrote s ws (is_ok c.push_stored.result) t) named
    (wrote_last s t (entry_write ranks (length r.entries) e) _ c.push_stored.ensures.store)

pub returns-in-None-2-clause-keeps : goal.returns-in-None-2-clause-keeps
returns-in-None-2-clause-keeps g c =
    let r : Routing = record { entries = c.self.inside.table; floors = c.self.inside.floors } in
    let s = g.K.Keeper.store c.args.keeper.now in
    let t = g.K.Keeper.store c.push_stored.new.keeper in
    let new : place_of r.entries c.args.entry.address ≡ None = ap (place_of r.entries) (sym c.key.ensures.value) ∙ sym c.in-None-2.ensures.place in
    let short : (length r.entries == 64) ≡ false = sym c.if-is_full.ensures in
    let kept : AgreesWith r s.records = subst (λ (k : Routing). AgreesWith k s.records) (sym c.self.view_is) c.requires.kept in
    let stored = stored_ok c.push_stored.result _ _ t.records c.push_stored.ensures.table c.push_stored.ensures.kept in
    let keeps = new_keeps r c.args.entry c.args.now (is_ok c.push_stored.result) s.records t.records new short kept stored c.push_stored.ensures.either
    c.push_stored.ensures.elsewhere in
    subst (λ (k : Routing). Keeps k (half_entered k c.args.entry.address c.args.now) (entered k c.args.entry c.args.now) (is_ok c.push_stored.result) s.records
    t.records) c.self.view_is keeps
