use Rattle.std.proofs.Common.{◌≡◌, ◌<◌, ℕ, List, Bool, Option, Some, None, true, false, length, sym, ap, subst, inl, ◌∙◌, arith}
use Rattle.std.specs.Prelude.{is_some, IfSome}
use Rattle.std.proofs.lemmas.Bool.Decides.{nat_tests}
use Rattle.store_tables.specs.Writes.{Wrote}
use Rattle.store_tables.specs.SlotTables.{IsStored}
use Rattle.store_tables.proofs.SlotTables.{free_new, stored_elsewhere}
use Rattle.routing_set.specs.declared.entry.RoutingEntry.{RoutingEntry}
use Rattle.routing_set.specs.Laws.{Among}
use Rattle.routing_set.specs.RoutingSet.{Routing, ranks, place_of, first_to_go, writes_of}
use Rattle.routing_set.proofs.Offers.{one_goes, gone_among, place_there, gone_stops, gone_goes_on, err_not_ok}
use Rattle.routing_set.proofs.routing_set.RoutingSet.replace.Goals as goal

pub unwrap-gone-requires : goal.unwrap-gone-requires
unwrap-gone-requires g c = ap is_some c.first_to_go.ensures.entry ∙ one_goes c.args.now c.args.self.now.entries c.requires.old

pub unwrap-place-requires : goal.unwrap-place-requires
unwrap-place-requires g c =
    let items = c.self.inside.table in
    let gone = c.unwrap-gone.result in
    let first : first_to_go c.args.now c.args.self.now.entries ≡ Some gone = sym c.first_to_go.ensures.entry ∙ c.unwrap-gone.ensures in
    let same : c.args.self.now.entries ≡ items = ap (λ (r : Routing). r.entries) (sym c.self.view_is) in
    let among : Among items gone = subst (λ (es : List RoutingEntry). Among es gone) same (gone_among c.args.now c.args.self.now.entries gone first) in
    ap is_some (c.place_of.ensures.place ∙ ap (place_of items) c.key.ensures.value) ∙ place_there items gone among

pub set_stored-requires : goal.set_stored-requires
set_stored-requires g c =
    let items = c.self.inside.table in
    let old = g.K.Keeper.store c.args.keeper.now in
    let mid = g.K.Keeper.store c.raise_floor.new.keeper in
    let place = c.unwrap-place.result in
    let within : place < length items = subst (λ (o : Option ℕ). IfSome o (λ p. p < length items)) c.unwrap-place.ensures c.place_of.ensures.within in
    let new : place_of items c.args.entry.address ≡ None = ap (λ (r : Routing). place_of r.entries c.args.entry.address) c.self.view_is ∙ c.requires.new in
    let kept : IsStored ranks items old.records = subst (λ (r : Routing). IsStored ranks r.entries old.records) (sym c.self.view_is) c.requires.kept.ranks in (
      omega arith,
      (
        within,
        (
          free_new ranks items c.args.entry.address place (ap is_some new),
          (
            grind (arith, nat_tests, c.requires.valid),
            stored_elsewhere ranks items old.records mid.records 5 5 kept c.raise_floor.ensures.elsewhere (inl (omega arith)),
          ),
        ),
      ),
    )

pub returns-in_err-floors-clause-store : goal.returns-in_err-floors-clause-store
returns-in_err-floors-clause-store g c =
    let r : Routing = record { entries = c.self.inside.table; floors = c.self.inside.floors } in
    let gone = c.unwrap-gone.result in
    let s = g.K.Keeper.store c.args.keeper.now in
    let t = g.K.Keeper.store c.raise_floor.new.keeper in
    let at : place_of r.entries gone.address
    ≡ Some c.unwrap-place.result = ap (place_of r.entries) (sym c.key.ensures.value) ∙ sym c.place_of.ensures.place ∙ c.unwrap-place.ensures in
    let first : first_to_go c.args.now c.args.self.now.entries ≡ Some gone = sym c.first_to_go.ensures.entry ∙ c.unwrap-gone.ensures in
    let stops : Wrote s (writes_of r (Some gone) c.args.entry) false t = gone_stops r gone c.args.entry c.unwrap-place.result s t at
    c.in_err-floors.ensures.store in
    let moved : Wrote s (writes_of c.args.self.now (Some gone) c.args.entry) false t = subst
    (λ (k : Routing). Wrote s (writes_of k (Some gone) c.args.entry) false t) c.self.view_is stops in
    let named : Wrote s (writes_of c.args.self.now (first_to_go c.args.now c.args.self.now.entries) c.args.entry) false t
    = subst (λ (o : Option RoutingEntry). Wrote s (writes_of c.args.self.now o c.args.entry) false t) (sym first) moved in
    subst (λ (b : Bool). Wrote s (writes_of c.args.self.now (first_to_go c.args.now c.args.self.now.entries) c.args.entry) b t)
    (sym (err_not_ok _ c.from_residual.ensures.0)) named

pub returns-in_err-set_stored-clause-store : goal.returns-in_err-set_stored-clause-store
returns-in_err-set_stored-clause-store g c =
    let r : Routing = record { entries = c.self.inside.table; floors = c.self.inside.floors } in
    let gone = c.unwrap-gone.result in
    let s = g.K.Keeper.store c.args.keeper.now in
    let m = g.K.Keeper.store c.raise_floor.new.keeper in
    let t = g.K.Keeper.store c.set_stored.new.keeper in
    let at : place_of r.entries gone.address
    ≡ Some c.unwrap-place.result = ap (place_of r.entries) (sym c.key.ensures.value) ∙ sym c.place_of.ensures.place ∙ c.unwrap-place.ensures in
    let first : first_to_go c.args.now c.args.self.now.entries ≡ Some gone = sym c.first_to_go.ensures.entry ∙ c.unwrap-gone.ensures in
    let stops : Wrote s (writes_of r (Some gone) c.args.entry) false t
    = gone_goes_on r gone c.args.entry c.unwrap-place.result false s m t at c.in_ok-floors.ensures.store c.in_err-set_stored.ensures.store in
    let moved : Wrote s (writes_of c.args.self.now (Some gone) c.args.entry) false t = subst
    (λ (k : Routing). Wrote s (writes_of k (Some gone) c.args.entry) false t) c.self.view_is stops in
    let named : Wrote s (writes_of c.args.self.now (first_to_go c.args.now c.args.self.now.entries) c.args.entry) false t
    = subst (λ (o : Option RoutingEntry). Wrote s (writes_of c.args.self.now o c.args.entry) false t) (sym first) moved in
    subst (λ (b : Bool). Wrote s (writes_of c.args.self.now (first_to_go c.args.now c.args.self.now.entries) c.args.entry) b t)
    (sym (err_not_ok _ c.from_residual-in_err-set_stored.ensures.0)) named

pub returns-clause-store : goal.returns-clause-store
returns-clause-store g c =
    let r : Routing = record { entries = c.self.inside.table; floors = c.self.inside.floors } in
    let gone = c.unwrap-gone.result in
    let s = g.K.Keeper.store c.args.keeper.now in
    let m = g.K.Keeper.store c.raise_floor.new.keeper in
    let t = g.K.Keeper.store c.set_stored.new.keeper in
    let at : place_of r.entries gone.address
    ≡ Some c.unwrap-place.result = ap (place_of r.entries) (sym c.key.ensures.value) ∙ sym c.place_of.ensures.place ∙ c.unwrap-place.ensures in
    let first : first_to_go c.args.now c.args.self.now.entries ≡ Some gone = sym c.first_to_go.ensures.entry ∙ c.unwrap-gone.ensures in
    let done : Wrote s (writes_of r (Some gone) c.args.entry) true t
    = gone_goes_on r gone c.args.entry c.unwrap-place.result true s m t at c.in_ok-floors.ensures.store c.in_ok-set_stored.ensures.store in
    let moved : Wrote s (writes_of c.args.self.now (Some gone) c.args.entry) true t = subst
    (λ (k : Routing). Wrote s (writes_of k (Some gone) c.args.entry) true t) c.self.view_is done in
    subst (λ (o : Option RoutingEntry). Wrote s (writes_of c.args.self.now o c.args.entry) true t) (sym first) moved
