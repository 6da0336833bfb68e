-- What holds of a line of nodes, and that every event keeps it.
use Rattle.std.proofs.Common.{◌≡◌, ◌≢◌, ⊎_elim, ℕ, zero, suc, ◌≤◌, ◌<◌, Bool, true, false, List, [], ◌∷◌, ◌++◌, length, map, set, Option, Some, None, refl, sym}
use Rattle.std.proofs.Common.{ap, ◌∙◌, subst, arith}
use Rattle.std.specs.Prelude.{AllPairs, All, ◌==◌, slice_get}
use Rattle.std.proofs.lemmas.Bool.{cases_eq, eqb-false, eqb-true}
use Rattle.std.proofs.lemmas.List.{length-set}
use Rattle.std.proofs.lemmas.List.Elements.{All-nil, All-set, All-append, All-map}
use Rattle.std.proofs.lemmas.Option.{same_Some}
use Rattle.store_tables.proofs.SlotTables.{slice_get-set, slice_get-set_other}
use Rattle.node_rules.specs.Ciphers.{Ciphers}
use Rattle.node_rules.specs.Frames.{spelled}
use Rattle.node_rules.specs.Memory.{Memory, Coordinator, Node}
use Rattle.line_rules.specs.Worlds.{World, Flight, node_at}
use Rattle.node_rules.specs.NodeSteps.{NodeStep}
use Rattle.line_rules.specs.Steps.{world_after, flights_of, flight_by}
use Rattle.line_rules.specs.Nonces.{CounterRises}
use Rattle.frame_counters.proofs.Limits.{stored_limit-kept}
use Rattle.line_laws.proofs.Frontiers.{next_of, frontier}
use Rattle.line_laws.proofs.CounterOrder.{IsBelow, Grown, grows}
use Rattle.line_laws.specs.Stores.{IsKept, HasEui}
use Rattle.line_laws.specs.Owed.{KeepsRanges}
use Rattle.line_laws.proofs.KeptMemory.{Left}
use Rattle.line_laws.proofs.Nodes.{NodeOk, DidFits, DidOk}
pub use Rattle.line_laws.specs.Lines.{NodeFits, FlightFits, Rising, WorldOk}

pub at_place : {A : Type 0} (P : A → Type 0) (xs : List A) (k : ℕ) (x : A) → slice_get xs k ≡ Some x → All P xs → P x
at_place P [] k x e all = absurd (cc)
at_place P (y ∷ ys) zero x e all = subst P (same_Some _ _ e) (all 0 y (omega arith))
at_place P (y ∷ ys) (suc k) x e all = at_place P ys k x e (λ i d lt. all (suc i) d (omega arith))

pub within : {A : Type 0} (xs : List A) (k : ℕ) (x : A) → slice_get xs k ≡ Some x → k < length xs
within [] k x e = absurd (cc)
within (y ∷ ys) zero x e = omega arith
within (y ∷ ys) (suc k) x e = let less = within ys k x e in omega arith

flights_none : {A : Type 0} (ciphers : Ciphers) (w : World) (number : ℕ) (d : NodeStep A) → w.flights ≡ [] → d.frames ≡ []
    → (world_after ciphers w number d).flights ≡ []
unfolding world_after
flights_none ciphers w number d e f =
    ap (λ fs. fs ++ flights_of ciphers number d) e ∙ ap (λ frames. map (λ frame. flight_by number (spelled ciphers frame)) frames) f

-- what a node did goes into the world
pub after_with : {A : Type 0} (ciphers : Ciphers) (w : World) (number : ℕ) (x : Node) (d : NodeStep A) → WorldOk w → node_at w number ≡ Some x → DidFits x d
    → Rising (world_after ciphers w number d) → (w.running ≡ false → d.frames ≡ []) → WorldOk (world_after ciphers w number d)
unfolding world_after
after_with ciphers w number x d ok there did rising still = record {
  nodes = All-set NodeOk w.nodes number d.node did.node ok.nodes;
  fits = All-set NodeFits w.nodes number d.node same_fits ok.fits;
  first = by_number (number == 0) refl;
  count = let same = length-set w.nodes number d.node in let few = ok.count in omega arith;
  rising = rising;
  quiet =
      λ e. ap (λ fs. fs ++ flights_of ciphers number d) (ok.quiet e) ∙ ap (λ frames. map (λ frame. flight_by number (spelled ciphers frame)) frames) (still e);
}
  where
    old : NodeFits x
    old = at_place NodeFits w.nodes number x there ok.fits

    same_fits : NodeFits d.node
    same_fits = record { eui = subst HasEui (sym did.eui) old.eui; psk = λ psk e. old.psk psk (sym did.role ∙ e) }

    by_number : (b : Bool) → (number == 0) ≡ b → (c : Node) → slice_get (set w.nodes number d.node) 0 ≡ Some c → c.role ≡ Coordinator
    by_number true e c is =
        let zero_is : number ≡ 0 = eqb-true _ _ e in
        let got : slice_get (set w.nodes number d.node) number ≡ Some d.node = slice_get-set w.nodes number d.node (within w.nodes number x there) in
        let this : d.node ≡ c = same_Some _ _ (sym got ∙ ap (slice_get (set w.nodes number d.node)) zero_is ∙ is) in
        ap (λ (y : Node). y.role) (sym this) ∙ did.role ∙ ok.first x (ap (slice_get w.nodes) (sym zero_is) ∙ there)
    by_number false e c is =
        let ne : 0 ≢ number = λ z. eqb-false _ _ e (sym z) in
        ok.first c (sym (slice_get-set_other w.nodes number 0 d.node ne) ∙ is)

-- no flight rises
pub none_rising : (w : World) → w.flights ≡ [] → Rising w
none_rising w e = record {
  below = λ number x there. subst (All (IsBelow number (frontier x))) (sym e) (All-nil (IsBelow number (frontier x)));
  pairs = subst (AllPairs CounterRises) (sym e) none_pairs;
  homes = subst (All (λ (f : Flight). f.from < length w.nodes)) (sym e) (All-nil (λ (f : Flight). f.from < length w.nodes));
}
  where
    none_pairs : AllPairs CounterRises []
    none_pairs i j d lt inside = absurd (omega arith)

-- in the setup, where nothing flies yet
pub after_fits : {A : Type 0} (ciphers : Ciphers) (w : World) (number : ℕ) (x : Node) (d : NodeStep A) → WorldOk w → node_at w number ≡ Some x → DidFits x d
    → w.flights ≡ [] → d.frames ≡ [] → WorldOk (world_after ciphers w number d)
after_fits ciphers w number x d ok there did none still =
    after_with ciphers w number x d ok there did (none_rising (world_after ciphers w number d) (flies none still)) (λ e. still)
  where
    flies : w.flights ≡ [] → d.frames ≡ [] → (world_after ciphers w number d).flights ≡ []
    flies e f = flights_none ciphers w number d e f

frontier_cap : (x : Node) → NodeOk x → frontier x ≤ 4294967295
frontier_cap x ok = by_memory x.memory ok.kept
  where
    by_memory : (o : Option Memory) → Left (IsKept x.role) x.store.records o → next_of o x.store.records ≤ 4294967295
    by_memory None k =
        let e = stored_limit-kept k.memory.station.counter x.store.records k.kept.station.counter in let fits = k.kept.station.range.counter in omega arith
    by_memory (Some m) k = let fits = k.station.range.counter in let below = k.station.counter.below in omega arith

after_rising : {A : Type 0} (ciphers : Ciphers) → KeepsRanges ciphers → (w : World) (number : ℕ) (x : Node) (d : NodeStep A) → WorldOk w
    → node_at w number ≡ Some x → DidOk x d → Rising (world_after ciphers w number d)
unfolding world_after
after_rising ciphers fits w number x d ok there did = record {
  below = below;
  pairs = grown.pairs;
  homes = All-append (λ (f : Flight). f.from < length (set w.nodes number d.node)) w.flights (flights_of ciphers number d) old_homes new_homes;
}
  where
    grown : Grown ciphers fits number (w.flights ++ flights_of ciphers number d) (frontier d.node)
    grown = grows ciphers fits number w.flights d.frames (frontier x) (frontier d.node) (frontier_cap d.node did.node)
        (record { pairs = ok.rising.pairs; below = ok.rising.below number x there }) did.rises

    same : length (set w.nodes number d.node) ≡ length w.nodes
    same = length-set w.nodes number d.node

    old_homes : All (λ (f : Flight). f.from < length (set w.nodes number d.node)) w.flights
    old_homes k e lt = let h = ok.rising.homes k e lt in omega (arith, same)

    here : number < length (set w.nodes number d.node)
    here = let h = within w.nodes number x there in omega (arith, same)

    new_homes : All (λ (f : Flight). f.from < length (set w.nodes number d.node)) (flights_of ciphers number d)
    new_homes =
        All-map (λ (f : Flight). f.from < length (set w.nodes number d.node)) (λ frame. flight_by number (spelled ciphers frame)) d.frames (λ k e lt. here)

    others : (n : ℕ) → n ≢ number → (bound : ℕ) → All (IsBelow n bound) (flights_of ciphers number d)
    others n ne bound = All-map (IsBelow n bound) (λ frame. flight_by number (spelled ciphers frame)) d.frames (λ k e lt home. absurd (ne (sym home)))

    below : (n : ℕ) (y : Node) → slice_get (set w.nodes number d.node) n ≡ Some y → All (IsBelow n (frontier y)) (w.flights ++ flights_of ciphers number d)
    below n y is = ⊎_elim
        (λ (e : n ≡ number).
        let got : d.node ≡ y = same_Some _ _
        (sym (slice_get-set w.nodes number d.node (within w.nodes number x there)) ∙ ap (slice_get (set w.nodes number d.node)) (sym e) ∙ is) in
        subst (λ k. All (IsBelow k (frontier y)) (w.flights ++ flights_of ciphers number d)) (sym e)
        (subst (λ (z : Node). All (IsBelow number (frontier z)) (w.flights ++ flights_of ciphers number d)) got grown.below))
        (λ (e : n ≢ number). All-append (IsBelow n (frontier y)) w.flights (flights_of ciphers number d)
        (ok.rising.below n y (sym (slice_get-set_other w.nodes number n d.node e) ∙ is)) (others n e (frontier y))) (cases_eq n number)

pub ok_after : {A : Type 0} (ciphers : Ciphers) → KeepsRanges ciphers → (w : World) (number : ℕ) (x : Node) (d : NodeStep A) → WorldOk w
    → node_at w number ≡ Some x → DidOk x d → (w.running ≡ false → d.frames ≡ []) → WorldOk (world_after ciphers w number d)
ok_after ciphers fits w number x d ok there did still =
    after_with ciphers w number x d ok there (record { node = did.node; role = did.role; eui = did.eui; few = did.few; marked = did.marked })
    (after_rising ciphers fits w number x d ok there did) still

-- the same nodes and flights
pub same_rising : (w v : World) → Rising w → v.nodes ≡ w.nodes → v.flights ≡ w.flights → Rising v
same_rising w v r e f = record {
  below = λ number x there. subst (All (IsBelow number (frontier x))) (sym f) (r.below number x (sym (ap (λ ns. slice_get ns number) e) ∙ there));
  pairs = subst (AllPairs CounterRises) (sym f) r.pairs;
  homes = subst (λ fs. All (λ (g : Flight). g.from < length v.nodes) fs) (sym f)
      (subst (λ ns. All (λ (g : Flight). g.from < length ns) w.flights) (sym e) r.homes);
}

-- clock and counts do not matter
pub counts_ok : (w v : World) → WorldOk w → v.nodes ≡ w.nodes → v.flights ≡ w.flights → (v.running ≡ false → w.running ≡ false) → WorldOk v
counts_ok w v ok e f running = record {
  nodes = rw e ok.nodes;
  fits = rw e ok.fits;
  first = λ c is. ok.first c (sym (ap (λ ns. slice_get ns 0) e) ∙ is);
  count = rw e ok.count;
  rising = same_rising w v ok.rising e f;
  quiet = λ still. f ∙ ok.quiet (running still);
}
