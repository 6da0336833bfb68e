-- The link of two nodes is what the events say of these two.
use Rattle.std.proofs.Common.{◌≡◌, ℕ, Bool, true, false, cond, ◌&&◌, List, [], ◌∷◌, Option, Some, None, refl, sym, ap, ◌∙◌, arith}
use Rattle.std.proofs.lemmas.Bool.Decides.{nat_tests}
use Rattle.std.proofs.lemmas.Map.Lookups.{exact_pairs, exact_unsigned}
use Rattle.std.specs.declared.cmp.Ordering.{Ordering}
use Rattle.std.specs.declared.cmp.Ordering.TheVariants.{Less, Equal, Greater}
use Rattle.std.specs.Ordering.{is_eq, match_ordering, nat_cmp, ordering_then}
use Rattle.std.specs.BTreeMap.{insert_entry, is_at}
use Rattle.std.specs.Map.{lookup}
use Rattle.line_record.specs.declared.act.Act.{Act}
use Rattle.line_record.specs.declared.act.Act.TheVariants as acts
use Rattle.line_record.specs.declared.recorded.RecordedEvent.{RecordedEvent}
use Rattle.line_record.specs.declared.recorded.RecordedFlight.{RecordedFlight}
use Rattle.line_record.specs.RunRecords.{numbered}
use Rattle.run_maps.specs.declared.links.Link.{Link}
use Rattle.run_maps.specs.Links.{frame_added, heard_by, link_at, links_from, links_of, pair_cmp, route_added, with_act, with_frame, with_route}
use Rattle.run_maps.specs.Laws.{LinksHold, are, if_frame, if_route, link_after, link_over}

-- # Pairs of nodes

same_number : (x : ℕ) → nat_cmp x x ≡ Equal
same_number x = grind (arith, nat_tests)

same_pair : (x : ℕ × ℕ) → pair_cmp x x ≡ Equal
same_pair x = ap (λ o. ordering_then o (nat_cmp x.1 x.1)) (same_number x.0) ∙ same_number x.1

exact : (x y : ℕ × ℕ) → pair_cmp x y ≡ Equal → x ≡ y
exact x y h = exact_pairs nat_cmp nat_cmp exact_unsigned exact_unsigned x y h

apart : (q k e : ℕ × ℕ) (o p : Ordering) → pair_cmp q k ≡ o → pair_cmp q e ≡ p → pair_cmp k e ≡ Greater → (is_eq o && is_eq p) ≡ false
apart q k e Less p ho hp h = refl
apart q k e Greater p ho hp h = refl
apart q k e Equal Less ho hp h = refl
apart q k e Equal Greater ho hp h = refl
apart q k e Equal Equal ho hp h = ap is_eq (sym (same_pair k) ∙ ap (pair_cmp k) (sym (exact q k ho) ∙ exact q e hp) ∙ h)

-- # A link more

abbrev found : ℕ × ℕ → List ((ℕ × ℕ) × Link) → Option Link
found q links = lookup (is_at (pair_cmp q)) links

twice : (b : Bool) (v w l : Option Link) → cond b v (cond b w l) ≡ cond b v l
twice true v w l = refl
twice false v w l = refl

swap : (a b : Bool) (v w l : Option Link) → (a && b) ≡ false → cond b w (cond a v l) ≡ cond a v (cond b w l)
swap true true v w l h = ap (λ t. cond t w v) h
swap true false v w l h = refl
swap false true v w l h = refl
swap false false v w l h = refl

by_order : (q k : ℕ × ℕ) (v : Link) (e : (ℕ × ℕ) × Link) (es : List ((ℕ × ℕ) × Link)) (o : Ordering) → pair_cmp k e.0 ≡ o
    → found q (insert_entry pair_cmp es k v) ≡ cond (are q k) (Some v) (found q es)
    → found q (match_ordering o ((k, v) ∷ e ∷ es) ((e.0, v) ∷ es) (e ∷ insert_entry pair_cmp es k v))
    ≡ cond (are q k) (Some v) (found q (e ∷ es))
by_order q k v e es Less h rest = refl
by_order q k v e es Equal h rest =
    sym (twice (are q e.0) (Some v) (Some e.1) (found q es))
    ∙ ap (λ x. cond (are q x) (Some v) (cond (are q e.0) (Some e.1) (found q es))) (sym (exact k e.0 h))
by_order q k v e es Greater h rest =
    ap (λ l. cond (are q e.0) (Some e.1) l) rest
    ∙ swap (are q k) (are q e.0) (Some v) (Some e.1) (found q es) (apart q k e.0 (pair_cmp q k) (pair_cmp q e.0) refl refl h)

inserted : (q k : ℕ × ℕ) (v : Link) (es : List ((ℕ × ℕ) × Link))
    → found q (insert_entry pair_cmp es k v) ≡ cond (are q k) (Some v) (found q es)
inserted q k v [] = refl
inserted q k v (e ∷ es) = by_order q k v e es (pair_cmp k e.0) refl (inserted q k v es)

-- what was found under an equal pair is what was found under this one
adjusted : (q k : ℕ × ℕ) (o : Ordering) → pair_cmp q k ≡ o → (f : Option Link → Link) (links : List ((ℕ × ℕ) × Link)) (l : Option Link)
    → cond (is_eq o) (Some (f (found k links))) l ≡ cond (is_eq o) (Some (f (found q links))) l
adjusted q k Less h f links l = refl
adjusted q k Greater h f links l = refl
adjusted q k Equal h f links l = ap (λ (x : ℕ × ℕ). Some (f (found x links))) (sym (exact q k h))

added : (f : Option Link → Link) (q k : ℕ × ℕ) (links : List ((ℕ × ℕ) × Link))
    → found q (insert_entry pair_cmp links k (f (found k links))) ≡ cond (are q k) (Some (f (found q links))) (found q links)
added f q k links = inserted q k (f (found k links)) links ∙ adjusted q k (pair_cmp q k) refl f links (found q links)

-- # Events

by_flight : (o : Option RecordedFlight) (node cost : ℕ) (q : ℕ × ℕ) (links : List ((ℕ × ℕ) × Link))
    → found q (heard_by o node cost links) ≡ if_frame o q node cost (found q links)
unfolding frame_added link_at
by_flight None node cost q links = refl
by_flight (Some flight) node cost q links = added (λ l. with_frame l cost) q (flight.from, node) links

by_route : (a b : ℕ) (q : ℕ × ℕ) (links : List ((ℕ × ℕ) × Link)) → found q (route_added a b links) ≡ if_route q (a, b) (found q links)
unfolding route_added link_at
by_route a b q links = added with_route q (a, b) links

by_act : (act : Act) (flights : List RecordedFlight) (q : ℕ × ℕ) (links : List ((ℕ × ℕ) × Link))
    → found q (with_act act flights links) ≡ link_after act flights q (found q links)
by_act (acts.Deliver flight node cost) flights q links = by_flight (numbered flights flight) node cost q links
by_act (acts.Near a b) flights q links = by_route b a q (route_added a b links) ∙ ap (if_route q (b, a)) (by_route a b q links)
by_act (acts.Coordinator eui) flights q links = refl
by_act (acts.Meter eui) flights q links = refl
by_act (acts.Depot node) flights q links = refl
by_act (acts.Counter node) flights q links = refl
by_act (acts.Number node) flights q links = refl
by_act (acts.Allow node) flights q links = refl
by_act (acts.RandomOctets node) flights q links = refl
by_act (acts.Join node agent) flights q links = refl
by_act (acts.Leave node) flights q links = refl
by_act (acts.Send from to octets) flights q links = refl
by_act (acts.Inject node cost octets) flights q links = refl
by_act (acts.Lose flight) flights q links = refl
by_act (acts.Break node next) flights q links = refl
by_act (acts.Tick seconds) flights q links = refl
by_act (acts.Restart node) flights q links = refl
by_act (acts.Cut node nth keeps_new) flights q links = refl
by_act (acts.Rekey index) flights q links = refl
by_act (acts.Challenge node) flights q links = refl
by_act (acts.Activate node index) flights q links = refl
by_act (acts.Kick node) flights q links = refl
by_act (acts.Show node) flights q links = refl
by_act acts.Checks flights q links = refl
by_act (acts.Bcast node octets) flights q links = refl
by_act (acts.Scan node) flights q links = refl
by_act (acts.Choose node k) flights q links = refl
by_act (acts.Path from to) flights q links = refl

by_events : (flights : List RecordedFlight) (events : List RecordedEvent) (q : ℕ × ℕ) (links : List ((ℕ × ℕ) × Link))
    → found q (links_from flights events links) ≡ link_over flights events q (found q links)
by_events flights [] q links = refl
by_events flights (e ∷ events) q links =
    by_events flights events q (with_act e.act flights links) ∙ ap (link_over flights events q) (by_act e.act flights q links)

pub links_hold : LinksHold
unfolding links_of link_at
links_hold events flights pair = by_events flights events pair []
