-- What a list has after a call, and that storing it is storing the puts of the call.
use Rattle.std.proofs.Common.{◌≡◌, true, false, List, [], ◌∷◌, ◌++◌, Some, sym, ap, subst, ◌∙◌}
use Rattle.std.specs.Option.{option_map}
use Rattle.std.proofs.lemmas.List.{append-nil, append_assoc}
use Rattle.std.proofs.lemmas.Option.{same_Some}
use Rattle.plc_base.specs.Keeper.{Store, Write, listed_after}
use Rattle.store_tables.specs.Writes.{Writes, Wrote}
use Rattle.node_rules.specs.DeferredPuts.{ListedPutsAreThePlans, ListedPutsAreDeferred}
use Rattle.node_rules.proofs.DeferredPuts.{deferred, wrote_known}

-- puts of which none failed are at the end of the list, in order
listed_by : (ws : List Write) (s t : Store) (before : List Write) → Writes s ws true t → s.listed ≡ Some before → t.listed ≡ Some (before ++ ws)
listed_by [] s t before h e = ap (λ (k : Store). k.listed) h.1 ∙ e ∙ ap Some (sym (append-nil before))
listed_by (w ∷ ws) s t before (true, mid, p, rest, u) e =
    let more : mid.listed ≡ Some (before ++ w ∷ []) = p.listed ∙ ap (option_map (listed_after true w)) e in
    listed_by ws mid t (before ++ w ∷ []) rest more ∙ ap Some (append_assoc before (w ∷ []) ws)
listed_by (w ∷ ws) s t before (false, mid, p, u, stop) e = absurd (cc (stop.0))

pub listed_puts : {M A : Type 0} → ListedPutsAreThePlans M A
listed_puts {M} {A} old new p answer out before c running e =
    listed_by p.puts old.store new.store before (wrote_known old new p answer out c running).by e

pub listed_deferred : {M A : Type 0} → ListedPutsAreDeferred M A
listed_deferred {M} {A} old new p answer out puts stored kept done c running none listed same wrote =
    let all : puts ≡ p.puts = same_Some _ _ (sym listed ∙ listed_puts old new p answer out [] c running none) in
    deferred old new p answer out stored kept done c running same (subst (λ (ws : List Write). Wrote stored ws done kept) all wrote)
