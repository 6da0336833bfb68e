-- Over any history the rank of an address only rises.
use Rattle.std.proofs.Common.{◌≡◌, ◌⊎◌, inl, inr, ℕ, ◌<◌, Bool, true, false, cond, Option, Some, None, Ok, length, get_or, refl, sym, ap, subst, ◌∙◌, arith}
use Rattle.std.specs.Prelude.{IfSome}
use Rattle.std.specs.Option.{option_map}
use Rattle.std.proofs.lemmas.List.{length-map, get_or-map}
use Rattle.plc_base.specs.Keeper.{Records}
use Rattle.store_tables.specs.SlotTables as slots
use Rattle.store_tables.proofs.OpenedTables.{reopened}
use Rattle.routing_set.specs.declared.rank.Rank.{Rank}
use Rattle.routing_set.specs.declared.entry.RoutingEntry.{RoutingEntry}
use Rattle.routing_set.specs.Ranks.{IsAtLeast}
use Rattle.routing_set.specs.RoutingSet.{Routing, ranks, AgreesWith, floors_in, routing_of, opened, at_rest, held, is_better, is_full, offered, half_offered}
use Rattle.routing_set.specs.RoutingSet.{offered_entry, ended, without_route}
use Rattle.routing_set.specs.Histories.{IsRouting, Leads, begins, offers, fails, ends, restarts, elsewhere}
use Rattle.routing_set.proofs.RankOrder.{at_least_trans}
use Rattle.routing_set.proofs.RouteEnds.{kept_ended}
use Rattle.routing_set.proofs.RisingRanks.{entered_sound, half_sound, entered_rises, half_rises, ended_held}

-- where routes end, the addresses stay apart
pub ended_sound : (test : RoutingEntry → Bool) (r : Routing) → IsRouting r → IsRouting (ended test r)
ended_sound test r h = record {
  entries = record {
    distinct = λ i j d lt within.
        let last : j < length r.entries = omega (arith, length-map r.entries f) in
        let a = ap (λ (e : RoutingEntry). e.address) (get_or-map f r.entries i d d (omega arith)) ∙ same (test (get_or r.entries i d)) (get_or r.entries i d) in
        let b = ap (λ (e : RoutingEntry). e.address) (get_or-map f r.entries j d d last) ∙ same (test (get_or r.entries j d)) (get_or r.entries j d) in
        λ eq. h.entries.distinct i j d lt last (sym a ∙ eq ∙ b);
    short = omega (arith, h.entries.short, length-map r.entries f);
  };
  sixteen = h.sixteen;
}
  where
    f : RoutingEntry → RoutingEntry
    f e = cond (test e) (without_route e) e

    same : (b : Bool) (e : RoutingEntry) → (cond b (without_route e) e).address ≡ e.address
    same true e = refl
    same false e = refl

-- what was kept is opened again
pub opened_again : (r : Routing) (records : Records) → slots.IsTable ranks r.entries → AgreesWith r records → opened records ≡ Ok (at_rest r)
opened_again r records h kept =
    ap (λ o. routing_of o (slots.opened ranks records)) kept.floors
    ∙ ap (routing_of (Some r.floors)) (reopened ranks records r.entries (λ _. refl) h kept.ranks)

-- What the records give stands above what was known first.
record Holds (first : Routing) (was : Option Routing) (records : Records) : Type 0 where
  routing : Routing
  sound : IsRouting routing
  kept : AgreesWith routing records
  above : (dest : ℕ) → IsAtLeast (held routing dest) (held first dest)
  live : IfSome was (λ r. r ≡ routing)

offers_holds : (first now : Routing) (dest : ℕ) (rank : Rank) (next at : ℕ) (old new : Records) → Holds first (Some now) old → is_better now dest rank ≡ true
    → is_full now dest at ≡ false
    → AgreesWith (offered now dest rank next at) new → Holds first (Some (offered now dest rank next at)) new
offers_holds first now dest rank next at old new h better room kept =
    let sound = subst (λ (r : Routing). IsRouting r) (sym h.live) h.sound in
    let above = subst (λ (r : Routing). (d : ℕ) → IsAtLeast (held r d) (held first d)) (sym h.live) h.above in
    let e : RoutingEntry = offered_entry dest rank next at in
    record {
      routing = offered now dest rank next at;
      sound = entered_sound now e at sound room;
      kept = kept;
      above = λ d. at_least_trans (held (offered now dest rank next at) d) (held now d) (held first d) (entered_rises now e at sound better room d) (above d);
      live = refl;
    }

fails_holds : (first now : Routing) (dest : ℕ) (rank : Rank) (next at : ℕ) (old new : Records) → Holds first (Some now) old → is_better now dest rank ≡ true
    → is_full now dest at ≡ false
    → AgreesWith now new ⊎ AgreesWith (half_offered now dest at) new ⊎ AgreesWith (offered now dest rank next at) new → Holds first None new
fails_holds first now dest rank next at old new h better room either = by_either either
  where
    sound : IsRouting now
    sound = subst (λ (r : Routing). IsRouting r) (sym h.live) h.sound

    above : (d : ℕ) → IsAtLeast (held now d) (held first d)
    above = subst (λ (r : Routing). (d : ℕ) → IsAtLeast (held r d) (held first d)) (sym h.live) h.above

    by_either : AgreesWith now new ⊎ AgreesWith (half_offered now dest at) new ⊎ AgreesWith (offered now dest rank next at) new → Holds first None new
    by_either (inl kept) = record { routing = now; sound = sound; kept = kept; above = above; live = tt }
    by_either (inr (inl kept)) = record {
      routing = half_offered now dest at;
      sound = half_sound now dest at sound;
      kept = kept;
      above = λ d. at_least_trans (held (half_offered now dest at) d) (held now d) (held first d) (half_rises now dest at sound d) (above d);
      live = tt;
    }
    by_either (inr (inr kept)) =
        let k = offers_holds first now dest rank next at old new h better room kept in
        record { routing = k.routing; sound = k.sound; kept = k.kept; above = k.above; live = tt }

ends_holds : (first now : Routing) (records : Records) (test : RoutingEntry → Bool) → Holds first (Some now) records
    → Holds first (Some (ended test now)) records
ends_holds first now records test h =
    let sound = subst (λ (r : Routing). IsRouting r) (sym h.live) h.sound in
    let kept = subst (λ (r : Routing). AgreesWith r records) (sym h.live) h.kept in
    let above = subst (λ (r : Routing). (d : ℕ) → IsAtLeast (held r d) (held first d)) (sym h.live) h.above in
    record {
      routing = ended test now;
      sound = ended_sound test now sound;
      kept = kept_ended test now records kept;
      above = λ d. subst (λ (k : Rank). IsAtLeast k (held first d)) (sym (ended_held test now d)) (above d);
      live = refl;
    }

restarts_holds : (first : Routing) (was : Option Routing) (now : Routing) (records : Records) → Holds first was records → opened records ≡ Ok now
    → Holds first (Some now) records
restarts_holds first was now records h e =
    let is : Ok (at_rest h.routing) ≡ Ok now = sym (opened_again h.routing records h.sound.entries h.kept) ∙ e in
    let same : now ≡ at_rest h.routing = cc (is) in
    let every : RoutingEntry → Bool = λ _. true in
    record {
      routing = at_rest h.routing;
      sound = ended_sound every h.routing h.sound;
      kept = kept_ended every h.routing records h.kept;
      above = λ d. subst (λ (k : Rank). IsAtLeast k (held first d)) (sym (ended_held every h.routing d)) (h.above d);
      live = same;
    }

holds : (first : Routing) (was : Option Routing) (records : Records) → Leads first was records → Holds first was records
holds first was records (begins r sound kept) = record { routing = first; sound = sound; kept = kept; above = λ d. inl refl; live = refl }
holds first was records (offers now dest rank next at old new before better room kept) =
    offers_holds first now dest rank next at old new (holds first (Some now) old before) better room kept
holds first was records (fails now dest rank next at old new before better room either) =
    fails_holds first now dest rank next at old new (holds first (Some now) old before) better room either
holds first was records (ends now r test before) = ends_holds first now r test (holds first (Some now) r before)
holds first was records (restarts w now r before e) = restarts_holds first w now r (holds first w r before) e
holds first was records (elsewhere w old new before floors others) =
    let h = holds first w old before in
    record {
      routing = h.routing;
      sound = h.sound;
      kept = record {
        floors = ap floors_in floors ∙ h.kept.floors;
        ranks = record {
          short = h.kept.ranks.short;
          each = λ place within. ap (option_map (ranks.read place)) (others place within) ∙ h.kept.ranks.each place within;
        };
      };
      above = h.above;
      live = h.live;
    }

-- what is known now stands above what was known first
pub now_is_above : (first now : Routing) (records : Records) → Leads first (Some now) records → (dest : ℕ) → IsAtLeast (held now dest) (held first dest)
now_is_above first now records history dest =
    let h = holds first (Some now) records history in
    subst (λ (r : Routing). IsAtLeast (held r dest) (held first dest)) (sym h.live) (h.above dest)
