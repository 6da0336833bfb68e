-- The account of ranks and routes: what a step of a node may do to them. The laws of a line need no more of a step.
use Rattle.std.proofs.Common.{◌≡◌, ◌⊎◌, inl, inr, ℕ, Bool, true, false, Option, Some, None, refl, sym, ap, subst, ◌∙◌}
use Rattle.std.specs.Option.{option_map}
use Rattle.std.proofs.lemmas.Option.{none-some, same_Some}
use Rattle.routing_set.specs.declared.rank.Rank.{Rank}
use Rattle.routing_set.specs.declared.entry.Route.{Route}
use Rattle.routing_set.specs.declared.entry.RoutingEntry.{RoutingEntry}
use Rattle.routing_set.specs.Ranks.{IsAtLeast}
use Rattle.routing_set.specs.RoutingSet.{Routing, rank_of, route_of, next_of, held, is_better, is_full, entered, offered_entry, offered, half_offered, ended}
use Rattle.routing_set.specs.Histories.{IsRouting}
use Rattle.routing_set.proofs.RisingRanks.{entered_sound, half_sound, entered_rises, half_rises, ended_held, ended_ranks, ended_routes}
use Rattle.routing_set.proofs.Histories.{ended_sound}
use Rattle.line_laws.proofs.RankOrder.{at_least_trans}
use Rattle.line_laws.proofs.RankSteps.{After, Here, Same, Gone, entered_after, half_same}

-- a valid route was there at the same kept rank, or it began by an offer of this rank
pub data RouteCause (C : ℕ → ℕ → Rank → Type 0) (first now : Routing) (dest next : ℕ) : Type 0 where
  Stays : next_of first dest ≡ Some next → rank_of now dest ≡ rank_of first dest → RouteCause C first now dest next
  Began : (rank : Rank) → rank_of now dest ≡ Some rank → C next dest rank → RouteCause C first now dest next

-- Own holds of the addresses that are the node's own, C of what a neighbour offers of the way to an address.
pub record Account (Own : ℕ → Type 0) (C : ℕ → ℕ → Rank → Type 0) (first now : Routing) : Type 0 where
  pub sound : IsRouting now
  -- each rank is as before or better
  pub above : (dest : ℕ) → IsAtLeast (held now dest) (held first dest)
  -- an own address has none still
  pub not_own : (dest : ℕ) → Own dest → rank_of first dest ≡ None → rank_of now dest ≡ None
  pub routes : (dest next : ℕ) → next_of now dest ≡ Some next → RouteCause C first now dest next

-- the same kept rank
cause_moves : {C : ℕ → ℕ → Rank → Type 0} (first t s : Routing) (dest next : ℕ) → rank_of s dest ≡ rank_of t dest → RouteCause C first t dest next
    → RouteCause C first s dest next
cause_moves first t s dest next same (Stays e k) = Stays e (same ∙ k)
cause_moves first t s dest next same (Began rank e c) = Began rank (same ∙ e) c

module _ {Own : ℕ → Type 0} {C : ℕ → ℕ → Rank → Type 0} where
  pub account_same : (t : Routing) → IsRouting t → Account Own C t t
  account_same t sound = record { sound = sound; above = λ dest. inl refl; not_own = λ dest own none. none; routes = λ dest next e. Stays e refl }

  -- an account after an account
  pub account_trans : (r s t : Routing) → Account Own C r s → Account Own C s t → Account Own C r t
  account_trans r s t a b = record {
    sound = b.sound;
    above = λ dest. at_least_trans _ _ _ (b.above dest) (a.above dest);
    not_own = λ dest own none. b.not_own dest own (a.not_own dest own none);
    routes = λ dest next e. by_cause dest next (b.routes dest next e);
  }
    where
      by_cause : (dest next : ℕ) → RouteCause C s t dest next → RouteCause C r t dest next
      by_cause dest next (Stays e k) = cause_moves r s t dest next k (a.routes dest next e)
      by_cause dest next (Began rank e c) = Began rank e c

  -- # An offer that is taken

  entered_account : (t : Routing) (e : RoutingEntry) (route : Route) (now : ℕ) → IsRouting t → is_better t e.address e.rank ≡ true
      → is_full t e.address now ≡ false
      → ¬ (Own e.address) → e.route ≡ Some route → C route.next e.address e.rank → Account Own C t (entered t e now)
  entered_account t e route now sound better room apart is cause = record {
    sound = entered_sound t e now sound room;
    above = entered_rises t e now sound better room;
    not_own = λ dest own none. kept dest own none (entered_after t e now sound room dest);
    routes = λ dest next k. began dest next k (entered_after t e now sound room dest);
  }
    where
      kept : (dest : ℕ) → Own dest → rank_of t dest ≡ None → After t (entered t e now) e dest → rank_of (entered t e now) dest ≡ None
      kept dest own none (Here same rank by) = absurd (apart (subst Own same own))
      kept dest own none (Same ne rank by) = rank ∙ none
      kept dest own none (Gone ne rank by) = rank

      next_is : (dest : ℕ) (o : Option Route) → route_of (entered t e now) dest ≡ o → next_of (entered t e now) dest ≡ option_map (λ (x : Route). x.next) o
      next_is dest o same = ap (option_map (λ (x : Route). x.next)) same

      began : (dest next : ℕ) → next_of (entered t e now) dest ≡ Some next → After t (entered t e now) e dest → RouteCause C t (entered t e now) dest next
      began dest next k (Here same rank by) =
          let hop : route.next ≡ next = same_Some _ _ (sym (next_is dest (Some route) (by ∙ is)) ∙ k) in
          Began e.rank rank (subst (λ (n : ℕ). C n dest e.rank) hop (subst (λ (d : ℕ). C route.next d e.rank) (sym same) cause))
      began dest next k (Same ne rank by) = Stays (sym (next_is dest (route_of t dest) by) ∙ k) rank
      began dest next k (Gone ne rank by) = absurd (none-some next (sym (next_is dest None by) ∙ k))

  pub offered_account : (t : Routing) (dest : ℕ) (rank : Rank) (by now : ℕ) → IsRouting t → is_better t dest rank ≡ true → is_full t dest now ≡ false
      → ¬ (Own dest) → C by dest rank → Account Own C t (offered t dest rank by now)
  offered_account t dest rank by now sound better room apart cause =
      entered_account t (offered_entry dest rank by now) (record { next = by; offered = now }) now sound better room apart refl cause

  -- between the floors and the rank
  pub half_account : (t : Routing) (dest now : ℕ) → IsRouting t → Account Own C t (half_offered t dest now)
  half_account t dest now sound = record {
    sound = half_sound t dest now sound;
    above = half_rises t dest now sound;
    not_own = λ d own none. (half_same t dest now d).0 ∙ none;
    routes = λ d next e. let same = half_same t dest now d in Stays (sym (ap (option_map (λ (x : Route). x.next)) same.1) ∙ e) same.0;
  }

  -- routes end
  pub ended_account : (t : Routing) (test : RoutingEntry → Bool) → IsRouting t → Account Own C t (ended test t)
  ended_account t test sound = record {
    sound = ended_sound test t sound;
    above = λ dest. inl (ended_held test t dest);
    not_own = λ dest own none. ended_ranks test t dest ∙ none;
    routes = λ dest next e. by_route dest next e (ended_routes test t dest);
  }
    where
      by_route : (dest next : ℕ) → next_of (ended test t) dest ≡ Some next
          → (route_of (ended test t) dest ≡ route_of t dest) ⊎ (route_of (ended test t) dest ≡ None) → RouteCause C t (ended test t) dest next
      by_route dest next e (inl same) = Stays (sym (ap (option_map (λ (x : Route). x.next)) same) ∙ e) (ended_ranks test t dest)
      by_route dest next e (inr none) = absurd (none-some next (sym (ap (option_map (λ (x : Route). x.next)) none) ∙ e))
