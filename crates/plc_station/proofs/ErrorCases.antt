-- What hearing a route error comes to, by what is tested.
use Rattle.std.proofs.Common.{◌≡◌, ℕ, true, false, Some, None, refl, sym, ap, ◌∙◌}
use Rattle.std.specs.Prelude.{◌==◌, nat_lt}
use Rattle.loadng_messages.specs.declared.message.Message.TheVariants.{Rerr}
use Rattle.routing_set.specs.RoutingSet.{Routing, without_next_to, next_of}
use Rattle.routing_set.specs.Laws.{hop_after}
use Rattle.routing_set.proofs.LostRoutes.{hop_left}
use Rattle.node_rules.specs.declared.heard.Heard.{Heard}
use Rattle.node_rules.specs.declared.heard.Heard.TheVariants.{Broken}
use Rattle.node_rules.specs.declared.refusal.Dropped.TheVariants.{CounterSpent}
use Rattle.node_rules.specs.Memory.{StationMemory, next_hop}
use Rattle.node_rules.specs.Drafts.{alone, empty_draft, goes, send_message, with_routing_by, counters_left, refused, sealing}
use Rattle.node_rules.specs.HearingRules.{dropped, loses, hear_error}
use Rattle.plc_station.proofs.Ways.{sealed_spent, sealed_fits, never_less}

pub none_left : (r : Routing) (lost by to : ℕ) → None ≡ next_of r to → None ≡ next_of (without_next_to r lost by) to
none_left r lost by to e = ap (hop_after (to == lost) by) e ∙ sym (hop_left r lost by to)

pub some_left : (r : Routing) (lost by to hop : ℕ) → Some hop ≡ next_of r to → hop_after (to == lost) by (Some hop) ≡ next_of (without_next_to r lost by) to
some_left r lost by to hop e = ap (hop_after (to == lost) by) e ∙ sym (hop_left r lost by to)

-- # The ways

pub error_here : (l : StationMemory) (own by lost to : ℕ) → true ≡ (to == own) → sealing alone dropped (loses lost by l) Broken ≡ hear_error l own by lost to
unfolding with_routing_by empty_draft
error_here l own by lost to e = rw (← e) (sealed_fits dropped l (loses lost by l) Broken 0 refl (never_less (counters_left l)))

pub error_ends : (l : StationMemory) (own by lost to : ℕ) → false ≡ (to == own) → None ≡ next_hop (loses lost by l).memory to
    → sealing alone dropped (loses lost by l) Broken ≡ hear_error l own by lost to
unfolding with_routing_by empty_draft
error_ends l own by lost to e none = rw (← e, ← none) (sealed_fits dropped l (loses lost by l) Broken 0 refl (never_less (counters_left l)))

pub error_spent : (l : StationMemory) (own by lost to hop : ℕ) → false ≡ (to == own) → Some hop ≡ next_hop (loses lost by l).memory to
    → true ≡ nat_lt (counters_left l) 1 → refused {H = Heard} dropped l CounterSpent ≡ hear_error l own by lost to
unfolding with_routing_by empty_draft goes
error_spent l own by lost to hop e some few = rw (← e, ← some) (sealed_spent dropped l (send_message hop (Rerr lost to) (loses lost by l)) Broken 1 refl few)

pub error_on : (l : StationMemory) (own by lost to hop : ℕ) → false ≡ (to == own) → Some hop ≡ next_hop (loses lost by l).memory to
    → false ≡ nat_lt (counters_left l) 1
    → sealing alone dropped (send_message hop (Rerr lost to) (loses lost by l)) Broken ≡ hear_error l own by lost to
unfolding with_routing_by empty_draft goes
error_on l own by lost to hop e some few = rw (← e, ← some) (sealed_fits dropped l (send_message hop (Rerr lost to) (loses lost by l)) Broken 1 refl few)
