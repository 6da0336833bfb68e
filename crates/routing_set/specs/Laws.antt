-- What holds of ranks, routes and floors, whatever is offered.
use Rattle.std.specs.Prelude.{◌≡◌, ◌⊎◌, ℕ, ◌<◌, ◌≤◌, ◌^◌, Bool, true, false, ◌==◌, ◌&&◌, if◌then◌else◌, List, slice_get, get_or, All, Option, Some, None}
use Rattle.std.specs.Prelude.{MatchOption}
use Rattle.std.specs.List.{list_all}
use Rattle.plc_base.specs.Keeper.{Records}
use Rattle.store_tables.specs.Writes.{puts_of}
use Rattle.store_tables.specs.LeadingPuts.{PutsLead}
use Rattle.routing_set.specs.declared.rank.Rank.{Rank}
use Rattle.routing_set.specs.declared.entry.RoutingEntry.{RoutingEntry}
use Rattle.routing_set.specs.Ranks.{IsAtLeast}
use Rattle.routing_set.specs.RoutingSet.{Routing, AgreesWith, held, rank_of, route_of, next_of, is_full, is_fresh, goes_before, first_to_go, offered_entry}
use Rattle.routing_set.specs.RoutingSet.{offer_writes, offered, ended, without_next_to}
use Rattle.routing_set.specs.OwnNumber as numbers
use Rattle.routing_set.specs.Histories.{IsRouting, Leads}

-- The rank of each address, kept or a floor, is no lower than it was at any time before, over any offers, failed puts, routes
-- that ended and new starts.
abbrev pub RanksOnlyRise : Type 0
RanksOnlyRise =
    (first now : Routing) (records : Records) → Leads first (Some now) records
    → (dest : ℕ) → IsAtLeast (held now dest) (held first dest)

-- After an offer that was taken each route is as before or has ended, or it is the offered one.
abbrev pub OffersBeginTheirRoute : Type 0
OffersBeginTheirRoute =
    (routing : Routing) (dest : ℕ) (rank : Rank) (next now : ℕ) → IsRouting routing → is_full routing dest now ≡ false
    → (to : ℕ)
    → (route_of (offered routing dest rank next now) to ≡ route_of routing to)
    ⊎ (route_of (offered routing dest rank next now) to ≡ None)
    ⊎ ((to ≡ dest) × (route_of (offered routing dest rank next now) to ≡ Some (record { next = next; offered = now })))

-- Where routes end no other one begins, and every rank and floor stays.
pub record Ends (before after : Routing) (to : ℕ) : Type 0 where
  pub route : (route_of after to ≡ route_of before to) ⊎ (route_of after to ≡ None)
  pub rank : rank_of after to ≡ rank_of before to
  pub held : held after to ≡ held before to
  pub floors : after.floors ≡ before.floors

abbrev pub EndingsKeepRanks : Type 0
EndingsKeepRanks = (test : RoutingEntry → Bool) (routing : Routing) (to : ℕ) → Ends routing (ended test routing) to

-- An entry stands in a table.
pub record Among (entries : List RoutingEntry) (e : RoutingEntry) : Type 0 where
  pub place : ℕ
  pub there : slice_get entries place ≡ Some e

-- It stands in the table and is not fresh, and none that is not fresh goes before it.
pub record IsFirstToGo (now : ℕ) (entries : List RoutingEntry) (e : RoutingEntry) : Type 0 where
  pub there : Among entries e
  pub old : is_fresh now e ≡ false
  pub first : (other : RoutingEntry) → Among entries other → is_fresh now other ≡ false → goes_before other e ≡ false

-- The entry that is forgotten is the first that may be, and there is one exactly where not all are fresh.
abbrev pub TheFirstIsForgotten : Type 0
TheFirstIsForgotten =
    (now : ℕ) (entries : List RoutingEntry)
    → MatchOption (first_to_go now entries) (list_all (is_fresh now) entries ≡ true) (IsFirstToGo now entries)

-- An offer that is taken is the rank of its address, and the route to it.
pub record IsOffered (routing : Routing) (dest : ℕ) (rank : Rank) (next now : ℕ) : Type 0 where
  pub rank_is : rank_of (offered routing dest rank next now) dest ≡ Some rank
  pub route_is : route_of (offered routing dest rank next now) dest ≡ Some (record { next = next; offered = now })

abbrev pub AnOfferIsFound : Type 0
AnOfferIsFound =
    (routing : Routing) (dest : ℕ) (rank : Rank) (next now : ℕ) → IsRouting routing → is_full routing dest now ≡ false
    → IsOffered routing dest rank next now

-- # A route that ends

-- the next hop that is left where the route to the lost address by a neighbour has ended
abbrev pub hop_after : Bool → ℕ → Option ℕ → Option ℕ
hop_after is_lost by None = None
hop_after is_lost by (Some hop) = if is_lost && (hop == by) then None else Some hop

-- Where the route to a lost address by a neighbour ends, each next hop stays but that one.
abbrev pub OtherHopsStay : Type 0
OtherHopsStay =
    (routing : Routing) (lost by to : ℕ)
    → next_of (without_next_to routing lost by) to ≡ hop_after (to == lost) by (next_of routing to)

-- # Puts that fail

-- An entry whose record is read back.
pub record IsReadableEntry (e : RoutingEntry) : Type 0 where
  pub address : e.address < 0xFFFE
  pub low : 1 ≤ e.rank.number
  pub number : e.rank.number < 2 ^ 16
  pub cost : e.rank.cost < 2 ^ 16

-- the number of a rank has two octets
abbrev pub HasNumber : RoutingEntry → Type 0
HasNumber e = e.rank.number < 2 ^ 16

-- Ranks and floors are in the range of their records.
pub record IsRanged (routing : Routing) : Type 0 where
  pub sound : IsRouting routing
  pub floors : (class : ℕ) → get_or routing.floors class 0 < 2 ^ 16
  pub ranks : All HasNumber routing.entries

-- They are what the records give.
pub record IsRoutingIn (routing : Routing) (records : Records) : Type 0 where
  pub ranged : IsRanged routing
  pub kept : AgreesWith routing records

-- Whatever becomes of the puts of an offer, some ranks and floors are what the records give.
abbrev pub OffersLead : Type 0
OffersLead =
    (routing : Routing) (dest : ℕ) (rank : Rank) (next now : ℕ) → IsReadableEntry (offered_entry dest rank next now)
    → is_full routing dest now ≡ false
    → PutsLead IsRoutingIn routing (offer_writes routing dest rank next now) (offered routing dest rank next now)

-- A number is what the records give, and its limit has a record.
pub record IsNumberIn (numbering : numbers.Numbering) (records : Records) : Type 0 where
  pub kept : numbers.AgreesWith numbering records
  pub low : 1 ≤ numbering.limit
  pub fits : numbering.limit < 2 ^ 16

-- Whatever becomes of the put of a number, some number is what the records give.
abbrev pub NumbersLead : Type 0
NumbersLead =
    (numbering : numbers.Numbering) → numbering.last < 65535
    → PutsLead IsNumberIn numbering (puts_of (numbers.advance_write numbering)) (numbers.advanced numbering)
