-- The ranks that a node keeps, the floors of those that it forgot, and its valid routes.
use Rattle.std.specs.Prelude.{◌≡◌, ◌⊎◌, ◌≢◌, ℕ, ◌*◌, ◌%◌, ◌<◌, Bool, true, false, not, ◌&&◌, ◌||◌, ◌==◌, nat_lt, if◌then◌else◌, List, [], ◌∷◌, ◌++◌, length}
use Rattle.std.specs.Prelude.{map, set, drop, fold, slice_index, replicate, is_some, Option, Some, None, unwrap_or, Result, Ok, Err, refl}
use Rattle.std.specs.List.{range_with_len, list_all, flat_map}
use Rattle.std.specs.Bool.{OnTrue}
use Rattle.std.specs.Option.{option_map, option_map_or, option_and_then}
use Rattle.std.specs.Coded.{Coded, code_by, coded×, coded_ℕ, coded_list, coded_option}
use Rattle.std.specs.FinMap.{get}
use Rattle.byteorder.specs.Endian.{big_number, big_bytes}
use Rattle.plc_base.specs.Keeper.{Records, Write}
use Rattle.plc_base.specs.Times.{is_within}
use Rattle.store_tables.specs.Writes.{puts_of}
use Rattle.store_tables.specs.SlotTables as slots
use Rattle.plc_base.specs.declared.keeper.BadStore.{BadStore}
use Rattle.routing_set.specs.declared.fault.Offered.{Offered}
use Rattle.routing_set.specs.declared.fault.Offered.TheVariants.{Better, NotBetter}
use Rattle.routing_set.specs.declared.fault.OfferFault.{OfferFault}
use Rattle.routing_set.specs.declared.fault.OfferFault.TheVariants.{RoutesFull, Store}
use Rattle.routing_set.specs.declared.rank.Rank.{Rank}
use Rattle.routing_set.specs.declared.entry.Route.{Route}
use Rattle.routing_set.specs.declared.entry.RoutingEntry.{RoutingEntry}
use Rattle.routing_set.specs.Ranks.{rank_code, beats}
use Rattle.routing_set.specs.declared.entry.TheConstants.{ROUTE_FRESH_TIME, ROUTE_VALID_TIME}

-- What a node knows of ways to other addresses.
pub record Routing : Type 0 where
  -- each address with its kept rank and its valid route, in the order of the slots
  pub entries : List RoutingEntry
  -- the 16 floors, class 0 first
  pub floors : List ℕ

-- it is kept as the lists of its fields
abbrev pub routing_code : Coded Routing
routing_code =
    code_by (List RoutingEntry × List ℕ) (coded× (coded_list entry_code) (coded_list coded_ℕ))
    (λ r. (r.entries, r.floors)) (λ p. record { entries = p.0; floors = p.1 }) (λ _. refl)
  where
    route_code : Coded Route
    route_code =
        code_by (ℕ × ℕ) (coded× coded_ℕ coded_ℕ)
        (λ t. (t.next, t.offered)) (λ p. record { next = p.0; offered = p.1 }) (λ _. refl)

    entry_code : Coded RoutingEntry
    entry_code =
        code_by (ℕ × (Rank × Option Route)) (coded× coded_ℕ (coded× rank_code (coded_option route_code)))
        (λ e. (e.address, (e.rank, e.route)))
        (λ p. record { address = p.0; rank = p.1.0; route = p.1.1 }) (λ _. refl)

-- # The records

abbrev pub ranked : ℕ → ℕ → ℕ → Option RoutingEntry
ranked address number cost =
    if nat_lt address 0xFFFE
    then (if number == 0
    then None
    else Some (record { address = address; rank = record { number = number; cost = cost }; route = None }))
    else None

-- the entry that a record gives: an address, a number, which is not 0, and a cost, each in 2 octets
abbrev pub entry_in : List ℕ → Option RoutingEntry
entry_in octets =
    if length octets == 6
    then ranked (big_number 2 octets) (big_number 2 (drop 2 octets)) (big_number 2 (drop 4 octets))
    else None

-- the record of an entry
abbrev pub octets_of : RoutingEntry → List ℕ
octets_of e = big_bytes 2 e.address ++ (big_bytes 2 e.rank.number ++ big_bytes 2 e.rank.cost)

-- an entry as a new start finds it, and where its route ends
abbrev pub without_route : RoutingEntry → RoutingEntry
without_route e = record e { route = None }

-- how the ranks are stored
abbrev pub ranks : slots.Layout RoutingEntry
ranks = record {
  first = 0x0200;
  slots = 64;
  read = λ _ octets. entry_in octets;
  octets = λ _ e. octets_of e;
  storable = λ e. nat_lt 0 e.rank.number;
  rest = without_route;
  key = λ e. e.address;
}

-- the slot of the floors
abbrev pub floor_slot : ℕ
floor_slot = 5

-- the floors that 32 octets give, each in 2 of them
unfoldable pub floors_of : List ℕ → List ℕ
floors_of octets = map (λ class. big_number 2 (drop (2 * class) octets)) (range_with_len 0 16)

-- the floors that the record of the slot gives: 16 zeros where none is there, and no reading where it has not 32 octets
unfoldable pub floors_in : Option (List ℕ) → Option (List ℕ)
floors_in None = Some (replicate 16 0)
floors_in (Some octets) = if length octets == 32 then Some (floors_of octets) else None

-- the record of the floors
abbrev pub floors_octets : List ℕ → List ℕ
floors_octets floors = flat_map (big_bytes 2) floors

-- the put of the floors
abbrev pub floors_write : List ℕ → Write
floors_write floors = record { slot = floor_slot; octets = floors_octets floors }

-- these are the floors that the records give
abbrev pub AreFloorsOf : List ℕ → Records → Type 0
AreFloorsOf floors records = floors_in (get records floor_slot) ≡ Some floors

-- the floors are those of the records from before, or new ones
abbrev pub AreOldOrNewFloors : List ℕ → Records → Records → Type 0
AreOldOrNewFloors floors old new =
    (floors_in (get new floor_slot) ≡ floors_in (get old floor_slot)) ⊎ AreFloorsOf floors new

-- What is held as stored is what the records give, and no record of a rank stands after them.
pub record AgreesWith (routing : Routing) (records : Records) : Type 0 where
  pub floors : floors_in (get records floor_slot) ≡ Some routing.floors
  pub ranks : slots.IsStored ranks routing.entries records

abbrev pub routing_of : Option (List ℕ) → Result (List RoutingEntry) BadStore → Result Routing BadStore
routing_of None entries = Err (record { slot = floor_slot })
routing_of (Some floors) (Err bad) = Err bad
routing_of (Some floors) (Ok entries) = Ok (record { entries = entries; floors = floors })

-- nothing is known of ways to other addresses
abbrev pub empty_routing : Routing
empty_routing = record { entries = []; floors = replicate 16 0 }

-- what the records give: each rank with no valid route
abbrev pub opened : Records → Result Routing BadStore
opened records = routing_of (floors_in (get records floor_slot)) (slots.opened ranks records)

-- why the records have no reading
abbrev pub IsBad : Records → ℕ → Type 0
IsBad records slot =
    ((slot ≡ floor_slot) × (floors_in (get records floor_slot) ≡ None)) ⊎ slots.IsBad ranks records slot

-- no slot but that of the floors and those of the ranks has changed
abbrev pub SameElsewhere : Records → Records → Type 0
SameElsewhere old new = (slot : ℕ) → slot ≢ 5 → (slot < 0x0200) ⊎ (0x023F < slot) → get new slot ≡ get old slot

-- # Looking up

-- the class of an address
abbrev pub class_of : ℕ → ℕ
class_of address = address % 16

-- the floor of a class
abbrev pub floor_of : Routing → ℕ → ℕ
floor_of routing class = slice_index routing.floors class

-- the place of an address in the table
abbrev pub place_of : List RoutingEntry → ℕ → Option ℕ
place_of entries address = slots.place_of ranks entries address

-- the entry of an address
abbrev pub entry_of : List RoutingEntry → ℕ → Option RoutingEntry
entry_of entries address = slots.entry_of ranks entries address

-- the kept rank of an address
unfoldable pub rank_of : Routing → ℕ → Option Rank
rank_of routing dest = option_map (λ e. e.rank) (entry_of routing.entries dest)

-- the valid route to an address
unfoldable pub route_of : Routing → ℕ → Option Route
route_of routing dest = option_and_then (λ e. e.route) (entry_of routing.entries dest)

-- the next hop of the valid route to an address
abbrev pub next_of : Routing → ℕ → Option ℕ
next_of routing dest = option_map (λ route. route.next) (route_of routing dest)

-- the rank of an address: the kept one, or its class's floor at cost 0 where none is kept
unfoldable pub held : Routing → ℕ → Rank
held routing dest = unwrap_or (rank_of routing dest) (record { number = floor_of routing (class_of dest); cost = 0 })

-- whether a rank beats that of an address
abbrev pub is_better : Routing → ℕ → Rank → Bool
is_better routing dest rank = beats rank (held routing dest)

-- # Forgetting

-- whether an entry has a valid route that is fresh
abbrev pub is_fresh : ℕ → RoutingEntry → Bool
is_fresh now e = option_map_or (λ route. is_within ROUTE_FRESH_TIME now route.offered) e.route false

-- which of two numbers with their addresses comes first: the lower one, of equal ones that of the lower address
abbrev pub comes_first : ℕ → ℕ → ℕ → ℕ → Bool
comes_first m a n b = nat_lt m n || (m == n && nat_lt a b)

-- whether the first of two entries with these routes is forgotten before the second: one with no valid route is, then the
-- lower number, and else the earlier offer; of equal ones the lower address
abbrev pub before_by : RoutingEntry → RoutingEntry → Option Route → Option Route → Bool
before_by a b None None = comes_first a.rank.number a.address b.rank.number b.address
before_by a b None (Some t) = true
before_by a b (Some s) None = false
before_by a b (Some s) (Some t) = comes_first s.offered a.address t.offered b.address

abbrev pub goes_before : RoutingEntry → RoutingEntry → Bool
goes_before a b = before_by a b a.route b.route

-- the one so far or another one, whichever can be forgotten and goes before
abbrev pub first_of : ℕ → Option RoutingEntry → RoutingEntry → Option RoutingEntry
first_of now best e =
    if is_fresh now e then best else (if option_map_or (goes_before e) best true then Some e else best)

-- the entry that is forgotten first: the first one that is not fresh
unfoldable pub first_to_go : ℕ → List RoutingEntry → Option RoutingEntry
first_to_go now entries = fold (first_of now) None entries

-- whether there is no place for the rank of an address: none is kept for it, 64 are kept, and each is fresh
unfoldable pub is_full : Routing → ℕ → ℕ → Bool
is_full routing dest now =
    if is_some (place_of routing.entries dest)
    then false
    else length routing.entries == 64 && list_all (is_fresh now) routing.entries

-- the entry that an offer for an address forgets: none where a rank is kept for it or a place is empty
unfoldable pub forgotten : Routing → ℕ → ℕ → Option RoutingEntry
forgotten routing dest now =
    if is_some (place_of routing.entries dest) then None
    else (if length routing.entries == 64 then first_to_go now routing.entries else None)

-- whether forgetting an entry raises the floor of its class
abbrev pub raises : List ℕ → RoutingEntry → Bool
raises floors e = nat_lt (slice_index floors (class_of e.address)) e.rank.number

-- the floors after an entry was forgotten: that of its class is its number, where that is greater
abbrev pub raised : List ℕ → RoutingEntry → List ℕ
raised floors e = if raises floors e then set floors (class_of e.address) e.rank.number else floors

-- # An offer that is taken

-- the entry of an offer
abbrev pub offered_entry : ℕ → Rank → ℕ → ℕ → RoutingEntry
offered_entry dest rank next now =
    record { address = dest; rank = rank; route = Some (record { next = next; offered = now }) }

-- the place that an offer's entry takes: that of its address, of the address that is forgotten, or the first empty one
abbrev pub place_after : List RoutingEntry → ℕ → Option RoutingEntry → Option ℕ
place_after entries dest gone = place_of entries (option_map_or (λ e. e.address) gone dest)

abbrev pub entries_after : List RoutingEntry → Option RoutingEntry → RoutingEntry → List RoutingEntry
entries_after entries gone e =
    option_map_or (λ place. set entries place e) (place_after entries e.address gone) (entries ++ e ∷ [])

abbrev pub floors_after : List ℕ → Option RoutingEntry → List ℕ
floors_after floors gone = option_map_or (raised floors) gone floors

-- the put of the floors, where forgetting raises one
abbrev pub floors_due : List ℕ → Option RoutingEntry → Option Write
floors_due floors gone =
    option_map_or (λ e. if raises floors e then Some (floors_write (raised floors e)) else None) gone None

-- the put of the offer's entry
abbrev pub rank_write : List RoutingEntry → Option RoutingEntry → RoutingEntry → Write
rank_write entries gone e = slots.entry_write ranks (unwrap_or (place_after entries e.address gone) (length entries)) e

-- the puts of an entry in a place, that of one that is forgotten if there is one: the floors where one rises, then the rank
abbrev pub writes_of : Routing → Option RoutingEntry → RoutingEntry → List Write
writes_of routing gone e = puts_of (floors_due routing.floors gone) ++ rank_write routing.entries gone e ∷ []

-- what is kept between the two, and after them
abbrev pub half_of : Routing → Option RoutingEntry → Routing
half_of routing gone = record routing { floors = floors_after routing.floors gone }

abbrev pub after_of : Routing → Option RoutingEntry → RoutingEntry → Routing
after_of routing gone e =
    record { entries = entries_after routing.entries gone e; floors = floors_after routing.floors gone }

-- the same for an entry that comes at a time
unfoldable pub entry_writes : Routing → RoutingEntry → ℕ → List Write
entry_writes routing e now = writes_of routing (forgotten routing e.address now) e

unfoldable pub half_entered : Routing → ℕ → ℕ → Routing
half_entered routing dest now = half_of routing (forgotten routing dest now)

unfoldable pub entered : Routing → RoutingEntry → ℕ → Routing
entered routing e now = after_of routing (forgotten routing e.address now) e

-- and for an offer: its puts, and what is kept between them and after them
abbrev pub offer_writes : Routing → ℕ → Rank → ℕ → ℕ → List Write
offer_writes routing dest rank next now = entry_writes routing (offered_entry dest rank next now) now

abbrev pub half_offered : Routing → ℕ → ℕ → Routing
half_offered routing dest now = half_entered routing dest now

abbrev pub offered : Routing → ℕ → Rank → ℕ → ℕ → Routing
offered routing dest rank next now = entered routing (offered_entry dest rank next now) now

-- the records are those of what is kept before an offer, between its puts, or after it
abbrev pub IsSomeOffered : Routing → ℕ → Rank → ℕ → ℕ → Records → Type 0
IsSomeOffered routing dest rank next now records =
    AgreesWith routing records
    ⊎ AgreesWith (half_offered routing dest now) records
    ⊎ AgreesWith (offered routing dest rank next now) records

-- What becomes of the records where an entry comes, whatever becomes of its puts; done says that none failed.
pub record Keeps (old half after : Routing) (done : Bool) (before records : Records) : Type 0 where
  pub kept : OnTrue done (AgreesWith after records)
  -- they are those of what was kept before, between the puts, or after
  pub either : AgreesWith old records ⊎ AgreesWith half records ⊎ AgreesWith after records
  pub elsewhere : SameElsewhere before records

-- # Routes that end

-- whether an entry has a valid route by a next hop
abbrev pub goes_by : ℕ → RoutingEntry → Bool
goes_by next e = option_map_or (λ route. route.next == next) e.route false

-- whether an entry has a route that is valid no more
abbrev pub is_old : ℕ → RoutingEntry → Bool
is_old now e = option_map_or (λ route. not (is_within ROUTE_VALID_TIME now route.offered)) e.route false

-- the routes end of which a test holds; every rank and floor stays
abbrev pub ended : (RoutingEntry → Bool) → Routing → Routing
ended test routing = record routing { entries = map (λ e. if test e then without_route e else e) routing.entries }

-- no route goes by this next hop
abbrev pub without_next : Routing → ℕ → Routing
without_next routing next = ended (goes_by next) routing

-- the route to an address does not go by this next hop
abbrev pub without_next_to : Routing → ℕ → ℕ → Routing
without_next_to routing dest next = ended (λ e. e.address == dest && goes_by next e) routing

-- no route is valid, as a new start finds it
abbrev pub at_rest : Routing → Routing
at_rest routing = record routing { entries = map without_route routing.entries }

-- no route is old
abbrev pub expired : Routing → ℕ → Routing
expired routing now = ended (is_old now) routing

-- # `offer`

-- it is described in three functions: what it answers, which puts it makes and what is kept afterwards; done says that no
-- put failed
abbrev pub where_taken : {A : Type 0} → Routing → ℕ → Rank → ℕ → A → A → A → A
where_taken routing dest rank now taken full lower =
    if is_better routing dest rank then (if is_full routing dest now then full else taken) else lower

abbrev pub offer_result : Routing → ℕ → Rank → ℕ → Bool → Result Offered OfferFault
offer_result routing dest rank now done =
    where_taken routing dest rank now (if done then Ok Better else Err Store) (Err RoutesFull) (Ok NotBetter)

abbrev pub offer_puts : Routing → ℕ → Rank → ℕ → ℕ → List Write
offer_puts routing dest rank next now =
    where_taken routing dest rank now (offer_writes routing dest rank next now) [] []

abbrev pub offer_after : Routing → ℕ → Rank → ℕ → ℕ → Bool → Routing
offer_after routing dest rank next now done =
    where_taken routing dest rank now (if done then offered routing dest rank next now else routing) routing routing

-- whether no put of an `offer` failed
abbrev pub is_stored : Result Offered OfferFault → Bool
is_stored (Ok answer) = true
is_stored (Err RoutesFull) = true
is_stored (Err Store) = false

-- what a record gives has no valid route
pub entry_in-rests : (octets : List ℕ) (e : RoutingEntry) → entry_in octets ≡ Some e → without_route e ≡ e
entry_in-rests octets e h =
    by_length (length octets == 6) (big_number 2 octets) (big_number 2 (drop 2 octets)) (big_number 2 (drop 4 octets)) h
  where
    by_number : (b : Bool) (address number cost : ℕ)
        → (if b
        then None
        else Some (record { address = address; rank = record { number = number; cost = cost }; route = None }))
        ≡ Some e
        → without_route e ≡ e
    by_number true address number cost h = cc
    by_number false address number cost h = cc

    by_address : (b : Bool) (address number cost : ℕ)
        → (if b
        then (if number == 0
        then None
        else Some (record { address = address; rank = record { number = number; cost = cost }; route = None }))
        else None) ≡ Some e
        → without_route e ≡ e
    by_address true address number cost h = by_number (number == 0) address number cost h
    by_address false address number cost h = cc

    by_length : (b : Bool) (address number cost : ℕ) → (if b then ranked address number cost else None) ≡ Some e
        → without_route e ≡ e
    by_length true address number cost h = by_address (nat_lt address 0xFFFE) address number cost h
    by_length false address number cost h = cc
