-- No run has a loop before it is forged.
use Rattle.std.proofs.Common.{◌≡◌, inl, inr, ℕ, ◌≤◌, ◌<◌, false, List, length, Option, Some, None, Ok, Err, refl, sym, ap, ◌∙◌, subst, arith}
use Rattle.std.proofs.lemmas.Option.{same_Some, none-some}
use Rattle.std.proofs.lemmas.List.Elements.{All-nil, All-weaker}
use Rattle.plc_base.specs.declared.key.Key.{Key}
use Rattle.plc_base.specs.Grant.{Granted}
use Rattle.group_keys.specs.KeyBook as books
use Rattle.mesh_header.specs.declared.unit.Unit.{Unit as MeshUnit}
use Rattle.loadng_messages.specs.declared.message.Message.{Message}
use Rattle.loadng_messages.specs.declared.message.Message.TheVariants.{Rreq, Rrep, Rerr}
use Rattle.routing_set.specs.declared.rank.Rank.{Rank}
use Rattle.routing_set.specs.RoutingSet as routing
use Rattle.node_rules.specs.declared.refusal.CoordinatorRefusal.TheVariants as orders
use Rattle.node_rules.specs.Ciphers.{Ciphers, network}
use Rattle.node_rules.specs.Coordinators as coordinator_rules
use Rattle.node_rules.specs.Memory.{Node}
use Rattle.node_rules.specs.NodeSteps.{acts}
use Rattle.line_events.specs.declared.event.Event.{Event}
use Rattle.line_events.specs.declared.event.Event.TheVariants as events
use Rattle.line_rules.specs.Worlds.{World, Flight, Trace, Issued, node_at, start}
use Rattle.line_rules.specs.Further.{line_step}
use Rattle.line_rules.specs.Steps.{Step, psk_of, step}
use Rattle.line_laws.specs.Owed.{KeepsRanges}
use Rattle.line_laws.proofs.Worlds.{WorldOk, within}
use Rattle.line_laws.proofs.HomeGrants.{WasLeft, LeftBy, depot_left, depot_booked}
use Rattle.line_laws.proofs.Homes.{homes_of, meter_home, at_length}
use Rattle.line_laws.proofs.IssueRuns.{start_keyed}
use Rattle.line_laws.proofs.IssueWorlds.{Keyed}
use Rattle.line_laws.proofs.RankSaid.{MessageBacked, UnitBacked, Says, IsWhole, IsPart, IsCarried, IsOther}
use Rattle.line_laws.proofs.RouteParts as parts
use Rattle.line_laws.proofs.RouteParts.{At, Own, IsNearer, FlightBacked, IsSealedUnit, RoutingHolds, Reached}
use Rattle.line_laws.proofs.RouteSteps.{StepHolds, Fails, Taken}
use Rattle.line_laws.proofs.Homed.{Homes, Grows, DepotFits}
use Rattle.line_laws.specs.Loops.{stored}

-- # Homes that are given

module _ (ciphers : Ciphers) (h k : Homes) (grows : Grows h k) (w : World) where
  own_before : (i dest : ℕ) → Own k i dest → Own h i dest
  own_before i dest own = by_home (h i) refl own
    where
      by_home : (o : Option ℕ) → h i ≡ o → Own k i dest → Own h i dest
      by_home None e own = inr e
      by_home (Some a) e (inl same) = inl (e ∙ sym (grows i a e) ∙ same)
      by_home (Some a) e (inr none) = absurd (none-some a (sym none ∙ grows i a e))

  message_grows : (i : ℕ) (t : routing.Routing) (m : Message) → MessageBacked (At h i) t m → MessageBacked (At k i) t m
  message_grows i t (Rreq number cost origin dest) (inl own) = inl (grows i origin own.0, own.1)
  message_grows i t (Rreq number cost origin dest) (inr high) = inr high
  message_grows i t (Rrep number cost origin to) (inl own) = inl (grows i origin own.0, own.1)
  message_grows i t (Rrep number cost origin to) (inr high) = inr high
  message_grows i t (Rerr lost to) b = tt

  unit_grows : (i : ℕ) (t : routing.Routing) (u : MeshUnit) → UnitBacked (At h i) t u → UnitBacked (At k i) t u
  unit_grows i t u (Says m b) = Says m (message_grows i t m b)
  unit_grows i t u (IsWhole mesh octets) = IsWhole mesh octets
  unit_grows i t u (IsPart mesh piece) = IsPart mesh piece
  unit_grows i t u (IsCarried mesh body) = IsCarried mesh body
  unit_grows i t u (IsOther code body other) = IsOther code body other

  flight_grows : (f : Flight) → FlightBacked ciphers h w f → FlightBacked ciphers k w f
  flight_grows f (parts.IsPlain e) = parts.IsPlain e
  flight_grows f (IsSealedUnit sealed_unit x octets key from there b read) =
      IsSealedUnit sealed_unit x octets key (grows f.from sealed_unit.from from) there (unit_grows f.from (stored x) sealed_unit.unit b) read

  nearer_grows : (next dest : ℕ) (rank : Rank) → IsNearer h w next dest rank → IsNearer k w next dest rank
  nearer_grows next dest rank (inl same) = inl same
  nearer_grows next dest rank (inr n) = inr (record { number = n.number; node = n.node; home = grows n.number next n.home; there = n.there; beats = n.beats })

  pub grow_homes : RoutingHolds ciphers h w → RoutingHolds ciphers k w
  grow_homes good = record {
    ranks = record {
      backed = All-weaker (FlightBacked ciphers h w) (FlightBacked ciphers k w) flight_grows w.flights good.ranks.backed;
      not_own = λ i x there dest own. good.ranks.not_own i x there dest (own_before i dest own);
    };
    routes = record {
      routes = λ i x there dest next e.
          let g = good.routes.routes i x there dest next e in
          record { rank = g.rank; kept = g.kept; nearer = nearer_grows next dest g.rank g.nearer };
    };
  }

-- # Runs

-- the grant of the workshop has the home of its meter, after the event
module _ (ciphers : Ciphers) (fits : KeepsRanges ciphers) (w v : World) (ok : WorldOk w) (given more : List Issued) (k : Keyed w given) (kv : Keyed v more)
    (longer : length w.nodes ≤ length v.nodes)
    (euis : (n : ℕ) (y : Node) → n < length w.nodes → node_at v n ≡ Some y → (x : Node) × (node_at w n ≡ Some x) × (x.eui ≡ y.eui)) where
  depot_home : (number : ℕ) (x c : Node) (psk : Key) (g : Granted) (hx : node_at w number ≡ Some x) (hc : node_at w 0 ≡ Some c) (pair : psk_of x ≡ Some psk)
      → WasLeft ciphers w number x c psk hx hc pair v
      → (acts c (Err orders.Halted) (λ m. coordinator_rules.depot m x.eui psk)).answer ≡ Ok g → homes_of kv.book v number ≡ Some g.address
  depot_home number x c psk g hx hc pair left e =
      let inside = within w.nodes number x hx in
      let y = at_length v.nodes number (omega arith) in
      let old = euis number y.one inside y.is in
      let same : x ≡ old.0 = same_Some _ _ (sym hx ∙ old.1) in
      meter_home kv.book v number y.one left.other y.is
      ∙ ap (books.address_of kv.book) (sym (ap (λ (z : Node). z.eui) same ∙ old.2))
      ∙ depot_booked ciphers fits w v ok given more k kv number x c psk g hx hc pair left e

  depot_fits : (event : Event) (t : Trace) → step ciphers w event ≡ Ok (v, t) → DepotFits ciphers (homes_of kv.book v) w event
  depot_fits (events.Depot number) t e = λ x c psk g hx hc pair is.
      depot_home number x c psk g hx hc pair (subst (LeftBy ciphers w number x c psk hx hc pair) e (depot_left ciphers w number x c psk hx hc pair)) is
  depot_fits _ t e = tt

  -- and so with further reach
  pub line_depot_fits : (event : Event) (t : Trace) → line_step ciphers w event ≡ Ok (v, t) → DepotFits ciphers (homes_of kv.book v) w event
  line_depot_fits (events.Depot number) t e = depot_fits (events.Depot number) t e
  line_depot_fits _ t e = tt

abbrev pub HoldsBy : Homes → World → Step → Type 0
HoldsBy h w (Ok r) = r.1.happenings.forged ≡ false → Reached network h w r.0
HoldsBy h w (Err fault) = Unit {0}

pub holds_by : (h : Homes) (w : World) (s : Step) → StepHolds network h w s → HoldsBy h w s
holds_by h w s (Fails fault) = tt
holds_by h w s (Taken r holds) = holds

pub start_routed : (b : books.Book) → RoutingHolds network (homes_of b start) start
start_routed b = record {
  ranks = record { backed = All-nil (FlightBacked network (homes_of b start) start); not_own = λ i x there dest own. absurd (none-some x there) };
  routes = record { routes = λ i x there dest next e. absurd (none-some x there) };
}

pub start_routes : RoutingHolds network (homes_of start_keyed.book start) start
start_routes = start_routed start_keyed.book
