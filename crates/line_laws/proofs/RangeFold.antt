-- What each word leaves and sends is in its ranges.
use Rattle.std.proofs.Common.{◌≡◌, ℕ, ◌≤◌, ◌<◌, ◌^◌, Bool, true, false, List, [], ◌∷◌, ◌++◌, set, Option, Some, None, refl, subst, arith}
use Rattle.std.specs.Prelude.{if◌then◌else◌, All, IfSome, not, slice_get}
use Rattle.std.specs.List.{filter, flat_map}
use Rattle.std.specs.Option.{option_map, option_map_or, option_and_then}
use Rattle.std.proofs.lemmas.Bool.{eqb-false}
use Rattle.std.proofs.lemmas.Option.{same_Some, slice_get_within, get_or_from_slice_get}
use Rattle.std.proofs.lemmas.List.Elements.{All-nil, All-head, All-tail, All-push, All-append, All-set, All-map, All-weaker, All-filter}
use Rattle.plc_base.specs.Addresses.{IsAddress}
use Rattle.mac_frames.specs.Grammar.{IsTarget}
use Rattle.plc_base.specs.Grant.{Granted}
use Rattle.routing_set.specs.declared.rank.Rank.{Rank}
use Rattle.routing_set.specs.declared.entry.Route.{Route}
use Rattle.routing_set.specs.declared.entry.RoutingEntry.{RoutingEntry}
use Rattle.routing_set.specs.RoutingSet as routing
use Rattle.routing_set.specs.OwnNumber as own_number
use Rattle.mesh_header.specs.declared.unit.Mesh.{Mesh}
use Rattle.mesh_header.specs.declared.unit.Unit.{Unit as MeshUnit}
use Rattle.mesh_header.specs.declared.unit.Unit.TheVariants as units
use Rattle.mesh_header.specs.Grammar.{IsMesh}
use Rattle.loadng_messages.specs.declared.message.Message.{Message}
use Rattle.loadng_messages.specs.declared.message.Message.TheVariants.{Rreq, Rrep, Rerr}
use Rattle.loadng_messages.specs.Grammar as messages
use Rattle.node_rules.specs.Frames.{to_all}
use Rattle.node_rules.specs.Memory.{StationMemory, Body, Load, address_of, next_hop}
use Rattle.node_rules.specs.Drafts.{Draft, tag_after, all_go, units_of, waits_for, with_rank, with_own_number, with_next_tag, with_ring, with_routing_by, goes}
use Rattle.node_rules.specs.Drafts.{body_goes, waits, leave, numbers_spent}
use Rattle.line_laws.specs.SealedUnits.{IsFit}
use Rattle.line_laws.specs.Ranges.{HasRoomInFrames, IsBody, HasHop, IsStationRanged, IsOut, IsRanged}
use Rattle.line_laws.specs.Stores.{IsReadable}
use Rattle.line_laws.proofs.StoreFold.{WordFits, ring_fits}
use Rattle.line_laws.proofs.RangeUnits.{less_fit, less_one, less_route, all_out}
use Rattle.line_laws.proofs.Made.{Given, IsCome, MessageCame, Offered, ByRequest, ByReply, ByItself, RingWord, Carry, mesh_of, IsLost, ByError, OnWay, IsSaid}
use Rattle.line_laws.proofs.Made.{Seeks}
use Rattle.line_laws.proofs.Made.{Answers, Relays, Passes, SaysTheSame, Forwards, Made, Starts, Ranks, Numbers, Tags, Rings, Idles, Loses, Goes, Sends, Waits}
use Rattle.line_laws.proofs.Made.{Leaves}

-- What is known of a call and of what came: the readings and the call's own words say it.
pub record InRange (W : RingWord → Type 0) (g : Given) : Type 0 where
  -- a unit that came is one that a frame has room for, and its sender one node
  pub comes : (by : ℕ) (all : Bool) (u : MeshUnit) → IsCome g by all u → (by < 0xFFFE) × IsFit u
  -- a route message that came is in its grammar
  pub came_so : (by : ℕ) (all : Bool) (message : Message) → MessageCame g by all message → messages.IsMessage message
  -- a neighbour that the workshop gives
  pub near : (by : ℕ) → g.near ≡ Some by → (by < 0xFFFE) × (g.cost < 2 ^ 16)
  -- a body that is sent out
  pub carries : (to note : ℕ) (load : Load) → W (Carry to note load) → (to < 0xFFFE) × HasRoomInFrames load
  -- a ring that is left is read back
  pub words : (w : RingWord) → W w → WordFits w

-- # Next hops

hop_of : (entries : List RoutingEntry) (o : Option ℕ) (hop : ℕ) → All HasHop entries
    → option_map (λ (t : Route). t.next) (option_and_then (λ (e : RoutingEntry). e.route) (option_and_then (slice_get entries) o)) ≡ Some hop → hop < 0xFFFE
hop_of entries None hop all e = absurd (cc)
hop_of entries (Some place) hop all e = by_entry (slice_get entries place) refl e
  where
    by_route : (r : Option Route) → IfSome r (λ (t : Route). IsAddress t.next) → option_map (λ (t : Route). t.next) r ≡ Some hop → hop < 0xFFFE
    by_route None h e = absurd (cc)
    by_route (Some t) h e = subst (λ k. k < 0xFFFE) (same_Some t.next hop e) h

    by_entry : (x : Option RoutingEntry) → slice_get entries place ≡ x
        → option_map (λ (t : Route). t.next) (option_and_then (λ (e : RoutingEntry). e.route) x) ≡ Some hop → hop < 0xFFFE
    by_entry None at e = absurd (cc)
    by_entry (Some x) at e = by_route x.route (subst HasHop (get_or_from_slice_get entries place x x at) (all place x (slice_get_within entries place x at))) e

pub hop_ranged : (l : StationMemory) (dest hop : ℕ) → IsStationRanged l → next_hop l dest ≡ Some hop → hop < 0xFFFE
unfolding next_hop routing.route_of
hop_ranged l dest hop h e = hop_of l.routing.entries (routing.place_of l.routing.entries dest) hop h.hops e

-- an offer keeps the hops one node each
offered_hops : (r : routing.Routing) (dest : ℕ) (rank : Rank) (next now : ℕ) → next < 0xFFFE → All HasHop r.entries
    → All HasHop (routing.offered r dest rank next now).entries
unfolding routing.entered
offered_hops r dest rank next now short all = by_gone (routing.forgotten r dest now)
  where
    e : RoutingEntry
    e = routing.offered_entry dest rank next now

    by_place : (o : Option ℕ) → All HasHop (option_map_or (λ place. set r.entries place (routing.offered_entry dest rank next now)) o
        (r.entries ++ routing.offered_entry dest rank next now ∷ []))
    by_place None = All-push HasHop r.entries (routing.offered_entry dest rank next now) all short
    by_place (Some place) = All-set HasHop r.entries place (routing.offered_entry dest rank next now) short all

    by_gone : (gone : Option RoutingEntry) → All HasHop (routing.entries_after r.entries gone (routing.offered_entry dest rank next now))
    by_gone gone = by_place (routing.place_after r.entries dest gone)

pub ended_hops : (test : RoutingEntry → Bool) (r : routing.Routing) → All HasHop r.entries → All HasHop (routing.ended test r).entries
ended_hops test r all = All-map HasHop (λ e. if test e then routing.without_route e else e) r.entries
    (All-weaker HasHop (λ e. HasHop (if test e then routing.without_route e else e)) (λ e h. same (test e) e h) r.entries all)
  where
    same : (b : Bool) (e : RoutingEntry) → HasHop e → HasHop (if b then routing.without_route e else e)
    same true e h = tt
    same false e h = h

rested_hops : (r : routing.Routing) → All HasHop r.entries → All HasHop (routing.at_rest r).entries
rested_hops r all = All-map HasHop routing.without_route r.entries (All-weaker HasHop (λ e. HasHop (routing.without_route e)) (λ e h. tt) r.entries all)

-- # Numbers

tag_ranged : (tag : ℕ) → tag_after tag < 2 ^ 16
tag_ranged tag = omega arith

own_ranged : (l : StationMemory) (own : ℕ) → IsStationRanged l → address_of l ≡ Some own → own < 0xFFFE
own_ranged l own h e = by_ring l.ring h.ring e
  where
    by_ring : (r : Option Granted) → IfSome r IsReadable → option_map (λ (gr : Granted). gr.address) r ≡ Some own → own < 0xFFFE
    by_ring None k e = absurd (cc)
    by_ring (Some gr) k e = subst (λ a. a < 0xFFFE) (same_Some gr.address own e) k.address

number_ranged : (l : StationMemory) → numbers_spent l ≡ false → l.own_number.last ≤ 65535 → (own_number.advanced l.own_number).last ≤ 65535
number_ranged l left h = let other = eqb-false _ _ left in omega arith

-- # Bodies that leave

bodies_out : (own hop : ℕ) (bodies : List Body) → own < 0xFFFE → hop < 0xFFFE → All IsBody bodies
    → All IsOut (flat_map (λ b. all_go hop b.note (units_of own b.to b.load)) bodies)
bodies_out own hop [] here short all = All-nil IsOut
bodies_out own hop (b ∷ bodies) here short all =
    let x = All-head IsBody b bodies all in
    All-append IsOut (all_go hop b.note (units_of own b.to b.load)) _ (all_out own b.to here x.to hop b.note b.load short x.load)
    (bodies_out own hop bodies here short (All-tail IsBody b bodies all))

module _ (W : RingWord → Type 0) (g : Given) (s : Draft StationMemory) (known : InRange W g) (first : IsStationRanged s.memory) where
  -- # Offers

  -- What is offered is in range.
  record OfferFits (by origin : ℕ) (rank : Rank) : Type 0 where
    neighbour : by < 0xFFFE
    address : origin < 0xFFFE
    number : messages.IsNumber rank.number
    cost : rank.cost < 2 ^ 16

  offer_fits : (address : Option ℕ) (by origin : ℕ) (rank : Rank) → Offered g address by origin rank → OfferFits by origin rank
  offer_fits address by origin rank (ByRequest own number c o dest here apart few came_so) =
      let m = known.came_so by true (Rreq number c o dest) came_so in
      record { neighbour = (known.comes by true _ came_so.came).0; address = m.2; number = m.0; cost = omega arith }
  offer_fits address by origin rank (ByReply own number c o to here apart few came_so) =
      let m = known.came_so by false (Rrep number c o to) came_so in
      record { neighbour = (known.comes by false _ came_so.came).0; address = m.2; number = m.0; cost = omega arith }
  offer_fits address by origin rank (ByItself is) =
      let n = known.near by is in
      record { neighbour = n.0; address = n.0; number = (omega arith, omega arith); cost = n.1 }

  -- # What is said

  message_fit : (m : Message) → IsFit (units.Local 1 (messages.spelling m))
  message_fit (Rreq number cost origin dest) = record { fields = (omega arith, omega arith); size = omega arith }
  message_fit (Rrep number cost origin to) = record { fields = (omega arith, omega arith); size = omega arith }
  message_fit (Rerr lost to) = record { fields = (omega arith, omega arith); size = omega arith }

  -- a route message to one node or to all
  message_out : (to : ℕ) (m : Message) (note : ℕ) → IsTarget to → messages.IsMessage m
      → IsOut (record { to = to; unit = units.Local 1 (messages.spelling m); note = note })
  message_out to m note target fits = record { to = target; unit = message_fit m; route = λ e. (m, fits, refl); one = tt }

  one : (a : ℕ) → a < 0xFFFE → IsTarget a
  one a h = (omega arith, omega arith)

  every : IsTarget to_all
  every = (omega arith, omega arith)

  lost_fits : (lost to : ℕ) → IsLost g lost to → (lost < 0xFFFE) × (to < 0xFFFE)
  lost_fits lost to (ByError by x t came_so) = known.came_so by false (Rerr lost to) came_so
  lost_fits lost to (OnWay by unit mesh came has) = by_unit unit (known.comes by false unit came).1 has
    where
      of_mesh : (a b : Mesh) → IsMesh a → Some a ≡ Some b → (b.to < 0xFFFE) × (b.origin < 0xFFFE)
      of_mesh a b h e = subst (λ (x : Mesh). (x.to < 0xFFFE) × (x.origin < 0xFFFE)) (same_Some a b e) (h.to, h.origin)

      by_unit : (u : MeshUnit) → IsFit u → mesh_of u ≡ Some mesh → (mesh.to < 0xFFFE) × (mesh.origin < 0xFFFE)
      by_unit (units.Whole a octets) h e = of_mesh a mesh h.fields.0 e
      by_unit (units.Part a piece) h e = of_mesh a mesh h.fields.0 e
      by_unit (units.Carried a body) h e = of_mesh a mesh h.fields e
      by_unit (units.Local code body) h e = absurd (cc)

  said_out : (d : Draft StationMemory) (to : ℕ) (unit : MeshUnit) (note : ℕ) → IsStationRanged d.memory → IsSaid W g s d to unit note
      → IsOut (record { to = to; unit = unit; note = note })
  said_out d to unit note h (Seeks own dest number n load here last some carried) =
      let x = h.number in message_out to_all (Rreq number 0 own dest) 0 every
      ((some, omega arith), omega arith, own_ranged d.memory own h here, (known.carries dest n load carried).0)
  said_out d to unit note h (Answers own by origin number n c dest here last some came_so) =
      let x = h.number in let m = known.came_so by true (Rreq n c origin dest) came_so in
      message_out by (Rrep number 0 own origin) 0 (one by (known.comes by true _ came_so.came).0)
      ((some, omega arith), omega arith, own_ranged d.memory own h here, m.2)
  said_out d to unit note h (Relays by origin dest n c rank o just came_so) =
      let f = offer_fits _ by origin rank o in let m = known.came_so by true (Rreq n c origin dest) came_so in
      message_out to_all (Rreq rank.number rank.cost origin dest) 0 every (f.number, f.cost, f.address, m.3)
  said_out d to unit note h (Passes by origin t hop n c rank o just came_so there) =
      let f = offer_fits _ by origin rank o in let m = known.came_so by false (Rrep n c origin t) came_so in
      message_out hop (Rrep rank.number rank.cost origin t) 0 (one hop (hop_ranged s.memory t hop first there)) (f.number, f.cost, f.address, m.3)
  said_out d to unit note h (SaysTheSame hop lost t dest why there) =
      message_out hop (Rerr lost t) 0 (one hop (hop_ranged d.memory dest hop h there)) (lost_fits lost t why)
  said_out d to unit note h (Forwards by hop dest u less came is there) =
      let short = hop_ranged d.memory dest hop h there in
      record {
        to = one hop short;
        unit = less_fit u less is (known.comes by false u came).1;
        route = less_route u less is;
        one = less_one hop u less short is;
      }

  -- # The fold

  pub made_ranged : (d : Draft StationMemory) → Made W g s d → All IsOut s.units → IsRanged d
  unfolding with_rank with_own_number with_next_tag with_ring with_routing_by goes body_goes waits leave
  made_ranged d Starts us = record { station = first; units = us }
  made_ranged d (Ranks by origin rank e made o fits) us =
      let r = made_ranged e made us in
      let f = offer_fits _ by origin rank o in
      record {
        station = record {
          ring = r.station.ring;
          tag = r.station.tag;
          hops = offered_hops e.memory.routing origin rank by g.now f.neighbour r.station.hops;
          bodies = r.station.bodies;
          number = r.station.number;
        };
        units = r.units;
      }
  made_ranged d (Numbers e made left) us =
      let r = made_ranged e made us in
      record {
        station = record {
          ring = r.station.ring;
          tag = r.station.tag;
          hops = r.station.hops;
          bodies = r.station.bodies;
          number = number_ranged e.memory left r.station.number;
        };
        units = r.units;
      }
  made_ranged d (Tags e made first) us = let r = made_ranged e made us in
      record {
        station = record {
          ring = r.station.ring;
          tag = tag_ranged e.memory.next_tag;
          hops = r.station.hops;
          bodies = r.station.bodies;
          number = r.station.number;
        };
        units = r.units;
      }
  made_ranged d (Rings x e made change) us = let r = made_ranged e made us in
      record {
        station = record {
          ring = ring_fits W known.words e.memory.ring x change r.station.ring;
          tag = r.station.tag;
          hops = r.station.hops;
          bodies = r.station.bodies;
          number = r.station.number;
        };
        units = r.units;
      }
  made_ranged d (Idles e made) us = let r = made_ranged e made us in
      record {
        station = record {
          ring = r.station.ring;
          tag = r.station.tag;
          hops = rested_hops e.memory.routing r.station.hops;
          bodies = All-nil IsBody;
          number = r.station.number;
        };
        units = r.units;
      }
  made_ranged d (Loses lost by e made) us = let r = made_ranged e made us in
      record {
        station = record {
          ring = r.station.ring;
          tag = r.station.tag;
          hops = ended_hops _ e.memory.routing r.station.hops;
          bodies = r.station.bodies;
          number = r.station.number;
        };
        units = r.units;
      }
  made_ranged d (Goes to unit note e made said alone) us =
      let r = made_ranged e made us in
      record { station = r.station; units = All-push IsOut e.units _ r.units (said_out e to unit note r.station said) }
  made_ranged d (Sends own hop to note load e made here there short carried alone) us =
      let r = made_ranged e made us in
      let c = known.carries to note load carried in
      record {
        station = r.station;
        units = All-append IsOut e.units _ r.units
            (all_out own to (own_ranged e.memory own r.station here) c.0 hop note load (hop_ranged e.memory to hop r.station there) c.1);
      }
  made_ranged d (Waits to note load now e made none room short carried alone) us =
      let r = made_ranged e made us in
      let c = known.carries to note load carried in
      record {
        station = record {
          ring = r.station.ring;
          tag = r.station.tag;
          hops = r.station.hops;
          bodies = All-push IsBody e.memory.waiting _ r.station.bodies (record { to = c.0; load = c.1 });
          number = r.station.number;
        };
        units = r.units;
      }
  made_ranged d (Leaves own dest hop rank e made here o) us =
      let r = made_ranged e made us in
      let f = offer_fits _ hop dest rank o in
      record {
        station = record {
          ring = r.station.ring;
          tag = r.station.tag;
          hops = r.station.hops;
          bodies = All-filter (λ b. not (waits_for dest b)) IsBody e.memory.waiting r.station.bodies;
          number = r.station.number;
        };
        units = All-append IsOut e.units _ r.units (bodies_out own hop (filter (waits_for dest) e.memory.waiting) (own_ranged e.memory own r.station here)
            f.neighbour (All-filter (waits_for dest) IsBody e.memory.waiting r.station.bodies));
      }
