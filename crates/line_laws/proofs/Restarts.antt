-- What the records give again, after a restart.
use Rattle.std.proofs.Common.{◌≡◌, ◌<◌, true, None, List, [], ◌∷◌, map, Result, Ok, refl, sym, ap, ◌∙◌, subst, arith, ◌^◌}
use Rattle.std.specs.Prelude.{All}
use Rattle.std.proofs.lemmas.List.Elements.{All-nil, All-map}
use Rattle.plc_base.specs.Keeper.{Records}
use Rattle.store_tables.specs.SlotTables as slots
use Rattle.store_tables.proofs.SlotTables.{stored_map}
use Rattle.store_tables.proofs.OpenedTables.{reopened, opened_reads}
use Rattle.frame_counters.specs.SendCounter as counter
use Rattle.frame_counters.specs.PeerMarks as peer_marks
use Rattle.frame_counters.proofs.Limits.{stored_limit-kept}
use Rattle.group_keys.specs.KeyRing as ring
use Rattle.group_keys.specs.KeyBook as book
use Rattle.routing_set.specs.declared.entry.RoutingEntry.{RoutingEntry}
use Rattle.routing_set.specs.RoutingSet as routing
use Rattle.routing_set.specs.OwnNumber as own_number
use Rattle.routing_set.proofs.Histories.{opened_again}
use Rattle.node_rules.specs.Memory.{StationMemory, Body, Memory, Role, Coordinator, Meter}
use Rattle.node_rules.specs.RestartStates.{station_of, memory_of, remembering}
use Rattle.node_rules.specs.Laws.{IsShort}
use Rattle.line_laws.specs.Stores.{IsStationKept, IsNamed, IsKept}
use Rattle.line_laws.specs.Ranges.{HasHop}
use Rattle.line_laws.specs.Sizes.{IsAnyLoad, IsMemorySized}
use Rattle.line_laws.proofs.StoreFold.{ended_kept}
use Rattle.line_laws.proofs.MarkOrder.{rest_covered}

-- a line as its records give it
pub rested : StationMemory → StationMemory
rested l = record {
  ring = l.ring;
  counter = counter.counting_at l.counter.limit;
  marks = map peer_marks.at_rest l.marks;
  routing = routing.at_rest l.routing;
  own_number = own_number.numbering_at l.own_number.limit;
  next_tag = l.next_tag;
  reassemblies = [];
  waiting = [];
}

module _ (l : StationMemory) (r : Records) (k : IsStationKept l r) where
  marks_again : slots.opened peer_marks.peers r ≡ Ok (map peer_marks.at_rest l.marks)
  marks_again = reopened peer_marks.peers r l.marks (λ e. refl) k.range.marks k.marks

  pub station_again : station_of r ≡ Ok (rested l)
  unfolding station_of rested
  station_again =
      let a : ring.opened r ≡ Ok l.ring = ap ring.ring_from k.ring.stored in
      let b : counter.opened r ≡ Ok (counter.counting_at l.counter.limit) = ap counter.counting_from k.counter.limit in
      let c : own_number.opened r ≡ Ok (own_number.numbering_at l.own_number.limit) = ap own_number.numbering_from k.number.limit in
      let d = opened_again l.routing r k.range.routing.entries k.routing in
      rw (a, b, c, k.tag, d, marks_again) refl

  pub marks_read : slots.opened peer_marks.peers r ≡ Ok (rested l).marks
  unfolding rested
  marks_read = marks_again

  pub rested_kept : IsStationKept (rested l) r
  unfolding rested
  rested_kept =
      let e = ended_kept l r (λ _. true) k in
      let read = subst (λ (o : Result (List _) _). slots.opened peer_marks.peers r ≡ o) marks_again refl in
      record {
        range = record {
          ring = k.range.ring;
          counter = k.range.counter;
          number = k.range.number;
          tag = k.range.tag;
          routing = e.range.routing;
          floors = e.range.floors;
          ranks = e.range.ranks;
          marks = (opened_reads peer_marks.peers r (Ok (map peer_marks.at_rest l.marks)) (sym marks_again)).sound;
        };
        ring = k.ring;
        counter = record { limit = k.counter.limit; below = omega arith };
        number = record { limit = k.number.limit; below = omega arith };
        tag = k.tag;
        routing = e.routing;
        marks = stored_map peer_marks.peers peer_marks.at_rest l.marks r (λ p. refl) k.marks;
      }

-- Nothing waits, nothing is gathered, no route is valid, no random value is held, and no joining is under way.
pub record IsBlank (m : Memory) : Type 0 where
  pub waiting : m.station.waiting ≡ []
  pub gathered : m.station.reassemblies ≡ []
  pub hops : All HasHop m.station.routing.entries
  pub randoms : m.randoms ≡ []
  pub session : m.session ≡ None
  pub sessions : m.sessions ≡ []

rested_blank : (l : StationMemory) (b : book.Book) → IsBlank (remembering (rested l) b)
unfolding rested
rested_blank l b = record {
  waiting = refl;
  gathered = refl;
  hops = All-map HasHop routing.without_route l.routing.entries (λ k e lt. tt);
  randoms = refl;
  session = refl;
  sessions = refl;
}

-- no route is left
rested_routes : (l : StationMemory) → All (λ (e : RoutingEntry). e.route ≡ None) (rested l).routing.entries
unfolding rested
rested_routes l = All-map (λ (e : RoutingEntry). e.route ≡ None) routing.without_route l.routing.entries (λ k e lt. refl)

-- What a restart gives.
pub record Again (role : Role) (r : Records) : Type 0 where
  pub memory : Memory
  pub is : memory_of role r ≡ Ok memory
  pub kept : IsKept role memory r
  pub sized : IsMemorySized memory
  pub blank : IsBlank memory
  pub routes : All (λ (e : RoutingEntry). e.route ≡ None) memory.station.routing.entries
  pub next : memory.station.counter.next ≡ counter.stored_limit r
  pub marks : slots.opened peer_marks.peers r ≡ Ok memory.station.marks
  pub covered : peer_marks.IsCovered memory.station.marks

rested_sized : (l : StationMemory) (b : book.Book) → l.next_tag < 2 ^ 16 → IsMemorySized (remembering (rested l) b)
unfolding rested
rested_sized l b low = record {
  station = record {
    reassemblies = (omega arith, omega arith);
    waiting = record { bodies = omega arith; blocks = omega arith; datagrams = All-nil (λ (x : Body). IsShort x.load) };
    loads = All-nil (λ (x : Body). IsAnyLoad x.load);
    tag = low;
  };
  sessions = omega arith;
  randoms = omega arith;
}

next_again : (l : StationMemory) (r : Records) → IsStationKept l r → (rested l).counter.next ≡ counter.stored_limit r
unfolding rested
next_again l r k = sym (stored_limit-kept l.counter r k.counter)

rested_covered : (l : StationMemory) → peer_marks.IsCovered (rested l).marks
unfolding rested
rested_covered l = rest_covered l.marks

pub again : (role : Role) (m : Memory) (r : Records) → IsKept role m r → Again role r
again (Meter psk) m r k = record {
  memory = remembering (rested m.station) [];
  is = rw (station_again m.station r k.station) refl;
  kept = record { station = rested_kept m.station r k.station; book = (refl, k.book.1); sessions = All-nil IsNamed };
  sized = rested_sized m.station [] k.station.range.tag;
  blank = rested_blank m.station [];
  routes = rested_routes m.station;
  next = next_again m.station r k.station;
  marks = marks_read m.station r k.station;
  covered = rested_covered m.station;
}
again Coordinator m r k =
    let opened : slots.opened book.entries r ≡ Ok m.book = reopened book.entries r m.book (λ e. refl) k.book.table k.book.stored ∙ ap Ok (map_same m.book) in
    record {
      memory = remembering (rested m.station) m.book;
      is = rw (station_again m.station r k.station, opened) refl;
      kept = record { station = rested_kept m.station r k.station; book = k.book; sessions = All-nil IsNamed };
      sized = rested_sized m.station m.book k.station.range.tag;
      blank = rested_blank m.station m.book;
      routes = rested_routes m.station;
      next = next_again m.station r k.station;
      marks = marks_read m.station r k.station;
      covered = rested_covered m.station;
    }
  where
    map_same : (b : book.Book) → map (λ e. e) b ≡ b
    map_same [] = refl
    map_same (e ∷ b) = ap (λ x. e ∷ x) (map_same b)
