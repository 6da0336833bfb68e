-- What each event of a run does to datagrams, by the laws of single events.
use Rattle.std.proofs.Common.{◌≡◌, ℕ, zero, suc, Bool, true, false, List, [], ◌∷◌, Option, Some, None, Ok, Err, refl, sym, ap, subst, ◌∙◌}
use Rattle.std.specs.Prelude.{All, IfSome, is_some, if◌then◌else◌, slice_get, slice_set, ◌==◌, ◌-◌}
use Rattle.std.specs.Option.{option_and_then, option_map}
use Rattle.std.proofs.lemmas.List.Elements.{All-head, All-tail}
use Rattle.std.proofs.lemmas.Option.{same_Some}
use Rattle.store_tables.proofs.SlotTables.{slice_get-set}
use Rattle.plc_base.specs.declared.key.Key.{Key}
use Rattle.plc_base.specs.Grant.{Granted}
use Rattle.mesh_header.specs.declared.unit.Mesh.{Mesh}
use Rattle.mesh_header.specs.declared.unit.Unit.{Unit as MeshUnit}
use Rattle.mesh_header.specs.declared.unit.Unit.TheVariants as units
use Rattle.mesh_header.specs.Pieces.{Placed}
use Rattle.fragment_buffers.specs.Reassembly.{begun, placed}
use Rattle.node_rules.specs.Accepted.{Accepted}
use Rattle.node_rules.specs.Ciphers.{Ciphers, network}
use Rattle.node_rules.specs.Drafts.{sealing_key}
use Rattle.node_rules.specs.Memory.{Memory, Node, StationMemory, address_of}
use Rattle.reach_rules.specs.Beacons.{is_discovery}
use Rattle.line_events.specs.declared.event.Event.{Event}
use Rattle.line_events.specs.declared.event.Event.TheVariants as events
use Rattle.line_events.specs.declared.event.StepFault.TheVariants as faults
use Rattle.line_rules.specs.Forgery.{Comes, OfFlight, OfScript, accepting}
use Rattle.line_rules.specs.Further.{comes, delivers, injects, line_step}
use Rattle.line_rules.specs.Runs.{Entry, IsRun}
use Rattle.line_rules.specs.Steps.{Step, lose, on_flight}
use Rattle.line_rules.specs.Worlds.{World, Flight, Trace, flight_at, node_at, start}
use Rattle.line_laws.specs.FurtherLines.{HoldsAfter}
use Rattle.line_laws.specs.Lines.{NodeOk}
use Rattle.line_laws.specs.Stores.{IsReadable}
use Rattle.line_laws.proofs.FurtherEvents.{none_accepts}
use Rattle.line_laws.proofs.Nodes.{ring_readable}
use Rattle.line_laws.proofs.Worlds.{at_place, within}
use Rattle.line_progress.specs.EventFates.{ArrivingFate, EventsKeepBodies, EventsKeepFlights, EventsKeepPieces, HasItsKey, PiecesArrive}
use Rattle.line_progress.specs.SendFates.{SendsFly}
use Rattle.line_progress.specs.Stations.{station_at}
use Rattle.line_progress.specs.UnitFates.{DeliveriesHaveFates, DeliveryFate, IsOfDatagram}
use Rattle.line_progress.specs.Ups.{DatagramsCame}
use Rattle.line_progress.proofs.Events.{Fails, StepHas, Taken, at_flight, at_node, by_option, once, outcome_has}
use Rattle.run_laws.specs.Datagrams.{IsAt, MoveDatagrams, MovesDatagrams, TakesFlights, UnitCame, note_under}
use Rattle.run_laws.proofs.SealedCame.{still_joined}

-- # Octets that come

-- what comes to a node does what its event does
abbrev ComesAs : Ciphers → World → (number : ℕ) → Node → List ℕ → World × Trace → Type 0
ComesAs ciphers w number x octets r = (cost : ℕ) × (comes ciphers w number x octets cost ≡ r)

module _ (ciphers : Ciphers) (w : World) (number : ℕ) (x : Node) (there : node_at w number ≡ Some x) where
  delivers_so : (flight cost : ℕ) (f : Flight) → flight_at w flight ≡ Some f
      → StepHas (ComesAs ciphers w number x f.octets) (delivers ciphers w flight number cost)
  unfolding delivers
  delivers_so flight cost f found =
      once _ w _ (at_node _ w number _ (λ y e. at_flight _ w flight _ (λ g h.
      Taken _ (cost, λ i. comes ciphers w number (same_Some x y (sym there ∙ e) i) (same_Some f g (sym found ∙ h) i).octets cost))))

  injects_so : (cost : ℕ) (octets : List ℕ) → StepHas (ComesAs ciphers w number x octets) (injects ciphers w number cost octets)
  unfolding injects
  injects_so cost octets =
      once _ w _ (at_node _ w number _ (λ y e. Taken _ (cost, λ i. comes ciphers w number (same_Some x y (sym there ∙ e) i) octets cost)))

pub comes_so : (ciphers : Ciphers) (w : World) (event : Event) (number : ℕ) (octets : List ℕ) → Comes w event number octets → (x : Node)
    → node_at w number ≡ Some x → (r : World × Trace) → line_step ciphers w event ≡ Ok r → ComesAs ciphers w number x octets r
comes_so ciphers w event number octets (OfFlight flight n cost f found) x there r e =
    outcome_has (ComesAs ciphers w number x octets) (delivers ciphers w flight number cost) r (delivers_so ciphers w number x there flight cost f found) e
comes_so ciphers w event number octets (OfScript n cost o) x there r e =
    outcome_has (ComesAs ciphers w number x octets) (injects ciphers w number cost octets) r (injects_so ciphers w number x there cost octets) e

-- # Lost flights

module _ (w : World) (P : World × Trace → Type 0) where
  at_live : (number : ℕ) (f : Flight → Step) → ((g : Flight) → flight_at w number ≡ Some g → g.lost ≡ false → StepHas P (f g))
      → StepHas P (on_flight w number f)
  at_live number f h =
      by_option P (λ g. if g.lost then Err faults.Flight else f g) (flight_at w number) (Err faults.Flight) (λ g e. by_lost g e g.lost refl)
      (Fails faults.Flight)
    where
      by_lost : (g : Flight) → flight_at w number ≡ Some g → (b : Bool) → g.lost ≡ b → StepHas P (if b then Err faults.Flight else f g)
      by_lost g e true is = Fails faults.Flight
      by_lost g e false is = h g e is

module _ (ciphers : Ciphers) (w : World) where
  abbrev Takes : Event → World × Trace → Type 0
  Takes event r = TakesFlights w r.0 event

  delivers_live : (number node cost : ℕ) → StepHas (Takes (events.Deliver number node cost)) (delivers ciphers w number node cost)
  unfolding delivers
  delivers_live number node cost =
      once _ w _ (at_node _ w node _ (λ y e. at_live w (Takes (events.Deliver number node cost)) number _ (λ f g live. Taken _ (f, g, live))))

  loses_live : (number : ℕ) → StepHas (Takes (events.Lose number)) (lose w number)
  unfolding lose
  loses_live number =
      once _ w _ (at_live w (Takes (events.Lose number)) number _ (λ f g live. Taken _ (f, g, live, by_zero f (number == 0) g)))
    where
      by_zero : (f : Flight) (b : Bool) → (if b then None else slice_get w.flights (number - 1)) ≡ Some f
          → (if b then None else slice_get (slice_set w.flights (number - 1) (record f { lost = true })) (number - 1)) ≡ Some (record f { lost = true })
      by_zero f true e = absurd (cc)
      by_zero f false e = slice_get-set w.flights (number - 1) (record f { lost = true }) (within w.flights (number - 1) f e)

takes_flights : (ciphers : Ciphers) (w : World) (event : Event) (r : World × Trace) → line_step ciphers w event ≡ Ok r → TakesFlights w r.0 event
takes_flights ciphers w (events.Deliver number node cost) r e =
    outcome_has (Takes ciphers w (events.Deliver number node cost)) (delivers ciphers w number node cost) r (delivers_live ciphers w number node cost) e
takes_flights ciphers w (events.Lose number) r e = outcome_has (Takes ciphers w (events.Lose number)) (lose w number) r (loses_live ciphers w number) e
takes_flights ciphers w _ r e = tt

-- # Nodes

-- the station of a node on the line
pub station_there : (w : World) (number : ℕ) (y : Node) (m : Memory) → node_at w number ≡ Some y → y.memory ≡ Some m → station_at w number ≡ Some m.station
station_there w number y m there runs =
    (λ i. option_and_then (λ (x : Node). option_map (λ (m : Memory). m.station) x.memory) (there i))
    ∙ ap (option_map (λ (m : Memory). m.station)) runs

-- what a node accepts is no frame of discovery
pub undiscovered : (y : Node) (octets : List ℕ) (got : Accepted) → (accepting network y octets).answer ≡ Ok got → is_discovery octets ≡ false
undiscovered y octets got is = by_test (is_discovery octets) refl
  where
    by_test : (b : Bool) → is_discovery octets ≡ b → b ≡ false
    by_test true e = absurd (none_accepts network y octets e got is)
    by_test false e = refl

-- # The keys of nodes

-- each node that is joined has the key that it seals with
abbrev pub HaveKeys : World → Type 0
HaveKeys w = (number : ℕ) (l : StationMemory) → station_at w number ≡ Some l → HasItsKey l

some_key : (o : Option Key) → is_some o ≡ true → (key : Key) × (o ≡ Some key)
some_key None e = absurd (cc)
some_key (Some key) e = (key, refl)

pub have_keys : (w : World) → All NodeOk w.nodes → HaveKeys w
have_keys w ok number l e g ring = by_node (node_at w number) refl e
  where
    by_memory : (x : Node) → node_at w number ≡ Some x → (o : Option Memory) → x.memory ≡ o
        → option_and_then (λ (x : Node). option_map (λ (m : Memory). m.station) o) (Some x) ≡ Some l → (key : Key) × (sealing_key g ≡ Some key)
    by_memory x there None runs e = absurd (cc)
    by_memory x there (Some m) runs e =
        let readable : IfSome (Some g) IsReadable =
        subst (λ o. IfSome o IsReadable) (ap (λ (l : StationMemory). l.ring) (same_Some m.station l e) ∙ ring)
        (ring_readable x m (at_place NodeOk w.nodes number x there ok) runs) in
        some_key (sealing_key g) readable.grant.held

    by_node : (o : Option Node) → node_at w number ≡ o → option_and_then (λ (x : Node). option_map (λ (m : Memory). m.station) x.memory) o ≡ Some l
        → (key : Key) × (sealing_key g ≡ Some key)
    by_node None there e = absurd (cc)
    by_node (Some x) there e = by_memory x there x.memory refl e

-- there is no node before the first event
pub nobody_yet : HaveKeys start
nobody_yet number l e = absurd (none number e)
  where
    none : (number : ℕ) → station_at start number ≡ Some l → ⊥
    none zero e = cc
    none (suc number) e = cc

-- # One event

module _ (came : DatagramsCame) (flew : SendsFly) (delivered : DeliveriesHaveFates) (arrive : PiecesArrive) (bodies : EventsKeepBodies)
    (gathered : EventsKeepPieces) (flights : EventsKeepFlights) where
  module _ (w : World) (keys : HaveKeys w) (x : Entry) (step : line_step network w x.event ≡ Ok (x.after, x.trace)) where
    unit_moves : (number : ℕ) (mesh : Mesh) (u : MeshUnit) (c : UnitCame w x.event number u) → IsOfDatagram mesh u
        → (own : ℕ) × IsAt w number own
        × DeliveryFate network w.flights number own u (note_under w x.event number u c) x.trace.happenings.answer x.trace.happenings.up x.after.flights
    unit_moves number mesh u c of =
        let j = still_joined network c.node c.octets c.got c.from false c.key c.path c.accepted in
        let here = station_there w number c.node j.memory c.there j.there in
        let k = keys number j.memory.station here j.granted j.ring in
        let so = comes_so network w x.event number c.octets c.comes c.node c.there (x.after, x.trace) step in
        let note = note_under w x.event number u c in (
          j.granted.address,
          (j.memory.station, here, ap (option_map (λ (g : Granted). g.address)) j.ring),
          subst (λ (r : World × Trace). DeliveryFate network w.flights number j.granted.address u note r.1.happenings.answer r.1.happenings.up r.0.flights)
              so.1
              (delivered network w number so.0 c.from c.node c.octets c.got j.now j.granted c.key k.0 mesh u (undiscovered c.node c.octets c.got c.accepted)
              c.accepted c.path c.read of j.runs j.kept k.1),
        )

    piece_moves : (number : ℕ) (mesh : Mesh) (piece : Placed) (c : UnitCame w x.event number (units.Part mesh piece)) → IsAt w number mesh.to
        → ArrivingFate number (begun mesh.origin piece (note_under w x.event number (units.Part mesh piece) c) w.clock) (placed piece) (x.after, x.trace)
    piece_moves number mesh piece c at =
        let j = still_joined network c.node c.octets c.got c.from false c.key c.path c.accepted in
        let l : at.0 ≡ j.memory.station =
        same_Some at.0 j.memory.station (sym at.1 ∙ station_there w number c.node j.memory c.there j.there) in
        let own : address_of j.now.station ≡ Some mesh.to =
        ap (option_map (λ (g : Granted). g.address)) (j.kept ∙ sym j.ring ∙ ap (λ (s : StationMemory). s.ring) (sym l)) ∙ at.2 in
        let so = comes_so network w x.event number c.octets c.comes c.node c.there (x.after, x.trace) step in
        let note = note_under w x.event number (units.Part mesh piece) c in
        subst (λ (r : World × Trace). ArrivingFate number (begun mesh.origin piece note w.clock) (placed piece) r) so.1
        (arrive network w number so.0 c.from c.node c.octets c.got j.now c.key mesh piece c.there (undiscovered c.node c.octets c.got c.accepted) c.accepted
        c.path c.read j.runs own)

    moves : MovesDatagrams w x
    moves = record {
      keys = keys;
      up_came = came network w x.after x.event x.trace step;
      sent_flew = flew network w x.after x.event x.trace step;
      unit_came = unit_moves;
      piece_came = piece_moves;
      waiting = λ number l there b among. bodies network w x.after x.event x.trace step number l there (keys number l there) b among;
      gathered = gathered network w x.after x.event x.trace step;
      flights = flights network w x.after x.event x.trace step;
      lost = takes_flights network w x.event (x.after, x.trace) step;
    }

  -- # Runs

  pub moved : (w : World) → HaveKeys w → (entries : List Entry) → IsRun network w entries → All HoldsAfter entries → MoveDatagrams w entries
  moved w keys [] run holds = tt
  moved w keys (x ∷ xs) run holds = (
    moves w keys x run.2,
    moved x.after (have_keys x.after (All-head HoldsAfter x xs holds).line.nodes) xs run.3 (All-tail HoldsAfter x xs holds),
  )
