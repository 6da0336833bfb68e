-- What becomes of a fate in one event: of what flies, waits or is gathered.
use Rattle.std.proofs.Common.{◌≡◌, ◌≢◌, ⊎_elim, ℕ, ◌+◌, ◌-◌, ◌*◌, ◌<◌, Bool, true, false, List, [], ◌∷◌, ◌++◌, length, Option, Some, None}
use Rattle.std.proofs.Common.{refl, sym, ap, ◌∙◌, subst}
use Rattle.std.specs.Prelude.{AllPairs, slice_get}
use Rattle.std.specs.Option.{option_map}
use Rattle.std.proofs.lemmas.Bool.{ne_eqb}
use Rattle.std.proofs.lemmas.List.{append_assoc}
use Rattle.std.proofs.lemmas.Option.{none-some, same_Some}
use Rattle.plc_base.specs.declared.key.Key.{Key}
use Rattle.plc_base.specs.Grant.{Granted}
use Rattle.group_keys.specs.KeyRing as ring
use Rattle.mesh_header.specs.Grammar.{IsUnit}
use Rattle.mesh_header.specs.declared.unit.Mesh.{Mesh}
use Rattle.mesh_header.specs.declared.unit.Unit.{Unit as MeshUnit}
use Rattle.mesh_header.specs.declared.unit.Unit.TheVariants as units
use Rattle.mesh_header.specs.Pieces.{Placed}
use Rattle.mesh_header.specs.Reader.{unit_in}
use Rattle.fragment_buffers.specs.Reassembly.{Reassembly, begun, placed}
use Rattle.node_rules.specs.declared.heard.Path.TheVariants as paths
use Rattle.node_rules.specs.Ciphers.{network}
use Rattle.node_rules.specs.Drafts.{sealing_key}
use Rattle.node_rules.specs.Frames.{Sealed, spelled, to_all}
use Rattle.node_rules.specs.Memory.{StationMemory, Memory, address_of}
use Rattle.line_events.specs.declared.event.Answer.{Answer}
use Rattle.line_events.specs.declared.happenings.Handed.{Handed}
use Rattle.line_rules.specs.Forgery.{AcceptsSealed}
use Rattle.line_rules.specs.Further.{comes}
use Rattle.line_rules.specs.Runs.{Entry, last_world, one_of, ups}
use Rattle.line_rules.specs.Steps.{flight_by, forged_by, note_by}
use Rattle.line_rules.specs.Worlds.{World, Flight, Sending, Trace, flight_at, is_forged_frame, start}
use Rattle.line_laws.specs.Custody.{content_is, covers}
use Rattle.line_laws.specs.Places.{unit_of}
use Rattle.line_laws.specs.Ranges.{IsBody, IsStationRanged, NodeRanged}
use Rattle.line_laws.specs.SealedUnits.{GoesToOne}
use Rattle.line_laws.specs.Tags.{TagRises}
use Rattle.line_laws.proofs.CustodyDeliver.{WasFlown}
use Rattle.line_laws.proofs.IssueRuns.{all_of_one}
use Rattle.line_laws.proofs.Made.{IsLess, Part, Whole}
use Rattle.line_laws.proofs.RangeUnits.{less_fit}
use Rattle.line_progress.specs.EventFates.{ArrivingFate, BodyEnds, BodyFateIn, FlightFateIn, HandedUpWith, IsGathered as NowGathered, IsLost, MakesWhole}
use Rattle.line_progress.specs.EventFates.{NodeHalts, NotTaken, Overlapped, PieceEnds, PieceFateIn, SetsOut, StillFlies, StillGathered, StillWaits}
use Rattle.line_progress.specs.Lists.{Among, Here}
use Rattle.line_progress.specs.Stations.{station_at}
use Rattle.line_progress.specs.UnitFates.{DeliveryFate, IsCompleted, IsEnded, IsHeld, IsOfDatagram, IsPiece, IsRelayed, IsUp, IsWhole, is_datagram_end}
use Rattle.line_progress.specs.UnitFates.{one_hop_less}
use Rattle.line_progress.proofs.DeliveryFates.{delivery_fates}
use Rattle.line_progress.proofs.EventFates.{bodies_kept, pieces_kept}
use Rattle.line_progress.proofs.FlightsKept.{flights_kept}
use Rattle.line_progress.proofs.PieceArrivals.{pieces_arrive}
use Rattle.line_laws.proofs.Worlds.{at_place}
use Rattle.line_progress.proofs.BodyFates.{among_back}
use Rattle.line_progress.proofs.PieceFates.{among_front}
use Rattle.run_laws.proofs.OctetPlaces.{numbered, runs_at}
use Rattle.run_laws.proofs.Datagrams.{comes_so, have_keys, station_there, undiscovered}
use Rattle.run_laws.specs.DatagramFates.{AtDelivery, Ends, Fate, Flies, Gathered, HandedUp, IsGathered, IsHandedUp, IsInFlight, IsWaiting, Lost}
use Rattle.run_laws.specs.DatagramFates.{Over, Waits, WhileGathered, WhileWaiting}
use Rattle.run_laws.proofs.FateAcceptance.{Reads, Taken, accepts_or_not, reads, taken}
use Rattle.run_laws.proofs.FateEvents.{Known, agrees_now, flew, handed_note, if_some, named_note, unforged}
use Rattle.run_laws.proofs.FateFlights.{still_unaccepted}
use Rattle.run_laws.proofs.FateFlown.{Ahead, all_fly, flies_on}
use Rattle.run_laws.proofs.FateLists.{among_all}
use Rattle.run_laws.proofs.FateOverlaps.{no_overlap}

module _ (home : ℕ → ℕ) (apart : (i j : ℕ) → home i ≡ home j → i ≡ j) (all : List Sending) (rises : AllPairs TagRises all)
    (before : List Entry) (w : World) (x : Entry) (k : Known home all before w x) (a : Ahead before w) (n i : ℕ) (some : 0 < n) where
  abbrev Now : Type 0
  Now = Fate n i (before ++ x ∷ []) x.after

  -- it ends in this event
  pub ends_now : Ends n i before w x → Now
  ends_now how = Over x.number (record {
    before = before;
    entry = x;
    after = [];
    split = refl;
    is = refl;
    how = subst (λ v. Ends n i before v x) (sym a.ends) how;
  })

  ups_on : ups (before ++ x ∷ []) ≡ ups before ++ one_of x.trace.happenings.up
  ups_on = all_of_one (λ d. one_of d.happenings.up) before x

  -- it is handed up in this event
  pub up_now : (u : Handed) → x.trace.happenings.up ≡ Some u → u.note ≡ n → Now
  up_now u up note = HandedUp (record {
    handed = u;
    is = subst (Among u) (sym ups_on) (among_back u (ups before) (one_of x.trace.happenings.up)
        (subst (λ o. Among u (one_of o)) (sym up) (Here [])));
    note = note;
  })

  pub still_up : IsHandedUp n before → Now
  still_up h = HandedUp (record {
    handed = h.handed;
    is = subst (Among h.handed) (sym ups_on) (among_front h.handed (ups before) (one_of x.trace.happenings.up) h.is);
    note = h.note;
  })

  -- # What waits and what is gathered

  ranged : (number : ℕ) (l : StationMemory) → station_at w number ≡ Some l → IsStationRanged l
  ranged number l there =
      let r = runs_at w number l there in
      subst IsStationRanged r.is (if_some (λ (m : Memory). IsStationRanged m.station) r.node.memory r.memory
      (at_place NodeRanged w.nodes number r.node r.there k.holds.ranged.nodes) r.runs)

  waits_on : (node : ℕ) (b : IsWaiting n i w node) → Now
  waits_on node b =
      by_fate (bodies_kept network w x.after x.event x.trace k.step node b.station b.there (have_keys w k.holds.line.nodes node b.station b.there) b.body
      b.waits)
    where
      fits : IsStationRanged b.station
      fits = ranged node b.station b.there

      by_fate : BodyFateIn network w x.event node b.station b.body (x.after, x.trace) → Now
      by_fate (StillWaits now there among) =
          Waits node (record { station = now; there = there; body = b.body; waits = among; note = b.note; octet = b.octet })
      by_fate (SetsOut g key hop new ring keyed flights each) =
          let body : IsBody b.body = among_all IsBody b.body b.station.waiting fits.bodies b.waits in
          let own = (if_some _ b.station.ring g fits.ring ring).address in
          all_fly home apart all rises before w x k a n i node g.address b.body.to hop b.body.note b.body.load new flights own body.to body.load b.octet
          b.note g key each
      by_fate (BodyEnds ended) = ends_now (WhileWaiting node b ended)

  gathers_on : (node : ℕ) (p : IsGathered n i w node) → Now
  gathers_on node p =
      by_fate (pieces_kept network w x.after x.event x.trace k.step node p.station p.there p.reassembly p.piece p.held p.placed)
    where
      by_fate : PieceFateIn network w x.event node p.reassembly p.piece (x.after, x.trace) → Now
      by_fate (StillGathered now s there among same in_s) = Gathered node (record {
        station = now;
        there = there;
        reassembly = s;
        held = among;
        note = same.note ∙ p.note;
        piece = p.piece;
        placed = in_s;
        octet = p.octet;
      })
      by_fate (HandedUpWith s octets same in_s full up) = up_now (record { node = node; note = p.reassembly.note; octets = octets }) up p.note
      by_fate (Overlapped q came over) =
          absurd (no_overlap home apart all rises before w x k n node p.station p.there p.reassembly p.held p.note some q came over)
      by_fate (PieceEnds ended) = ends_now (WhileGathered node p ended)

  -- # What flies

  module _ (number : ℕ) (f : IsInFlight n i before w number) where
    abbrev flight : Flight
    flight = f.flight

    there : slice_get w.flights (number - 1) ≡ Some flight
    there = (numbered w number flight f.there).1

    -- no node accepts it in this event
    flies_still : ((key : Key) → flight.key ≡ Some key → AcceptsSealed network w x.event flight.octets key → ⊥) → Now
    flies_still none = by_fate (flights_kept network w x.after x.event x.trace k.step number flight f.there)
      where
        now_none : (key : Key) → flight.key ≡ Some key → AcceptsSealed network (last_world start before) x.event flight.octets key → ⊥
        now_none key e c = none key e (subst (λ v. AcceptsSealed network v x.event flight.octets key) a.ends c)

        still : (g : Flight) → flight_at x.after number ≡ Some g → g.note ≡ flight.note → g.octets ≡ flight.octets → g.key ≡ flight.key
            → unit_of network g ≡ unit_of network flight → IsInFlight n i (before ++ x ∷ []) x.after number
        still g at note octets key same = record {
          flight = g;
          there = at;
          note = note ∙ f.note;
          unit = f.unit;
          carried = same ∙ f.carried;
          octet = f.octet;
          unaccepted = still_unaccepted flight g octets key start before x f.unaccepted now_none;
        }

        by_lost : (b : Bool) → flight.lost ≡ b → flight_at x.after number ≡ Some flight → Now
        by_lost true e at = Lost number (still flight at refl refl refl refl) e
        by_lost false e at = Flies number (still flight at refl refl refl refl) e

        by_fate : FlightFateIn x.event number flight x.after → Now
        by_fate (StillFlies at) = by_lost flight.lost refl at
        by_fate (IsLost is at) = Lost number (still (record flight { lost = true }) at refl refl refl refl) refl

    -- a node accepts it
    module _ (key : Key) (keyed : flight.key ≡ Some key) (c : AcceptsSealed network w x.event flight.octets key) where
      was : WasFlown w.flights flight.octets key
      was = flew home apart all rises before w x k flight.octets key c

      t : Taken c.node flight.octets c.got key
      t = taken c.node flight.octets c.got c.is c.from c.to_all key c.path

      r : Reads w (number - 1) flight key c.got c.from c.to_all
      r = reads w k.holds.custody.flights k.holds.spelled k.differ (number - 1) flight there key keyed was c.node c.got c.from c.to_all c.path t

      same_unit : r.unit ≡ f.unit
      same_unit = same_Some r.unit f.unit (sym r.carried ∙ f.carried)

      has : content_is i r.unit ≡ 1
      has = ap (content_is i) same_unit ∙ f.octet

      noted : note_by w flight.octets c.got.path ≡ n
      noted = r.note ∙ f.note

      -- it is a unit of a datagram
      record OfDatagram : Type 0 where
        mesh : Mesh
        of : IsOfDatagram mesh r.unit
        one : c.to_all ≡ false

      of_datagram : OfDatagram
      of_datagram = by_unit r.unit refl has r.one.2
        where
          single : r.one.0 ≢ to_all → c.to_all ≡ false
          single ne = r.one.1 ∙ ne_eqb r.one.0 to_all ne

          by_unit : (u : MeshUnit) → r.unit ≡ u → content_is i u ≡ 1 → GoesToOne r.one.0 u → OfDatagram
          by_unit (units.Whole mesh octets) e h ne = record { mesh = mesh; of = subst (IsOfDatagram mesh) (sym e) (IsWhole octets); one = single ne }
          by_unit (units.Part mesh piece) e h ne = record { mesh = mesh; of = subst (IsOfDatagram mesh) (sym e) (IsPiece piece); one = single ne }
          by_unit (units.Carried mesh body) e h ne = absurd (cc)
          by_unit (units.Local code body) e h ne = absurd (cc)

      path : c.got.path ≡ paths.Sealed c.from false key
      path = c.path ∙ ap (λ b. paths.Sealed c.from b key) of_datagram.one

      event : (cost : ℕ) × (comes network w c.number c.node flight.octets cost ≡ (x.after, x.trace))
      event = comes_so network w x.event c.number flight.octets c.comes c.node c.there (x.after, x.trace) k.step

      abbrev l : StationMemory
      l = t.after.station

      -- the node is joined
      record Joined : Type 0 where
        granted : Granted
        ring : l.ring ≡ Some granted
        own : Key
        seals : sealing_key granted ≡ Some own

      joined : Joined
      joined = by_ring t.memory.station.ring refl t.admitted.held
        where
          by_ring : (o : ring.Ring) → t.memory.station.ring ≡ o → ring.key_in_ring o t.admitted.index ≡ Some t.admitted.key → Joined
          by_ring None e h = absurd (cc)
          by_ring (Some g) e h =
              let own = have_keys w k.holds.line.nodes c.number t.memory.station (station_there w c.number c.node t.memory c.there t.runs) g e in
              record { granted = g; ring = t.marked.ring ∙ e; own = own.0; seals = own.1 }

      honest : is_forged_frame w.flights flight.octets key ≡ false
      honest = unforged home apart all rises before w x k flight.octets key was

      unforged_path : forged_by w flight.octets c.got.path ≡ false
      unforged_path = ap (forged_by w flight.octets) path ∙ honest

      up_so : (u : Handed) → x.trace.happenings.up ≡ Some u → Now
      up_so u up = up_now u up
          (handed_note home apart all rises before w x k c.number event.0 c.node flight.octets c.got c.comes c.there c.is unforged_path u up ∙ noted)

      delivered_end : is_datagram_end x.trace.happenings.answer ≡ true → Now
      delivered_end e = ends_now (AtDelivery number key f c keyed e)

      -- the unit with one hop less
      less : IsLess r.unit (one_hop_less r.unit)
      less = by_kind r.unit of_datagram.of
        where
          by_kind : (u : MeshUnit) → IsOfDatagram of_datagram.mesh u → IsLess u (one_hop_less u)
          by_kind u (IsWhole octets) = Whole of_datagram.mesh octets
          by_kind u (IsPiece piece) = Part of_datagram.mesh piece

      less_has : content_is i (one_hop_less r.unit) ≡ 1
      less_has = by_kind r.unit of_datagram.of ∙ has
        where
          by_kind : (u : MeshUnit) → IsOfDatagram of_datagram.mesh u → content_is i (one_hop_less u) ≡ content_is i u
          by_kind u (IsWhole octets) = refl
          by_kind u (IsPiece piece) = refl

      module _ (mesh : Mesh) (piece : Placed) (of : r.unit ≡ units.Part mesh piece) (to : mesh.to ≡ joined.granted.address) where
        abbrev anew : Reassembly
        anew = begun mesh.origin piece (note_by w flight.octets c.got.path) w.clock

        own : address_of l ≡ Some mesh.to
        own = ap (option_map (λ (g : Granted). g.address)) joined.ring ∙ ap Some (sym to)

        read : unit_in c.got.payload ≡ Some (units.Part mesh piece)
        read = r.read ∙ ap Some of

        piece_has : covers i (piece.offset * 8) (length piece.octets) ≡ 1
        piece_has = sym (ap (content_is i) of) ∙ has

        by_arrival : ArrivingFate c.number anew (placed piece) (x.after, x.trace) → Now
        by_arrival (NowGathered now s p at among named in_s same) = Gathered c.number (record {
          station = now;
          there = at;
          reassembly = s;
          held = among;
          note = named_note anew s now.reassemblies
              (agrees_now home apart all rises before w x k c.number event.0 c.node flight.octets c.got c.there c.is unforged_path now at c.from mesh piece
              (record { got = c.got; is = refl; key = key; path = path; unit = read })) among named
              ∙ noted;
          piece = p;
          placed = in_s;
          octet = (λ j. covers i (same.start j) (same.long j)) ∙ piece_has;
        })
        by_arrival (MakesWhole s octets named in_s full up) = up_so (record { node = c.number; note = s.note; octets = octets }) up
        by_arrival (NotTaken e) = delivered_end (ap is_datagram_end e)
        by_arrival (NodeHalts e none) = delivered_end (ap is_datagram_end e)

        piece_arrived : Now
        piece_arrived = by_arrival (subst (ArrivingFate c.number anew (placed piece)) event.1
            (pieces_arrive network w c.number event.0 c.from c.node flight.octets c.got t.after key mesh piece c.there
            (undiscovered c.node flight.octets c.got c.is) c.is path read t.left own))

      abbrev FateOf : Answer → Option Handed → List Flight → Type 0
      FateOf = DeliveryFate network w.flights c.number joined.granted.address r.unit (note_by w flight.octets c.got.path)

      by_delivery : (word : Answer) (up : Option Handed) (flights : List Flight) → FateOf word up flights → x.trace.happenings.answer ≡ word
          → x.trace.happenings.up ≡ up → x.after.flights ≡ flights → Now
      by_delivery word up flights (IsUp mesh octets after of to) ea eu ef =
          up_so (record { node = c.number; note = note_by w flight.octets c.got.path; octets = octets }) eu
      by_delivery word up flights (IsCompleted mesh piece m octets after of to) ea eu ef =
          up_so (record { node = c.number; note = m; octets = octets }) eu
      by_delivery word up flights (IsHeld mesh piece after of to) ea eu ef = piece_arrived mesh piece of to
      by_delivery word up flights (IsRelayed s unit note) ea eu ef =
          flies_on home apart all rises before w x k a n i c.number s (flight_by c.number (spelled network (Sealed s)) ∷ []) ef (Here [])
          (subst IsUnit (sym unit) (less_fit r.unit (one_hop_less r.unit) less r.fits).fields) (note ∙ noted) (ap (content_is i) unit ∙ less_has)
      by_delivery word up flights (IsEnded said after e) ea eu ef = delivered_end (ap is_datagram_end ea ∙ e)

      accepted_on : Now
      accepted_on =
          by_delivery x.trace.happenings.answer x.trace.happenings.up x.after.flights
          (subst (λ (q : World × Trace). FateOf q.1.happenings.answer q.1.happenings.up q.0.flights) event.1
          (delivery_fates network w c.number event.0 c.from c.node flight.octets c.got t.after joined.granted key joined.own of_datagram.mesh r.unit
          (undiscovered c.node flight.octets c.got c.is) c.is path r.read of_datagram.of t.left joined.ring joined.seals)) refl refl refl

    flies_or_comes : Now
    flies_or_comes = by_key flight.key refl
      where
        no_key : flight.key ≡ None → ⊥
        no_key e = none-some f.unit (sym (ap (λ (o : Option Key). unit_of network (record flight { key = o })) e) ∙ f.carried)

        by_key : (o : Option Key) → flight.key ≡ o → Now
        by_key None e = absurd (no_key e)
        by_key (Some key) e =
            ⊎_elim (λ (c : AcceptsSealed network w x.event flight.octets key). accepted_on key e c)
            (λ (none : AcceptsSealed network w x.event flight.octets key → ⊥). flies_still (λ other same c.
            none (subst (AcceptsSealed network w x.event flight.octets) (same_Some other key (sym same ∙ e)) c)))
            (accepts_or_not w x.event flight.octets key)

  -- # Every fate

  pub goes_on : Fate n i before w → Now
  goes_on (HandedUp h) = still_up h
  goes_on (Flies number f free) = flies_or_comes number f
  goes_on (Lost number f lost) = flies_or_comes number f
  goes_on (Waits node b) = waits_on node b
  goes_on (Gathered node p) = gathers_on node p
  goes_on (Over event e) = Over event (record {
    before = e.before;
    entry = e.entry;
    after = e.after ++ x ∷ [];
    split = ap (λ es. es ++ x ∷ []) e.split ∙ append_assoc e.before (e.entry ∷ e.after) (x ∷ []);
    is = e.is;
    how = e.how;
  })
