-- No piece that comes overlaps what is gathered of its datagram: the octet would be at two places.
use Rattle.std.proofs.Common.{◌≡◌, ◌⊎◌, inl, inr, ℕ, ◌+◌, ◌-◌, ◌*◌, ◌≤◌, ◌<◌, Bool, true, false, List, [], ◌∷◌, length, Some}
use Rattle.std.proofs.Common.{refl, sym, ap, ◌∙◌, subst, arith}
use Rattle.std.specs.Prelude.{All, AllPairs, ◌||◌, nat_lt}
use Rattle.std.proofs.lemmas.Bool.{and_parts, cases_lt, ltb-true}
use Rattle.std.proofs.lemmas.Option.{same_Some}
use Rattle.mesh_header.specs.declared.unit.Unit.{Unit as MeshUnit}
use Rattle.mesh_header.specs.declared.unit.Unit.TheVariants as units
use Rattle.fragment_buffers.specs.Reassembly.{PlacedPiece, Reassembly, begun, overlap, overlaps, placed}
use Rattle.node_rules.specs.Ciphers.{network}
use Rattle.node_rules.specs.Memory.{StationMemory, Memory, Node}
use Rattle.line_rules.specs.Forgery.{AcceptsSealed, accepting}
use Rattle.line_rules.specs.Runs.{Entry, ups}
use Rattle.line_rules.specs.Steps.{forged_by, note_by}
use Rattle.line_rules.specs.Worlds.{World, Flight, Sending}
use Rattle.line_laws.specs.Custody.{covers, placed_is}
use Rattle.line_laws.specs.InCustody.{SentUnder, StationIsTrue}
use Rattle.line_laws.specs.Live.{live}
use Rattle.line_laws.specs.Places.{opened_at, opened_by, unit_of}
use Rattle.line_laws.specs.Places as places
use Rattle.line_laws.specs.SealedUnits.{IsFit}
use Rattle.line_laws.specs.Sends.{HasOctets, HeldIsOf}
use Rattle.line_laws.specs.Tags.{TagRises}
use Rattle.line_laws.proofs.CustodyDeliver.{WasFlown}
use Rattle.line_progress.specs.EventFates.{PieceCame}
use Rattle.line_progress.specs.Lists.{Among, Here, Later}
use Rattle.line_progress.specs.Stations.{station_at}
use Rattle.run_laws.proofs.FateFlights.{there_flight}
use Rattle.run_laws.specs.OctetPlaces.{Flies, InFlight, InPieces, IsGathered}
use Rattle.run_laws.proofs.OctetPlaces.{RunsAt, at_one_place, runs_at}
use Rattle.run_laws.proofs.FateAcceptance.{Reads, Taken, reads, taken}
use Rattle.run_laws.proofs.FateEvents.{Known, agrees_then, flew, if_some, named_note, unforged}
use Rattle.run_laws.proofs.FateLists.{among_all, inside}

-- # A common octet

-- one of them overlaps the piece
record Overlaps (ps : List PlacedPiece) (q : PlacedPiece) : Type 0 where
  piece : PlacedPiece
  among : Among piece ps
  over : overlap q piece ≡ true

overlapping : (ps : List PlacedPiece) (q : PlacedPiece) → overlaps ps q ≡ true → Overlaps ps q
overlapping [] q e = absurd (cc)
overlapping (p ∷ ps) q e = by_test (overlap q p) refl e (overlapping ps q)
  where
    by_test : (b : Bool) → overlap q p ≡ b → (b || overlaps ps q) ≡ true → (overlaps ps q ≡ true → Overlaps ps q) → Overlaps (p ∷ ps) q
    by_test true t e rest = record { piece = p; among = Here ps; over = t }
    by_test false t e rest = let o = rest e in record { piece = o.piece; among = Later p ps o.among; over = o.over }

-- A position in both.
record Both (p q : PlacedPiece) : Type 0 where
  at : ℕ
  first : placed_is at p ≡ 1
  second : placed_is at q ≡ 1

common : (p q : PlacedPiece) → 0 < length p.octets → 0 < length q.octets → overlap q p ≡ true → Both p q
common p q some_p some_q e = by_order (cases_lt p.start q.start)
  where
    parts : (nat_lt p.start (q.start + length q.octets) ≡ true) × (nat_lt q.start (p.start + length p.octets) ≡ true)
    parts = and_parts _ _ e

    low : q.start < p.start + length p.octets
    low = ltb-true _ _ parts.1

    high : p.start < q.start + length q.octets
    high = ltb-true _ _ parts.0

    by_order : (p.start < q.start) ⊎ (q.start ≤ p.start) → Both p q
    by_order (inl h) = record {
      at = q.start;
      first = inside q.start p.start (length p.octets) (omega arith) low;
      second = inside q.start q.start (length q.octets) (omega arith) (omega arith);
    }
    by_order (inr h) = record {
      at = p.start;
      first = inside p.start p.start (length p.octets) (omega arith) (omega arith);
      second = inside p.start q.start (length q.octets) h high;
    }

-- # No overlap

module _ (home : ℕ → ℕ) (apart : (i j : ℕ) → home i ≡ home j → i ≡ j) (all : List Sending) (rises : AllPairs TagRises all)
    (before : List Entry) (w : World) (x : Entry) (k : Known home all before w x) (n number : ℕ) (l : StationMemory)
    (there : station_at w number ≡ Some l) (r : Reassembly) (held : Among r l.reassemblies) (note : r.note ≡ n) (some : 0 < n)
    (q : PlacedPiece) (c : PieceCame network w x.event number r q) where
  runs : RunsAt w number l
  runs = runs_at w number l there

  accepts : AcceptsSealed network w x.event c.octets c.key
  accepts = record {
    number = number;
    comes = c.comes;
    node = c.node;
    there = c.there;
    got = c.got;
    is = c.accepted;
    from = c.from;
    to_all = false;
    path = c.path;
  }

  was : WasFlown w.flights c.octets c.key
  was = flew home apart all rises before w x k c.octets c.key accepts

  abbrev flight : Flight
  flight = was.flight

  t : Taken c.node flight.octets c.got c.key
  t = subst (λ os. Taken c.node os c.got c.key) (sym was.octets_are) (taken c.node c.octets c.got c.accepted c.from false c.key c.path)

  reading : Reads w was.place flight c.key c.got c.from false
  reading =
      reads w k.holds.custody.flights k.holds.spelled k.differ was.place flight was.there c.key was.key_is
      (subst (λ os. WasFlown w.flights os c.key) (sym was.octets_are) was) c.node c.got c.from false c.path t

  -- the flight has the note of the reassembly
  noted : flight.note ≡ n
  noted =
      sym reading.note ∙ ap (λ os. note_by w os c.got.path) was.octets_are
      ∙ sym (named_note (begun c.mesh.origin c.piece (note_by w c.octets c.got.path) w.clock) r now.after.station.reassemblies
      (agrees_then home apart all rises before w x k number 0 c.node c.octets c.got c.there c.accepted honest now.after now.left c.from c.mesh c.piece
      (record { got = c.got; is = refl; key = c.key; path = c.path; unit = c.unit })) kept c.name)
      ∙ note
    where
      now : Taken c.node c.octets c.got c.key
      now = taken c.node c.octets c.got c.accepted c.from false c.key c.path

      honest : forged_by w c.octets c.got.path ≡ false
      honest = ap (forged_by w c.octets) c.path ∙ unforged home apart all rises before w x k c.octets c.key was

      same_node : c.node ≡ runs.node
      same_node = same_Some c.node runs.node (sym c.there ∙ runs.there)

      same_memory : now.memory ≡ runs.memory
      same_memory = same_Some now.memory runs.memory (sym now.runs ∙ ap (λ (y : Node). y.memory) same_node ∙ runs.runs)

      kept : Among r now.after.station.reassemblies
      kept = subst (Among r) (sym (now.marked.reassemblies ∙ ap (λ (m : Memory). m.station.reassemblies) same_memory
          ∙ ap (λ (s : StationMemory). s.reassemblies) runs.is)) held

  -- and it is live
  lives : live w flight ≡ true
  lives = ((k.falls.opened number c.octets c.node c.comes c.there).passes was.place flight opened was.there).0
    where
      opened : opened_at w c.octets (accepting network c.node c.octets).answer ≡ Some was.place
      opened = ap (opened_at w c.octets) c.accepted ∙ ap (opened_by w c.octets) c.path ∙ was.at

  own_pieces : All HasOctets r.pieces
  own_pieces =
      let s : StationIsTrue (SentUnder home all) (home number) runs.memory.station =
      if_some (λ (m : Memory). StationIsTrue (SentUnder home all) (home number) m.station) runs.node.memory runs.memory
      (k.holds.custody.nodes number runs.node runs.there) runs.runs in
      let h : All (HeldIsOf (SentUnder home all) (home number)) l.reassemblies =
      subst (λ (s : StationMemory). All (HeldIsOf (SentUnder home all) (home number)) s.reassemblies) runs.is s.held in
      (among_all (HeldIsOf (SentUnder home all) (home number)) r l.reassemblies h held).gathers.content.filled

  -- an octet that the piece has too is in its flight, and is gathered
  twice : (j : ℕ) (p : PlacedPiece) → Among p r.pieces → placed_is j p ≡ 1 → covers j (c.piece.offset * 8) (length c.piece.octets) ≡ 1 → ⊥
  twice j p in_r first second =
      let units_are : reading.unit ≡ units.Part c.mesh c.piece = same_Some reading.unit (units.Part c.mesh c.piece) (sym reading.read ∙ c.unit) in
      let carried : unit_of network flight ≡ Some (units.Part c.mesh c.piece) = reading.carried ∙ ap Some units_are in
      let same : InFlight (was.place + 1) ≡ InPieces number =
      at_one_place live w (ups before) k.holds.custody.places n j some (InFlight (was.place + 1)) (InPieces number)
      (Flies (was.place + 1) flight (units.Part c.mesh c.piece) (there_flight w was.place flight was.there) lives noted carried second)
      (IsGathered number l r p there held note in_r first) in
      absurd (cc)

  pub no_overlap : overlaps r.pieces q ≡ true → ⊥
  no_overlap e =
      let o = overlapping r.pieces q e in
      let q_is : q ≡ placed c.piece = c.is in
      let some_p : 0 < length o.piece.octets = among_all HasOctets o.piece r.pieces own_pieces o.among in
      let some_q : 0 < length c.piece.octets = piece_some_octets in
      let over : overlap (placed c.piece) o.piece ≡ true = ap (λ (z : PlacedPiece). overlap z o.piece) (sym q_is) ∙ o.over in
      let both = common o.piece (placed c.piece) some_p some_q over in
      twice both.at o.piece o.among both.first both.second
    where
      fits_of : (u : MeshUnit) → u ≡ units.Part c.mesh c.piece → IsFit u → 0 < length c.piece.octets
      fits_of u same fits = let f : IsFit (units.Part c.mesh c.piece) = subst IsFit same fits in f.fields.1.some

      piece_some_octets : 0 < length c.piece.octets
      piece_some_octets =
          fits_of reading.unit (same_Some reading.unit (units.Part c.mesh c.piece) (sym reading.read ∙ c.unit)) reading.fits
