-- A datagram that is sent along a route that may carry it: how it is cut, that its frames fly to the first node, and what comes of each at the last one.
use Rattle.std.proofs.Common.{◌≡◌, ℕ, zero, suc, ◌+◌, ◌*◌, ◌<◌, ◌≤◌, ◌⊎◌, inl, inr, Bool, true, false, ◌||◌, List, [], ◌∷◌, ◌++◌, length, map}
use Rattle.std.proofs.Common.{Option, Some, None, Ok, refl, sym, ap, subst, ◌∙◌, arith}
use Rattle.std.specs.Prelude.{if◌then◌else◌, nat_le, nat_lt, slice_get, ◌==◌}
use Rattle.std.specs.Int.{div_ceil}
use Rattle.std.specs.List.{range_with_len}
use Rattle.std.specs.Option.{option_map, option_map_or}
use Rattle.std.proofs.lemmas.Bool.{cases_lt, eq-eqb, ne_eqb, leb-false, leb-true}
use Rattle.std.proofs.Math.Bool.{or-false}
use Rattle.std.proofs.lemmas.List.{length-append, length-map}
use Rattle.std.proofs.lemmas.List.FromFn.{length-map-range_with_len}
use Rattle.plc_base.specs.declared.key.Key.{Key}
use Rattle.plc_base.specs.Grant.{Granted}
use Rattle.plc_base.specs.Keeper.{Write}
use Rattle.frame_counters.specs.PeerMarks.{room_for}
use Rattle.mesh_header.specs.declared.unit.Unit.{Unit as MeshUnit}
use Rattle.mesh_header.specs.declared.unit.Unit.TheVariants as units
use Rattle.fragment_buffers.specs.Fragmentation.{pieces_of, piece_of, pieces_cut}
use Rattle.fragment_buffers.specs.Loads.{all_go, own_mesh}
use Rattle.fragment_buffers.specs.Laws.{Coming, after, has_come, note_of_first}
use Rattle.fragment_buffers.specs.Reassembly.{Reassembly}
use Rattle.fragment_buffers.specs.PieceIntake as pieces
use Rattle.fragment_buffers.proofs.Cuts.{kth_of_cut}
use Rattle.fragment_buffers.proofs.RoundTrip.{come_together}
use Rattle.node_rules.specs.declared.heard.Heard.TheVariants as heard
use Rattle.node_rules.specs.declared.heard.SentHow.TheVariants as how_of
use Rattle.node_rules.specs.Ciphers.{Ciphers, OpensWhatItSeals}
use Rattle.node_rules.specs.Drafts.{counters_left, sealed_units, tag_after, tag_write}
use Rattle.node_rules.specs.Frames.{Sent, Sealed, spelled}
use Rattle.node_rules.specs.HearingRules.{gathered}
use Rattle.node_rules.specs.Memory.{StationMemory}
use Rattle.node_rules.specs.Plans.{resting}
use Rattle.line_events.specs.declared.event.Answer.{Answer}
use Rattle.line_events.specs.declared.event.Answer.TheVariants as answers
use Rattle.line_events.specs.declared.event.Event.{Event}
use Rattle.line_events.specs.declared.event.Event.TheVariants as events
use Rattle.line_rules.specs.Answers.{Up}
use Rattle.line_rules.specs.Runs.{run}
use Rattle.line_rules.specs.Steps.{flight_by, sends_by}
use Rattle.line_rules.specs.Worlds.{World, Flight, Trace, node_at}
use Rattle.line_progress.specs.Arrival.{Stop, IsReady, HasLink, HasRoute, AreReady, IsStraight, last_of, last_answer, IsBrought}
use Rattle.line_progress.specs.Arrival.{MayCarry, MayGather}
use Rattle.line_progress.proofs.Contents.{Content, Entire, Piece, IsContent, unit_with, entire_fits, piece_in_range}
use Rattle.line_progress.proofs.HeardUnits.{Hears}
use Rattle.line_progress.proofs.Routes.{IsNow, AreNow, IsUnderWay, Ends, says_first, get_after, runs_on}
use Rattle.line_progress.proofs.Routes.{address_is, all_there, last_ready}
use Rattle.line_progress.proofs.SentDatagrams.{IsCut, it_leaves, sends_it, steps_so, takes_next, takes_none}

-- # The frames of a datagram

-- what is handed up with a frame, where this many more are to come: nothing, and the datagram with the last one
abbrev pub IsHanded : List ℕ → ℕ → Option Up → Type 0
IsHanded datagram zero up = (note : ℕ) × (up ≡ Some (record { note = note; octets = datagram }))
IsHanded datagram (suc more) up = up ≡ None

-- the flight at a place is there in a later world
pub moved : (ciphers : Ciphers) (w v : World) (place dest origin sent : ℕ) (s t : Stop) (content : Content) (more : ℕ)
    → ((k : ℕ) (f : Flight) → slice_get w.flights k ≡ Some f → slice_get v.flights k ≡ Some f)
    → IsUnderWay ciphers w place dest origin sent s t content more → IsUnderWay ciphers v place dest origin sent s t content more
moved ciphers w v place dest origin sent s t content more stays way = record {
  f = way.f;
  mesh = way.mesh;
  note = way.note;
  flown = stays place way.f way.flown;
  unlost = way.unlost;
  same = way.same;
  to = way.to;
  origin_is = way.origin_is;
  few = way.few;
  enough = way.enough;
}

-- # They fly when they are sent

abbrev pub flight_for : Ciphers → (number : ℕ) → Granted → Key → (hop note counter : ℕ) → MeshUnit → Flight
flight_for ciphers number g k hop note counter unit =
    flight_by number (spelled ciphers (Sealed (record {
      to = hop;
      from = g.address;
      counter = counter;
      index = g.active;
      key = k;
      unit = unit;
      note = note;
    })))

module _ (ciphers : Ciphers) (number : ℕ) (g : Granted) (k : Key) (hop note : ℕ) where
  -- the flights of units
  abbrev pub flights_for : ℕ → List MeshUnit → List Flight
  flights_for counter us = map (λ (frame : Sent). flight_by number (spelled ciphers frame)) (sealed_units g k counter (all_go hop note us))

  abbrev made : ℕ → MeshUnit → Flight
  made counter unit = flight_for ciphers number g k hop note counter unit

  pub flies_at : (us : List MeshUnit) (counter j : ℕ) (unit : MeshUnit) → slice_get us j ≡ Some unit
      → slice_get (flights_for counter us) j ≡ Some (made (counter + j) unit)
  flies_at [] counter j unit e = absurd (cc)
  flies_at (u ∷ us) counter zero unit e =
      let same : counter ≡ counter + 0 = omega arith in
      ap (λ n. Some (made n u)) same ∙ ap (λ (o : Option MeshUnit). Some (made (counter + 0) (option_map_or (λ v. v) o unit))) e
  flies_at (u ∷ us) counter (suc j) unit e =
      let same : (counter + 1) + j ≡ counter + suc j = omega arith in flies_at us (counter + 1) j unit e ∙ ap (λ n. Some (made n unit)) same

  pub count_of : (us : List MeshUnit) (counter : ℕ) → length (flights_for counter us) ≡ length us
  count_of [] counter = refl
  count_of (u ∷ us) counter = let more = count_of us (counter + 1) in omega (arith, more)

got_mapped : {A B : Type 0} (f : A → B) (xs : List A) (k : ℕ) (x : A) → slice_get xs k ≡ Some x → slice_get (map f xs) k ≡ Some (f x)
got_mapped f [] k x e = absurd (cc)
got_mapped f (y ∷ xs) zero x e = ap (option_map f) e
got_mapped f (y ∷ xs) (suc k) x e = got_mapped f xs k x e

-- # As the route is at first

now_at_first : (w : World) (frames dest : ℕ) (held : List Reassembly) (s t : Stop) → node_at w t.number ≡ Some t.node → IsReady t → HasLink frames dest s t
    → (t.granted.address ≡ dest → t.memory.station.reassemblies ≡ held)
    → IsNow w dest s.granted.address (s.memory.station.counter.next + 0) 0 held t
now_at_first w frames dest held s t there ready link gathers =
    let none : s.memory.station.counter.next ≡ s.memory.station.counter.next + 0 = omega arith in
    record {
      node = t.node;
      memory = t.memory;
      there = there;
      runs = ready.memory;
      spared = ready.spared;
      ring = ready.ring;
      routing = refl;
      sends = λ on. omega arith;
      gathers = gathers;
      admits = subst (λ c. room_for t.memory.station.marks s.granted.address c ≡ Ok tt) none link.admits;
    }

pub all_at_first : (w : World) (frames dest : ℕ) (rest : List Stop) (s t : Stop) → AreReady w (t ∷ rest) → HasRoute frames dest s (t ∷ rest)
    → AreNow w dest 0 (last_of t rest).memory.station.reassemblies s (t ∷ rest)
all_at_first w frames dest [] s t ready route =
    (now_at_first w frames dest t.memory.station.reassemblies s t ready.0 ready.1 route.0 (λ _. refl), tt)
all_at_first w frames dest (z ∷ rest) s t ready route = (
  now_at_first w frames dest (last_of z rest).memory.station.reassemblies s t ready.0 ready.1 route.0 (λ e. absurd (route.1.0.on e)),
  all_at_first w frames dest rest t z ready.2 route.1,
)

-- # Pieces come together

or_moved : (a b c : Bool) → (a || (b || c)) ≡ ((a || b) || c)
or_moved true b c = refl
or_moved false b c = refl

has_come_push : (k : ℕ) (cs : List Coming) (c : Coming) → has_come k (cs ++ c ∷ []) ≡ (has_come k cs || (k == c.piece))
has_come_push k [] c = or-false (k == c.piece)
has_come_push k (b ∷ cs) c = ap (λ x. (k == b.piece) || x) (has_come_push k cs c) ∙ or_moved (k == b.piece) (has_come k cs) (k == c.piece)

after_push : (held : List Reassembly) (origin : ℕ) (d : List ℕ) (tag : ℕ) (cs : List Coming) (c : Coming)
    → after held origin d tag (cs ++ c ∷ []) ≡ (pieces.taken (after held origin d tag cs) origin (piece_of d tag c.piece) c.note c.now).held
after_push held origin d tag [] c = refl
after_push held origin d tag (b ∷ cs) c = after_push (pieces.taken held origin (piece_of d tag b.piece) b.note b.now).held origin d tag cs c

-- This many pieces of a datagram have come, in their order.
record HaveCome (held : List Reassembly) (origin : ℕ) (d : List ℕ) (tag count : ℕ) (now : List Reassembly) : Type 0 where
  cs : List Coming
  is : now ≡ after held origin d tag cs
  came : (k : ℕ) → k < count → has_come k cs ≡ true
  rest : (k : ℕ) → count ≤ k → has_come k cs ≡ false

one_more_came : (held : List Reassembly) (origin : ℕ) (d : List ℕ) (tag count note now : ℕ) (before : List Reassembly)
    → HaveCome held origin d tag count before
    → HaveCome held origin d tag (count + 1) (pieces.taken before origin (piece_of d tag count) note now).held
one_more_came held origin d tag count note now before h =
    let c : Coming = record { piece = count; note = note; now = now } in
    record {
      cs = h.cs ++ c ∷ [];
      is = ap (λ rs. (pieces.taken rs origin (piece_of d tag count) note now).held) h.is ∙ sym (after_push held origin d tag h.cs c);
      came = λ k lt. has_come_push k h.cs c ∙ by_place k lt (cases_lt k count);
      rest = λ k le. has_come_push k h.cs c ∙ ap (λ b. b || (k == count)) (h.rest k (omega (arith, le)))
          ∙ ne_eqb k count (λ e. absurd (omega (arith, le, e)));
    }
  where
    by_place : (k : ℕ) → k < count + 1 → (k < count) ⊎ (count ≤ k) → (has_come k h.cs || (k == count)) ≡ true
    by_place k lt (inl lower) = ap (λ b. b || (k == count)) (h.came k lower)
    by_place k lt (inr last) = ap (λ b. b || (k == count)) (h.rest k last) ∙ eq-eqb k count (omega (arith, lt, last))

-- what a station makes of a piece, by what comes of it
module _ (l : StationMemory) (origin : ℕ) (t : pieces.Taking) where
  hears_held : t.outcome ≡ pieces.Held → Hears (gathered l origin t) heard.Held [] (record l { reassemblies = t.held })
  unfolding gathered resting
  hears_held e = record { answer_is = ap (λ o. (gathered l origin (record t { outcome = o })).answer) e; frames_is = refl; memory_is = refl }

  hears_whole : (note : ℕ) (octets : List ℕ) → t.outcome ≡ pieces.Whole note octets
      → Hears (gathered l origin t) (heard.Up origin note octets) [] (record l { reassemblies = t.held })
  unfolding gathered resting
  hears_whole note octets e = record { answer_is = ap (λ o. (gathered l origin (record t { outcome = o })).answer) e; frames_is = refl; memory_is = refl }

-- # How a datagram is cut

-- What a datagram is on its way from one node to another: its units, what they carry, and what comes of them at the end.
pub record InFrames (s z : Stop) (datagram : List ℕ) : Type 1 where
  pub puts : List Write
  pub tag : ℕ
  pub us : List MeshUnit
  pub cut : IsCut s.memory.station s.granted.address z.granted.address datagram puts tag us
  pub more : ℕ
  pub some_frames : pieces_of (length datagram) ≡ suc more
  pub many : length us ≡ pieces_of (length datagram)
  pub contents : ℕ → Content
  pub fits : (k : ℕ) → k < pieces_of (length datagram) → IsContent (contents k)
  pub units_are : (k : ℕ) → k < pieces_of (length datagram)
      → slice_get us k ≡ Some (unit_with (own_mesh s.granted.address z.granted.address) (contents k))
  pub Held : ℕ → List Reassembly → Type 0
  pub starts : Held 0 z.memory.station.reassemblies
  pub ends : (sent more : ℕ) → sent + (more + 1) ≡ pieces_of (length datagram) → (held : List Reassembly) → Held sent held → (l : StationMemory)
      (note now : ℕ) → l.reassemblies ≡ held
      → Ends (contents sent) s.granted.address (last_answer more) (Held (sent + 1)) (IsHanded datagram more) l note now

module _ (s z : Stop) (datagram : List ℕ) (some : 0 < length datagram) (few : length datagram ≤ 1280)
    (gathers : 376 ≤ length datagram → MayGather s z datagram) where
  abbrev dest : ℕ
  dest = z.granted.address

  abbrev frames : ℕ
  frames = pieces_of (length datagram)

  -- # Whole

  module _ (small : nat_le (length datagram) 375 ≡ true) where
    one_frame : frames ≡ 1
    one_frame = λ i. if small i then 1 else div_ceil (length datagram) 368

    abbrev one : List MeshUnit
    one = units.Whole (own_mesh s.granted.address dest) datagram ∷ []

    cut_whole : IsCut s.memory.station s.granted.address dest datagram [] s.memory.station.next_tag one
    cut_whole = record {
      begun = takes_none s.memory.station datagram small;
      units = λ i. if small i then one
          else map (λ piece. units.Part (own_mesh s.granted.address dest) piece) (pieces_cut datagram s.memory.station.next_tag);
    }

    ends_whole : (sent more : ℕ) → sent + (more + 1) ≡ frames → (held : List Reassembly) → Unit {0} → (l : StationMemory) (note now : ℕ)
        → l.reassemblies ≡ held
        → Ends (Entire datagram) s.granted.address (last_answer more) (λ _. Unit {0}) (IsHanded datagram more) l note now
    unfolding resting
    ends_whole sent zero all held holds l note now same = record {
      answer = heard.Up s.granted.address note datagram;
      left = l.reassemblies;
      hears = record { answer_is = refl; frames_is = refl; memory_is = refl };
      read = refl;
      word_is = refl;
      said = (note, refl);
      good = tt;
    }
    ends_whole sent (suc more) all held holds l note now same = absurd (omega (arith, all, one_frame))

    in_one : InFrames s z datagram
    in_one = record {
      puts = [];
      tag = s.memory.station.next_tag;
      us = one;
      cut = cut_whole;
      more = 0;
      some_frames = one_frame;
      many = sym one_frame;
      contents = λ _. Entire datagram;
      fits = λ k lt. entire_fits datagram some (leb-true _ _ small);
      units_are = λ k lt. first_is k (omega (arith, lt, one_frame));
      Held = λ _ _. Unit {0};
      starts = tt;
      ends = ends_whole;
    }
      where
        first_is : (k : ℕ) → k < 1 → slice_get one k ≡ Some (units.Whole (own_mesh s.granted.address dest) datagram)
        first_is zero lt = refl
        first_is (suc k) lt = absurd (omega arith)

  -- # In pieces

  module _ (big : nat_le (length datagram) 375 ≡ false) (gather : MayGather s z datagram) where
    abbrev tag : ℕ
    tag = s.memory.station.next_tag

    abbrev own : ℕ
    own = s.granted.address

    abbrev held : List Reassembly
    held = z.memory.station.reassemblies

    many_frames : frames ≡ div_ceil (length datagram) 368
    many_frames = λ i. if big i then 1 else div_ceil (length datagram) 368

    long : 375 < length datagram
    long = leb-false _ _ big

    more_than_one : (more : ℕ) × (frames ≡ suc more)
    more_than_one = by_count frames (let d = long in omega (arith, many_frames, d))
      where
        by_count : (n : ℕ) → 1 ≤ n → (more : ℕ) × (n ≡ suc more)
        by_count zero some = absurd (omega arith)
        by_count (suc more) some = (more, refl)

    -- each frame begins within the datagram
    begins : (k : ℕ) → k < frames → 368 * k < length datagram
    begins k lt = let d = long in let below : k < div_ceil (length datagram) 368 = omega (arith, lt, many_frames) in omega (arith, d, below)

    abbrev parts : List MeshUnit
    parts = map (λ piece. units.Part (own_mesh own dest) piece) (pieces_cut datagram tag)

    cut_parts : IsCut s.memory.station own dest datagram (tag_write tag ∷ []) (tag_after tag) parts
    cut_parts = record {
      begun = takes_next s.memory.station datagram big;
      units = λ i. if big i then units.Whole (own_mesh own dest) datagram ∷ [] else parts;
    }

    many_parts : length parts ≡ frames
    unfolding pieces_cut
    many_parts =
        length-map (pieces_cut datagram tag) _
        ∙ (λ i. length (if big i then [] else map (piece_of datagram tag) (range_with_len 0 frames)))
        ∙ length-map-range_with_len (piece_of datagram tag) 0 frames

    module _ (sent : ℕ) (before : List Reassembly) (h : HaveCome held own datagram tag sent before) (l : StationMemory) (note now : ℕ)
        (same : l.reassemblies ≡ before) where
      abbrev taking : pieces.Taking
      taking = pieces.taken l.reassemblies own (piece_of datagram tag sent) note now

      good : HaveCome held own datagram tag (sent + 1) taking.held
      good = subst (λ rs. HaveCome held own datagram tag (sent + 1) (pieces.taken rs own (piece_of datagram tag sent) note now).held) (sym same)
          (one_more_came held own datagram tag sent note now before h)

      same_taking : taking ≡ pieces.taken (after held own datagram tag h.cs) own (piece_of datagram tag sent) note now
      same_taking = ap (λ rs. pieces.taken rs own (piece_of datagram tag sent) note now) (same ∙ h.is)

      ends_by : (more : ℕ) → sent + (more + 1) ≡ frames
          → Ends (Piece (piece_of datagram tag sent)) own (last_answer more) (HaveCome held own datagram tag (sent + 1)) (IsHanded datagram more) l note now
      unfolding one_more_came
      ends_by zero all =
          let c : Coming = record { piece = sent; note = note; now = now } in
          let law = come_together held own datagram tag gather.awaits h.cs c sent (omega (arith, all)) (h.rest sent (omega arith)) in
          let come = one_more_came held own datagram tag sent note now before h in
          let first : ℕ = note_of_first (h.cs ++ c ∷ []) in
          record {
            answer = heard.Up own first datagram;
            left = taking.held;
            hears = hears_whole l own taking first datagram
                (ap (λ (x : pieces.Taking). x.outcome) (same_taking ∙ law.0 (λ k lt. come.came k (omega (arith, lt, all)))));
            read = refl;
            word_is = refl;
            said = (first, refl);
            good = good;
          }
      ends_by (suc more) all =
          let c : Coming = record { piece = sent; note = note; now = now } in
          let law = come_together held own datagram tag gather.awaits h.cs c sent (omega (arith, all)) (h.rest sent (omega arith)) in
          let come = one_more_came held own datagram tag sent note now before h in
          record {
            answer = heard.Held;
            left = taking.held;
            hears = hears_held l own taking (ap (λ (x : pieces.Taking). x.outcome) same_taking
                ∙ law.1 (sent + 1) (omega (arith, all)) (come.rest (sent + 1) (omega arith)));
            read = refl;
            word_is = refl;
            said = refl;
            good = good;
          }

    in_parts : InFrames s z datagram
    in_parts = record {
      puts = tag_write tag ∷ [];
      tag = tag_after tag;
      us = parts;
      cut = cut_parts;
      more = more_than_one.0;
      some_frames = more_than_one.1;
      many = many_parts;
      contents = λ k. Piece (piece_of datagram tag k);
      fits = λ k lt. piece_in_range datagram tag k few gather.tag (begins k lt);
      units_are = λ k lt. got_mapped (λ piece. units.Part (own_mesh own dest) piece) (pieces_cut datagram tag) k (piece_of datagram tag k)
          (kth_of_cut datagram tag k (piece_of datagram tag k) (let d = long in omega (arith, d)) lt refl);
      Held = HaveCome held own datagram tag;
      starts = record { cs = []; is = refl; came = λ k lt. absurd (omega arith); rest = λ k le. refl };
      ends = λ sent more all before h l note now same. ends_by sent before h l note now same more all;
    }

  pub in_frames : InFrames s z datagram
  in_frames = by_size (nat_le (length datagram) 375) refl
    where
      by_size : (b : Bool) → nat_le (length datagram) 375 ≡ b → InFrames s z datagram
      by_size true small = in_one small
      by_size false big = in_parts big (gathers (let long = leb-false _ _ big in omega (arith, long)))

-- # Its frames are under way

-- they are under way to the first node
pub start_so : (ciphers : Ciphers) (v : World) (s t : Stop) (rest : List Stop) (datagram : List ℕ) (base note : ℕ)
    (cut : InFrames s (last_of t rest) datagram) → length rest ≤ 13
    → ((k : ℕ) (unit : MeshUnit) → slice_get cut.us k ≡ Some unit
    → slice_get v.flights (base + k)
    ≡ Some (flight_for ciphers s.number s.granted s.key t.granted.address note (s.memory.station.counter.next + k) unit))
    → (k : ℕ) → k < pieces_of (length datagram)
    → IsUnderWay ciphers v (base + k) (last_of t rest).granted.address s.granted.address k s t (cut.contents k) (length rest)
start_so ciphers v s t rest datagram base note cut short fly k lt = record {
  f = flight_for ciphers s.number s.granted s.key t.granted.address note (s.memory.station.counter.next + k)
      (unit_with (own_mesh s.granted.address (last_of t rest).granted.address) (cut.contents k));
  mesh = own_mesh s.granted.address (last_of t rest).granted.address;
  note = note;
  flown = fly k _ (cut.units_are k lt);
  unlost = refl;
  same = refl;
  to = refl;
  origin_is = refl;
  few = omega arith;
  enough = omega (arith, short);
}

-- # It is sent

module _ (w : World) (s t : Stop) (rest : List Stop) (datagram : List ℕ) (may : MayCarry w s t rest datagram) where
  pub cut_of : InFrames s (last_of t rest) datagram
  cut_of = in_frames s (last_of t rest) datagram may.some may.few may.gathers

module _ (ciphers : Ciphers) (opens : OpensWhatItSeals ciphers) (w : World) (s t : Stop) (rest : List Stop) (datagram : List ℕ)
    (may : MayCarry w s t rest datagram) where
  abbrev last : Stop
  last = last_of t rest

  abbrev all_frames : ℕ
  all_frames = pieces_of (length datagram)

  abbrev cut : InFrames s last datagram
  cut = cut_of w s t rest datagram may

  -- It is sent, its frames fly to the first node, and then other events come.
  pub sent_so : (more : List Event) (expected : List Answer)
      → ((v : World) → AreReady v (t ∷ rest)
      → ((k : ℕ) → k < all_frames
      → IsUnderWay ciphers v (length w.flights + k) last.granted.address s.granted.address k s t (cut.contents k) (length rest))
      → length v.flights ≡ length w.flights + all_frames → v.events ≡ w.events + 1 → IsBrought expected last.number datagram (run ciphers v more))
      → IsBrought (answers.Sent ∷ expected) last.number datagram (run ciphers w (events.Send s.number last.number datagram ∷ more))
  sent_so more expected goes =
      let some = may.some in
      let few = may.few in
      let short = may.short in
      let room = may.room in
      let ready : AreReady w (s ∷ t ∷ rest) = may.ready in
      let straight : IsStraight (s ∷ t ∷ rest) = may.straight in
      let route : HasRoute all_frames last.granted.address s (t ∷ rest) = may.route in
      let target = last_ready w t rest ready.2 in
      let first : IsReady s = ready.1 in
      let link : HasLink all_frames last.granted.address s t = route.0 in
      let c : ℕ = s.memory.station.counter.next in
      let event : Event = events.Send s.number last.number datagram in
      let r : World × Trace = sends_by ciphers w s.number last.number datagram s.node (Some last.granted.address) in
      let step = steps_so ciphers w s.number last.number datagram s.node last.node last.granted.address ready.0 target.0 (address_is last target.1) in
      let left : nat_lt (counters_left s.memory.station) (length (all_go t.granted.address (w.sends + 1) cut.us)) ≡ false =
      ap (nat_lt (counters_left s.memory.station)) (length-map cut.us _ ∙ cut.many) ∙ link.left in
      let out = it_leaves ciphers w s.number last.number datagram s.node last.node last.granted.address ready.0 target.0 (address_is last target.1)
      s.memory first.memory first.spared how_of.Sent (sealed_units s.granted s.key c (all_go t.granted.address (w.sends + 1) cut.us)) _ refl
      (sends_it s.memory.station s.granted first.ring last.granted.address t.granted.address link.on link.route s.key first.key datagram some few
      (w.sends + 1) w.clock cut.puts cut.tag cut.us cut.cut left) in
      let new : List Flight = flights_for ciphers s.number s.granted s.key t.granted.address (w.sends + 1) c cut.us in
      let longer : length r.0.flights ≡ length w.flights + all_frames =
      ap length out.flights ∙ length-append w.flights new
      ∙ ap (λ n. length w.flights + n) (count_of ciphers s.number s.granted s.key t.granted.address (w.sends + 1) cut.us c ∙ cut.many) in
      let counted = out.events in
      let fly : (k : ℕ) (unit : MeshUnit) → slice_get cut.us k ≡ Some unit
      → slice_get r.0.flights (length w.flights + k)
      ≡ Some (flight_for ciphers s.number s.granted s.key t.granted.address (w.sends + 1) (c + k) unit) =
      λ k unit e. ap (λ fs. slice_get fs (length w.flights + k)) out.flights ∙ get_after w.flights new (length w.flights + k) k refl
      ∙ flies_at ciphers s.number s.granted s.key t.granted.address (w.sends + 1) cut.us c k unit e in
      let ahead : IsBrought expected last.number datagram (run ciphers r.0 more) =
      goes r.0 (all_there w r.0 s.number out.node (t ∷ rest) out.nodes straight.0 ready.2)
      (start_so ciphers r.0 s t rest datagram (length w.flights) (w.sends + 1) cut short fly) longer counted in
      let said = says_first (record { number = w.events + 1; event = event; trace = r.1; after = r.0 }) answers.Sent None expected
      (record { node = last.number; note = ahead.note; octets = datagram } ∷ []) (run ciphers r.0 more) out.answer_is out.up_is
      (record { answers = ahead.answers; handed_is = ahead.up }) in
      let whole = runs_on ciphers w event more r (omega (arith, room)) step in
      subst (λ es. IsBrought (answers.Sent ∷ expected) last.number datagram es) (sym whole)
      (record { answers = said.answers; note = ahead.note; up = said.handed_is })
