-- One unit of a datagram comes over a link of a route: what its node makes of it, at the end of the route and before.
use Rattle.std.proofs.Common.{◌≡◌, ◌≢◌, ℕ, zero, suc, ◌+◌, ◌-◌, ◌<◌, ◌≤◌, false, List, [], ◌∷◌, ◌++◌, length, Option, Some, None, Ok}
use Rattle.std.proofs.Common.{refl, sym, ap, subst, ◌∙◌, arith}
use Rattle.std.specs.Prelude.{if◌then◌else◌, nat_lt, slice_get, slice_set, ◌==◌}
use Rattle.std.specs.Option.{option_and_then}
use Rattle.std.proofs.lemmas.Bool.{ne_eqb, le-ltb, lt-ltb, ltb-false}
use Rattle.plc_base.specs.Addresses.{IsAddress}
use Rattle.plc_base.specs.Grant.{Granted}
use Rattle.frame_counters.specs.PeerMarks.{room_for, kept_after}
use Rattle.store_tables.proofs.SlotTables.{slice_get-push, slice_get-set, slice_get-set_other}
use Rattle.mesh_header.specs.declared.unit.Mesh.{Mesh}
use Rattle.mesh_header.specs.declared.unit.Unit.{Unit as MeshUnit}
use Rattle.mesh_header.specs.Grammar.{IsMesh}
use Rattle.mesh_header.specs.Reader.{unit_in}
use Rattle.routing_set.specs.RoutingSet as routing
use Rattle.fragment_buffers.specs.Reassembly.{Reassembly}
use Rattle.node_rules.specs.declared.heard.Heard.{Heard}
use Rattle.node_rules.specs.declared.heard.Heard.TheVariants as heard
use Rattle.node_rules.specs.Acceptance.{marking}
use Rattle.node_rules.specs.Ciphers.{Ciphers, OpensWhatItSeals}
use Rattle.node_rules.specs.Drafts.{counters_left}
use Rattle.node_rules.specs.Frames.{SealedUnit, Sealed, spelled, to_all}
use Rattle.node_rules.specs.HearingRules.{hear, hop_less}
use Rattle.node_rules.specs.Memory.{StationMemory, Memory, Node, next_hop, node_address, address_of}
use Rattle.node_rules.specs.MemoryDrafts.{unread, with_station}
use Rattle.line_events.specs.declared.event.Answer.{Answer}
use Rattle.line_events.specs.declared.event.Event.{Event}
use Rattle.line_events.specs.declared.event.Event.TheVariants as events
use Rattle.line_events.specs.declared.event.TheConstants.{MAX_EVENTS}
use Rattle.line_events.specs.declared.happenings.Handed.{Handed}
use Rattle.line_rules.specs.Answers.{Up, station_reception}
use Rattle.line_rules.specs.Further.{comes, line_step}
use Rattle.line_rules.specs.Runs.{Entry, entries_of, one_of, run, ups}
use Rattle.line_rules.specs.Steps.{flight_by}
use Rattle.line_rules.specs.Worlds.{World, Flight, Trace, node_at, flight_at}
use Rattle.line_progress.specs.Arrival.{Stop, IsReady, HasLink, AreReady, IsNoneOf, last_of, answers_of}
use Rattle.line_progress.proofs.SealedUnits.{IsSealable}
use Rattle.line_progress.proofs.Acceptance.{got_of}
use Rattle.line_progress.proofs.NextCounter.{admits_next}
use Rattle.line_progress.proofs.Contents.{Content, IsContent, unit_with, taken_up}
use Rattle.line_progress.proofs.HeardUnits.{Hears, goes_on, is_taken_up, sent_one}
use Rattle.line_progress.proofs.Deliveries.{Goes, delivered, frame_comes, marked, note_is, reads}

-- # Runs

-- an event that is taken is the first entry of a run
pub runs_on : (ciphers : Ciphers) (w : World) (event : Event) (more : List Event) (r : World × Trace) → w.events < MAX_EVENTS
    → line_step ciphers w event ≡ Ok r
    → run ciphers w (event ∷ more)
    ≡ record { number = w.events + 1; event = event; trace = r.1; after = r.0 } ∷ run ciphers r.0 more
runs_on ciphers w event more r room is =
    (λ i. if lt-ltb w.events MAX_EVENTS room i
    then entries_of w event (line_step ciphers w event) (λ next. run ciphers next more) else [])
    ∙ (λ i. entries_of w event (is i) (λ next. run ciphers next more))

-- What a run answers, and what it hands up.
pub record Says (expected : List Answer) (handed : List Handed) (entries : List Entry) : Type 0 where
  pub answers : answers_of entries ≡ expected
  pub handed_is : ups entries ≡ handed

pub says_first : (x : Entry) (word : Answer) (up : Option Handed) (expected : List Answer) (handed : List Handed) (entries : List Entry)
    → x.trace.happenings.answer ≡ word → x.trace.happenings.up ≡ up → Says expected handed entries
    → Says (word ∷ expected) (one_of up ++ handed) (x ∷ entries)
says_first x word up expected handed entries a u s = record {
  answers = λ i. a i ∷ s.answers i;
  handed_is = λ i. one_of (u i) ++ s.handed_is i;
}

-- # Lists by place

pub get_before : {A : Type 0} (xs ys : List A) (k : ℕ) (x : A) → slice_get xs k ≡ Some x → slice_get (xs ++ ys) k ≡ Some x
get_before [] ys k x e = absurd (cc)
get_before (y ∷ xs) ys zero x e = e
get_before (y ∷ xs) ys (suc k) x e = get_before xs ys k x e

pub get_after : {A : Type 0} (xs ys : List A) (k j : ℕ) → k ≡ length xs + j → slice_get (xs ++ ys) k ≡ slice_get ys j
get_after [] ys k j e = ap (slice_get ys) (omega (arith, e))
get_after (x ∷ xs) ys zero j e = absurd (omega (arith, e))
get_after (x ∷ xs) ys (suc k) j e = get_after xs ys k j (omega (arith, e))

pub place_within : {A : Type 0} (xs : List A) (k : ℕ) (x : A) → slice_get xs k ≡ Some x → k < length xs
place_within [] k x e = absurd (cc)
place_within (y ∷ xs) zero x e = omega arith
place_within (y ∷ xs) (suc k) x e = let h = place_within xs k x e in omega arith

-- the flight at a place has the number after it
pub at_place : (w : World) (flight place : ℕ) → flight ≡ place + 1 → flight_at w flight ≡ slice_get w.flights place
at_place w flight place number =
    let other : (flight == 0) ≡ false = ne_eqb flight 0 (λ e. absurd (omega (arith, number, e))) in
    let less : flight - 1 ≡ place = omega (arith, number) in
    (λ i. if other i then None else slice_get w.flights (flight - 1)) ∙ ap (slice_get w.flights) less

-- # The nodes of a route

-- the last node is there
pub last_ready : (w : World) (t : Stop) (rest : List Stop) → AreReady w (t ∷ rest)
    → (node_at w (last_of t rest).number ≡ Some (last_of t rest).node) × IsReady (last_of t rest)
last_ready w t [] ready = (ready.0, ready.1)
last_ready w t (s ∷ rest) ready = last_ready w s rest ready.2

pub address_is : (s : Stop) → IsReady s → node_address s.node ≡ Some s.granted.address
address_is s ready =
    (λ i. option_and_then (λ (m : Memory). address_of m.station) (ready.memory i)) ∙ ap (λ (o : Option Granted). address_with o) ready.ring
  where
    address_with : Option Granted → Option ℕ
    address_with None = None
    address_with (Some g) = Some g.address

-- each is ready
abbrev pub AreFit : List Stop → Type 0
AreFit [] = Unit {0}
AreFit (s ∷ rest) = IsReady s × AreFit rest

pub fit_of : (w : World) (stops : List Stop) → AreReady w stops → AreFit stops
fit_of w [] ready = tt
fit_of w (s ∷ rest) ready = (ready.1, fit_of w rest ready.2)

-- nodes that did nothing are there and ready
pub all_there : (w v : World) (number : ℕ) (y : Node) (stops : List Stop) → v.nodes ≡ slice_set w.nodes number y → IsNoneOf number stops
    → AreReady w stops → AreReady v stops
all_there w v number y [] same none ready = tt
all_there w v number y (t ∷ rest) same none ready = (
  ap (λ nodes. slice_get nodes t.number) same ∙ slice_get-set_other w.nodes number t.number y none.0 ∙ ready.0,
  ready.1,
  all_there w v number y rest same none.1 ready.2,
)

-- A node of a route now, after this many frames went by it to an address: it admits this next counter of the node before it, and, at the end of
-- the route, it holds these reassemblies.
pub record IsNow (w : World) (dest from next sent : ℕ) (held : List Reassembly) (s : Stop) : Type 0 where
  pub node : Node
  pub memory : Memory
  pub there : node_at w s.number ≡ Some node
  pub runs : node.memory ≡ Some memory
  pub spared : node.store.cut ≡ None
  pub ring : memory.station.ring ≡ Some s.granted
  pub routing : memory.station.routing ≡ s.memory.station.routing
  pub sends : s.granted.address ≢ dest → memory.station.counter.next ≡ s.memory.station.counter.next + sent
  pub gathers : s.granted.address ≡ dest → memory.station.reassemblies ≡ held
  pub admits : room_for memory.station.marks from next ≡ Ok tt

-- each node after the first
abbrev pub AreNow : World → (dest sent : ℕ) → List Reassembly → Stop → List Stop → Type 0
AreNow w dest sent held s [] = Unit {0}
AreNow w dest sent held s (t ∷ rest) =
    IsNow w dest s.granted.address (s.memory.station.counter.next + sent) sent held t × AreNow w dest sent held t rest

-- a node that did nothing is as before
pub still : (w v : World) (dest from next sent : ℕ) (held : List Reassembly) (s : Stop) → node_at v s.number ≡ node_at w s.number
    → IsNow w dest from next sent held s → IsNow v dest from next sent held s
still w v dest from next sent held s same now = record {
  node = now.node;
  memory = now.memory;
  there = same ∙ now.there;
  runs = now.runs;
  spared = now.spared;
  ring = now.ring;
  routing = now.routing;
  sends = now.sends;
  gathers = now.gathers;
  admits = now.admits;
}

-- # On the way

-- what a node of a route seals for the next one, after this many frames
abbrev pub sealed_for : Stop → Stop → ℕ → MeshUnit → ℕ → SealedUnit
sealed_for s t sent unit note = record {
  to = t.granted.address;
  from = s.granted.address;
  counter = s.memory.station.counter.next + sent;
  index = s.granted.active;
  key = s.key;
  unit = unit;
  note = note;
}

-- The flight at a place has a unit of a datagram for an address, from a node of a route to the next one; this many nodes are to come.
pub record IsUnderWay (ciphers : Ciphers) (w : World) (place dest origin sent : ℕ) (s t : Stop) (content : Content) (more : ℕ) : Type 0 where
  pub f : Flight
  pub mesh : Mesh
  pub note : ℕ
  pub flown : slice_get w.flights place ≡ Some f
  pub unlost : f.lost ≡ false
  pub same : f.octets ≡ (spelled ciphers (Sealed (sealed_for s t sent (unit_with mesh content) note))).octets
  pub to : mesh.to ≡ dest
  pub origin_is : mesh.origin ≡ origin
  pub few : mesh.hops ≤ 14
  pub enough : more < mesh.hops

pub no_target : (t : Stop) → IsReady t → t.granted.address ≢ to_all
no_target t ready e = let low : t.granted.address < 0xFFFE = ready.address in absurd (omega arith)

-- What the last node of a route makes of a unit: it says this word, leaves such reassemblies, and hands such a thing up.
pub record Ends (content : Content) (origin : ℕ) (word : Answer) (Left : List Reassembly → Type 0) (IsSaid : Option Up → Type 0)
    (l : StationMemory) (note now : ℕ) : Type 0 where
  pub answer : Heard
  pub left : List Reassembly
  pub hears : Hears (taken_up l content origin note now) answer [] (record l { reassemblies = left })
  pub read : unread (Ok answer) ≡ None
  pub word_is : (station_reception answer).answer ≡ word
  pub said : IsSaid (station_reception answer).up
  pub good : Left left

module _ (ciphers : Ciphers) (opens : OpensWhatItSeals ciphers) (frames dest origin sent : ℕ) (here : IsAddress origin) (there : IsAddress dest)
    (below : sent < frames) (content : Content) (fits : IsContent content) (held : List Reassembly) where
  sealable : (s t : Stop) (mesh : Mesh) (note : ℕ) → IsReady s → IsReady t → HasLink frames dest s t → mesh.hops ≤ 14 → mesh.origin ≡ origin
      → mesh.to ≡ dest → IsSealable (sealed_for s t sent (unit_with mesh content) note)
  sealable s t mesh note ready next link few from to =
      let mesh_fits : IsMesh mesh = record {
        hops = omega arith;
        origin = subst (λ a. IsAddress a) (sym from) here;
        to = subst (λ a. IsAddress a) (sym to) there;
      } in
      record {
        to = let low : t.granted.address < 0xFFFE = next.address in (omega arith, λ e. absurd (omega arith));
        from = ready.address;
        counter =
            let left : frames ≤ counters_left s.memory.station = ltb-false (counters_left s.memory.station) frames link.left in omega (arith, below, left);
        index = ready.index;
        fields = fits.unit mesh mesh_fits;
        size = fits.size mesh mesh_fits few;
      }

  module _ (w : World) (place : ℕ) (s t : Stop) (more : ℕ) (first : IsReady s) (ready : IsReady t) (link : HasLink frames dest s t)
      (now : IsNow w dest s.granted.address (s.memory.station.counter.next + sent) sent held t)
      (way : IsUnderWay ciphers w place dest origin sent s t content more) where
    abbrev pub u : SealedUnit
    u = sealed_for s t sent (unit_with way.mesh content) way.note

    pub u_fits : IsSealable u
    u_fits = sealable s t way.mesh way.note first ready link way.few way.origin_is way.to

    -- what comes of the flight at the node
    abbrev pub came : World × Trace
    came = comes ciphers w t.number now.node (spelled ciphers (Sealed u)).octets t.cost

    pub step_is : (flight : ℕ) → flight ≡ place + 1 → line_step ciphers w (events.Deliver flight t.number t.cost) ≡ Ok came
    step_is flight number =
        delivered ciphers w flight t.number t.cost now.node way.f now.there (at_place w flight place number ∙ way.flown) way.unlost
        ∙ ap (λ octets. Ok (comes ciphers w t.number now.node octets t.cost)) way.same

    abbrev pub note_now : ℕ
    note_now =
        note_is ciphers opens w t.number t.cost now.node now.memory t.granted now.runs now.spared now.ring u u_fits way.mesh content refl
        refl (no_target t ready) link.apart link.opens now.admits

    abbrev pub marked_now : StationMemory
    marked_now =
        marked ciphers opens w t.number t.cost now.node now.memory t.granted now.runs now.spared now.ring u u_fits way.mesh content refl
        refl (no_target t ready) link.apart link.opens now.admits

    reads_now : unit_in (got_of u).payload ≡ Some (unit_with way.mesh content)
    reads_now =
        reads ciphers opens w t.number t.cost now.node now.memory t.granted now.runs now.spared now.ring u u_fits way.mesh content refl
        refl (no_target t ready) link.apart link.opens now.admits

    ring_now : marked_now.ring ≡ Some t.granted
    unfolding marking
    ring_now = now.ring

    pub gathers_now : marked_now.reassemblies ≡ now.memory.station.reassemblies
    unfolding marking
    gathers_now = refl

    -- the node has kept the counter
    admits_now : room_for (kept_after now.memory.station.marks s.granted.address (s.memory.station.counter.next + sent)) s.granted.address
        (s.memory.station.counter.next + (sent + 1)) ≡ Ok tt
    admits_now =
        let one_more : (s.memory.station.counter.next + sent) + 1 ≡ s.memory.station.counter.next + (sent + 1) = omega arith in
        subst (λ c. room_for (kept_after now.memory.station.marks s.granted.address (s.memory.station.counter.next + sent)) s.granted.address c ≡ Ok tt)
        one_more (admits_next now.memory.station.marks s.granted.address (s.memory.station.counter.next + sent))

    -- where a world has another node in its place
    is_there : (v : World) (y : Node) → v.nodes ≡ slice_set w.nodes t.number y → node_at v t.number ≡ Some y
    is_there v y nodes =
        ap (λ ns. slice_get ns t.number) nodes ∙ slice_get-set w.nodes t.number y (place_within w.nodes t.number now.node now.there)

    -- at the end of the route the unit is taken up
    module _ (word : Answer) (Left : List Reassembly → Type 0) (IsSaid : Option Up → Type 0)
        (ends : (l : StationMemory) (note now : ℕ) → l.reassemblies ≡ held → Ends content origin word Left IsSaid l note now)
        (at : t.granted.address ≡ dest) where
      abbrev pub end : Ends content origin word Left IsSaid marked_now note_now w.clock
      end = ends marked_now note_now w.clock (gathers_now ∙ now.gathers at)

      abbrev pub gathered_now : StationMemory
      gathered_now = record marked_now { reassemblies = end.left }

      hears_last : Hears (hear marked_now (got_of u) t.cost note_now w.clock) end.answer [] gathered_now
      hears_last =
          subst (λ p. Hears p end.answer [] gathered_now)
          (sym (is_taken_up marked_now t.granted ring_now u.from u.key way.mesh content (got_of u).payload reads_now t.cost note_now w.clock
          (way.to ∙ sym at) ∙ ap (λ o. taken_up marked_now content o note_now w.clock) way.origin_is)) end.hears

      pub comes_last : Goes ciphers w t.number (station_reception end.answer) [] (with_station gathered_now now.memory) came
      comes_last =
          frame_comes ciphers opens w t.number t.cost now.node now.memory t.granted now.runs now.spared now.ring u u_fits way.mesh content refl
          refl (no_target t ready) link.apart link.opens now.admits end.answer [] gathered_now hears_last end.read

      pub last_now : IsNow came.0 dest s.granted.address (s.memory.station.counter.next + (sent + 1)) (sent + 1) end.left t
      unfolding marking
      last_now = record {
        node = comes_last.node;
        memory = with_station gathered_now now.memory;
        there = is_there came.0 comes_last.node comes_last.nodes;
        runs = comes_last.memory;
        spared = comes_last.spared;
        ring = now.ring;
        routing = now.routing;
        sends = λ on. absurd (on at);
        gathers = λ _. refl;
        admits = admits_now;
      }

    -- before, it goes on
    module _ (next : Stop) (onto : HasLink frames dest t next) (some : 1 ≤ more) where
      counter_is : now.memory.station.counter.next ≡ t.memory.station.counter.next + sent
      counter_is = now.sends onto.on

      route_now : next_hop marked_now way.mesh.to ≡ Some next.granted.address
      unfolding marking next_hop
      route_now = ap (routing.next_of now.memory.station.routing) way.to ∙ ap (λ r. routing.next_of r dest) now.routing ∙ onto.route

      left_now : nat_lt (counters_left marked_now) 1 ≡ false
      unfolding marking
      left_now =
          let left : frames ≤ counters_left t.memory.station = ltb-false (counters_left t.memory.station) frames onto.left in
          le-ltb (counters_left now.memory.station) 1 (omega (arith, below, left, counter_is))

      -- what it seals
      abbrev pub onward : SealedUnit
      onward = record (sealed_for t next sent (unit_with (hop_less way.mesh) content) note_now) { counter = now.memory.station.counter.next }

      pub comes_on : Goes ciphers w t.number (station_reception heard.Relayed) (Sealed onward ∷ []) (with_station (sent_one marked_now) now.memory) came
      unfolding marking
      comes_on =
          frame_comes ciphers opens w t.number t.cost now.node now.memory t.granted now.runs now.spared now.ring u u_fits way.mesh content refl
          refl (no_target t ready) link.apart link.opens now.admits heard.Relayed (Sealed onward ∷ []) (sent_one marked_now)
          (goes_on marked_now t.granted ring_now u.from u.key way.mesh content (got_of u).payload reads_now t.cost note_now w.clock
          (λ e. onto.on (sym e ∙ way.to)) next.granted.address route_now (let enough = way.enough in omega arith) left_now t.key ready.key) refl

      pub on_now : (any : List Reassembly) → IsNow came.0 dest s.granted.address (s.memory.station.counter.next + (sent + 1)) (sent + 1) any t
      unfolding marking
      on_now any = record {
        node = comes_on.node;
        memory = with_station (sent_one marked_now) now.memory;
        there = is_there came.0 comes_on.node comes_on.nodes;
        runs = comes_on.memory;
        spared = comes_on.spared;
        ring = now.ring;
        routing = now.routing;
        sends = λ on. ap (λ n. n + 1) counter_is ∙ omega arith;
        gathers = λ e. absurd (onto.on e);
        admits = admits_now;
      }

      -- the flight that it adds is under way to the next node
      pub on_its_way : (rest : ℕ) → rest < more → IsUnderWay ciphers came.0 (length w.flights) dest origin sent t next content rest
      on_its_way rest fewer = record {
        f = flight_by t.number (spelled ciphers (Sealed onward));
        mesh = hop_less way.mesh;
        note = note_now;
        flown = ap (λ fs. slice_get fs (length w.flights)) comes_on.flights ∙ slice_get-push w.flights _;
        unlost = refl;
        same = ap (λ c. (spelled ciphers (Sealed (record onward { counter = c }))).octets) counter_is;
        to = way.to;
        origin_is = way.origin_is;
        few = let few = way.few in omega arith;
        enough = let enough = way.enough in omega (arith, enough, fewer);
      }
