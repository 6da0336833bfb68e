-- No plan doubles an octet of a datagram: what it leaves, sends and hands up was there, or came, or was sent out.
use Rattle.std.proofs.Common.{zero-le, ◌≡◌, ℕ, ◌+◌, ◌≤◌, ◌<◌, false, List, [], ◌∷◌, length, ⊎_elim, Option, Some, None, Result, Ok, Err, refl, sym, ap, ◌∙◌}
use Rattle.std.proofs.Common.{subst, arith}
use Rattle.std.specs.List.{sum_by}
use Rattle.std.specs.Option.{option_map_or}
use Rattle.std.proofs.lemmas.List.Sums.{sum_by-cons, sum_by-append}
use Rattle.plc_base.specs.declared.address.Eui.{Eui}
use Rattle.plc_base.specs.declared.key.Key.{Key}
use Rattle.plc_base.specs.Grant.{Granted}
use Rattle.group_keys.specs.KeyRing as ring
use Rattle.mesh_header.specs.declared.unit.Mesh.{Mesh}
use Rattle.mesh_header.specs.declared.unit.Unit.TheVariants as units
use Rattle.mesh_header.specs.Pieces.{Placed}
use Rattle.fragment_buffers.specs.Reassembly.{begun as piece_begun}
use Rattle.fragment_buffers.specs.PieceIntake as pieces
use Rattle.node_rules.specs.declared.heard.Heard.{Heard}
use Rattle.node_rules.specs.declared.heard.Heard.TheVariants as heard
use Rattle.node_rules.specs.Frames.{Sent, Sealed, Up, Down}
use Rattle.node_rules.specs.Memory.{StationMemory, Memory, Node}
use Rattle.node_rules.specs.Plans.{Plan, carry_out, resting}
use Rattle.node_rules.specs.Drafts.{Draft, Ends, UnsealedUnit, empty_draft, sealed_units, sealed_by, sealing_key, with_rank, with_own_number, with_next_tag}
use Rattle.node_rules.specs.Drafts.{with_ring}
use Rattle.node_rules.specs.Drafts.{with_routing_by, goes, body_goes, waits, leave}
use Rattle.node_rules.specs.MemoryDrafts.{in_memory, on_station, station_part, with_memory_by, with_pair_tags, goes_up, goes_down}
use Rattle.node_rules.specs.Coordinators.{with_book_entry}
use Rattle.node_rules.specs.Laws.{IsWhole, IsCutOff}
use Rattle.node_rules.specs.NodeSteps.{NodeStep, acts, stays, left_by}
use Rattle.node_rules.proofs.FailedWrites.{clean}
use Rattle.node_rules.proofs.MemoryDraftShapes.{whole}
use Rattle.line_laws.specs.Custody.{weigh, below, out_is, sent_is, held_is, up_is, keeps}
use Rattle.line_laws.specs.Places.{node_keeps}
use Rattle.line_laws.proofs.Planned.{Planned, Refuses, Keeps, Ended}
use Rattle.line_laws.proofs.Made.{Given, IsCome, RingWord, Made, Starts, Ranks, Numbers, Tags as TagsOn, Rings, Idles, Loses, Goes, Sends, Waits, Leaves}
use Rattle.line_laws.proofs.MadeIn.{unheard, MadeIn, Begins, Station, OnStation, Remembers, Tags, Enters, Up as UpIn, Down as DownIn}
use Rattle.line_laws.proofs.HearingForms.{Handed, IsNoUp, HandsUp, HandsOn, Gathers, Completes}
use Rattle.line_laws.proofs.MemoryDraftForms.{HandedIn, ByStation}
use Rattle.line_laws.proofs.StorePlans.{beside_station_of}
use Rattle.line_laws.proofs.RangeFrames.{made_plain}
use Rattle.line_laws.proofs.CustodyWords.{Brings, made_moves}
use Rattle.line_laws.proofs.CustodyPieces.{NameHasNote, outcome_is, piece_taken}

-- # What is gathered stays where it is, in each word

module _ (W : RingWord → Type 0) (g : Given) (n i : ℕ) where
  made_holds : (s d : Draft StationMemory) → Made W g s d → sum_by (held_is n i) d.memory.reassemblies ≤ sum_by (held_is n i) s.memory.reassemblies
  unfolding with_rank with_own_number with_next_tag with_ring with_routing_by goes body_goes waits leave
  made_holds s d Starts = omega arith
  made_holds s d (Ranks by origin rank e made o fits) = made_holds s e made
  made_holds s d (Numbers e made left) = made_holds s e made
  made_holds s d (TagsOn e made first) = made_holds s e made
  made_holds s d (Rings x e made change) = made_holds s e made
  made_holds s d (Idles e made) = zero-le
  made_holds s d (Loses lost by e made) = made_holds s e made
  made_holds s d (Goes to unit note e made said alone) = made_holds s e made
  made_holds s d (Sends own hop to note load e made here there short carried alone) = made_holds s e made
  made_holds s d (Waits to note load now e made none room short carried alone) = made_holds s e made
  made_holds s d (Leaves own dest hop rank e made here o) = made_holds s e made

-- what is kept and what goes out of all of the memory
abbrev pub moving_in : ℕ → ℕ → Draft Memory → ℕ
moving_in n i d = keeps n i d.memory.station + sum_by (out_is n i) d.units

-- What a call brings: so much at first, and nothing later in a joining.
pub record BringsIn (W : RingWord → Type 0) (g : Given) (n i brought : ℕ) : Type 0 where
  pub first : Brings W g n i brought
  pub later : Brings W (unheard g) n i 0

module _ (W : RingWord → Type 0) (g : Given) (n i brought : ℕ) (some : 0 < n) (brings : BringsIn W g n i brought) (L : Granted → Type 0)
    (P : Eui → Key → Type 0) (E : Eui → Type 0) (m : Memory) where
  pub made_in_moves : (d : Draft Memory) → MadeIn W L P E g m d → moving_in n i d ≤ keeps n i m.station + brought
  unfolding empty_draft on_station with_memory_by with_pair_tags with_book_entry goes_up goes_down
  made_in_moves d Begins = omega arith
  made_in_moves d (Station e made) =
      let x = made_moves W g n i brought some brings.first (empty_draft m.station) e made in
      let y = made_holds W g n i (empty_draft m.station) e made in
      omega arith
  made_in_moves d (OnStation word e made step) =
      let h = made_in_moves e made in
      let x = made_moves W (unheard g) n i 0 some brings.later (station_part e) (word (station_part e)) step in
      let y = made_holds W (unheard g) n i (station_part e) (word (station_part e)) step in
      omega arith
  made_in_moves d (Remembers change e made beside) =
      let h = made_in_moves e made in
      subst (λ (l : StationMemory). keeps n i l + sum_by (out_is n i) e.units ≤ keeps n i m.station + brought)
      (sym (beside_station_of E e.memory (change e.memory) beside)) h
  made_in_moves d (Tags made opened e x) = made_in_moves e x
  made_in_moves d (Enters x e made change) = made_in_moves e made
  made_in_moves d (UpIn agent own message e made) = made_in_moves e made
  made_in_moves d (DownIn own message e made) = made_in_moves e made

-- plain frames carry no datagram
pub plain_of : (W : RingWord → Type 0) (g : Given) (L : Granted → Type 0) (P : Eui → Key → Type 0) (E : Eui → Type 0) (n i : ℕ) (m : Memory) (d : Draft Memory)
    → MadeIn W L P E g m d → sum_by (sent_is n i) d.plain ≡ 0
unfolding empty_draft on_station with_memory_by with_pair_tags with_book_entry goes_up goes_down
plain_of W g L P E n i m d Begins = refl
plain_of W g L P E n i m d (Station e made) = ap (sum_by (sent_is n i)) (made_plain W g (empty_draft m.station) e made)
plain_of W g L P E n i m d (OnStation word e made step) =
    ap (sum_by (sent_is n i)) (made_plain W (unheard g) (station_part e) (word (station_part e)) step) ∙ plain_of W g L P E n i m e made
plain_of W g L P E n i m d (Remembers change e made beside) = plain_of W g L P E n i m e made
plain_of W g L P E n i m d (Tags made opened e x) = plain_of W g L P E n i m e x
plain_of W g L P E n i m d (Enters x e made change) = plain_of W g L P E n i m e made
plain_of W g L P E n i m d (UpIn agent own message e made) =
    sum_by-append (sent_is n i) e.plain (Up agent own message ∷ []) ∙ (λ j. plain_of W g L P E n i m e made j + 0) ∙ omega arith
plain_of W g L P E n i m d (DownIn own message e made) =
    sum_by-append (sent_is n i) e.plain (Down own message ∷ []) ∙ (λ j. plain_of W g L P E n i m e made j + 0) ∙ omega arith

-- # Letters

sealed_units_sum : (n i : ℕ) (g : Granted) (key : Key) (first : ℕ) (us : List UnsealedUnit)
    → sum_by (sent_is n i) (sealed_units g key first us) ≡ sum_by (out_is n i) us
sealed_units_sum n i g key first [] = refl
sealed_units_sum n i g key first (o ∷ us) =
    let one : Sent = Sealed (record { to = o.to; from = g.address; counter = first; index = g.active; key = key; unit = o.unit; note = o.note }) in
    sum_by-cons (sent_is n i) one (sealed_units g key (first + 1) us) ∙ ap (λ k. out_is n i o + k) (sealed_units_sum n i g key (first + 1) us)
    ∙ sym (sum_by-cons (out_is n i) o us)

sealed_sum : (n i : ℕ) (r : ring.Ring) (first : ℕ) (us : List UnsealedUnit) → sum_by (sent_is n i) (sealed_by r first us) ≤ sum_by (out_is n i) us
sealed_sum n i None first us = zero-le
sealed_sum n i (Some g) first us = by_key (sealing_key g)
  where
    by_key : (key : Option Key) → sum_by (sent_is n i) (option_map_or (λ k. sealed_units g k first us) key []) ≤ sum_by (out_is n i) us
    by_key None = zero-le
    by_key (Some key) = let same = sealed_units_sum n i g key first us in omega arith

-- # Plans

-- what an answer hands up
abbrev pub up_by : {H E : Type 0} → (H → ℕ) → Result H E → ℕ
up_by ups (Ok h) = ups h
up_by ups (Err e) = 0

-- What a plan leaves, sends and hands up was kept before, or was brought.
pub record BodiesKept {A : Type 0} (n i brought : ℕ) (ups : A → ℕ) (m : Memory) (p : Plan Memory A) : Type 0 where
  pub kept : keeps n i p.memory.station + sum_by (sent_is n i) p.frames + ups p.answer ≤ keeps n i m.station + brought
  pub fails : ups p.failed ≡ 0

-- A doing moves no more than there was, its plain frames carry nothing, and its answer hands nothing up.
pub record Moves (n i bound : ℕ) (d : Draft Memory) (up : ℕ) : Type 0 where
  pub moved : moving_in n i d ≤ bound
  pub plain : sum_by (sent_is n i) d.plain ≡ 0
  pub none : up ≡ 0

pub plan_kept_by : {H F : Type 0} (n i brought : ℕ) (m : Memory) (ends : Ends F) (ups : H → ℕ) (K : Memory → H → Type 0) (D : Draft Memory → H → Type 0)
    → ((k : Memory) (answer : H) → K k answer → keeps n i k.station + ups answer ≤ keeps n i m.station + brought)
    → ((d : Draft Memory) (answer : H) → D d answer → Moves n i (keeps n i m.station + brought) d (ups answer))
    → (p : Plan Memory (Result H F)) → Planned in_memory ends m K D p → BodiesKept n i brought (up_by ups) m p
unfolding resting
plan_kept_by n i brought m ends ups K D holds made p (Refuses reason) = record { kept = omega arith; fails = refl }
plan_kept_by n i brought m ends ups K D holds made p (Keeps k answer x) = let h = holds k answer x in record { kept = omega arith; fails = refl }
plan_kept_by n i brought m ends ups K D holds made p (Ended d answer done left) =
    let x = made d answer done in
    let h = x.moved in
    let none = x.plain in
    let out = sealed_sum n i d.memory.station.ring d.memory.station.counter.next d.units in
    let both = sum_by-append (sent_is n i) d.plain (sealed_by d.memory.station.ring d.memory.station.counter.next d.units) in
    let up : ups answer ≡ 0 = x.none in
    record { kept = omega arith; fails = refl }

module _ (W : RingWord → Type 0) (g : Given) (n i brought : ℕ) (some : 0 < n) (brings : BringsIn W g n i brought) (L : Granted → Type 0)
    (P : Eui → Key → Type 0) (E : Eui → Type 0) (m : Memory) where
  pub plan_kept : {H F : Type 0} (ends : Ends F) (ups : H → ℕ) (K : Memory → H → Type 0) (D : Draft Memory → H → Type 0)
      → ((k : Memory) (answer : H) → K k answer → keeps n i k.station + ups answer ≤ keeps n i m.station + brought)
      → ((d : Draft Memory) (answer : H) → D d answer → MadeIn W L P E g m d × (ups answer ≡ 0))
      → (p : Plan Memory (Result H F)) → Planned in_memory ends m K D p → BodiesKept n i brought (up_by ups) m p
  plan_kept ends ups K D holds made p s = plan_kept_by n i brought m ends ups K D holds
      (λ d answer done.
      let x = made d answer done in
      record { moved = made_in_moves W g n i brought some brings L P E m d x.0; plain = plain_of W g L P E n i m d x.0; none = x.1 }) p s

-- a plan of the line alone
module _ (W : RingWord → Type 0) (g : Given) (n i brought : ℕ) (some : 0 < n) (brings : Brings W g n i brought) (m : Memory) where
  pub station_moves : (d : Draft StationMemory) → Made W g (empty_draft m.station) d → Moves n i (keeps n i m.station + brought) (whole m d) 0
  unfolding empty_draft
  station_moves d made = record {
    moved = let x = made_moves W g n i brought some brings (empty_draft m.station) d made in let y = made_holds W g n i (empty_draft m.station) d made in
        omega arith;
    plain = ap (sum_by (sent_is n i)) (made_plain W g (empty_draft m.station) d made);
    none = refl;
  }

-- # What a station keeps beside its words

-- a piece that came has the note of what is gathered under its name
pub record Agrees (g : Given) (l : StationMemory) : Type 0 where
  pub name : (by : ℕ) (mesh : Mesh) (piece : Placed) → IsCome g by false (units.Part mesh piece)
      → NameHasNote (piece_begun mesh.origin piece g.note g.now) l.reassemblies

module _ (W : RingWord → Type 0) (g : Given) (n i brought : ℕ) (brings : Brings W g n i brought) where
  pub up_none : (h : Heard) → IsNoUp h → up_is n i h ≡ 0
  up_none (heard.Up from note octets) none = absurd none
  up_none _ none = refl

  pub handed_kept : (l k : StationMemory) (h : Heard) → Agrees g l → Handed g l k h → keeps n i k + up_is n i h ≤ keeps n i l + brought
  handed_kept l k h agrees (HandsUp by own mesh octets came here mine) = let one = brings.comes by (units.Whole mesh octets) came in omega arith
  handed_kept l k h agrees (HandsOn answer none) = let up = up_none answer none in omega arith
  handed_kept l k h agrees (Gathers by own mesh piece came here mine e) =
      let one = brings.comes by (units.Part mesh piece) came in
      let took = piece_taken n i l.reassemblies mesh.origin piece g.note g.now (agrees.name by mesh piece came) in
      let none : outcome_is n i (pieces.taken l.reassemblies mesh.origin piece g.note g.now).outcome ≡ 0 = ap (outcome_is n i) e in
      omega arith
  handed_kept l k h agrees (Completes by own mesh piece note octets came here mine e) =
      let one = brings.comes by (units.Part mesh piece) came in
      let took = piece_taken n i l.reassemblies mesh.origin piece g.note g.now (agrees.name by mesh piece came) in
      let up : outcome_is n i (pieces.taken l.reassemblies mesh.origin piece g.note g.now).outcome
      ≡ weigh n note (below i (length octets)) = ap (outcome_is n i) e in
      omega arith

  pub handed_in_kept : {H : Type 0} (word : Heard → H) (ups : H → ℕ) → ((h : Heard) → ups (word h) ≡ up_is n i h) → (m k : Memory) (answer : H)
      → Agrees g m.station → HandedIn word g m k answer → keeps n i k.station + ups answer ≤ keeps n i m.station + brought
  handed_in_kept word ups same m k answer agrees (ByStation l h x) = let y = handed_kept m.station l h agrees x in let z = same h in omega arith

-- # Nodes

-- What a node keeps, sends and hands up was there before, or was brought.
pub record DidKeep {A : Type 0} (n i brought : ℕ) (ups : A → ℕ) (x : Node) (d : NodeStep A) : Type 0 where
  pub kept : node_keeps n i d.node.memory + sum_by (sent_is n i) d.frames + ups d.answer ≤ node_keeps n i x.memory + brought

pub acts_kept : {A : Type 0} (n i brought : ℕ) (ups : A → ℕ) (x : Node) (halted : A) (plan : Memory → Plan Memory A) → ups halted ≡ 0
    → ((m : Memory) → x.memory ≡ Some m → BodiesKept n i brought ups m (plan m)) → DidKeep n i brought ups x (acts x halted plan)
unfolding acts
acts_kept {A = A} n i brought ups x halted plan none f = by_memory x.memory refl
  where
    carried : (m : Memory) → x.memory ≡ Some m → BodiesKept n i brought ups m (plan m)
        → DidKeep n i brought ups x (left_by x (carry_out x.store.records x.store.cut (plan m)))
    carried m e k = ⊎_elim finished cut_off (clean x.store.records x.store.cut (plan m))
      where
        before : node_keeps n i x.memory ≡ keeps n i m.station
        before = ap (node_keeps n i) e

        finished : IsWhole x.store.records x.store.cut (plan m) (carry_out x.store.records x.store.cut (plan m))
            → DidKeep n i brought ups x (left_by x (carry_out x.store.records x.store.cut (plan m)))
        finished w = record { kept = let b = before in let h = k.kept in rw (w.memory, w.frames, w.answer) (omega arith) }

        cut_off : IsCutOff x.store.records x.store.cut (plan m) (carry_out x.store.records x.store.cut (plan m))
            → DidKeep n i brought ups x (left_by x (carry_out x.store.records x.store.cut (plan m)))
        cut_off c = record { kept = let z = k.fails in rw (c.memory, c.frames, c.answer) (omega arith) }

    by_memory : (o : Option Memory) → x.memory ≡ o
        → DidKeep n i brought ups x (option_map_or (λ m. left_by x (carry_out x.store.records x.store.cut (plan m))) o (stays x halted))
    by_memory None e = record { kept = omega arith }
    by_memory (Some m) e = carried m e (f m e)
