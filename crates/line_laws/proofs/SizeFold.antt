-- What each word leaves is within the sizes.
use Rattle.std.proofs.Common.{◌≡◌, ℕ, ◌+◌, ◌%◌, ◌≤◌, ◌<◌, ◌^◌, Bool, true, false, ◌⊎◌, inl, inr, List, [], ◌∷◌, ◌++◌, length, set, drop, Option, Some, None}
use Rattle.std.proofs.Common.{Result, refl, sym, ap, ◌∙◌, arith}
use Rattle.std.specs.Prelude.{if◌then◌else◌, is_some, ◌==◌, ◌&&◌, ◌||◌, nat_lt, nat_le, not, slice_get, position, get_or}
use Rattle.std.specs.List.{filter, sum_by, list_any}
use Rattle.std.specs.Option.{option_map_or, option_and_then}
use Rattle.std.proofs.lemmas.Bool.{ltb-true, ltb-false, leb-true, eqb-true, and_parts}
use Rattle.std.proofs.lemmas.List.{length-append, length-set, length-drop}
use Rattle.std.proofs.lemmas.List.Elements.{All-nil, All-push, All-filter}
use Rattle.std.proofs.lemmas.List.Sums.{sum_by-cons, sum_by-append}
use Rattle.std.proofs.lemmas.List.Filters.{length-filter_both, sum_by-filter_both}
use Rattle.plc_base.specs.declared.address.Eui.{Eui}
use Rattle.plc_base.specs.declared.key.Key.{Key}
use Rattle.plc_base.specs.Grant.{Granted}
use Rattle.std.proofs.lemmas.List.Quantifiers.{position-Some}
use Rattle.std.proofs.lemmas.Option.{slice_get-get_or, same_Some}
use Rattle.group_keys.specs.KeyBook as book
use Rattle.fragment_buffers.specs.PieceIntake as pieces
use Rattle.fragment_buffers.specs.Reassembly.{PlacedPiece, Reassembly, placed, begun as piece_begun, datagram_of, repeats, overlaps}
use Rattle.mesh_header.specs.Pieces.{Placed}
use Rattle.node_rules.specs.declared.heard.Heard.{Heard}
use Rattle.node_rules.specs.Memory.{StationMemory, Body, Load, Datagram, Command, Memory, CoordinatorSession, load_octets}
use Rattle.node_rules.specs.Plans.{Plan, resting}
use Rattle.node_rules.specs.Drafts.{Draft, Ends, empty_draft, waits_for, no_room, blocks_waiting, with_rank, with_own_number, with_next_tag, with_ring}
use Rattle.node_rules.specs.Drafts.{with_routing_by, goes, body_goes, waits, leave}
use Rattle.node_rules.specs.MemoryDrafts.{in_memory, on_station, station_part, with_memory_by, with_pair_tags, goes_up, goes_down}
use Rattle.node_rules.specs.Coordinators as coordinators
use Rattle.node_rules.specs.Coordinators.{with_book_entry}
use Rattle.node_rules.specs.Laws.{IsShort, WaitingFits}
use Rattle.line_laws.specs.Sizes.{IsAnyLoad, IsStationSized, IsMemorySized}
use Rattle.line_laws.proofs.Planned.{Planned, Refuses, Keeps, Ended}
use Rattle.line_laws.proofs.StoreFold.{WordFits}
use Rattle.line_laws.proofs.Made.{RingWord, Carry, Given, Made, Starts, Ranks, Numbers, Tags, Rings, Idles, Loses, Goes, Sends, Waits, Leaves}
use Rattle.line_laws.proofs.MadeIn.{unheard, MadeIn, Begins, Station, OnStation, Remembers, Tags as TagsIn, Enters, Up, Down, Beside, Ends as EndsIn, Asks}
use Rattle.line_laws.proofs.MadeIn.{Replies, Opens, Answers, Closes, Gives}
use Rattle.line_laws.proofs.HearingForms.{Handed, HandsUp, HandsOn, Gathers, Completes}

-- # Gathered pieces

-- how much more a table may hold
abbrev more : Bool → ℕ → ℕ
more there n = if there then 0 else n

-- The reassemblies after a piece: none more where one of the name is there.
record Grows (held : List Reassembly) (there : Bool) (blocks : ℕ) (after : List Reassembly) : Type 0 where
  count : length after ≤ length held + more there 1
  room : pieces.blocks_held after ≤ pieces.blocks_held held + more there blocks

blocks_cons : (r : Reassembly) (rest : List Reassembly) → pieces.blocks_held (r ∷ rest) ≡ pieces.blocks r.size + pieces.blocks_held rest
blocks_cons r rest = sum_by-cons (λ (x : Reassembly). pieces.blocks x.size) r rest

settled_grows : (whole : Option (List ℕ)) (r s : Reassembly) (rest : List Reassembly) (b : ℕ) → s.size ≡ r.size
    → Grows (r ∷ rest) true b (pieces.settled whole s rest).held
settled_grows None r s rest b same =
    record { count = omega arith; room = let x = blocks_cons r rest in let y = blocks_cons s rest in let z = ap pieces.blocks same in omega arith }
settled_grows (Some octets) r s rest b same = record { count = omega arith; room = let x = blocks_cons r rest in omega arith }

joined_grows : (r anew : Reassembly) (p : PlacedPiece) (rest : List Reassembly) (b : ℕ) → anew.size ≡ r.size
    → Grows (r ∷ rest) true b (pieces.joined r anew p rest).held
joined_grows r anew p rest b same = by_repeat (repeats r.pieces p)
  where
    grown_size : (o : Bool) → (if o then anew else record r { pieces = r.pieces ++ p ∷ [] }).size ≡ r.size
    grown_size true = same
    grown_size false = refl

    by_repeat : (x : Bool) → Grows (r ∷ rest) true b (if x then record { held = r ∷ rest; outcome = pieces.Held }
        else pieces.settled (datagram_of (pieces.grown r anew p)) (pieces.grown r anew p) rest).held
    by_repeat true = record { count = omega arith; room = omega arith }
    by_repeat false = settled_grows (datagram_of (pieces.grown r anew p)) r (pieces.grown r anew p) rest b (grown_size (overlaps r.pieces p))

same_size : (a r : Reassembly) → pieces.same_name a r ≡ true → a.size ≡ r.size
same_size a r e = eqb-true _ _ (and_parts _ _ (and_parts _ _ e).1).0

taken_grows : (held : List Reassembly) (anew : Reassembly) (p : PlacedPiece)
    → Grows held (list_any (pieces.same_name anew) held) (pieces.blocks anew.size) (pieces.taken_in held anew p).held
unfolding pieces.taken_in
taken_grows [] anew p = by_whole (datagram_of anew)
  where
    by_whole : (o : Option (List ℕ)) → Grows [] false (pieces.blocks anew.size) (pieces.settled o anew []).held
    by_whole None = record { count = omega arith; room = let x = blocks_cons anew [] in omega arith }
    by_whole (Some octets) = record { count = omega arith; room = omega arith }
taken_grows (r ∷ rest) anew p = by_name (pieces.same_name anew r) refl (taken_grows rest anew p)
  where
    by_name : (b : Bool) → pieces.same_name anew r ≡ b
        → Grows rest (list_any (pieces.same_name anew) rest) (pieces.blocks anew.size) (pieces.taken_in rest anew p).held
        → Grows (r ∷ rest) (b || list_any (pieces.same_name anew) rest) (pieces.blocks anew.size)
        (if b then pieces.joined r anew p rest else pieces.behind r (pieces.taken_in rest anew p)).held
    by_name true e g = joined_grows r anew p rest _ (same_size anew r e)
    by_name false e g = record {
      count = let x = g.count in omega arith;
      room = let x = g.room in let y = blocks_cons r rest in let z = blocks_cons r (pieces.taken_in rest anew p).held in omega arith;
    }

pub gathered_sized : (held : List Reassembly) (from : ℕ) (piece : Placed) (note now : ℕ) → (length held ≤ 8) × (pieces.blocks_held held ≤ 80)
    → (length (pieces.taken held from piece note now).held ≤ 8) × (pieces.blocks_held (pieces.taken held from piece note now).held ≤ 80)
unfolding pieces.taken
gathered_sized held from piece note now h = by_room (list_any (pieces.same_name anew) held)
    (nat_lt (length held) 8 && nat_le (pieces.blocks_held held + pieces.blocks anew.size) 80) refl (taken_grows held anew (placed piece))
  where
    anew : Reassembly
    anew = piece_begun from piece note now

    by_room : (there room : Bool) → (nat_lt (length held) 8 && nat_le (pieces.blocks_held held + pieces.blocks anew.size) 80) ≡ room
        → Grows held there (pieces.blocks anew.size) (pieces.taken_in held anew (placed piece)).held
        → let t : pieces.Taking = (if there || room then pieces.taken_in held anew (placed piece) else record { held = held; outcome = pieces.Full }) in
        (length t.held ≤ 8) × (pieces.blocks_held t.held ≤ 80)
    by_room true room e g = let x = g.count in let y = g.room in let a = h.0 in let b = h.1 in (omega arith, omega arith)
    by_room false true e g =
        let parts = and_parts _ _ e in
        let a : length held < 8 = ltb-true _ _ parts.0 in
        let b : pieces.blocks_held held + pieces.blocks anew.size ≤ 80 = leb-true _ _ parts.1 in
        let x : length (pieces.taken_in held anew (placed piece)).held ≤ length held + 1 = g.count in
        let y : pieces.blocks_held (pieces.taken_in held anew (placed piece)).held ≤ pieces.blocks_held held + pieces.blocks anew.size = g.room in
        (omega arith, omega arith)
    by_room false false e g = h

-- # What waits

abbrev waiting_blocks : List Body → ℕ
waiting_blocks bodies = sum_by (λ (b : Body). pieces.blocks (length (load_octets b.load))) bodies

-- Where there is room for a body, one more may wait.
pub record HasRoom (l : StationMemory) (octets : ℕ) : Type 0 where
  pub count : length l.waiting < 8
  pub blocks : blocks_waiting l + pieces.blocks octets ≤ 80

pub has_room : (l : StationMemory) (octets : ℕ) → no_room l octets ≡ false → HasRoom l octets
has_room l octets = by_tests (nat_lt (length l.waiting) 8) (nat_lt 80 (blocks_waiting l + pieces.blocks octets)) refl refl
  where
    by_tests : (a b : Bool) → nat_lt (length l.waiting) 8 ≡ a → nat_lt 80 (blocks_waiting l + pieces.blocks octets) ≡ b → (if a then b else true) ≡ false
        → HasRoom l octets
    by_tests true false ea eb e = record { count = ltb-true _ _ ea; blocks = ltb-false _ _ eb }
    by_tests true true ea eb e = absurd (cc)
    by_tests false b ea eb e = absurd (cc)

-- a load is short
load_short : (load : Load) → IsAnyLoad load → IsShort load
load_short (Datagram octets tag) h = h.1
load_short (Command octets) h = tt

-- what waits may fit beside another part of the memory
same_waiting : (l k : StationMemory) → k.waiting ≡ l.waiting → WaitingFits l → WaitingFits k
same_waiting l k e w = record { bodies = rw e w.bodies; blocks = rw e w.blocks; datagrams = rw e w.datagrams }

waits_sized : (l : StationMemory) (b : Body) → no_room l (length (load_octets b.load)) ≡ false → IsAnyLoad b.load → IsStationSized l
    → IsStationSized (record l { waiting = l.waiting ++ b ∷ [] })
waits_sized l b room load h =
    let r = has_room l (length (load_octets b.load)) room in
    let count : length l.waiting < 8 = r.count in
    let blocks : waiting_blocks l.waiting + pieces.blocks (length (load_octets b.load)) ≤ 80 = r.blocks in
    let longer = length-append l.waiting (b ∷ []) in
    let sum : waiting_blocks (l.waiting ++ b ∷ [])
    ≡ waiting_blocks l.waiting + waiting_blocks (b ∷ []) = sum_by-append (λ (x : Body). pieces.blocks (length (load_octets x.load))) l.waiting (b ∷ []) in
    let one : waiting_blocks (b ∷ [])
    ≡ pieces.blocks (length (load_octets b.load)) + waiting_blocks [] = sum_by-cons (λ (x : Body). pieces.blocks (length (load_octets x.load))) b [] in
    record {
      reassemblies = h.reassemblies;
      waiting = record {
        bodies = omega arith;
        blocks = omega arith;
        datagrams = All-push (λ (x : Body). IsShort x.load) l.waiting b h.waiting.datagrams (load_short b.load load);
      };
      loads = All-push (λ (x : Body). IsAnyLoad x.load) l.waiting b h.loads load;
      tag = h.tag;
    }

-- some of them stay
pub stays_sized : (l : StationMemory) (keep : Body → Bool) → IsStationSized l → IsStationSized (record l { waiting = filter keep l.waiting })
stays_sized l keep h =
    let count : length (filter keep l.waiting) + length (filter (λ b. not (keep b)) l.waiting)
    ≡ length l.waiting = length-filter_both keep (λ b. not (keep b)) (λ b. refl) l.waiting in
    let sum : waiting_blocks (filter keep l.waiting) + waiting_blocks (filter (λ b. not (keep b)) l.waiting) ≡ waiting_blocks l.waiting
    = sum_by-filter_both keep (λ b. not (keep b)) (λ b. refl) (λ (b : Body). pieces.blocks (length (load_octets b.load))) l.waiting in
    let few = h.waiting.bodies in
    let low : waiting_blocks l.waiting ≤ 80 = h.waiting.blocks in
    record {
      reassemblies = h.reassemblies;
      waiting = record { bodies = omega arith; blocks = omega arith; datagrams = All-filter keep (λ (x : Body). IsShort x.load) l.waiting h.waiting.datagrams };
      loads = All-filter keep (λ (x : Body). IsAnyLoad x.load) l.waiting h.loads;
      tag = h.tag;
    }

-- # The words of the line

-- a tag has two octets
tag_low : (n : ℕ) → n % 65536 < 2 ^ 16
tag_low n = omega arith

pub made_sized : (W : RingWord → Type 0) (words : (w : RingWord) → W w → WordFits w) (g : Given) (s d : Draft StationMemory) → Made W g s d
    → IsStationSized s.memory → IsStationSized d.memory
unfolding with_rank with_own_number with_next_tag with_ring with_routing_by goes body_goes waits leave
made_sized W words g s d Starts h = h
made_sized W words g s d (Ranks by origin rank e made o fits) h = let k = made_sized W words g s e made h in
    record { reassemblies = k.reassemblies; waiting = same_waiting e.memory d.memory refl k.waiting; loads = k.loads; tag = k.tag }
made_sized W words g s d (Numbers e made left) h = let k = made_sized W words g s e made h in
    record { reassemblies = k.reassemblies; waiting = same_waiting e.memory d.memory refl k.waiting; loads = k.loads; tag = k.tag }
made_sized W words g s d (Tags e made first) h = let k = made_sized W words g s e made h in
    record { reassemblies = k.reassemblies; waiting = same_waiting e.memory d.memory refl k.waiting; loads = k.loads; tag = tag_low (e.memory.next_tag + 1) }
made_sized W words g s d (Rings x e made change) h = let k = made_sized W words g s e made h in
    record { reassemblies = k.reassemblies; waiting = same_waiting e.memory d.memory refl k.waiting; loads = k.loads; tag = k.tag }
made_sized W words g s d (Idles e made) h = record {
  reassemblies = (omega arith, omega arith);
  waiting = record { bodies = omega arith; blocks = omega arith; datagrams = All-nil (λ (x : Body). IsShort x.load) };
  loads = All-nil (λ (x : Body). IsAnyLoad x.load);
  tag = (made_sized W words g s e made h).tag;
}
made_sized W words g s d (Loses lost by e made) h = let k = made_sized W words g s e made h in
    record { reassemblies = k.reassemblies; waiting = same_waiting e.memory d.memory refl k.waiting; loads = k.loads; tag = k.tag }
made_sized W words g s d (Goes to unit note e made said alone) h = made_sized W words g s e made h
made_sized W words g s d (Sends own hop to note load e made here there short carried alone) h = made_sized W words g s e made h
made_sized W words g s d (Waits to note load now e made none room short carried alone) h = waits_sized e.memory
    (record { to = to; note = note; since = now; load = load }) room (words (Carry to note load) carried) (made_sized W words g s e made h)
made_sized W words g s d (Leaves own dest hop rank e made here offered) h = stays_sized e.memory (λ b. not (waits_for dest b)) (made_sized W words g s e made h)

pub handed_sized : (g : Given) (l n : StationMemory) (answer : Heard) → Handed g l n answer → IsStationSized l → IsStationSized n
handed_sized g l n answer (HandsUp by own mesh octets came here mine) h = h
handed_sized g l n answer (HandsOn x none) h = h
handed_sized g l n answer (Gathers by own mesh piece came here mine e)
    h = record {
      reassemblies = gathered_sized l.reassemblies mesh.origin piece g.note g.now h.reassemblies;
      waiting = same_waiting l n refl h.waiting;
      loads = h.loads;
      tag = h.tag;
    }
handed_sized g l n answer (Completes by own mesh piece note octets came here mine e)
    h = record {
      reassemblies = gathered_sized l.reassemblies mesh.origin piece g.note g.now h.reassemblies;
      waiting = same_waiting l n refl h.waiting;
      loads = h.loads;
      tag = h.tag;
    }

-- # The words over all of the memory

with_sized : (m : Memory) (s : CoordinatorSession) (sessions : ℕ) → (is_some (coordinators.session_of m s.server.eui) ≡ true) ⊎ (length m.sessions ≤ 7)
    → length m.sessions ≤ 8 → length (coordinators.with_session s m).sessions ≤ 8
with_sized m s n either h = by_place (position (coordinators.is_of s.server.eui) m.sessions) refl either
  where
    by_place : (o : Option ℕ) → position (coordinators.is_of s.server.eui) m.sessions ≡ o
        → (is_some (option_and_then (slice_get m.sessions) o) ≡ true) ⊎ (length m.sessions ≤ 7)
        → length (option_map_or (λ place. set m.sessions place s) o (m.sessions ++ s ∷ [])) ≤ 8
    by_place (Some place) is e = let same = length-set m.sessions place s in omega arith
    by_place None is (inl there) = absurd (cc)
    by_place None is (inr room) = let longer = length-append m.sessions (s ∷ []) in omega arith

-- the session of a meter is the one of its number
pub session_number : (m : Memory) (eui : Eui) (s : CoordinatorSession) → coordinators.session_of m eui ≡ Some s
    → book.eui_number s.server.eui ≡ book.eui_number eui
session_number m eui s = by_place (position (coordinators.is_of eui) m.sessions) refl
  where
    by_place : (o : Option ℕ) → position (coordinators.is_of eui) m.sessions ≡ o → option_and_then (slice_get m.sessions) o ≡ Some s
        → book.eui_number s.server.eui ≡ book.eui_number eui
    by_place None is e = absurd (cc)
    by_place (Some k) is e =
        let at = position-Some (coordinators.is_of eui) m.sessions k s is in
        let here : get_or m.sessions k s ≡ s = same_Some _ _ (sym (slice_get-get_or m.sessions k s at.0) ∙ e) in
        eqb-true _ _ (ap (coordinators.is_of eui) (sym here) ∙ at.1)

answered : (m : Memory) (s t : CoordinatorSession) (eui : Eui) → coordinators.session_of m eui ≡ Some t → s.server.eui ≡ t.server.eui
    → is_some (coordinators.session_of m s.server.eui) ≡ true
answered m s t eui there same =
    let number : book.eui_number s.server.eui ≡ book.eui_number eui = ap book.eui_number same ∙ session_number m eui t there in
    ap (λ k. is_some (option_and_then (slice_get m.sessions) (position (λ (z : CoordinatorSession). book.eui_number z.server.eui == k) m.sessions))) number
    ∙ ap is_some there

not_not : (b : Bool) → b ≡ not (not b)
not_not true = refl
not_not false = refl

pub beside_sized : (E : Eui → Type 0) (n k : Memory) → Beside E n k → IsMemorySized n → IsMemorySized k
beside_sized E n k EndsIn h = record { station = h.station; sessions = h.sessions; randoms = h.randoms }
beside_sized E n k (Asks s) h = record { station = h.station; sessions = h.sessions; randoms = h.randoms }
beside_sized E n k (Replies s value here) h =
    record { station = h.station; sessions = h.sessions; randoms = let less = length-drop 1 n.randoms in let few = h.randoms in omega arith }
beside_sized E n k (Opens s value here room is) h = record {
  station = h.station;
  sessions = with_sized (record n { randoms = drop 1 n.randoms }) s 0
      (by_full (is_some (coordinators.session_of n s.server.eui)) (nat_lt 7 (length n.sessions)) refl refl room) h.sessions;
  randoms = let less = length-drop 1 n.randoms in let few = h.randoms in omega arith;
}
  where
    by_full : (a b : Bool) → is_some (coordinators.session_of n s.server.eui) ≡ a → nat_lt 7 (length n.sessions) ≡ b → (if a then false else b) ≡ false
        → (is_some (coordinators.session_of n s.server.eui) ≡ true) ⊎ (length n.sessions ≤ 7)
    by_full true b ea eb e = inl ea
    by_full false false ea eb e = inr (ltb-false _ _ eb)
    by_full false true ea eb e = absurd (cc)
beside_sized E n k (Answers s t eui there same) h =
    record { station = h.station; sessions = with_sized n s 0 (inl (answered n s t eui there same)) h.sessions; randoms = h.randoms }
beside_sized E n k (Closes eui) h = record {
  station = h.station;
  sessions = let both = length-filter_both (λ s. not (coordinators.is_of eui s)) (λ s. coordinators.is_of eui s) (λ s. not_not (coordinators.is_of eui s))
      n.sessions in let few = h.sessions in omega arith;
  randoms = h.randoms;
}
beside_sized E n k (Gives value room) h = record {
  station = h.station;
  sessions = h.sessions;
  randoms = let longer = length-append n.randoms (value ∷ []) in
      let few : length n.randoms ≤ 7 = ltb-false _ _ room in omega arith;
}

pub made_in_sized : (W : RingWord → Type 0) (words : (w : RingWord) → W w → WordFits w) (L : Granted → Type 0) (P : Eui → Key → Type 0) (E : Eui → Type 0)
    (g : Given) (m : Memory) (d : Draft Memory) → MadeIn W L P E g m d → IsMemorySized m → IsMemorySized d.memory
unfolding empty_draft on_station with_memory_by with_pair_tags with_book_entry goes_up goes_down
made_in_sized W words L P E g m d Begins h = h
made_in_sized W words L P E g m d (Station e made) h =
    record { station = made_sized W words g (empty_draft m.station) e made h.station; sessions = h.sessions; randoms = h.randoms }
made_in_sized W words L P E g m d (OnStation word e made step) h =
    let k = made_in_sized W words L P E g m e made h in
    record { station = made_sized W words (unheard g) (station_part e) (word (station_part e)) step k.station; sessions = k.sessions; randoms = k.randoms }
made_in_sized W words L P E g m d (Remembers change e made beside) h =
    beside_sized E e.memory (change e.memory) beside (made_in_sized W words L P E g m e made h)
made_in_sized W words L P E g m d (TagsIn made opened e x) h = made_in_sized W words L P E g m e x h
made_in_sized W words L P E g m d (Enters x e made change) h =
    let k = made_in_sized W words L P E g m e made h in record { station = k.station; sessions = k.sessions; randoms = k.randoms }
made_in_sized W words L P E g m d (Up agent own message e made) h = made_in_sized W words L P E g m e made h
made_in_sized W words L P E g m d (Down own message e made) h = made_in_sized W words L P E g m e made h

-- # Plans

pub plan_sized : {H F : Type 0} (W : RingWord → Type 0) (L : Granted → Type 0) (P : Eui → Key → Type 0) (E : Eui → Type 0) (g : Given) (m : Memory)
    (words : (w : RingWord) → W w → WordFits w) (ends : Ends F) (K : Memory → H → Type 0) (D : Draft Memory → H → Type 0)
    → ((n : Memory) (answer : H) → K n answer → IsMemorySized m → IsMemorySized n) → ((d : Draft Memory) (answer : H) → D d answer → MadeIn W L P E g m d)
    → (p : Plan Memory (Result H F)) → Planned in_memory ends m K D p → IsMemorySized m → IsMemorySized p.memory
unfolding resting
plan_sized W L P E g m words ends K D beside made p (Refuses reason) h = h
plan_sized W L P E g m words ends K D beside made p (Keeps n answer k) h = beside n answer k h
plan_sized W L P E g m words ends K D beside made p (Ended d answer done left) h =
    let k = made_in_sized W words L P E g m d (made d answer done) h in
    record {
      station = record {
        reassemblies = k.station.reassemblies;
        waiting = same_waiting d.memory.station _ refl k.station.waiting;
        loads = k.station.loads;
        tag = k.station.tag;
      };
      sessions = k.sessions;
      randoms = k.randoms;
    }
