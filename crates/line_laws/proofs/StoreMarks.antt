-- What accepting a frame is, and that it stores what it leaves in memory.
use Rattle.std.proofs.Common.{◌≡◌, inl, ℕ, ◌+◌, ◌<◌, ◌^◌, Bool, true, false, List, [], ◌∷◌, ◌++◌, length, set, Option, Some, None, Result, Ok, Err, refl, sym}
use Rattle.std.proofs.Common.{ap, subst, arith}
use Rattle.std.specs.Prelude.{if◌then◌else◌, ◌==◌, is_some, nat_le, slice_get}
use Rattle.std.specs.Option.{option_map_or}
use Rattle.std.specs.FinMap.{insert}
use Rattle.std.proofs.lemmas.Option.{slice_get-get_or}
use Rattle.plc_base.specs.Keeper.{Records}
use Rattle.store_tables.specs.Writes.{puts_of}
use Rattle.store_tables.specs.SlotTables as slots
use Rattle.store_tables.proofs.SlotTables.{found, free_new, free_found, IsTable-set, IsTable-push, stored_set, stored_push, stored_rest}
use Rattle.plc_base.specs.declared.address.Eui.{Eui}
use Rattle.plc_base.specs.declared.key.Key.{Key}
use Rattle.mac_frames.specs.declared.head.MacHead.{MacHead}
use Rattle.mac_frames.specs.declared.head.MacHead.TheVariants as heads
use Rattle.frame_counters.specs.declared.fault.PeerFault.{PeerFault}
use Rattle.frame_counters.specs.PeerMarks.{PeerMark}
use Rattle.frame_counters.specs.PeerMarks as marks
use Rattle.frame_counters.proofs.Tables.{peer_in-octets_of, room_new}
use Rattle.group_keys.specs.KeyRing as ring
use Rattle.node_rules.specs.declared.heard.Path.{Path}
use Rattle.node_rules.specs.declared.heard.Path.TheVariants as paths
use Rattle.node_rules.specs.Accepted.{Accepted}
use Rattle.node_rules.specs.declared.refusal.FrameRefusal.{FrameRefusal}
use Rattle.node_rules.specs.declared.refusal.FrameRefusal.TheVariants.{NotForMe, Store}
use Rattle.node_rules.specs.Frames.{Arrived, to_all}
use Rattle.node_rules.specs.Memory.{StationMemory}
use Rattle.node_rules.specs.Plans.{resting}
use Rattle.node_rules.specs.Acceptance.{Accepting, is_for_me, refuse, marking, admitted, open_sealed, with_key, accept_head, accept}
use Rattle.line_laws.specs.Stores.{IsStationKept}
use Rattle.line_laws.proofs.KeptMemory.{Leads}
use Rattle.line_laws.proofs.Beside.{Lasts, With, low_one, low_beside, low_when}
use Rattle.line_laws.proofs.Slots.{ring_stays, counter_stays, number_stays, tag_stays, routing_stays}

-- # What accepting is

-- A sealed frame whose tag is right, and whose counter is above the mark.
pub record IsAdmitted (l : StationMemory) (a : Option Arrived) (from counter : ℕ) (got : Accepted) : Type 0 where
  pub frame : Arrived
  pub is : a ≡ Some frame
  pub to : ℕ
  pub index : ℕ
  pub head : (ack : Bool) × (seq : ℕ) × (pan : ℕ) × (frame.head ≡ heads.Sealed ack seq pan to from counter index)
  pub key : Key
  pub held : ring.key_in_ring l.ring index ≡ Some key
  pub payload : List ℕ
  pub opened : frame.opened key ≡ Some payload
  pub got_is : got ≡ record { path = paths.Sealed from (to == to_all) key; payload = payload }
  pub room : marks.room_for l.marks from counter ≡ Ok (tt {0})

-- a path of a plain frame
abbrev pub IsPlain : Path → Type 0
IsPlain (paths.Sealed from all key) = ⊥
IsPlain (paths.Up from) = Unit {0}
IsPlain (paths.Down from) = Unit {0}

-- A plain frame is handed on with its body.
pub record IsPlainCame (a : Option Arrived) (got : Accepted) : Type 0 where
  pub path : IsPlain got.path
  pub frame : Arrived
  pub is : a ≡ Some frame
  pub payload : got.payload ≡ frame.body

pub data Accepts (l : StationMemory) (a : Option Arrived) : Accepting → Type 0 where
  Turned : (reason : FrameRefusal) → Accepts l a (resting l (Err reason) (Err Store))
  Plain : (got : Accepted) → IsPlainCame a got → Accepts l a (resting l (Ok got) (Err Store))
  Marked : (from counter : ℕ) (got : Accepted) → IsAdmitted l a from counter got → Accepts l a (marking l from counter got)

module _ (l : StationMemory) (x : Arrived) where
  abbrev Is : Accepting → Type 0
  Is p = Accepts l (Some x) p

  payload_is : (ack : Bool) (seq pan to from counter index : ℕ) (key : Key) (payload : Option (List ℕ))
      → x.head ≡ heads.Sealed ack seq pan to from counter index → ring.key_in_ring l.ring index ≡ Some key → x.opened key ≡ payload
      → Is (open_sealed l to from counter key payload)
  payload_is ack seq pan to from counter index key None head held opened = Turned _
  payload_is ack seq pan to from counter index key (Some payload) head held opened = by_room (marks.room_for l.marks from counter) refl
    where
      by_room : (r : Result (Unit {0}) PeerFault) → marks.room_for l.marks from counter ≡ r
          → Is (admitted l from counter (record { path = paths.Sealed from (to == to_all) key; payload = payload }) r)
      by_room (Ok u) e = Marked from counter _ (record {
        frame = x;
        is = refl;
        to = to;
        index = index;
        head = (ack, seq, pan, head);
        key = key;
        held = held;
        payload = payload;
        opened = opened;
        got_is = refl;
        room = e;
      })
      by_room (Err fault) e = Turned _

  key_is : (ack : Bool) (seq pan to from counter index : ℕ) (key : Option Key) → x.head ≡ heads.Sealed ack seq pan to from counter index
      → ring.key_in_ring l.ring index ≡ key → Is (with_key l x to from counter key)
  key_is ack seq pan to from counter index None head held = Turned _
  key_is ack seq pan to from counter index (Some key) head held = payload_is ack seq pan to from counter index key (x.opened key) head held refl

  head_is : (head : MacHead) → x.head ≡ head → Is (accept_head l x head)
  head_is (heads.Sealed ack seq pan to from counter index) e = key_is ack seq pan to from counter index (ring.key_in_ring l.ring index) e refl
  head_is (heads.Up ack version seq pan to from) e = Plain _ (record { path = tt; frame = x; is = refl; payload = refl })
  head_is (heads.Down ack version seq pan to from) e = Plain _ (record { path = tt; frame = x; is = refl; payload = refl })

  for_me_is : (b : Bool) → Is (if b then accept_head l x x.head else refuse l NotForMe)
  for_me_is true = head_is x.head refl
  for_me_is false = Turned _

pub accept_is : (l : StationMemory) (own : Eui) (a : Option Arrived) → Accepts l a (accept l own a)
accept_is l own None = Turned _
accept_is l own (Some x) = for_me_is l x (is_for_me l own x.head)

-- # What it stores

marks_kept : (l : StationMemory) (r : Records) (place : ℕ) (octets : List ℕ) (t : marks.Table) → IsStationKept l r → place < 64 → slots.IsTable marks.peers t
    → marks.AgreesWith t (insert r (0x0100 + place) octets)
    → IsStationKept (record l { marks = t }) (insert r (0x0100 + place) octets)
marks_kept l r place octets t k within table kept = record {
  range = record {
    ring = k.range.ring;
    counter = k.range.counter;
    number = k.range.number;
    tag = k.range.tag;
    routing = k.range.routing;
    floors = k.range.floors;
    ranks = k.range.ranks;
    marks = table;
  };
  ring = ring_stays r _ octets l.ring k.ring (omega arith);
  counter = counter_stays r _ octets l.counter k.counter (omega arith);
  number = number_stays r _ octets l.own_number k.number (omega arith);
  tag = tag_stays r _ octets l.next_tag k.tag (omega arith);
  routing = routing_stays r _ octets l.routing k.routing (omega arith) (inl (omega arith));
  marks = kept;
}

same_marks : (l : StationMemory) (r : Records) (t : marks.Table) → IsStationKept l r → slots.IsTable marks.peers t → marks.AgreesWith t r
    → IsStationKept (record l { marks = t }) r
same_marks l r t k table kept = record {
  range = record {
    ring = k.range.ring;
    counter = k.range.counter;
    number = k.range.number;
    tag = k.range.tag;
    routing = k.range.routing;
    floors = k.range.floors;
    ranks = k.range.ranks;
    marks = table;
  };
  ring = k.ring;
  counter = k.counter;
  number = k.number;
  tag = k.tag;
  routing = k.routing;
  marks = kept;
}

module _ (B : Records → Type 0) (lasts : Lasts B) (l : StationMemory) (from counter : ℕ) (address : from < 0xFFFE) (fits : counter < 2 ^ 32) where
  ahead : PeerMark
  ahead = marks.peer_ahead from counter

  reads : (place : ℕ) → marks.peers.read place (marks.peers.octets place ahead) ≡ Some (marks.peers.rest ahead)
  unfolding ahead
  reads place = peer_in-octets_of (marks.peer_ahead from counter) address (omega arith)

  new_leads : marks.place_of l.marks from ≡ None → length l.marks < 64
      → Leads (With B) l (slots.entry_write marks.peers (length l.marks) ahead ∷ []) (record l { marks = l.marks ++ ahead ∷ [] })
  unfolding ahead
  new_leads at room = low_one B lasts l _ _ (omega arith) (λ r k. marks_kept l r (length l.marks) _ _ k room
      (IsTable-push marks.peers l.marks ahead k.range.marks room (free_new marks.peers l.marks from (length l.marks) (ap is_some at)))
      (stored_push marks.peers l.marks r _ ahead k.marks room refl (reads (length l.marks))))

  high_leads : (place : ℕ) → marks.place_of l.marks from ≡ Some place
      → Leads (With B) l (slots.entry_write marks.peers place ahead ∷ []) (record l { marks = set l.marks place ahead })
  unfolding ahead
  high_leads place at = low_when B lasts l _ _ (λ r k.
      let there = found marks.peers l.marks from place (record { address = 0; mark = 0; stored = 0 }) at in
      let short = k.range.marks.short in
      low_one B lasts l _ _ (omega arith) (λ s h. marks_kept l s place _ _ h (omega arith)
      (IsTable-set marks.peers l.marks place ahead h.range.marks there.0 (free_found marks.peers l.marks from place h.range.marks at))
      (stored_set marks.peers l.marks s _ place ahead h.marks there.0 refl (reads place))))

  low_leads : (place : ℕ) → marks.place_of l.marks from ≡ Some place
      → Leads (With B) l [] (record l { marks = set l.marks place (record (marks.peer_at l.marks place) { mark = counter }) })
  low_leads place at =
      let there = found marks.peers l.marks from place (record { address = 0; mark = 0; stored = 0 }) at in
      let peer = marks.peer_at l.marks place in
      let e : PeerMark = record (marks.peer_at l.marks place) { mark = counter } in
      let got : slice_get l.marks place
      ≡ Some (marks.peer_at l.marks place) = slice_get-get_or l.marks place (record { address = 0; mark = 0; stored = 0 }) there.0 in
      low_beside B lasts l _ (λ r k. same_marks l r (set l.marks place e) k
      (IsTable-set marks.peers l.marks place e k.range.marks there.0
      (subst (λ (q : ℕ). slots.IsFree marks.peers l.marks place q) (sym there.1) (free_found marks.peers l.marks from place k.range.marks at)))
      (stored_rest marks.peers l.marks r place e there.0 (rw got refl) k.marks))

  pub marks_lead : marks.room_for l.marks from counter ≡ Ok (tt {0})
      → Leads (With B) l (puts_of (marks.keep_write l.marks from counter)) (record l { marks = marks.kept_after l.marks from counter })
  unfolding ahead
  marks_lead room = by_place (marks.place_of l.marks from) refl
    where
      by_stored : (place : ℕ) (b : Bool) → marks.place_of l.marks from ≡ Some place
          → Leads (With B) l (puts_of (if b then None else Some (slots.entry_write marks.peers place ahead)))
          (record l { marks = set l.marks place (if b then record (marks.peer_at l.marks place) { mark = counter } else ahead) })
      by_stored place true at = low_leads place at
      by_stored place false at = high_leads place at

      by_place : (o : Option ℕ) → marks.place_of l.marks from ≡ o
          → Leads (With B) l (puts_of (option_map_or (λ place. if nat_le counter (marks.peer_at l.marks place).stored then None
          else Some (slots.entry_write marks.peers place ahead)) o (Some (slots.entry_write marks.peers (length l.marks) ahead))))
          (record l {
            marks = option_map_or (λ place. set l.marks place (marks.advanced (marks.peer_at l.marks place) from counter)) o
                (l.marks ++ ahead ∷ []);
          })
      by_place (Some place) at = by_stored place (nat_le counter (marks.peer_at l.marks place).stored) at
      by_place None at = low_when B lasts l _ _ (λ r k. new_leads at (room_new l.marks from counter k.range.marks.short at room))
