-- The plans of accepting and sending are of a shape.
use Rattle.std.proofs.Common.{◌≡◌, ℕ, Bool, true, false, List, [], length, ◌≤◌, Option, Some, None, Result, Ok, Err, refl, sym, subst, ◌≢◌, ◌<◌, arith}
use Rattle.std.specs.Prelude.{if◌then◌else◌, nat_le, nat_lt, ◌==◌, ◌||◌}
use Rattle.std.proofs.lemmas.Bool.{ltb-false, or_parts, eqb-false}
use Rattle.plc_base.specs.Faults.{◌then◌, ◌when◌}
use Rattle.std.specs.Option.{option_map}
use Rattle.std.specs.Option.{option_map_or}
use Rattle.plc_base.specs.declared.address.Eui.{Eui}
use Rattle.plc_base.specs.declared.key.Key.{Key}
use Rattle.mac_frames.specs.declared.head.MacHead.{MacHead}
use Rattle.mac_frames.specs.declared.head.MacHead.TheVariants as heads
use Rattle.frame_counters.specs.declared.fault.PeerFault.{PeerFault}
use Rattle.frame_counters.specs.declared.fault.PeerFault.TheVariants as peers
use Rattle.frame_counters.specs.PeerMarks as marks
use Rattle.store_tables.specs.SlotTables as slots
use Rattle.store_tables.specs.Writes.{puts_of}
use Rattle.std.proofs.lemmas.List.Quantifiers.{position-Some}
use Rattle.group_keys.specs.KeyBook.{Book}
use Rattle.group_keys.specs.KeyRing as ring
use Rattle.node_rules.specs.Accepted.{Accepted}
use Rattle.node_rules.specs.declared.refusal.FrameRefusal.{FrameRefusal}
use Rattle.node_rules.specs.declared.refusal.FrameRefusal.TheVariants.{NotForMe, Store}
use Rattle.node_rules.specs.declared.refusal.SendRefusal.TheVariants as sends
use Rattle.node_rules.specs.Frames.{Arrived}
use Rattle.node_rules.specs.Memory.{StationMemory, address_of, Datagram, Command}
use Rattle.node_rules.specs.Plans.{resting}
use Rattle.node_rules.specs.Acceptance.{is_own, Accepting, refuse, marking, admitted, open_sealed, with_key, is_for_me, accept_head, accept}
use Rattle.node_rules.specs.Drafts.{Draft, alone, empty_draft, refused, sets_out, with_next_tag, lack}
use Rattle.node_rules.specs.Calls.{Sending, sending_ends, send_from, send, command_from, send_command, tag_taken, send_fault, how, lacking}
use Rattle.node_rules.specs.Laws.{RefusesCleanly, IsMark, MarksAtMost, OnlyMarks, AcceptingOnlyMarks}
use Rattle.node_rules.proofs.Shapes.{checked_by, Shape, Rests, checked_shape, sealed_shape, option_shape}
use Rattle.node_rules.proofs.Words.{IsDone, Fits, begun_fits, tagged_fits, sets_out_fits}
use Rattle.node_rules.proofs.TablePuts.{Membership, Does, Puts, begun_puts, tagged_puts, sets_out_puts}
use Rattle.node_rules.proofs.Sizes.{load_bound}

-- # Accepting

-- there is room for a counter
abbrev pub IsAdmitted : Result (Unit {0}) PeerFault → Type 0
IsAdmitted (Ok u) = Unit {0}
IsAdmitted (Err fault) = ⊥

-- a frame is accepted and its counter kept, or nothing changes
pub data AcceptShape (l : StationMemory) : Accepting → Type 0 where
  Stays : (answer : Result Accepted FrameRefusal) → AcceptShape l (resting l answer (Err Store))
  Marks : (from counter : ℕ) (accepted : Accepted) → IsAdmitted (marks.room_for l.marks from counter) → AcceptShape l (marking l from counter accepted)

module _ (l : StationMemory) where
  admitted_shape : (from counter : ℕ) (accepted : Accepted) (room : Result (Unit {0}) PeerFault) → marks.room_for l.marks from counter ≡ room
      → AcceptShape l (admitted l from counter accepted room)
  admitted_shape from counter accepted (Ok u) e = Marks from counter accepted (subst IsAdmitted (sym e) tt)
  admitted_shape from counter accepted (Err fault) e = Stays _

  open_shape : (to from counter : ℕ) (key : Key) (payload : Option (List ℕ)) → AcceptShape l (open_sealed l to from counter key payload)
  open_shape to from counter key None = Stays _
  open_shape to from counter key (Some payload) = admitted_shape from counter _ (marks.room_for l.marks from counter) refl

  key_shape : (a : Arrived) (to from counter : ℕ) (key : Option Key) → AcceptShape l (with_key l a to from counter key)
  key_shape a to from counter None = Stays _
  key_shape a to from counter (Some key) = open_shape to from counter key (a.opened key)

  head_shape : (a : Arrived) (head : MacHead) → AcceptShape l (accept_head l a head)
  head_shape a (heads.Sealed ack seq pan to from counter index) = key_shape a to from counter (ring.key_in_ring l.ring index)
  head_shape a (heads.Up ack version seq pan to from) = Stays _
  head_shape a (heads.Down ack version seq pan to from) = Stays _

  for_me_shape : (b : Bool) (a : Arrived) → AcceptShape l (if b then accept_head l a a.head else refuse l NotForMe)
  for_me_shape true a = head_shape a a.head
  for_me_shape false a = Stays _

  pub accept_shape : (own : Eui) (a : Option Arrived) → AcceptShape l (accept l own a)
  accept_shape own None = Stays _
  accept_shape own (Some a) = for_me_shape (is_for_me l own a.head) a

  pub accepts_cleanly : (p : Accepting) → AcceptShape l p → RefusesCleanly Store l p
  unfolding resting marking
  accepts_cleanly p (Stays answer) = (refl, λ reason e. record { puts = refl; memory = refl; frames = refl; made = refl; opened = refl })
  accepts_cleanly p (Marks from counter accepted room) = (refl, λ reason e. absurd (cc))

  -- the write of a mark stands in the row of its slots
  kept_mark : (from counter : ℕ) (place : Option ℕ) → ((k : ℕ) → place ≡ Some k → k < length l.marks) → length l.marks ≤ 64
      → IsAdmitted (option_map_or (λ k. if nat_le counter (marks.peer_at l.marks k).mark then Err peers.Replayed else Ok tt) place
      (if length l.marks == 64 then Err peers.PeersFull else Ok tt))
      → MarksAtMost (puts_of (option_map_or (λ k. if nat_le counter (marks.peer_at l.marks k).stored then None
      else Some (slots.entry_write marks.peers k (marks.peer_ahead from counter))) place
      (Some (slots.entry_write marks.peers (length l.marks) (marks.peer_ahead from counter)))))
  kept_mark from counter None inside few room = by_room (length l.marks == 64) refl room
    where
      by_room : (b : Bool) → (length l.marks == 64) ≡ b → IsAdmitted (if b then Err peers.PeersFull else Ok tt)
          → IsMark (slots.entry_write marks.peers (length l.marks) (marks.peer_ahead from counter))
      by_room true t h = absurd h
      by_room false t h = let other : length l.marks ≢ 64 = eqb-false _ _ t in let less : length l.marks < 64 = omega arith in (omega arith, omega arith)
  kept_mark from counter (Some k) inside few room = by_mark (nat_le counter (marks.peer_at l.marks k).stored)
    where
      by_mark : (b : Bool) → MarksAtMost (puts_of (if b then None else Some (slots.entry_write marks.peers k (marks.peer_ahead from counter))))
      by_mark true = tt
      by_mark false = let less : k < length l.marks = inside k refl in (omega arith, omega arith)

  pub accepts_marks : (p : Accepting) → length l.marks ≤ 64 → AcceptShape l p → OnlyMarks p
  unfolding resting marking
  accepts_marks p few (Stays answer) = record { puts = tt; frames = refl; made = refl; opened = refl }
  accepts_marks p few (Marks from counter accepted room) = record {
    puts = kept_mark from counter (marks.place_of l.marks from)
        (λ k e. (position-Some (λ peer. peer.address == from) l.marks k (record { address = 0; mark = 0; stored = 0 }) e).0) few room;
    frames = refl;
    made = refl;
    opened = refl;
  }

pub only_marks : AcceptingOnlyMarks
only_marks l own a few = accepts_marks l _ few (accept_shape l own a)

-- # Sending

module _ (R : Membership → Type 0) (listed : Book) (l : StationMemory) where
  abbrev SendShape : Sending → Type 0
  SendShape p = Shape alone sending_ends l (Does R listed l) p

  -- nothing goes out before the body, so what waits does not count
  abbrev alone_station : StationMemory
  alone_station = record l { waiting = [] }

  sends_done : (d : Draft StationMemory) → Fits alone_station 4 3 d → IsDone l d
  sends_done d f = let n = f.count in record { few = λ h. omega arith; turns = f.turns }

  sends_does : (d : Draft StationMemory) → Fits alone_station 4 3 d → Puts R listed l d → Does R listed l d
  sends_does d f p = record { done = sends_done d f; puts = p }

  -- the tag is taken where the datagram is cut
  tag_fits : (octets : List ℕ) → Fits alone_station 0 2 (tag_taken octets (empty_draft l))
  tag_fits octets = by_size (nat_le (length octets) 375)
    where
      by_size : (b : Bool) → Fits alone_station 0 2 (if b then empty_draft l else with_next_tag (empty_draft l))
      by_size true = begun_fits alone_station 2 l
      by_size false = tagged_fits alone_station (empty_draft l) (begun_fits alone_station 1 l)

  tag_puts : (octets : List ℕ) → Puts R listed l (tag_taken octets (empty_draft l))
  tag_puts octets = by_size (nat_le (length octets) 375)
    where
      by_size : (b : Bool) → Puts R listed l (if b then empty_draft l else with_next_tag (empty_draft l))
      by_size true = begun_puts R listed l l
      by_size false = tagged_puts R listed l (empty_draft l) (begun_puts R listed l l)

  -- a send without a fault is of at most 1,280 octets
  short : (to : ℕ) (datagram : List ℕ) → send_fault l to datagram ≡ None → length datagram ≤ 1280
  short to datagram e = by_size ((length datagram == 0) || nat_lt 1280 (length datagram)) refl e
    where
      by_size : (b : Bool) → ((length datagram == 0) || nat_lt 1280 (length datagram)) ≡ b
          → (Some sends.BadSize when b then Some sends.ToSelf when is_own l to then option_map lacking (lack l to (length datagram))) ≡ None
          → length datagram ≤ 1280
      by_size true t h = absurd (cc)
      by_size false t h = ltb-false _ _ (or_parts _ _ t).1

  from_shape : (own to : ℕ) (datagram : List ℕ) (note now : ℕ) → SendShape (send_from l own to datagram note now)
  from_shape own to datagram note now = checked_by _ _ _ _ (send_fault l to datagram) _ (λ e.
      sealed_shape alone sending_ends l (Does R listed l) (sets_out own to note (Datagram datagram l.next_tag) now (tag_taken datagram (empty_draft l)))
      (how l to)
      (sends_does _ (sets_out_fits alone_station 4 own to note (Datagram datagram l.next_tag) now (tag_taken datagram (empty_draft l)) (omega arith)
      (load_bound (Datagram datagram l.next_tag) (short to datagram e)).1 (tag_fits datagram))
      (sets_out_puts R listed l own to note (Datagram datagram l.next_tag) now (tag_taken datagram (empty_draft l)) (tag_puts datagram))))

  pub send_shape : (to : ℕ) (datagram : List ℕ) (note now : ℕ) → SendShape (send l to datagram note now)
  send_shape to datagram note now = option_shape _ _ _ _ (λ own. send_from l own to datagram note now) (address_of l) (refused sending_ends l sends.NotJoined)
      (λ own. from_shape own to datagram note now) (Rests _)

  pub send_command_shape : (to : ℕ) (octets : List ℕ) (now : ℕ) → SendShape (send_command l to octets now)
  send_command_shape to octets now = option_shape _ _ _ _ (λ own. command_from l own to octets now) (address_of l) (refused sending_ends l sends.NotJoined)
      (λ own. checked_shape _ _ _ _ _ _ (sealed_shape alone sending_ends l (Does R listed l) (sets_out own to 0 (Command octets) now (empty_draft l)) (how l to)
      (sends_does _ (sets_out_fits alone_station 4 own to 0 (Command octets) now (empty_draft l) (omega arith) (omega arith) (begun_fits alone_station 2 l))
      (sets_out_puts R listed l own to 0 (Command octets) now (empty_draft l) (begun_puts R listed l l)))))
      (Rests _)
