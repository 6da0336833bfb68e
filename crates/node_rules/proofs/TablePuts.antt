-- The puts of a doing, by their kinds: whatever is said of each kind is said of every plan.
use Rattle.std.proofs.Common.{◌≡◌, ℕ, ◌+◌, ◌≤◌, Bool, true, false, List, [], ◌∷◌, ◌++◌, length, Option, Some, None, refl, arith}
use Rattle.std.specs.Prelude.{All, if◌then◌else◌, unwrap_or, nat_le, ◌==◌}
use Rattle.std.specs.Option.{option_map, option_map_or}
use Rattle.std.proofs.lemmas.List.Elements.{All-nil, All-cons, All-append}
use Rattle.std.proofs.lemmas.List.Quantifiers.{position-Some}
use Rattle.std.proofs.lemmas.Option.{same_Some}
use Rattle.plc_base.specs.declared.address.Eui.{Eui}
use Rattle.plc_base.specs.declared.key.Key.{Key}
use Rattle.store_tables.specs.declared.number_slot.NumberSlot.{NumberSlot}
use Rattle.plc_base.specs.declared.tags.PairTag.{PairTag}
use Rattle.plc_base.specs.Grant.{Granted}
use Rattle.plc_base.specs.Keeper.{Write}
use Rattle.store_tables.specs.NumberSlots.{number_write}
use Rattle.store_tables.specs.SlotTables as slots
use Rattle.store_tables.specs.Writes.{puts_of}
use Rattle.fragment_buffers.specs.NextTag.{tag_at}
use Rattle.frame_counters.specs.PeerMarks.{PeerMark}
use Rattle.frame_counters.specs.PeerMarks as marks
use Rattle.frame_counters.specs.SendCounter as counter
use Rattle.group_keys.specs.declared.key_book.BookEntry.{BookEntry}
use Rattle.group_keys.specs.KeyBook as book
use Rattle.group_keys.specs.KeyRing as ring
use Rattle.group_keys.proofs.EntryPuts.{has_entry}
use Rattle.joining_messages.specs.declared.message.JoinMessage.{JoinMessage}
use Rattle.mesh_header.specs.declared.unit.Unit.{Unit as MeshUnit}
use Rattle.routing_set.specs.declared.entry.RoutingEntry.{RoutingEntry}
use Rattle.routing_set.specs.declared.rank.Rank.{Rank}
use Rattle.routing_set.specs.RoutingSet as routing
use Rattle.routing_set.specs.OwnNumber as own_number
use Rattle.node_rules.specs.Memory.{StationMemory, Load, Command, Memory, CoordinatorSession, address_of, next_hop}
use Rattle.node_rules.specs.Drafts.{Draft, empty_draft, tag_after, with_rank, with_own_number, with_next_tag, with_ring, with_routing_by, goes, body_goes}
use Rattle.node_rules.specs.Drafts.{is_awaited, waits, seeks, seeks_once, sets_out, leave}
use Rattle.node_rules.specs.MemoryDrafts.{on_station, station_part, with_memory_by, with_pair_tags, goes_up, goes_down, is_commanded}
use Rattle.node_rules.specs.JoiningPackets.{command_of}
use Rattle.node_rules.specs.Calls.{idled}
use Rattle.node_rules.specs.Coordinators.{with_book_entry, with_session}
use Rattle.node_rules.proofs.Words.{IsDone, Fits, begun_fits, learns_done, sends_on_done, answers_done, goes_done, error_done, error_on_done, on_ring}
use Rattle.node_rules.proofs.Words.{idled_fits, remembered_fits, tags_fit, entered_fits, up_done, down_done, commanded_done, quiet_done}

-- What is stored of who belongs to the network: a ring, or an entry of the book.
pub data Membership : Type 0 where
  RingOf : (r : ring.Ring) → Membership
  EntryOf : (e : BookEntry) → Membership

-- The kinds of puts of a plan over such a memory, where R holds of each ring and each entry of the book that is put: one of a table
-- replaces an entry that is held, or adds one right after them.
pub data PutOf (R : Membership → Type 0) (b : book.Book) (l : StationMemory) : Write → Type 0 where
  OfFloors : (floors : List ℕ) → PutOf R b l (routing.floors_write floors)
  OfNumber : (at : NumberSlot) (number : ℕ) → 2 ≤ at.slot → at.slot ≤ 4 → PutOf R b l (number_write at number)
  OfRing : (r : ring.Ring) → R (RingOf r) → PutOf R b l (record { slot = ring.ring_slot; octets = ring.ring_octets r })
  OfMark : (place : ℕ) (peer : PeerMark) → place ≤ length l.marks → PutOf R b l (slots.entry_write marks.peers place peer)
  OfRank : (place : ℕ) (e : RoutingEntry) → place ≤ length l.routing.entries → PutOf R b l (slots.entry_write routing.ranks place e)
  OfEntry : (place : ℕ) (e : BookEntry) → place ≤ length b → R (EntryOf e) → PutOf R b l (slots.entry_write book.entries place e)

-- a ring or an entry of any kind
pub data AnyMembership : Membership → Type 0 where
  Any : (x : Membership) → AnyMembership x

-- A ring with the address of another one, or none like the other one.
pub record SameHome (before r : ring.Ring) : Type 0 where
  pub same : option_map (λ (g : Granted). g.address) r ≡ option_map (λ (g : Granted). g.address) before

pub key_home : (before : ring.Ring) (index : ℕ) (key : Key) → SameHome before (ring.with_key before index key)
key_home None index key = record { same = refl }
key_home (Some g) index key = by_index (index == 0)
  where
    by_index : (c : Bool) → SameHome (Some g) (Some (if c then record g { key0 = Some key } else record g { key1 = Some key }))
    by_index true = record { same = refl }
    by_index false = record { same = refl }

pub active_home : (before : ring.Ring) (index : ℕ) → SameHome before (ring.with_active before index)
active_home None index = record { same = refl }
active_home (Some g) index = record { same = refl }

-- # The place that an entry takes

-- the place of a key that is found is one of the table, and the place of another one is right after it
place_small : {A : Type 0} (layout : slots.Layout A) (table : List A) (key : ℕ) → unwrap_or (slots.place_of layout table key) (length table) ≤ length table
place_small {A = A} layout table key = by_place table (slots.place_of layout table key) refl
  where
    by_place : (t : List A) (o : Option ℕ) → slots.place_of layout t key ≡ o → unwrap_or o (length t) ≤ length t
    by_place t None e = omega arith
    by_place [] (Some k) e = absurd (cc)
    by_place (x ∷ xs) (Some k) e = let inside = (position-Some (λ entry. layout.key entry == key) (x ∷ xs) k x e).0 in omega arith

pub place_for_small : (b : book.Book) (eui : Eui) → book.place_for b eui ≤ length b
place_for_small b eui = by_place (book.place_of b eui) (place_small book.entries b (book.eui_number eui))
  where
    by_place : (o : Option ℕ) → unwrap_or o (length b) ≤ length b → option_map_or (λ place. place) o (length b) ≤ length b
    by_place None h = h
    by_place (Some k) h = h

-- so is the place of an entry that was written
pub place_for_again : (b : book.Book) (e : BookEntry) → book.place_for (book.with_entry b e) e.eui ≤ length b
place_for_again b e = by_place (book.place_of (book.with_entry b e) e.eui) (has_entry b e).address
  where
    by_place : (o : Option ℕ) → option_map (λ place. place + 1) o ≡ Some (book.place_for b e.eui + 1)
        → option_map_or (λ place. place) o (length (book.with_entry b e)) ≤ length b
    by_place None h = absurd (cc)
    by_place (Some k) h =
        let same : k + 1 ≡ book.place_for b e.eui + 1 = same_Some (k + 1) (book.place_for b e.eui + 1) h in let small = place_for_small b e.eui in omega arith

module _ (R : Membership → Type 0) (b : book.Book) (l : StationMemory) where
  abbrev pub AreOf : List Write → Type 0
  AreOf puts = All (PutOf R b l) puts

  none : AreOf []
  none = All-nil (PutOf R b l)

  one : (w : Write) → PutOf R b l w → AreOf (w ∷ [])
  one w p = All-cons (PutOf R b l) w [] p none

  pub both : (ps qs : List Write) → AreOf ps → AreOf qs → AreOf (ps ++ qs)
  both ps qs p q = All-append (PutOf R b l) ps qs p q

  -- # The puts of the parts

  due_of : (floors : List ℕ) (gone : Option RoutingEntry) → AreOf (puts_of (routing.floors_due floors gone))
  due_of floors None = none
  due_of floors (Some e) = by_rise (routing.raises floors e)
    where
      by_rise : (b : Bool) → AreOf (puts_of (if b then Some (routing.floors_write (routing.raised floors e)) else None))
      by_rise true = one _ (OfFloors _)
      by_rise false = none

  offer_of : (dest : ℕ) (rank : Rank) (next now : ℕ) → AreOf (routing.offer_writes l.routing dest rank next now)
  unfolding routing.entry_writes
  offer_of dest rank next now =
      let gone = routing.forgotten l.routing dest now in
      both _ _ (due_of l.routing.floors gone) (one _
      (OfRank _ (routing.offered_entry dest rank next now) (place_small routing.ranks l.routing.entries (option_map_or (λ e. e.address) gone dest))))

  number_of : (n : own_number.Numbering) → AreOf (puts_of (own_number.advance_write n))
  number_of n = by_limit (own_number.passes n)
    where
      by_limit : (b : Bool) → AreOf (puts_of (if b then own_number.limit_write (own_number.raised n.limit) else None))
      by_limit true = one _ (OfNumber own_number.limit_at _ (omega arith) (omega arith))
      by_limit false = none

  pub counter_of : (c : counter.Counting) (count : ℕ) → AreOf (puts_of (counter.reserve_write c count))
  counter_of c count = by_limit (counter.passes c count)
    where
      by_limit : (b : Bool) → AreOf (puts_of (if b then counter.limit_write (counter.raised c.limit) else None))
      by_limit true = one _ (OfNumber counter.limit_at _ (omega arith) (omega arith))
      by_limit false = none

  entry_of : (c : book.Book) (e : BookEntry) → book.place_for c e.eui ≤ length b → R (EntryOf e) → AreOf (puts_of (book.change_write c e))
  entry_of c e small x = by_holding (book.holds c e)
    where
      by_holding : (h : Bool) → AreOf (puts_of (if h then None else book.entry_write c e))
      by_holding true = none
      by_holding false = one _ (OfEntry (book.place_for c e.eui) e small x)

  -- the mark of a sender, whether it is held or new
  pub mark_of : (from count : ℕ) → AreOf (puts_of (marks.keep_write l.marks from count))
  mark_of from count = by_place (marks.place_of l.marks from) (place_small marks.peers l.marks from)
    where
      held : (k : ℕ) (c : Bool) → k ≤ length l.marks
          → AreOf (puts_of (if c then None else Some (slots.entry_write marks.peers k (marks.peer_ahead from count))))
      held k true small = none
      held k false small = one _ (OfMark k (marks.peer_ahead from count) small)

      by_place : (place : Option ℕ) → unwrap_or place (length l.marks) ≤ length l.marks
          → AreOf (puts_of (option_map_or (λ k. if nat_le count (marks.peer_at l.marks k).stored then None
          else Some (slots.entry_write marks.peers k (marks.peer_ahead from count))) place
          (Some (slots.entry_write marks.peers (length l.marks) (marks.peer_ahead from count)))))
      by_place None small = one _ (OfMark (length l.marks) (marks.peer_ahead from count) small)
      by_place (Some k) small = held k (nat_le count (marks.peer_at l.marks k).stored) small

  -- # The words of a station

  abbrev pub Puts : {M : Type 0} → Draft M → Type 0
  Puts d = AreOf d.puts

  pub begun_puts : {M : Type 0} (m : M) → Puts (empty_draft m)
  unfolding empty_draft
  begun_puts m = none

  pub ranked_puts : (dest : ℕ) (rank : Rank) (by now : ℕ) → Puts (with_rank dest rank by now (empty_draft l))
  unfolding empty_draft with_rank
  ranked_puts dest rank by now = offer_of dest rank by now

  numbered_puts : (d : Draft StationMemory) → Puts d → Puts (with_own_number d)
  unfolding with_own_number
  numbered_puts d p = both _ _ p (number_of d.memory.own_number)

  pub tagged_puts : (d : Draft StationMemory) → Puts d → Puts (with_next_tag d)
  unfolding with_next_tag
  tagged_puts d p = both _ _ p (one _ (OfNumber tag_at (tag_after d.memory.next_tag) (omega arith) (omega arith)))

  pub ringed_puts : (r : ring.Ring) (d : Draft StationMemory) → R (RingOf r) → Puts d → Puts (with_ring r d)
  unfolding with_ring
  ringed_puts r d h p = both _ _ p (one _ (OfRing r h))

  leave_puts : (own dest hop : ℕ) (d : Draft StationMemory) → Puts d → Puts (leave own dest hop d)
  unfolding leave
  leave_puts own dest hop d p = p

  pub goes_puts : (to : ℕ) (unit : MeshUnit) (note : ℕ) (d : Draft StationMemory) → Puts d → Puts (goes to unit note d)
  unfolding goes
  goes_puts to unit note d p = p

  rerouted_puts : (change : routing.Routing → routing.Routing) (d : Draft StationMemory) → Puts d → Puts (with_routing_by change d)
  unfolding with_routing_by
  rerouted_puts change d p = p

  body_puts : (own hop to note : ℕ) (load : Load) (d : Draft StationMemory) → Puts d → Puts (body_goes own hop to note load d)
  unfolding body_goes
  body_puts own hop to note load d p = p

  waits_puts : (to note : ℕ) (load : Load) (now : ℕ) (d : Draft StationMemory) → Puts d → Puts (waits to note load now d)
  unfolding waits
  waits_puts to note load now d p = p

  seeks_puts : (own dest : ℕ) (d : Draft StationMemory) → Puts d → Puts (seeks_once own dest d)
  unfolding seeks_once
  seeks_puts own dest d p = by_wait (is_awaited d.memory dest)
    where
      by_wait : (w : Bool) → Puts (if w then d else seeks own dest d)
      by_wait true = p
      by_wait false = goes_puts _ _ _ _ (numbered_puts d p)

  pub sets_out_puts : (own to note : ℕ) (load : Load) (now : ℕ) (d : Draft StationMemory) → Puts d → Puts (sets_out own to note load now d)
  sets_out_puts own to note load now d p = by_hop (next_hop d.memory to) refl
    where
      by_hop : (hop : Option ℕ) → next_hop d.memory to ≡ hop → Puts (sets_out own to note load now d)
      by_hop None e = rw e (waits_puts to note load now _ (seeks_puts own to d p))
      by_hop (Some hop) e = rw e (body_puts own hop to note load d p)

-- A doing that is bounded, and whose puts are of these kinds.
pub record Does {M : Type 0} (R : Membership → Type 0) (b : book.Book) (l : StationMemory) (d : Draft M) : Type 0 where
  pub done : IsDone l d
  pub puts : AreOf R b l d.puts

-- The same before anything goes out but what waited, and before own number and counter.
pub record Began {M : Type 0} (R : Membership → Type 0) (b : book.Book) (l : StationMemory) (d : Draft M) : Type 0 where
  pub fits : Fits l 0 1 d
  pub puts : AreOf R b l d.puts

module _ (R : Membership → Type 0) (b : book.Book) (l : StationMemory) where
  -- # The doings of what a station hears

  pub learns_does : (own origin : ℕ) (rank : Rank) (by now : ℕ) → Does R b l (leave own origin by (with_rank origin rank by now (empty_draft l)))
  learns_does own origin rank by now = record {
    done = learns_done l own origin rank by now;
    puts = leave_puts R b l own origin by _ (ranked_puts R b l origin rank by now);
  }

  pub sends_on_does : (own origin : ℕ) (rank : Rank) (by now to : ℕ) (unit : MeshUnit) (note : ℕ)
      → Does R b l (goes to unit note (leave own origin by (with_rank origin rank by now (empty_draft l))))
  sends_on_does own origin rank by now to unit note = record {
    done = sends_on_done l own origin rank by now to unit note;
    puts = goes_puts R b l to unit note _ (leave_puts R b l own origin by _ (ranked_puts R b l origin rank by now));
  }

  pub answers_does : (own origin : ℕ) (rank : Rank) (by now to : ℕ) (unit : MeshUnit) (note : ℕ)
      → Does R b l (goes to unit note (leave own origin by (with_own_number (with_rank origin rank by now (empty_draft l)))))
  answers_does own origin rank by now to unit note = record {
    done = answers_done l own origin rank by now to unit note;
    puts = goes_puts R b l to unit note _ (leave_puts R b l own origin by _ (numbered_puts R b l _ (ranked_puts R b l origin rank by now)));
  }

  pub goes_does : (to : ℕ) (unit : MeshUnit) (note : ℕ) → Does R b l (goes to unit note (empty_draft l))
  goes_does to unit note = record { done = goes_done l to unit note; puts = goes_puts R b l to unit note _ (begun_puts R b l l) }

  pub error_does : (change : routing.Routing → routing.Routing) → Does R b l (with_routing_by change (empty_draft l))
  error_does change = record { done = error_done l change; puts = rerouted_puts R b l change _ (begun_puts R b l l) }

  pub error_on_does : (to : ℕ) (unit : MeshUnit) (note : ℕ) (change : routing.Routing → routing.Routing)
      → Does R b l (goes to unit note (with_routing_by change (empty_draft l)))
  error_on_does to unit note change = record {
    done = error_on_done l to unit note change;
    puts = goes_puts R b l to unit note _ (rerouted_puts R b l change _ (begun_puts R b l l));
  }

  -- # Over all of the memory

  pub begins : {M : Type 0} (m : M) → Began R b l (empty_draft m)
  begins m = record { fits = begun_fits l 1 m; puts = begun_puts R b l m }

  pub rings : (r : ring.Ring) (d : Draft Memory) → R (RingOf r) → Began R b l d → Began R b l (on_station (with_ring r) d)
  unfolding on_station
  rings r d h f = record { fits = on_ring l r d f.fits; puts = ringed_puts R b l r (station_part d) h f.puts }

  pub idles : (d : Draft Memory) → R (RingOf None) → Began R b l d → Began R b l (on_station (λ x. with_ring None (record x { memory = idled x.memory })) d)
  unfolding on_station
  idles d h f = record { fits = idled_fits l d f.fits; puts = ringed_puts R b l None (record (station_part d) { memory = idled d.memory.station }) h f.puts }

  pub remembers : (change : Memory → Memory) (d : Draft Memory) → Began R b l d → Began R b l (with_memory_by change d)
  unfolding with_memory_by
  remembers change d f = record { fits = remembered_fits l change d f.fits; puts = f.puts }

  pub tags : (made opened : List PairTag) (d : Draft Memory) → Began R b l d → Began R b l (with_pair_tags made opened d)
  unfolding with_pair_tags
  tags made opened d f = record { fits = tags_fit l made opened d f.fits; puts = f.puts }

  pub enters : (e : BookEntry) (d : Draft Memory) → book.place_for d.memory.book e.eui ≤ length b → R (EntryOf e) → Began R b l d
      → Began R b l (with_book_entry e d)
  unfolding with_book_entry
  enters e d small x f = record { fits = entered_fits l e d f.fits; puts = both R b l _ _ f.puts (entry_of R b l d.memory.book e small x) }

  pub up_does : (agent : ℕ) (own : Eui) (message : JoinMessage) (d : Draft Memory) → Began R b l d → Does R b l (goes_up agent own message d)
  unfolding goes_up
  up_does agent own message d f = record { done = up_done l agent own message d f.fits; puts = f.puts }

  pub down_does : (own : ℕ) (message : JoinMessage) (d : Draft Memory) → Began R b l d → Does R b l (goes_down own message d)
  unfolding goes_down
  down_does own message d f = record { done = down_done l own message d f.fits; puts = f.puts }

  pub commands_does : (to : ℕ) (message : JoinMessage) (now : ℕ) (d : Draft Memory) → Began R b l d → Does R b l (is_commanded to message now d)
  unfolding is_commanded on_station
  commands_does to message now d f = record { done = commanded_done l to message now d f.fits; puts = by_address (address_of d.memory.station) }
    where
      by_address : (own : Option ℕ) → Puts R b l (option_map_or (λ own. on_station (sets_out own to 0 (Command (command_of message)) now) d) own d)
      by_address None = f.puts
      by_address (Some own) = sets_out_puts R b l own to 0 (Command (command_of message)) now (station_part d) f.puts

  pub quiet_does : (d : Draft Memory) → Began R b l d → Does R b l d
  quiet_does d f = record { done = quiet_done l d f.fits; puts = f.puts }

-- # The coordinator's book

module _ (R : Membership → Type 0) (m : Memory) where
  -- the entry of a meter is the first that is put
  pub enters_first : (e : BookEntry) → R (EntryOf e) → Began R m.book m.station (with_book_entry e (empty_draft m))
  unfolding empty_draft
  enters_first e x = enters R m.book m.station e _ (place_for_small m.book e.eui) x (begins R m.book m.station m)

  -- also where its session goes on
  pub enters_session : (s : CoordinatorSession) (e : BookEntry) → R (EntryOf e)
      → Began R m.book m.station (with_book_entry e (with_memory_by (with_session s) (empty_draft m)))
  unfolding empty_draft with_memory_by
  enters_session s e x =
      enters R m.book m.station e _ (place_for_small m.book e.eui) x (remembers R m.book m.station (with_session s) _ (begins R m.book m.station m))

pub ruleset station_does = (learns_does, sends_on_does, answers_does, goes_does, error_does, error_on_does)

pub ruleset memory_does = (up_does, down_does, commands_does, quiet_does, begins, rings, idles, remembers, tags, Any)
