-- What each word of a rule adds: units and plain frames, and writes in turn.
use Rattle.std.proofs.Common.{◌≡◌, ℕ, ◌+◌, ◌<◌, ◌≤◌, Bool, true, false, List, [], ◌∷◌, ◌++◌, length, Option, Some, None, refl, arith, nat_eq}
use Rattle.std.specs.Prelude.{if◌then◌else◌, unwrap_or}
use Rattle.std.specs.Option.{option_map_or}
use Rattle.std.proofs.lemmas.Bool.{ne_eqb}
use Rattle.std.proofs.lemmas.List.{length-append}
use Rattle.plc_base.specs.declared.address.Eui.{Eui}
use Rattle.plc_base.specs.declared.tags.PairTag.{PairTag}
use Rattle.plc_base.specs.Keeper.{Write}
use Rattle.store_tables.specs.SlotTables as slots
use Rattle.store_tables.specs.Writes.{puts_of}
use Rattle.frame_counters.specs.SendCounter as counter
use Rattle.group_keys.specs.declared.key_book.BookEntry.{BookEntry}
use Rattle.group_keys.specs.KeyBook as book
use Rattle.group_keys.specs.KeyRing as ring
use Rattle.joining_messages.specs.declared.message.JoinMessage.{JoinMessage}
use Rattle.mesh_header.specs.declared.unit.Unit.{Unit as MeshUnit}
use Rattle.routing_set.specs.declared.entry.RoutingEntry.{RoutingEntry}
use Rattle.routing_set.specs.declared.rank.Rank.{Rank}
use Rattle.routing_set.specs.RoutingSet as routing
use Rattle.routing_set.specs.OwnNumber as own_number
use Rattle.node_rules.specs.Frames.{Up, Down}
use Rattle.node_rules.specs.Memory.{StationMemory, Load, Command, Memory, address_of, next_hop}
use Rattle.node_rules.specs.Drafts.{Draft, empty_draft, with_rank, with_own_number, with_next_tag, with_ring, with_routing_by, goes, units_of, all_go}
use Rattle.node_rules.specs.Drafts.{body_goes, is_awaited, waits, seeks, seeks_once, sets_out, leave}
use Rattle.node_rules.specs.MemoryDrafts.{with_station, on_station, station_part, with_memory_by, with_pair_tags, goes_up, goes_down, is_commanded}
use Rattle.node_rules.specs.JoiningPackets.{command_of}
use Rattle.node_rules.specs.Calls.{idled}
use Rattle.node_rules.specs.Coordinators.{with_book_entry}
use Rattle.node_rules.specs.Laws.{turn_of, InTurnFrom}
use Rattle.node_rules.proofs.Sizes.{units_in, length-units_of, length-all_go, pending, leaving_units}

-- # Turns

-- from one turn on, and to another one at most
abbrev pub InTurn : ℕ → ℕ → List Write → Type 0
InTurn from to [] = from ≤ to
InTurn from to (w ∷ rest) = (from ≤ turn_of w.slot) × InTurn (turn_of w.slot) to rest

pub later_turn : (from low high : ℕ) (ps : List Write) → low ≤ high → InTurn from low ps → InTurn from high ps
later_turn from low high [] le h = omega arith
later_turn from low high (w ∷ rest) le h = (h.0, later_turn (turn_of w.slot) low high rest le h.1)

earlier_turn : (early late to : ℕ) (ps : List Write) → early ≤ late → InTurn late to ps → InTurn early to ps
earlier_turn early late to [] le h = omega arith
earlier_turn early late to (w ∷ rest) le h = let at : late ≤ turn_of w.slot = h.0 in (omega arith, h.1)

pub InTurn-append : (from mid to : ℕ) (ps qs : List Write) → InTurn from mid ps → InTurn mid to qs → InTurn from to (ps ++ qs)
InTurn-append from mid to [] qs h k = earlier_turn from mid to qs h k
InTurn-append from mid to (w ∷ rest) qs h k = (h.0, InTurn-append (turn_of w.slot) mid to rest qs h.1 k)

pub in_turn : (from to : ℕ) (ps : List Write) → InTurn from to ps → InTurnFrom from ps
in_turn from to [] h = tt
in_turn from to (w ∷ rest) h = (h.0, in_turn (turn_of w.slot) to rest h.1)

high_turn : (slot : ℕ) → 5 < slot → turn_of slot ≡ 1
high_turn slot above =
    let a : nat_eq slot 5 ≡ false = ne_eqb slot 5 (λ e. omega arith) in
    let b : nat_eq slot 4 ≡ false = ne_eqb slot 4 (λ e. omega arith) in
    let c : nat_eq slot 3 ≡ false = ne_eqb slot 3 (λ e. omega arith) in
    let d : nat_eq slot 2 ≡ false = ne_eqb slot 2 (λ e. omega arith) in
    rw (a, b, c, d) refl

-- the write of an entry of a table
table_turn : {A : Type 0} (layout : slots.Layout A) (place : ℕ) (e : A) → 5 < layout.first → InTurn 1 1 (slots.entry_write layout place e ∷ [])
table_turn layout place e above = let is = high_turn (layout.first + place) (omega arith) in (omega arith, omega arith)

due_turn : (floors : List ℕ) (gone : Option RoutingEntry) → InTurn 0 1 (puts_of (routing.floors_due floors gone))
due_turn floors None = omega arith
due_turn floors (Some e) = by_rise (routing.raises floors e)
  where
    by_rise : (b : Bool) → InTurn 0 1 (puts_of (if b then Some (routing.floors_write (routing.raised floors e)) else None))
    by_rise true = (omega arith, omega arith)
    by_rise false = omega arith

offer_turn : (r : routing.Routing) (dest : ℕ) (rank : Rank) (next now : ℕ) → InTurn 0 1 (routing.offer_writes r dest rank next now)
unfolding routing.entry_writes
offer_turn r dest rank next now = InTurn-append 0 1 1 _ _ (due_turn r.floors (routing.forgotten r dest now))
    (table_turn routing.ranks (unwrap_or (routing.place_after r.entries dest (routing.forgotten r dest now)) (length r.entries))
    (routing.offered_entry dest rank next now) (omega arith))

number_turn : (n : own_number.Numbering) → InTurn 2 3 (puts_of (own_number.advance_write n))
number_turn n = by_limit (own_number.passes n)
  where
    by_limit : (b : Bool) → InTurn 2 3 (puts_of (if b then own_number.limit_write (own_number.raised n.limit) else None))
    by_limit true = (omega arith, omega arith)
    by_limit false = omega arith

pub counter_turn : (c : counter.Counting) (count : ℕ) → InTurn 3 4 (puts_of (counter.reserve_write c count))
counter_turn c count = by_limit (counter.passes c count)
  where
    by_limit : (b : Bool) → InTurn 3 4 (puts_of (if b then counter.limit_write (counter.raised c.limit) else None))
    by_limit true = (omega arith, omega arith)
    by_limit false = omega arith

entry_turn : (b : book.Book) (e : BookEntry) → InTurn 1 1 (puts_of (book.change_write b e))
entry_turn b e = by_holding (book.holds b e)
  where
    by_holding : (h : Bool) → InTurn 1 1 (puts_of (if h then None else book.entry_write b e))
    by_holding true = omega arith
    by_holding false = table_turn book.entries (book.place_for b e.eui) e (omega arith)

-- # What a doing adds at most

-- This many units and plain frames more than what waits, and writes up to a turn.
pub record Fits {M : Type 0} (l : StationMemory) (more last : ℕ) (d : Draft M) : Type 0 where
  pub count : length d.units + length d.plain ≤ pending l + more
  pub turns : InTurn 0 last d.puts

-- At most 24 units and plain frames, where what waits is at most 21 units, and writes before that of the counter.
pub record IsDone {M : Type 0} (l : StationMemory) (d : Draft M) : Type 0 where
  pub few : pending l ≤ 21 → length d.units + length d.plain ≤ 24
  pub turns : InTurn 0 3 d.puts

-- Nothing goes out yet, and what waits is what waited.
pub record Fresh (l : StationMemory) (last : ℕ) (d : Draft StationMemory) : Type 0 where
  pub units : d.units ≡ []
  pub plain : d.plain ≡ []
  pub waiting : d.memory.waiting ≡ l.waiting
  pub turns : InTurn 0 last d.puts

one_more : {A : Type 0} (xs : List A) (x : A) → length (xs ++ x ∷ []) ≡ length xs + 1
one_more xs x = length-append xs (x ∷ [])

module _ (l : StationMemory) where
  pub done : {M : Type 0} (more last : ℕ) (d : Draft M) → more ≤ 3 → last ≤ 3 → Fits l more last d → IsDone l d
  done more last d few early f = let n = f.count in record { few = λ h. omega arith; turns = later_turn 0 last 3 d.puts early f.turns }

  pub looser : {M : Type 0} (more last many late : ℕ) (d : Draft M) → more ≤ many → last ≤ late → Fits l more last d → Fits l many late d
  looser more last many late d few early f = let n = f.count in record { count = omega arith; turns = later_turn 0 last late d.puts early f.turns }

  pub begun_fits : {M : Type 0} (last : ℕ) (m : M) → Fits l 0 last (empty_draft m)
  unfolding empty_draft
  begun_fits last m = record { count = omega arith; turns = omega arith }

  pub begun_fresh : (last : ℕ) → Fresh l last (empty_draft l)
  unfolding empty_draft
  begun_fresh last = record { units = refl; plain = refl; waiting = refl; turns = omega arith }

  pub ranked_fresh : (dest : ℕ) (rank : Rank) (by now : ℕ) (d : Draft StationMemory) → Fresh l 0 d → Fresh l 1 (with_rank dest rank by now d)
  unfolding with_rank
  ranked_fresh dest rank by now d f = record {
    units = f.units;
    plain = f.plain;
    waiting = f.waiting;
    turns = InTurn-append 0 0 1 d.puts _ f.turns (offer_turn d.memory.routing dest rank by now);
  }

  numbered_fresh : (d : Draft StationMemory) → Fresh l 1 d → Fresh l 3 (with_own_number d)
  unfolding with_own_number
  numbered_fresh d f = record {
    units = f.units;
    plain = f.plain;
    waiting = f.waiting;
    turns = InTurn-append 0 2 3 d.puts _ (later_turn 0 1 2 d.puts (omega arith) f.turns) (number_turn d.memory.own_number);
  }

  pub leave_fits : (last own dest hop : ℕ) (d : Draft StationMemory) → Fresh l last d → Fits l 0 last (leave own dest hop d)
  unfolding leave
  leave_fits last own dest hop d f =
      let left = leaving_units own dest hop l.waiting in
      record { count = rw (f.units, f.plain, f.waiting) (omega arith); turns = f.turns }

  pub goes_fits : (more last to : ℕ) (unit : MeshUnit) (note : ℕ) (d : Draft StationMemory) → Fits l more last d → Fits l (more + 1) last (goes to unit note d)
  unfolding goes
  goes_fits more last to unit note d f =
      let n = f.count in
      let longer = one_more d.units (record { to = to; unit = unit; note = note }) in
      record { count = omega arith; turns = f.turns }

  pub rerouted_fits : (more last : ℕ) (change : routing.Routing → routing.Routing) (d : Draft StationMemory) → Fits l more last d
      → Fits l more last (with_routing_by change d)
  unfolding with_routing_by
  rerouted_fits more last change d f = record { count = f.count; turns = f.turns }

  -- # The doings of what is heard

  pub learns_done : (own origin : ℕ) (rank : Rank) (by now : ℕ) → IsDone l (leave own origin by (with_rank origin rank by now (empty_draft l)))
  learns_done own origin rank by now = done 0 1 _ (omega arith) (omega arith) (leave_fits 1 own origin by _ (ranked_fresh origin rank by now _ (begun_fresh 0)))

  pub sends_on_done : (own origin : ℕ) (rank : Rank) (by now to : ℕ) (unit : MeshUnit) (note : ℕ)
      → IsDone l (goes to unit note (leave own origin by (with_rank origin rank by now (empty_draft l))))
  sends_on_done own origin rank by now to unit note = done (0 + 1) 1 _ (omega arith) (omega arith)
      (goes_fits 0 1 to unit note _ (leave_fits 1 own origin by _ (ranked_fresh origin rank by now _ (begun_fresh 0))))

  pub answers_done : (own origin : ℕ) (rank : Rank) (by now to : ℕ) (unit : MeshUnit) (note : ℕ)
      → IsDone l (goes to unit note (leave own origin by (with_own_number (with_rank origin rank by now (empty_draft l)))))
  answers_done own origin rank by now to unit note = done (0 + 1) 3 _ (omega arith) (omega arith)
      (goes_fits 0 3 to unit note _ (leave_fits 3 own origin by _ (numbered_fresh _ (ranked_fresh origin rank by now _ (begun_fresh 0)))))

  pub goes_done : (to : ℕ) (unit : MeshUnit) (note : ℕ) → IsDone l (goes to unit note (empty_draft l))
  goes_done to unit note = done (0 + 1) 3 _ (omega arith) (omega arith) (goes_fits 0 3 to unit note _ (begun_fits 3 l))

  pub error_done : (change : routing.Routing → routing.Routing) → IsDone l (with_routing_by change (empty_draft l))
  error_done change = done 0 3 _ (omega arith) (omega arith) (rerouted_fits 0 3 change _ (begun_fits 3 l))

  pub error_on_done : (to : ℕ) (unit : MeshUnit) (note : ℕ) (change : routing.Routing → routing.Routing)
      → IsDone l (goes to unit note (with_routing_by change (empty_draft l)))
  error_on_done to unit note change = done (0 + 1) 3 _ (omega arith) (omega arith) (goes_fits 0 3 to unit note _ (rerouted_fits 0 3 change _ (begun_fits 3 l)))

-- # Bodies that set out

module _ (l : StationMemory) where
  body_fits : (more own hop to note : ℕ) (load : Load) (d : Draft StationMemory) → units_in load ≤ more → Fits l 0 2 d
      → Fits l more 3 (body_goes own hop to note load d)
  unfolding body_goes
  body_fits more own hop to note load d few f =
      let n = f.count in
      let joined = length-append d.units (all_go hop note (units_of own to load)) in
      let long = length-all_go hop note (units_of own to load) in
      let units = length-units_of own to load in
      record { count = omega arith; turns = later_turn 0 2 3 d.puts (omega arith) f.turns }

  waits_fits : (more to note : ℕ) (load : Load) (now : ℕ) (d : Draft StationMemory) → Fits l more 3 d → Fits l more 3 (waits to note load now d)
  unfolding waits
  waits_fits more to note load now d f = record { count = f.count; turns = f.turns }

  numbered_fits : (d : Draft StationMemory) → Fits l 0 2 d → Fits l 0 3 (with_own_number d)
  unfolding with_own_number
  numbered_fits d f = record { count = f.count; turns = InTurn-append 0 2 3 d.puts _ f.turns (number_turn d.memory.own_number) }

  seeks_fits : (more own dest : ℕ) (d : Draft StationMemory) → 1 ≤ more → Fits l 0 2 d → Fits l more 3 (seeks_once own dest d)
  unfolding seeks_once
  seeks_fits more own dest d few f = by_wait (is_awaited d.memory dest)
    where
      by_wait : (b : Bool) → Fits l more 3 (if b then d else seeks own dest d)
      by_wait true = looser l 0 2 more 3 d (omega arith) (omega arith) f
      by_wait false = looser l (0 + 1) 3 more 3 _ (omega arith) (omega arith) (goes_fits l 0 3 _ _ _ _ (numbered_fits d f))

  pub sets_out_fits : (more own to note : ℕ) (load : Load) (now : ℕ) (d : Draft StationMemory) → 1 ≤ more → units_in load ≤ more → Fits l 0 2 d
      → Fits l more 3 (sets_out own to note load now d)
  sets_out_fits more own to note load now d one few f = by_hop (next_hop d.memory to) refl
    where
      by_hop : (hop : Option ℕ) → next_hop d.memory to ≡ hop → Fits l more 3 (sets_out own to note load now d)
      by_hop None e = rw e (waits_fits more to note load now _ (seeks_fits more own to d one f))
      by_hop (Some hop) e = rw e (body_fits more own hop to note load d few f)

  pub tagged_fits : (d : Draft StationMemory) → Fits l 0 1 d → Fits l 0 2 (with_next_tag d)
  unfolding with_next_tag
  tagged_fits d f = record { count = f.count; turns = InTurn-append 0 1 2 d.puts _ f.turns (omega arith, omega arith) }

  -- # Over all of the memory

  ringed_fits : (r : ring.Ring) (d : Draft StationMemory) → Fits l 0 1 d → Fits l 0 1 (with_ring r d)
  unfolding with_ring
  ringed_fits r d f = record { count = f.count; turns = InTurn-append 0 1 1 d.puts _ f.turns (omega arith, omega arith) }

  pub on_ring : (r : ring.Ring) (d : Draft Memory) → Fits l 0 1 d → Fits l 0 1 (on_station (with_ring r) d)
  unfolding on_station
  on_ring r d f = let x = ringed_fits r (station_part d) (record { count = f.count; turns = f.turns }) in record { count = x.count; turns = x.turns }

  pub idled_fits : (d : Draft Memory) → Fits l 0 1 d → Fits l 0 1 (on_station (λ x. with_ring None (record x { memory = idled x.memory })) d)
  unfolding on_station
  idled_fits d f =
      let x = ringed_fits None (record (station_part d) { memory = idled d.memory.station }) (record { count = f.count; turns = f.turns }) in
      record { count = x.count; turns = x.turns }

  pub remembered_fits : (change : Memory → Memory) (d : Draft Memory) → Fits l 0 1 d → Fits l 0 1 (with_memory_by change d)
  unfolding with_memory_by
  remembered_fits change d f = record { count = f.count; turns = f.turns }

  pub tags_fit : (made opened : List PairTag) (d : Draft Memory) → Fits l 0 1 d → Fits l 0 1 (with_pair_tags made opened d)
  unfolding with_pair_tags
  tags_fit made opened d f = record { count = f.count; turns = f.turns }

  pub entered_fits : (e : BookEntry) (d : Draft Memory) → Fits l 0 1 d → Fits l 0 1 (with_book_entry e d)
  unfolding with_book_entry
  entered_fits e d f = record { count = f.count; turns = InTurn-append 0 1 1 d.puts _ f.turns (entry_turn d.memory.book e) }

  pub up_done : (agent : ℕ) (own : Eui) (message : JoinMessage) (d : Draft Memory) → Fits l 0 1 d → IsDone l (goes_up agent own message d)
  unfolding goes_up
  up_done agent own message d f =
      let n = f.count in
      let longer = one_more d.plain (Up agent own message) in
      record { few = λ h. omega arith; turns = later_turn 0 1 3 d.puts (omega arith) f.turns }

  pub down_done : (own : ℕ) (message : JoinMessage) (d : Draft Memory) → Fits l 0 1 d → IsDone l (goes_down own message d)
  unfolding goes_down
  down_done own message d f =
      let n = f.count in
      let longer = one_more d.plain (Down own message) in
      record { few = λ h. omega arith; turns = later_turn 0 1 3 d.puts (omega arith) f.turns }

  pub commanded_done : (to : ℕ) (message : JoinMessage) (now : ℕ) (d : Draft Memory) → Fits l 0 1 d → IsDone l (is_commanded to message now d)
  unfolding is_commanded on_station
  commanded_done to message now d f = by_address (address_of d.memory.station)
    where
      by_address : (own : Option ℕ) → IsDone l (option_map_or (λ own. on_station (sets_out own to 0 (Command (command_of message)) now) d) own d)
      by_address None = done l 0 1 d (omega arith) (omega arith) f
      by_address (Some own) =
          let x = sets_out_fits 1 own to 0 (Command (command_of message)) now (station_part d) (omega arith) (omega arith)
          (record { count = f.count; turns = later_turn 0 1 2 d.puts (omega arith) f.turns }) in
          let n = x.count in
          record { few = λ h. omega arith; turns = x.turns }

  pub quiet_done : (d : Draft Memory) → Fits l 0 1 d → IsDone l d
  quiet_done d f = done l 0 1 d (omega arith) (omega arith) f

pub of_station_done : (m : Memory) (d : Draft StationMemory) → IsDone m.station d
    → IsDone m.station (record { puts = d.puts; memory = with_station d.memory m; units = d.units; plain = d.plain; made = d.made; opened = d.opened })
of_station_done m d f = record { few = f.few; turns = f.turns }

pub ruleset quiet = (begun_fits, on_ring, idled_fits, remembered_fits, tags_fit, entered_fits)

pub ruleset memory_leaves = (up_done, down_done, commanded_done, quiet_done, quiet)
