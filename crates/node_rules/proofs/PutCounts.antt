-- How many puts each word of a rule makes.
use Rattle.std.proofs.Common.{◌≡◌, ℕ, suc, ◌+◌, ◌≤◌, Bool, true, false, List, [], ◌∷◌, ◌++◌, length, Option, Some, None, refl, arith}
use Rattle.std.specs.Prelude.{if◌then◌else◌}
use Rattle.std.specs.Option.{option_map_or}
use Rattle.std.proofs.lemmas.List.{length-append}
use Rattle.plc_base.specs.declared.address.Eui.{Eui}
use Rattle.plc_base.specs.declared.tags.PairTag.{PairTag}
use Rattle.plc_base.specs.Keeper.{Write}
use Rattle.store_tables.specs.Writes.{puts_of}
use Rattle.group_keys.specs.KeyRing as ring
use Rattle.group_keys.specs.KeyBook as book
use Rattle.group_keys.specs.declared.key_book.BookEntry.{BookEntry}
use Rattle.mesh_header.specs.declared.unit.Unit.{Unit as MeshUnit}
use Rattle.routing_set.specs.declared.rank.Rank.{Rank}
use Rattle.routing_set.specs.RoutingSet as routing
use Rattle.routing_set.specs.OwnNumber as own_number
use Rattle.joining_messages.specs.declared.message.JoinMessage.{JoinMessage}
use Rattle.node_rules.specs.Memory.{StationMemory, Load, Command, Memory, address_of, next_hop}
use Rattle.node_rules.specs.Drafts.{Draft, empty_draft, tag_write, with_rank, with_own_number, with_next_tag, with_ring, with_routing_by, goes, body_goes}
use Rattle.node_rules.specs.Drafts.{is_awaited, waits, seeks, seeks_once, sets_out, leave}
use Rattle.node_rules.specs.MemoryDrafts.{on_station, station_part, with_memory_by, with_pair_tags, goes_up, goes_down, is_commanded}
use Rattle.node_rules.specs.JoiningPackets.{command_of}
use Rattle.node_rules.specs.Calls.{idled}
use Rattle.node_rules.specs.Coordinators.{with_book_entry}

-- at most this many puts were made
abbrev pub AtMost : {M : Type 0} → ℕ → Draft M → Type 0
AtMost n d = length d.puts ≤ n

pub one_at_most : (w : Option Write) → length (puts_of w) ≤ 1
one_at_most None = omega arith
one_at_most (Some w) = omega arith

pub one_more_put : (n : ℕ) (puts : List Write) (w : Option Write) → length puts ≤ n → length (puts ++ puts_of w) ≤ suc n
one_more_put n puts w few = let joined = length-append puts (puts_of w) in let one = one_at_most w in omega arith

offered_at_most : (r : routing.Routing) (dest : ℕ) (rank : Rank) (next now : ℕ) → length (routing.offer_writes r dest rank next now) ≤ 2
unfolding routing.entry_writes
offered_at_most r dest rank next now =
    let due = puts_of (routing.floors_due r.floors (routing.forgotten r dest now)) in
    let rank_put = routing.rank_write r.entries (routing.forgotten r dest now) (routing.offered_entry dest rank next now) in
    let joined : length (due ++ rank_put ∷ []) ≡ length due + 1 = length-append due (rank_put ∷ []) in
    let one : length due ≤ 1 = one_at_most (routing.floors_due r.floors (routing.forgotten r dest now)) in
    omega arith

-- # The words of a station

pub begun_few : {M : Type 0} (n : ℕ) (m : M) → AtMost n (empty_draft m)
unfolding empty_draft
begun_few n m = omega arith

pub ranked_few : (l : StationMemory) (dest : ℕ) (rank : Rank) (by now : ℕ) → AtMost 2 (with_rank dest rank by now (empty_draft l))
unfolding empty_draft with_rank
ranked_few l dest rank by now = offered_at_most l.routing dest rank by now

pub numbered_few : (n : ℕ) (d : Draft StationMemory) → AtMost n d → AtMost (suc n) (with_own_number d)
unfolding with_own_number
numbered_few n d few = one_more_put n d.puts (own_number.advance_write d.memory.own_number) few

pub tagged_few : (n : ℕ) (d : Draft StationMemory) → AtMost n d → AtMost (suc n) (with_next_tag d)
unfolding with_next_tag
tagged_few n d few = one_more_put n d.puts (Some (tag_write d.memory.next_tag)) few

pub ringed_few : (n : ℕ) (r : ring.Ring) (d : Draft StationMemory) → AtMost n d → AtMost (suc n) (with_ring r d)
unfolding with_ring
ringed_few n r d few = one_more_put n d.puts (ring.ring_write r) few

pub leave_few : (n own dest hop : ℕ) (d : Draft StationMemory) → AtMost n d → AtMost n (leave own dest hop d)
unfolding leave
leave_few n own dest hop d few = few

pub goes_few : (n to : ℕ) (unit : MeshUnit) (note : ℕ) (d : Draft StationMemory) → AtMost n d → AtMost n (goes to unit note d)
unfolding goes
goes_few n to unit note d few = few

pub rerouted_few : (n : ℕ) (change : routing.Routing → routing.Routing) (d : Draft StationMemory) → AtMost n d → AtMost n (with_routing_by change d)
unfolding with_routing_by
rerouted_few n change d few = few

body_few : (n own hop to note : ℕ) (load : Load) (d : Draft StationMemory) → AtMost n d → AtMost (suc n) (body_goes own hop to note load d)
unfolding body_goes
body_few n own hop to note load d few = omega arith

waits_few : (n to note : ℕ) (load : Load) (now : ℕ) (d : Draft StationMemory) → AtMost n d → AtMost n (waits to note load now d)
unfolding waits
waits_few n to note load now d few = few

seeks_few : (n own dest : ℕ) (d : Draft StationMemory) → AtMost n d → AtMost (suc n) (seeks_once own dest d)
unfolding seeks_once
seeks_few n own dest d few = by_wait (is_awaited d.memory dest)
  where
    by_wait : (w : Bool) → AtMost (suc n) (if w then d else seeks own dest d)
    by_wait true = omega arith
    by_wait false = goes_few (suc n) _ _ _ _ (numbered_few n d few)

pub sets_out_few : (n own to note : ℕ) (load : Load) (now : ℕ) (d : Draft StationMemory) → AtMost n d → AtMost (suc n) (sets_out own to note load now d)
sets_out_few n own to note load now d few = by_hop (next_hop d.memory to) refl
  where
    by_hop : (hop : Option ℕ) → next_hop d.memory to ≡ hop → AtMost (suc n) (sets_out own to note load now d)
    by_hop None e = rw e (waits_few (suc n) to note load now _ (seeks_few n own to d few))
    by_hop (Some hop) e = rw e (body_few n own hop to note load d few)

-- # Doings

-- A doing that makes three puts at most, before that of the counter.
pub record Does {M : Type 0} (d : Draft M) : Type 0 where
  pub few : AtMost 3 d

-- The same before its own number and what goes out, after this many puts at most.
pub record Began {M : Type 0} (n : ℕ) (d : Draft M) : Type 0 where
  pub few : AtMost n d

pub looser : {M : Type 0} (d : Draft M) → AtMost 2 d → Does d
looser d two = record { few = omega arith }

module _ (l : StationMemory) where
  pub learns_does : (own origin : ℕ) (rank : Rank) (by now : ℕ) → Does (leave own origin by (with_rank origin rank by now (empty_draft l)))
  learns_does own origin rank by now =
      looser (leave own origin by (with_rank origin rank by now (empty_draft l)))
      (leave_few 2 own origin by (with_rank origin rank by now (empty_draft l)) (ranked_few l origin rank by now))

  pub sends_on_does : (own origin : ℕ) (rank : Rank) (by now to : ℕ) (unit : MeshUnit) (note : ℕ)
      → Does (goes to unit note (leave own origin by (with_rank origin rank by now (empty_draft l))))
  sends_on_does own origin rank by now to unit note =
      looser (goes to unit note (leave own origin by (with_rank origin rank by now (empty_draft l))))
      (goes_few 2 to unit note (leave own origin by (with_rank origin rank by now (empty_draft l)))
      (leave_few 2 own origin by (with_rank origin rank by now (empty_draft l)) (ranked_few l origin rank by now)))

  pub answers_does : (own origin : ℕ) (rank : Rank) (by now to : ℕ) (unit : MeshUnit) (note : ℕ)
      → Does (goes to unit note (leave own origin by (with_own_number (with_rank origin rank by now (empty_draft l)))))
  answers_does own origin rank by now to unit note =
      record { few = goes_few 3 to unit note _ (leave_few 3 own origin by _ (numbered_few 2 _ (ranked_few l origin rank by now))) }

  pub goes_does : (to : ℕ) (unit : MeshUnit) (note : ℕ) → Does (goes to unit note (empty_draft l))
  goes_does to unit note = record { few = goes_few 3 to unit note _ (begun_few 3 l) }

  pub error_does : (change : routing.Routing → routing.Routing) → Does (with_routing_by change (empty_draft l))
  error_does change = record { few = rerouted_few 3 change _ (begun_few 3 l) }

  pub error_on_does : (to : ℕ) (unit : MeshUnit) (note : ℕ) (change : routing.Routing → routing.Routing)
      → Does (goes to unit note (with_routing_by change (empty_draft l)))
  error_on_does to unit note change = record { few = goes_few 3 to unit note _ (rerouted_few 3 change _ (begun_few 3 l)) }

-- # Over all of the memory

pub begins : {n : ℕ} (m : Memory) → Began n (empty_draft m)
begins {n = n} m = record { few = begun_few n m }

pub rings : (r : ring.Ring) (d : Draft Memory) → Began 0 d → Began 1 (on_station (with_ring r) d)
unfolding on_station
rings r d f = record { few = ringed_few 0 r (station_part d) f.few }

pub idles : (d : Draft Memory) → Began 0 d → Began 1 (on_station (λ x. with_ring None (record x { memory = idled x.memory })) d)
unfolding on_station
idles d f = record { few = ringed_few 0 None (record (station_part d) { memory = idled d.memory.station }) f.few }

pub remembers : {n : ℕ} (change : Memory → Memory) (d : Draft Memory) → Began n d → Began n (with_memory_by change d)
unfolding with_memory_by
remembers change d f = record { few = f.few }

pub tags : {n : ℕ} (made opened : List PairTag) (d : Draft Memory) → Began n d → Began n (with_pair_tags made opened d)
unfolding with_pair_tags
tags made opened d f = record { few = f.few }

pub enters : (n : ℕ) (e : BookEntry) (d : Draft Memory) → Began n d → Began (suc n) (with_book_entry e d)
unfolding with_book_entry
enters n e d f = record { few = one_more_put n d.puts (book.change_write d.memory.book e) f.few }

pub enters_first : (e : BookEntry) (d : Draft Memory) → Began 0 d → Began 1 (with_book_entry e d)
enters_first e d f = enters 0 e d f

pub up_does : (agent : ℕ) (own : Eui) (message : JoinMessage) (d : Draft Memory) → Began 1 d → Does (goes_up agent own message d)
unfolding goes_up
up_does agent own message d f = let one : length d.puts ≤ 1 = f.few in record { few = omega arith }

pub down_does : (own : ℕ) (message : JoinMessage) (d : Draft Memory) → Began 1 d → Does (goes_down own message d)
unfolding goes_down
down_does own message d f = let one : length d.puts ≤ 1 = f.few in record { few = omega arith }

pub commands_does : (to : ℕ) (message : JoinMessage) (now : ℕ) (d : Draft Memory) → Began 1 d → Does (is_commanded to message now d)
unfolding is_commanded on_station
commands_does to message now d f = record { few = by_address (address_of d.memory.station) }
  where
    by_address : (own : Option ℕ) → AtMost 3 (option_map_or (λ own. on_station (sets_out own to 0 (Command (command_of message)) now) d) own d)
    by_address None = let one : length d.puts ≤ 1 = f.few in omega arith
    by_address (Some own) = let two = sets_out_few 1 own to 0 (Command (command_of message)) now (station_part d) f.few in omega arith

pub quiet_does : (d : Draft Memory) → Began 1 d → Does d
quiet_does d f = let one : length d.puts ≤ 1 = f.few in record { few = omega arith }

pub ends_does : (d : Draft Memory) → Began 2 d → Does d
ends_does d f = looser d f.few

pub ruleset station_does = (learns_does, sends_on_does, answers_does, goes_does, error_does, error_on_does)

pub ruleset memory_does = (up_does, down_does, commands_does, quiet_does, begins, rings, idles, remembers, tags, enters_first)
