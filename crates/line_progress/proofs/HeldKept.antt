-- Plans that keep all that a station holds.
use Rattle.std.proofs.Common.{◌≡◌, ℕ, Bool, true, false, List, [], ◌∷◌, ◌++◌, length, Option, Some, None, Result, refl, sym, ap, subst, ◌∙◌}
use Rattle.std.specs.Prelude.{if◌then◌else◌, nat_lt, nat_le}
use Rattle.std.specs.Option.{option_map_or}
use Rattle.std.proofs.lemmas.List.{append_assoc, append-nil}
use Rattle.plc_base.specs.declared.address.Eui.{Eui}
use Rattle.plc_base.specs.declared.key.Key.{Key}
use Rattle.plc_base.specs.declared.key.RandomOctets.{RandomOctets}
use Rattle.plc_base.specs.Grant.{Granted}
use Rattle.frame_counters.specs.SendCounter as counter
use Rattle.group_keys.specs.KeyBook as book
use Rattle.group_keys.specs.declared.key_book.BookEntry.{BookEntry}
use Rattle.joining_messages.specs.declared.message.JoinMessage.{JoinMessage}
use Rattle.eap_psk.specs.declared.server.Server.{Server}
use Rattle.node_rules.specs.Calls as calls
use Rattle.node_rules.specs.Coordinators as coordinator_rules
use Rattle.node_rules.specs.Coordinators.{orders}
use Rattle.node_rules.specs.Drafts.{Draft, Ends, StationPlace, alone, body_goes, checked, choose, counters_left, empty_draft, goes, is_awaited, refused, sealed}
use Rattle.node_rules.specs.Drafts.{sealing, seeks, seeks_once, sets_out, waits, with_next_tag, with_own_number, with_rank, with_ring}
use Rattle.node_rules.specs.JoiningPackets.{command_of, server_for}
use Rattle.node_rules.specs.Memory.{StationMemory, Memory, Load, Body, Datagram, Command, address_of, next_hop}
use Rattle.node_rules.specs.MemoryDrafts.{give_random, given_ends, goes_up, in_memory, is_commanded}
use Rattle.node_rules.specs.MemoryDrafts.{oldest, on_station, station_part, with_memory_by, with_station}
use Rattle.node_rules.specs.Meters as meters
use Rattle.node_rules.specs.NodeSteps.{changing}
use Rattle.node_rules.specs.Plans.{Plan, resting}
use Rattle.line_events.specs.declared.event.Answer.{Answer}
use Rattle.reach_rules.specs.ReachingNodes.{Reaching, adds_local, in_reach}
use Rattle.reach_rules.specs.Broadcasts.{broadcast, broadcast_ends, with_broadcast_number}
use Rattle.reach_rules.specs.Beacons as beacons
use Rattle.reach_rules.specs.PathRequests as asking
use Rattle.line_progress.specs.Held.{KeepsHeld}
use Rattle.line_progress.proofs.SendFates.{sets_some, sets_none, seeks_keeps}

-- # Stations

pub same_held : (l : StationMemory) → KeepsHeld l l
same_held l = record { more = []; waiting = sym (append-nil l.waiting); reassemblies = refl }

pub held_on : (l m n : StationMemory) → KeepsHeld l m → KeepsHeld m n → KeepsHeld l n
held_on l m n a b = record {
  more = a.more ++ b.more;
  waiting = b.waiting ∙ ap (λ ws. ws ++ b.more) a.waiting ∙ append_assoc l.waiting a.more b.more;
  reassemblies = b.reassemblies ∙ a.reassemblies;
}

-- what waits and what is gathered decide
pub held_as : (l m n : StationMemory) → n.waiting ≡ m.waiting → n.reassemblies ≡ m.reassemblies → KeepsHeld l m → KeepsHeld l n
held_as l m n waiting pieces k = record { more = k.more; waiting = waiting ∙ k.waiting; reassemblies = pieces ∙ k.reassemblies }

-- # Plans

-- a plan over a memory keeps all that the station there holds; and so does a draft
pub record PlanKeeps {M A : Type 0} (h : StationPlace M) (m : M) (p : Plan M A) : Type 0 where
  pub held : KeepsHeld (h.station m) (h.station p.memory)

pub record DraftKeeps {M : Type 0} (h : StationPlace M) (m : M) (d : Draft M) : Type 0 where
  pub held : KeepsHeld (h.station m) (h.station d.memory)

module _ {M H E : Type 0} (h : StationPlace M) (back : (l : StationMemory) (m : M) → h.station (h.with_station l m) ≡ l) (m : M) where
  refuses : (ends : Ends E) (reason : E) → PlanKeeps {A = Result H E} h m (refused ends m reason)
  unfolding resting
  refuses ends reason = record { held = same_held (h.station m) }

  seals : (ends : Ends E) (d : Draft M) (answer : H) → DraftKeeps h m d → PlanKeeps {A = Result H E} h m (sealing h ends d answer)
  seals ends d answer k =
      let s : StationMemory = record (h.station d.memory) { counter = counter.reserved (h.station d.memory).counter (length d.units) } in
      record {
        held =
            subst (λ n. KeepsHeld (h.station m) n) (sym (back s d.memory)) (held_as (h.station m) (h.station d.memory) s refl refl k.held);
      }

  by_spent : (ends : Ends E) (d : Draft M) (answer : H) → DraftKeeps h m d → (b : Bool)
      → PlanKeeps {A = Result H E} h m (if b then refused ends m ends.spent else sealing h ends d answer)
  by_spent ends d answer k true = refuses ends ends.spent
  by_spent ends d answer k false = seals ends d answer k

  pub ends_so : (ends : Ends E) (d : Draft M) (answer : H) → DraftKeeps h m d → PlanKeeps {A = Result H E} h m (sealed h ends m d answer)
  unfolding sealed
  ends_so ends d answer k = by_spent ends d answer k (nat_lt (counters_left (h.station m)) (length d.units))

  pub by_check : (ends : Ends E) (o : Option E) (p : Plan M (Result H E)) → PlanKeeps h m p → PlanKeeps h m (checked ends m o p)
  unfolding checked
  by_check ends None p k = k
  by_check ends (Some reason) p k = refuses ends reason

module _ {M A : Type 0} (h : StationPlace M) (m : M) where
  pub by_choice : (t : Bool) (p q : Plan M A) → PlanKeeps h m p → PlanKeeps h m q → PlanKeeps h m (choose t p q)
  unfolding choose
  by_choice true p q k o = k
  by_choice false p q k o = o

  pub by_option : {X : Type 0} (f : X → Plan M A) (x : Option X) (p : Plan M A) → ((y : X) → PlanKeeps h m (f y)) → PlanKeeps h m p
      → PlanKeeps h m (option_map_or f x p)
  by_option f None p k o = o
  by_option f (Some y) p k o = k y

-- # Words

pub begun_memory : (m : Memory) → DraftKeeps in_memory m (empty_draft m)
unfolding empty_draft
begun_memory m = record { held = same_held m.station }

module _ (own to note : ℕ) (load : Load) (now : ℕ) (d : Draft StationMemory) where
  sought_pieces : (b : Bool) → (if b then d else seeks own to d).memory.reassemblies ≡ d.memory.reassemblies
  unfolding goes with_own_number
  sought_pieces true = refl
  sought_pieces false = refl

  seeks_pieces : (seeks_once own to d).memory.reassemblies ≡ d.memory.reassemblies
  unfolding seeks_once
  seeks_pieces = sought_pieces (is_awaited d.memory to)

  waits_on : KeepsHeld d.memory (waits to note load now (seeks_once own to d)).memory
  unfolding waits
  waits_on = record {
    more = record { to = to; note = note; since = now; load = load } ∷ [];
    waiting = ap (λ (ws : List Body). ws ++ record { to = to; note = note; since = now; load = load } ∷ []) (seeks_keeps own to note load now d);
    reassemblies = seeks_pieces;
  }

  goes_on : (hop : ℕ) → KeepsHeld d.memory (body_goes own hop to note load d).memory
  unfolding body_goes
  goes_on hop = same_held d.memory

  pub sets_out_keeps : KeepsHeld d.memory (sets_out own to note load now d).memory
  sets_out_keeps = by_hop (next_hop d.memory to) refl
    where
      by_hop : (o : Option ℕ) → next_hop d.memory to ≡ o → KeepsHeld d.memory (sets_out own to note load now d).memory
      by_hop None e = subst (λ (p : Draft StationMemory). KeepsHeld d.memory p.memory) (sym (sets_none own to note load now d e)) waits_on
      by_hop (Some hop) e = subst (λ (p : Draft StationMemory). KeepsHeld d.memory p.memory) (sym (sets_some own to note load now d hop e)) (goes_on hop)

commands_keep : (to now : ℕ) (message : JoinMessage) (d : Draft Memory) → KeepsHeld d.memory.station (is_commanded to message now d).memory.station
unfolding is_commanded on_station
commands_keep to now message d = by_address (address_of d.memory.station)
  where
    by_address : (o : Option ℕ) → KeepsHeld d.memory.station
        (option_map_or (λ own. on_station (calls.commands own to (command_of message) now) d) o d).memory.station
    by_address None = same_held d.memory.station
    by_address (Some own) = sets_out_keeps own to 0 (Command (command_of message)) now (station_part d)

-- # Calls of a station

module _ (l : StationMemory) where
  seals_it : {H E : Type 0} (ends : Ends E) (d : Draft StationMemory) (answer : H) → KeepsHeld l d.memory
      → PlanKeeps {A = Result H E} alone l (sealing alone ends d answer)
  seals_it ends d answer k = seals alone (λ l m. refl) l ends d answer (record { held = k })

  by_size : (b : Bool) → KeepsHeld l (if b then empty_draft l else with_next_tag (empty_draft l)).memory
  unfolding with_next_tag empty_draft
  by_size true = same_held l
  by_size false = held_as l l _ refl refl (same_held l)

  send_from_keeps : (own to : ℕ) (datagram : List ℕ) (note now : ℕ) → PlanKeeps alone l (calls.send_from l own to datagram note now)
  send_from_keeps own to datagram note now =
      by_check alone (λ l m. refl) l calls.sending_ends (calls.send_fault l to datagram) _
      (ends_so alone (λ l m. refl) l calls.sending_ends _ (calls.how l to)
      (record {
        held = held_on l _ _ (by_size (nat_le (length datagram) 375))
            (sets_out_keeps own to note (Datagram datagram l.next_tag) now (calls.tag_taken datagram (empty_draft l)));
      }))

  pub send_keeps : (to : ℕ) (datagram : List ℕ) (note now : ℕ) → PlanKeeps alone l (calls.send l to datagram note now)
  send_keeps to datagram note now =
      by_option alone l (λ own. calls.send_from l own to datagram note now) (address_of l) _ (λ own. send_from_keeps own to datagram note now)
      (refuses alone (λ l m. refl) l calls.sending_ends _)

  pub counter_keeps : (value : ℕ) → PlanKeeps alone l (calls.preset_counter l value)
  unfolding resting
  counter_keeps value = record { held = held_as l l _ refl refl (same_held l) }

  pub number_keeps : (value : ℕ) → PlanKeeps alone l (calls.preset_number l value)
  unfolding resting
  number_keeps value = record { held = held_as l l _ refl refl (same_held l) }

  ranked : (to cost now : ℕ) → KeepsHeld l (with_rank to (calls.near_rank cost) to now (empty_draft l)).memory
  unfolding with_rank empty_draft
  ranked to cost now = held_as l l _ refl refl (same_held l)

  pub near_keeps : (to cost now : ℕ) → PlanKeeps alone l (calls.preset_near l to cost now)
  near_keeps to cost now =
      by_check alone (λ l m. refl) l calls.presetting_ends (calls.preset_fault l to cost now) _ (seals_it calls.presetting_ends _ _ (ranked to cost now))

  ringed : (granted : Granted) → KeepsHeld l (with_ring (Some granted) (empty_draft l)).memory
  unfolding with_ring empty_draft
  ringed granted = held_as l l _ refl refl (same_held l)

  pub install_keeps : (granted : Granted) → PlanKeeps alone l (calls.install l granted)
  install_keeps granted = seals_it calls.ringing_ends _ _ (ringed granted)

-- # Calls of a meter and of the coordinator

module _ (m : Memory) where
  pub refuses_it : {H E : Type 0} (ends : Ends E) (reason : E) → PlanKeeps {A = Result H E} in_memory m (refused ends m reason)
  refuses_it ends reason = refuses in_memory (λ l n. refl) m ends reason

  seals_so : {H E : Type 0} (ends : Ends E) (d : Draft Memory) (answer : H) → DraftKeeps in_memory m d
      → PlanKeeps {A = Result H E} in_memory m (sealing in_memory ends d answer)
  seals_so ends d answer k = seals in_memory (λ l n. refl) m ends d answer k

  pub ends_it : {H E : Type 0} (ends : Ends E) (d : Draft Memory) (answer : H) → DraftKeeps in_memory m d
      → PlanKeeps {A = Result H E} in_memory m (sealed in_memory ends m d answer)
  ends_it ends d answer k = ends_so in_memory (λ l n. refl) m ends d answer k

  pub if_right : {H E : Type 0} (ends : Ends E) (o : Option E) (p : Plan Memory (Result H E)) → PlanKeeps in_memory m p
      → PlanKeeps in_memory m (checked ends m o p)
  if_right ends o p k = by_check in_memory (λ l n. refl) m ends o p k

  pub changes_beside : (change : Memory → Memory) → (change m).station ≡ m.station → DraftKeeps in_memory m (with_memory_by change (empty_draft m))
  unfolding with_memory_by empty_draft
  changes_beside change same = record { held = subst (λ s. KeepsHeld m.station s) (sym same) (same_held m.station) }

  pub asked_up : (agent : ℕ) (own : Eui) (message : JoinMessage) (d : Draft Memory) → DraftKeeps in_memory m d
      → DraftKeeps in_memory m (goes_up agent own message d)
  unfolding goes_up
  asked_up agent own message d k = record { held = k.held }

  pub random_keeps : (value : RandomOctets) → PlanKeeps in_memory m (give_random m value)
  random_keeps value = by_choice in_memory m _ _ _ (refuses_it given_ends _) (seals_so given_ends _ _ (changes_beside _ refl))

  pub join_keeps : (x : meters.Identity) (agent now : ℕ) → PlanKeeps in_memory m (meters.join x m agent now)
  join_keeps x agent now =
      by_choice in_memory m _ _ _ (refuses_it meters.joining_ends _) (seals_so meters.joining_ends _ _ (asked_up agent _ _ _ (changes_beside _ refl)))

  pub broke_keeps : (word : Answer) (next : ℕ) → PlanKeeps in_memory m (changing word (with_station (calls.broke next m.station) m))
  unfolding resting
  broke_keeps word next = record { held = held_as m.station m.station _ refl refl (same_held m.station) }

  pub booked : (e : BookEntry) (d : Draft Memory) → DraftKeeps in_memory m d → DraftKeeps in_memory m (coordinator_rules.with_book_entry e d)
  unfolding coordinator_rules.with_book_entry
  booked e d k = record { held = k.held }

  pub beside_so : (change : Memory → Memory) (d : Draft Memory) → ((n : Memory) → (change n).station ≡ n.station) → DraftKeeps in_memory m d
      → DraftKeeps in_memory m (with_memory_by change d)
  unfolding with_memory_by
  beside_so change d same k = record { held = subst (λ s. KeepsHeld m.station s) (sym (same d.memory)) k.held }

  by_change : (e : BookEntry) (b : Bool) → DraftKeeps in_memory m (if b
      then with_memory_by (coordinator_rules.without_session e.eui) (coordinator_rules.with_book_entry e (empty_draft m)) else empty_draft m)
  by_change e true = beside_so (coordinator_rules.without_session e.eui) _ (λ n. refl) (booked e _ (begun_memory m))
  by_change e false = begun_memory m

  pub allow_keeps : (eui : Eui) (psk : Key) → PlanKeeps in_memory m (coordinator_rules.allow m eui psk)
  allow_keeps eui psk =
      let e : BookEntry = book.allowed_entry eui psk (book.entry_for m.book eui) in
      by_choice in_memory m _ _ _ (seals_so orders _ _ (by_change e (coordinator_rules.changes m e))) (refuses_it orders _)

  depot_by_keeps : (eui : Eui) (psk : Key) (d : Draft Memory) → DraftKeeps in_memory m d → PlanKeeps in_memory m (coordinator_rules.depot_by m eui psk d)
  depot_by_keeps eui psk d k =
      by_option in_memory m _ (coordinator_rules.grant_for d.memory eui) _
      (λ granted. by_option in_memory m _ (book.allowed_one d.memory.book eui) _ (λ e. seals_so orders _ _ (booked _ d k)) (refuses_it orders _))
      (refuses_it orders _)

  pub depot_keeps : (eui : Eui) (psk : Key) → PlanKeeps in_memory m (coordinator_rules.depot m eui psk)
  depot_keeps eui psk =
      let e : BookEntry = book.allowed_entry eui psk (book.entry_for m.book eui) in
      by_choice in_memory m _ _ _ (depot_by_keeps eui psk _ (by_change e (coordinator_rules.changes m e))) (refuses_it orders _)

  rings_so : (r : Option Granted) → DraftKeeps in_memory m (on_station (with_ring r) (empty_draft m))
  unfolding on_station with_ring empty_draft
  rings_so r = record { held = held_as m.station m.station _ refl refl (same_held m.station) }

  pub rekey_keeps : (index : ℕ) (key : Key) → PlanKeeps in_memory m (coordinator_rules.rekey m index key)
  rekey_keeps index key = by_choice in_memory m _ _ _ (refuses_it orders _) (seals_so orders _ _ (rings_so _))

  pub activate_self_keeps : (index : ℕ) → PlanKeeps in_memory m (coordinator_rules.activate_self m index)
  activate_self_keeps index = by_choice in_memory m _ _ _ (seals_so orders _ _ (rings_so _)) (refuses_it orders _)

  pub ordered : (to now : ℕ) (message : JoinMessage) (d : Draft Memory) → DraftKeeps in_memory m d → DraftKeeps in_memory m (is_commanded to message now d)
  ordered to now message d k = record { held = held_on m.station d.memory.station _ k.held (commands_keep to now message d) }

  challenge_by_keeps : (own : Eui) (to now : ℕ) (server : Server) → PlanKeeps in_memory m (coordinator_rules.challenge_by own m to now server)
  challenge_by_keeps own to now server = if_right orders _ _ (ends_it orders _ _ (ordered to now _ _ (changes_beside _ refl)))

  pub challenge_keeps : (own eui : Eui) (now : ℕ) → PlanKeeps in_memory m (coordinator_rules.challenge own m eui now)
  challenge_keeps own eui now =
      by_option in_memory m _ (coordinator_rules.allowed_address m eui) _
      (λ to. if_right orders _ _ (by_option in_memory m _ (oldest m) _ (λ value. challenge_by_keeps own to now (server_for eui own value))
      (refuses_it orders _))) (refuses_it orders _)

  pub activate_keeps : (eui : Eui) (index now : ℕ) → PlanKeeps in_memory m (coordinator_rules.activate m eui index now)
  activate_keeps eui index now =
      by_option in_memory m _ (coordinator_rules.allowed_entry m eui) _
      (λ e. by_option in_memory m _ (book.address_of m.book eui) _
      (λ to. by_choice in_memory m _ _ _ (if_right orders _ _ (ends_it orders _ _ (ordered to now _ _ (begun_memory m)))) (refuses_it orders _))
      (refuses_it orders _))
      (refuses_it orders _)

  kick_goes_keeps : (to : ℕ) (message : JoinMessage) (d : Draft Memory) → DraftKeeps in_memory m d → (b : Bool)
      → DraftKeeps in_memory m (if b then is_commanded to message 0 d else d)
  kick_goes_keeps to message d k true = ordered to 0 message d k
  kick_goes_keeps to message d k false = k

  pub kick_keeps : (eui : Eui) → PlanKeeps in_memory m (coordinator_rules.kick m eui)
  kick_keeps eui =
      by_option in_memory m _ (coordinator_rules.allowed_entry m eui) _
      (λ e. by_option in_memory m _ (book.address_of m.book eui) _
      (λ to. seals_so orders _ _ (kick_goes_keeps to _ _
      (beside_so (coordinator_rules.without_session e.eui) _ (λ n. refl) (booked _ _ (begun_memory m))) _)) (refuses_it orders _)) (refuses_it orders _)

-- # Calls of further reach

module _ (x : Reaching Memory) where
  abbrev pub there : StationPlace (Reaching Memory)
  there = in_reach in_memory

  pub stops : {H E : Type 0} (ends : Ends E) (reason : E) → PlanKeeps {A = Result H E} there x (refused ends x reason)
  stops ends reason = refuses there (λ l n. refl) x ends reason

  pub says : {H E : Type 0} (ends : Ends E) (d : Draft (Reaching Memory)) (answer : H) → DraftKeeps there x d
      → PlanKeeps {A = Result H E} there x (sealed there ends x d answer)
  says ends d answer k = ends_so there (λ l n. refl) x ends d answer k

  numbered : (to code : ℕ) (body : List ℕ) → DraftKeeps there x (adds_local to code body (with_broadcast_number (empty_draft x)))
  unfolding adds_local with_broadcast_number empty_draft
  numbered to code body = record { held = same_held x.memory.station }

  pub unnumbered : (to code : ℕ) (body : List ℕ) → DraftKeeps there x (adds_local to code body (empty_draft x))
  unfolding adds_local empty_draft
  unnumbered to code body = record { held = same_held x.memory.station }

  pub broadcast_keeps : (datagram : List ℕ) → PlanKeeps there x (broadcast in_memory x datagram)
  broadcast_keeps datagram =
      by_option there x _ (address_of x.memory.station) _
      (λ own. by_check there (λ l n. refl) x broadcast_ends _ _ (says broadcast_ends _ _ (numbered _ _ _))) (stops broadcast_ends _)

  asks_by_keeps : (own target : ℕ) (o : Option ℕ) → PlanKeeps there x (asking.asks_by in_memory x own target o)
  asks_by_keeps own target None = stops asking.ask_ends _
  asks_by_keeps own target (Some hop) = says asking.ask_ends _ _ (unnumbered _ _ _)

  pub asks_keep : (target : ℕ) → PlanKeeps there x (asking.ask_path in_memory x target)
  asks_keep target =
      by_option there x _ (address_of x.memory.station) _ (λ own. by_choice there x _ _ _ (stops asking.ask_ends _) (asks_by_keeps own target _))
      (stops asking.ask_ends _)

  joins_keep : (own : meters.Identity) (now : ℕ) (o : Option (ℕ × ℕ)) → PlanKeeps there x (beacons.joins_by own x now o)
  joins_keep own now None = stops beacons.choosing_ends _
  joins_keep own now (Some (address, total)) = record { held = (join_keeps x.memory own address now).held }

  pub chooses_keep : (own : meters.Identity) (k now : ℕ) → PlanKeeps there x (beacons.choose_agent own x k now)
  chooses_keep own k now = by_choice there x _ _ _ (stops beacons.choosing_ends _) (joins_keep own now _)
