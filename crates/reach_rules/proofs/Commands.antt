-- What the plans of further reach refuse, store and send.
use Rattle.std.proofs.Common.{◌≡◌, inl, inr, ℕ, ◌+◌, ◌<◌, ◌≤◌, Bool, true, false, List, [], ◌∷◌, ◌++◌, length, Option, Some, None, Result, Ok, Err, refl, ap}
use Rattle.std.proofs.Common.{arith, nat_eq}
use Rattle.std.specs.Prelude.{if◌then◌else◌, nat_lt, nat_le}
use Rattle.std.specs.Option.{option_map_or}
use Rattle.std.proofs.lemmas.Bool.{ne_eqb}
use Rattle.plc_base.specs.declared.key.Key.{Key}
use Rattle.plc_base.specs.Grant.{Granted}
use Rattle.store_tables.specs.SlotTables as slots
use Rattle.store_tables.specs.Writes.{puts_of}
use Rattle.mesh_header.specs.declared.unit.Unit.TheVariants.{Local}
use Rattle.frame_counters.specs.SendCounter as counter
use Rattle.group_keys.specs.KeyRing as ring
use Rattle.neighbour_checks.specs.Acks.{ack_in}
use Rattle.broadcast_log.specs.declared.broadcast.Broadcast.{Broadcast}
use Rattle.broadcast_log.specs.Grammar.{spelling}
use Rattle.broadcast_log.specs.Reader.{broadcast_in}
use Rattle.store_tables.specs.Numberings.{passes, limit_write, raised}
use Rattle.broadcast_log.specs.NextNumber.{Numbering, limit_at, number_put}
use Rattle.broadcast_log.specs.OriginMarks.{OriginMark, Marks, marks, place_of, mark_at, mark_ahead, keep_write, kept_after}
use Rattle.path_requests.specs.declared.message.PathMessage.{PathMessage}
use Rattle.path_requests.specs.declared.step.PathStep.{PathStep}
use Rattle.path_requests.specs.declared.step.PathStep.TheVariants.{Forward, Answer, Done}
use Rattle.path_requests.specs.declared.step.PathRefusal.{PathRefusal}
use Rattle.path_requests.specs.Reader.{path_in}
use Rattle.path_requests.specs.PathSteps.{taken}
use Rattle.node_rules.specs.declared.refusal.Dropped.TheVariants as drops
use Rattle.node_rules.specs.Frames.{to_all}
use Rattle.node_rules.specs.declared.refusal.LocalRefusal.{LocalRefusal}
use Rattle.node_rules.specs.Memory.{StationMemory, address_of, station_route}
use Rattle.node_rules.specs.Neighbours.{local_ends, local_draft}
use Rattle.node_rules.specs.Plans.{Plan, resting}
use Rattle.node_rules.specs.Drafts.{Draft, StationPlace, Ends, UnsealedUnit, alone, empty_draft, goes, sealed_units, sealed_by, sealing_key, sealing, refused}
use Rattle.node_rules.specs.Drafts.{sealed}
use Rattle.node_rules.specs.Drafts.{checked, choose}
use Rattle.node_rules.specs.Laws.{RefusesCleanly, WritesInTurn, turn_of}
use Rattle.node_rules.proofs.Words.{InTurn, InTurn-append, in_turn, counter_turn}
use Rattle.reach_rules.specs.declared.heard.CommandHeard.{CommandHeard}
use Rattle.reach_rules.specs.declared.heard.CommandHeard.TheVariants as heard
use Rattle.reach_rules.specs.declared.refusal.ReachDropped.{ReachDropped}
use Rattle.reach_rules.specs.declared.refusal.ReachDropped.TheVariants.{Known}
use Rattle.reach_rules.specs.declared.refusal.BroadcastRefusal.TheVariants as broadcasts
use Rattle.reach_rules.specs.declared.refusal.AskRefusal.TheVariants as asks
use Rattle.reach_rules.specs.ReachingNodes.{Beside, Reaching, Commanding, in_reach, reach_ends, drop_it, adds_local}
use Rattle.reach_rules.specs.CheckedReplies.{hear_acknowledgement, hear_acknowledgement_in}
use Rattle.reach_rules.specs.Broadcasts.{with_broadcast_mark, with_broadcast_number, broadcast_fault, hop_less, goes_further, admits_broadcast}
use Rattle.reach_rules.specs.Broadcasts.{hear_broadcast_in, hear_broadcast, Broadcasting, broadcast_ends, broadcast_from, broadcast}
use Rattle.reach_rules.specs.PathRequests.{follows_path, hear_path_in, hear_path, next_toward, Asking, ask_ends, asks_by, asks_from, ask_path}
use Rattle.reach_rules.specs.FurtherReceptions.{NeighbourCommand, hear_command_at, hear_command}
use Rattle.reach_rules.specs.Laws.{CommandsRefuseCleanly, CallsRefuseCleanly, CommandsWriteInTurn, CallsWriteInTurn, CommandsSendCommands, CallsSendCommands}
use Rattle.reach_rules.specs.Laws.{CommandsKeepTheRest, CallsKeepTheRest, AcknowledgementsAreCommands, KeepsTheRest, SendsACommand, AtMostACommand}
use Rattle.reach_rules.specs.Laws.{MarkedBeforeTheCounter, frames_on}
use Rattle.broadcast_log.specs.declared.log.TheConstants.{BROADCASTS_AHEAD}

-- # Turns

high_turn : (slot : ℕ) → 5 < slot → turn_of slot ≡ 1
high_turn slot above =
    let a : nat_eq slot 5 ≡ false = ne_eqb slot 5 (λ e. omega arith) in
    let b : nat_eq slot 4 ≡ false = ne_eqb slot 4 (λ e. omega arith) in
    let c : nat_eq slot 3 ≡ false = ne_eqb slot 3 (λ e. omega arith) in
    let d : nat_eq slot 2 ≡ false = ne_eqb slot 2 (λ e. omega arith) in
    rw (a, b, c, d) refl

entry_turn : (place : ℕ) (e : OriginMark) → InTurn 0 3 (slots.entry_write marks place e ∷ [])
entry_turn place e = let is = high_turn (0x0300 + place) (omega arith) in (omega arith, omega arith)

mark_turn : (table : Marks) (origin number : ℕ) → InTurn 0 3 (puts_of (keep_write table origin number))
mark_turn table origin number = by_place (place_of table origin)
  where
    by_test : (b : Bool) (place : ℕ) → InTurn 0 3 (puts_of (if b then None else Some (slots.entry_write marks place (mark_ahead origin number))))
    by_test true place = omega arith
    by_test false place = entry_turn place (mark_ahead origin number)

    by_place : (place : Option ℕ) → InTurn 0 3 (puts_of (option_map_or
        (λ place. if nat_le number (mark_at table place).stored then None else Some (slots.entry_write marks place (mark_ahead origin number))) place
        (Some (slots.entry_write marks (length table) (mark_ahead origin number)))))
    by_place None = entry_turn (length table) (mark_ahead origin number)
    by_place (Some place) = by_test (nat_le number (mark_at table place).stored) place

number_turn : (n : Numbering) → InTurn 0 3 (puts_of (number_put n))
number_turn n = by_limit (passes n 1)
  where
    by_limit : (b : Bool) → InTurn 0 3 (puts_of (if b then limit_write limit_at (raised limit_at BROADCASTS_AHEAD n.limit) else None))
    by_limit true = (omega arith, omega arith)
    by_limit false = omega arith

-- # Units and frames

-- nothing is said, or one command for the neighbours
data Says : List UnsealedUnit → Type 0 where
  Nothing : Says []
  Command : (to code : ℕ) (body : List ℕ) → 3 ≤ code → code ≤ 5 → Says (record { to = to; unit = Local code body; note = 0 } ∷ [])

sealed_units_say : (g : Granted) (key : Option Key) (first : ℕ) (units : List UnsealedUnit) → Says units
    → AtMostACommand (option_map_or (λ key. sealed_units g key first units) key [])
sealed_units_say g None first units s = tt
sealed_units_say g (Some key) first _ Nothing = tt
sealed_units_say g (Some key) first _ (Command to code body low high) = (refl, (low, high))

sealed_say : (r : ring.Ring) (first : ℕ) (units : List UnsealedUnit) → Says units → AtMostACommand (sealed_by r first units)
sealed_say None first units s = tt
sealed_say (Some g) first units s = sealed_units_say g (sealing_key g) first units s

-- # Drafts

-- What a draft of further reach is: writes in turn, at most one unit, no plain frame, and the memory and the scan as they were.
record IsReach {M : Type 0} (x : Reaching M) (d : Draft (Reaching M)) : Type 0 where
  turns : InTurn 0 3 d.puts
  units : Says d.units
  plain : d.plain ≡ []
  memory : d.memory.memory ≡ x.memory
  scan : d.memory.beside.scan ≡ x.beside.scan

module _ {M : Type 0} (x : Reaching M) where
  marked : (origin number : ℕ) → IsReach x (with_broadcast_mark origin number (empty_draft x))
  unfolding empty_draft with_broadcast_mark
  marked origin number = record { turns = mark_turn x.beside.log.marks origin number; units = Nothing; plain = refl; memory = refl; scan = refl }

  goes_on : (b : Broadcast) → IsReach x (goes_further b (with_broadcast_mark b.origin b.number (empty_draft x)))
  unfolding empty_draft with_broadcast_mark goes_further adds_local
  goes_on b = by_hops (nat_lt b.hops 2)
    where
      by_hops : (t : Bool) → IsReach x (if t then with_broadcast_mark b.origin b.number (empty_draft x)
          else adds_local to_all 4 (spelling (hop_less b)) (with_broadcast_mark b.origin b.number (empty_draft x)))
      by_hops true = marked b.origin b.number
      by_hops false = record {
        turns = mark_turn x.beside.log.marks b.origin b.number;
        units = Command to_all 4 _ (omega arith) (omega arith);
        plain = refl;
        memory = refl;
        scan = refl;
      }

  numbered : (octets : List ℕ) → IsReach x (adds_local to_all 4 octets (with_broadcast_number (empty_draft x)))
  unfolding empty_draft with_broadcast_number adds_local
  numbered octets = record {
    turns = number_turn x.beside.log.numbering;
    units = Command to_all 4 octets (omega arith) (omega arith);
    plain = refl;
    memory = refl;
    scan = refl;
  }

  local_shape : (to : ℕ) (octets : List ℕ) → IsReach x (adds_local to 5 octets (empty_draft x))
  unfolding empty_draft adds_local
  local_shape to octets = record { turns = omega arith; units = Command to 5 octets (omega arith) (omega arith); plain = refl; memory = refl; scan = refl }

-- # Plans

-- What a plan of further reach is: nothing changes, something beside the memory does, or a draft is carried to its end.
data Shape {M H E : Type 0} (h : StationPlace M) (ends : Ends E) (x : Reaching M) : Plan (Reaching M) (Result H E) → Type 0 where
  Rests : (answer : Result H E) → Shape h ends x (resting x answer (Err ends.store))
  Keeps : (b : Beside) (word : H) → b.scan ≡ x.beside.scan → Shape h ends x (resting (record x { beside = b }) (Ok word) (Err ends.store))
  Ended : (d : Draft (Reaching M)) (word : H) → IsReach x d → Shape h ends x (sealing (in_reach h) ends d word)

module _ {M H E : Type 0} (h : StationPlace M) (ends : Ends E) (x : Reaching M) where
  checked_shape : (fault : Option E) (p : Plan (Reaching M) (Result H E)) → Shape h ends x p → Shape h ends x (checked ends x fault p)
  unfolding checked
  checked_shape None p s = s
  checked_shape (Some reason) p s = Rests (Err reason)

  choose_shape : (test : Bool) (p q : Plan (Reaching M) (Result H E)) → Shape h ends x p → Shape h ends x q → Shape h ends x (choose test p q)
  unfolding choose
  choose_shape true p q s t = s
  choose_shape false p q s t = t

  sealed_when : (test : Bool) (d : Draft (Reaching M)) (word : H) → IsReach x d
      → Shape {H = H} h ends x (if test then refused ends x ends.spent else sealing (in_reach h) ends d word)
  sealed_when true d word r = Rests (Err ends.spent)
  sealed_when false d word r = Ended d word r

  sealed_shape : (d : Draft (Reaching M)) (word : H) → IsReach x d → Shape h ends x (sealed (in_reach h) ends x d word)
  unfolding sealed
  sealed_shape d word r = sealed_when _ d word r

  refuses_by : (p : Plan (Reaching M) (Result H E)) → Shape h ends x p → RefusesCleanly ends.store x p
  unfolding resting
  refuses_by p (Rests word) = (refl, λ reason e. record { puts = refl; memory = refl; frames = refl; made = refl; opened = refl })
  refuses_by p (Keeps b word same) = (refl, λ reason e. absurd (cc))
  refuses_by p (Ended d word r) = (refl, λ reason e. absurd (cc))

  in_turn_by : (p : Plan (Reaching M) (Result H E)) → Shape h ends x p → WritesInTurn p
  unfolding resting
  in_turn_by p (Rests word) = tt
  in_turn_by p (Keeps b word same) = tt
  in_turn_by p (Ended d word r) = in_turn 0 4 _ (InTurn-append 0 3 4 d.puts _ r.turns (counter_turn (h.station d.memory.memory).counter (length d.units)))

  says_by : (p : Plan (Reaching M) (Result H E)) → Shape h ends x p → SendsACommand p
  unfolding resting
  says_by p (Rests word) = tt
  says_by p (Keeps b word same) = tt
  says_by p (Ended d word r) = rw r.plain (sealed_say (h.station d.memory.memory).ring (h.station d.memory.memory).counter.next d.units r.units)

  keeps_by : (p : Plan (Reaching M) (Result H E)) → Shape h ends x p → KeepsTheRest h x p
  unfolding resting
  keeps_by p (Rests word) = record { memory = inl refl; scan = refl }
  keeps_by p (Keeps b word same) = record { memory = inl refl; scan = same }
  keeps_by p (Ended d word r) = record {
    memory = inr (
      counter.reserved (h.station d.memory.memory).counter (length d.units),
      ap (λ m. h.with_station (record (h.station m) { counter = counter.reserved (h.station d.memory.memory).counter (length d.units) }) m) r.memory,
    );
    scan = r.scan;
  }

module _ {M : Type 0} (h : StationPlace M) (x : Reaching M) where
  abbrev CommandShape : Commanding M → Type 0
  CommandShape p = Shape h reach_ends x p

  ack_in_shape : (from : ℕ) (ack : Option (ℕ × ℕ)) → CommandShape (hear_acknowledgement_in x from ack)
  ack_in_shape from None = Rests _
  ack_in_shape from (Some ack) = choose_shape _ _ _ _ _ _ (Keeps _ heard.Acked refl) (Rests _)

  ack_shape : (from : ℕ) (all : Bool) (body : List ℕ) → CommandShape (hear_acknowledgement x from all body)
  ack_shape from all body = choose_shape _ _ _ _ _ _ (Rests _) (ack_in_shape from (ack_in body))

  broadcast_in_shape : (own : ℕ) (b : Option Broadcast) → CommandShape (hear_broadcast_in h x own b)
  broadcast_in_shape own None = Rests _
  broadcast_in_shape own (Some b) = checked_shape _ _ _ _ _ (sealed_shape _ _ _ _ _ (goes_on x b))

  broadcast_shape : (own : ℕ) (all : Bool) (body : List ℕ) → CommandShape (hear_broadcast h x own all body)
  broadcast_shape own all body = choose_shape _ _ _ _ _ _ (broadcast_in_shape own (broadcast_in body)) (Rests _)

  follows_shape : (step : Result PathStep PathRefusal) → CommandShape (follows_path h x step)
  follows_shape (Err reason) = Rests _
  follows_shape (Ok (Forward to message)) = sealed_shape _ _ _ _ _ (local_shape x to _)
  follows_shape (Ok (Answer to message)) = sealed_shape _ _ _ _ _ (local_shape x to _)
  follows_shape (Ok (Done walk)) = Keeps x.beside (heard.Path walk) refl

  path_in_shape : (own from : ℕ) (message : Option PathMessage) → CommandShape (hear_path_in h x own from message)
  path_in_shape own from None = Rests _
  path_in_shape own from (Some message) = follows_shape (taken own from (next_toward (h.station x.memory) message) message)

  path_shape : (own from : ℕ) (all : Bool) (body : List ℕ) → CommandShape (hear_path h x own from all body)
  path_shape own from all body = choose_shape _ _ _ _ _ _ (Rests _) (path_in_shape own from (path_in body))

  at_shape : (own : ℕ) (c : NeighbourCommand) → CommandShape (hear_command_at h x own c)
  at_shape own c =
      choose_shape _ _ _ _ _ _ (ack_shape c.from c.to_all c.body)
      (choose_shape _ _ _ _ _ _ (broadcast_shape own c.to_all c.body)
      (choose_shape _ _ _ _ _ _ (path_shape own c.from c.to_all c.body) (Rests _)))

  command_shape : (c : NeighbourCommand) → CommandShape (hear_command h x c)
  command_shape c = by_address (address_of (h.station x.memory))
    where
      by_address : (own : Option ℕ) → CommandShape (option_map_or (λ own. hear_command_at h x own c) own (drop_it x (Known drops.BadUnit)))
      by_address None = Rests _
      by_address (Some own) = at_shape own c

  abbrev BroadcastShape : Broadcasting M → Type 0
  BroadcastShape p = Shape h broadcast_ends x p

  sends_shape : (datagram : List ℕ) → BroadcastShape (broadcast h x datagram)
  sends_shape datagram = by_address (address_of (h.station x.memory))
    where
      by_address : (own : Option ℕ) → BroadcastShape
          (option_map_or (λ own. broadcast_from h x own datagram) own (refused broadcast_ends x broadcasts.NotJoined))
      by_address None = Rests _
      by_address (Some own) = checked_shape _ _ _ _ _ (sealed_shape _ _ _ _ _ (numbered x _))

  abbrev AskShape : Asking M → Type 0
  AskShape p = Shape h ask_ends x p

  asks_by_shape : (own target : ℕ) (hop : Option ℕ) → AskShape (asks_by h x own target hop)
  asks_by_shape own target None = Rests _
  asks_by_shape own target (Some hop) = sealed_shape _ _ _ _ _ (local_shape x hop _)

  asks_shape : (target : ℕ) → AskShape (ask_path h x target)
  asks_shape target = by_address (address_of (h.station x.memory))
    where
      by_address : (own : Option ℕ) → AskShape (option_map_or (λ own. asks_from h x own target) own (refused ask_ends x asks.NotJoined))
      by_address None = Rests _
      by_address (Some own) = choose_shape _ _ _ _ _ _ (Rests _) (asks_by_shape own target (station_route (h.station x.memory) target))

pub commands_cleanly : {M : Type 0} → CommandsRefuseCleanly M
commands_cleanly h x c = refuses_by h reach_ends x _ (command_shape h x c)

pub commands_in_turn : {M : Type 0} → CommandsWriteInTurn M
commands_in_turn h x c = in_turn_by h reach_ends x _ (command_shape h x c)

pub commands_speak : {M : Type 0} → CommandsSendCommands M
commands_speak h x c = says_by h reach_ends x _ (command_shape h x c)

pub calls_cleanly : {M : Type 0} → CallsRefuseCleanly M
calls_cleanly h x = (
  λ datagram. refuses_by h broadcast_ends x _ (sends_shape h x datagram),
  λ target. refuses_by h ask_ends x _ (asks_shape h x target),
)

pub calls_in_turn : {M : Type 0} → CallsWriteInTurn M
calls_in_turn h x = (
  λ datagram. in_turn_by h broadcast_ends x _ (sends_shape h x datagram),
  λ target. in_turn_by h ask_ends x _ (asks_shape h x target),
)

pub calls_speak : {M : Type 0} → CallsSendCommands M
calls_speak h x = (
  λ datagram. says_by h broadcast_ends x _ (sends_shape h x datagram),
  λ target. says_by h ask_ends x _ (asks_shape h x target),
)

pub commands_keep : {M : Type 0} → CommandsKeepTheRest M
commands_keep h x c = keeps_by h reach_ends x _ (command_shape h x c)

pub calls_keep : {M : Type 0} → CallsKeepTheRest M
calls_keep h x = (
  λ datagram. keeps_by h broadcast_ends x _ (sends_shape h x datagram),
  λ target. keeps_by h ask_ends x _ (asks_shape h x target),
)

-- # Acknowledgements

module _ (l : StationMemory) (to : ℕ) (body : List ℕ) where
  abbrev ack_when : Bool → Plan StationMemory (Result (Unit {0}) LocalRefusal)
  ack_when few = if few then refused local_ends l local_ends.spent else sealing alone local_ends (local_draft l 3 (Some to) body) tt

  ack_says : (few : Bool) → SendsACommand (ack_when few)
  unfolding resting goes empty_draft
  ack_says true = tt
  ack_says false = sealed_say l.ring l.counter.next _ (Command to 3 body (omega arith) (omega arith))

  ack_in_turn : (few : Bool) → WritesInTurn (ack_when few)
  unfolding resting goes empty_draft
  ack_in_turn true = tt
  ack_in_turn false = in_turn 0 4 _ (InTurn-append 0 3 4 [] _ (omega arith) (counter_turn l.counter 1))

pub acknowledgements_speak : {M : Type 0} → AcknowledgementsAreCommands M
unfolding sealed
acknowledgements_speak h to number origin m = (ack_says (h.station m) to _ _, ack_in_turn (h.station m) to _ _)

-- # A broadcast that is handed up

-- What is stored of it, in order, and the marks that are left.
pub record IsAdmitted {M : Type 0} (h : StationPlace M) (x : Reaching M) (b : Broadcast) (p : Commanding M) : Type 0 where
  pub puts : p.puts ≡ puts_of (keep_write x.beside.log.marks b.origin b.number) ++ puts_of (counter.reserve_write (h.station x.memory).counter (frames_on b))
  pub marks : p.memory.beside.log.marks ≡ kept_after x.beside.log.marks b.origin b.number

module _ {M : Type 0} (h : StationPlace M) (x : Reaching M) (b : Broadcast) (got : CommandHeard) where
  abbrev marked_draft : Draft (Reaching M)
  marked_draft = with_broadcast_mark b.origin b.number (empty_draft x)

  abbrev draft_when : Bool → Draft (Reaching M)
  draft_when spent = if spent then marked_draft else adds_local to_all 4 (spelling (hop_less b)) marked_draft

  abbrev plan_when : (few spent : Bool) → CommandHeard → Commanding M
  plan_when few spent word = if few then refused reach_ends x reach_ends.spent else sealing (in_reach h) reach_ends (draft_when spent) word

  puts_when : (few spent : Bool) (word : CommandHeard) → (plan_when few spent word).answer ≡ Ok got
      → (plan_when few spent word).puts
      ≡ puts_of (keep_write x.beside.log.marks b.origin b.number) ++ puts_of (counter.reserve_write (h.station x.memory).counter (if spent then 0 else 1))
  unfolding resting empty_draft with_broadcast_mark adds_local
  puts_when true spent word e = absurd (cc)
  puts_when false true word e = refl
  puts_when false false word e = refl

  marks_when : (few spent : Bool) (word : CommandHeard) → (plan_when few spent word).answer ≡ Ok got
      → (plan_when few spent word).memory.beside.log.marks ≡ kept_after x.beside.log.marks b.origin b.number
  unfolding resting empty_draft with_broadcast_mark adds_local
  marks_when true spent word e = absurd (cc)
  marks_when false true word e = refl
  marks_when false false word e = refl

  admits : (admits_broadcast h x b).answer ≡ Ok got → IsAdmitted h x b (admits_broadcast h x b)
  unfolding sealed goes_further
  admits e = record { puts = puts_when _ (nat_lt b.hops 2) _ e; marks = marks_when _ (nat_lt b.hops 2) _ e }

  admits_by : (fault : Option ReachDropped) → (checked reach_ends x fault (admits_broadcast h x b)).answer ≡ Ok got
      → IsAdmitted h x b (checked reach_ends x fault (admits_broadcast h x b))
  unfolding checked resting
  admits_by None e = admits e
  admits_by (Some reason) e = absurd (cc)

pub admitted : {M : Type 0} (h : StationPlace M) (x : Reaching M) (own : ℕ) (b : Broadcast) (got : CommandHeard)
    → (hear_broadcast_in h x own (Some b)).answer ≡ Ok got → IsAdmitted h x b (hear_broadcast_in h x own (Some b))
admitted h x own b got e = admits_by h x b got (broadcast_fault own x.beside.log b) e

pub marked_first : {M : Type 0} → MarkedBeforeTheCounter M
marked_first h x own b got e = (admitted h x own b got e).puts
