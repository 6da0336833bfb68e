-- A meter that is allowed has the address of the report in the coordinator's book, and no other event has an admission.
use Rattle.std.proofs.Common.{◌≡◌, ◌⊎◌, inl, inr, ⊎_elim, ℕ, ◌+◌, Bool, true, false, not, List, [], ◌∷◌, ◌++◌, length, set, Option, Some, None}
use Rattle.std.proofs.Common.{Result, Ok, Err, refl, sym, ap, ◌∙◌, subst}
use Rattle.std.specs.Prelude.{IfSome, is_some, slice_get, ◌==◌, if◌then◌else◌}
use Rattle.std.specs.Option.{option_and_then, option_map, option_map_or}
use Rattle.std.proofs.lemmas.List.Elements.{All-head, All-tail}
use Rattle.std.proofs.lemmas.Option.{same_Some}
use Rattle.plc_base.specs.declared.address.Eui.{Eui}
use Rattle.plc_base.specs.declared.key.Key.{Key}
use Rattle.store_tables.proofs.LookUps.{entry_push, entry_set, place_push}
use Rattle.store_tables.proofs.SlotTables.{place_of-set, slice_get-set}
use Rattle.group_keys.specs.declared.key_book.BookEntry.{BookEntry}
use Rattle.group_keys.specs.KeyBook as books
use Rattle.group_keys.proofs.Books.{entry_same}
use Rattle.node_rules.specs.declared.refusal.CoordinatorRefusal.{CoordinatorRefusal}
use Rattle.node_rules.specs.declared.refusal.CoordinatorRefusal.TheVariants as orders
use Rattle.node_rules.specs.declared.refusal.Dropped.TheVariants as drops
use Rattle.node_rules.specs.declared.refusal.SendRefusal.TheVariants as sends
use Rattle.node_rules.specs.Calls as calls
use Rattle.node_rules.specs.Ciphers.{Ciphers}
use Rattle.node_rules.specs.Coordinators.{allow as allow_plan, changed, orders as order_ends, with_book_entry, without_session}
use Rattle.node_rules.specs.Drafts.{choose, empty_draft, refused, sealing}
use Rattle.node_rules.specs.Memory.{Memory, Role, Coordinator, Meter, Node}
use Rattle.node_rules.specs.MemoryDrafts.{in_memory, with_memory_by}
use Rattle.node_rules.specs.NodeSteps.{NodeStep, acts, answering, of_station}
use Rattle.node_rules.specs.Plans.{Plan, resting}
use Rattle.node_rules.specs.RestartStates.{memory_of}
use Rattle.reach_rules.specs.declared.heard.CommandHeard.{CommandHeard}
use Rattle.reach_rules.specs.declared.heard.CommandHeard.TheVariants as heard_of
use Rattle.reach_rules.specs.declared.heard.DiscoveryHeard.{DiscoveryHeard}
use Rattle.reach_rules.specs.declared.heard.DiscoveryHeard.TheVariants as discovered
use Rattle.reach_rules.specs.declared.refusal.DiscoveryDropped.{DiscoveryDropped}
use Rattle.reach_rules.specs.declared.refusal.ReachDropped.{ReachDropped}
use Rattle.reach_rules.specs.declared.refusal.ReachDropped.TheVariants as reach_drops
use Rattle.reach_rules.specs.declared.refusal.AskRefusal.TheVariants as ask_faults
use Rattle.reach_rules.specs.declared.refusal.BroadcastRefusal.TheVariants as broadcast_faults
use Rattle.reach_rules.specs.declared.refusal.ChooseRefusal.TheVariants as choices
use Rattle.reach_rules.specs.declared.refusal.ScanRefusal.{ScanRefusal}
use Rattle.reach_rules.specs.declared.refusal.ScanRefusal.TheVariants as scan_faults
use Rattle.reach_rules.specs.Beacons.{begin_scan, choose_agent, hear_discovery}
use Rattle.reach_rules.specs.Broadcasts.{broadcast}
use Rattle.reach_rules.specs.PathRequests.{ask_path}
use Rattle.reach_rules.specs.ReachingNodes.{Beside}
use Rattle.reach_rules.specs.FurtherReceptions.{hear_command}
use Rattle.line_events.specs.declared.event.Answer.{Answer}
use Rattle.line_events.specs.declared.event.Event.{Event}
use Rattle.line_events.specs.declared.event.Event.TheVariants as events
use Rattle.line_events.specs.declared.event.StepFault.TheVariants as faults
use Rattle.line_events.specs.Events.{AreEvents, IsEvent}
use Rattle.node_rules.specs.Accepted.{Accepted}
use Rattle.line_rules.specs.Answers.{Reception, command_word, discovery_word, drop_word, order_word, scan_word, sent_word}
use Rattle.line_rules.specs.Further.{adds_frames, asks_by, beside_at, chooses_by, discovers_by, line_step, reaches, scans_by, sends_nothing}
use Rattle.line_rules.specs.Further.{acknowledging}
use Rattle.line_rules.specs.Runs.{Entry, IsRun, events_of}
use Rattle.line_rules.specs.Steps.{Step, node_outcome, admission_by, allow, allowed, allowed_word, has_begun, identity, is_taken, note_by, on_node, psk_of}
use Rattle.line_rules.specs.Steps.{sent_if}
use Rattle.line_rules.specs.Steps.{tag_of, world_after}
use Rattle.line_rules.specs.Worlds.{World, Trace, node_at, start}
use Rattle.line_laws.specs.AdmittedRight.{AreAdmittedRight, EveryAdmissionIsRight, IsAdmission, IsAdmittedRight, is_admitted}
use Rattle.line_laws.proofs.FurtherEvents.{Finds, IsAnswered, IsChecked, IsCommand, IsFurtherStep, IsHeard, IsPlain, IsUnbelieved, Looks, Old, Picks, Puts}
use Rattle.line_laws.proofs.FurtherEvents.{Seeks, Spreads, Takes, TurnsOn, Unread, checks_so, further_step_is, outcome_of_command, hearing, taker}
use Rattle.line_laws.proofs.IssueNodes.{acts_whole}
use Rattle.line_laws.proofs.ReachWords.{Quiet, ask_quiet, breaks_quiet, broadcast_quiet, choice_quiet, drop_quiet, frame_quiet, hears_quiet, lost_quiet}
use Rattle.line_laws.proofs.ReachWords.{not_admitted, order_quiet, restart_quiet, sent_quiet, word_quiet}
use Rattle.line_laws.proofs.ShutBook.{allowed_eui}
use Rattle.line_laws.proofs.StepKinds as old
use Rattle.line_laws.proofs.TracesRight.{entry}
use Rattle.line_laws.proofs.Worlds.{within}

-- # The book

-- A meter is allowed in a book, and has this address.
record IsIn (b : books.Book) (eui : Eui) (address : ℕ) : Type 0 where
  at : books.address_of b eui ≡ Some address
  may : books.is_allowed b eui ≡ true

abbrev flag : Option BookEntry → Bool
flag o = option_map_or (λ (y : BookEntry). y.allowed) o false

abbrev is_same : BookEntry → Option BookEntry → Bool
is_same e o = option_map_or (λ (before : BookEntry). books.same_entry before e) o false

-- an entry that is written is found at its place
entered : (b : books.Book) (e : BookEntry) → e.allowed ≡ true → IsIn (books.with_entry b e) e.eui (books.place_for b e.eui + 1)
entered b e may = by_place (books.place_of b e.eui) refl
  where
    by_place : (o : Option ℕ) → books.place_of b e.eui ≡ o
        → IsIn (option_map_or (λ place. set b place e) o (b ++ e ∷ [])) e.eui (option_map_or (λ place. place) o (length b) + 1)
    by_place None none = record {
      at = ap (option_map (λ (place : ℕ). place + 1)) (place_push books.entries b e none);
      may = ap flag (entry_push books.entries b e none) ∙ may;
    }
    by_place (Some place) there = record {
      at = ap (option_map (λ (place : ℕ). place + 1)) (place_of-set books.entries b e place (books.eui_number e.eui) place there there);
      may = ap flag (entry_set books.entries b place e there) ∙ may;
    }

-- an entry that the book has leaves it as it is
held_same : (b : books.Book) (e : BookEntry) → books.holds b e ≡ true → books.with_entry b e ≡ b
held_same b e = by_place (books.place_of b e.eui) refl
  where
    by_entry : (place : ℕ) → books.place_of b e.eui ≡ Some place → (o : Option BookEntry) → slice_get b place ≡ o → is_same e o ≡ true
        → books.with_entry b e ≡ b
    by_entry place is None got h = absurd (cc (h))
    by_entry place is (Some before) got h = entry_same b e before place is got h

    by_place : (o : Option ℕ) → books.place_of b e.eui ≡ o → is_same e (option_and_then (slice_get b) o) ≡ true → books.with_entry b e ≡ b
    by_place None is h = absurd (cc (h))
    by_place (Some place) is h = by_entry place is (slice_get b place) refl h

changed_book : (m : Memory) (e : BookEntry) → (changed m e).memory.book ≡ books.with_entry m.book e
unfolding with_memory_by with_book_entry empty_draft
changed_book m e = by_held (books.holds m.book e) refl
  where
    by_held : (t : Bool) → books.holds m.book e ≡ t
        → (if not t then with_memory_by (without_session e.eui) (with_book_entry e (empty_draft m)) else empty_draft m).memory.book
        ≡ books.with_entry m.book e
    by_held true is = sym (held_same m.book e is)
    by_held false is = refl

-- # The coordinator's plan

module _ (m : Memory) (eui : Eui) (psk : Key) where
  abbrev e : BookEntry
  e = books.allowed_entry eui psk (books.entry_for m.book eui)

  is_allowed : (o : Option BookEntry) → (books.allowed_entry eui psk o).allowed ≡ true
  is_allowed None = refl
  is_allowed (Some before) = refl

  has_entry : IsIn (books.with_entry m.book e) eui (books.place_for m.book eui + 1)
  has_entry = subst (λ (u : Eui). IsIn (books.with_entry m.book e) u (books.place_for m.book u + 1))
      (allowed_eui eui psk (books.entry_for m.book eui)) (entered m.book e (is_allowed (books.entry_for m.book eui)))

  refused_not : (reason : CoordinatorRefusal) (address : ℕ) → (refused {H = ℕ} order_ends m reason).answer ≡ Ok address → ⊥
  unfolding resting
  refused_not reason address e = not_ok e
    where
      not_ok : Err reason ≡ Ok address → ⊥
      not_ok e = cc

  -- a failed write is answered so
  plan_failed : (allow_plan m eui psk).failed ≡ Err orders.Store
  unfolding choose resting
  plan_failed = by_room (books.has_room m.book eui)
    where
      by_room : (t : Bool) → (if t then sealing in_memory order_ends (changed m e) (books.place_for m.book eui + 1)
          else refused order_ends m orders.MetersFull).failed ≡ Err orders.Store
      by_room true = refl
      by_room false = refl

  plan_allows : (address : ℕ) → (allow_plan m eui psk).answer ≡ Ok address → IsIn (allow_plan m eui psk).memory.book eui address
  unfolding choose
  plan_allows address = by_room (books.has_room m.book eui)
    where
      by_room : (t : Bool) → let p : Plan Memory (Result ℕ CoordinatorRefusal) =
          (if t then sealing in_memory order_ends (changed m e) (books.place_for m.book eui + 1) else refused order_ends m orders.MetersFull) in
          p.answer ≡ Ok address → IsIn p.memory.book eui address
      by_room true is =
          let this : books.place_for m.book eui + 1 ≡ address = cc in
          subst (IsIn (changed m e).memory.book eui) this
          (subst (λ (b : books.Book). IsIn b eui (books.place_for m.book eui + 1)) (sym (changed_book m e)) has_entry)
      by_room false is = absurd (refused_not _ address is)

-- # An event that allows a meter

psk_is : (x : Node) (psk : Key) → psk_of x ≡ Some psk → x.role ≡ Meter psk
psk_is x psk = by_role x.role
  where
    by_role : (role : Role) → psk_of (record x { role = role }) ≡ Some psk → role ≡ Meter psk
    by_role Coordinator e = absurd (cc (e))
    by_role (Meter key) e = ap Meter (same_Some _ _ e)

module _ (ciphers : Ciphers) (w : World) (n : ℕ) where
  abbrev AdmittedIn : Event → Step → Type 0
  AdmittedIn event (Ok r) = IsAdmittedRight w (entry n event r)
  AdmittedIn event (Err fault) = Unit {0}

  allowed_right : (number : ℕ) (x c : Node) (psk : Key) → node_at w number ≡ Some x → node_at w 0 ≡ Some c → psk_of x ≡ Some psk
      → IsAdmittedRight w (entry n (events.Allow number) (allowed ciphers w number (acts c (Err orders.Halted) (λ m. allow_plan m x.eui psk))))
  unfolding world_after
  allowed_right number x c psk hx hc pair = record { answered = answered d.answer; right = right d.answer refl }
    where
      plan : Memory → Plan Memory (Result ℕ CoordinatorRefusal)
      plan m = allow_plan m x.eui psk

      d : NodeStep (Result ℕ CoordinatorRefusal)
      d = acts c (Err orders.Halted) plan

      y : Entry
      y = entry n (events.Allow number) (allowed ciphers w number d)

      answered : (r : Result ℕ CoordinatorRefusal) → is_some (admission_by number r) ≡ is_admitted (allowed_word r)
      answered (Ok address) = refl
      answered (Err reason) = sym (not_admitted (order_word reason) (order_quiet reason))

      here : node_at y.after 0 ≡ Some d.node
      here = slice_get-set w.nodes 0 d.node (within w.nodes 0 c hc)

      right : (r : Result ℕ CoordinatorRefusal) → d.answer ≡ r → IfSome (admission_by number r) (IsAdmission w y)
      right (Err reason) is = tt
      right (Ok address) is =
          let a = acts_whole c orders.Halted orders.Store plan (λ m. plan_failed m x.eui psk) address is in
          let b = plan_allows a.memory x.eui psk address a.is in
          record {
            event = refl;
            node = x;
            there = hx;
            psk = psk;
            meter = psk_is x psk pair;
            address = ap (option_and_then (λ (k : Node). option_and_then (λ (m : Memory). books.address_of m.book x.eui) k.memory)) here
                ∙ ap (option_and_then (λ (m : Memory). books.address_of m.book x.eui)) a.leaves ∙ b.at;
            allowed = ap (λ o. option_map_or (λ (k : Node). option_map_or (λ (m : Memory). books.is_allowed m.book x.eui) k.memory false) o false) here
                ∙ ap (λ o. option_map_or (λ (m : Memory). books.is_allowed m.book x.eui) o false) a.leaves ∙ b.may;
          }

  allow_right : (number : ℕ) → AdmittedIn (events.Allow number) (line_step ciphers w (events.Allow number))
  unfolding allow
  allow_right number = by_tests (has_begun w) (number == 0) (node_at w number) refl
    where
      In : Step → Type 0
      In s = AdmittedIn (events.Allow number) s

      by : Node → Node → Key → Step
      by x c psk = Ok (allowed ciphers w number (acts c (Err orders.Halted) (λ m. allow_plan m x.eui psk)))

      by_key : (x c : Node) → node_at w number ≡ Some x → node_at w 0 ≡ Some c → (o : Option Key) → psk_of x ≡ o
          → In (option_map_or (by x c) o (Err faults.Node))
      by_key x c hx hc None pair = tt
      by_key x c hx hc (Some psk) pair = allowed_right number x c psk hx hc pair

      by_coordinator : (x : Node) → node_at w number ≡ Some x → (o : Option Node) → node_at w 0 ≡ o
          → In (option_map_or (λ c. option_map_or (by x c) (psk_of x) (Err faults.Node)) o (Err faults.Node))
      by_coordinator x hx None hc = tt
      by_coordinator x hx (Some c) hc = by_key x c hx hc (psk_of x) refl

      by_node : (o : Option Node) → node_at w number ≡ o
          → In (option_map_or (λ x. on_node w 0 (λ c. option_map_or (by x c) (psk_of x) (Err faults.Node))) o (Err faults.Node))
      by_node None hx = tt
      by_node (Some x) hx = by_coordinator x hx (node_at w 0) refl

      by_tests : (s t : Bool) (o : Option Node) → node_at w number ≡ o
          → In (if s then (if t then Err faults.Node
          else option_map_or (λ x. on_node w 0 (λ c. option_map_or (by x c) (psk_of x) (Err faults.Node))) o (Err faults.Node)) else Err faults.Setup)
      by_tests false t o hx = tt
      by_tests true true o hx = tt
      by_tests true false o hx = by_node o hx

-- # Every other event

-- Nothing is said of an admission.
record NoneSaid (t : Trace) : Type 0 where
  grant : t.happenings.grant ≡ None
  answer : is_admitted t.happenings.answer ≡ false

none_said : (t : Trace) → t.happenings.grant ≡ None → Quiet t.happenings.answer → NoneSaid t
none_said t none quiet = record { grant = none; answer = not_admitted t.happenings.answer quiet }

abbrev NoneIn : Step → Type 0
NoneIn (Ok r) = NoneSaid r.1
NoneIn (Err fault) = Unit {0}

abbrev is_allow : Event → Bool
is_allow (events.Allow number) = true
is_allow _ = false

nothing_true : {A : Type 0} → true ≡ false → A
nothing_true e = absurd (cc (e))

sent_none : (w : World) (from to : ℕ) (datagram : List ℕ) (tag : ℕ) (t : Bool) (r : World × Trace) → NoneSaid r.1
    → NoneSaid (sent_if w from to datagram tag t r).1
sent_none w from to datagram tag true r h = record { grant = h.grant; answer = h.answer }
sent_none w from to datagram tag false r h = h

module _ (ciphers : Ciphers) (w : World) where
  old_none : (event : Event) (s : Step) → old.IsStep ciphers w event s → is_allow event ≡ false → NoneIn s
  old_none event s (old.Fails e fault) other = tt
  old_none event s (old.Makes e x is) other = none_said _ refl refl
  old_none event s (old.Rests e quiet) other = none_said _ refl refl
  old_none event s (old.Shows number x) other = none_said _ refl refl
  old_none event s (old.Acts e number x A halted plan reads there call word asked) other =
      none_said _ refl (word_quiet A reads e word (acts x halted plan).answer)
  old_none event s (old.BreaksLink number next x a there call) other = none_said _ refl (breaks_quiet x a)
  old_none event s (old.SendsFrom from to datagram x a there call target) other =
      let d : NodeStep Answer = answering sent_word (acts x (Err sends.Halted) (λ m. of_station m (calls.send m.station a datagram (w.sends + 1) w.clock))) in
      sent_none w from to datagram (tag_of x) (is_taken d.answer) (node_outcome ciphers w from d)
      (none_said _ refl
      (sent_quiet (acts x (Err sends.Halted) (λ m. of_station m (calls.send m.station a datagram (w.sends + 1) w.clock))).answer))
  old_none event s (old.AllowsMeter number y c psk there call meter) other = nothing_true other
  old_none event s (old.Sets e quiet number x plan there open_is is) other = none_said _ refl refl
  old_none event s (old.SetsTwo e quiet a b cost x y p q hx hy apart open_is first second fresh near) other = none_said _ refl refl
  old_none event s (old.Provides number x c psk g d ne open_is hx hc pair same is) other = none_said _ refl refl
  old_none event s (old.TurnsDown e number x octets reason d there says comes same is) other = none_said _ refl (frame_quiet reason)
  old_none event s (old.Hears e number x octets cost got there says comes low is) other =
      none_said _ refl (hears_quiet ciphers (taker ciphers x octets) got cost (note_by w octets got.path) w.clock)
  old_none event s (old.Loses number f there) other = none_said _ refl refl
  old_none event s (old.Ticks seconds) other = none_said _ refl refl
  old_none event s (old.Restarts number x there) other = none_said _ refl (restart_quiet (memory_of x.role x.store.records))
  old_none event s (old.Cuts number nth keeps_new x there) other = none_said _ refl refl

  command_none : (r : Result CommandHeard ReachDropped) → is_admitted (command_word r) ≡ false
  command_none (Ok heard_of.Acked) = refl
  command_none (Ok (heard_of.Broadcast origin count octets)) = refl
  command_none (Ok heard_of.Relayed) = refl
  command_none (Ok heard_of.Answered) = refl
  command_none (Ok (heard_of.Path walk)) = refl
  command_none (Err (reach_drops.Known reason)) = not_admitted (drop_word reason) (drop_quiet reason)
  command_none (Err reach_drops.Blacklisted) = refl
  command_none (Err reach_drops.NotAwaited) = refl
  command_none (Err reach_drops.Old) = refl
  command_none (Err reach_drops.OriginsFull) = refl
  command_none (Err reach_drops.Revisited) = refl
  command_none (Err reach_drops.PathLong) = refl

  discovery_none : (r : Result DiscoveryHeard DiscoveryDropped) → is_admitted (discovery_word r) ≡ false
  discovery_none (Ok discovered.Beacon) = refl
  discovery_none (Ok discovered.Beaconed) = refl
  discovery_none (Err reason) = not_admitted (discovery_word (Err reason)) (lost_quiet reason)

  scan_none : (r : Result (Unit {0}) ScanRefusal) → is_admitted (scan_word r) ≡ false
  scan_none (Ok u) = refl
  scan_none (Err scan_faults.Halted) = refl
  scan_none (Err scan_faults.AlreadyJoined) = refl

  -- # Octets that were accepted

  heard_none : (number : ℕ) (x : Node) (octets : List ℕ) (got : Accepted) (cost : ℕ) (r : World × Trace) → IsHeard ciphers w number x octets got cost r
      → NoneSaid r.1
  heard_none number x octets got cost r is = by_kind r is
    where
      d : NodeStep Reception
      d = hearing ciphers w x octets got cost

      quiet : Quiet d.answer.answer
      quiet = hears_quiet ciphers (taker ciphers x octets) got cost (note_by w octets got.path) w.clock

      by_kind : (q : World × Trace) → IsHeard ciphers w number x octets got cost q → NoneSaid q.1
      by_kind q IsUnbelieved = record { grant = refl; answer = refl }
      by_kind q IsPlain = none_said _ refl quiet
      by_kind q (IsCommand c e) =
          let b : Beside = beside_at (outcome_of_command ciphers w number x octets got cost).0 number in
          let halted : Result CommandHeard ReachDropped = Err (reach_drops.Known drops.Store) in
          record { grant = refl; answer = command_none (reaches d.node b halted (λ y. hear_command in_memory y c)).answer }
      by_kind q IsChecked = none_said _ refl quiet
      by_kind q (IsAnswered reply e) = by_memory (is_some (acknowledging d.node reply).node.memory)
        where
          by_memory : (t : Bool) → let k = acknowledging d.node reply in let r : World × Trace = checks_so ciphers w number x octets got cost in
              NoneSaid (if t then adds_frames (world_after ciphers r.0 number k) r.1 k else sends_nothing w (world_after ciphers r.0 number k, r.1)).1
          by_memory true = none_said _ refl quiet
          by_memory false = none_said _ refl refl

  -- # All kinds

  asks_none : (number : ℕ) (x : Node) (o : Option ℕ) → NoneSaid (asks_by ciphers w number x o).1
  asks_none number x None = none_said _ refl refl
  asks_none number x (Some target) =
      none_said _ refl (ask_quiet (reaches x (beside_at w number) (Err ask_faults.Halted) (λ z. ask_path in_memory z target)).answer)

  scans_none : (number : ℕ) (o : Option Memory) → NoneSaid (scans_by w number o).1
  scans_none number None = none_said _ refl refl
  scans_none number (Some m) = record { grant = refl; answer = scan_none (begin_scan m (beside_at w number).scan).answer }

  chooses_none : (number : ℕ) (x : Node) (k : ℕ) (o : Option Key) → NoneSaid (chooses_by ciphers w number x k o).1
  chooses_none number x k None = none_said _ refl refl
  chooses_none number x k (Some psk) = none_said _ refl
      (choice_quiet (reaches x (beside_at w number) (Err choices.Halted) (λ z. choose_agent (identity ciphers x psk) z k w.clock)).answer)

  discovers_none : (number : ℕ) (x : Node) (octets : List ℕ) (link : ℕ) (o : Option Memory) → NoneSaid (discovers_by w number x octets link o).1
  discovers_none number x octets link None = none_said _ refl refl
  discovers_none number x octets link (Some m) =
      record { grant = refl; answer = discovery_none (hear_discovery x.role m.station (beside_at w number).scan octets link).answer }

  others_none : (event : Event) (s : Step) → IsFurtherStep ciphers w event s → is_allow event ≡ false → NoneIn s
  others_none event s (Old e t is) other = old_none e t is other
  others_none event s (TurnsOn begun) other = none_said _ refl refl
  others_none event s (Spreads number x datagram there) other = none_said _ refl
      (broadcast_quiet (reaches x (beside_at w number) (Err broadcast_faults.Halted) (λ y. broadcast in_memory y datagram)).answer)
  others_none event s (Seeks number to x target there) other = asks_none number x target
  others_none event s (Looks number x there) other = scans_none number x.memory
  others_none event s (Picks number k x psk ne there e) other = chooses_none number x k psk
  others_none event s (Finds e number x octets link there says comes is) other = discovers_none number x octets link x.memory
  others_none event s (Takes e number x octets cost got t there says comes low is how) other = heard_none number x octets got cost t how
  others_none event s (Puts e r bs quiet is) other = old_none e (Ok r) is other
  others_none event s (Unread number x bad there e) other = none_said _ refl refl

-- # Runs

allow_or_not : (event : Event) → ((number : ℕ) × (event ≡ events.Allow number)) ⊎ (is_allow event ≡ false)
allow_or_not (events.Allow number) = inl (number, refl)
allow_or_not _ = inr refl

module _ (ciphers : Ciphers) where
  one_right : (w : World) (x : Entry) → IsEvent x.event → line_step ciphers w x.event ≡ Ok (x.after, x.trace) → IsAdmittedRight w x
  one_right w x says is = ⊎_elim
      (λ (s : (number : ℕ) × (x.event ≡ events.Allow number)). subst (AdmittedIn ciphers w x.number x.event) is
      (subst (λ (k : Event). AdmittedIn ciphers w x.number k (line_step ciphers w k)) (sym s.1) (allow_right ciphers w x.number s.0)))
      (λ (other : is_allow x.event ≡ false). silent (subst NoneIn is (others_none ciphers w x.event _ (further_step_is ciphers w x.event says) other)))
      (allow_or_not x.event)
    where
      silent : NoneSaid x.trace → IsAdmittedRight w x
      silent h = record {
        answered = ap is_some h.grant ∙ sym h.answer;
        right = subst (λ o. IfSome o (IsAdmission w x)) (sym h.grant) tt;
      }

  right_from : (w : World) (entries : List Entry) → AreEvents (events_of entries) → IsRun ciphers w entries → AreAdmittedRight w entries
  right_from w [] says run = tt
  right_from w (x ∷ xs) says run = (
    one_right w x (All-head IsEvent x.event (events_of xs) says) run.2,
    right_from x.after xs (All-tail IsEvent x.event (events_of xs) says) run.3,
  )

pub every_admission : EveryAdmissionIsRight
every_admission ciphers entries r = right_from ciphers start entries r.events r.run
