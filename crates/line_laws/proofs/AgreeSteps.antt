-- Every event keeps that each fourth packet's tag is of a taking, unless it is forged.
use Rattle.std.proofs.Common.{◌≡◌, ◌≢◌, ⊎_elim, ℕ, zero, suc, ◌+◌, ◌≤◌, ◌<◌, Bool, true, false, not, List, [], ◌∷◌, ◌++◌, length, map, Option, Some, None}
use Rattle.std.proofs.Common.{Result, Ok, Err, refl, sym, ap, ◌∙◌, subst, arith}
use Rattle.std.specs.Prelude.{if◌then◌else◌, All, IfSome, is_some, ◌==◌, ◌||◌, nat_lt, slice_get, slice_set, get_or}
use Rattle.std.specs.List.{list_any}
use Rattle.std.specs.Option.{option_map, option_map_or}
use Rattle.std.proofs.lemmas.Bool.{cases_eq, eqb-false, eqb-true, or_parts}
use Rattle.std.proofs.lemmas.Option.{same_Some}
use Rattle.store_tables.proofs.SlotTables.{slice_get-set, slice_get-set_other, slice_get-map, slice_get-push_other}
use Rattle.plc_base.specs.declared.address.Eui.{Eui}
use Rattle.plc_base.specs.declared.key.Key.{Key}
use Rattle.plc_base.specs.declared.key.RandomOctets.{RandomOctets}
use Rattle.plc_base.specs.Grant.{Granted}
use Rattle.group_keys.specs.KeyBook as book
use Rattle.line_events.specs.declared.event.Event.{Event}
use Rattle.line_events.specs.declared.event.Event.TheVariants as events
use Rattle.line_events.specs.declared.event.Answer.{Answer}
use Rattle.line_events.specs.declared.event.StepFault.{StepFault}
use Rattle.line_events.specs.declared.event.StepFault.TheVariants as faults
use Rattle.node_rules.specs.Accepted.{Accepted}
use Rattle.node_rules.specs.declared.refusal.CoordinatorRefusal.{CoordinatorRefusal}
use Rattle.node_rules.specs.declared.refusal.CoordinatorRefusal.TheVariants as orders
use Rattle.node_rules.specs.declared.refusal.Dropped.TheVariants as drops
use Rattle.node_rules.specs.declared.refusal.FrameRefusal.{FrameRefusal}
use Rattle.node_rules.specs.declared.refusal.FrameRefusal.TheVariants as frames
use Rattle.line_events.specs.declared.event.Answer.TheVariants as answers
use Rattle.node_rules.specs.declared.refusal.RandomFault.TheVariants as randoms
use Rattle.node_rules.specs.declared.refusal.JoinRefusal.TheVariants as joins
use Rattle.node_rules.specs.declared.refusal.LeaveRefusal.TheVariants as leaves
use Rattle.node_rules.specs.declared.refusal.SendRefusal.TheVariants as sends
use Rattle.node_rules.specs.Ciphers.{Ciphers}
use Rattle.node_rules.specs.Frames.{arrived}
use Rattle.node_rules.specs.Memory.{StationMemory, Memory, Role, Coordinator, Meter, Node, node_address}
use Rattle.node_rules.specs.Plans.{Plan, resting}
use Rattle.node_rules.specs.Acceptance.{accept}
use Rattle.node_rules.specs.Calls as calls
use Rattle.node_rules.specs.Meters as meters
use Rattle.node_rules.specs.Coordinators as coordinator_rules
use Rattle.line_rules.specs.Answers.{Reception, meter_reception, coordinator_reception, random_word, join_word, leave_word, sent_word, ordered_word, frame_word}
use Rattle.line_events.specs.Events.{IsEvent}
use Rattle.line_rules.specs.Worlds.{World, Trace, node_at, flight_at, is_forged_tag}
use Rattle.line_rules.specs.Steps.{Step, set_up, running_world, world_after, node_outcome, once_begun, in_setup, has_begun, takes_setup, on_node, on_meter}
use Rattle.line_rules.specs.Steps.{made_node}
use Rattle.line_rules.specs.Steps.{blank_node}
use Rattle.line_rules.specs.Steps.{identity, hearing_step, restarts, ticked, rand, join, joins_by, leave, send, sends_by, sent_if, breaks, breaks_by, lose}
use Rattle.line_rules.specs.Steps.{tick}
use Rattle.line_rules.specs.Steps.{restart, cut, show, psk_of, trace_of, happenings, coordinator, coordinator_node, meter, is_known, depot, depot_by}
use Rattle.line_rules.specs.Steps.{provisioned}
use Rattle.line_rules.specs.Steps.{near, near_by, keeps_rank, ranks_full, offered_near, preset, allow, allowed, deliver, inject, arrives, accepted_by, received}
use Rattle.line_rules.specs.Steps.{by_coordinator, forged_by, note_by, rekey, challenge, activate, kick, step}
use Rattle.node_rules.specs.NodeSteps.{NodeStep, acts, stays, answering, of_station}
use Rattle.plc_base.specs.declared.tags.PairTag.{PairTag}
use Rattle.std.proofs.Common.{append-nil}
use Rattle.node_rules.specs.declared.heard.Heard.{Heard}
use Rattle.node_rules.specs.declared.heard.Heard.TheVariants as station_heard
use Rattle.node_rules.specs.declared.heard.MeterHeard.{MeterHeard}
use Rattle.node_rules.specs.declared.heard.MeterHeard.TheVariants as meter_heard
use Rattle.node_rules.specs.declared.heard.CoordinatorHeard.{CoordinatorHeard}
use Rattle.node_rules.specs.declared.heard.CoordinatorHeard.TheVariants as coordinator_heard
use Rattle.node_rules.specs.declared.refusal.Dropped.{Dropped}
use Rattle.line_rules.specs.Answers.{station_reception, SentGrant, CompletedJoining}
use Rattle.line_rules.specs.Worlds.{Issued}
use Rattle.node_rules.specs.HearingRules.{dropped}
use Rattle.line_laws.specs.Stores.{IsKept}
use Rattle.line_laws.specs.Sizes.{IsMemorySized}
use Rattle.line_laws.specs.Owed.{AreOctets, KeepsRanges}
use Rattle.joining_messages.proofs.JoinRanges.{read_fits}
use Rattle.line_laws.proofs.KeptMemory.{Left}
use Rattle.line_laws.proofs.Answered.{acts_answered}
use Rattle.line_laws.proofs.StoreMarks.{accept_is}
use Rattle.line_laws.proofs.Nodes.{NodeOk, ring_readable, pair_octets}
use Rattle.line_laws.proofs.NodeCalls.{RoutesFit, heard_given}
use Rattle.line_laws.proofs.CoordinatorCalls.{accept_ok, accept_failed, accepted_routes}
use Rattle.line_laws.proofs.Nodes.{DidOk, acts_ok}
use Rattle.line_laws.proofs.Worlds.{FlightFits, WorldOk, at_place}
use Rattle.line_laws.proofs.IssueWords.{Among, Each}
use Rattle.line_laws.proofs.IssueMeters.{PeerIs, took_in, meter_plan, meter_hears}
use Rattle.line_laws.proofs.IssueCoordinator.{done_in}
use Rattle.line_laws.proofs.IssueNodes.{all_made, installs_rest}
use Rattle.line_laws.proofs.IssueCalls.{send_quietly, near_quietly, broke_quietly, random_quietly, accept_quietly}
use Rattle.line_laws.proofs.IssueWorlds.{Keyed}
use Rattle.node_rules.specs.Acceptance.{same_eui}
use Rattle.line_rules.specs.Worlds.{Pairing}
use Rattle.line_rules.specs.Runs.{one_of}
use Rattle.line_rules.specs.Answers.{CompletedJoining}
use Rattle.line_rules.specs.Steps.{number_of, done_by, tag_of, is_taken}
use Rattle.store_tables.proofs.SlotTables.{slice_get-push_other}
use Rattle.line_laws.proofs.IssueNodes.{installs_rest}
use Rattle.node_rules.specs.Laws.{IsWhole, IsCutOff}
use Rattle.node_rules.specs.Plans.{carry_out}
use Rattle.node_rules.specs.NodeSteps.{left_by}
use Rattle.node_rules.proofs.FailedWrites.{clean}
use Rattle.eap_psk.specs.declared.server.Agreed.{Agreed}
use Rattle.plc_base.specs.declared.tags.PairTag.TheVariants as tags
use Rattle.line_laws.proofs.Worlds.{within as place_within}
use Rattle.line_laws.proofs.IssueNodes.{AllMade}
use Rattle.line_laws.proofs.IssueWords.{Here, among_left, among_right, each_append, each_weaker}
use Rattle.line_laws.proofs.IssueMeters.{MeterTag, Second, Fourth, joins_made, leaves_made}
use Rattle.line_laws.proofs.IssueCoordinator.{CoordinatorTag, ServerMac, Third, IsDoneBy}
use Rattle.line_laws.proofs.Untagged.{allow_untagged, depot_untagged, rekey_untagged, activate_self_untagged, challenge_untagged, activate_untagged}
use Rattle.line_laws.proofs.Untagged.{kick_untagged}
use Rattle.line_laws.proofs.IssueSteps.{took_same, keyed_same, or_false, flight_octets, quiet_meter_did}
use Rattle.line_laws.proofs.IssueSetup.{address_low, other_there}
use Rattle.std.specs.List.{position_or_len}
use Rattle.std.specs.Prelude.{position}
use Rattle.std.proofs.lemmas.List.Quantifiers.{position-Some}
use Rattle.std.proofs.lemmas.Option.{slice_get-get_or}
use Rattle.std.proofs.lemmas.Bool.{eq-eqb, lt-ltb}
use Rattle.std.proofs.Common.{cond}
use Rattle.line_laws.proofs.Planned.{planned_failed}
use Rattle.line_laws.proofs.IssueCoordinator.{coordinator_hears, says_tags, CoordinatorTags}
use Rattle.line_laws.proofs.AgreeTags.{TagTaken, done_taken}
pub use Rattle.line_laws.specs.Agreed.{Confirmed}

-- every node stands where it stood, with its EUI
pub record Stands (nodes : List Node) (n : ℕ) (x : Node) : Type 0 where
  pub node : Node
  pub is : slice_get nodes n ≡ Some node
  pub eui : node.eui ≡ x.eui

abbrev pub Lasts : List Node → List Node → Type 0
Lasts nodes later = (n : ℕ) (x : Node) → slice_get nodes n ≡ Some x → Stands later n x

tag_on : (nodes later : List Node) (taken more : List Pairing) → Lasts nodes later → (t : PairTag) → TagTaken nodes taken t → TagTaken later (taken ++ more) t
tag_on nodes later taken more on (tags.MacP eui octets) h = tt
tag_on nodes later taken more on (tags.MacS eui octets) h = tt
tag_on nodes later taken more on (tags.Channel eui rand_p nonce header text) h = λ e.
    let x = h e in
    let y = on x.number x.node x.there in
    record {
      number = x.number;
      node = y.node;
      there = y.is;
      names = ap book.eui_number y.eui ∙ x.names;
      agreed = x.agreed;
      chosen = x.chosen;
      identifier = x.identifier;
      head = x.head;
      among = among_left _ taken more x.among;
    }

pub confirmed_on : (w v : World) (taken : List Pairing) → Confirmed w taken → Lasts w.nodes v.nodes → v.made ≡ w.made → Confirmed v taken
confirmed_on w v taken c on e = subst (Each (TagTaken v.nodes taken)) (sym e)
    (subst (λ l. Each (TagTaken v.nodes l) w.made) (append-nil taken)
    (each_weaker (TagTaken w.nodes taken) (TagTaken v.nodes (taken ++ [])) (tag_on w.nodes v.nodes taken [] on) w.made c))

set_lasts : (nodes : List Node) (number : ℕ) (x y : Node) → slice_get nodes number ≡ Some x → y.eui ≡ x.eui → Lasts nodes (slice_set nodes number y)
set_lasts nodes number x y there eui n z is = ⊎_elim
    (λ (e : n ≡ number).
    let same : x ≡ z = same_Some _ _ (sym there ∙ ap (slice_get nodes) (sym e) ∙ is) in
    record {
      node = y;
      is = ap (slice_get (slice_set nodes number y)) e ∙ slice_get-set nodes number y (place_within nodes number x there);
      eui = eui ∙ ap (λ (u : Node). u.eui) same;
    })
    (λ (e : n ≢ number). record { node = z; is = slice_get-set_other nodes number n y e ∙ is; eui = refl })
    (cases_eq n number)

module _ {A : Type 0} (ciphers : Ciphers) (w : World) (number : ℕ) (x : Node) (d : NodeStep A) (there : node_at w number ≡ Some x)
    (eui : d.node.eui ≡ x.eui) where
  pub after_confirmed : (taken more : List Pairing) → Confirmed w taken → Each (TagTaken (slice_set w.nodes number d.node) (taken ++ more)) d.made
      → Confirmed (world_after ciphers w number d) (taken ++ more)
  unfolding world_after
  after_confirmed taken more c new = each_append (TagTaken (slice_set w.nodes number d.node) (taken ++ more)) w.made d.made
      (each_weaker (TagTaken w.nodes taken) (TagTaken (slice_set w.nodes number d.node) (taken ++ more))
      (tag_on w.nodes (slice_set w.nodes number d.node) taken more (set_lasts w.nodes number x d.node there eui)) w.made c) new

  pub after_nothing : (taken : List Pairing) → Confirmed w taken → d.made ≡ [] → Confirmed (world_after ciphers w number d) taken
  after_nothing taken c none = subst (Confirmed (world_after ciphers w number d)) (append-nil taken) (after_confirmed taken [] c (subst (Each _) (sym none) tt))

-- a node that carries out a plan keeps its EUI, and makes what the plan makes or nothing
pub acts_eui : {A : Type 0} (x : Node) (halted : A) (plan : Memory → Plan Memory A) → (acts x halted plan).node.eui ≡ x.eui
unfolding acts
acts_eui x halted plan = by_memory x.memory
  where
    by_memory : (o : Option Memory) → (option_map_or (λ m. left_by x (carry_out x.store.records x.store.cut (plan m))) o (stays x halted)).node.eui ≡ x.eui
    by_memory None = refl
    by_memory (Some m) = refl

pub acts_makes : {A : Type 0} (P : A → PairTag → Type 0) (x : Node) (halted : A) (plan : Memory → Plan Memory A)
    → ((m : Memory) → x.memory ≡ Some m → Each (P (plan m).answer) (plan m).made) → Each (P (acts x halted plan).answer) (acts x halted plan).made
unfolding acts
acts_makes {A = A} P x halted plan f = by_memory x.memory refl
  where
    by_memory : (o : Option Memory) → x.memory ≡ o
        → let d : NodeStep A = option_map_or (λ m. left_by x (carry_out x.store.records x.store.cut (plan m))) o (stays x halted) in Each (P d.answer) d.made
    by_memory None there = tt
    by_memory (Some m) there = ⊎_elim
        (λ (w : IsWhole x.store.records x.store.cut (plan m) (carry_out x.store.records x.store.cut (plan m))). rw (w.answer, w.made) (f m there))
        (λ (c : IsCutOff x.store.records x.store.cut (plan m) (carry_out x.store.records x.store.cut (plan m))). subst (Each _) (sym c.made) tt)
        (clean x.store.records x.store.cut (plan m))

abbrev Nothing : {A : Type 0} → A → PairTag → Type 0
Nothing a t = ⊥

no_each : (xs : List PairTag) → Each (λ (t : PairTag). ⊥) xs → xs ≡ []
no_each [] h = refl
no_each (x ∷ xs) h = absurd h.0

pub acts_nothing : {A : Type 0} (x : Node) (halted : A) (plan : Memory → Plan Memory A) → ((m : Memory) → x.memory ≡ Some m → (plan m).made ≡ [])
    → (acts x halted plan).made ≡ []
acts_nothing x halted plan f = no_each _ (acts_makes (λ a t. ⊥) x halted plan (λ m there. subst (Each (λ (t : PairTag). ⊥)) (sym (f m there)) tt))

-- # Tags

pub coordinator_taken : (m : Memory) (keyed : Option SentGrant) (nodes : List Node) (taken : List Pairing) (t : PairTag) → CoordinatorTag m keyed t
    → TagTaken nodes taken t
coordinator_taken m keyed nodes taken t (ServerMac eui octets) = tt
coordinator_taken m keyed nodes taken t (Third eui i s p granted is grant) = λ e. absurd (cc)

taken_by : ℕ → Agreed → Pairing
taken_by number agreed = record { node = number; agreed = agreed }

pub meter_taken : (number : ℕ) (y : Node) (nodes : List Node) (taken : List Pairing) (took : Option Agreed) → slice_get nodes number ≡ Some y → (t : PairTag)
    → MeterTag y.eui took t
    → TagTaken nodes (taken ++ one_of (option_map (λ (a : Agreed). record { node = number; agreed = a }) took)) t
meter_taken number y nodes taken took there t (Second octets) = tt
meter_taken number y nodes taken took there t (Fourth i s p is) = λ e. record {
  number = number;
  node = y;
  there = there;
  names = refl;
  agreed = record { rand_s = s; rand_p = p };
  chosen = refl;
  identifier = i;
  head = refl;
  among = subst (λ o. Among (record { node = number; agreed = record { rand_s = s; rand_p = p } })
      (taken ++ one_of (option_map (λ (a : Agreed). record { node = number; agreed = a }) o))) (sym is) (among_right _ taken _ (Here []));
}

-- # Steps

pub data StepAgrees (w : World) (taken : List Pairing) : Step → Type 0 where
  Refused : (fault : StepFault) → StepAgrees w taken (Err fault)
  Happened : (r : World × Trace) → (r.1.happenings.forged ≡ false → Confirmed r.0 (taken ++ one_of r.1.taken) × IfSome r.1.done (λ p. Among p taken))
      → StepAgrees w taken (Ok r)

module _ (ciphers : Ciphers) (fits : KeepsRanges ciphers) (w : World) (ok : WorldOk w) (flown : All FlightFits w.flights) (given : List Issued)
    (k : Keyed w given) (taken : List Pairing) (c : Confirmed w taken) where
  abbrev Good : Step → Type 0
  Good s = StepAgrees w taken s

  branch : (b : Bool) (p q : Step) → (b ≡ true → Good p) → (b ≡ false → Good q) → Good (if b then p else q)
  branch true p q s t = s refl
  branch false p q s t = t refl

  by_option : {X : Type 0} (f : X → Step) (x : Option X) (p : Step) → ((y : X) → x ≡ Some y → Good (f y)) → Good p → Good (option_map_or f x p)
  by_option f None p s t = t
  by_option f (Some y) p s t = s y refl

  once : (s : Step) → Good s → Good (once_begun w s)
  once s h = branch (has_begun w) s (Err faults.Setup) (λ _. h) (λ _. Refused faults.Setup)

  setup : (s : Step) → Good s → Good (in_setup w s)
  setup s h = branch (takes_setup w) s (Err faults.Setup) (λ _. h) (λ _. Refused faults.Setup)

  at_node : (number : ℕ) (f : Node → Step) → ((x : Node) → node_at w number ≡ Some x → Good (f x)) → Good (on_node w number f)
  at_node number f h = by_option f (node_at w number) (Err faults.Node) h (Refused faults.Node)

  at_meter : (number : ℕ) (f : Node → Step) → (number ≢ 0 → (x : Node) → node_at w number ≡ Some x → Good (f x)) → Good (on_meter w number f)
  at_meter number f h = branch (number == 0) (Err faults.Node) (on_node w number f) (λ _. Refused faults.Node) (λ e. at_node number f (h (eqb-false _ _ e)))

  node_ok : (number : ℕ) (x : Node) → node_at w number ≡ Some x → NodeOk x
  node_ok number x e = at_place NodeOk w.nodes number x e ok.nodes

  quiet : (r : World × Trace) → r.1.taken ≡ None → r.1.done ≡ None → Confirmed r.0 taken → Good (Ok r)
  quiet r none undone h = Happened r (λ honest.
      (subst (Confirmed r.0) (sym (append-nil taken) ∙ ap (λ o. taken ++ one_of o) (sym none)) h, subst (λ o. IfSome o (λ p. Among p taken)) (sym undone) tt))

  ran_confirmed : Confirmed (running_world w) taken
  ran_confirmed = c

  rests : (d : Trace) → d.taken ≡ None → d.done ≡ None → Good (Ok (running_world w, d))
  rests d none undone = quiet (running_world w, d) none undone c

  sized_of : (x : Node) (m : Memory) → NodeOk x → x.memory ≡ Some m → IsMemorySized m
  sized_of x m good there = subst (λ o. IfSome o IsMemorySized) there good.sized

  -- what a node did without a tag
  plain_after : {A B : Type 0} (v : World) → Confirmed v taken → (number : ℕ) (x : Node) → node_at v number ≡ Some x
      → (reads : A → B) (halted : A) (plan : Memory → Plan Memory A) → ((m : Memory) → x.memory ≡ Some m → (plan m).made ≡ [])
      → Confirmed (world_after ciphers v number (answering reads (acts x halted plan))) taken
  plain_after v cv number x there reads halted plan none =
      after_nothing ciphers v number x (answering reads (acts x halted plan)) there (acts_eui x halted plan) taken cv (acts_nothing x halted plan none)

  plain_acts : {A : Type 0} (v : World) → Confirmed v taken → (number : ℕ) (x : Node) → node_at v number ≡ Some x → (halted : A) (plan : Memory → Plan Memory A)
      → ((m : Memory) → x.memory ≡ Some m → (plan m).made ≡ []) → Confirmed (world_after ciphers v number (acts x halted plan)) taken
  plain_acts v cv number x there halted plan none =
      after_nothing ciphers v number x (acts x halted plan) there (acts_eui x halted plan) taken cv (acts_nothing x halted plan none)

  rand_agrees : (number : ℕ) (value : RandomOctets) → Good (rand ciphers w number value)
  unfolding rand
  rand_agrees number value = once _ (at_node number _ (λ x there. quiet _ refl refl
      (plain_after (running_world w) c number x there random_word (Err randoms.Halted) _
      (λ m here. (random_quietly m (sized_of x m (node_ok number x there) here) value).made))))

  sent_agrees : (from to : ℕ) (datagram : List ℕ) (tag : ℕ) (b : Bool) (r : World × Trace) → r.1.taken ≡ None → r.1.done ≡ None → Confirmed r.0 taken
      → Good (Ok (sent_if w from to datagram tag b r))
  sent_agrees from to datagram tag false r none undone h = quiet r none undone h
  sent_agrees from to datagram tag true r none undone h = quiet _ none undone h

  sends_agrees : (from to : ℕ) (datagram : List ℕ) (x : Node) (address : Option ℕ) → node_at w from ≡ Some x
      → Good (Ok (sends_by ciphers w from to datagram x address))
  sends_agrees from to datagram x None there = rests _ refl refl
  sends_agrees from to datagram x (Some a) there =
      let plan : Memory → Plan Memory (Result _ _) = λ m. of_station m (calls.send m.station a datagram (w.sends + 1) w.clock) in
      let d : NodeStep Answer = answering sent_word (acts x (Err sends.Halted) plan) in
      sent_agrees from to datagram (tag_of x) (is_taken d.answer) (node_outcome ciphers w from d) refl refl
      (plain_after (running_world w) c from x there sent_word (Err sends.Halted) plan
      (λ m here. (send_quietly m (sized_of x m (node_ok from x there) here) a datagram (w.sends + 1) w.clock).made))

  send_agrees : (from to : ℕ) (datagram : List ℕ) → Good (send ciphers w from to datagram)
  unfolding send
  send_agrees from to datagram = once _ (at_node from _ (λ x there. at_node to _ (λ y other. sends_agrees from to datagram x (node_address y) there)))

  breaks_agrees : (number : ℕ) (x : Node) (next : Option ℕ) → node_at w number ≡ Some x → Good (Ok (breaks_by ciphers w number x next))
  breaks_agrees number x None there = rests _ refl refl
  breaks_agrees number x (Some next) there = quiet _ refl refl
      (plain_acts (running_world w) c number x there answers.Halted _
      (λ m here. (broke_quietly m (sized_of x m (node_ok number x there) here) next answers.Broken).made))

  break_agrees : (number next : ℕ) → Good (breaks ciphers w number next)
  unfolding breaks
  break_agrees number next = once _ (at_node number _ (λ x there. at_node next _ (λ y other. breaks_agrees number x (node_address y) there)))

  joins_agrees : (number agent : ℕ) (x : Node) (address : Option ℕ) (psk : Option Key) → node_at w number ≡ Some x
      → Good (Ok (joins_by ciphers w number x address psk))
  joins_agrees number agent x None psk there = rests _ refl refl
  joins_agrees number agent x (Some a) None there = rests _ refl refl
  joins_agrees number agent x (Some a) (Some psk) there = quiet _ refl refl
      (plain_after (running_world w) c number x there join_word (Err joins.Halted) (λ m. meters.join (identity ciphers x psk) m a w.clock)
      (λ m here. joins_made (identity ciphers x psk) m a w.clock))

  join_agrees : (number agent : ℕ) → Good (join ciphers w number agent)
  unfolding join
  join_agrees number agent =
      once _ (at_meter number _ (λ ne x there. at_node agent _ (λ y other. joins_agrees number agent x (node_address y) (psk_of x) there)))

  leave_agrees : (number : ℕ) → Good (leave ciphers w number)
  unfolding leave
  leave_agrees number = once _ (at_meter number _
      (λ ne x there. quiet _ refl refl (plain_after (running_world w) c number x there leave_word (Err leaves.Halted) meters.leave (λ m here. leaves_made m))))

  lose_agrees : (number : ℕ) → Good (lose w number)
  unfolding lose
  lose_agrees number = once _ (by_option _ (flight_at w number) (Err faults.Flight)
      (λ f there. branch f.lost _ _ (λ _. Refused faults.Flight) (λ _. quiet _ refl refl c)) (Refused faults.Flight))

  show_agrees : (number : ℕ) → Good (show w number)
  unfolding show
  show_agrees number = once _ (at_node number _ (λ x there. rests _ refl refl))

  same_agrees : (number : ℕ) (x : Node) (d : NodeStep Answer) → node_at w number ≡ Some x → d.node.eui ≡ x.eui → d.made ≡ []
      → Good (Ok (node_outcome ciphers w number d))
  same_agrees number x d there eui none = quiet _ refl refl (after_nothing ciphers (running_world w) number x d there eui taken c none)

  restart_agrees : (number : ℕ) → Good (restart ciphers w number)
  unfolding restart
  restart_agrees number = once _ (at_node number _ (λ x there. same_agrees number x (restarts x) there refl refl))

  cut_agrees : (number nth : ℕ) (keeps_new : Bool) → Good (cut ciphers w number nth keeps_new)
  unfolding cut
  cut_agrees number nth keeps_new = once _ (at_node number _ (λ x there. same_agrees number x _ there refl refl))

  tick_agrees : (seconds : ℕ) → Good (tick w seconds)
  unfolding tick
  tick_agrees seconds = once _ (quiet _ refl refl
      (confirmed_on w (record (running_world w) { clock = w.clock + seconds; nodes = map (ticked (w.clock + seconds)) w.nodes }) taken c ticks refl))
    where
      ticks : Lasts w.nodes (map (ticked (w.clock + seconds)) w.nodes)
      ticks n x is = record {
        node = ticked (w.clock + seconds) x;
        is = slice_get-map (ticked (w.clock + seconds)) w.nodes n ∙ ap (option_map (ticked (w.clock + seconds))) is;
        eui = refl;
      }

  order_agrees : {A : Type 0} (x : Node) (answer : Answer) (order : Memory → Plan Memory (Result A CoordinatorRefusal)) → node_at w 0 ≡ Some x
      → ((m : Memory) → (order m).made ≡ []) → Good (Ok (by_coordinator ciphers w x answer order))
  order_agrees x answer order there none =
      quiet _ refl refl (plain_after (running_world w) c 0 x there (ordered_word answer) (Err orders.Halted) order (λ m here. none m))

  activate_agrees : (number index : ℕ) → Good (activate ciphers w number index)
  unfolding activate
  activate_agrees number index = once _ (at_node number _ (λ x is. at_node 0 _ (λ y there. by_number (number == 0) x y there)))
    where
      by_number : (b : Bool) (x y : Node) → node_at w 0 ≡ Some y
          → Good (Ok (if b then by_coordinator ciphers w y answers.Activated (λ m. coordinator_rules.activate_self m index)
          else by_coordinator ciphers w y answers.Ordered (λ m. coordinator_rules.activate m x.eui index w.clock)))
      by_number true x y there = order_agrees y answers.Activated _ there (λ m. (activate_self_untagged m index).0)
      by_number false x y there = order_agrees y answers.Ordered _ there (λ m. (activate_untagged m x.eui index w.clock).0)

  rekey_agrees : (index : ℕ) (key : Key) → Good (rekey ciphers w index key)
  unfolding rekey
  rekey_agrees index key = once _ (at_node 0 _ (λ y there. order_agrees y answers.Drawn _ there (λ m. (rekey_untagged m index key).0)))

  challenge_agrees : (number : ℕ) → Good (challenge ciphers w number)
  unfolding challenge
  challenge_agrees number = once _
      (at_meter number _ (λ ne x is. at_node 0 _ (λ y there. order_agrees y answers.Challenged _ there (λ m. (challenge_untagged m y.eui x.eui w.clock).0))))

  kick_agrees : (number : ℕ) → Good (kick ciphers w number)
  unfolding kick
  kick_agrees number = once _ (at_meter number _ (λ ne x is. at_node 0 _ (λ y there. order_agrees y answers.Kicked _ there (λ m. (kick_untagged m x.eui).0))))

  allow_agrees : (number : ℕ) → Good (allow ciphers w number)
  unfolding allow
  allow_agrees number = once _ (at_meter number _ (λ ne x is. at_node 0 _ (λ y there.
      by_option (λ psk. Ok (allowed ciphers w number (acts y (Err orders.Halted) (λ m. coordinator_rules.allow m x.eui psk)))) (psk_of x) (Err faults.Node)
      (λ psk pair. quiet _ refl refl (plain_acts (running_world w) c 0 y there (Err orders.Halted) _ (λ m here. (allow_untagged m x.eui psk).0)))
      (Refused faults.Node))))

  preset_agrees : (number : ℕ) (plan : StationMemory → calls.Presetting) → ((m : Memory) → (of_station m (plan m.station)).made ≡ [])
      → Good (preset ciphers w number plan)
  preset_agrees number plan none =
      setup _ (at_node number _ (λ x there. quiet _ refl refl (plain_acts (set_up w) c number x there (Ok tt) _ (λ m here. none m))))

  -- # Setup

  offered_agrees : (v : World) → Confirmed v taken → (number : ℕ) (x : Node) → node_at v number ≡ Some x → NodeOk x → (to cost : ℕ) → to < 0xFFFE → cost ≤ 255
      → Confirmed (world_after ciphers v number (offered_near x to cost w.clock)) taken
  offered_agrees v cv number x there good to cost short low = plain_after v cv number x there (λ _. tt) (Ok tt)
      (λ m. of_station m (calls.preset_near m.station to cost w.clock))
      (λ m here. (near_quietly m (sized_of x m good here) to cost w.clock short (omega arith)).made)

  push_lasts : (x : Node) → Lasts w.nodes (w.nodes ++ x ∷ [])
  push_lasts x n y is =
      record { node = y; is = slice_get-push_other w.nodes n x (λ e. let inside = place_within w.nodes n y is in omega arith) ∙ is; eui = refl }

  push_agrees : (x : Node) → Good (Ok (made_node w x))
  push_agrees x = quiet (made_node w x) refl refl (confirmed_on w (made_node w x).0 taken c (push_lasts x) refl)

  coordinator_agrees : (eui : Eui) (key : Key) → Good (coordinator w eui key)
  unfolding coordinator
  coordinator_agrees eui key = branch (has_begun w) _ _ (λ _. Refused faults.Setup) (λ none. push_agrees (coordinator_node eui key))

  meter_agrees : (eui : Eui) (psk : Key) → Good (meter w eui psk)
  unfolding meter
  meter_agrees eui psk = branch (not (takes_setup w) || (nat_lt 999 (length w.nodes) || is_known w eui)) _ _ (λ _. Refused faults.Setup)
      (λ may. push_agrees (blank_node (Meter psk) eui))

  near_by_agrees : (a b cost : ℕ) (x y : Node) (p q : Option ℕ) → cost ≤ 255 → node_at w a ≡ Some x → node_at w b ≡ Some y → node_address x ≡ p
      → node_address y ≡ q → Good (near_by ciphers w a b cost x y p q)
  near_by_agrees a b cost x y None q low hx hy ep eq = Refused faults.Setup
  near_by_agrees a b cost x y (Some p) None low hx hy ep eq = Refused faults.Setup
  near_by_agrees a b cost x y (Some p) (Some q) low hx hy ep eq =
      branch ((a == b) || (keeps_rank x q || (ranks_full x || ranks_full y))) _ _ (λ _. Refused faults.Setup) (λ may.
      let far : b ≢ a = λ same. eqb-false _ _ (or_parts _ _ may).0 (sym same) in
      let first = offered_agrees (set_up w) c a x hx (node_ok a x hx) q cost (address_low ciphers fits w ok flown given k y q (node_ok b y hy) eq) low in
      quiet _ refl refl (offered_agrees (world_after ciphers (set_up w) a (offered_near x q cost w.clock)) first b y
      (other_there ciphers fits w ok flown given k a b (offered_near x q cost w.clock) y far hy) (node_ok b y hy) p cost
      (address_low ciphers fits w ok flown given k x p (node_ok a x hx) ep) low))

  near_agrees : (a b cost : ℕ) → cost ≤ 255 → Good (near ciphers w a b cost)
  unfolding near
  near_agrees a b cost low =
      setup _ (at_node a _ (λ x hx. at_node b _ (λ y hy. near_by_agrees a b cost x y (node_address x) (node_address y) low hx hy refl refl)))

  depot_by_agrees : (number : ℕ) (x y : Node) (psk : Key) → number ≢ 0 → node_at w number ≡ Some x → node_at w 0 ≡ Some y
      → Good (depot_by ciphers w number x (acts y (Err orders.Halted) (λ m. coordinator_rules.depot m x.eui psk)))
  depot_by_agrees number x y psk ne hx hy = by_answer (acts y (Err orders.Halted) plan).answer refl
    where
      plan : Memory → Plan Memory (Result Granted CoordinatorRefusal)
      plan m = coordinator_rules.depot m x.eui psk

      by_answer : (r : Result Granted CoordinatorRefusal) → (acts y (Err orders.Halted) plan).answer ≡ r
          → Good (depot_by ciphers w number x (acts y (Err orders.Halted) plan))
      by_answer (Err reason) e = rw e (Refused faults.Setup)
      by_answer (Ok g) e =
          let d : NodeStep (Result Granted CoordinatorRefusal) = record (acts y (Err orders.Halted) plan) { answer = Ok g } in
          let first : Confirmed (world_after ciphers (set_up w) 0 d) taken = after_nothing ciphers (set_up w) 0 y d hy (acts_eui y (Err orders.Halted) plan)
          taken c
          (acts_nothing y (Err orders.Halted) plan (λ m here. (depot_untagged m x.eui psk).0)) in
          rw e (quiet (provisioned ciphers (world_after ciphers (set_up w) 0 d) number x g) refl refl
          (plain_acts (world_after ciphers (set_up w) 0 d) first number x (other_there ciphers fits w ok flown given k 0 number d x ne hx) (Ok tt)
          (λ m. meters.provision m g) (λ m here. (installs_rest m g).1)))

  depot_agrees : (number : ℕ) → Good (depot ciphers w number)
  unfolding depot
  depot_agrees number =
      setup _ (at_node number _ (λ x hx. at_node 0 _ (λ y hy. branch ((number == 0) || is_some (node_address x)) _ _ (λ _. Refused faults.Setup) (λ may.
      by_option (λ psk. depot_by ciphers w number x (acts y (Err orders.Halted) (λ m. coordinator_rules.depot m x.eui psk))) (psk_of x) (Err faults.Setup)
      (λ psk pair. depot_by_agrees number x y psk (eqb-false _ _ (or_parts _ _ may).0) hx hy) (Refused faults.Setup)))))

  -- # What is heard

  abbrev paired : ℕ → Option Agreed → Option Pairing
  paired number took = option_map (λ (a : Agreed). record { node = number; agreed = a }) took

  meter_after : (number : ℕ) (x y : Node) (psk : Key) → y.role ≡ Meter psk → (got : Accepted) (cost note now : ℕ) → node_at w number ≡ Some x → NodeOk y
      → y.eui ≡ x.eui → IfSome y.memory (λ m. PeerIs y.eui m.session) → RoutesFit got
      → let d : NodeStep (Result MeterHeard Dropped) = acts y (Err drops.Store) (λ m. meters.hear_meter (identity ciphers y psk) m got cost note now) in
      Confirmed (world_after ciphers (running_world w) number d) (taken ++ one_of (paired number (meter_reception d.answer).took))
  meter_after number x y psk role got cost note now there good eui peer routes =
      let plan : Memory → Plan Memory (Result MeterHeard Dropped) = λ m. meters.hear_meter (identity ciphers y psk) m got cost note now in
      let d = acts y (Err drops.Store) plan in
      let same : d.node.eui ≡ y.eui = acts_eui y (Err drops.Store) plan in
      let tags : Each (MeterTag y.eui (meter_reception d.answer).took) d.made = acts_makes (λ a t. MeterTag y.eui (meter_reception a).took t) y
      (Err drops.Store) plan (λ m here.
      let kept : IsKept y.role m y.store.records = subst (λ o. Left (IsKept y.role) y.store.records o) here good.kept in
      let session : PeerIs y.eui m.session = subst (λ o. IfSome o (λ (n : Memory). PeerIs y.eui n.session)) here peer in
      (meter_plan y.eui m dropped took_in (λ r. (meter_reception r).took) took_same kept.station.range.ring session _
      (meter_hears (identity ciphers y psk) m (heard_given got cost note now) kept.station.range.ring session
      (λ p packet granted are right is. fits.granted psk p packet granted (pair_octets y m psk kept role) are right is)
      (λ octets join index read e. (read_fits join octets read).index index e) got routes.payload refl)).made) in
      let here : slice_get (slice_set w.nodes number d.node) number ≡ Some d.node = slice_get-set w.nodes number d.node (place_within w.nodes number x there) in
      after_confirmed ciphers (running_world w) number x d there (same ∙ eui) taken (one_of (paired number (meter_reception d.answer).took)) c
      (each_weaker (MeterTag y.eui (meter_reception d.answer).took)
      (TagTaken (slice_set w.nodes number d.node) (taken ++ one_of (paired number (meter_reception d.answer).took)))
      (λ t h. meter_taken number d.node (slice_set w.nodes number d.node) taken (meter_reception d.answer).took here t
      (subst (λ u. MeterTag u (meter_reception d.answer).took t) (sym same) h)) d.made tags)

  passes_within : (test : Node → Bool) (xs : List Node) (n : ℕ) (x : Node) → slice_get xs n ≡ Some x → test x ≡ true → position_or_len test xs < length xs
  passes_within test [] n x is e = absurd (cc)
  passes_within test (y ∷ ys) zero x is e = by_test (test y) (ap test (same_Some _ _ is) ∙ e)
    where
      by_test : (b : Bool) → b ≡ true → cond (not b) (1 + position_or_len test ys) 0 < suc (length ys)
      by_test true e = omega arith
      by_test false e = absurd (cc)
  passes_within test (y ∷ ys) (suc n) x is e = by_test (test y) (passes_within test ys n x is e)
    where
      by_test : (b : Bool) → position_or_len test ys < length ys → cond (not b) (1 + position_or_len test ys) 0 < suc (length ys)
      by_test true lt = omega arith
      by_test false lt = omega arith

  -- the node of an EUI is the one that has it
  number_is : (eui : Eui) (n : ℕ) (x : Node) → node_at w n ≡ Some x → book.eui_number x.eui ≡ book.eui_number eui → number_of w eui ≡ n
  number_is eui n x there same = by_place (position test w.nodes) refl
    where
      test : Node → Bool
      test y = same_eui y.eui eui

      inside : position_or_len test w.nodes < length w.nodes
      inside = passes_within test w.nodes n x there (eq-eqb _ _ same)

      none_not : position test w.nodes ≡ None → ⊥
      none_not e = by_lt (nat_lt (position_or_len test w.nodes) (length w.nodes)) (lt-ltb _ _ inside) e
        where
          by_lt : (b : Bool) → b ≡ true → cond b (Some (position_or_len test w.nodes)) None ≡ None → ⊥
          by_lt true t h = cc
          by_lt false t h = cc

      by_place : (o : Option ℕ) → position test w.nodes ≡ o → option_map_or (λ m. m) o 0 ≡ n
      by_place None e = absurd (none_not e)
      by_place (Some p) e =
          let at = position-Some test w.nodes p x e in
          k.apart p n (get_or w.nodes p x) x (slice_get-get_or w.nodes p x at.0) there (eqb-true _ _ at.1 ∙ sym same)

  was_among : (o : Option CompletedJoining) (opened : List PairTag) → IfSome o (IsDoneBy opened) → AllMade w.made opened
      → IfSome (done_by w o) (λ p. Among p taken)
  was_among None opened h right = tt
  was_among (Some d) opened h right =
      let t = done_taken w.nodes taken w.made opened d h right c in
      subst (λ m. Among (record { node = m; agreed = d.agreed }) taken) (sym (number_is d.eui t.number t.node t.there t.names)) t.among

  acts_done : (y : Node) (plan : Memory → Plan Memory (Result CoordinatorHeard Dropped)) → ((m : Memory) → (plan m).failed ≡ Err drops.Store)
      → ((m : Memory) → IfSome ((coordinator_reception (plan m).answer).done) (IsDoneBy (plan m).opened))
      → let d : NodeStep (Result CoordinatorHeard Dropped) = acts y (Err drops.Store) plan in IfSome ((coordinator_reception d.answer).done) (IsDoneBy d.opened)
  unfolding acts
  acts_done y plan failed f = by_memory y.memory
    where
      by_memory : (o : Option Memory) → let d : NodeStep (Result CoordinatorHeard Dropped) = option_map_or
          (λ m. left_by y (carry_out y.store.records y.store.cut (plan m))) o (stays y (Err drops.Store)) in
          IfSome ((coordinator_reception d.answer).done) (IsDoneBy d.opened)
      by_memory None = tt
      by_memory (Some m) = ⊎_elim
          (λ (x : IsWhole y.store.records y.store.cut (plan m) (carry_out y.store.records y.store.cut (plan m))). rw (x.answer, x.opened) (f m))
          (λ (x : IsCutOff y.store.records y.store.cut (plan m) (carry_out y.store.records y.store.cut (plan m))). rw (x.answer ∙ failed m) tt)
          (clean y.store.records y.store.cut (plan m))

  meter_done : (r : Result MeterHeard Dropped) → (meter_reception r).done ≡ None
  meter_done (Ok (meter_heard.Station h)) = station_done h
    where
      station_done : (h : Heard) → (station_reception h).done ≡ None
      station_done (station_heard.Up from note octets) = refl
      station_done station_heard.Held = refl
      station_done station_heard.Relayed = refl
      station_done station_heard.Answered = refl
      station_done station_heard.Learned = refl
      station_done station_heard.Broken = refl
      station_done station_heard.Reported = refl
      station_done (station_heard.Joining way body) = refl
      station_done (station_heard.Local from all code body) = refl
  meter_done (Ok meter_heard.Carried) = refl
  meter_done (Ok meter_heard.Replied) = refl
  meter_done (Ok (meter_heard.Took agreed)) = refl
  meter_done (Ok meter_heard.Noted) = refl
  meter_done (Ok meter_heard.Declined) = refl
  meter_done (Ok meter_heard.Left) = refl
  meter_done (Ok meter_heard.Activated) = refl
  meter_done (Err reason) = refl

  Agreeing : (number : ℕ) → NodeStep Reception → Type 0
  Agreeing number d =
      Confirmed (world_after ciphers (running_world w) number d) (taken ++ one_of (paired number d.answer.took))
      × IfSome (done_by w d.answer.done) (λ p. Among p taken)

  hears_agree : (number : ℕ) (x y : Node) (got : Accepted) (cost note now : ℕ) → node_at w number ≡ Some x → NodeOk y → y.eui ≡ x.eui → y.role ≡ x.role
      → (number ≢ 0 → IfSome y.memory (λ m. PeerIs y.eui m.session)) → RoutesFit got
      → list_any (is_forged_tag w.made) (hearing_step ciphers y got cost note now).opened ≡ false → Agreeing number (hearing_step ciphers y got cost note now)
  unfolding Agreeing world_after
  hears_agree number x y got cost note now there good eui role peer routes = by_role y.role refl
    where
      hears_as : Role → NodeStep Reception
      hears_as Coordinator = answering coordinator_reception
          (acts y (Err drops.Store) (λ m. coordinator_rules.hear_coordinator (record { eui = y.eui; ciphers = ciphers }) m got cost note now))
      hears_as (Meter psk) = answering meter_reception (acts y (Err drops.Store) (λ m. meters.hear_meter (identity ciphers y psk) m got cost note now))

      own : coordinator_rules.CoordinatorIdentity
      own = record { eui = y.eui; ciphers = ciphers }

      plan : Memory → Plan Memory (Result CoordinatorHeard Dropped)
      plan m = coordinator_rules.hear_coordinator own m got cost note now

      says : (m : Memory) → CoordinatorTags m (coordinator_reception (plan m).answer).keyed (coordinator_reception (plan m).answer).done (plan m)
      says m = says_tags m dropped (λ n a. done_in a ≡ None) (λ r. (coordinator_reception r).keyed) (λ r. (coordinator_reception r).done)
          (λ a. (keyed_same a).0) (λ a. (keyed_same a).1) (λ f. refl) (λ a n h. h) (plan m) (coordinator_hears own m (heard_given got cost note now) got refl)

      not_meter : (psk : Key) → Coordinator ≡ Meter psk → ⊥
      not_meter psk e = cc

      took_none : (r : Result CoordinatorHeard Dropped) → (coordinator_reception r).took ≡ None
      took_none (Ok (coordinator_heard.Station h)) = station_none h
        where
          station_none : (h : Heard) → (station_reception h).took ≡ None
          station_none (station_heard.Up from note octets) = refl
          station_none station_heard.Held = refl
          station_none station_heard.Relayed = refl
          station_none station_heard.Answered = refl
          station_none station_heard.Learned = refl
          station_none station_heard.Broken = refl
          station_none station_heard.Reported = refl
          station_none (station_heard.Joining way body) = refl
          station_none (station_heard.Local from all code body) = refl
      took_none (Ok coordinator_heard.Challenged) = refl
      took_none (Ok (coordinator_heard.Keyed eui granted)) = refl
      took_none (Ok (coordinator_heard.Done eui agreed)) = refl
      took_none (Ok coordinator_heard.Declined) = refl
      took_none (Err reason) = refl

      by_role : (r : Role) → y.role ≡ r → list_any (is_forged_tag w.made) (hears_as r).opened ≡ false → Agreeing number (hears_as r)
      by_role Coordinator is honest =
          let d = acts y (Err drops.Store) plan in
          let made : Each (TagTaken (slice_set w.nodes number d.node) (taken ++ [])) d.made = acts_makes
          (λ a t. TagTaken (slice_set w.nodes number d.node) (taken ++ []) t) y (Err drops.Store) plan
          (λ m here. each_weaker (CoordinatorTag m (coordinator_reception (plan m).answer).keyed) (TagTaken (slice_set w.nodes number d.node) (taken ++ []))
          (coordinator_taken m _ _ _) (plan m).made (says m).made) in (
            subst (λ o. Confirmed (world_after ciphers (running_world w) number d) (taken ++ one_of (paired number o))) (sym (took_none d.answer))
                (after_confirmed ciphers (running_world w) number x d there (acts_eui y (Err drops.Store) plan ∙ eui) taken [] c made),
            was_among (coordinator_reception d.answer).done d.opened (acts_done y plan
                (λ m. planned_failed (plan m) (coordinator_hears own m (heard_given got cost note now) got refl)) (λ m. (says m).right))
                (all_made w.made d.opened honest),
          )
      by_role (Meter psk) is honest =
          let d = acts y (Err drops.Store) (λ m. meters.hear_meter (identity ciphers y psk) m got cost note now) in
          let ne : number ≢ 0 = λ e. not_meter psk (sym (k.coordinator x (ap (slice_get w.nodes) (sym e) ∙ there)).role ∙ sym role ∙ is) in (
            meter_after number x y psk is got cost note now there good eui (peer ne) routes,
            subst (λ o. IfSome (done_by w o) (λ p. Among p taken)) (sym (meter_done d.answer)) tt,
          )

  arrives_agrees : (number : ℕ) (x : Node) (octets : List ℕ) (cost : ℕ) → node_at w number ≡ Some x → AreOctets octets
      → Good (Ok (arrives ciphers w number x octets cost))
  unfolding arrives Agreeing world_after
  arrives_agrees number x octets cost there are = by_answer (acts x (Err frames.Halted) plan).answer refl
    where
      plan : Memory → Plan Memory (Result Accepted FrameRefusal)
      plan m = of_station m (accept m.station x.eui (arrived ciphers octets))

      did : DidOk x (acts x (Err frames.Halted) plan)
      did = acts_ok x (Err frames.Halted) plan (node_ok number x there) (λ m here kept sized. accept_ok ciphers fits octets are x.role m x.eui sized)

      routes : (got : Accepted) → (acts x (Err frames.Halted) plan).answer ≡ Ok got → RoutesFit got
      routes got e =
          let a = acts_answered x frames.Halted frames.Store plan
          (λ m. accept_failed ciphers fits octets are m.station _ (accept_is m.station x.eui (arrived ciphers octets))) got e in
          accepted_routes ciphers fits octets are a.memory.station (ring_readable x a.memory (node_ok number x there) a.there) _ got
          (accept_is a.memory.station x.eui (arrived ciphers octets)) a.is

      by_answer : (r : Result Accepted FrameRefusal) → (acts x (Err frames.Halted) plan).answer ≡ r
          → Good (Ok (accepted_by ciphers w number octets cost (acts x (Err frames.Halted) plan)))
      by_answer (Err reason) e =
          let d : NodeStep (Result Accepted FrameRefusal) = record (acts x (Err frames.Halted) plan) { answer = Err reason } in
          rw e (quiet (world_after ciphers (running_world w) number d, trace_of (happenings w (frame_word reason))) refl refl
          (after_nothing ciphers (running_world w) number x d there (acts_eui x (Err frames.Halted) plan) taken c
          (acts_nothing x (Err frames.Halted) plan (λ m here. (accept_quietly ciphers fits octets are m x.eui).made))))
      by_answer (Ok got) e =
          let y = (acts x (Err frames.Halted) plan).node in
          let d = hearing_step ciphers y got cost (note_by w octets got.path) w.clock in
          let forged = forged_by w octets got.path || list_any (is_forged_tag w.made) d.opened in
          rw e (Happened (received ciphers w number forged d) (λ honest.
          hears_agree number x y got cost (note_by w octets got.path) w.clock there did.node did.eui did.role
          (λ ne. (quiet_meter_did ciphers fits w ok flown given k x (Err frames.Halted) plan k.book (node_ok number x there) (k.meters number x ne there)
          (λ m sized. accept_quietly ciphers fits octets are m x.eui)).node.session) (routes got e) (or_false (forged_by w octets got.path) _ honest)))

  deliver_agrees : (flight number cost : ℕ) → Good (deliver ciphers w flight number cost)
  unfolding deliver
  deliver_agrees flight number cost = once _ (at_node number _ (λ x there.
      by_option _ (flight_at w flight) (Err faults.Flight) (λ f is. branch f.lost _ _ (λ _. Refused faults.Flight)
      (λ _. arrives_agrees number x f.octets cost there (flight_octets ciphers fits w ok flown given k flight f is))) (Refused faults.Flight)))

  inject_agrees : (number cost : ℕ) (octets : List ℕ) → AreOctets octets → Good (inject ciphers w number cost octets)
  unfolding inject
  inject_agrees number cost octets are = once _ (at_node number _ (λ x there. arrives_agrees number x octets cost there are))

  none_station : (m : Memory) (value : ℕ)
      → ((of_station m (calls.preset_counter m.station value)).made ≡ []) × ((of_station m (calls.preset_number m.station value)).made ≡ [])
  unfolding resting
  none_station m value = (refl, refl)

  pub step_agrees : (event : Event) → IsEvent event → Good (step ciphers w event)
  step_agrees (events.Coordinator eui key) e = coordinator_agrees eui key
  step_agrees (events.Meter eui psk) e = meter_agrees eui psk
  step_agrees (events.Depot node) e = depot_agrees node
  step_agrees (events.Near a b cost) e = near_agrees a b cost e.2.1
  step_agrees (events.Counter node value) e = preset_agrees node _ (λ m. (none_station m value).0)
  step_agrees (events.Number node value) e = preset_agrees node _ (λ m. (none_station m value).1)
  step_agrees (events.Allow node) e = allow_agrees node
  step_agrees (events.RandomOctets node value) e = rand_agrees node value
  step_agrees (events.Join node agent) e = join_agrees node agent
  step_agrees (events.Leave node) e = leave_agrees node
  step_agrees (events.Send from to datagram) e = send_agrees from to datagram
  step_agrees (events.Deliver flight node cost) e = deliver_agrees flight node cost
  step_agrees (events.Inject node cost octets) e = inject_agrees node cost octets e.2.2
  step_agrees (events.Lose flight) e = lose_agrees flight
  step_agrees (events.Break node next) e = break_agrees node next
  step_agrees (events.Tick seconds) e = tick_agrees seconds
  step_agrees (events.Restart node) e = restart_agrees node
  step_agrees (events.Cut node nth keeps_new) e = cut_agrees node nth keeps_new
  step_agrees (events.Rekey index key) e = rekey_agrees index key
  step_agrees (events.Challenge node) e = challenge_agrees node
  step_agrees (events.Activate node index) e = activate_agrees node index
  step_agrees (events.Kick node) e = kick_agrees node
  step_agrees (events.Show node) e = show_agrees node
  step_agrees events.Checks e = Refused faults.Setup
  step_agrees (events.Bcast node datagram) e = Refused faults.Setup
  step_agrees (events.Scan node) e = Refused faults.Setup
  step_agrees (events.Choose node k) e = Refused faults.Setup
  step_agrees (events.Path from to) e = Refused faults.Setup
