-- Every event keeps the parts of addresses and of issued keys, unless it is forged.
use Rattle.std.proofs.Common.{◌≡◌, ◌≢◌, ⊎_elim, ℕ, ◌+◌, ◌-◌, ◌≤◌, Bool, true, false, List, [], ◌∷◌, ◌++◌, length, map, Option, Some, None}
use Rattle.std.proofs.Common.{Result, Ok, Err, refl, sym, ap, ◌∙◌, subst}
use Rattle.std.specs.Prelude.{if◌then◌else◌, All, IfSome, ◌==◌, ◌||◌, slice_get}
use Rattle.std.specs.List.{list_any}
use Rattle.std.specs.Option.{option_map, option_map_or}
use Rattle.std.proofs.lemmas.Bool.{cases_eq, eqb-false}
use Rattle.std.proofs.lemmas.Option.{same_Some}
use Rattle.store_tables.proofs.SlotTables.{slice_get-map}
use Rattle.plc_base.specs.Keeper.{Records}
use Rattle.plc_base.specs.declared.address.Eui.{Eui}
use Rattle.plc_base.specs.declared.key.Key.{Key}
use Rattle.plc_base.specs.declared.key.RandomOctets.{RandomOctets}
use Rattle.group_keys.specs.KeyBook as book
use Rattle.line_events.specs.declared.event.Answer.{Answer}
use Rattle.line_events.specs.declared.event.StepFault.{StepFault}
use Rattle.line_events.specs.declared.event.StepFault.TheVariants as faults
use Rattle.node_rules.specs.Accepted.{Accepted}
use Rattle.node_rules.specs.declared.refusal.CoordinatorRefusal.{CoordinatorRefusal}
use Rattle.node_rules.specs.declared.refusal.CoordinatorRefusal.TheVariants as orders
use Rattle.node_rules.specs.declared.refusal.Dropped.TheVariants as drops
use Rattle.node_rules.specs.declared.refusal.FrameRefusal.{FrameRefusal}
use Rattle.node_rules.specs.declared.refusal.FrameRefusal.TheVariants as frames
use Rattle.line_events.specs.declared.event.Answer.TheVariants as answers
use Rattle.node_rules.specs.declared.refusal.RandomFault.TheVariants as randoms
use Rattle.node_rules.specs.declared.refusal.JoinRefusal.TheVariants as joins
use Rattle.node_rules.specs.declared.refusal.LeaveRefusal.TheVariants as leaves
use Rattle.node_rules.specs.declared.refusal.SendRefusal.TheVariants as sends
use Rattle.node_rules.specs.Ciphers.{Ciphers}
use Rattle.node_rules.specs.Frames.{arrived}
use Rattle.node_rules.specs.Memory.{StationMemory, Memory, Role, Coordinator, Meter, Node, node_address}
use Rattle.node_rules.specs.Plans.{Plan}
use Rattle.node_rules.specs.Acceptance.{accept}
use Rattle.node_rules.specs.Calls as calls
use Rattle.node_rules.specs.Meters as meters
use Rattle.node_rules.specs.Coordinators as coordinator_rules
use Rattle.node_rules.specs.RestartStates.{remembering, memory_of}
use Rattle.line_rules.specs.Answers.{Reception, meter_reception, coordinator_reception, random_word, join_word, leave_word, sent_word, ordered_word, frame_word}
use Rattle.line_rules.specs.Worlds.{World, Flight, Trace, node_at, flight_at, is_forged_tag}
use Rattle.line_rules.specs.Steps.{Step, set_up, running_world, world_after, node_outcome, once_begun, in_setup, has_begun, takes_setup, on_node, on_meter}
use Rattle.line_rules.specs.Steps.{identity}
use Rattle.line_rules.specs.Steps.{hearing_step}
use Rattle.line_rules.specs.Steps.{restarts, memory_by, ticked, rand, join, joins_by, leave, send, sends_by, sent_if, breaks, breaks_by, lose, tick, restart}
use Rattle.line_rules.specs.Steps.{cut, show, psk_of, trace_of, happenings, coordinator, meter}
use Rattle.line_rules.specs.Steps.{allow, allowed, deliver, inject, arrives, accepted_by, received}
use Rattle.line_rules.specs.Steps.{by_coordinator, forged_by, note_by, rekey, challenge, activate, kick}
use Rattle.node_rules.specs.NodeSteps.{NodeStep, acts, stays, answering, of_station}
use Rattle.plc_base.specs.declared.tags.PairTag.{PairTag}
use Rattle.std.proofs.Common.{append-nil}
use Rattle.node_rules.specs.declared.heard.CoordinatorHeard.{CoordinatorHeard}
use Rattle.node_rules.specs.declared.refusal.Dropped.{Dropped}
use Rattle.line_rules.specs.Worlds.{Issued}
use Rattle.line_rules.specs.Steps.{issued_of}
use Rattle.plc_base.specs.declared.keeper.BadStore.{BadStore}
use Rattle.node_rules.specs.RestartStates.{station_of, reading}
use Rattle.node_rules.specs.HearingRules.{dropped}
use Rattle.node_rules.specs.Memory.{MeterSession}
use Rattle.line_laws.specs.Stores.{IsReadable, IsBookKept}
use Rattle.line_laws.specs.Sizes.{IsMemorySized}
use Rattle.line_laws.specs.Owed.{AreOctets, KeepsRanges}
use Rattle.joining_messages.proofs.JoinRanges.{read_fits}
use Rattle.line_laws.proofs.Nodes.{NodeOk, ring_readable, pair_octets}
use Rattle.line_laws.proofs.NodeCalls.{RoutesFit, no_some, heard_given}
use Rattle.line_laws.proofs.StorableGrants.{held}
use Rattle.line_laws.proofs.CoordinatorCalls.{accept_ok, accept_failed, accepted_routes}
use Rattle.line_laws.proofs.StoreMarks.{accept_is}
use Rattle.line_laws.proofs.Answered.{acts_answered}
use Rattle.line_laws.proofs.Nodes.{DidOk, acts_ok}
use Rattle.line_laws.proofs.Worlds.{NodeFits, FlightFits, WorldOk, at_place}
use Rattle.line_laws.proofs.AddressPuts.{RingIn}
use Rattle.line_laws.proofs.IssueWords.{Among, Each, none_among}
use Rattle.line_laws.proofs.IssueMeters.{PeerIs, MeterPlan, took_in, meter_plan, meter_hears, joins_plan, leaves_plan, joins_opened, leaves_opened}
use Rattle.line_laws.proofs.IssueNodes.{RingOk, TagOk, MeterOk, MeterDid, Nought, CoordinatorOk, CoordinatorDid, CoordinatorPlan, meter_acts, sound_acts}
use Rattle.line_laws.proofs.IssueNodes.{coordinator_acts, all_made, acts_opened}
use Rattle.line_laws.proofs.IssueCalls.{Quietly, quiet_coordinator, send_quietly, broke_quietly, random_quietly}
use Rattle.line_laws.proofs.IssueCalls.{accept_quietly, hears_coordinator, allow_coordinator, rekey_coordinator, activate_self_coordinator}
use Rattle.line_laws.proofs.IssueCalls.{challenge_coordinator, activate_coordinator, kick_coordinator}
use Rattle.line_laws.proofs.IssueWorlds.{Keyed, IsMeter, same_keyed, after_meter, after_coordinator}
use Rattle.line_events.specs.Events.{IsEui}
use Rattle.node_rules.specs.declared.session_time.TheConstants.{SESSION_TIME}
pub use Rattle.line_laws.proofs.ReceivedKeys.{keyed_same, no_keys, took_same}

pub data StepKeyed (w : World) (given : List Issued) : Step → Type 0 where
  Fails : (fault : StepFault) → StepKeyed w given (Err fault)
  Taken : (r : World × Trace) → (r.1.happenings.forged ≡ false → Keyed r.0 (given ++ r.1.issued)) → StepKeyed w given (Ok r)

-- the answer does not matter
pub after_as : {A B : Type 0} (ciphers : Ciphers) (w : World) (number : ℕ) (reads : A → B) (d : NodeStep A) (given : List Issued)
    → Keyed (world_after ciphers w number d) given → Keyed (world_after ciphers w number (answering reads d)) given
unfolding world_after
after_as ciphers w number reads d given k = same_keyed _ _ given k refl refl

pub or_false : (a b : Bool) → (a || b) ≡ false → b ≡ false
or_false true b e = absurd (cc)
or_false false b e = e

module _ (ciphers : Ciphers) (fits : KeepsRanges ciphers) where
  pub sized_at : (x : Node) (m : Memory) → NodeOk x → x.memory ≡ Some m → IsMemorySized m
  sized_at x m ok there = subst (λ o. IfSome o IsMemorySized) there ok.sized

  -- a call that leaves the ring, the session and the book
  pub quiet_after_at : {A : Type 0} (w : World) (given : List Issued) (k : Keyed w given) (number : ℕ) (x : Node) → node_at w number ≡ Some x → NodeOk x
      → (halted : A) (plan : Memory → Plan Memory A)
      → ((m : Memory) → x.memory ≡ Some m → IsMemorySized m → Quietly m (plan m)) → Keyed (world_after ciphers w number (acts x halted plan)) given
  quiet_after_at w given k number x there ok halted plan q = ⊎_elim
      (λ (e : number ≡ 0). subst (Keyed _) (append-nil given)
      (after_coordinator ciphers w number x (acts x halted plan) there (quiet_did e).eui given [] k e (quiet_did e)))
      (λ (ne : number ≢ 0). let d = meter_did ne in after_meter ciphers w number x (acts x halted plan) there d.eui given k ne d)
      (cases_eq number 0)
    where
      quiet_did : number ≡ 0 → CoordinatorDid k.book given [] x (acts x halted plan)
      quiet_did e =
          let c = k.coordinator x (ap (slice_get w.nodes) (sym e) ∙ there) in
          coordinator_acts k.book given x halted plan [] ok c (λ a. None) (λ m here said. refl)
          (λ m here kept. quiet_coordinator k.book None m (plan m) (q m here (sized_at x m ok here)) (c.ring m.station.ring kept.station.ring.stored)
          kept.station.range.ring)

      meter_did : number ≢ 0 → MeterDid k.book given x (acts x halted plan)
      meter_did ne =
          let h = k.meters number x ne there in
          sound_acts k.book given x halted plan ok h.ring h.session (λ m here kept session ring.
          let t = q m here (sized_at x m ok here) in
          record {
            puts = t.ring (RingOk k.book given x.eui) tt ring kept.station.range.ring;
            session = subst (PeerIs x.eui) (sym t.session) session;
            made = subst (Each (TagOk k.book given)) (sym t.made) tt;
          })

  pub quiet_after : {A : Type 0} (w : World) (given : List Issued) (k : Keyed w given) (number : ℕ) (x : Node) → node_at w number ≡ Some x → NodeOk x
      → (halted : A) (plan : Memory → Plan Memory A)
      → ((m : Memory) → IsMemorySized m → Quietly m (plan m)) → Keyed (world_after ciphers w number (acts x halted plan)) given
  quiet_after w given k number x there ok halted plan q = quiet_after_at w given k number x there ok halted plan (λ m here sized. q m sized)

  -- a call of a meter by itself
  pub own_after : {A : Type 0} (w : World) (given : List Issued) (k : Keyed w given) (number : ℕ) (x : Node) → number ≢ 0 → node_at w number ≡ Some x → NodeOk x
      → (halted : A) (plan : Memory → Plan Memory A)
      → ((m : Memory) → IfSome m.station.ring IsReadable → PeerIs x.eui m.session → MeterPlan x.eui m.station.ring None (plan m))
      → ((m : Memory) → (plan m).opened ≡ []) → Keyed (world_after ciphers w number (acts x halted plan)) given
  own_after {A = A} w given k number x ne there ok halted plan f none =
      let h = k.meters number x ne there in
      let d : MeterDid k.book given x (acts x halted plan) = meter_acts k.book given x halted plan w.made ok h k.made (λ t among. absurd (no_tag t among))
      (λ a. None) (λ m here kept session. f m kept.station.range.ring session) in
      after_meter ciphers w number x (acts x halted plan) there d.eui given k ne d
    where
      no_tag : (t : PairTag) → Among t (acts x halted plan).opened → ⊥
      no_tag t among = none_among t (acts x halted plan).opened (acts_opened x halted plan none) among

module _ (ciphers : Ciphers) (fits : KeepsRanges ciphers) (w : World) (ok : WorldOk w) (flown : All FlightFits w.flights) (given : List Issued)
    (k : Keyed w given) where
  abbrev Good : Step → Type 0
  Good s = StepKeyed w given s

  pub branch : (b : Bool) (p q : Step) → (b ≡ true → Good p) → (b ≡ false → Good q) → Good (if b then p else q)
  branch true p q s t = s refl
  branch false p q s t = t refl

  pub by_option : {X : Type 0} (f : X → Step) (x : Option X) (p : Step) → ((y : X) → x ≡ Some y → Good (f y)) → Good p → Good (option_map_or f x p)
  by_option f None p s t = t
  by_option f (Some y) p s t = s y refl

  once : (s : Step) → Good s → Good (once_begun w s)
  once s h = branch (has_begun w) s (Err faults.Setup) (λ _. h) (λ _. Fails faults.Setup)

  pub setup : (s : Step) → Good s → Good (in_setup w s)
  setup s h = branch (takes_setup w) s (Err faults.Setup) (λ _. h) (λ _. Fails faults.Setup)

  pub at_node : (number : ℕ) (f : Node → Step) → ((x : Node) → node_at w number ≡ Some x → Good (f x)) → Good (on_node w number f)
  at_node number f h = by_option f (node_at w number) (Err faults.Node) h (Fails faults.Node)

  at_meter : (number : ℕ) (f : Node → Step) → (number ≢ 0 → (x : Node) → node_at w number ≡ Some x → Good (f x)) → Good (on_meter w number f)
  at_meter number f h = branch (number == 0) (Err faults.Node) (on_node w number f) (λ _. Fails faults.Node) (λ e. at_node number f (h (eqb-false _ _ e)))

  pub node_ok : (number : ℕ) (x : Node) → node_at w number ≡ Some x → NodeOk x
  node_ok number x e = at_place NodeOk w.nodes number x e ok.nodes

  pub node_fits : (number : ℕ) (x : Node) → node_at w number ≡ Some x → NodeFits x
  node_fits number x e = at_place NodeFits w.nodes number x e ok.fits

  pub taken_none : (r : World × Trace) → r.1.issued ≡ [] → Keyed r.0 given → Good (Ok r)
  taken_none r none h = Taken r (λ honest. subst (Keyed r.0) (sym (append-nil given) ∙ ap (λ more. given ++ more) (sym none)) h)

  ran_keyed : Keyed (running_world w) given
  ran_keyed = same_keyed w (running_world w) given k refl refl

  pub set_up_keyed : Keyed (set_up w) given
  set_up_keyed = same_keyed w (set_up w) given k refl refl

  rests : (d : Trace) → d.issued ≡ [] → Good (Ok (running_world w, d))
  rests d none = taken_none (running_world w, d) none ran_keyed

  -- calls of one node
  acted_quiet : {A : Type 0} (number : ℕ) (x : Node) (reads : A → Answer) (halted : A) (plan : Memory → Plan Memory A) → node_at w number ≡ Some x
      → ((m : Memory) → IsMemorySized m → Quietly m (plan m)) → Good (Ok (node_outcome ciphers w number (answering reads (acts x halted plan))))
  acted_quiet number x reads halted plan there q = taken_none _ refl
      (after_as ciphers (running_world w) number reads (acts x halted plan) given
      (quiet_after ciphers fits (running_world w) given ran_keyed number x there (node_ok number x there) halted plan q))

  pub rand_keyed : (number : ℕ) (value : RandomOctets) → Good (rand ciphers w number value)
  unfolding rand
  rand_keyed number value =
      once _ (at_node number _ (λ x there. acted_quiet number x random_word (Err randoms.Halted) _ there (λ m sized. random_quietly m sized value)))

  sent_keyed : (from to : ℕ) (datagram : List ℕ) (tag : ℕ) (b : Bool) (r : World × Trace) → r.1.issued ≡ [] → Keyed r.0 given
      → Good (Ok (sent_if w from to datagram tag b r))
  sent_keyed from to datagram tag false r none h = taken_none r none h
  sent_keyed from to datagram tag true r none h = taken_none _ none (same_keyed r.0 (record r.0 { sends = r.0.sends + 1 }) given h refl refl)

  sends_keyed : (from to : ℕ) (datagram : List ℕ) (x : Node) (address : Option ℕ) → node_at w from ≡ Some x
      → Good (Ok (sends_by ciphers w from to datagram x address))
  sends_keyed from to datagram x None there = rests _ refl
  sends_keyed from to datagram x (Some a) there =
      sent_keyed from to datagram _ _ _ refl (after_as ciphers (running_world w) from sent_word (acts x (Err sends.Halted) _) given
      (quiet_after ciphers fits (running_world w) given ran_keyed from x there (node_ok from x there) (Err sends.Halted)
      (λ m. of_station m (calls.send m.station a datagram (w.sends + 1) w.clock)) (λ m sized. send_quietly m sized a datagram (w.sends + 1) w.clock)))

  pub send_keyed : (from to : ℕ) (datagram : List ℕ) → Good (send ciphers w from to datagram)
  unfolding send
  send_keyed from to datagram = once _ (at_node from _ (λ x there. at_node to _ (λ y other. sends_keyed from to datagram x (node_address y) there)))

  breaks_keyed : (number : ℕ) (x : Node) (next : Option ℕ) → node_at w number ≡ Some x → Good (Ok (breaks_by ciphers w number x next))
  breaks_keyed number x None there = rests _ refl
  breaks_keyed number x (Some next) there =
      taken_none _ refl (quiet_after ciphers fits (running_world w) given ran_keyed number x there (node_ok number x there)
      answers.Halted _ (λ m sized. broke_quietly m sized next answers.Broken))

  pub break_keyed : (number next : ℕ) → Good (breaks ciphers w number next)
  unfolding breaks
  break_keyed number next = once _ (at_node number _ (λ x there. at_node next _ (λ y other. breaks_keyed number x (node_address y) there)))

  joins_keyed : (number agent : ℕ) (x : Node) (address : Option ℕ) (psk : Option Key) → number ≢ 0 → node_at w number ≡ Some x
      → Good (Ok (joins_by ciphers w number x address psk))
  joins_keyed number agent x None psk ne there = rests _ refl
  joins_keyed number agent x (Some a) None ne there = rests _ refl
  joins_keyed number agent x (Some a) (Some psk) ne there =
      taken_none _ refl (after_as ciphers (running_world w) number join_word (acts x (Err joins.Halted) (λ m. meters.join (identity ciphers x psk) m a w.clock))
      given
      (own_after ciphers fits (running_world w) given ran_keyed number x ne there (node_ok number x there) (Err joins.Halted)
      (λ m. meters.join (identity ciphers x psk) m a w.clock) (λ m reads session. joins_plan (identity ciphers x psk) m a w.clock reads session)
      (λ m. joins_opened (identity ciphers x psk) m a w.clock)))

  pub join_keyed : (number agent : ℕ) → Good (join ciphers w number agent)
  unfolding join
  join_keyed number agent =
      once _ (at_meter number _ (λ ne x there. at_node agent _ (λ y other. joins_keyed number agent x (node_address y) (psk_of x) ne there)))

  pub leave_keyed : (number : ℕ) → Good (leave ciphers w number)
  unfolding leave
  leave_keyed number =
      once _ (at_meter number _ (λ ne x there. taken_none _ refl
      (after_as ciphers (running_world w) number leave_word (acts x (Err leaves.Halted) meters.leave) given
      (own_after ciphers fits (running_world w) given ran_keyed number x ne there (node_ok number x there) (Err leaves.Halted) meters.leave
      (λ m reads session. leaves_plan x.eui m reads session) leaves_opened))))

  pub lose_keyed : (number : ℕ) → Good (lose w number)
  unfolding lose
  lose_keyed number = once _ (by_option _ (flight_at w number) (Err faults.Flight)
      (λ f there. branch f.lost _ _ (λ _. Fails faults.Flight) (λ _. taken_none _ refl (same_keyed w _ given k refl refl))) (Fails faults.Flight))

  pub show_keyed : (number : ℕ) → Good (show w number)
  unfolding show
  show_keyed number = once _ (at_node number _ (λ x there. rests _ refl))

  -- # Orders

  order_keyed : {A : Type 0} (c : Node) (answer : Answer) (order : Memory → Plan Memory (Result A CoordinatorRefusal)) → node_at w 0 ≡ Some c
      → ((m : Memory) → IsMemorySized m → (b : book.Book) → Nought m.station.ring → IfSome m.station.ring IsReadable → CoordinatorPlan b m None (order m))
      → CoordinatorDid ran_keyed.book given [] c (acts c (Err orders.Halted) order)
  order_keyed c answer order there f =
      let h = ran_keyed.coordinator c there in
      let good = node_ok 0 c there in
      coordinator_acts ran_keyed.book given c (Err orders.Halted) order [] good h (λ a. None) (λ m here said. refl)
      (λ m here kept. f m (sized_at ciphers fits c m good here) ran_keyed.book (h.ring m.station.ring kept.station.ring.stored) kept.station.range.ring)

  coordinator_after : {A : Type 0} (c : Node) (d : NodeStep A) → node_at w 0 ≡ Some c → CoordinatorDid ran_keyed.book given [] c d
      → Keyed (world_after ciphers (running_world w) 0 d) given
  coordinator_after c d there did =
      subst (Keyed _) (append-nil given) (after_coordinator ciphers (running_world w) 0 c d there did.eui given [] ran_keyed refl did)

  ordered_keyed : {A : Type 0} (c : Node) (answer : Answer) (order : Memory → Plan Memory (Result A CoordinatorRefusal)) → node_at w 0 ≡ Some c
      → ((m : Memory) → IsMemorySized m → (b : book.Book) → Nought m.station.ring → IfSome m.station.ring IsReadable → CoordinatorPlan b m None (order m))
      → Good (Ok (by_coordinator ciphers w c answer order))
  ordered_keyed c answer order there f = taken_none _ refl (after_as ciphers (running_world w) 0 (ordered_word answer) (acts c (Err orders.Halted) order) given
      (coordinator_after c (acts c (Err orders.Halted) order) there (order_keyed c answer order there f)))

  abbrev own_of : Node → coordinator_rules.CoordinatorIdentity
  own_of c = record { eui = c.eui; ciphers = ciphers }

  pub rekey_keyed : (index : ℕ) (key : Key) → length key.0 ≡ 16 → AreOctets key.0 → Good (rekey ciphers w index key)
  unfolding rekey
  rekey_keyed index key long are = once _ (at_node 0 _ (λ c there. ordered_keyed c answers.Drawn _ there
      (λ m sized b nought reads. rekey_coordinator ciphers fits (own_of c) m sized b nought reads index key (held key long are))))

  pub challenge_keyed : (number : ℕ) → Good (challenge ciphers w number)
  unfolding challenge
  challenge_keyed number = once _ (at_meter number _ (λ ne x is. at_node 0 _
      (λ c there. ordered_keyed c answers.Challenged _ there
      (λ m sized b nought reads. challenge_coordinator ciphers fits (own_of c) m sized b nought reads x.eui w.clock (node_fits number x is).eui))))

  pub activate_keyed : (number index : ℕ) → index ≤ 1 → Good (activate ciphers w number index)
  unfolding activate
  activate_keyed number index low = once _ (at_node number _ (λ x is. at_node 0 _ (λ c there. by_number (number == 0) x c there)))
    where
      by_number : (b : Bool) (x c : Node) → node_at w 0 ≡ Some c
          → Good (Ok (if b then by_coordinator ciphers w c answers.Activated (λ m. coordinator_rules.activate_self m index)
          else by_coordinator ciphers w c answers.Ordered (λ m. coordinator_rules.activate m x.eui index w.clock)))
      by_number true x c there =
          ordered_keyed c answers.Activated _ there
          (λ m sized b nought reads. activate_self_coordinator ciphers fits (own_of c) m sized b nought reads index low)
      by_number false x c there = ordered_keyed c answers.Ordered _ there
          (λ m sized b nought reads. activate_coordinator ciphers fits (own_of c) m sized b nought reads x.eui index w.clock)

  pub kick_keyed : (number : ℕ) → Good (kick ciphers w number)
  unfolding kick
  kick_keyed number = once _ (at_meter number _ (λ ne x is. at_node 0 _
      (λ c there. ordered_keyed c answers.Kicked _ there
      (λ m sized b nought reads. kick_coordinator ciphers fits (own_of c) m sized b nought reads x.eui (node_fits number x is).eui))))

  pub psk_is : (x : Node) (psk : Key) → psk_of x ≡ Some psk → x.role ≡ Meter psk
  psk_is x psk = by_role x.role
    where
      by_role : (role : Role) → psk_of (record x { role = role }) ≡ Some psk → role ≡ Meter psk
      by_role Coordinator e = absurd (no_some _ e)
      by_role (Meter key) e = ap Meter (same_Some _ _ e)

  pub allow_keyed : (number : ℕ) → Good (allow ciphers w number)
  unfolding allow
  allow_keyed number = once _ (at_meter number _ (λ ne x is. at_node 0 _ (λ c there.
      by_option (λ psk. Ok (allowed ciphers w number (acts c (Err orders.Halted) (λ m. coordinator_rules.allow m x.eui psk)))) (psk_of x) (Err faults.Node)
      (λ psk pair. taken_none _ refl (coordinator_after c _ there (order_keyed c answers.Kicked _ there
      (λ m sized b nought reads. allow_coordinator ciphers fits (own_of c) m sized b nought reads x.eui psk (node_fits number x is).eui
      ((node_fits number x is).psk psk (psk_is x psk pair)))))) (Fails faults.Node))))

  -- # What changes no record

  same_store : {A : Type 0} (number : ℕ) (x : Node) (d : NodeStep A) → node_at w number ≡ Some x → d.node.store.records ≡ x.store.records → d.node.role ≡ x.role
      → d.node.eui ≡ x.eui → d.made ≡ []
      → (IsMeter x.role → IfSome d.node.memory (λ m. PeerIs d.node.eui m.session)) → Keyed (world_after ciphers (running_world w) number d) given
  same_store number x d there records role eui made peer = ⊎_elim
      (λ (e : number ≡ 0).
      let c = ran_keyed.coordinator x (ap (slice_get w.nodes) (sym e) ∙ there) in
      subst (Keyed _) (append-nil given) (after_coordinator ciphers (running_world w) number x d there eui given [] ran_keyed e
      (record {
        book = ran_keyed.book;
        node = record {
          role = role ∙ c.role;
          book_kept = subst (IsBookKept ran_keyed.book) (sym records) c.book_kept;
          ring = subst (RingIn Nought) (sym records) c.ring;
        };
        grows = λ u a h. h;
        eui = eui;
        made = subst (Each _) (sym made) tt;
      })))
      (λ (ne : number ≢ 0).
      let h = ran_keyed.meters number x ne there in
      after_meter ciphers (running_world w) number x d there eui given ran_keyed ne
      (record {
        node = record {
          ring = subst (λ u. RingIn (RingOk ran_keyed.book given u) d.node.store.records) (sym eui)
              (subst (RingIn (RingOk ran_keyed.book given x.eui)) (sym records) h.ring);
          session = peer (ran_keyed.roles number x ne there);
        };
        eui = eui;
        role = role;
        made = subst (Each _) (sym made) tt;
      }))
      (cases_eq number 0)

  -- a restart leaves no session
  no_session : (eui : Eui) (role : Role) (r : Records) → IsMeter role → IfSome (memory_by (memory_of role r)) (λ m. PeerIs eui m.session)
  no_session eui Coordinator r meter = absurd meter
  no_session eui (Meter psk) r meter = by_station (station_of r)
    where
      by_station : (o : Result StationMemory BadStore) → IfSome (memory_by (reading o (λ l. Ok (remembering l [])))) (λ m. PeerIs eui m.session)
      by_station (Ok l) = tt
      by_station (Err bad) = tt

  pub restart_keyed : (number : ℕ) → Good (restart ciphers w number)
  unfolding restart
  restart_keyed number = once _ (at_node number _
      (λ x there. taken_none _ refl (same_store number x (restarts x) there refl refl refl refl (no_session x.eui x.role x.store.records))))

  held_session : (number : ℕ) (x : Node) → node_at w number ≡ Some x → number ≢ 0 → IfSome x.memory (λ m. PeerIs x.eui m.session)
  held_session number x there ne = (k.meters number x ne there).session

  pub cut_keyed : (number nth : ℕ) (keeps_new : Bool) → Good (cut ciphers w number nth keeps_new)
  unfolding cut
  cut_keyed number nth keeps_new = once _ (at_node number _ (λ x there. taken_none _ refl
      (same_store number x _ there refl refl refl refl
      (λ meter. held_session number x there (λ e. not_coordinator x meter (k.coordinator x (ap (slice_get w.nodes) (sym e) ∙ there)).role)))))
    where
      not_coordinator : (x : Node) → IsMeter x.role → x.role ≡ Coordinator → ⊥
      not_coordinator x meter e = subst IsMeter e meter

  -- time
  ticked_session : (now : ℕ) (eui : Eui) (o : Option Memory) (psk : Key) → IfSome o (λ m. PeerIs eui m.session)
      → IfSome (option_map (meters.tick now) o) (λ m. PeerIs eui m.session)
  ticked_session now eui None psk h = tt
  ticked_session now eui (Some m) psk h = by_session m.session h
    where
      young : (s : MeterSession) (b : Bool) → PeerIs eui (Some s) → PeerIs eui (if b then Some s else None)
      young s true p = p
      young s false p = tt

      by_session : (s : Option MeterSession) → PeerIs eui s → PeerIs eui (option_map_or (meters.session_within now) s None)
      by_session None p = tt
      by_session (Some s) p = young s (calls.is_within SESSION_TIME now s.since) p

  ticked_meter : (now : ℕ) (x : Node) (b : book.Book) → IsMeter x.role → MeterOk b given x → MeterOk b given (ticked now x)
  ticked_meter now x b meter h = record { ring = h.ring; session = by_role x.role meter }
    where
      by_role : (role : Role) → IsMeter role
          → IfSome (ticked now (record { role = role; eui = x.eui; store = x.store; memory = x.memory })).memory (λ m. PeerIs x.eui m.session)
      by_role Coordinator meter = absurd meter
      by_role (Meter psk) meter = ticked_session now x.eui x.memory psk h.session

  record WasTicked (now n : ℕ) (y : Node) : Type 0 where
    node : Node
    is : node_at w n ≡ Some node
    same : ticked now node ≡ y

  was_ticked : (now n : ℕ) (y : Node) → slice_get (map (ticked now) w.nodes) n ≡ Some y → WasTicked now n y
  was_ticked now n y is = by_node (slice_get w.nodes n) refl (sym (slice_get-map (ticked now) w.nodes n) ∙ is)
    where
      by_node : (o : Option Node) → slice_get w.nodes n ≡ o → option_map (ticked now) o ≡ Some y → WasTicked now n y
      by_node None there e = absurd (no_some _ e)
      by_node (Some x) there e = record { node = x; is = there; same = same_Some _ _ e }

  pub tick_keyed : (seconds : ℕ) → Good (tick w seconds)
  unfolding tick
  tick_keyed seconds = once _ (taken_none _ refl (record {
    book = k.book;
    coordinator = λ c is. let t = was_ticked now 0 c is in let h = k.coordinator t.node t.is in
        subst (CoordinatorOk k.book) t.same (record { role = h.role; book_kept = h.book_kept; ring = h.ring });
    meters = λ n y ne is. let t = was_ticked now n y is in
        subst (MeterOk k.book given) t.same (ticked_meter now t.node k.book (k.roles n t.node ne t.is) (k.meters n t.node ne t.is));
    made = k.made;
    roles = λ n y ne is. let t = was_ticked now n y is in subst (λ (z : Node). IsMeter z.role) t.same (k.roles n t.node ne t.is);
    apart = λ i j y z a b same.
        let p = was_ticked now i y a in
        let q = was_ticked now j z b in
        k.apart i j p.node q.node p.is q.is (ap (λ (u : Node). book.eui_number u.eui) p.same ∙ same ∙ sym (ap (λ (u : Node). book.eui_number u.eui) q.same));
    still = λ none. k.still (no_nodes w.nodes none);
    named = λ n y is. let t = was_ticked now n y is in subst (λ (z : Node). IsEui z.eui) t.same (k.named n t.node t.is);
  }))
    where
      now : ℕ
      now = w.clock + seconds

      no_nodes : (xs : List Node) → map (ticked now) xs ≡ [] → xs ≡ []
      no_nodes [] e = refl
      no_nodes (x ∷ xs) e = absurd (cc)

  -- # deliver, inject

  meter_hears_did : (x : Node) (psk : Key) → x.role ≡ Meter psk → (got : Accepted) (cost note now : ℕ) (b : book.Book) → RoutesFit got → NodeOk x
      → MeterOk b given x → Each (TagOk b given) w.made
      → list_any (is_forged_tag w.made) (acts x (Err drops.Store) (λ m. meters.hear_meter (identity ciphers x psk) m got cost note now)).opened ≡ false
      → MeterDid b given x (acts x (Err drops.Store) (λ m. meters.hear_meter (identity ciphers x psk) m got cost note now))
  meter_hears_did x psk role got cost note now b routes good h each honest =
      meter_acts b given x (Err drops.Store) (λ m. meters.hear_meter (identity ciphers x psk) m got cost note now) w.made good h each (all_made w.made _ honest)
      (λ r. (meter_reception r).took)
      (λ m here kept session. meter_plan x.eui m dropped took_in (λ r. (meter_reception r).took) took_same kept.station.range.ring session _
      (meter_hears (identity ciphers x psk) m (heard_given got cost note now) kept.station.range.ring session
      (λ peer packet granted are right is. fits.granted psk peer packet granted (pair_octets x m psk kept role) are right is)
      (λ octets join index read e. (read_fits join octets read).index index e) got routes.payload refl))

  coordinator_hears_did : (x : Node) (got : Accepted) (cost note now : ℕ) (b : book.Book) → RoutesFit got → NodeOk x → CoordinatorOk b x
      → let d : NodeStep (Result CoordinatorHeard Dropped) = acts x (Err drops.Store)
      (λ m. coordinator_rules.hear_coordinator (record { eui = x.eui; ciphers = ciphers }) m got cost note now) in
      CoordinatorDid b given (issued_of (coordinator_reception d.answer).keyed) x d
  coordinator_hears_did x got cost note now b routes good h =
      let plan : Memory → Plan Memory (Result CoordinatorHeard Dropped) = λ m. coordinator_rules.hear_coordinator (record { eui = x.eui; ciphers = ciphers }) m
      got cost note now in
      coordinator_acts b given x (Err drops.Store) plan (issued_of (coordinator_reception (acts x (Err drops.Store) plan).answer).keyed) good h
      (λ r. (coordinator_reception r).keyed)
      (λ m here same. ap (λ r. issued_of (coordinator_reception r).keyed) (sym same))
      (λ m here kept. (hears_coordinator ciphers fits (record { eui = x.eui; ciphers = ciphers }) m (sized_at ciphers fits x m good here) b
      (h.ring m.station.ring kept.station.ring.stored) kept.station.range.ring got cost note now routes
      (λ r. (coordinator_reception r).keyed) (λ r. (coordinator_reception r).done) (λ a. (keyed_same a).0) (λ a. (keyed_same a).1) (λ f. refl)).0)

  -- a plan that is quiet, at the coordinator and at a meter
  quiet_coordinator_did : {A : Type 0} (x : Node) (halted : A) (plan : Memory → Plan Memory A) (b : book.Book) → NodeOk x → CoordinatorOk b x
      → ((m : Memory) → IsMemorySized m → Quietly m (plan m)) → CoordinatorDid b given [] x (acts x halted plan)
  quiet_coordinator_did x halted plan b good c q = coordinator_acts b given x halted plan [] good c (λ a. None) (λ m here said. refl)
      (λ m here kept. quiet_coordinator b None m (plan m) (q m (sized_at ciphers fits x m good here)) (c.ring m.station.ring kept.station.ring.stored)
      kept.station.range.ring)

  pub quiet_meter_did : {A : Type 0} (x : Node) (halted : A) (plan : Memory → Plan Memory A) (b : book.Book) → NodeOk x → MeterOk b given x
      → ((m : Memory) → IsMemorySized m → Quietly m (plan m)) → MeterDid b given x (acts x halted plan)
  quiet_meter_did x halted plan b good h q = sound_acts b given x halted plan good h.ring h.session (λ m here kept session ring.
      let t = q m (sized_at ciphers fits x m good here) in
      record {
        puts = t.ring (RingOk b given x.eui) tt ring kept.station.range.ring;
        session = subst (PeerIs x.eui) (sym t.session) session;
        made = subst (Each (TagOk b given)) (sym t.made) tt;
      })

  after_answer : {A : Type 0} (number : ℕ) (d : NodeStep A) (r : A) → Keyed (world_after ciphers (running_world w) number d) given
      → Keyed (world_after ciphers (running_world w) number (record d { answer = r })) given
  unfolding world_after
  after_answer number d r h = same_keyed _ _ given h refl refl

  received_keyed : (number : ℕ) (forged : Bool) (d : NodeStep Reception)
      → (forged ≡ false → Keyed (world_after ciphers (running_world w) number d) (given ++ issued_of d.answer.keyed))
      → Good (Ok (received ciphers w number forged d))
  received_keyed number forged d h = Taken _ (λ honest. same_keyed (world_after ciphers (running_world w) number d) _ _ (h honest) refl refl)

  after_later : {A : Type 0} (number : ℕ) (reads : A → Reception) (d : NodeStep A) (more : List Issued)
      → Keyed (world_after ciphers (running_world w) number d) (given ++ more)
      → Keyed (world_after ciphers (running_world w) number (answering reads d)) (given ++ more)
  after_later number reads d more h = after_as ciphers (running_world w) number reads d (given ++ more) h

  hears_after : (number : ℕ) (x y : Node) (got : Accepted) (cost note now : ℕ) → node_at w number ≡ Some x → NodeOk y → y.role ≡ x.role → y.eui ≡ x.eui
      → RoutesFit got
      → (number ≡ 0 → CoordinatorDid ran_keyed.book given [] x (stays y (tt {0}))) → (number ≢ 0 → MeterOk ran_keyed.book given y)
      → list_any (is_forged_tag w.made) (hearing_step ciphers y got cost note now).opened ≡ false
      → Keyed (world_after ciphers (running_world w) number (hearing_step ciphers y got cost note now))
      (given ++ issued_of (hearing_step ciphers y got cost note now).answer.keyed)
  hears_after number x y got cost note now there good role eui routes coordinator meter = by_role y.role refl
    where
      hears_as : Role → NodeStep Reception
      hears_as Coordinator = answering coordinator_reception
          (acts y (Err drops.Store) (λ m. coordinator_rules.hear_coordinator (record { eui = y.eui; ciphers = ciphers }) m got cost note now))
      hears_as (Meter psk) = answering meter_reception (acts y (Err drops.Store) (λ m. meters.hear_meter (identity ciphers y psk) m got cost note now))

      wrong : y.role ≡ Coordinator → number ≢ 0 → ⊥
      wrong is ne = subst IsMeter (sym role ∙ is) (ran_keyed.roles number x ne there)

      not_meter : (psk : Key) → Coordinator ≡ Meter psk → ⊥
      not_meter psk e = cc

      by_role : (r : Role) → y.role ≡ r → list_any (is_forged_tag w.made) (hears_as r).opened ≡ false
          → Keyed (world_after ciphers (running_world w) number (hears_as r)) (given ++ issued_of (hears_as r).answer.keyed)
      by_role Coordinator is honest = ⊎_elim
          (λ (e : number ≡ 0).
          let c = coordinator e in
          let plan : Memory → Plan Memory (Result CoordinatorHeard Dropped) = λ m. coordinator_rules.hear_coordinator
          (record { eui = y.eui; ciphers = ciphers }) m got cost note now in
          let did = coordinator_hears_did y got cost note now c.book routes good c.node in
          let d = acts y (Err drops.Store) plan in
          let more = issued_of (coordinator_reception d.answer).keyed in
          after_later number coordinator_reception d more (after_coordinator ciphers (running_world w) number x d there (did.eui ∙ eui) given more ran_keyed e
          (record { book = did.book; node = did.node; grows = λ u a h. did.grows u a (c.grows u a h); eui = did.eui ∙ eui; made = did.made })))
          (λ (ne : number ≢ 0). absurd (wrong is ne)) (cases_eq number 0)
      by_role (Meter psk) is honest = ⊎_elim
          (λ (e : number ≡ 0). absurd (not_meter psk (sym (ran_keyed.coordinator x (ap (slice_get w.nodes) (sym e) ∙ there)).role ∙ sym role ∙ is)))
          (λ (ne : number ≢ 0).
          let did = meter_hears_did y psk is got cost note now ran_keyed.book routes good (meter ne) ran_keyed.made honest in
          let d = acts y (Err drops.Store) (λ m. meters.hear_meter (identity ciphers y psk) m got cost note now) in
          let none : issued_of (meter_reception d.answer).keyed ≡ [] = ap issued_of (no_keys d.answer) in
          after_later number meter_reception d _
          (subst (Keyed (world_after ciphers (running_world w) number d)) (sym (append-nil given) ∙ ap (λ more. given ++ more) (sym none))
          (after_meter ciphers (running_world w) number x d there (did.eui ∙ eui) given ran_keyed ne
          (record { node = did.node; eui = did.eui ∙ eui; role = did.role ∙ role; made = did.made }))))
          (cases_eq number 0)

  arrives_keyed : (number : ℕ) (x : Node) (octets : List ℕ) (cost : ℕ) → node_at w number ≡ Some x → AreOctets octets
      → Good (Ok (arrives ciphers w number x octets cost))
  unfolding arrives
  arrives_keyed number x octets cost there are = by_answer (acts x (Err frames.Halted) plan).answer refl
    where
      plan : Memory → Plan Memory (Result Accepted FrameRefusal)
      plan m = of_station m (accept m.station x.eui (arrived ciphers octets))

      did : DidOk x (acts x (Err frames.Halted) plan)
      did = acts_ok x (Err frames.Halted) plan (node_ok number x there) (λ m here kept sized. accept_ok ciphers fits octets are x.role m x.eui sized)

      quiet : (m : Memory) → IsMemorySized m → Quietly m (plan m)
      quiet m sized = accept_quietly ciphers fits octets are m x.eui

      coordinator : number ≡ 0 → CoordinatorDid ran_keyed.book given [] x (acts x (Err frames.Halted) plan)
      coordinator e = quiet_coordinator_did x (Err frames.Halted) plan ran_keyed.book (node_ok number x there)
          (ran_keyed.coordinator x (ap (slice_get w.nodes) (sym e) ∙ there)) quiet

      meter : number ≢ 0 → MeterDid ran_keyed.book given x (acts x (Err frames.Halted) plan)
      meter ne = quiet_meter_did x (Err frames.Halted) plan ran_keyed.book (node_ok number x there) (ran_keyed.meters number x ne there) quiet

      routes : (got : Accepted) → (acts x (Err frames.Halted) plan).answer ≡ Ok got → RoutesFit got
      routes got e =
          let a = acts_answered x frames.Halted frames.Store plan
          (λ m. accept_failed ciphers fits octets are m.station _ (accept_is m.station x.eui (arrived ciphers octets))) got e in
          accepted_routes ciphers fits octets are a.memory.station (ring_readable x a.memory (node_ok number x there) a.there) _ got
          (accept_is a.memory.station x.eui (arrived ciphers octets)) a.is

      by_answer : (r : Result Accepted FrameRefusal) → (acts x (Err frames.Halted) plan).answer ≡ r
          → Good (Ok (accepted_by ciphers w number octets cost (acts x (Err frames.Halted) plan)))
      by_answer (Err reason) e =
          rw e (taken_none (
            world_after ciphers (running_world w) number (record (acts x (Err frames.Halted) plan) { answer = Err reason }),
            trace_of (happenings w (frame_word reason)),
          ) refl
          (after_answer number (acts x (Err frames.Halted) plan) (Err reason)
          (quiet_after ciphers fits (running_world w) given ran_keyed number x there (node_ok number x there) (Err frames.Halted) plan quiet)))
      by_answer (Ok got) e =
          let y = (acts x (Err frames.Halted) plan).node in
          let d = hearing_step ciphers y got cost (note_by w octets got.path) w.clock in
          rw e (received_keyed number (forged_by w octets got.path || list_any (is_forged_tag w.made) d.opened) d (λ honest.
          hears_after number x y got cost (note_by w octets got.path) w.clock there did.node did.role did.eui (routes got e)
          (λ first. let c = coordinator first in record { book = c.book; node = c.node; grows = c.grows; eui = did.eui; made = tt }) (λ ne. (meter ne).node)
          (or_false (forged_by w octets got.path) _ honest)))

  pub flight_octets : (number : ℕ) (f : Flight) → flight_at w number ≡ Some f → FlightFits f
  flight_octets number f = by_number (number == 0)
    where
      by_number : (b : Bool) → (if b then None else slice_get w.flights (number - 1)) ≡ Some f → FlightFits f
      by_number true e = absurd (no_some f e)
      by_number false e = at_place FlightFits w.flights (number - 1) f e flown

  pub deliver_keyed : (flight number cost : ℕ) → Good (deliver ciphers w flight number cost)
  unfolding deliver
  deliver_keyed flight number cost = once _ (at_node number _ (λ x there.
      by_option _ (flight_at w flight) (Err faults.Flight) (λ f is. branch f.lost _ _ (λ _. Fails faults.Flight)
      (λ _. arrives_keyed number x f.octets cost there (flight_octets flight f is))) (Fails faults.Flight)))

  pub inject_keyed : (number cost : ℕ) (octets : List ℕ) → AreOctets octets → Good (inject ciphers w number cost octets)
  unfolding inject
  inject_keyed number cost octets are = once _ (at_node number _ (λ x there. arrives_keyed number x octets cost there are))
