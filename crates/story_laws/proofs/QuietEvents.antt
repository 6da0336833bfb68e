-- The events in which no meter leaves, and which change no node but their own: all that may lose power but `leave`, `deliver` and `inject`.
use Rattle.std.proofs.Common.{◌≡◌, ◌≢◌, ℕ, ◌+◌, ◌==◌, Bool, true, false, List, Option, Some, None, Result, Ok, Err, refl, ap}
use Rattle.std.specs.Prelude.{if◌then◌else◌, map}
use Rattle.std.specs.Option.{option_map_or, option_and_then}
use Rattle.plc_base.specs.declared.key.Key.{Key}
use Rattle.plc_base.specs.declared.keeper.BadStore.{BadStore}
use Rattle.store_tables.proofs.SlotTables.{slice_get-set_other}
use Rattle.node_rules.specs.declared.heard.SentHow.{SentHow}
use Rattle.node_rules.specs.declared.heard.SentHow.TheVariants as how
use Rattle.node_rules.specs.declared.refusal.CoordinatorRefusal.{CoordinatorRefusal}
use Rattle.node_rules.specs.declared.refusal.CoordinatorRefusal.TheVariants as orders
use Rattle.node_rules.specs.declared.refusal.SendRefusal.{SendRefusal}
use Rattle.node_rules.specs.declared.refusal.SendRefusal.TheVariants as refusals
use Rattle.reach_rules.specs.declared.refusal.AskRefusal.{AskRefusal}
use Rattle.reach_rules.specs.declared.refusal.AskRefusal.TheVariants as asks
use Rattle.reach_rules.specs.declared.refusal.BroadcastRefusal.{BroadcastRefusal}
use Rattle.reach_rules.specs.declared.refusal.BroadcastRefusal.TheVariants as broadcasts
use Rattle.reach_rules.specs.declared.refusal.ScanRefusal.{ScanRefusal}
use Rattle.reach_rules.specs.declared.refusal.ScanRefusal.TheVariants as scans
use Rattle.reach_rules.specs.ReachingNodes.{Beside, restarted, tick_beside}
use Rattle.node_rules.specs.Calls as calls
use Rattle.node_rules.specs.Ciphers.{Ciphers}
use Rattle.node_rules.specs.Coordinators as coordinator_rules
use Rattle.node_rules.specs.Memory.{Memory, Node, node_address}
use Rattle.node_rules.specs.MemoryDrafts.{with_station}
use Rattle.node_rules.specs.NodeSteps.{NodeStep, acts, changing, left_by, stays}
use Rattle.node_rules.specs.Plans.{carry_out, resting}
use Rattle.line_events.specs.declared.event.Answer.{Answer}
use Rattle.line_events.specs.declared.event.Answer.TheVariants as answers
use Rattle.line_events.specs.declared.event.StepFault.TheVariants as faults
use Rattle.line_rules.specs.Answers.{ask_word, broadcast_word, order_word, ordered_word, scan_word, send_word, sent_word}
use Rattle.line_rules.specs.Further.{after_ok, asks_by, bcast, path, restarts_by, restarts_further, scan, scans_by, ticks}
use Rattle.line_rules.specs.Steps.{Step, activate, allow, allowed, breaks, breaks_by, challenge, cut, happenings, has_begun, kick, lose}
use Rattle.line_rules.specs.Steps.{node_outcome, psk_of, rekey, restart_word, running_world, send, sends_by}
use Rattle.line_rules.specs.Steps.{sent_if, show, tag_of, tick, ticked, trace_of, world_after}
use Rattle.line_rules.specs.Worlds.{World, Trace}
use Rattle.line_record.specs.KeptItems.{is_left, is_power_lost}
use Rattle.line_progress.proofs.WholePlans.{Acted, Whole, Failed, acts_either}
use Rattle.line_progress.proofs.Events.{StepHas, Taken, Fails, by_option, once, at_node, at_meter, at_flight}
use Rattle.line_progress.proofs.HeldEvents.{held_at, station_of}

-- # Words

order_stays : (reason : CoordinatorRefusal) → is_left (order_word reason) ≡ false
order_stays orders.Halted = refl
order_stays orders.MetersFull = refl
order_stays orders.NotAllowed = refl
order_stays orders.IndexActive = refl
order_stays orders.NotHeld = refl
order_stays orders.NotIssued = refl
order_stays orders.SessionsFull = refl
order_stays orders.NoRandom = refl
order_stays orders.WaitingFull = refl
order_stays orders.SeqSpent = refl
order_stays orders.CounterSpent = refl
order_stays orders.Store = refl

ordered_stays : {A : Type 0} (word : Answer) (r : Result A CoordinatorRefusal) → is_left word ≡ false → is_left (ordered_word word r) ≡ false
ordered_stays word (Ok a) is = is
ordered_stays word (Err reason) is = order_stays reason

send_stays : (reason : SendRefusal) → is_left (send_word reason) ≡ false
send_stays refusals.Halted = refl
send_stays refusals.NotJoined = refl
send_stays refusals.BadSize = refl
send_stays refusals.ToSelf = refl
send_stays refusals.WaitingFull = refl
send_stays refusals.SeqSpent = refl
send_stays refusals.CounterSpent = refl
send_stays refusals.Store = refl

sent_stays : (r : Result SentHow SendRefusal) → is_left (sent_word r) ≡ false
sent_stays (Ok how.Sent) = refl
sent_stays (Ok how.Waiting) = refl
sent_stays (Err reason) = send_stays reason

broadcast_stays : (r : Result (Unit {0}) BroadcastRefusal) → is_left (broadcast_word r) ≡ false
broadcast_stays (Ok u) = refl
broadcast_stays (Err broadcasts.Halted) = refl
broadcast_stays (Err broadcasts.NotJoined) = refl
broadcast_stays (Err broadcasts.BadSize) = refl
broadcast_stays (Err broadcasts.NumberSpent) = refl
broadcast_stays (Err broadcasts.CounterSpent) = refl
broadcast_stays (Err broadcasts.Store) = refl

ask_stays : (r : Result (Unit {0}) AskRefusal) → is_left (ask_word r) ≡ false
ask_stays (Ok u) = refl
ask_stays (Err asks.Halted) = refl
ask_stays (Err asks.NotJoined) = refl
ask_stays (Err asks.ToSelf) = refl
ask_stays (Err asks.NoRoute) = refl
ask_stays (Err asks.CounterSpent) = refl
ask_stays (Err asks.Store) = refl

scan_stays : (r : Result (Unit {0}) ScanRefusal) → is_left (scan_word r) ≡ false
scan_stays (Ok u) = refl
scan_stays (Err scans.Halted) = refl
scan_stays (Err scans.AlreadyJoined) = refl

restart_stays : (r : Result Memory BadStore) → is_left (restart_word r) ≡ false
restart_stays (Ok m) = refl
restart_stays (Err bad) = refl

restart_keeps : (r : Result Memory BadStore) → is_power_lost (restart_word r) ≡ false
restart_keeps (Ok m) = refl
restart_keeps (Err bad) = refl

break_stays : (x : Node) (change : Memory → Memory) → is_left (acts x answers.Halted (λ m. changing answers.Broken (change m))).answer ≡ false
unfolding acts carry_out resting
break_stays x change = by_memory x.memory refl
  where
    by_act : (m : Memory) → Acted (changing answers.Broken (change m)) (acts x answers.Halted (λ n. changing answers.Broken (change n)))
        → is_left (acts x answers.Halted (λ n. changing answers.Broken (change n))).answer ≡ false
    by_act m (Whole a f g) = ap is_left a
    by_act m (Failed a f g) = ap is_left a

    by_memory : (o : Option Memory) → x.memory ≡ o → is_left (acts x answers.Halted (λ m. changing answers.Broken (change m))).answer ≡ false
    by_memory None e =
        λ i. is_left (option_map_or (λ m. left_by x (carry_out x.store.records x.store.cut (changing answers.Broken (change m)))) (e i)
        (stays x answers.Halted)).answer
    by_memory (Some m) e = by_act m (acts_either x m answers.Halted (λ n. changing answers.Broken (change n)) e)

-- # Events at one node

-- each other node is as before
abbrev pub OthersStay : World → ℕ → List Node → Type 0
OthersStay w node ys = (number : ℕ) → number ≢ node → held_at ys number ≡ held_at w.nodes number

-- no meter leaves, and each node but this one is as before
pub record IsQuiet (w : World) (node : ℕ) (r : World × Trace) : Type 0 where
  pub others : OthersStay w node r.0.nodes
  pub no_leaving : is_left r.1.happenings.answer ≡ false

-- the clock goes on, and no meter leaves
pub record IsTicked (w : World) (seconds : ℕ) (r : World × Trace) : Type 0 where
  pub clock : r.0.clock ≡ w.clock + seconds
  pub no_leaving : is_left r.1.happenings.answer ≡ false
  pub no_loss : is_power_lost r.1.happenings.answer ≡ false

pub record IsRestarted (r : World × Trace) : Type 0 where
  pub no_leaving : is_left r.1.happenings.answer ≡ false
  pub no_loss : is_power_lost r.1.happenings.answer ≡ false

module _ (ciphers : Ciphers) (w : World) where
  abbrev AllQuiet : ℕ → Step → Type 0
  AllQuiet node s = StepHas (IsQuiet w node) s

  as_before : (node : ℕ) → OthersStay w node w.nodes
  as_before node number other = refl

  set_stays : {A : Type 0} (node : ℕ) (d : NodeStep A) → OthersStay w node (world_after ciphers (running_world w) node d).nodes
  unfolding world_after
  set_stays node d number other = ap (option_and_then station_of) (slice_get-set_other w.nodes node number d.node other)

  at_rest : (node : ℕ) (v : World) (d : Trace) → v.nodes ≡ w.nodes → is_left d.happenings.answer ≡ false → IsQuiet w node (v, d)
  at_rest node v d same stays =
      record { others = λ number other. ap (λ (xs : List Node). held_at xs number) same; no_leaving = stays }

  outcome_quiet : (node : ℕ) (d : NodeStep Answer) → is_left d.answer ≡ false → IsQuiet w node (node_outcome ciphers w node d)
  outcome_quiet node d stays = record { others = set_stays node d; no_leaving = stays }

  pub allow_quiet : (number : ℕ) → AllQuiet 0 (allow ciphers w number)
  unfolding allow
  allow_quiet number =
      once _ w _ (at_meter _ w number _ (λ x e. at_node _ w 0 _ (λ c f.
      by_option _ (λ psk. Ok (allowed ciphers w number (acts c (Err orders.Halted) (λ m. coordinator_rules.allow m x.eui psk)))) (psk_of x) _
      (λ psk g. Taken _ (record { others = set_stays 0 _; no_leaving = ordered_stays answers.Allowed _ refl })) (Fails faults.Node))))

  sent_quiet : (from to : ℕ) (datagram : List ℕ) (tag : ℕ) (b : Bool) (r : World × Trace) → IsQuiet w from r
      → IsQuiet w from (sent_if w from to datagram tag b r)
  sent_quiet from to datagram tag false r q = q
  sent_quiet from to datagram tag true r q = record { others = q.others; no_leaving = q.no_leaving }

  sends_quiet : (from to : ℕ) (datagram : List ℕ) (x : Node) (address : Option ℕ) → IsQuiet w from (sends_by ciphers w from to datagram x address)
  sends_quiet from to datagram x None = at_rest from _ _ refl refl
  sends_quiet from to datagram x (Some address) =
      sent_quiet from to datagram (tag_of x) _ _ (outcome_quiet from _ (sent_stays _))

  pub send_quiet : (from to : ℕ) (datagram : List ℕ) → AllQuiet from (send ciphers w from to datagram)
  unfolding send
  send_quiet from to datagram =
      once _ w _ (at_node _ w from _ (λ x e. at_node _ w to _ (λ y f. Taken _ (sends_quiet from to datagram x (node_address y)))))

  pub lose_quiet : (number : ℕ) → AllQuiet 0 (lose w number)
  unfolding lose
  lose_quiet number = once _ w _ (at_flight _ w number _ (λ f e. Taken _ (at_rest 0 _ _ refl refl)))

  breaks_by_quiet : (number : ℕ) (x : Node) (next : Option ℕ) → IsQuiet w number (breaks_by ciphers w number x next)
  breaks_by_quiet number x None = at_rest number _ _ refl refl
  breaks_by_quiet number x (Some next) = outcome_quiet number _ (break_stays x (λ m. with_station (calls.broke next m.station) m))

  pub breaks_quiet : (number next : ℕ) → AllQuiet number (breaks ciphers w number next)
  unfolding breaks
  breaks_quiet number next =
      once _ w _ (at_node _ w number _ (λ x e. at_node _ w next _ (λ y f. Taken _ (breaks_by_quiet number x (node_address y)))))

  pub cut_quiet : (number nth : ℕ) (keeps_new : Bool) → AllQuiet number (cut ciphers w number nth keeps_new)
  unfolding cut
  cut_quiet number nth keeps_new = once _ w _ (at_node _ w number _ (λ x e. Taken _ (outcome_quiet number _ refl)))

  pub show_quiet : (number : ℕ) → AllQuiet number (show w number)
  unfolding show
  show_quiet number = once _ w _ (at_node _ w number _ (λ x e. Taken _ (at_rest number _ _ refl refl)))

  pub rekey_quiet : (index : ℕ) (key : Key) → AllQuiet 0 (rekey ciphers w index key)
  unfolding rekey
  rekey_quiet index key = once _ w _ (at_node _ w 0 _ (λ c e. Taken _ (outcome_quiet 0 _ (ordered_stays answers.Drawn _ refl))))

  pub challenge_quiet : (number : ℕ) → AllQuiet 0 (challenge ciphers w number)
  unfolding challenge
  challenge_quiet number =
      once _ w _ (at_meter _ w number _ (λ x e. at_node _ w 0 _ (λ c f. Taken _ (outcome_quiet 0 _ (ordered_stays answers.Challenged _ refl)))))

  either_quiet : (node : ℕ) (b : Bool) (p q : World × Trace) → IsQuiet w node p → IsQuiet w node q → IsQuiet w node (if b then p else q)
  either_quiet node true p q one other = one
  either_quiet node false p q one other = other

  pub activate_quiet : (number index : ℕ) → AllQuiet 0 (activate ciphers w number index)
  unfolding activate
  activate_quiet number index =
      once _ w _ (at_node _ w number _ (λ x e. at_node _ w 0 _ (λ c f.
      Taken _ (either_quiet 0 (number == 0) _ _ (outcome_quiet 0 _ (ordered_stays answers.Activated _ refl))
      (outcome_quiet 0 _ (ordered_stays answers.Ordered _ refl))))))

  pub kick_quiet : (number : ℕ) → AllQuiet 0 (kick ciphers w number)
  unfolding kick
  kick_quiet number =
      once _ w _ (at_meter _ w number _ (λ x e. at_node _ w 0 _ (λ c f. Taken _ (outcome_quiet 0 _ (ordered_stays answers.Kicked _ refl)))))

  pub bcast_quiet : (number : ℕ) (datagram : List ℕ) → AllQuiet number (bcast ciphers w number datagram)
  unfolding bcast
  bcast_quiet number datagram =
      once _ w _ (at_node _ w number _ (λ x e. Taken _ (record { others = set_stays number _; no_leaving = broadcast_stays _ })))

  asks_quiet : (number : ℕ) (x : Node) (target : Option ℕ) → IsQuiet w number (asks_by ciphers w number x target)
  asks_quiet number x None = at_rest number _ _ refl refl
  asks_quiet number x (Some target) = record { others = set_stays number _; no_leaving = ask_stays _ }

  pub path_quiet : (from to : ℕ) → AllQuiet from (path ciphers w from to)
  unfolding path
  path_quiet from to = once _ w _ (at_node _ w from _ (λ x e. at_node _ w to _ (λ y f. Taken _ (asks_quiet from x (node_address y)))))

  scans_quiet : (number : ℕ) (o : Option Memory) → IsQuiet w number (scans_by w number o)
  scans_quiet number None = at_rest number _ _ refl refl
  scans_quiet number (Some m) = at_rest number _ _ refl (scan_stays _)

  pub scan_quiet : (number : ℕ) → AllQuiet number (scan w number)
  unfolding scan
  scan_quiet number = once _ w _ (at_meter _ w number _ (λ x e. Taken _ (scans_quiet number x.memory)))

  -- # Time, and starting anew

  pub ticks_so : (seconds : ℕ) → StepHas (IsTicked w seconds) (ticks w seconds)
  unfolding ticks tick
  ticks_so seconds = by_begun (has_begun w)
    where
      by_begun : (b : Bool)
          → StepHas (IsTicked w seconds) (after_ok (λ r. (record r.0 { beside = map (tick_beside (w.clock + seconds)) w.beside }, r.1))
          (if b then Ok (
            record (running_world w) { clock = w.clock + seconds; nodes = map (ticked (w.clock + seconds)) w.nodes },
            trace_of (happenings w answers.Ticked),
          ) else Err faults.Setup))
      by_begun true = Taken _ (record { clock = refl; no_leaving = refl; no_loss = refl })
      by_begun false = Fails faults.Setup

  restarts_so : (number : ℕ) (x : Node) (o : Result Beside BadStore) → IsRestarted (restarts_by ciphers w number x o)
  restarts_so number x (Ok b) = record { no_leaving = restart_stays _; no_loss = restart_keeps _ }
  restarts_so number x (Err bad) = record { no_leaving = refl; no_loss = refl }

  pub restart_so : (number : ℕ) → StepHas IsRestarted (restarts_further ciphers w number)
  unfolding restarts_further
  restart_so number = once _ w _ (at_node _ w number _ (λ x e. Taken _ (restarts_so number x (restarted x.store.records))))
