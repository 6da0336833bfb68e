-- What an event answers of checks is what the history before it says.
use Rattle.std.proofs.Common.{◌≡◌, ℕ, Bool, true, false, List, [], ◌∷◌, ◌++◌, Option, Some, None, Result, Ok, Err, refl, sym, ap, ◌∙◌, subst}
use Rattle.std.specs.Prelude.{All, is_some, if◌then◌else◌, ◌&&◌, ◌==◌}
use Rattle.std.proofs.lemmas.Bool.{and_parts, eq-eqb, eqb-true}
use Rattle.std.proofs.lemmas.List.Elements.{All-head, All-tail}
use Rattle.std.proofs.lemmas.Option.{same_Some}
use Rattle.plc_base.specs.declared.key.Key.{Key}
use Rattle.mesh_header.specs.declared.unit.Unit.TheVariants as units
use Rattle.loadng_messages.specs.declared.message.Message.{Message}
use Rattle.loadng_messages.specs.declared.message.Message.TheVariants.{Rreq, Rrep, Rerr}
use Rattle.neighbour_checks.specs.declared.tables.OpenCheck.{OpenCheck}
use Rattle.neighbour_checks.specs.declared.tables.ListedNeighbour.{ListedNeighbour}
use Rattle.neighbour_checks.specs.History as checking
use Rattle.neighbour_checks.specs.Neighbours.{Neighbours, is_awaited, is_listed, waits_for}
use Rattle.node_rules.specs.Accepted.{Accepted}
use Rattle.node_rules.specs.declared.heard.Path.{Path}
use Rattle.node_rules.specs.declared.heard.Path.TheVariants as paths
use Rattle.node_rules.specs.declared.heard.Reply.{Reply}
use Rattle.node_rules.specs.declared.refusal.Dropped.TheVariants as drops
use Rattle.node_rules.specs.Ciphers.{network}
use Rattle.node_rules.specs.Memory.{Node}
use Rattle.node_rules.specs.MemoryDrafts.{in_memory}
use Rattle.node_rules.specs.NodeSteps.{NodeStep}
use Rattle.node_rules.specs.Replies.{reply_among}
use Rattle.reach_rules.specs.declared.heard.CommandHeard.{CommandHeard}
use Rattle.reach_rules.specs.declared.heard.CommandHeard.TheVariants as heard_of
use Rattle.reach_rules.specs.declared.heard.DiscoveryHeard.{DiscoveryHeard}
use Rattle.reach_rules.specs.declared.heard.DiscoveryHeard.TheVariants as discovered
use Rattle.reach_rules.specs.declared.refusal.DiscoveryDropped.{DiscoveryDropped}
use Rattle.reach_rules.specs.declared.refusal.ReachDropped.{ReachDropped}
use Rattle.reach_rules.specs.declared.refusal.ReachDropped.TheVariants as reach_drops
use Rattle.reach_rules.specs.declared.refusal.ScanRefusal.{ScanRefusal}
use Rattle.reach_rules.specs.declared.refusal.ScanRefusal.TheVariants as scan_faults
use Rattle.reach_rules.specs.declared.refusal.AskRefusal.TheVariants as ask_faults
use Rattle.reach_rules.specs.declared.refusal.BroadcastRefusal.TheVariants as broadcast_faults
use Rattle.reach_rules.specs.declared.refusal.ChooseRefusal.TheVariants as choices
use Rattle.node_rules.specs.RestartStates.{memory_of}
use Rattle.reach_rules.specs.PathRequests.{ask_path}
use Rattle.reach_rules.specs.Broadcasts.{broadcast}
use Rattle.reach_rules.specs.Beacons.{begin_scan, choose_agent, hear_discovery, is_discovery}
use Rattle.reach_rules.specs.CheckedReplies.{is_unbelieved, message_of}
use Rattle.reach_rules.specs.ReachingNodes.{Beside}
use Rattle.reach_rules.specs.FurtherReceptions.{NeighbourCommand, command_of, hear_command}
use Rattle.line_rules.specs.Answers.{Reception, command_word, discovery_word, drop_word, scan_word}
use Rattle.line_events.specs.declared.event.Answer.{Answer}
use Rattle.line_events.specs.declared.event.Answer.TheVariants as answers
use Rattle.line_events.specs.declared.event.Event.{Event}
use Rattle.line_events.specs.declared.event.Event.TheVariants as events
use Rattle.line_events.specs.Events.{AreEvents, IsEvent}
use Rattle.line_rules.specs.Forgery.{Comes, accepting}
use Rattle.line_rules.specs.Further.{acknowledged_if, acknowledging, adds_frames, beside_at, checked, commanded, due, is_dropped, line_step, reaches}
use Rattle.line_rules.specs.Further.{sends_nothing, unbelieved, with_beside, with_check}
use Rattle.line_rules.specs.FurtherRuns.{AreOfHistoryAfter, IsOfHistory, check_history}
use Rattle.line_rules.specs.Logs.{LogsKept}
use Rattle.line_rules.specs.Runs.{Entry, IsRun, events_of}
use Rattle.line_rules.specs.Steps.{Step, hearing_outcome, identity, note_by, world_after}
use Rattle.line_rules.specs.Worlds.{Trace, World, node_at, start}
use Rattle.line_laws.specs.CheckHistories.{AreCheckedRightAfter, EveryCheckIsRight, IsAwaited, IsBlacklisted, IsCheckedRight, IsListed, IsNotAwaited, IsOpen}
use Rattle.line_laws.specs.FurtherLines.{HoldsAfter}
use Rattle.line_laws.specs.ReachTraces.{FrameCame}
use Rattle.line_laws.proofs.CheckHistories.{listed_is_there, open_is_there, some_listed, some_open}
use Rattle.line_laws.proofs.FurtherEvents.{none_accepts}
use Rattle.line_laws.proofs.FurtherOctets.{every_run_holds}
use Rattle.line_laws.proofs.ReachCame.{Says, acts_says, command_came, command_said}
use Rattle.line_laws.proofs.ReachHistory.{every_history, start_history}
use Rattle.line_laws.proofs.ReachSteps.{Asks, Bcasts, Checked, Chooses, Commands, Discovers, Fails, Hears, IsAccepted, IsReachStep, Known, Opens, Restarts}
use Rattle.line_laws.proofs.ReachSteps.{Rests, Scans, Ticks, Unbelieves, after_accepting, heard_node, reach_step_is, same_comes}
use Rattle.line_laws.proofs.ReachReported.{QuietIn, old_quiet}
use Rattle.line_laws.proofs.ReachWords.{NotNew, Quiet, ask_quiet, broadcast_quiet, choice_quiet, drop_quiet, hears_quiet, idle_quiet, is_new, lost_quiet}
use Rattle.line_laws.proofs.ReachWords.{not_new, restart_quiet}
use Rattle.line_laws.proofs.TracesRight.{comes_brought, entry, false_true}

same_Ok : {A E : Type 0} (x y : A) (r : Result A E) → r ≡ Ok x → r ≡ Ok y → x ≡ y
same_Ok x y r e f = cc (e, f)

-- a word of further reach is no other word
other_word : (a b : Answer) → NotNew a → is_new b ≡ true → a ≡ b → ⊥
other_word a b old new e = false_true (sym old ∙ ap is_new e ∙ new)

new_word : (a b : Answer) → Quiet a → is_new b ≡ true → a ≡ b → ⊥
new_word a b old = other_word a b (not_new a old)

module _ (w : World) (before : List Entry) (h : IsOfHistory before w) (n : ℕ) where
  abbrev CheckedIn : Event → Step → Type 0
  CheckedIn event (Ok r) = IsCheckedRight w before (entry n event r)
  CheckedIn event (Err fault) = Unit {0}

  other_checked : (event : Event) (v : World) (t : Trace) → NotNew t.happenings.answer → (IsBlacklisted w before event → ⊥)
      → IsCheckedRight w before (entry n event (v, t))
  other_checked event v t old none = record {
    blacklisted = (λ e. absurd (other_word t.happenings.answer answers.Blacklisted old refl e), λ b. absurd (none b));
    acked = λ e. absurd (other_word t.happenings.answer answers.Acked old refl e);
    not_awaited = λ e. absurd (other_word t.happenings.answer answers.NotAwaited old refl e);
  }

  quiet_checked : (event : Event) (v : World) (t : Trace) → Quiet t.happenings.answer → (IsBlacklisted w before event → ⊥)
      → IsCheckedRight w before (entry n event (v, t))
  quiet_checked event v t quiet none = other_checked event v t (not_new t.happenings.answer quiet) none

  -- # Where no request was accepted

  unasked : (event : Event) → ((number : ℕ) (x : Node) (octets : List ℕ) (got : Accepted) → Comes w event number octets → node_at w number ≡ Some x
      → (accepting network x octets).answer ≡ Ok got → ⊥) → IsBlacklisted w before event → ⊥
  unasked event none b = none b.number b.came.node b.came.octets b.came.got b.came.comes b.came.there b.came.is

  -- octets of discovery are accepted by nobody
  undiscovered : (event : Event) (number : ℕ) (octets : List ℕ) → Comes w event number octets → is_discovery octets ≡ true → IsBlacklisted w before event → ⊥
  undiscovered event number octets comes is b =
      let both = same_comes w event number b.number octets b.came.octets comes b.came.comes in
      none_accepts network b.came.node b.came.octets (subst (λ o. is_discovery o ≡ true) both.1 is) b.came.got b.came.is

  dropped_so : (number : ℕ) (got : Accepted) (from : ℕ) (key : Key) (count cost origin dest : ℕ) → w.checks_on ≡ true → got.path ≡ paths.Sealed from true key
      → message_of got ≡ Some (Rreq count cost origin dest) → is_listed (beside_at w number).checks from ≡ true → is_dropped w number got ≡ true
  dropped_so number got from key count cost origin dest on path message is =
      (λ i. on i && is_unbelieved (beside_at w number).checks (path i) (message i)) ∙ is

  -- what is not dropped is no request of a listed neighbour
  believed : (event : Event) (number : ℕ) (x : Node) (octets : List ℕ) (got : Accepted) → IsAccepted network w event number x octets got
      → is_dropped w number got ≡ false → IsBlacklisted w before event → ⊥
  believed event number x octets got a passes b =
      let c = b.came in
      let both = same_comes w event number b.number octets c.octets a.comes c.comes in
      let node : x ≡ c.node = same_Some x c.node (sym a.there ∙ ap (node_at w) both.0 ∙ c.there) in
      let same : got ≡ c.got = same_Ok got c.got (accepting network c.node c.octets).answer
      (sym (λ i. (accepting network (node i) (both.1 i)).answer) ∙ a.is) c.is in
      let is : is_listed (beside_at w b.number).checks b.from ≡ true = ap (λ (s : Neighbours). is_listed s b.from) (h.checks b.number)
      ∙ listed_is_there (record { neighbour = b.from; since = b.since }) (λ (l : ListedNeighbour). l.neighbour == b.from) (check_history b.number [] before)
      b.listed (eq-eqb b.from b.from refl) in
      let dropped : is_dropped w b.number c.got ≡ true = dropped_so b.number c.got b.from c.key c.count c.cost c.origin c.dest b.on c.path c.carries is in
      false_true (sym passes ∙ (λ i. is_dropped w (both.0 i) (same i)) ∙ dropped)

  -- # A request that is dropped

  blacklisted_is : (event : Event) (number : ℕ) (x : Node) (octets : List ℕ) (got : Accepted) → IsAccepted network w event number x octets got
      → is_dropped w number got ≡ true → IsBlacklisted w before event
  blacklisted_is event number x octets got a is =
      let both = and_parts w.checks_on (is_unbelieved s got.path (message_of got)) is in
      by_path both.0 got.path refl (message_of got) refl both.1
    where
      s : Neighbours
      s = (beside_at w number).checks

      by_path : w.checks_on ≡ true → (p : Path) → got.path ≡ p → (o : Option Message) → message_of got ≡ o → is_unbelieved s p o ≡ true
          → IsBlacklisted w before event
      by_path on (paths.Up from) e o m t = absurd (cc (t))
      by_path on (paths.Down from) e o m t = absurd (cc (t))
      by_path on (paths.Sealed from false key) e o m t = absurd (cc (t))
      by_path on (paths.Sealed from true key) e None m t = absurd (cc (t))
      by_path on (paths.Sealed from true key) e (Some (Rrep count cost origin to)) m t = absurd (cc (t))
      by_path on (paths.Sealed from true key) e (Some (Rerr lost to)) m t = absurd (cc (t))
      by_path on (paths.Sealed from true key) e (Some (Rreq count cost origin dest)) m t =
          let l = some_listed (λ (k : ListedNeighbour). k.neighbour == from) (check_history number [] before)
          (sym (ap (λ (z : Neighbours). is_listed z from) (h.checks number)) ∙ t) in
          record {
            on = on;
            number = number;
            from = from;
            came = record {
              node = x;
              there = a.there;
              octets = octets;
              comes = a.comes;
              got = got;
              is = a.is;
              key = key;
              path = e;
              count = count;
              cost = cost;
              origin = origin;
              dest = dest;
              carries = m;
            };
            since = l.neighbour.since;
            listed = subst (λ k. IsListed (record { neighbour = k; since = l.neighbour.since }) (check_history number [] before))
                (eqb-true l.neighbour.neighbour from l.passes) l.listed;
          }

  unbelieves_checked : (event : Event) (number : ℕ) (x : Node) (octets : List ℕ) (got : Accepted) → IsAccepted network w event number x octets got
      → is_dropped w number got ≡ true → IsCheckedRight w before (entry n event (unbelieved network w number (after_accepting network x octets) octets got))
  unbelieves_checked event number x octets got a is = record {
    blacklisted = (λ e. blacklisted_is event number x octets got a is, λ b. refl);
    acked = λ e. absurd (cc (e));
    not_awaited = λ e. absurd (cc (e));
  }

  -- # A command

  module _ (event : Event) (number : ℕ) (x : Node) (octets : List ℕ) (cost : ℕ) (got : Accepted) (a : IsAccepted network w event number x octets got)
      (passes : is_dropped w number got ≡ false) where
    abbrev d : NodeStep Reception
    d = heard_node network w x octets got cost

    abbrev r : World × Trace
    r = hearing_outcome network w number (after_accepting network x octets) octets got cost

    module _ (c : NeighbourCommand) (carries : command_of got ≡ Some c) where
      abbrev b : Beside
      b = beside_at w number

      came : c.code ≡ 3 → c.to_all ≡ false → FrameCame w event number c.from false (units.Local 3 c.body)
      came code alone =
          subst (λ t. FrameCame w event number c.from t (units.Local 3 c.body)) alone
          (subst (λ k. FrameCame w event number c.from c.to_all (units.Local k c.body)) code
          (command_came w event number x octets got c a.there a.comes a.is carries))

      no_black : (o : Result CommandHeard ReachDropped) → Says b c o → command_word o ≡ answers.Blacklisted → ⊥
      no_black (Ok heard_of.Acked) s e = cc (e)
      no_black (Ok (heard_of.Broadcast origin count body)) s e = cc (e)
      no_black (Ok heard_of.Relayed) s e = cc (e)
      no_black (Ok heard_of.Answered) s e = cc (e)
      no_black (Ok (heard_of.Path walk)) s e = cc (e)
      no_black (Err (reach_drops.Known reason)) s e = new_word (drop_word reason) answers.Blacklisted (drop_quiet reason) refl e
      no_black (Err reach_drops.Blacklisted) s e = s
      no_black (Err reach_drops.NotAwaited) s e = cc (e)
      no_black (Err reach_drops.Old) s e = cc (e)
      no_black (Err reach_drops.OriginsFull) s e = cc (e)
      no_black (Err reach_drops.Revisited) s e = cc (e)
      no_black (Err reach_drops.PathLong) s e = cc (e)

      acked_is : (o : Result CommandHeard ReachDropped) → Says b c o → command_word o ≡ answers.Acked → IsAwaited w before event
      acked_is (Ok heard_of.Acked) s e =
          let o = some_open (waits_for c.from s.number s.origin) (check_history number [] before)
          (sym (ap (λ (z : Neighbours). is_awaited z c.from s.number s.origin) (h.checks number)) ∙ s.waits) in
          record {
            number = number;
            from = c.from;
            body = c.body;
            came = came s.code s.alone;
            count = s.number;
            origin = s.origin;
            read = s.read;
            check = o.check;
            held = o.held;
            waits = o.passes;
          }
      acked_is (Ok (heard_of.Broadcast origin count body)) s e = absurd (cc (e))
      acked_is (Ok heard_of.Relayed) s e = absurd (cc (e))
      acked_is (Ok heard_of.Answered) s e = absurd (cc (e))
      acked_is (Ok (heard_of.Path walk)) s e = absurd (cc (e))
      acked_is (Err (reach_drops.Known reason)) s e = absurd (new_word (drop_word reason) answers.Acked (drop_quiet reason) refl e)
      acked_is (Err reach_drops.Blacklisted) s e = absurd s
      acked_is (Err reach_drops.NotAwaited) s e = absurd (cc (e))
      acked_is (Err reach_drops.Old) s e = absurd (cc (e))
      acked_is (Err reach_drops.OriginsFull) s e = absurd (cc (e))
      acked_is (Err reach_drops.Revisited) s e = absurd (cc (e))
      acked_is (Err reach_drops.PathLong) s e = absurd (cc (e))

      unawaited_is : (o : Result CommandHeard ReachDropped) → Says b c o → command_word o ≡ answers.NotAwaited → IsNotAwaited w before event
      unawaited_is (Err reach_drops.NotAwaited) s e = record {
        number = number;
        from = c.from;
        body = c.body;
        came = came s.code s.alone;
        count = s.number;
        origin = s.origin;
        read = s.read;
        none = λ k held. by_test k held (waits_for c.from s.number s.origin k) refl;
      }
        where
          none_there : is_awaited (checking.after_history (check_history number [] before)) c.from s.number s.origin ≡ false
          none_there = sym (ap (λ (z : Neighbours). is_awaited z c.from s.number s.origin) (h.checks number)) ∙ s.waits

          by_test : (k : OpenCheck) → IsOpen k (check_history number [] before) → (t : Bool) → waits_for c.from s.number s.origin k ≡ t
              → waits_for c.from s.number s.origin k ≡ false
          by_test k held false is = is
          by_test k held true is =
              absurd (false_true (sym none_there ∙ open_is_there k (waits_for c.from s.number s.origin) (check_history number [] before) held is))
      unawaited_is (Ok heard_of.Acked) s e = absurd (cc (e))
      unawaited_is (Ok (heard_of.Broadcast origin count body)) s e = absurd (cc (e))
      unawaited_is (Ok heard_of.Relayed) s e = absurd (cc (e))
      unawaited_is (Ok heard_of.Answered) s e = absurd (cc (e))
      unawaited_is (Ok (heard_of.Path walk)) s e = absurd (cc (e))
      unawaited_is (Err (reach_drops.Known reason)) s e = absurd (new_word (drop_word reason) answers.NotAwaited (drop_quiet reason) refl e)
      unawaited_is (Err reach_drops.Blacklisted) s e = absurd s
      unawaited_is (Err reach_drops.Old) s e = absurd (cc (e))
      unawaited_is (Err reach_drops.OriginsFull) s e = absurd (cc (e))
      unawaited_is (Err reach_drops.Revisited) s e = absurd (cc (e))
      unawaited_is (Err reach_drops.PathLong) s e = absurd (cc (e))

      commands_checked : IsCheckedRight w before (entry n event (commanded network number d.node c r))
      unfolding world_after
      commands_checked =
          let halted : Result CommandHeard ReachDropped = Err (reach_drops.Known drops.Store) in
          let o = (reaches d.node b halted (λ y. hear_command in_memory y c)).answer in
          let says : Says b c o = acts_says (Says b c) d.node halted (with_beside b (λ y. hear_command in_memory y c)) tt (λ m here. command_said b m c) in
          record {
            blacklisted = (λ e. absurd (no_black o says e), λ k. absurd (believed event number x octets got a passes k));
            acked = acked_is o says;
            not_awaited = unawaited_is o says;
          }

    -- # Another frame

    hears_checked : IsCheckedRight w before (entry n event r)
    hears_checked = quiet_checked event r.0 r.1 (hears_quiet network (after_accepting network x octets) got cost (note_by w octets got.path) w.clock)
        (believed event number x octets got a passes)

    checked_checked : IsCheckedRight w before (entry n event (checked network w number got d r))
    checked_checked = by_due (due got.path (message_of got) d.answer.answer)
      where
        with_it : World × Trace
        with_it = with_check w number (reply_among d.frames) r

        quiet : Quiet d.answer.answer
        quiet = hears_quiet network (after_accepting network x octets) got cost (note_by w octets got.path) w.clock

        by_memory : (reply : Reply) (t : Bool) → let v : World = world_after network with_it.0 number (acknowledging d.node reply) in
            let q : World × Trace = if t then adds_frames v with_it.1 (acknowledging d.node reply) else sends_nothing w (v, with_it.1) in
            IsCheckedRight w before (entry n event q)
        by_memory reply true =
            let k = acknowledging d.node reply in
            let q : World × Trace = adds_frames (world_after network with_it.0 number k) with_it.1 k in
            quiet_checked event q.0 q.1 quiet (believed event number x octets got a passes)
        by_memory reply false =
            let q : World × Trace = sends_nothing w (world_after network with_it.0 number (acknowledging d.node reply), with_it.1) in
            quiet_checked event q.0 q.1 refl (believed event number x octets got a passes)

        by_due : (o : Option Reply) → IsCheckedRight w before (entry n event (acknowledged_if network w number d.node o with_it))
        by_due None = quiet_checked event with_it.0 with_it.1 quiet (believed event number x octets got a passes)
        by_due (Some reply) = by_memory reply (is_some (acknowledging d.node reply).node.memory)

  -- # Words of scans and beacons

  scan_other : (number : ℕ) (v : World) (t : Trace) (o : Result (Unit {0}) ScanRefusal) → t.happenings.answer ≡ scan_word o
      → IsCheckedRight w before (entry n (events.Scan number) (v, t))
  scan_other number v t o is = record {
    blacklisted = (λ e. absurd (no_black o (sym is ∙ e)), λ b. absurd (comes_brought w (events.Scan number) b.number b.came.octets b.came.comes));
    acked = λ e. absurd (no_ack o (sym is ∙ e));
    not_awaited = λ e. absurd (no_wait o (sym is ∙ e));
  }
    where
      no_black : (o : Result (Unit {0}) ScanRefusal) → scan_word o ≡ answers.Blacklisted → ⊥
      no_black (Ok u) e = cc (e)
      no_black (Err scan_faults.Halted) e = cc (e)
      no_black (Err scan_faults.AlreadyJoined) e = cc (e)

      no_ack : (o : Result (Unit {0}) ScanRefusal) → scan_word o ≡ answers.Acked → ⊥
      no_ack (Ok u) e = cc (e)
      no_ack (Err scan_faults.Halted) e = cc (e)
      no_ack (Err scan_faults.AlreadyJoined) e = cc (e)

      no_wait : (o : Result (Unit {0}) ScanRefusal) → scan_word o ≡ answers.NotAwaited → ⊥
      no_wait (Ok u) e = cc (e)
      no_wait (Err scan_faults.Halted) e = cc (e)
      no_wait (Err scan_faults.AlreadyJoined) e = cc (e)

  discovery_other : (event : Event) (v : World) (t : Trace) (o : Result DiscoveryHeard DiscoveryDropped) → t.happenings.answer ≡ discovery_word o
      → (IsBlacklisted w before event → ⊥) → IsCheckedRight w before (entry n event (v, t))
  discovery_other event v t o is none = record {
    blacklisted = (λ e. absurd (no_black o (sym is ∙ e)), λ b. absurd (none b));
    acked = λ e. absurd (no_ack o (sym is ∙ e));
    not_awaited = λ e. absurd (no_wait o (sym is ∙ e));
  }
    where
      no_black : (o : Result DiscoveryHeard DiscoveryDropped) → discovery_word o ≡ answers.Blacklisted → ⊥
      no_black (Ok discovered.Beacon) e = cc (e)
      no_black (Ok discovered.Beaconed) e = cc (e)
      no_black (Err reason) e = new_word (discovery_word (Err reason)) answers.Blacklisted (lost_quiet reason) refl e

      no_ack : (o : Result DiscoveryHeard DiscoveryDropped) → discovery_word o ≡ answers.Acked → ⊥
      no_ack (Ok discovered.Beacon) e = cc (e)
      no_ack (Ok discovered.Beaconed) e = cc (e)
      no_ack (Err reason) e = new_word (discovery_word (Err reason)) answers.Acked (lost_quiet reason) refl e

      no_wait : (o : Result DiscoveryHeard DiscoveryDropped) → discovery_word o ≡ answers.NotAwaited → ⊥
      no_wait (Ok discovered.Beacon) e = cc (e)
      no_wait (Ok discovered.Beaconed) e = cc (e)
      no_wait (Err reason) e = new_word (discovery_word (Err reason)) answers.NotAwaited (lost_quiet reason) refl e

  -- # Every event

  -- no octets come in it
  abbrev Brings : Event → Type 0
  Brings event = (number : ℕ) (octets : List ℕ) → Comes w event number octets → ⊥

  unbrought : (event : Event) → Brings event → IsBlacklisted w before event → ⊥
  unbrought event none b = none b.number b.came.octets b.came.comes

  old_checked : (event : Event) (s : Step) → QuietIn s → (IsBlacklisted w before event → ⊥) → CheckedIn event s
  old_checked event (Ok r) q none = other_checked event r.0 r.1 q none
  old_checked event (Err fault) q none = tt

  checked_in : (event : Event) (s : Step) → IsReachStep network w event s → CheckedIn event s
  checked_in event s (Fails e fault) = tt
  checked_in event s (Known e t other is none) = old_checked e t (old_quiet w e t is) (unasked e none)
  checked_in event s (Rests e word idle other none) = quiet_checked e _ _ (idle_quiet word idle).0 (unasked e (λ number x octets got comes there is.
      rest_none number x octets got comes is (is_discovery octets) refl))
    where
      rest_none : (number : ℕ) (x : Node) (octets : List ℕ) (got : Accepted) → Comes w e number octets → (accepting network x octets).answer ≡ Ok got
          → (t : Bool) → is_discovery octets ≡ t → ⊥
      rest_none number x octets got comes is true found = none_accepts network x octets found got is
      rest_none number x octets got comes is false sealed = none number octets comes sealed
  checked_in event s Opens = quiet_checked events.Checks _ _ refl (unbrought events.Checks (λ k o c. comes_brought w events.Checks k o c))
  checked_in event s (Bcasts number x datagram there are) =
      quiet_checked (events.Bcast number datagram) _ _
      (broadcast_quiet (reaches x (beside_at w number) (Err broadcast_faults.Halted) (λ z. broadcast in_memory z datagram)).answer)
      (unbrought _ (λ k o c. comes_brought w (events.Bcast number datagram) k o c))
  checked_in event s (Asks from to x y target there other address) =
      quiet_checked (events.Path from to) _ _
      (ask_quiet (reaches x (beside_at w from) (Err ask_faults.Halted) (λ z. ask_path in_memory z target)).answer)
      (unbrought _ (λ k o c. comes_brought w (events.Path from to) k o c))
  checked_in event s (Scans number x m there here) = scan_other number _ _ (begin_scan m (beside_at w number).scan).answer refl
  checked_in event s (Chooses number k x psk there pair) =
      quiet_checked (events.Choose number k) _ _
      (choice_quiet (reaches x (beside_at w number) (Err choices.Halted) (λ z. choose_agent (identity network x psk) z k w.clock)).answer)
      (unbrought _ (λ i o c. comes_brought w (events.Choose number k) i o c))
  checked_in event s (Discovers e number x m octets link other there here comes over is) =
      discovery_other e _ _ (hear_discovery x.role m.station (beside_at w number).scan octets link).answer refl (undiscovered e number octets comes is)
  checked_in event s (Unbelieves e number x octets got a is) = unbelieves_checked e number x octets got a is
  checked_in event s (Commands e number x octets cost got c a low passes is) = commands_checked e number x octets cost got a passes c is
  checked_in event s (Checked e number x octets cost got a low passes none on) = checked_checked e number x octets cost got a passes
  checked_in event s (Hears e number x octets cost got a low passes none off) = hears_checked e number x octets cost got a passes
  checked_in event s (Ticks seconds) = quiet_checked (events.Tick seconds) _ _ refl (unbrought _ (λ k o c. comes_brought w (events.Tick seconds) k o c))
  checked_in event s (Restarts number x b there read) =
      quiet_checked (events.Restart number) _ _ (restart_quiet (memory_of x.role x.store.records))
      (unbrought _ (λ k o c. comes_brought w (events.Restart number) k o c))

-- # Runs

checked_from : (w : World) → LogsKept w → (before : List Entry) → IsOfHistory before w → (entries : List Entry) → AreEvents (events_of entries)
    → IsRun network w entries → All HoldsAfter entries → AreOfHistoryAfter before entries → AreCheckedRightAfter w before entries
checked_from w logs before h [] says run holds past = tt
checked_from w logs before h (x ∷ xs) says run holds past =
    let event = All-head IsEvent x.event (events_of xs) says in
    let is : CheckedIn w before h x.number x.event (Ok (x.after, x.trace)) = subst (CheckedIn w before h x.number x.event) run.2
    (checked_in w before h x.number x.event (line_step network w x.event) (reach_step_is network w logs x.event event)) in (
      is,
      checked_from x.after (All-head HoldsAfter x xs holds).logs (before ++ x ∷ []) past.0 xs (All-tail IsEvent x.event (events_of xs) says) run.3
          (All-tail HoldsAfter x xs holds) past.1,
    )

pub every_check : EveryCheckIsRight
every_check entries r = checked_from start tt [] start_history entries r.events r.run (every_run_holds entries r) (every_history entries r)
