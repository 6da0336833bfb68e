-- What is recorded of the end of what a node keeps is what the event did.
use Rattle.std.proofs.Common.{◌≡◌, ◌≢◌, ℕ, ◌+◌, ◌-◌, ◌==◌, Bool, true, false, Some, None, Ok, refl, sym, ap, subst}
use Rattle.std.proofs.Common.{◌∙◌, ◌⊎◌, inl, inr, ⊎_elim}
use Rattle.std.specs.Prelude.{◌&&◌, if◌then◌else◌, nat_le}
use Rattle.std.proofs.lemmas.Bool.{and_parts, eq-eqb, eqb-true, eqb-false}
use Rattle.node_rules.specs.Ciphers.{Ciphers}
use Rattle.node_rules.specs.Memory.{StationMemory}
use Rattle.plc_base.specs.Times.{is_within}
use Rattle.node_rules.specs.Calls as calls
use Rattle.line_events.specs.declared.event.Answer.TheVariants as answers
use Rattle.line_events.specs.declared.event.Event.{Event}
use Rattle.line_events.specs.declared.event.Event.TheVariants as events
use Rattle.line_rules.specs.Further.{line_step, restarts_further, ticks}
use Rattle.line_rules.specs.Steps.{Step}
use Rattle.line_rules.specs.Worlds.{World, Trace}
use Rattle.line_progress.specs.EventFates.{LeftNetwork, LostPower, LostPowerUnsaid, MayLeave, Restarted, TimePassed}
use Rattle.line_progress.specs.Stations.{station_at}
use Rattle.line_progress.proofs.Events.{StepHas, outcome_has}
use Rattle.line_progress.proofs.HeldElsewhere.{events_leave}
use Rattle.line_progress.proofs.TickEvents.{time_comes}
use Rattle.line_record.specs.declared.kept.Kept.{Kept}
use Rattle.line_record.specs.declared.kept.KeptEnd.{KeptEnd}
use Rattle.line_record.specs.declared.kept.KeptEnd.TheVariants as kept_ends
use Rattle.line_record.specs.declared.recorded.RecordedEvent.{RecordedEvent}
use Rattle.line_record.specs.Acts.{act_of}
use Rattle.line_record.specs.KeptItems.{end_of, is_left, is_power_lost, is_restart, is_still, is_tick, time_of}
use Rattle.line_record.specs.Kinds.{actor_of}
use Rattle.story_laws.specs.Ends.{EndedKept, EndsAreRecorded, HaltsUnsaid, IsNamed, IsNamedEnd, IsNone}
use Rattle.story_laws.specs.Ends.{IsRecordedRight, NamesAge, NamesLeaving, NamesLoss, NamesRestart}
use Rattle.story_laws.specs.Ends.{RecordedEndsAreSo, recorded_by}
use Rattle.story_laws.proofs.Numbers.{old_recorded, recorded_old}
use Rattle.story_laws.proofs.Words.{left_word, lost_word}
use Rattle.story_laws.proofs.PlainEvents.{IsPlain, coordinator_plain, meter_plain, depot_plain, near_plain, preset_plain, checks_plain, rand_plain}
use Rattle.story_laws.proofs.PlainEvents.{joined_plain, choose_plain}
use Rattle.story_laws.proofs.QuietEvents.{IsQuiet, IsRestarted, IsTicked, allow_quiet, send_quiet, lose_quiet, breaks_quiet, cut_quiet, rekey_quiet}
use Rattle.story_laws.proofs.QuietEvents.{challenge_quiet, activate_quiet, kick_quiet, show_quiet, bcast_quiet, scan_quiet, path_quiet, ticks_so, restart_so}

true_false : true ≡ false → ⊥
true_false e = cc

-- # Kinds of events

ticked_at : (event : Event) → is_tick (act_of event) ≡ true → (seconds : ℕ) × (event ≡ events.Tick seconds)
ticked_at (events.Coordinator eui key) is = absurd (cc)
ticked_at (events.Meter eui psk) is = absurd (cc)
ticked_at (events.Depot node) is = absurd (cc)
ticked_at (events.Near a b cost) is = absurd (cc)
ticked_at (events.Counter node value) is = absurd (cc)
ticked_at (events.Number node value) is = absurd (cc)
ticked_at (events.Allow node) is = absurd (cc)
ticked_at (events.RandomOctets node value) is = absurd (cc)
ticked_at (events.Join node agent) is = absurd (cc)
ticked_at (events.Leave node) is = absurd (cc)
ticked_at (events.Send from to datagram) is = absurd (cc)
ticked_at (events.Deliver flight node cost) is = absurd (cc)
ticked_at (events.Inject node cost octets) is = absurd (cc)
ticked_at (events.Lose flight) is = absurd (cc)
ticked_at (events.Break node next) is = absurd (cc)
ticked_at (events.Tick seconds) is = (seconds, refl)
ticked_at (events.Restart node) is = absurd (cc)
ticked_at (events.Cut node nth keeps_new) is = absurd (cc)
ticked_at (events.Rekey index key) is = absurd (cc)
ticked_at (events.Challenge node) is = absurd (cc)
ticked_at (events.Activate node index) is = absurd (cc)
ticked_at (events.Kick node) is = absurd (cc)
ticked_at (events.Show node) is = absurd (cc)
ticked_at events.Checks is = absurd (cc)
ticked_at (events.Bcast node datagram) is = absurd (cc)
ticked_at (events.Scan node) is = absurd (cc)
ticked_at (events.Choose node k) is = absurd (cc)
ticked_at (events.Path from to) is = absurd (cc)

restarted_at : (node : ℕ) (event : Event) → is_restart node (act_of event) ≡ true → event ≡ events.Restart node
restarted_at node (events.Coordinator eui key) is = absurd (cc)
restarted_at node (events.Meter eui psk) is = absurd (cc)
restarted_at node (events.Depot other) is = absurd (cc)
restarted_at node (events.Near a b cost) is = absurd (cc)
restarted_at node (events.Counter other value) is = absurd (cc)
restarted_at node (events.Number other value) is = absurd (cc)
restarted_at node (events.Allow other) is = absurd (cc)
restarted_at node (events.RandomOctets other value) is = absurd (cc)
restarted_at node (events.Join other agent) is = absurd (cc)
restarted_at node (events.Leave other) is = absurd (cc)
restarted_at node (events.Send from to datagram) is = absurd (cc)
restarted_at node (events.Deliver flight other cost) is = absurd (cc)
restarted_at node (events.Inject other cost octets) is = absurd (cc)
restarted_at node (events.Lose flight) is = absurd (cc)
restarted_at node (events.Break other next) is = absurd (cc)
restarted_at node (events.Tick seconds) is = absurd (cc)
restarted_at node (events.Restart other) is = ap (λ (k : ℕ). events.Restart k) (eqb-true other node is)
restarted_at node (events.Cut other nth keeps_new) is = absurd (cc)
restarted_at node (events.Rekey index key) is = absurd (cc)
restarted_at node (events.Challenge other) is = absurd (cc)
restarted_at node (events.Activate other index) is = absurd (cc)
restarted_at node (events.Kick other) is = absurd (cc)
restarted_at node (events.Show other) is = absurd (cc)
restarted_at node events.Checks is = absurd (cc)
restarted_at node (events.Bcast other datagram) is = absurd (cc)
restarted_at node (events.Scan other) is = absurd (cc)
restarted_at node (events.Choose other k) is = absurd (cc)
restarted_at node (events.Path from to) is = absurd (cc)

-- the node at which a meter may leave is the one that the event is about, and it is no tick and no restart
leaves_there : (node : ℕ) (event : Event) → MayLeave event node
    → (is_tick (act_of event) ≡ false) × (is_restart node (act_of event) ≡ false) × ((actor_of (act_of event) == node) ≡ true)
leaves_there node (events.Coordinator eui key) is = absurd is
leaves_there node (events.Meter eui psk) is = absurd is
leaves_there node (events.Depot other) is = absurd is
leaves_there node (events.Near a b cost) is = absurd is
leaves_there node (events.Counter other value) is = absurd is
leaves_there node (events.Number other value) is = absurd is
leaves_there node (events.Allow other) is = absurd is
leaves_there node (events.RandomOctets other value) is = absurd is
leaves_there node (events.Join other agent) is = absurd is
leaves_there node (events.Leave other) is = (refl, refl, eq-eqb other node is)
leaves_there node (events.Send from to datagram) is = absurd is
leaves_there node (events.Deliver flight other cost) is = (refl, refl, eq-eqb other node is)
leaves_there node (events.Inject other cost octets) is = (refl, refl, eq-eqb other node is)
leaves_there node (events.Lose flight) is = absurd is
leaves_there node (events.Break other next) is = absurd is
leaves_there node (events.Tick seconds) is = absurd is
leaves_there node (events.Restart other) is = absurd is
leaves_there node (events.Cut other nth keeps_new) is = absurd is
leaves_there node (events.Rekey index key) is = absurd is
leaves_there node (events.Challenge other) is = absurd is
leaves_there node (events.Activate other index) is = absurd is
leaves_there node (events.Kick other) is = absurd is
leaves_there node (events.Show other) is = absurd is
leaves_there node events.Checks is = absurd is
leaves_there node (events.Bcast other datagram) is = absurd is
leaves_there node (events.Scan other) is = absurd is
leaves_there node (events.Choose other k) is = absurd is
leaves_there node (events.Path from to) is = absurd is

-- what is kept still has no kind of end
pub still_named : (w : World) (event : Event) (k : Kept) (n : ℕ) (r : World × Trace) (end : KeptEnd) → is_still end ≡ true → IsNamedEnd w event k n r end → ⊥
still_named w event k n r end still (NamesAge seconds is old) = true_false (sym still)
still_named w event k n r end still (NamesRestart is) = true_false (sym still)
still_named w event k n r end still (NamesLeaving may left) = true_false (sym still)
still_named w event k n r end still (NamesLoss lost own) = true_false (sym still)

some_none : (l : StationMemory) → Some l ≡ None → ⊥
some_none l e = cc

-- # What happens at its own node

module _ (ciphers : Ciphers) (w v : World) (d : Trace) where
  abbrev IsStep : Event → Type 0
  IsStep event = line_step ciphers w event ≡ Ok (v, d)

  module _ (number : ℕ) (l : StationMemory) (there : station_at w number ≡ Some l) (none : station_at v number ≡ None)
      (lost : d.happenings.answer ≡ answers.Store) where
    -- the event is about this node, and is no tick and no restart
    abbrev LostAt : Event → Type 0
    LostAt event = (is_tick (act_of event) ≡ false) × (is_restart number (act_of event) ≡ false) × ((actor_of (act_of event) == number) ≡ true)

    gone : station_at v number ≡ station_at w number → ⊥
    gone stays = some_none l (sym there ∙ sym stays ∙ none)

    at_own : (node : ℕ) → (number ≢ node → station_at v number ≡ station_at w number) → (node == number) ≡ true
    at_own node others = by_test (node == number) refl
      where
        by_test : (b : Bool) → (node == number) ≡ b → (node == number) ≡ true
        by_test true e = e
        by_test false e = absurd (gone (others (λ same. eqb-false node number e (sym same))))

    quiet_lost : (node : ℕ) (s : Step) → StepHas (IsQuiet w node) s → s ≡ Ok (v, d) → (node == number) ≡ true
    quiet_lost node s has e = at_own node (λ other. (outcome_has (IsQuiet w node) s (v, d) has e).others number other)

    plain_lost : (s : Step) → StepHas IsPlain s → s ≡ Ok (v, d) → ⊥
    plain_lost s has e = true_false (sym (ap is_power_lost lost) ∙ (outcome_has IsPlain s (v, d) has e).1)

    gone_ticked : (seconds : ℕ) → IsStep (events.Tick seconds) → ⊥
    gone_ticked seconds e = some_none (calls.tick (w.clock + seconds) l) (sym (time_comes ciphers w v seconds d e number l there) ∙ none)

    gone_restarted : (node : ℕ) → IsStep (events.Restart node) → ⊥
    gone_restarted node e =
        true_false (sym (ap is_power_lost lost) ∙ (outcome_has IsRestarted (restarts_further ciphers w node) (v, d) (restart_so ciphers w node) e).no_loss)

    lost_at : (event : Event) → IsStep event → LostAt event
    lost_at (events.Coordinator eui key) e = absurd (plain_lost _ (coordinator_plain ciphers w eui key) e)
    lost_at (events.Meter eui psk) e = absurd (plain_lost _ (meter_plain ciphers w eui psk) e)
    lost_at (events.Depot node) e = absurd (plain_lost _ (depot_plain ciphers w node) e)
    lost_at (events.Near a b cost) e = absurd (plain_lost _ (near_plain ciphers w a b cost) e)
    lost_at (events.Counter node value) e = absurd (plain_lost _ (preset_plain ciphers w node _) e)
    lost_at (events.Number node value) e = absurd (plain_lost _ (preset_plain ciphers w node _) e)
    lost_at (events.Allow node) e = (refl, refl, quiet_lost 0 _ (allow_quiet ciphers w node) e)
    lost_at (events.RandomOctets node value) e = absurd (plain_lost _ (rand_plain ciphers w node value) e)
    lost_at (events.Join node agent) e = absurd (plain_lost _ (joined_plain ciphers w node agent) e)
    lost_at (events.Leave node) e = (refl, refl, at_own node (events_leave ciphers w v (events.Leave node) d e number))
    lost_at (events.Send from to datagram) e = (refl, refl, quiet_lost from _ (send_quiet ciphers w from to datagram) e)
    lost_at (events.Deliver flight node cost) e = (refl, refl, at_own node (events_leave ciphers w v (events.Deliver flight node cost) d e number))
    lost_at (events.Inject node cost octets) e = (refl, refl, at_own node (events_leave ciphers w v (events.Inject node cost octets) d e number))
    lost_at (events.Lose flight) e = (refl, refl, quiet_lost 0 _ (lose_quiet ciphers w flight) e)
    lost_at (events.Break node next) e = (refl, refl, quiet_lost node _ (breaks_quiet ciphers w node next) e)
    lost_at (events.Tick seconds) e = absurd (gone_ticked seconds e)
    lost_at (events.Restart node) e = absurd (gone_restarted node e)
    lost_at (events.Cut node nth keeps_new) e = (refl, refl, quiet_lost node _ (cut_quiet ciphers w node nth keeps_new) e)
    lost_at (events.Rekey index key) e = (refl, refl, quiet_lost 0 _ (rekey_quiet ciphers w index key) e)
    lost_at (events.Challenge node) e = (refl, refl, quiet_lost 0 _ (challenge_quiet ciphers w node) e)
    lost_at (events.Activate node index) e = (refl, refl, quiet_lost 0 _ (activate_quiet ciphers w node index) e)
    lost_at (events.Kick node) e = (refl, refl, quiet_lost 0 _ (kick_quiet ciphers w node) e)
    lost_at (events.Show node) e = (refl, refl, quiet_lost node _ (show_quiet ciphers w node) e)
    lost_at events.Checks e = absurd (plain_lost _ (checks_plain ciphers w) e)
    lost_at (events.Bcast node datagram) e = (refl, refl, quiet_lost node _ (bcast_quiet ciphers w node datagram) e)
    lost_at (events.Scan node) e = (refl, refl, quiet_lost node _ (scan_quiet ciphers w node) e)
    lost_at (events.Choose node k) e = absurd (plain_lost _ (choose_plain ciphers w node k) e)
    lost_at (events.Path from to) e = (refl, refl, quiet_lost from _ (path_quiet ciphers w from to) e)

  module _ (number : ℕ) (left : is_left d.happenings.answer ≡ true) where
    stays_there : is_left d.happenings.answer ≡ false → ⊥
    stays_there stays = true_false (sym left ∙ stays)

    quiet_left : (node : ℕ) (s : Step) → StepHas (IsQuiet w node) s → s ≡ Ok (v, d) → ⊥
    quiet_left node s has e = stays_there (outcome_has (IsQuiet w node) s (v, d) has e).no_leaving

    plain_left : (s : Step) → StepHas IsPlain s → s ≡ Ok (v, d) → ⊥
    plain_left s has e = stays_there (outcome_has IsPlain s (v, d) has e).0

    ticked_left : (seconds : ℕ) → IsStep (events.Tick seconds) → ⊥
    ticked_left seconds e = stays_there (outcome_has (IsTicked w seconds) (ticks w seconds) (v, d) (ticks_so ciphers w seconds) e).no_leaving

    restarted_left : (node : ℕ) → IsStep (events.Restart node) → ⊥
    restarted_left node e =
        stays_there (outcome_has IsRestarted (restarts_further ciphers w node) (v, d) (restart_so ciphers w node) e).no_leaving

    left_at : (event : Event) → IsStep event → (actor_of (act_of event) == number) ≡ true → MayLeave event number
    left_at (events.Coordinator eui key) e own = absurd (plain_left _ (coordinator_plain ciphers w eui key) e)
    left_at (events.Meter eui psk) e own = absurd (plain_left _ (meter_plain ciphers w eui psk) e)
    left_at (events.Depot node) e own = absurd (plain_left _ (depot_plain ciphers w node) e)
    left_at (events.Near a b cost) e own = absurd (plain_left _ (near_plain ciphers w a b cost) e)
    left_at (events.Counter node value) e own = absurd (plain_left _ (preset_plain ciphers w node _) e)
    left_at (events.Number node value) e own = absurd (plain_left _ (preset_plain ciphers w node _) e)
    left_at (events.Allow node) e own = absurd (quiet_left 0 _ (allow_quiet ciphers w node) e)
    left_at (events.RandomOctets node value) e own = absurd (plain_left _ (rand_plain ciphers w node value) e)
    left_at (events.Join node agent) e own = absurd (plain_left _ (joined_plain ciphers w node agent) e)
    left_at (events.Leave node) e own = eqb-true node number own
    left_at (events.Send from to datagram) e own = absurd (quiet_left from _ (send_quiet ciphers w from to datagram) e)
    left_at (events.Deliver flight node cost) e own = eqb-true node number own
    left_at (events.Inject node cost octets) e own = eqb-true node number own
    left_at (events.Lose flight) e own = absurd (quiet_left 0 _ (lose_quiet ciphers w flight) e)
    left_at (events.Break node next) e own = absurd (quiet_left node _ (breaks_quiet ciphers w node next) e)
    left_at (events.Tick seconds) e own = absurd (ticked_left seconds e)
    left_at (events.Restart node) e own = absurd (restarted_left node e)
    left_at (events.Cut node nth keeps_new) e own = absurd (quiet_left node _ (cut_quiet ciphers w node nth keeps_new) e)
    left_at (events.Rekey index key) e own = absurd (quiet_left 0 _ (rekey_quiet ciphers w index key) e)
    left_at (events.Challenge node) e own = absurd (quiet_left 0 _ (challenge_quiet ciphers w node) e)
    left_at (events.Activate node index) e own = absurd (quiet_left 0 _ (activate_quiet ciphers w node index) e)
    left_at (events.Kick node) e own = absurd (quiet_left 0 _ (kick_quiet ciphers w node) e)
    left_at (events.Show node) e own = absurd (quiet_left node _ (show_quiet ciphers w node) e)
    left_at events.Checks e own = absurd (plain_left _ (checks_plain ciphers w) e)
    left_at (events.Bcast node datagram) e own = absurd (quiet_left node _ (bcast_quiet ciphers w node datagram) e)
    left_at (events.Scan node) e own = absurd (quiet_left node _ (scan_quiet ciphers w node) e)
    left_at (events.Choose node k) e own = absurd (plain_left _ (choose_plain ciphers w node k) e)
    left_at (events.Path from to) e own = absurd (quiet_left from _ (path_quiet ciphers w from to) e)

-- # What ends is recorded

module _ (ciphers : Ciphers) (w v : World) (event : Event) (d : Trace) (k : Kept) (n row same : ℕ) where
  abbrev recorded : RecordedEvent
  recorded = recorded_by row same event (v, d)

  abbrev end_by : (old restart leaving loss : Bool) → KeptEnd
  end_by old restart leaving loss =
      if old then kept_ends.Aged n (v.clock - k.clock)
      else (if restart then kept_ends.Restarted n
      else (if leaving then kept_ends.Left n
      else (if loss then kept_ends.Halted n else kept_ends.Still)))

  abbrev is_old : Bool
  is_old = is_tick (act_of event) && nat_le (time_of k.gathered) (v.clock - k.clock)

  abbrev leaves : Bool
  leaves = is_left d.happenings.answer && (actor_of (act_of event) == k.node)

  abbrev loses : Bool
  loses = is_power_lost d.happenings.answer && (actor_of (act_of event) == k.node)

  abbrev Named : KeptEnd → Type 0
  Named end = IsNamedEnd w event k n (v, d) end

  named_so : (old restart leaving loss : Bool) → is_old ≡ old → is_restart k.node (act_of event) ≡ restart → leaves ≡ leaving → loses ≡ loss
      → Named (end_by old restart leaving loss) → Named (end_of n recorded k)
  named_so old restart leaving loss a b c e named =
      subst Named (λ i. end_by (sym a i) (sym b i) (sym c i) (sym e i)) named

  module _ (step : line_step ciphers w event ≡ Ok (v, d)) where
    ticked_so : (seconds : ℕ) → event ≡ events.Tick seconds → IsTicked w seconds (v, d)
    ticked_so seconds is =
        outcome_has (IsTicked w seconds) (ticks w seconds) (v, d) (ticks_so ciphers w seconds)
        (sym (ap (λ (e : Event). line_step ciphers w e) is) ∙ step)

    names_age : (seconds : ℕ) → event ≡ events.Tick seconds → is_within (time_of k.gathered) (w.clock + seconds) k.clock ≡ false
        → Named (kept_ends.Aged n (v.clock - k.clock))
    names_age seconds is old =
        subst (λ (c : ℕ). Named (kept_ends.Aged n (c - k.clock))) (sym (ticked_so seconds is).clock) (NamesAge seconds is old)

    old_so : (seconds : ℕ) → event ≡ events.Tick seconds → is_within (time_of k.gathered) (w.clock + seconds) k.clock ≡ false → is_old ≡ true
    old_so seconds is old =
        (λ i. is_tick (act_of (is i)) && nat_le (time_of k.gathered) ((ticked_so seconds is).clock i - k.clock))
        ∙ old_recorded (time_of k.gathered) (w.clock + seconds) k.clock old

    by_kind : (l : StationMemory) → station_at w k.node ≡ Some l → EndedKept w event k (v, d) → Named (end_of n recorded k) ⊎ HaltsUnsaid event k (v, d)
    by_kind l there (TimePassed seconds is old) =
        inl (named_so true _ _ _ (old_so seconds is old) refl refl refl (names_age seconds is old))
    by_kind l there (Restarted is) =
        inl (named_so false true _ _ (λ i. is_tick (act_of (is i)) && nat_le (time_of k.gathered) (v.clock - k.clock))
        (ap (λ (e : Event). is_restart k.node (act_of e)) is ∙ eq-eqb k.node k.node refl) refl refl (NamesRestart is))
    by_kind l there (LeftNetwork may left) =
        let at = leaves_there k.node event may in
        inl (named_so false false true _ (λ i. at.0 i && nat_le (time_of k.gathered) (v.clock - k.clock)) at.1
        (λ i. is_left (left i) && at.2 i) refl (NamesLeaving may left))
    by_kind l there (LostPower lost none) =
        let at = lost_at ciphers w v d k.node l there none lost event step in
        inl (named_so false false false true (λ i. at.0 i && nat_le (time_of k.gathered) (v.clock - k.clock)) at.1
        (λ i. is_left (lost i) && (actor_of (act_of event) == k.node)) (λ i. is_power_lost (lost i) && at.2 i)
        (NamesLoss lost (eqb-true (actor_of (act_of event)) k.node at.2)))
    by_kind l there (LostPowerUnsaid hides none) = inr (hides, none)

    -- # What is recorded has ended so

    old_at : is_old ≡ true → Named (kept_ends.Aged n (v.clock - k.clock))
    old_at old =
        let parts = and_parts (is_tick (act_of event)) _ old in
        let at = ticked_at event parts.0 in
        names_age at.0 at.1
        (recorded_old k.gathered (w.clock + at.0) k.clock
        (sym (ap (λ (c : ℕ). nat_le (time_of k.gathered) (c - k.clock)) (ticked_so at.0 at.1).clock) ∙ parts.1))

    left_so : leaves ≡ true → Named (kept_ends.Left n)
    left_so left =
        let parts = and_parts (is_left d.happenings.answer) _ left in
        NamesLeaving (left_at ciphers w v d k.node parts.0 event step parts.1) (left_word d.happenings.answer parts.0)

    lost_so : loses ≡ true → Named (kept_ends.Halted n)
    lost_so lost =
        let parts = and_parts (is_power_lost d.happenings.answer) _ lost in
        NamesLoss (lost_word d.happenings.answer parts.0) (eqb-true (actor_of (act_of event)) k.node parts.1)

    recorded_so : (l : StationMemory) → station_at w k.node ≡ Some l → IsRecordedRight w event k n (v, d) (end_of n recorded k)
    recorded_so l there = by_old is_old refl
      where
        unsaid : end_of n recorded k ≡ kept_ends.Still → Named (end_of n recorded k) ⊎ HaltsUnsaid event k (v, d) → HaltsUnsaid event k (v, d)
        unsaid still said =
            ⊎_elim (λ (named : Named (end_of n recorded k)). absurd (still_named w event k n (v, d) kept_ends.Still refl (subst Named still named)))
            (λ (halts : HaltsUnsaid event k (v, d)). halts) said

        by_loss : (b : Bool) → is_old ≡ false → is_restart k.node (act_of event) ≡ false → leaves ≡ false → loses ≡ b
            → IsRecordedRight w event k n (v, d) (end_of n recorded k)
        by_loss true a b c e = IsNamed (named_so false false false true a b c e (lost_so e))
        by_loss false a b c e =
            let still : end_of n recorded k ≡ kept_ends.Still = λ i. end_by (a i) (b i) (c i) (e i) in
            IsNone still (λ ended. unsaid still (by_kind l there ended))

        by_leaving : (b : Bool) → is_old ≡ false → is_restart k.node (act_of event) ≡ false → leaves ≡ b
            → IsRecordedRight w event k n (v, d) (end_of n recorded k)
        by_leaving true a b c = IsNamed (named_so false false true loses a b c refl (left_so c))
        by_leaving false a b c = by_loss loses a b c refl

        by_restart : (b : Bool) → is_old ≡ false → is_restart k.node (act_of event) ≡ b → IsRecordedRight w event k n (v, d) (end_of n recorded k)
        by_restart true a b = IsNamed (named_so false true leaves loses a b refl refl (NamesRestart (restarted_at k.node event b)))
        by_restart false a b = by_leaving leaves a b refl

        by_old : (b : Bool) → is_old ≡ b → IsRecordedRight w event k n (v, d) (end_of n recorded k)
        by_old true a = IsNamed (named_so true (is_restart k.node (act_of event)) leaves loses a refl refl refl (old_at a))
        by_old false a = by_restart (is_restart k.node (act_of event)) a refl

pub ends_are_recorded : EndsAreRecorded
ends_are_recorded ciphers w v event d step k l there ended row same n = by_kind ciphers w v event d k n row same step l there ended

pub recorded_ends_are_so : RecordedEndsAreSo
recorded_ends_are_so ciphers w v event d step k l there row same n = recorded_so ciphers w v event d k n row same step l there
