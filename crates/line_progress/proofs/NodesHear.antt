-- A plain frame comes to a meter or to the coordinator, which does what its rule gives.
use Rattle.std.proofs.Common.{◌≡◌, ℕ, true, false, List, Some, None, Ok, Err, refl, ap, ◌∙◌}
use Rattle.std.proofs.lemmas.Bool.{eq-eqb}
use Rattle.plc_base.specs.Addresses.{IsAddress}
use Rattle.plc_base.specs.declared.address.Eui.{Eui}
use Rattle.plc_base.specs.declared.key.Key.{Key}
use Rattle.plc_base.specs.Keeper.{Records}
use Rattle.store_tables.specs.Writes.{write}
use Rattle.mac_frames.specs.Grammar.{IsEui, IsTarget}
use Rattle.group_keys.specs.KeyBook.{eui_number}
use Rattle.joining_messages.specs.declared.message.JoinBody.{JoinBody}
use Rattle.joining_messages.specs.declared.message.JoinMessage.{JoinMessage}
use Rattle.joining_messages.specs.Messages as joining
use Rattle.node_rules.specs.Accepted.{Accepted}
use Rattle.node_rules.specs.declared.heard.CoordinatorHeard.{CoordinatorHeard}
use Rattle.node_rules.specs.declared.heard.MeterHeard.{MeterHeard}
use Rattle.node_rules.specs.declared.heard.Path.TheVariants as paths
use Rattle.node_rules.specs.declared.heard.Way.TheVariants.{Air}
use Rattle.node_rules.specs.declared.refusal.Dropped.TheVariants.{Store}
use Rattle.node_rules.specs.Acceptance.{is_own, same_eui}
use Rattle.node_rules.specs.Ciphers.{Ciphers}
use Rattle.node_rules.specs.Coordinators as coordinator_rules
use Rattle.node_rules.specs.Frames.{Down, Sent, Up, spelled}
use Rattle.node_rules.specs.JoiningPackets.{message}
use Rattle.node_rules.specs.Memory.{Coordinator, Memory, Meter, Node}
use Rattle.node_rules.specs.Meters as meters
use Rattle.node_rules.specs.NodeSteps.{NodeStep}
use Rattle.line_rules.specs.Answers.{coordinator_reception, meter_reception}
use Rattle.line_rules.specs.Further.{comes}
use Rattle.line_rules.specs.Steps.{hearing_step, note_by}
use Rattle.line_rules.specs.Worlds.{World}
use Rattle.line_progress.proofs.WholePlans.{acts_whole}
use Rattle.line_progress.proofs.CoordinatorSteps.{hears_air}
use Rattle.line_progress.proofs.MeterSteps.{hears_near}
use Rattle.line_progress.proofs.PlainComings.{Acts, FromAbove, FromBelow, HasHeard, plainly_comes}
use Rattle.line_progress.proofs.PlainFrames.{accepts_down, accepts_up, down_is_none, got_by, up_is_none}
use Rattle.line_progress.proofs.PlainPlans.{Gives, at}

-- a meter and the coordinator that run, and to which no loss of power is to come
abbrev pub meter_with : Key → Eui → Records → Memory → Node
meter_with psk eui records m =
    record { role = Meter psk; eui = eui; store = record { records = records; cut = None }; memory = Some m }

abbrev pub coordinator_with : Eui → Records → Memory → Node
coordinator_with eui records m =
    record { role = Coordinator; eui = eui; store = record { records = records; cut = None }; memory = Some m }

module _ (ciphers : Ciphers) (eui : Eui) (records : Records) (m : Memory) (got : Accepted) (cost note now : ℕ) (frames : List Sent) (left : Memory) where
  -- what a meter gives about a frame, it has done
  pub meter_has : (psk : Key) (a : MeterHeard)
      → Gives (meters.hear_meter (record { eui = eui; psk = psk; ciphers = ciphers }) m got cost note now) a frames left
      → HasHeard (meter_with psk eui records m) (meter_reception (Ok a)) frames left
      (hearing_step ciphers (meter_with psk eui records m) got cost note now)
  meter_has psk a gives =
      let own : meters.Identity = record { eui = eui; psk = psk; ciphers = ciphers } in
      let x : Node = meter_with psk eui records m in
      let did = acts_whole x m (Err Store) (λ n. meters.hear_meter own n got cost note now) refl refl in
      record {
        records = (write (meters.hear_meter own m got cost note now).puts None records).records;
        node_is =
            ap (λ (d : NodeStep _). d.node) did
            ∙ (λ i. meter_with psk eui (write (meters.hear_meter own m got cost note now).puts None records).records (gives.memory_is i));
        answer_is = ap (λ (d : NodeStep _). meter_reception d.answer) did ∙ ap meter_reception gives.answer_is;
        frames_is = ap (λ (d : NodeStep _). d.frames) did ∙ gives.frames_is;
      }

  -- so has the coordinator
  pub coordinator_has : (a : CoordinatorHeard)
      → Gives (coordinator_rules.hear_coordinator (record { eui = eui; ciphers = ciphers }) m got cost note now) a frames left
      → HasHeard (coordinator_with eui records m) (coordinator_reception (Ok a)) frames left
      (hearing_step ciphers (coordinator_with eui records m) got cost note now)
  coordinator_has a gives =
      let own : coordinator_rules.CoordinatorIdentity = record { eui = eui; ciphers = ciphers } in
      let x : Node = coordinator_with eui records m in
      let did = acts_whole x m (Err Store) (λ n. coordinator_rules.hear_coordinator own n got cost note now) refl refl in
      record {
        records = (write (coordinator_rules.hear_coordinator own m got cost note now).puts None records).records;
        node_is =
            ap (λ (d : NodeStep _). d.node) did
            ∙ (λ i. coordinator_with eui (write (coordinator_rules.hear_coordinator own m got cost note now).puts None records).records
            (gives.memory_is i));
        answer_is = ap (λ (d : NodeStep _). coordinator_reception d.answer) did ∙ ap coordinator_reception gives.answer_is;
        frames_is = ap (λ (d : NodeStep _). d.frames) did ∙ gives.frames_is;
      }

module _ (ciphers : Ciphers) (w : World) (number cost : ℕ) (eui : Eui) (name : IsEui eui) (records : Records) (m : Memory) (said : JoinBody)
    (fits : joining.IsBody said) (frames : List Sent) (left : Memory) where
  abbrev told : JoinMessage
  told = message eui said

  told_fits : joining.IsMessage told
  told_fits = (name.0, fits)

  -- an agent's message comes to its meter
  pub comes_down : (psk : Key) (agent : ℕ) → IsAddress agent → is_own m.station agent ≡ false → (a : MeterHeard)
      → Gives (meters.hear_near (record { eui = eui; psk = psk; ciphers = ciphers }) m agent said w.clock) a frames left
      → Acts ciphers w number (meter_with psk eui records m) (meter_reception (Ok a)) frames left
      (comes ciphers w number (meter_with psk eui records m) (spelled ciphers (Down agent told)).octets cost)
  comes_down psk agent address away a gives =
      let own : meters.Identity = record { eui = eui; psk = psk; ciphers = ciphers } in
      let x : Node = meter_with psk eui records m in
      let octets : List ℕ = (spelled ciphers (Down agent told)).octets in
      let got : Accepted = got_by told told_fits (paths.Down agent) in
      let note : ℕ = note_by w octets got.path in
      let mine : same_eui eui eui ≡ true = eq-eqb (eui_number eui) (eui_number eui) refl in
      plainly_comes ciphers w number cost x m refl refl octets (down_is_none told told_fits ciphers m.station eui agent) got (FromAbove agent)
      (accepts_down told told_fits ciphers m.station eui agent address name mine away) (meter_reception (Ok a)) frames left
      (meter_has ciphers eui records m got cost note w.clock frames left psk a (at (hears_near own m agent told told_fits mine cost note w.clock) gives))

module _ (ciphers : Ciphers) (w : World) (number cost : ℕ) (eui from : Eui) (name : IsEui from) (records : Records) (m : Memory) (said : JoinBody)
    (fits : joining.IsBody said) (frames : List Sent) (left : Memory) where
  -- a meter's message comes to the coordinator over the air
  pub comes_up : (agent : ℕ) → IsTarget agent → is_own m.station agent ≡ true → same_eui eui from ≡ false → (a : CoordinatorHeard)
      → Gives (coordinator_rules.hear_join (record { eui = eui; ciphers = ciphers }) m (Air from) from said w.clock) a frames left
      → Acts ciphers w number (coordinator_with eui records m) (coordinator_reception (Ok a)) frames left
      (comes ciphers w number (coordinator_with eui records m) (spelled ciphers (Up agent from (message from said))).octets cost)
  comes_up agent target here apart a gives =
      let own : coordinator_rules.CoordinatorIdentity = record { eui = eui; ciphers = ciphers } in
      let told : JoinMessage = message from said in
      let told_fits : joining.IsMessage told = (name.0, fits) in
      let x : Node = coordinator_with eui records m in
      let octets : List ℕ = (spelled ciphers (Up agent from told)).octets in
      let got : Accepted = got_by told told_fits (paths.Up from) in
      let note : ℕ = note_by w octets got.path in
      let mine : same_eui from from ≡ true = eq-eqb (eui_number from) (eui_number from) refl in
      plainly_comes ciphers w number cost x m refl refl octets (up_is_none told told_fits ciphers m.station eui agent from) got (FromBelow from)
      (accepts_up told told_fits ciphers m.station eui agent from target name here apart) (coordinator_reception (Ok a)) frames left
      (coordinator_has ciphers eui records m got cost note w.clock frames left a (at (hears_air own m told told_fits mine cost note w.clock) gives))
