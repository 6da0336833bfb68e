-- What is so between the events of a joining by a joined neighbour of the coordinator.
use Rattle.std.proofs.Common.{◌≡◌, ◌≢◌, ℕ, ◌+◌, ◌<◌, ◌≤◌, ◌^◌, true, false, List, [], ◌∷◌, length, Option, Some, None, Ok, refl, sym, ap, subst, ◌∙◌}
use Rattle.std.proofs.Common.{arith}
use Rattle.std.specs.Prelude.{slice_get}
use Rattle.plc_base.specs.Keeper.{Records}
use Rattle.frame_counters.specs.PeerMarks.{room_for}
use Rattle.mac_frames.specs.Grammar.{IsEui}
use Rattle.joining_messages.specs.declared.message.JoinBody.{JoinBody}
use Rattle.joining_messages.specs.declared.message.JoinBody.TheVariants as body
use Rattle.joining_messages.specs.declared.message.JoinMessage.{JoinMessage}
use Rattle.joining_messages.specs.Messages as joining
use Rattle.node_rules.specs.Accepted.{Accepted}
use Rattle.node_rules.specs.declared.heard.CoordinatorHeard.{CoordinatorHeard}
use Rattle.node_rules.specs.declared.heard.MeterHeard.{MeterHeard}
use Rattle.node_rules.specs.declared.heard.MeterHeard.TheVariants as heard
use Rattle.node_rules.specs.declared.heard.Path.TheVariants as paths
use Rattle.node_rules.specs.declared.heard.Way.TheVariants.{Air, Mesh}
use Rattle.node_rules.specs.Acceptance.{is_own}
use Rattle.node_rules.specs.Ciphers.{Ciphers, OpensWhatItSeals}
use Rattle.node_rules.specs.Coordinators.{CoordinatorIdentity, hear_join}
use Rattle.node_rules.specs.Frames.{Down, SealedUnit, Sealed, Sent, Up, spelled, to_all}
use Rattle.node_rules.specs.JoiningPackets.{message}
use Rattle.node_rules.specs.Memory.{Memory, Node}
use Rattle.node_rules.specs.Meters as meters
use Rattle.line_events.specs.declared.event.Answer.TheVariants as answers
use Rattle.line_events.specs.declared.event.Event.TheVariants.{Join, Deliver}
use Rattle.line_rules.specs.Answers.{coordinator_reception, meter_reception}
use Rattle.line_rules.specs.Further.{comes}
use Rattle.line_rules.specs.Steps.{done_by, flight_by, note_by, number_of}
use Rattle.line_rules.specs.Worlds.{Pairing, World, node_at}
use Rattle.fragment_buffers.specs.Loads.{own_mesh}
use Rattle.line_progress.proofs.Acceptance.{got_of}
use Rattle.line_progress.proofs.Routes.{no_target}
use Rattle.line_progress.specs.AgentJoinings.{Agent, Carries, agent_end}
use Rattle.line_progress.specs.Joinings.{Admitter, LetsIn, Newcomer}
use Rattle.line_progress.proofs.AgentSteps.{hears_command, hears_from_above, hears_from_below}
use Rattle.line_progress.proofs.AirJoinings.{taking_of}
use Rattle.line_progress.proofs.Commands.{heard_from, hears_carried, kept, letter, letter_fits, note_of, sealed_comes}
use Rattle.line_progress.proofs.Courses.{Next, last_comes, last_flown, new_there, number_kept, same_there}
use Rattle.line_progress.proofs.NodesHear.{comes_down, coordinator_has, coordinator_with, meter_has, meter_with}
use Rattle.line_progress.proofs.PlainComings.{Acts, FromBelow, plainly_comes}
use Rattle.line_progress.proofs.PlainFrames.{accepts_up, got_by, up_is_none}
use Rattle.line_progress.proofs.PlainPlans.{Gives, at}

-- # Between the events

module _ (ciphers : Ciphers) (opens : OpensWhatItSeals ciphers) (x : Newcomer) (c : Admitter) (a : Agent) (now : ℕ) where
  -- All three are there and hold this; so many events were taken and so many flights have flown, of which the last one has such a frame.
  pub record At (mx ma mc : Memory) (from : ℕ) (frame : Sent) (count place : ℕ) (w : World) : Type 0 where
    pub meter_stored : Records
    pub agent_stored : Records
    pub stored : Records
    pub meter : node_at w x.number ≡ Some (meter_with x.psk x.eui meter_stored mx)
    pub agent : node_at w a.number ≡ Some (meter_with a.psk a.eui agent_stored ma)
    pub coordinator : node_at w 0 ≡ Some (coordinator_with c.eui stored mc)
    pub named : number_of w x.eui ≡ x.number
    pub events : w.events ≡ count
    pub clock : w.clock ≡ now
    pub flown : slice_get w.flights place ≡ Some (flight_by from (spelled ciphers frame))
    pub flights : length w.flights ≡ place + 1

  -- the address of the agent
  abbrev here : ℕ
  here = a.ring.address

  -- what is said of a meter
  abbrev about : JoinBody → JoinMessage
  about said = message x.eui said

  -- the letters of the agent and of the coordinator
  abbrev up_letter : (counter : ℕ) → JoinBody → SealedUnit
  up_letter counter said = letter a.ring a.key 0 0 counter (about said)

  abbrev down_letter : (counter : ℕ) → JoinBody → SealedUnit
  down_letter counter said = letter c.ring a.home_key here here counter (about said)

  module _ (world : World) (carries : Carries world x c a) (lets : LetsIn world x c) (name : IsEui x.eui) (xa : x.number ≢ a.number) (x0 : x.number ≢ 0)
      (a0 : a.number ≢ 0) (mx ma mc : Memory) (from : ℕ) (frame : Sent) (count place : ℕ) (w : World) (s : At mx ma mc from frame count place w) where
    abbrev meter_now : Node
    meter_now = meter_with x.psk x.eui s.meter_stored mx

    abbrev agent_now : Node
    agent_now = meter_with a.psk a.eui s.agent_stored ma

    abbrev home_now : Node
    home_now = coordinator_with c.eui s.stored mc

    -- # The meter hears

    module _ (said : JoinBody) (fits : joining.IsBody said) where
      pub meter_hears : frame ≡ Down here (about said) → is_own mx.station here ≡ false → (h : MeterHeard) (frames : List Sent) (left : Memory)
          → Gives (meters.hear_near (record { eui = x.eui; psk = x.psk; ciphers = ciphers }) mx here said now) h frames left
          → Acts ciphers w x.number meter_now (meter_reception (Ok h)) frames left (comes ciphers w x.number meter_now (spelled ciphers frame).octets x.cost)
      meter_hears is away h frames left gives =
          subst (λ f. Acts ciphers w x.number meter_now (meter_reception (Ok h)) frames left
          (comes ciphers w x.number meter_now (spelled ciphers f).octets x.cost)) (sym is)
          (comes_down ciphers w x.number x.cost x.eui name s.meter_stored mx said fits frames left x.psk here carries.ready.address away h
          (at (ap (λ t. meters.hear_near (record { eui = x.eui; psk = x.psk; ciphers = ciphers }) mx here said t) s.clock) gives))

      pub meter_step : frame ≡ Down here (about said) → is_own mx.station here ≡ false → (h : MeterHeard) (sent : Sent) (left : Memory) (took : Option Pairing)
          → taking_of x.number (meter_reception (Ok h)).took ≡ took → done_by w (meter_reception (Ok h)).done ≡ None
          → Gives (meters.hear_near (record { eui = x.eui; psk = x.psk; ciphers = ciphers }) mx here said now) h (sent ∷ []) left
          → Next ciphers w (Deliver (place + 1) x.number x.cost) (meter_reception (Ok h)).answer took None
          (At left ma mc x.number sent (count + 1) (place + 1))
      meter_step is away h sent left took took_is none gives =
          let acts = meter_hears is away h (sent ∷ []) left gives in
          let r = comes ciphers w x.number meter_now (spelled ciphers frame).octets x.cost in
          let y : Node = meter_with x.psk x.eui acts.records left in
          let flown = last_flown ciphers w r.0 place x.number sent s.flights acts.flights in
          record {
            r = r;
            is = last_comes ciphers w place from frame s.flown x.number x.cost meter_now s.meter;
            answer_is = acts.answer_is;
            taken_is = acts.taken_is ∙ took_is;
            done_is = acts.done_is ∙ none;
            so = record {
              meter_stored = acts.records;
              agent_stored = s.agent_stored;
              stored = s.stored;
              meter = new_there w r.0 x.number y meter_now acts.nodes s.meter;
              agent = same_there w r.0 x.number a.number y agent_now acts.nodes (λ e. xa (sym e)) s.agent;
              coordinator = same_there w r.0 x.number 0 y home_now acts.nodes (λ e. x0 (sym e)) s.coordinator;
              named = number_kept w r.0 x.eui x.number meter_now y s.meter refl acts.nodes ∙ s.named;
              events = acts.events ∙ ap (λ n. n + 1) s.events;
              clock = acts.clock ∙ s.clock;
              flown = flown.0;
              flights = flown.1;
            };
          }

    -- # The agent hears

    -- what the agent then holds
    agent_next : (cost : ℕ) (sent : Sent) (left : Memory)
        → Acts ciphers w a.number agent_now (meter_reception (Ok heard.Carried)) (sent ∷ []) left
        (comes ciphers w a.number agent_now (spelled ciphers frame).octets cost)
        → Next ciphers w (Deliver (place + 1) a.number cost) answers.Carried None None (At mx left mc a.number sent (count + 1) (place + 1))
    agent_next cost sent left acts =
        let r = comes ciphers w a.number agent_now (spelled ciphers frame).octets cost in
        let y : Node = meter_with a.psk a.eui acts.records left in
        let flown = last_flown ciphers w r.0 place a.number sent s.flights acts.flights in
        record {
          r = r;
          is = last_comes ciphers w place from frame s.flown a.number cost agent_now s.agent;
          answer_is = acts.answer_is;
          taken_is = acts.taken_is;
          done_is = acts.done_is;
          so = record {
            meter_stored = s.meter_stored;
            agent_stored = acts.records;
            stored = s.stored;
            meter = same_there w r.0 a.number x.number y meter_now acts.nodes xa s.meter;
            agent = new_there w r.0 a.number y agent_now acts.nodes s.agent;
            coordinator = same_there w r.0 a.number 0 y home_now acts.nodes (λ e. a0 (sym e)) s.coordinator;
            named = number_kept w r.0 x.eui a.number agent_now y s.agent refl acts.nodes ∙ s.named;
            events = acts.events ∙ ap (λ n. n + 1) s.events;
            clock = acts.clock ∙ s.clock;
            flown = flown.0;
            flights = flown.1;
          };
        }

    abbrev agent_own : meters.Identity
    agent_own = record { eui = a.eui; psk = a.psk; ciphers = ciphers }

    -- a JOIN of the meter
    pub agent_up : (eap : List ℕ) → length eap ≤ 128 → frame ≡ Up here x.eui (about (body.Join eap)) → is_own ma.station here ≡ true
        → (sent : Sent) (left : Memory)
        → Gives (meters.hear_join agent_own ma (Air x.eui) (about (body.Join eap)) now) heard.Carried (sent ∷ []) left
        → Next ciphers w (Deliver (place + 1) a.number a.below) answers.Carried None None (At mx left mc a.number sent (count + 1) (place + 1))
    agent_up eap few is own sent left gives =
        let told : JoinMessage = about (body.Join eap) in
        let fits : joining.IsMessage told = (name.0, few) in
        let octets : List ℕ = (spelled ciphers (Up here x.eui told)).octets in
        let got : Accepted = got_by told fits (paths.Up x.eui) in
        let note : ℕ = note_by w octets got.path in
        let low : here < 0xFFFE = carries.ready.address in
        agent_next a.below sent left
        (subst (λ f. Acts ciphers w a.number agent_now (meter_reception (Ok heard.Carried)) (sent ∷ []) left
        (comes ciphers w a.number agent_now (spelled ciphers f).octets a.below)) (sym is)
        (plainly_comes ciphers w a.number a.below agent_now ma refl refl octets (up_is_none told fits ciphers ma.station a.eui here x.eui) got
        (FromBelow x.eui)
        (accepts_up told fits ciphers ma.station a.eui here x.eui (omega arith, λ e. absurd (omega (arith, low, e))) name own carries.apart)
        (meter_reception (Ok heard.Carried)) (sent ∷ []) left
        (meter_has ciphers a.eui s.agent_stored ma got a.below note w.clock (sent ∷ []) left a.psk heard.Carried
        (at (hears_from_below agent_own ma told fits a.below note w.clock
        ∙ ap (λ t. meters.hear_join agent_own ma (Air x.eui) told t) s.clock) gives))))

    -- a message of the coordinator
    pub agent_down : (said : JoinBody) (counter : ℕ) → joining.IsBody said → counter < 2 ^ 32 → frame ≡ Sealed (down_letter counter said)
        → ma.station.ring ≡ Some a.ring → room_for ma.station.marks c.ring.address counter ≡ Ok tt → (sent : Sent) (left : Memory)
        → Gives (meters.hear_join agent_own (heard_from ma c.ring.address counter) (Mesh 0) (about said) now) heard.Carried (sent ∷ []) left
        → Next ciphers w (Deliver (place + 1) a.number a.above) answers.Carried None None (At mx left mc a.number sent (count + 1) (place + 1))
    agent_down said counter fit low is ring room sent left gives =
        let told : JoinMessage = about said in
        let fits : joining.IsMessage told = (name.0, fit) in
        let u : SealedUnit = down_letter counter said in
        let below : here < 0xFFFE = carries.ready.address in
        let u_fits = letter_fits c.ring a.home_key here here counter told (omega arith, λ e. absurd (omega (arith, below, e))) carries.home.address low
        carries.home.index carries.ready.address fits in
        let m : Memory = heard_from ma c.ring.address counter in
        let got : Accepted = got_of u in
        let one = no_target (agent_end a) carries.ready in
        let note : ℕ = note_of ciphers opens w a.number a.above agent_now ma a.ring refl refl ring u u_fits (own_mesh c.ring.address here)
        (joining.spelling told) refl refl one carries.down.apart carries.down.opens room in
        let records : Records = kept ciphers opens w a.number a.above agent_now ma a.ring refl refl ring u u_fits (own_mesh c.ring.address here)
        (joining.spelling told) refl refl one carries.down.apart carries.down.opens room in
        let carried = hears_carried ciphers opens w a.number a.above agent_now ma a.ring refl refl ring u u_fits (own_mesh c.ring.address here)
        (joining.spelling told) refl refl one carries.down.apart carries.down.opens room m.station ring refl a.above note w.clock in
        let has = meter_has ciphers a.eui records m got a.above note w.clock (sent ∷ []) left a.psk heard.Carried
        (at (hears_from_above agent_own m told fits a.above note w.clock got c.ring.address carried
        ∙ ap (λ o. meters.hear_join agent_own m (Mesh o) told w.clock) lets.address
        ∙ ap (λ t. meters.hear_join agent_own m (Mesh 0) told t) s.clock) gives) in
        agent_next a.above sent left
        (subst (λ f. Acts ciphers w a.number agent_now (meter_reception (Ok heard.Carried)) (sent ∷ []) left
        (comes ciphers w a.number agent_now (spelled ciphers f).octets a.above)) (sym is)
        (sealed_comes ciphers opens w a.number a.above agent_now ma a.ring refl refl ring u u_fits (own_mesh c.ring.address here) (joining.spelling told)
        refl refl one carries.down.apart carries.down.opens room (meter_reception (Ok heard.Carried)) (sent ∷ []) left
        (record { records = has.records; node_is = has.node_is; answer_is = has.answer_is; frames_is = has.frames_is })))

    -- # The coordinator hears

    pub home_step : (eap : List ℕ) (counter : ℕ) → length eap ≤ 128 → counter < 2 ^ 32 → frame ≡ Sealed (up_letter counter (body.Join eap))
        → mc.station.ring ≡ Some c.ring → room_for mc.station.marks here counter ≡ Ok tt
        → (h : CoordinatorHeard) (sent : Sent) (left : Memory) (finished : Option Pairing) → taking_of 0 (coordinator_reception (Ok h)).took ≡ None
        → (number_of w x.eui ≡ x.number → done_by w (coordinator_reception (Ok h)).done ≡ finished)
        → Gives (hear_join (record { eui = c.eui; ciphers = ciphers }) (heard_from mc here counter) (Mesh here) x.eui (body.Join eap) now) h (sent ∷ []) left
        → Next ciphers w (Deliver (place + 1) 0 c.cost) (coordinator_reception (Ok h)).answer None finished
        (At mx ma left 0 sent (count + 1) (place + 1))
    home_step eap counter few low is ring room h sent left finished none done gives =
        let told : JoinMessage = about (body.Join eap) in
        let fits : joining.IsMessage told = (name.0, few) in
        let host : CoordinatorIdentity = record { eui = c.eui; ciphers = ciphers } in
        let u : SealedUnit = up_letter counter (body.Join eap) in
        let u_fits = letter_fits a.ring a.key 0 0 counter told (omega arith, λ e. absurd (omega arith)) carries.ready.address low carries.ready.index
        (omega arith) fits in
        let m : Memory = heard_from mc here counter in
        let got : Accepted = got_of u in
        let one : 0 ≢ to_all = λ e. absurd (omega arith) in
        let note : ℕ = note_of ciphers opens w 0 c.cost home_now mc c.ring refl refl ring u u_fits (own_mesh here 0) (joining.spelling told) refl
        lets.address one carries.up.apart carries.up.opens room in
        let records : Records = kept ciphers opens w 0 c.cost home_now mc c.ring refl refl ring u u_fits (own_mesh here 0) (joining.spelling told) refl
        lets.address one carries.up.apart carries.up.opens room in
        let carried = hears_carried ciphers opens w 0 c.cost home_now mc c.ring refl refl ring u u_fits (own_mesh here 0) (joining.spelling told) refl
        lets.address one carries.up.apart carries.up.opens room m.station ring (sym lets.address) c.cost note w.clock in
        let has = coordinator_has ciphers c.eui records m got c.cost note w.clock (sent ∷ []) left h
        (at (hears_command (record { eui = a.eui; psk = a.psk; ciphers = ciphers }) m told fits c.cost note w.clock got here carried host
        ∙ ap (λ t. hear_join host m (Mesh here) x.eui (body.Join eap) t) s.clock) gives) in
        let r = comes ciphers w 0 home_now (spelled ciphers frame).octets c.cost in
        let acts : Acts ciphers w 0 home_now (coordinator_reception (Ok h)) (sent ∷ []) left r =
        subst (λ f. Acts ciphers w 0 home_now (coordinator_reception (Ok h)) (sent ∷ []) left (comes ciphers w 0 home_now (spelled ciphers f).octets c.cost))
        (sym is)
        (sealed_comes ciphers opens w 0 c.cost home_now mc c.ring refl refl ring u u_fits (own_mesh here 0) (joining.spelling told) refl lets.address one
        carries.up.apart carries.up.opens room (coordinator_reception (Ok h)) (sent ∷ []) left
        (record { records = has.records; node_is = has.node_is; answer_is = has.answer_is; frames_is = has.frames_is })) in
        let y : Node = coordinator_with c.eui acts.records left in
        let flown = last_flown ciphers w r.0 place 0 sent s.flights acts.flights in
        record {
          r = r;
          is = last_comes ciphers w place from frame s.flown 0 c.cost home_now s.coordinator;
          answer_is = acts.answer_is;
          taken_is = acts.taken_is ∙ none;
          done_is = acts.done_is ∙ done s.named;
          so = record {
            meter_stored = s.meter_stored;
            agent_stored = s.agent_stored;
            stored = acts.records;
            meter = same_there w r.0 0 x.number y meter_now acts.nodes x0 s.meter;
            agent = same_there w r.0 0 a.number y agent_now acts.nodes a0 s.agent;
            coordinator = new_there w r.0 0 y home_now acts.nodes s.coordinator;
            named = number_kept w r.0 x.eui 0 home_now y s.coordinator refl acts.nodes ∙ s.named;
            events = acts.events ∙ ap (λ n. n + 1) s.events;
            clock = acts.clock ∙ s.clock;
            flown = flown.0;
            flights = flown.1;
          };
        }
