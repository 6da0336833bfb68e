-- What holds of every frame that a node can send, and of every frame of discovery, holds of each flight, whatever the ciphers are.
use Rattle.std.proofs.Common.{◌⊎◌, inl, inr, ⊎_elim, ℕ, Bool, true, false, List, [], ◌∷◌, ◌++◌, Option, Some, None, Result, Ok, Err, refl, subst}
use Rattle.std.specs.Prelude.{All, if◌then◌else◌, is_some}
use Rattle.std.proofs.lemmas.List.Elements.{All-append, All-cons, All-head, All-nil, All-tail}
use Rattle.plc_base.specs.declared.key.Key.{Key}
use Rattle.pan_discovery.specs.declared.message.Discovery.{Discovery}
use Rattle.node_rules.specs.Accepted.{Accepted}
use Rattle.node_rules.specs.declared.heard.Reply.{Reply}
use Rattle.node_rules.specs.declared.refusal.LocalRefusal.{LocalRefusal}
use Rattle.node_rules.specs.Ciphers.{Ciphers}
use Rattle.node_rules.specs.Frames.{Sent, spelled}
use Rattle.node_rules.specs.Memory.{Memory, Node}
use Rattle.node_rules.specs.MemoryDrafts.{in_memory}
use Rattle.node_rules.specs.NodeSteps.{NodeStep, stays}
use Rattle.reach_rules.specs.declared.refusal.AskRefusal.TheVariants as asks
use Rattle.reach_rules.specs.declared.refusal.BroadcastRefusal.TheVariants as broadcasts
use Rattle.reach_rules.specs.declared.refusal.ChooseRefusal.TheVariants as choices
use Rattle.reach_rules.specs.declared.refusal.ReachDropped.TheVariants as reach_drops
use Rattle.node_rules.specs.declared.refusal.Dropped.TheVariants as drops
use Rattle.reach_rules.specs.Beacons.{begin_scan, choose_agent, hear_discovery}
use Rattle.reach_rules.specs.Broadcasts.{broadcast}
use Rattle.reach_rules.specs.PathRequests.{ask_path}
use Rattle.reach_rules.specs.FurtherReceptions.{hear_command}
use Rattle.line_events.specs.declared.event.Answer.TheVariants as answers
use Rattle.line_events.specs.declared.event.Event.{Event}
use Rattle.line_rules.specs.Answers.{Reception, only}
use Rattle.line_events.specs.Events.{AreEvents, IsEvent}
use Rattle.line_rules.specs.Further.{acknowledging, adds_frames, asks_by, beside_at, chooses_by, discovers_by, discovery_flight, discovery_flights, line_step}
use Rattle.line_rules.specs.Further.{reaches, scans_by, sends_nothing, acknowledged}
use Rattle.line_rules.specs.Nonces.{IsDiscoveryFrame, IsPlainFrame, IsSpelled}
use Rattle.line_rules.specs.Runs.{Entry, IsRun, events_of}
use Rattle.line_rules.specs.Steps.{Step, flight_by, identity, running_world, world_after}
use Rattle.line_rules.specs.Worlds.{World, Flight, Trace, start}
use Rattle.line_laws.specs.Laws.{AreFrames, EveryFlightIsAFrame, IsDiscoveryOctets, IsFrame}
use Rattle.line_laws.proofs.FlightFolds.{AllOf, every_flight, after_all}
use Rattle.line_laws.proofs.FurtherEvents.{IsFurtherStep, Old, TurnsOn, Spreads, Seeks, Looks, Picks, Finds, Takes, Puts, Unread, further_step_is}
use Rattle.line_laws.proofs.FurtherEvents.{IsHeard, IsUnbelieved, IsPlain, IsCommand, IsChecked, IsAnswered, checks_so, outcome_of_command, hearing, taker}
use Rattle.line_laws.proofs.HeadsSaid.{spelled_well}
use Rattle.line_laws.proofs.LaterMoves.{discovery_nonce}

-- # Every event

module _ (ciphers : Ciphers) (P : Flight → Type 0) (sent : (number : ℕ) (f : Sent) → P (flight_by number (spelled ciphers f)))
    (lost : (f : Flight) → P f → P (record f { lost = true })) (found : (number : ℕ) (frame : Discovery) → P (discovery_flight number frame)) where
  abbrev Stay : World → Type 0
  Stay v = All P v.flights

  act_all : {A : Type 0} (v : World) (number : ℕ) (d : NodeStep A) → Stay v → Stay (world_after ciphers v number d)
  act_all v number d all = after_all ciphers P sent lost v number d all

  finds_all : (v : World) (number : ℕ) (o : Option Discovery) → Stay v → All P (v.flights ++ discovery_flights number o)
  finds_all v number None all = All-append P v.flights [] all (All-nil P)
  finds_all v number (Some frame) all =
      All-append P v.flights (discovery_flight number frame ∷ []) all (All-cons P (discovery_flight number frame) [] (found number frame) (All-nil P))

  module _ (w : World) (all : All P w.flights) where
    asks_all : (number : ℕ) (x : Node) (target : Option ℕ) → Stay (asks_by ciphers w number x target).0
    asks_all number x None = all
    asks_all number x (Some target) = act_all (running_world w) number (reaches x (beside_at w number) (Err asks.Halted) (λ y. ask_path in_memory y target)) all

    scans_all : (number : ℕ) (o : Option Memory) → Stay (scans_by w number o).0
    scans_all number None = all
    scans_all number (Some m) = finds_all w number (begin_scan m (beside_at w number).scan).sent all

    chooses_all : (number : ℕ) (x : Node) (k : ℕ) (psk : Option Key) → Stay (chooses_by ciphers w number x k psk).0
    chooses_all number x k None = all
    chooses_all number x k (Some psk) =
        act_all (running_world w) number (reaches x (beside_at w number) (Err choices.Halted) (λ y. choose_agent (identity ciphers x psk) y k w.clock)) all

    discovers_all : (number : ℕ) (x : Node) (octets : List ℕ) (link : ℕ) (o : Option Memory) → Stay (discovers_by w number x octets link o).0
    discovers_all number x octets link None = all
    discovers_all number x octets link (Some m) =
        finds_all w number (hear_discovery x.role m.station (beside_at w number).scan octets link).sent all

    -- octets that were accepted
    module _ (number : ℕ) (x : Node) (octets : List ℕ) (got : Accepted) (cost : ℕ) where
      abbrev plainly : World × Trace
      plainly = outcome_of_command ciphers w number x octets got cost

      abbrev outcome_of_hearing : NodeStep Reception
      outcome_of_hearing = hearing ciphers w x octets got cost

      plain_all : Stay plainly.0
      plain_all = act_all (running_world w) number outcome_of_hearing all

      -- and a reply among them that is acknowledged
      answers_all : (reply : Reply) → Stay
          (acknowledged ciphers w number (acknowledging outcome_of_hearing.node reply) (checks_so ciphers w number x octets got cost)).0
      answers_all reply = by_memory (is_some a.node.memory)
        where
          a : NodeStep (Result (Unit {0}) LocalRefusal)
          a = acknowledging outcome_of_hearing.node reply

          r : World × Trace
          r = checks_so ciphers w number x octets got cost

          by_memory : (b : Bool) → Stay (if b then adds_frames (world_after ciphers r.0 number a) r.1 a
              else sends_nothing w (world_after ciphers r.0 number a, r.1)).0
          by_memory true = act_all r.0 number a plain_all
          by_memory false = all

      heard_all : (r : World × Trace) → IsHeard ciphers w number x octets got cost r → Stay r.0
      heard_all r IsUnbelieved = act_all (running_world w) number (stays (taker ciphers x octets) (only answers.Blacklisted)) all
      heard_all r IsPlain = plain_all
      heard_all r (IsCommand c e) = act_all plainly.0 number
          (reaches outcome_of_hearing.node (beside_at plainly.0 number) (Err (reach_drops.Known drops.Store)) (λ y. hear_command in_memory y c)) plain_all
      heard_all r IsChecked = plain_all
      heard_all r (IsAnswered reply e) = answers_all reply

    pub every_further_flight : (event : Event) (s : Step) → IsFurtherStep ciphers w event s → AllOf ciphers P sent lost s
    every_further_flight event s (Old e t is) = every_flight ciphers P sent lost w e t is all
    every_further_flight event s (TurnsOn begun) = all
    every_further_flight event s (Spreads number x datagram there) =
        act_all (running_world w) number (reaches x (beside_at w number) (Err broadcasts.Halted) (λ y. broadcast in_memory y datagram)) all
    every_further_flight event s (Seeks number to x target there) = asks_all number x target
    every_further_flight event s (Looks number x there) = scans_all number x.memory
    every_further_flight event s (Picks number k x psk ne there e) = chooses_all number x k psk
    every_further_flight event s (Finds e number x octets link there says comes is) = discovers_all number x octets link x.memory
    every_further_flight event s (Takes e number x octets cost got r there says comes low is how) = heard_all number x octets got cost r how
    every_further_flight event s (Puts e r bs quiet is) = every_flight ciphers P sent lost w e (Ok r) is all
    every_further_flight event s (Unread number x bad there e) = act_all (running_world w) number (stays (record x { memory = None }) answers.BadStore) all

-- # Every run

module _ (ciphers : Ciphers) where
  abbrev IsSo : Flight → Type 0
  IsSo f = IsFrame ciphers f

  -- a frame whose fields are in their ranges is one
  frame_of : (f : Flight) → IsSpelled ciphers f → IsSo f
  frame_of f h = record { sealed = h.sealed; plain = λ e. (by_form (h.plain e).0, (h.plain e).1) }
    where
      by_form : (IsPlainFrame f.octets ⊎ IsDiscoveryFrame f.octets) → IsPlainFrame f.octets ⊎ IsDiscoveryOctets f.octets
      by_form h = ⊎_elim (λ (p : IsPlainFrame f.octets). inl p)
          (λ (d : IsDiscoveryFrame f.octets). inr (record { frame = d.frame; spelled = d.spelled.1; nonce = d.nonce })) h

  sent_frame : (number : ℕ) (f : Sent) → IsSo (flight_by number (spelled ciphers f))
  sent_frame number f = frame_of (flight_by number (spelled ciphers f)) (spelled_well ciphers number f)

  lost_frame : (f : Flight) → IsSo f → IsSo (record f { lost = true })
  lost_frame f h = record { sealed = h.sealed; plain = h.plain }

  found_frame : (number : ℕ) (frame : Discovery) → IsSo (discovery_flight number frame)
  found_frame number frame = record {
    sealed = λ k e. absurd (cc (e));
    plain = λ e. (inr (record { frame = frame; spelled = refl; nonce = discovery_nonce frame }), refl);
  }

  abbrev Framed : Entry → Type 0
  Framed x = All (IsFrame ciphers) x.after.flights

  frames_from : (w : World) → All (IsFrame ciphers) w.flights → (entries : List Entry) → AreEvents (events_of entries) → IsRun ciphers w entries
      → AreFrames ciphers entries
  frames_from w all [] says run = All-nil Framed
  frames_from w all (x ∷ xs) says run =
      let event = All-head IsEvent x.event (events_of xs) says in
      let next : Framed x = subst (AllOf ciphers IsSo sent_frame lost_frame) run.2
      (every_further_flight ciphers IsSo sent_frame lost_frame found_frame w all x.event (line_step ciphers w x.event)
      (further_step_is ciphers w x.event event)) in
      All-cons Framed x xs next (frames_from x.after next xs (All-tail IsEvent x.event (events_of xs) says) run.3)

pub every_frame : EveryFlightIsAFrame
every_frame ciphers entries r = frames_from ciphers start (All-nil (IsFrame ciphers)) entries r.events r.run
