-- Octets that arrive, and are not forged, change no datagram: all flights, bodies and pieces stay of their sends, and so is what is handed up.
use Rattle.std.proofs.Common.{◌≡◌, ℕ, false, List, [], ◌∷◌, map, Option, Some, None, Result, Ok, Err, refl, sym, ◌∙◌, subst, arith}
use Rattle.std.specs.Prelude.{All, slice_set, ⊤}
use Rattle.std.proofs.lemmas.Bool.{or_parts}
use Rattle.std.proofs.lemmas.Option.{same_Some, none-some, slice_get_within, get_or_from_slice_get}
use Rattle.std.proofs.lemmas.List.Elements.{All-nil, All-cons, All-head, All-tail, All-append}
use Rattle.plc_base.specs.declared.key.Key.{Key}
use Rattle.node_rules.specs.Accepted.{Accepted}
use Rattle.node_rules.specs.declared.heard.Heard.{Heard}
use Rattle.node_rules.specs.declared.heard.Heard.TheVariants as heard_as
use Rattle.node_rules.specs.declared.heard.MeterHeard.{MeterHeard}
use Rattle.node_rules.specs.declared.heard.MeterHeard.TheVariants as meter_heard
use Rattle.node_rules.specs.declared.heard.CoordinatorHeard.{CoordinatorHeard}
use Rattle.node_rules.specs.declared.heard.CoordinatorHeard.TheVariants as coordinator_heard
use Rattle.node_rules.specs.declared.refusal.Dropped.{Dropped}
use Rattle.node_rules.specs.declared.refusal.Dropped.TheVariants as drops
use Rattle.node_rules.specs.declared.refusal.FrameRefusal.{FrameRefusal}
use Rattle.node_rules.specs.declared.refusal.FrameRefusal.TheVariants as frames
use Rattle.node_rules.specs.Ciphers.{Ciphers}
use Rattle.node_rules.specs.Frames.{Sent, Sealed, Up as UpFrame, Down, spelled, arrived}
use Rattle.node_rules.specs.Memory.{Memory, Node, Role, Coordinator, Meter}
use Rattle.node_rules.specs.Plans.{resting}
use Rattle.node_rules.specs.Acceptance.{Accepting, accept, marking}
use Rattle.line_rules.specs.Answers.{Reception, Up, station_reception, meter_reception, coordinator_reception, frame_word}
use Rattle.node_rules.specs.Meters as meters
use Rattle.node_rules.specs.Coordinators as coordinators
use Rattle.node_rules.specs.NodeSteps.{NodeStep, acts, of_station, answering}
use Rattle.line_rules.specs.Steps.{identity, hearing_step, note_by, world_after, running_world, trace_of, happenings, flights_of, flight_by, handed_by}
use Rattle.line_rules.specs.Steps.{hearing_outcome, arrives}
use Rattle.line_rules.specs.Worlds.{Trace, World}
use Rattle.line_events.specs.declared.happenings.Handed.{Handed}
use Rattle.node_rules.specs.Ciphers.{OpensWhatItSeals}
use Rattle.line_laws.specs.SealedUnits.{AreFlights}
use Rattle.line_laws.specs.Sends.{SentAs, UnitIsOf, UpIsOf}
use Rattle.line_laws.proofs.StoreMarks.{Accepts, Turned, Plain, Marked, accept_is}
use Rattle.line_laws.proofs.NodeCalls.{heard_given}
use Rattle.line_laws.proofs.RangeFrames.{IsSent}
use Rattle.line_laws.proofs.CustodyPlans.{Agrees}
use Rattle.line_laws.proofs.CustodyWhole.{OneSend}
use Rattle.line_laws.proofs.CustodyWorld.{unit_back}
use Rattle.line_laws.proofs.CustodyGrants.{TakesHome, taking_true}
use Rattle.line_laws.proofs.CustodyDeliver.{WhatCame, PlainCame, LetterCame, opening}
use Rattle.line_laws.proofs.CustodyTrue.{SentIsOf, StationIsTrue, PlanIsTrue, AnswerIsOf, MeterUpIsOf, CoordinatorUpIsOf, HearsTrue, sealed_unit_true}
use Rattle.line_laws.proofs.CustodyTrue.{plain_true}
use Rattle.line_laws.proofs.CustodyTrue.{coordinator_hears_true, DidTrue, acts_true}
pub use Rattle.line_laws.specs.InCustody.{FlightIsOf, NodeTrue}

-- A datagram that was handed up under a note is that of a send to this address.
pub record HandedIsOf (S : ℕ → SentAs → Type 0) (own note : ℕ) (octets : List ℕ) : Type 0 where
  pub sent : SentAs
  pub is : S note sent
  pub target : sent.to ≡ own
  pub same : sent.octets ≡ octets

-- # What is handed up, as the report has it

abbrev ReceptionIsOf : (ℕ → SentAs → Type 0) → ℕ → Reception → Type 0
ReceptionIsOf S own r = (u : Up) → r.up ≡ Some u → HandedIsOf S own u.note u.octets

station_after : (S : ℕ → SentAs → Type 0) (own : ℕ) (h : Heard) → UpIsOf S own h → ReceptionIsOf S own (station_reception h)
station_after S own (heard_as.Up from note octets) h u e =
    let r : Up = record { note = note; octets = octets } in
    let same : r ≡ u = same_Some r u e in
    let x = h in
    subst (λ (v : Up). HandedIsOf S own v.note v.octets) same (record { sent = x.sent; is = x.is; target = x.target; same = x.content })
station_after S own _ h u e = absurd (none-some u e)

meter_after : (S : ℕ → SentAs → Type 0) (own : ℕ) (a : Result MeterHeard Dropped) → AnswerIsOf S own (MeterUpIsOf S own) a
    → ReceptionIsOf S own (meter_reception a)
meter_after S own (Ok (meter_heard.Station h)) x = station_after S own h x
meter_after S own (Ok _) x = λ u e. absurd (none-some u e)
meter_after S own (Err reason) x = λ u e. absurd (none-some u e)

coordinator_after : (S : ℕ → SentAs → Type 0) (own : ℕ) (a : Result CoordinatorHeard Dropped) → AnswerIsOf S own (CoordinatorUpIsOf S own) a
    → ReceptionIsOf S own (coordinator_reception a)
coordinator_after S own (Ok (coordinator_heard.Station h)) x = station_after S own h x
coordinator_after S own (Ok _) x = λ u e. absurd (none-some u e)
coordinator_after S own (Err reason) x = λ u e. absurd (none-some u e)

-- # What is heard

-- What a node made of a frame is of the sends.
record HeardTrue (S : ℕ → SentAs → Type 0) (own : ℕ) (d : NodeStep Reception) : Type 0 where
  node : NodeTrue S own d.node
  frames : All (SentIsOf S) d.frames
  up : ReceptionIsOf S own d.answer

module _ (ciphers : Ciphers) (S : ℕ → SentAs → Type 0) (one : OneSend S) (own : ℕ) (got : Accepted) (cost note now : ℕ)
    (comes : HearsTrue S (heard_given got cost note now)) where
  hears_true : (x : Node) → NodeTrue S own x
      → ((psk : Key) (m : Memory) → x.role ≡ Meter psk → x.memory ≡ Some m → TakesHome own got cost note now (identity ciphers x psk) m)
      → ((m : Memory) → x.memory ≡ Some m → Agrees (heard_given got cost note now) m.station) → HeardTrue S own (hearing_step ciphers x got cost note now)
  hears_true x ok stays_at agrees = by_role x.role refl
    where
      By : Role → Type 0
      By role = HeardTrue S own (hears_as role)
        where
          hears_as : Role → NodeStep Reception
          hears_as Coordinator = answering coordinator_reception
              (acts x (Err drops.Store) (λ m. coordinators.hear_coordinator (record { eui = x.eui; ciphers = ciphers }) m got cost note now))
          hears_as (Meter psk) = answering meter_reception (acts x (Err drops.Store) (λ m. meters.hear_meter (identity ciphers x psk) m got cost note now))

      by_role : (role : Role) → x.role ≡ role → HeardTrue S own (hearing_step ciphers x got cost note now)
      by_role Coordinator e =
          let d = acts_true S own (CoordinatorUpIsOf S own) x drops.Store
          (λ m. coordinators.hear_coordinator (record { eui = x.eui; ciphers = ciphers }) m got cost note now) ok
          (λ m there h. coordinator_hears_true S one own got cost note now comes (record { eui = x.eui; ciphers = ciphers }) m h (agrees m there)) in
          subst By (sym e) (record { node = d.station; frames = d.frames; up = coordinator_after S own _ d.up })
      by_role (Meter psk) e =
          let d = acts_true S own (MeterUpIsOf S own) x drops.Store (λ m. meters.hear_meter (identity ciphers x psk) m got cost note now) ok
          (λ m there h. taking_true S one own got cost note now comes (identity ciphers x psk) m (stays_at psk m e there) h (agrees m there)) in
          subst By (sym e) (record { node = d.station; frames = d.frames; up = meter_after S own _ d.up })

-- # Flights

module _ (ciphers : Ciphers) (opens : OpensWhatItSeals ciphers) (S : ℕ → SentAs → Type 0) (number : ℕ) where
  flies_true : (f : Sent) → IsSent f → SentIsOf S f → FlightIsOf ciphers S (flight_by number (spelled ciphers f))
  unfolding spelled
  flies_true (Sealed l) fits h = record {
    unit = λ u e.
        let back = unit_back ciphers opens (flight_by number (spelled ciphers (Sealed l))) l.key refl
        (record { sealed_unit = l; fits = fits; key_is = refl; octets = refl; note = refl }) in
        subst (UnitIsOf S l.note) (same_Some l.unit u (sym back ∙ e)) h;
  }
  flies_true (UpFrame agent from message) fits h = record { unit = λ u e. absurd (none-some u e) }
  flies_true (Down from message) fits h = record { unit = λ u e. absurd (none-some u e) }

  pub fly_true : (fs : List Sent) → All IsSent fs → All (SentIsOf S) fs
      → All (FlightIsOf ciphers S) (map (λ frame. flight_by number (spelled ciphers frame)) fs)
  fly_true [] fits all = All-nil (FlightIsOf ciphers S)
  fly_true (f ∷ fs) fits all = All-cons (FlightIsOf ciphers S) (flight_by number (spelled ciphers f)) _
      (flies_true f (All-head IsSent f fs fits) (All-head (SentIsOf S) f fs all)) (fly_true fs (All-tail IsSent f fs fits) (All-tail (SentIsOf S) f fs all))

-- # An arrival

module _ (ciphers : Ciphers) (opens : OpensWhatItSeals ciphers) (S : ℕ → SentAs → Type 0) (one : OneSend S) (w : World) (are : AreFlights ciphers w.flights)
    (of : All (FlightIsOf ciphers S) w.flights) (number own : ℕ) (x : Node) (octets : List ℕ) (cost : ℕ) where
  abbrev accepting : NodeStep (Result Accepted FrameRefusal)
  accepting = acts x (Err frames.Halted) (λ m. of_station m (accept m.station x.eui (arrived ciphers octets)))

  -- accepting moves nothing
  pub accepts_true : (m : Memory) → StationIsTrue S own m.station
      → PlanIsTrue S own (λ (a : Accepted). ⊤) (of_station m (accept m.station x.eui (arrived ciphers octets)))
  unfolding resting marking
  accepts_true m h = by_form _ (accept_is m.station x.eui (arrived ciphers octets))
    where
      by_form : (p : Accepting) → Accepts m.station (arrived ciphers octets) p → PlanIsTrue S own (λ (a : Accepted). ⊤) (of_station m p)
      by_form p (Turned reason) = record { station = h; frames = All-nil (SentIsOf S); up = tt; fails = tt }
      by_form p (Plain got plain) = record { station = h; frames = All-nil (SentIsOf S); up = tt; fails = tt }
      by_form p (Marked from counter got a) =
          record { station = record { address = h.address; bodies = h.bodies; held = h.held }; frames = All-nil (SentIsOf S); up = tt; fails = tt }

  pub came_true : (got : Accepted) → WhatCame ciphers opens w are number x octets cost 1 0 (omega arith) got
      → HearsTrue S (heard_given got cost (note_by w octets got.path) w.clock)
  came_true got (PlainCame plain) = plain_true S got cost (note_by w octets got.path) w.clock plain
  came_true got (LetterCame l fits from counter is origin) =
      let f : FlightIsOf ciphers S origin.flight = subst (FlightIsOf ciphers S)
      (get_or_from_slice_get w.flights origin.place origin.flight origin.flight origin.there)
      (of origin.place origin.flight (slice_get_within w.flights origin.place origin.flight origin.there)) in
      subst (λ (k : ℕ). HearsTrue S (heard_given got cost k w.clock)) origin.heard
      (sealed_unit_true S l fits (subst (λ (k : ℕ). UnitIsOf S k l.unit) origin.note (f.unit l.unit origin.unit)) from counter got is cost w.clock)

  -- What an arrival leaves is of the sends, and so is what it hands up.
  pub record LeavesTrue (v : World) (d : Trace) : Type 0 where
    pub node : Node
    pub nodes : v.nodes ≡ slice_set w.nodes number node
    pub is : NodeTrue S own node
    pub flights : All (FlightIsOf ciphers S) v.flights
    pub up : (u : Handed) → d.happenings.up ≡ Some u → HandedIsOf S own u.note u.octets

  handed_true : (up : Option Up) → ((u : Up) → up ≡ Some u → HandedIsOf S own u.note u.octets) → (h : Handed) → handed_by number up ≡ Some h
      → HandedIsOf S own h.note h.octets
  handed_true None t h e = absurd (none-some h e)
  handed_true (Some u) t h e =
      let r : Handed = record { node = number; note = u.note; octets = u.octets } in
      let same : r ≡ h = same_Some r h e in
      subst (λ (k : Handed). HandedIsOf S own k.note k.octets) same (t u refl)

  pub arrives_true : NodeTrue S own x → All IsSent accepting.frames
      → ((got : Accepted) → accepting.answer ≡ Ok got
      → ((psk : Key) (m : Memory) → accepting.node.role ≡ Meter psk → accepting.node.memory ≡ Some m
      → TakesHome own got cost (note_by w octets got.path) w.clock (identity ciphers accepting.node psk) m)
      × ((m : Memory) → accepting.node.memory ≡ Some m → Agrees (heard_given got cost (note_by w octets got.path) w.clock) m.station)
      × All IsSent (hearing_step ciphers accepting.node got cost (note_by w octets got.path) w.clock).frames)
      → (arrives ciphers w number x octets cost).1.happenings.forged ≡ false
      → LeavesTrue (arrives ciphers w number x octets cost).0 (arrives ciphers w number x octets cost).1
  unfolding arrives world_after
  arrives_true ok sent well unforged = by_answer accepting.answer refl unforged
    where
      first : DidTrue S own (λ (a : Accepted). ⊤) accepting
      first = acts_true S own (λ (a : Accepted). ⊤) x frames.Halted (λ m. of_station m (accept m.station x.eui (arrived ciphers octets))) ok
          (λ m e h. accepts_true m h)

      after : Result Accepted FrameRefusal → World × Trace
      after (Ok got) = hearing_outcome ciphers w number accepting.node octets got cost
      after (Err reason) = (world_after ciphers (running_world w) number accepting, trace_of (happenings w (frame_word reason)))

      by_answer : (a : Result Accepted FrameRefusal) → accepting.answer ≡ a → (after a).1.happenings.forged ≡ false → LeavesTrue (after a).0 (after a).1
      by_answer (Err reason) e unforged = record {
        node = accepting.node;
        nodes = refl;
        is = first.station;
        flights = All-append (FlightIsOf ciphers S) w.flights (flights_of ciphers number accepting) of
            (fly_true ciphers opens S number accepting.frames sent first.frames);
        up = λ u e. absurd (none-some u e);
      }
      by_answer (Ok got) e unforged =
          let o = opening ciphers opens w are number x octets cost 1 0 (omega arith) got e (or_parts _ _ unforged).0 in
          let p = well got e in
          let d2 : NodeStep Reception = hearing_step ciphers accepting.node got cost (note_by w octets got.path) w.clock in
          let t = hears_true ciphers S one own got cost (note_by w octets got.path) w.clock (came_true got o.what) accepting.node first.station p.0 p.1 in
          record {
            node = d2.node;
            nodes = refl;
            is = t.node;
            flights = All-append (FlightIsOf ciphers S) w.flights (flights_of ciphers number d2) of (fly_true ciphers opens S number d2.frames p.2 t.frames);
            up = handed_true d2.answer.up t.up;
          }
