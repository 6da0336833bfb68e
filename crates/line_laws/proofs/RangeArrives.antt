-- Octets that arrive, and are not forged, leave flights that are letters in range, and nodes in their ranges.
use Rattle.std.proofs.Common.{◌≡◌, ℕ, ◌<◌, false, List, Some, Result, Ok, Err, refl, sym, subst, arith}
use Rattle.std.specs.Prelude.{All}
use Rattle.std.proofs.lemmas.Bool.{or_parts}
use Rattle.std.proofs.lemmas.List.Elements.{All-append, All-set}
use Rattle.plc_base.specs.declared.key.Key.{Key}
use Rattle.node_rules.specs.Accepted.{Accepted}
use Rattle.node_rules.specs.declared.refusal.Dropped.TheVariants as drops
use Rattle.node_rules.specs.declared.refusal.FrameRefusal.{FrameRefusal}
use Rattle.node_rules.specs.declared.refusal.FrameRefusal.TheVariants as frames
use Rattle.node_rules.specs.Ciphers.{Ciphers}
use Rattle.node_rules.specs.Frames.{arrived}
use Rattle.node_rules.specs.Memory.{Memory, Node, Role, Coordinator, Meter, Load}
use Rattle.node_rules.specs.Acceptance.{accept}
use Rattle.line_rules.specs.Answers.{Reception, meter_reception, coordinator_reception, frame_word}
use Rattle.node_rules.specs.Meters as meters
use Rattle.node_rules.specs.Coordinators as coordinators
use Rattle.node_rules.specs.NodeSteps.{NodeStep, acts, of_station, answering}
use Rattle.line_rules.specs.Steps.{identity, hearing_step, note_by, forged_by, world_after, running_world, trace_of, happenings, flights_of, hearing_outcome}
use Rattle.line_rules.specs.Steps.{arrives}
use Rattle.line_rules.specs.Worlds.{Trace, World}
use Rattle.node_rules.specs.Ciphers.{OpensWhatItSeals}
use Rattle.line_laws.specs.SealedUnits.{IsFlight, AreFlights}
use Rattle.line_laws.specs.Ranges.{HasRoomInFrames, IsStationRanged}
use Rattle.line_laws.proofs.Made.{RingWord, Carry}
use Rattle.line_laws.proofs.StoreMarks.{IsPlain}
use Rattle.line_laws.proofs.StoreFold.{WordFits}
use Rattle.line_laws.proofs.NodeCalls.{heard_given}
use Rattle.line_laws.proofs.MeterForms.{RingCause}
use Rattle.line_laws.proofs.RangeFold.{InRange}
use Rattle.line_laws.proofs.RangePlans.{RangeOk, DidRanged, acts_ranged, did_flights}
use Rattle.line_laws.proofs.RangeHeard.{heard_ranged, plain_ranged, SaysShort, meter_carries, meter_hears_ranged}
use Rattle.line_laws.proofs.RangeCoordinator.{SpeaksWell, SaysOnly, coordinator_carries, coordinator_words, coordinator_hears_ranged}
use Rattle.line_laws.proofs.RangeCalls.{accept_ranged}
use Rattle.line_laws.proofs.CustodyDeliver.{WhatCame, PlainCame, LetterCame, opening}
pub use Rattle.line_laws.specs.Ranges.{NodeRanged}

-- What is owed of the words of a joining: what a meter installs is read back, and what it says fits a command; to whom the coordinator speaks.
pub record JoinsWell (ciphers : Ciphers) (x : Node) (got : Accepted) (cost note now : ℕ) : Type 0 where
  pub words : (psk : Key) → x.role ≡ Meter psk → (m : Memory) → x.memory ≡ Some m → (w : RingWord)
      → RingCause (heard_given got cost note now) (identity ciphers x psk) m w → WordFits w
  pub short : (psk : Key) → x.role ≡ Meter psk → (m : Memory) → x.memory ≡ Some m → SaysShort (identity ciphers x psk) m
  pub coordinator : (m : Memory) → x.memory ≡ Some m → SpeaksWell (record { eui = x.eui; ciphers = ciphers }) (heard_given got cost note now) m

module _ (ciphers : Ciphers) (opens : OpensWhatItSeals ciphers) (w : World) (are : AreFlights ciphers w.flights) (number : ℕ) (x : Node) (octets : List ℕ)
    (cost : ℕ) where
  -- what came is in range
  came_ranged : (got : Accepted) (note : ℕ) → WhatCame ciphers opens w are number x octets cost 1 0 (omega arith) got → (W : RingWord → Type 0)
      → ((to n : ℕ) (load : Load) → W (Carry to n load) → (to < 0xFFFE) × HasRoomInFrames load) → ((v : RingWord) → W v → WordFits v)
      → InRange W (heard_given got cost note w.clock)
  came_ranged got note (PlainCame plain) W carries words = plain_ranged got cost note w.clock (λ from all key e. subst IsPlain e plain) W carries words
  came_ranged got note (LetterCame l fits from counter is origin) W carries words = heard_ranged l fits from counter got is cost note w.clock W carries words

  -- what a meter makes of it, and what the coordinator does
  pub meter_plan_ranged : (y : Node) (psk : Key) (m : Memory) (got : Accepted) (note : ℕ)
      → WhatCame ciphers opens w are number x octets cost 1 0 (omega arith) got → IsStationRanged m.station → SaysShort (identity ciphers y psk) m
      → ((v : RingWord) → RingCause (heard_given got cost note w.clock) (identity ciphers y psk) m v → WordFits v)
      → RangeOk (meters.hear_meter (identity ciphers y psk) m got cost note w.clock)
  meter_plan_ranged y psk m got note what h short words = meter_hears_ranged (identity ciphers y psk) m got cost note w.clock
      (came_ranged got note what (RingCause (heard_given got cost note w.clock) (identity ciphers y psk) m)
      (meter_carries (heard_given got cost note w.clock) (identity ciphers y psk) m short) words) h

  pub coordinator_plan_ranged : (y : Node) (m : Memory) (got : Accepted) (note : ℕ) → WhatCame ciphers opens w are number x octets cost 1 0 (omega arith) got
      → IsStationRanged m.station → SpeaksWell (record { eui = y.eui; ciphers = ciphers }) (heard_given got cost note w.clock) m
      → RangeOk (coordinators.hear_coordinator (record { eui = y.eui; ciphers = ciphers }) m got cost note w.clock)
  coordinator_plan_ranged y m got note what h speaks =
      let own : coordinators.CoordinatorIdentity = record { eui = y.eui; ciphers = ciphers } in
      coordinator_hears_ranged own m got cost note w.clock
      (came_ranged got note what (SaysOnly own (heard_given got cost note w.clock) m) (coordinator_carries own (heard_given got cost note w.clock) m speaks)
      (coordinator_words own (heard_given got cost note w.clock) m)) h

  hears_ranged : (y : Node) (got : Accepted) (note : ℕ) → WhatCame ciphers opens w are number x octets cost 1 0 (omega arith) got → NodeRanged y
      → JoinsWell ciphers y got cost note w.clock → DidRanged (hearing_step ciphers y got cost note w.clock)
  hears_ranged y got note what ok joins = by_role y.role refl
    where
      read_as : {A : Type 0} (reads : A → Reception) (d : NodeStep A) → DidRanged d → DidRanged (answering reads d)
      read_as reads d r = record { station = r.station; frames = r.frames }

      By : Role → Type 0
      By role = DidRanged (hears_as role)
        where
          hears_as : Role → NodeStep Reception
          hears_as Coordinator = answering coordinator_reception
              (acts y (Err drops.Store) (λ m. coordinators.hear_coordinator (record { eui = y.eui; ciphers = ciphers }) m got cost note w.clock))
          hears_as (Meter psk) = answering meter_reception (acts y (Err drops.Store) (λ m. meters.hear_meter (identity ciphers y psk) m got cost note w.clock))

      by_role : (role : Role) → y.role ≡ role → DidRanged (hearing_step ciphers y got cost note w.clock)
      by_role Coordinator e = subst By (sym e) (read_as coordinator_reception _
          (acts_ranged y (Err drops.Store) (λ m. coordinators.hear_coordinator (record { eui = y.eui; ciphers = ciphers }) m got cost note w.clock) ok
          (λ m there h. coordinator_plan_ranged y m got note what h (joins.coordinator m there))))
      by_role (Meter psk) e = subst By (sym e)
          (read_as meter_reception _ (acts_ranged y (Err drops.Store) (λ m. meters.hear_meter (identity ciphers y psk) m got cost note w.clock) ok
          (λ m there h. meter_plan_ranged y psk m got note what h (joins.short psk e m there) (joins.words psk e m there))))

  abbrev pub accepts : NodeStep (Result Accepted FrameRefusal)
  accepts = acts x (Err frames.Halted) (λ m. of_station m (accept m.station x.eui (arrived ciphers octets)))

  pub accepts_ranged : NodeRanged x → DidRanged accepts
  accepts_ranged ok = acts_ranged x (Err frames.Halted) (λ m. of_station m (accept m.station x.eui (arrived ciphers octets))) ok
      (λ m e h. accept_ranged m h x.eui (arrived ciphers octets))

  -- the second plan's frames are letters in range
  pub heard_frames : (got : Accepted) → accepts.answer ≡ Ok got → forged_by w octets got.path ≡ false → NodeRanged x
      → JoinsWell ciphers accepts.node got cost (note_by w octets got.path) w.clock
      → DidRanged (hearing_step ciphers accepts.node got cost (note_by w octets got.path) w.clock)
  heard_frames got e unforged ok joins = hears_ranged accepts.node got (note_by w octets got.path)
      (opening ciphers opens w are number x octets cost 1 0 (omega arith) got e unforged).what (accepts_ranged ok).station joins

  -- What an arrival leaves: flights that are what flights are, and nodes in their ranges.
  pub record LeavesRanged (v : World) : Type 0 where
    pub flights : AreFlights ciphers v.flights
    pub nodes : All NodeRanged v.nodes

  pub arrives_ranged : All NodeRanged w.nodes → NodeRanged x
      → ((got : Accepted) → accepts.answer ≡ Ok got → JoinsWell ciphers accepts.node got cost (note_by w octets got.path) w.clock)
      → (arrives ciphers w number x octets cost).1.happenings.forged ≡ false
      → LeavesRanged (arrives ciphers w number x octets cost).0
  unfolding arrives world_after
  arrives_ranged nodes ok joins unforged = by_answer accepts.answer refl unforged
    where
      after : Result Accepted FrameRefusal → World × Trace
      after (Ok got) = hearing_outcome ciphers w number accepts.node octets got cost
      after (Err reason) = (world_after ciphers (running_world w) number accepts, trace_of (happenings w (frame_word reason)))

      by_answer : (a : Result Accepted FrameRefusal) → accepts.answer ≡ a → (after a).1.happenings.forged ≡ false → LeavesRanged (after a).0
      by_answer (Err reason) e unforged =
          let r = accepts_ranged ok in
          record {
            flights = All-append (IsFlight ciphers) w.flights (flights_of ciphers number accepts) are (did_flights ciphers number accepts r);
            nodes = All-set NodeRanged w.nodes number accepts.node r.station nodes;
          }
      by_answer (Ok got) e unforged =
          let r = heard_frames got e (or_parts _ _ unforged).0 ok (joins got e) in
          let d2 : NodeStep Reception = hearing_step ciphers accepts.node got cost (note_by w octets got.path) w.clock in
          record {
            flights = All-append (IsFlight ciphers) w.flights (flights_of ciphers number d2) are (did_flights ciphers number d2 r);
            nodes = All-set NodeRanged w.nodes number d2.node r.station nodes;
          }
