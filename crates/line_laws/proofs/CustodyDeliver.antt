-- What comes to a node keeps custody: the two plans of a delivery, one after the other.
use Rattle.std.proofs.Common.{zero-le, ◌≡◌, ℕ, suc, ◌+◌, ◌≤◌, ◌<◌, ⊎_elim, Bool, true, false, not, List, [], ◌∷◌, ◌++◌, length, Option, Some, None, Result, Ok}
use Rattle.std.proofs.Common.{Err, refl, sym, ap, ◌∙◌, subst, arith}
use Rattle.std.specs.Prelude.{slice_get, slice_set, ◌||◌, All, ◌==◌}
use Rattle.std.specs.List.{sum_by, list_any}
use Rattle.std.specs.Option.{option_map, option_map_or, option_to_list}
use Rattle.std.proofs.lemmas.Option.{same_Some, slice_get_within, get_or_from_slice_get}
use Rattle.std.proofs.lemmas.Bool.{and_parts, or_parts}
use Rattle.std.proofs.lemmas.Slice.Eq.{bytes_eq-Decides}
use Rattle.std.proofs.lemmas.List.Sums.{sum_by-cons}
use Rattle.plc_base.specs.declared.key.Key.{Key}
use Rattle.group_keys.specs.KeyBook.{same_key}
use Rattle.node_rules.specs.Accepted.{Accepted}
use Rattle.node_rules.specs.declared.heard.Path.{Path}
use Rattle.node_rules.specs.declared.heard.Path.TheVariants as paths
use Rattle.node_rules.specs.declared.heard.Heard.{Heard}
use Rattle.node_rules.specs.declared.heard.Heard.TheVariants as heard_as
use Rattle.node_rules.specs.declared.heard.MeterHeard.{MeterHeard}
use Rattle.node_rules.specs.declared.heard.MeterHeard.TheVariants as meter_heard
use Rattle.node_rules.specs.declared.heard.CoordinatorHeard.{CoordinatorHeard}
use Rattle.node_rules.specs.declared.heard.CoordinatorHeard.TheVariants as coordinator_heard
use Rattle.node_rules.specs.declared.refusal.Dropped.{Dropped}
use Rattle.node_rules.specs.declared.refusal.Dropped.TheVariants as drops
use Rattle.node_rules.specs.declared.refusal.FrameRefusal.{FrameRefusal}
use Rattle.node_rules.specs.declared.refusal.FrameRefusal.TheVariants as frames
use Rattle.node_rules.specs.Ciphers.{Ciphers}
use Rattle.node_rules.specs.Frames.{SealedUnit, arrived, to_all}
use Rattle.node_rules.specs.Memory.{Memory, Node, Role, Coordinator, Meter}
use Rattle.node_rules.specs.Plans.{Plan, carry_out, resting}
use Rattle.node_rules.specs.Acceptance.{Accepting, accept, marking}
use Rattle.line_rules.specs.Answers.{Reception, Up, frame_word, station_reception, meter_reception, coordinator_reception}
use Rattle.node_rules.specs.Laws.{IsWhole, IsCutOff}
use Rattle.node_rules.specs.Meters as meters
use Rattle.node_rules.specs.Coordinators as coordinators
use Rattle.node_rules.specs.NodeSteps.{NodeStep, acts, stays, left_by, of_station, answering}
use Rattle.line_rules.specs.Steps.{identity, hearing_step, note_by, forged_by, world_after, running_world, trace_of, happenings, flights_of, handed_by}
use Rattle.line_rules.specs.Steps.{hearing_outcome, arrives}
use Rattle.line_rules.specs.Worlds.{Flight, Trace, World, has_octets, note_of, is_forged_frame}
use Rattle.line_events.specs.declared.happenings.Handed.{Handed}
use Rattle.node_rules.proofs.FailedWrites.{clean}
use Rattle.node_rules.specs.Ciphers.{OpensWhatItSeals}
use Rattle.line_laws.specs.SealedUnits.{IsSealedUnit, SpellsSealedUnit, IsFlight, AreFlights}
use Rattle.line_laws.specs.Custody.{weigh, below, sealed_unit_is, up_is}
use Rattle.line_laws.specs.Places.{node_keeps, unit_of, flight_is, handed_is, issued, IsInCustody, LiveFalls, first_place, opened_by, opened_at}
use Rattle.line_laws.proofs.LetterAccepts.{IsOfLetter, accepts_sealed_unit}
use Rattle.line_laws.proofs.StoreMarks.{IsAdmitted, IsPlain, Accepts, Turned, Plain, Marked, accept_is}
use Rattle.line_laws.proofs.NodeCalls.{heard_given}
use Rattle.line_laws.proofs.CustodyPlans.{Agrees, up_by, DidKeep, acts_kept}
use Rattle.line_laws.proofs.CustodyCalls.{meter_up, coordinator_up, Comes, sealed_unit_comes, plain_comes, meter_hears_kept, coordinator_hears_kept}
use Rattle.line_laws.proofs.CustodyCalls.{accept_kept}
use Rattle.line_laws.proofs.CustodyWorld.{unit_back, flight_weighs, opened_is, sent_flies, custody_after}
use Rattle.line_laws.proofs.RangeFrames.{IsSent}

-- # The flight with some octets under a key

-- A flight has these octets under this key, and the note is its.
pub record WasFlown (flights : List Flight) (octets : List ℕ) (key : Key) : Type 0 where
  pub place : ℕ
  pub flight : Flight
  pub there : slice_get flights place ≡ Some flight
  pub octets_are : flight.octets ≡ octets
  pub key_is : flight.key ≡ Some key
  pub note : note_of flights octets key ≡ flight.note
  pub at : first_place flights octets key ≡ Some place

abbrev key_as : List ℕ → Key
key_as octets = record { 0 = octets }

under_is : (o : Option Key) (key : Key) → option_map_or (same_key key) o false ≡ true → o ≡ Some key
under_is None key h = absurd (cc)
under_is (Some own) key h = ap (λ (xs : List ℕ). Some (key_as xs)) (sym ((bytes_eq-Decides key.0 own.0).0 h))

pub flown : (flights : List Flight) (octets : List ℕ) (key : Key) → is_forged_frame flights octets key ≡ false → WasFlown flights octets key
unfolding note_of first_place
flown [] octets key h = absurd (cc)
flown (f ∷ flights) octets key h = by_first (has_octets octets key f) refl h (flown flights octets key)
  where
    by_first : (b : Bool) → has_octets octets key f ≡ b → not (b || list_any (has_octets octets key) flights) ≡ false
        → (not (list_any (has_octets octets key) flights) ≡ false → WasFlown flights octets key) → WasFlown (f ∷ flights) octets key
    by_first true t h rest =
        let parts = and_parts _ _ t in
        record {
          place = 0;
          flight = f;
          there = refl;
          octets_are = (bytes_eq-Decides f.octets octets).0 parts.0;
          key_is = under_is f.key key parts.1;
          note = rw t refl;
          at = rw t refl;
        }
    by_first false t h rest =
        let r = rest h in record {
          place = suc r.place;
          flight = r.flight;
          there = r.there;
          octets_are = r.octets_are;
          key_is = r.key_is;
          note = rw t r.note;
          at = rw t (ap (option_map (λ (k : ℕ). suc k)) r.at);
        }

-- # What is handed up, as the report has it

abbrev pub reception_up : ℕ → ℕ → Reception → ℕ
reception_up n i r = option_map_or (λ (u : Up). weigh n u.note (below i (length u.octets))) r.up 0

station_up : (n i : ℕ) (h : Heard) → reception_up n i (station_reception h) ≤ up_is n i h
station_up n i (heard_as.Up from note octets) = omega arith
station_up n i _ = zero-le

meter_reported : (n i : ℕ) (a : Result MeterHeard Dropped) → reception_up n i (meter_reception a) ≤ up_by (meter_up n i) a
meter_reported n i (Ok (meter_heard.Station h)) = station_up n i h
meter_reported n i (Ok _) = zero-le
meter_reported n i (Err reason) = zero-le

coordinator_reported : (n i : ℕ) (a : Result CoordinatorHeard Dropped) → reception_up n i (coordinator_reception a) ≤ up_by (coordinator_up n i) a
coordinator_reported n i (Ok (coordinator_heard.Station h)) = station_up n i h
coordinator_reported n i (Ok _) = zero-le
coordinator_reported n i (Err reason) = zero-le

-- # What is heard

module _ (ciphers : Ciphers) (got : Accepted) (cost note now n i brought : ℕ) (some : 0 < n) (comes : Comes (heard_given got cost note now) n i brought) where
  pub hears_kept : (x : Node) → ((m : Memory) → x.memory ≡ Some m → Agrees (heard_given got cost note now) m.station)
      → DidKeep n i brought (reception_up n i) x (hearing_step ciphers x got cost note now)
  hears_kept x agrees = by_role x.role refl
    where
      reported : {A : Type 0} (reads : A → Reception) (ups : A → ℕ) → ((a : A) → reception_up n i (reads a) ≤ ups a) → (d : NodeStep A)
          → DidKeep n i brought ups x d → DidKeep n i brought (reception_up n i) x (answering reads d)
      reported reads ups less d k = record { kept = let h = k.kept in let z = less d.answer in omega arith }

      By : Role → Type 0
      By role = DidKeep n i brought (reception_up n i) x (hears_as role)
        where
          hears_as : Role → NodeStep Reception
          hears_as Coordinator = answering coordinator_reception
              (acts x (Err drops.Store) (λ m. coordinators.hear_coordinator (record { eui = x.eui; ciphers = ciphers }) m got cost note now))
          hears_as (Meter psk) = answering meter_reception (acts x (Err drops.Store) (λ m. meters.hear_meter (identity ciphers x psk) m got cost note now))

      by_role : (role : Role) → x.role ≡ role → DidKeep n i brought (reception_up n i) x (hearing_step ciphers x got cost note now)
      by_role Coordinator e = subst By (sym e) (reported coordinator_reception (up_by (coordinator_up n i)) (coordinator_reported n i) _
          (acts_kept n i brought (up_by (coordinator_up n i)) x (Err drops.Store)
          (λ m. coordinators.hear_coordinator (record { eui = x.eui; ciphers = ciphers }) m got cost note now) refl
          (λ m e. coordinator_hears_kept got cost note now n i brought some comes (record { eui = x.eui; ciphers = ciphers }) m (agrees m e))))
      by_role (Meter psk) e = subst By (sym e) (reported meter_reception (up_by (meter_up n i)) (meter_reported n i) _
          (acts_kept n i brought (up_by (meter_up n i)) x (Err drops.Store) (λ m. meters.hear_meter (identity ciphers x psk) m got cost note now) refl
          (λ m e. meter_hears_kept got cost note now n i brought some comes (identity ciphers x psk) m (agrees m e))))

-- # A delivery

err_ok : {A E : Type 0} (x : E) (a : A) → Err x ≡ Ok a → ⊥
err_ok x a e = cc

module _ (ciphers : Ciphers) (opens : OpensWhatItSeals ciphers) (w : World) (are : AreFlights ciphers w.flights) (number : ℕ) (x : Node) (octets : List ℕ)
    (cost n i : ℕ) (some : 0 < n) where
  -- what the node does first: it accepts the frame, or not
  abbrev pub accepting : NodeStep (Result Accepted FrameRefusal)
  accepting = acts x (Err frames.Halted) (λ m. of_station m (accept m.station x.eui (arrived ciphers octets)))

  -- The flight of a letter: its unit and its note are the letter's, and the note is the one that the frame is heard under.
  pub record FromFlight (got : Accepted) (l : SealedUnit) : Type 0 where
    pub place : ℕ
    pub flight : Flight
    pub there : slice_get w.flights place ≡ Some flight
    pub unit : unit_of ciphers flight ≡ Some l.unit
    pub note : flight.note ≡ l.note
    pub heard : l.note ≡ note_by w octets got.path

  -- what was accepted: a plain frame, or what a letter was spelled as
  pub data WhatCame (got : Accepted) : Type 0 where
    PlainCame : IsPlain got.path → WhatCame got
    LetterCame : (l : SealedUnit) → IsSealedUnit l → (from counter : ℕ) → IsOfLetter l from counter got → FromFlight got l → WhatCame got

  -- What was opened, and what it brings.
  pub record Opening (got : Accepted) : Type 0 where
    pub what : WhatCame got
    pub brought : ℕ
    pub weight : brought ≤ opened_is ciphers n i w.flights (opened_by w octets got.path)
    pub comes : Comes (heard_given got cost (note_by w octets got.path) w.clock) n i brought

  of_plain : (got : Accepted) → IsPlain got.path → Opening got
  of_plain got plain =
      record { what = PlainCame plain; brought = 0; weight = zero-le; comes = plain_comes got cost (note_by w octets got.path) w.clock n i plain }

  of_sealed_unit : (m : Memory) (from counter : ℕ) (got : Accepted) → IsAdmitted m.station (arrived ciphers octets) from counter got
      → forged_by w octets got.path ≡ false → Opening got
  of_sealed_unit m from counter got a unforged = by_all (a.to == to_all) (ap (λ (g : Accepted). g.path) a.got_is)
    where
      all_of : Path → Bool
      all_of (paths.Sealed from all key) = all
      all_of (paths.Up from) = false
      all_of (paths.Down from) = false

      -- what goes to all brings no datagram
      none_to_one : got.path ≡ paths.Sealed from true a.key → (note : ℕ) → Comes (heard_given got cost note w.clock) n i 0
      none_to_one path note = record {
        comes = λ by u c.
            let same : got ≡ c.got = same_Some got c.got c.is in
            let e : true ≡ false = ap all_of (sym path ∙ ap (λ (g : Accepted). g.path) same ∙ c.path) in
            absurd (cc (e));
      }

      by_all : (b : Bool) → got.path ≡ paths.Sealed from b a.key → Opening got
      by_all b path =
          let f = flown w.flights octets a.key (ap (forged_by w octets) (sym path) ∙ unforged) in
          let is : IsFlight ciphers f.flight = subst (IsFlight ciphers) (get_or_from_slice_get w.flights f.place f.flight f.flight f.there)
          (are f.place f.flight (slice_get_within w.flights f.place f.flight f.there)) in
          let s : SpellsSealedUnit ciphers f.flight a.key = is.sealed a.key f.key_is in
          let of = accepts_sealed_unit ciphers opens s.sealed_unit s.fits m.station octets (sym f.octets_are ∙ s.octets) from counter got a (sym s.key_is) in
          let note : s.sealed_unit.note ≡ note_by w octets got.path = sym s.note ∙ sym f.note ∙ ap (note_by w octets) (sym path) in
          let same : flight_is ciphers n i f.flight ≡ sealed_unit_is n i s.sealed_unit = flight_weighs ciphers opens n i f.flight a.key f.key_is s in
          let there : opened_is ciphers n i w.flights (Some f.place)
          ≡ flight_is ciphers n i f.flight = ap (λ (o : Option Flight). option_map_or (flight_is ciphers n i) o 0) f.there in
          let what : WhatCame got = LetterCame s.sealed_unit s.fits from counter of
          (record {
            place = f.place;
            flight = f.flight;
            there = f.there;
            unit = unit_back ciphers opens f.flight a.key f.key_is s;
            note = s.note;
            heard = note;
          }) in
          let one : sealed_unit_is n i s.sealed_unit ≤ opened_is ciphers n i w.flights (first_place w.flights octets a.key) = subst
          (λ (o : Option ℕ). sealed_unit_is n i s.sealed_unit ≤ opened_is ciphers n i w.flights o) (sym f.at) (omega arith) in
          let comes : Comes (heard_given got cost (note_by w octets got.path) w.clock) n i (sealed_unit_is n i s.sealed_unit) = subst
          (λ (k : ℕ). Comes (heard_given got cost k w.clock) n i (sealed_unit_is n i s.sealed_unit)) note
          (sealed_unit_comes s.sealed_unit s.fits from counter got of cost w.clock n i) in
          opens_to b path what (sealed_unit_is n i s.sealed_unit) one comes
        where
          opens_to : (b : Bool) → got.path ≡ paths.Sealed from b a.key → WhatCame got → (brought : ℕ)
              → brought ≤ opened_is ciphers n i w.flights (first_place w.flights octets a.key)
              → Comes (heard_given got cost (note_by w octets got.path) w.clock) n i brought → Opening got
          opens_to true path what brought one comes =
              record { what = what; brought = 0; weight = zero-le; comes = none_to_one path (note_by w octets got.path) }
          opens_to false path what brought one comes =
              record {
                what = what;
                brought = brought;
                weight = subst (λ (o : Option ℕ). brought ≤ opened_is ciphers n i w.flights o) (ap (opened_by w octets) (sym path)) one;
                comes = comes;
              }

  opening_of : (m : Memory) (got : Accepted) (p : Accepting) → Accepts m.station (arrived ciphers octets) p → p.answer ≡ Ok got
      → forged_by w octets got.path ≡ false → Opening got
  unfolding resting marking
  opening_of m got p (Turned reason) e unforged = absurd (err_ok reason got e)
  opening_of m got p (Plain g plain) e unforged = let same : g ≡ got = cc in subst Opening same (of_plain g plain.path)
  opening_of m got p (Marked from counter g a) e unforged =
      let same : g ≡ got = cc in of_sealed_unit m from counter got (subst (IsAdmitted m.station (arrived ciphers octets) from counter) same a) unforged

  failed_store : (m : Memory) → (of_station m (accept m.station x.eui (arrived ciphers octets))).failed ≡ Err frames.Store
  unfolding resting marking
  failed_store m = by_form _ (accept_is m.station x.eui (arrived ciphers octets))
    where
      by_form : (p : Accepting) → Accepts m.station (arrived ciphers octets) p → p.failed ≡ Err frames.Store
      by_form p (Turned reason) = refl
      by_form p (Plain got plain) = refl
      by_form p (Marked from counter got a) = refl

  pub opening : (got : Accepted) → accepting.answer ≡ Ok got → forged_by w octets got.path ≡ false → Opening got
  unfolding acts
  opening got e unforged = by_memory x.memory refl e
    where
      plan : Memory → Plan Memory (Result Accepted FrameRefusal)
      plan m = of_station m (accept m.station x.eui (arrived ciphers octets))

      by_outcome : (m : Memory) → (carry_out x.store.records x.store.cut (of_station m (accept m.station x.eui (arrived ciphers octets)))).answer ≡ Ok got
          → Opening got
      by_outcome m e = ⊎_elim
          (λ (k : IsWhole x.store.records x.store.cut (of_station m (accept m.station x.eui (arrived ciphers octets)))
          (carry_out x.store.records x.store.cut (of_station m (accept m.station x.eui (arrived ciphers octets))))).
          opening_of m got _ (accept_is m.station x.eui (arrived ciphers octets)) (sym k.answer ∙ e) unforged)
          (λ (c : IsCutOff x.store.records x.store.cut (of_station m (accept m.station x.eui (arrived ciphers octets)))
          (carry_out x.store.records x.store.cut (of_station m (accept m.station x.eui (arrived ciphers octets))))).
          absurd (err_ok frames.Store got (sym (failed_store m) ∙ sym c.answer ∙ e)))
          (clean x.store.records x.store.cut (of_station m (accept m.station x.eui (arrived ciphers octets))))

      by_memory : (o : Option Memory) → x.memory ≡ o
          → (option_map_or (λ m. left_by x (carry_out x.store.records x.store.cut (of_station m (accept m.station x.eui (arrived ciphers octets))))) o
          (stays x (Err frames.Halted))).answer ≡ Ok got → Opening got
      by_memory None there e = absurd (err_ok frames.Halted got e)
      by_memory (Some m) there e = by_outcome m e

  -- accepting moves no datagram
  accepted_kept : DidKeep n i 0 (λ (r : Result Accepted FrameRefusal). 0) x accepting
  accepted_kept = acts_kept n i 0 (λ r. 0) x (Err frames.Halted) (λ m. of_station m (accept m.station x.eui (arrived ciphers octets))) refl
      (λ m e. accept_kept n i some m x.eui (arrived ciphers octets))

  -- What is owed of the second plan: a piece has the note of what is gathered under its name, and the frames are letters in range.
  pub record HeardWell (got : Accepted) : Type 0 where
    pub agrees : (m : Memory) → accepting.node.memory ≡ Some m → Agrees (heard_given got cost (note_by w octets got.path) w.clock) m.station
    pub frames : All IsSent (hearing_step ciphers accepting.node got cost (note_by w octets got.path) w.clock).frames

  -- What an arrival led to: one node is another one, some flights are new, and all that it keeps, sends and hands up was there or came.
  pub record Delivered (v : World) (d : Trace) : Type 0 where
    pub node : Node
    pub new : List Flight
    pub nodes : v.nodes ≡ slice_set w.nodes number node
    pub flights : v.flights ≡ w.flights ++ new
    pub sends : v.sends ≡ w.sends
    pub kept : (node_keeps n i node.memory + sum_by (flight_is ciphers n i) new) + sum_by (handed_is n i) (option_to_list d.happenings.up)
        ≤ node_keeps n i x.memory + opened_is ciphers n i w.flights (opened_at w octets accepting.answer)

  handed_sum : (up : Option Up) → sum_by (handed_is n i) (option_to_list (handed_by number up))
      ≡ option_map_or (λ (u : Up). weigh n u.note (below i (length u.octets))) up 0
  handed_sum None = refl
  handed_sum (Some u) = sum_by-cons (handed_is n i) (record { node = number; note = u.note; octets = u.octets }) [] ∙ omega arith

  pub arrives_kept : All IsSent accepting.frames → ((got : Accepted) → accepting.answer ≡ Ok got → HeardWell got)
      → (arrives ciphers w number x octets cost).1.happenings.forged ≡ false
      → Delivered (arrives ciphers w number x octets cost).0 (arrives ciphers w number x octets cost).1
  unfolding arrives world_after
  arrives_kept sent well unforged = by_answer accepting.answer refl unforged
    where
      after : Result Accepted FrameRefusal → World × Trace
      after (Ok got) = hearing_outcome ciphers w number accepting.node octets got cost
      after (Err reason) = (world_after ciphers (running_world w) number accepting, trace_of (happenings w (frame_word reason)))

      by_answer : (a : Result Accepted FrameRefusal) → accepting.answer ≡ a → (after a).1.happenings.forged ≡ false → Delivered (after a).0 (after a).1
      by_answer (Err reason) e unforged =
          let k = accepted_kept.kept in
          let f = sent_flies ciphers opens n i number accepting.frames sent in
          record { node = accepting.node; new = flights_of ciphers number accepting; nodes = refl; flights = refl; sends = refl; kept = omega arith }
      by_answer (Ok got) e unforged =
          let o = opening got e (or_parts _ _ unforged).0 in
          let h = well got e in
          let d2 : NodeStep Reception = hearing_step ciphers accepting.node got cost (note_by w octets got.path) w.clock in
          let k1 = accepted_kept.kept in
          let k2 = (hears_kept ciphers got cost (note_by w octets got.path) w.clock n i o.brought some o.comes accepting.node h.agrees).kept in
          let f = sent_flies ciphers opens n i number d2.frames h.frames in
          let up = handed_sum d2.answer.up in
          let weight = o.weight in
          let place : opened_is ciphers n i w.flights (opened_at w octets accepting.answer)
          ≡ opened_is ciphers n i w.flights (opened_by w octets got.path) =
          ap (λ (a : Result Accepted FrameRefusal). opened_is ciphers n i w.flights (opened_at w octets a)) e in
          record { node = d2.node; new = flights_of ciphers number d2; nodes = refl; flights = refl; sends = refl; kept = omega arith }

-- # Custody after an arrival

-- Octets that come, and are not forged, keep each octet of each datagram at one place at most.
pub arrival_in_custody : (ciphers : Ciphers) (live : World → Flight → Bool) → OpensWhatItSeals ciphers → (w : World) → AreFlights ciphers w.flights
    → (number : ℕ) (x : Node) → slice_get w.nodes number ≡ Some x → (octets : List ℕ) (cost : ℕ) (before : List Handed)
    → IsInCustody ciphers live w before
    → (let first = acts x (Err frames.Halted) (λ m. of_station m (accept m.station x.eui (arrived ciphers octets))) in
    All IsSent first.frames → ((got : Accepted) → first.answer ≡ Ok got
    → ((m : Memory) → first.node.memory ≡ Some m → Agrees (heard_given got cost (note_by w octets got.path) w.clock) m.station)
    × All IsSent (hearing_step ciphers first.node got cost (note_by w octets got.path) w.clock).frames)
    → (arrives ciphers w number x octets cost).1.happenings.forged ≡ false
    → LiveFalls live w (arrives ciphers w number x octets cost).0 (opened_at w octets first.answer)
    → IsInCustody ciphers live (arrives ciphers w number x octets cost).0 (before ++ option_to_list (arrives ciphers w number x octets cost).1.happenings.up))
arrival_in_custody ciphers live opens w are number x here octets cost before held sent well unforged falls = record {
  at_most = λ n i some.
      let v : World = (arrives ciphers w number x octets cost).0 in
      let up : Option Handed = (arrives ciphers w number x octets cost).1.happenings.up in
      let d = arrives_kept ciphers opens w are number x octets cost n i some sent (λ got e. let h = well got e in record { agrees = h.0; frames = h.1 })
      unforged in
      let same : issued n v.sends ≡ issued n w.sends = ap (issued n) d.sends in
      custody_after ciphers live n i w v x d.node d.new before (option_to_list up) _ 0
      (record { number = number; here = here; nodes = d.nodes; flights = d.flights }) falls
      (record { kept = let k = d.kept in omega arith }) (omega arith) (held.at_most n i some);
}
