-- A frame that the station of the coordinator accepted, and that the coordinator heard.
use Rattle.std.proofs.Common.{◌≡◌, ℕ, ◌≤◌, List, [], ◌∷◌, length, Option, Some, None, Result, Ok, Err, refl, sym, ap, subst, ◌∙◌, arith}
use Rattle.std.specs.Prelude.{IfSome, IfNone, IfOk, IsSome}
use Rattle.std.specs.Option.{option_map}
use Rattle.plc_base.specs.declared.address.Eui.{Eui}
use Rattle.plc_base.specs.declared.key.RandomOctets.{RandomOctets}
use Rattle.plc_base.specs.declared.out_frame.Out.{Out}
use Rattle.plc_base.specs.Keeper.{Write}
use Rattle.group_keys.specs.KeyBook as book
use Rattle.node_rules.specs.Accepted.{Accepted}
use Rattle.node_rules.specs.Acceptance.{Accepting, accept, marking}
use Rattle.node_rules.specs.declared.heard.CoordinatorHeard.{CoordinatorHeard}
use Rattle.node_rules.specs.declared.refusal.Dropped.{Dropped}
use Rattle.node_rules.specs.declared.refusal.FrameRefusal.{FrameRefusal}
use Rattle.node_rules.specs.declared.refusal.FrameRefusal.TheVariants.{Halted}
use Rattle.node_rules.specs.declared.refusal.Unheard.{Unheard}
use Rattle.node_rules.specs.Agreement.{Agrees, AgreesWith}
use Rattle.node_rules.specs.CarriedPlans.{Carries, nothing}
use Rattle.node_rules.specs.Ciphers.{network}
use Rattle.node_rules.specs.Coordinators as rules
use Rattle.node_rules.specs.Frames.{Arrived}
use Rattle.node_rules.specs.Laws.{MarksAtMost}
use Rattle.node_rules.specs.Memory.{StationMemory, Memory, CoordinatorSession, address_of}
use Rattle.node_rules.specs.MemoryDrafts.{with_station}
use Rattle.node_rules.specs.NodeSteps.{of_station}
use Rattle.node_rules.specs.Plans.{resting}
use Rattle.node_rules.specs.Receives.{Receives, FollowsAccepting, heard_or_why, why_refused}
use Rattle.node_rules.specs.States.{State}
use Rattle.node_rules.proofs.CallShapes.{AcceptShape, Stays, Marks, accept_shape, only_marks}
use Rattle.node_rules.proofs.ComposedPlans.{carries_within}
use Rattle.plc_station.proofs.CarriedPlans.{at_some}
use Rattle.coordinator.specs.CoordinatorAgreement.{CoordinatorAgrees}
use Rattle.coordinator.specs.CoordinatorStates.{CoordinatorState, memory_in, node_of, identity_of, state_in}
use Rattle.coordinator.proofs.Parts.{part_agrees, part_home, part_book}
use Rattle.coordinator.proofs.StoredChanges.{on_parts}
use Rattle.coordinator.proofs.Within.{AreBelow, KeepsHome, home_holds}

-- # What accepting leaves as it is

below_marks : (ps : List Write) → MarksAtMost ps → AreBelow ps
below_marks [] h = tt
below_marks (w ∷ []) h = (omega (arith, h.1), tt)
below_marks (w ∷ v ∷ rest) h = absurd h

address_kept : (l : StationMemory) (p : Accepting) → AcceptShape l p → address_of p.memory ≡ address_of l
unfolding resting marking
address_kept l p (Stays answer) = refl
address_kept l p (Marks from counter accepted room) = refl

pub accept_keeps : (l : StationMemory) (own : Eui) (a : Option Arrived) → length l.marks ≤ 64 → address_of l ≡ Some 0 → KeepsHome (accept l own a)
accept_keeps l own a few home =
    record { below = below_marks _ (only_marks l own a few).puts; home = address_kept l _ (accept_shape l own a) ∙ home }

runs_too : {L M : Type 0} (o : Option L) (f : L → M) → IsSome o → IsSome (option_map f o)
runs_too None f h = h
runs_too (Some l) f h = refl

-- one that accepted a frame was not halted
pub was_running : (o : Option StationMemory) (got : Accepted) (B : Type 0) → IfNone o ((◌≡◌ {A = Result Accepted FrameRefusal} (Ok got) (Err Halted)) × B)
    → IsSome o
was_running None got B h = let never = h.0 in absurd (cc)
was_running (Some l) got B h = refl

-- a halted one stays as it is
pub halted_beside : (x : CoordinatorState) (t : State StationMemory) (r : Result Accepted FrameRefusal)
    → IfNone x.station.memory ((r ≡ Err Halted) × (t ≡ x.station))
    → IfNone x.station.memory ((r ≡ Err Halted) × (record x { station = t } ≡ x))
halted_beside x t r = by x.station.memory
  where
    by : (o : Option StationMemory) → IfNone o ((r ≡ Err Halted) × (t ≡ x.station)) → IfNone o ((r ≡ Err Halted) × (record x { station = t } ≡ x))
    by None h = (h.0, ap (λ (s : State StationMemory). record x { station = s }) h.1)
    by (Some l) h = tt

module _ (s t : State StationMemory) (randoms : List RandomOctets) (sessions : List CoordinatorSession) (b : book.Book) (a : Option Arrived)
    (r : Result Accepted FrameRefusal) where
  -- one that accepted is not halted
  pub still_runs : IfOk r (λ got. IsSome t.memory) → IfOk r (λ got. IsSome (option_map (memory_in randoms sessions b) t.memory))
  still_runs h = by r h
    where
      by : (q : Result Accepted FrameRefusal) → IfOk q (λ got. IsSome t.memory) → IfOk q (λ got. IsSome (option_map (memory_in randoms sessions b) t.memory))
      by (Ok got) h = runs_too t.memory (memory_in randoms sessions b) h
      by (Err reason) h = tt

  -- the coordinator agrees with its keeper after its station accepted or refused a frame
  pub accepted_holds : IfNone s.memory ((r ≡ Err Halted) × (t ≡ s)) → IfSome s.memory (λ l. Carries s (accept l s.eui a) r nothing t)
      → CoordinatorAgrees (state_in s randoms sessions b) → Agrees t → CoordinatorAgrees (state_in t randoms sessions b)
  accepted_holds halted carries holds agrees = by s.memory refl
    where
      by : (o : Option StationMemory) → s.memory ≡ o → CoordinatorAgrees (state_in t randoms sessions b)
      by None e =
          let stays = subst (λ (o : Option StationMemory). IfNone o ((r ≡ Err Halted) × (t ≡ s))) e halted in
          subst (λ (k : State StationMemory). CoordinatorAgrees (state_in k randoms sessions b)) (sym stays.1) holds
      by (Some l) e =
          home_holds s t (accept l s.eui a) (memory_in randoms sessions b) r nothing b (λ n. refl) (λ n. refl)
          (at_some s.memory (λ k. Carries s (accept k s.eui a) r nothing t) l e carries)
          (accept_keeps l s.eui a (at_some s.memory (λ k. AgreesWith k s.store.records) l e
          (part_agrees randoms sessions b s.store.records s.memory holds)).marks.short
          (part_home randoms sessions b s.store.records s.memory l e holds))
          (part_book randoms sessions b s.store.records s.memory
          (runs_too s.memory (memory_in randoms sessions b) (subst (λ (o : Option StationMemory). IsSome o) (sym e) refl))
          holds)
          agrees

-- # Accepted, then heard

module _ (x y z : CoordinatorState) (a : Option Arrived) (cost note time : ℕ) (result : Result CoordinatorHeard Unheard) (out : Out)
    (beside : y ≡ record x { station = y.station }) where
  abbrev hears : Accepted → Memory → rules.Hearing
  hears got k = rules.hear_coordinator (identity_of x) k got cost note time

  abbrev HasReceived : Type 0
  HasReceived = IfSome (node_of x).memory (λ m. Receives (of_station m (accept m.station x.station.eui a)) hears (node_of x) result out (node_of z))

  follows : (answer : Result Accepted FrameRefusal) → IfSome x.station.memory (λ l. Carries x.station (accept l x.station.eui a) answer nothing y.station)
      → (y.station.eui ≡ x.station.eui → FollowsAccepting hears answer (node_of y) result out (node_of z)) → HasReceived
  follows answer carries then = on_parts x.station.memory (memory_in x.randoms x.sessions x.book) _ (λ l running.
      let c = at_some x.station.memory (λ k. Carries x.station (accept k x.station.eui a) answer nothing y.station) l running carries in
      record {
        answer = answer;
        mid = node_of y;
        accepted =
            subst (λ (s : State Memory). Carries (node_of x) (of_station (memory_in x.randoms x.sessions x.book l) (accept l x.station.eui a)) answer nothing s)
            (sym (ap node_of beside))
            (carries_within (λ k. with_station k (memory_in x.randoms x.sessions x.book l)) (λ (r : Result Accepted FrameRefusal). r) (node_of x) x.station
            y.station (accept l x.station.eui a) answer nothing refl refl c);
        follows = then (ap (λ (s : State StationMemory). s.eui) c.new_is);
      })

  pub heard : (got : Accepted) (answer : Result CoordinatorHeard Dropped)
      → IfSome x.station.memory (λ l. Carries x.station (accept l x.station.eui a) (Ok got) nothing y.station)
      → IsSome (node_of y).memory → result ≡ heard_or_why answer
      → IfSome (node_of y).memory (λ m. Carries (node_of y) (rules.hear_coordinator (identity_of y) m got cost note time) answer out (node_of z))
      → HasReceived
  heard got answer carries running is then = follows (Ok got) carries (λ own. record {
    running = running;
    heard = answer;
    result_is = is;
    carries =
        subst (λ (e : Eui). IfSome (node_of y).memory (λ m. Carries (node_of y)
        (rules.hear_coordinator (record { eui = e; ciphers = network }) m got cost note time) answer out (node_of z))) own then;
  })

  pub refused : (reason : FrameRefusal) → IfSome x.station.memory (λ l. Carries x.station (accept l x.station.eui a) (Err reason) nothing y.station)
      → result ≡ Err (why_refused reason) → out ≡ nothing → z ≡ y → HasReceived
  refused reason carries is empty same = follows (Err reason) carries (λ own. (is, empty, ap node_of same))
