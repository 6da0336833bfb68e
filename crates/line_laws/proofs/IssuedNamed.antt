-- Every meter to which keys are issued is named by an EUI of 8 octets.
use Rattle.std.proofs.Common.{◌≡◌, ℕ, Bool, true, false, List, ◌+◌, ◌++◌, Option, Some, None, Result, Ok, Err, refl, sym, subst}
use Rattle.std.specs.Prelude.{All}
use Rattle.plc_base.specs.declared.address.Eui.{Eui}
use Rattle.plc_base.specs.declared.key.Key.{Key}
use Rattle.plc_base.specs.Grant.{Granted}
use Rattle.node_rules.specs.Accepted.{Accepted}
use Rattle.node_rules.specs.declared.heard.CoordinatorHeard.{CoordinatorHeard}
use Rattle.node_rules.specs.declared.heard.CoordinatorHeard.TheVariants as coordinator_heard
use Rattle.node_rules.specs.declared.refusal.Dropped.{Dropped}
use Rattle.node_rules.specs.declared.refusal.Dropped.TheVariants as drops
use Rattle.node_rules.specs.declared.refusal.FrameRefusal.{FrameRefusal}
use Rattle.node_rules.specs.declared.refusal.FrameRefusal.TheVariants as frames
use Rattle.node_rules.specs.Ciphers.{Ciphers}
use Rattle.node_rules.specs.Frames.{arrived}
use Rattle.node_rules.specs.Memory.{Memory, Role, Coordinator, Meter, Node}
use Rattle.node_rules.specs.Plans.{Plan}
use Rattle.node_rules.specs.Acceptance.{accept}
use Rattle.node_rules.specs.Coordinators as coordinator_rules
use Rattle.node_rules.specs.Meters as meters
use Rattle.node_rules.specs.Calls as calls
use Rattle.node_rules.specs.declared.refusal.SendRefusal.TheVariants as sends
use Rattle.line_rules.specs.Answers.{sent_word}
use Rattle.node_rules.specs.NodeSteps.{NodeStep, acts, answering, of_station}
use Rattle.line_events.specs.declared.event.Event.{Event}
use Rattle.line_rules.specs.Answers.{Reception, meter_reception, coordinator_reception}
use Rattle.line_events.specs.Events.{IsEvent}
use Rattle.line_rules.specs.Forgery.{Comes, accepting}
use Rattle.line_rules.specs.Worlds.{World, Issued, Trace, node_at}
use Rattle.line_rules.specs.Steps.{Step, identity, hearing_step, note_by, issued_at, issued_by, issued_of, sent_if, is_taken, tag_of, node_outcome}
use Rattle.line_laws.specs.Stores.{HasEui, IsNamed}
use Rattle.line_laws.specs.Owed.{KeepsRanges}
use Rattle.line_laws.proofs.Planned.{planned_failed}
use Rattle.line_laws.proofs.StoreBook.{looked_up}
use Rattle.line_laws.proofs.Answered.{acts_answered}
use Rattle.line_laws.proofs.Nodes.{NodeOk, acts_ok, node_kept}
use Rattle.line_laws.proofs.NodeCalls.{heard_given}
use Rattle.line_laws.proofs.CoordinatorCalls.{accept_ok}
use Rattle.line_laws.proofs.Worlds.{NodeFits, FlightFits, WorldOk, at_place}
use Rattle.line_laws.proofs.FlightFolds.{came_octets}
use Rattle.line_laws.proofs.IssueCoordinator.{keyed_in}
use Rattle.line_laws.proofs.IssueSteps.{keyed_same, no_keys}
use Rattle.line_laws.proofs.IssueWords.{Each}
use Rattle.line_laws.proofs.KeyedAnswers.{IsGrantedTo, hears_keyed, keyed_granted}
use Rattle.line_laws.proofs.StepKinds.{IsStep, Fails, Makes, Rests, Shows, Acts, BreaksLink, SendsFrom, AllowsMeter, Sets, SetsTwo, Provides, TurnsDown, Hears}
use Rattle.line_laws.proofs.StepKinds.{Loses, Ticks, Restarts, Cuts}

-- the meter of an issue has an EUI of 8 octets
abbrev pub IssueNamed : Issued → Type 0
IssueNamed i = HasEui i.eui

keys_named : (eui : Eui) (g : Granted) → HasEui eui → Each IssueNamed (issued_by eui g)
keys_named eui g named = by_keys g.key0 g.key1
  where
    by_keys : (a b : Option Key) → Each IssueNamed (issued_at eui 0 a ++ issued_at eui 1 b)
    by_keys None None = tt
    by_keys None (Some b) = (named, tt)
    by_keys (Some a) None = (named, tt)
    by_keys (Some a) (Some b) = (named, (named, tt))

-- the EUI of a session
session_named : (m : Memory) (asked eui : Eui) (granted : Granted) → All IsNamed m.sessions → IsGrantedTo m eui granted → HasEui eui
session_named m asked eui granted all g =
    subst HasEui (sym g.named) (looked_up IsNamed m.sessions _ g.session g.there all)

module _ (ciphers : Ciphers) (y : Node) (good : NodeOk y) (got : Accepted) (cost note now : ℕ) where
  own : coordinator_rules.CoordinatorIdentity
  own = record { eui = y.eui; ciphers = ciphers }

  abbrev plan : Memory → Plan Memory (Result CoordinatorHeard Dropped)
  plan m = coordinator_rules.hear_coordinator (record { eui = y.eui; ciphers = ciphers }) m got cost note now

  coordinator_named : (r : Result CoordinatorHeard Dropped) → (acts y (Err drops.Store) plan).answer ≡ r
      → Each IssueNamed (issued_of (coordinator_reception r).keyed)
  coordinator_named (Err reason) e = tt
  coordinator_named (Ok a) e = subst (λ o. Each IssueNamed (issued_of o)) (sym (keyed_same a).0) (by_word a e)
    where
      by_word : (a : CoordinatorHeard) → (acts y (Err drops.Store) plan).answer ≡ Ok a → Each IssueNamed (issued_of (keyed_in a))
      by_word (coordinator_heard.Keyed eui granted) e =
          let a = acts_answered y drops.Store drops.Store plan (λ m. planned_failed (plan m)
          (hears_keyed (record { eui = y.eui; ciphers = ciphers }) m (heard_given got cost note now) got refl)) (coordinator_heard.Keyed eui granted) e in
          let k = node_kept y a.memory good a.there in
          keys_named eui granted (session_named a.memory eui eui granted k.sessions
          (keyed_granted (record { eui = y.eui; ciphers = ciphers }) a.memory (heard_given got cost note now) got eui granted refl a.is))
      by_word _ e = tt

  heard_named : Each IssueNamed (issued_of (hearing_step ciphers y got cost note now).answer.keyed)
  heard_named = by_role y.role
    where
      hears_as : Role → NodeStep Reception
      hears_as Coordinator = answering coordinator_reception
          (acts y (Err drops.Store) (λ m. coordinator_rules.hear_coordinator (record { eui = y.eui; ciphers = ciphers }) m got cost note now))
      hears_as (Meter psk) = answering meter_reception (acts y (Err drops.Store) (λ m. meters.hear_meter (identity ciphers y psk) m got cost note now))

      by_role : (role : Role) → Each IssueNamed (issued_of (hears_as role).answer.keyed)
      by_role Coordinator = coordinator_named (acts y (Err drops.Store) plan).answer refl
      by_role (Meter psk) = subst (λ o. Each IssueNamed (issued_of o))
          (sym (no_keys (acts y (Err drops.Store) (λ m. meters.hear_meter (identity ciphers y psk) m got cost note now)).answer)) tt

abbrev pub StepNamed : Step → Type 0
StepNamed (Ok r) = Each IssueNamed r.1.issued
StepNamed (Err fault) = Unit {0}

module _ (ciphers : Ciphers) (fits : KeepsRanges ciphers) (w : World) (ok : WorldOk w) (flown : All FlightFits w.flights) where
  accepted_good : (event : Event) (number : ℕ) (x : Node) (octets : List ℕ) → node_at w number ≡ Some x → IsEvent event → Comes w event number octets
      → NodeOk (accepting ciphers x octets).node
  accepted_good event number x octets there says comes =
      let are = came_octets ciphers fits w ok flown event number octets says comes in
      let plan : Memory → Plan Memory (Result Accepted FrameRefusal) = λ m. of_station m (accept m.station x.eui (arrived ciphers octets)) in
      (acts_ok x (Err frames.Halted) plan (at_place NodeOk w.nodes number x there ok.nodes)
      (λ m here kept sized. accept_ok ciphers fits octets are x.role m x.eui sized)).node

  sent_named : (from to : ℕ) (datagram : List ℕ) (tag : ℕ) (b : Bool) (r : World × Trace) → Each IssueNamed r.1.issued
      → Each IssueNamed (sent_if w from to datagram tag b r).1.issued
  sent_named from to datagram tag true r h = h
  sent_named from to datagram tag false r h = h

  pub names : (event : Event) (s : Step) → IsStep ciphers w event s → StepNamed s
  names event s (Fails e fault) = tt
  names event s (Makes e x is) = tt
  names event s (Rests e quiet) = tt
  names event s (Shows number x) = tt
  names event s (Acts e number x A halted plan reads there call word asked) = tt
  names event s (BreaksLink number next x a there call) = tt
  names event s (SendsFrom from to datagram x a there call target) =
      let d = answering sent_word (acts x (Err sends.Halted) (λ m. of_station m (calls.send m.station a datagram (w.sends + 1) w.clock))) in
      sent_named from to datagram (tag_of x) (is_taken d.answer) (node_outcome ciphers w from d) tt
  names event s (AllowsMeter number y c psk there call meter) = tt
  names event s (Sets e quiet number x plan there open_is is) = tt
  names event s (SetsTwo e quiet a b cost x y p q hx hy apart open_is first second fresh near) = tt
  names event s (Provides number x c psk g d ne open_is hx hc pair same is) = keys_named x.eui g (at_place NodeFits w.nodes number x hx ok.fits).eui
  names event s (TurnsDown e number x octets reason d there says comes same is) = tt
  names event s (Hears e number x octets cost got there says comes low is) =
      heard_named ciphers (accepting ciphers x octets).node (accepted_good e number x octets there says comes) got cost (note_by w octets got.path) w.clock
  names event s (Loses number f there) = tt
  names event s (Ticks seconds) = tt
  names event s (Restarts number x there) = tt
  names event s (Cuts number nth keeps_new x there) = tt
