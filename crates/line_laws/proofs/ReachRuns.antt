-- What runs keep of further reach, before the first forged event: their worlds are in their ranges, and their nodes at home.
use Rattle.std.proofs.Common.{⊎_elim, ◌≡◌, ◌≢◌, ℕ, List, [], ◌∷◌, ◌++◌, Some, Err, sym, ap, ◌∙◌, arith}
use Rattle.std.specs.Prelude.{slice_get}
use Rattle.std.proofs.lemmas.Bool.{cases_eq}
use Rattle.std.proofs.lemmas.List.Elements.{All-head, All-tail}
use Rattle.node_rules.specs.Accepted.{Accepted}
use Rattle.node_rules.specs.declared.refusal.Dropped.TheVariants as drops
use Rattle.node_rules.specs.declared.refusal.LocalRefusal.TheVariants as locals
use Rattle.node_rules.specs.Ciphers.{network}
use Rattle.node_rules.specs.Memory.{Memory, Node}
use Rattle.node_rules.specs.MemoryDrafts.{in_memory}
use Rattle.node_rules.specs.NodeSteps.{acts}
use Rattle.node_rules.specs.Plans.{Plan}
use Rattle.reach_rules.specs.declared.refusal.AskRefusal.TheVariants as asks_of
use Rattle.reach_rules.specs.declared.refusal.BroadcastRefusal.TheVariants as broadcasts_of
use Rattle.reach_rules.specs.declared.refusal.ReachDropped.TheVariants as reach_drops
use Rattle.reach_rules.specs.Broadcasts.{broadcast}
use Rattle.reach_rules.specs.CheckedReplies.{acknowledges}
use Rattle.reach_rules.specs.PathRequests.{ask_path}
use Rattle.reach_rules.specs.FurtherReceptions.{hear_command}
use Rattle.line_events.specs.declared.event.Event.{Event}
use Rattle.line_events.specs.Events.{AreEvents, IsEvent}
use Rattle.line_rules.specs.Further.{beside_at, with_beside}
use Rattle.line_rules.specs.Runs.{Entry, IsRun, events_of, issued}
use Rattle.line_rules.specs.Worlds.{World, node_at, start}
use Rattle.line_laws.specs.Ranges.{NodeRanged}
use Rattle.line_laws.specs.Reach.{AreAtHome, EveryBroadcastIsOnce, EveryWalkWasTaken, HoldsAlong, IsHeard, IsInRange, SendsSealedUnits, left_hearing}
use Rattle.line_laws.proofs.AddressWorlds.{coordinator_address, meter_address}
use Rattle.line_laws.proofs.BroadcastRuns.{broadcast_once}
use Rattle.line_laws.proofs.CustodyHomes.{HomedAlong}
use Rattle.line_laws.proofs.CustodySteps.{HomedAt}
use Rattle.line_laws.proofs.FlightFolds.{came_octets}
use Rattle.line_laws.proofs.FurtherForms.{IsFurther}
use Rattle.line_laws.proofs.FurtherHomes.{reach_homes}
use Rattle.line_laws.proofs.FurtherOctets.{every_run_holds}
use Rattle.line_laws.proofs.FurtherRanges.{choice_ranged, one_speaks}
use Rattle.line_laws.proofs.FurtherSeals.{IsOne, further_ranged}
use Rattle.line_laws.proofs.FurtherStates.{Sound, sound_on, start_sound}
use Rattle.line_laws.proofs.Homes.{at_length}
use Rattle.line_laws.proofs.RangePlans.{DidRanged, acts_ranged}
use Rattle.line_laws.proofs.RangeRuns.{heard_did}
use Rattle.line_laws.proofs.StorableGrants.{network_ranges}
use Rattle.line_laws.proofs.WalkRuns.{walked_in_range}
use Rattle.line_laws.proofs.Worlds.{at_place, within as place_within}

-- # What the nodes of a world send

module _ (w : World) (before : List Entry) (o : Sound w before) where
  one_did : {A : Type 0} (x : Node) (halted : A) (does : Memory → Plan Memory A) → NodeRanged x
      → ((m : Memory) → x.memory ≡ Some m → IsFurther IsOne m (does m)) → DidRanged (acts x halted does)
  one_did x halted does ranged is = acts_ranged x halted does ranged (λ m here k. further_ranged m (does m) (is m here) k)

  ranged_at : (number : ℕ) (x : Node) → node_at w number ≡ Some x → NodeRanged x
  ranged_at number x there = at_place NodeRanged w.nodes number x there o.ranged.nodes

  left_ranged : (event : Event) (number : ℕ) (x : Node) (octets : List ℕ) (got : Accepted) (cost : ℕ) → IsHeard w event number x octets got
      → NodeRanged (left_hearing w x octets got cost)
  left_ranged event number x octets got cost h =
      let did = heard_did w o.stands.ok o.stands.speaks o.ranged number x octets cost got h.there
      (came_octets network network_ranges w o.stands.ok o.stands.speaks.flights event number octets h.says h.comes) h.is h.honest in
      did.station

  sends_sealed_units : SendsSealedUnits w
  sends_sealed_units =
      let speaks = one_speaks w o.stands.ok o.stands.speaks o.ranged o.stands.logs in
      record {
        broadcasts = λ number x datagram there are.
            (one_did x (Err broadcasts_of.Halted) (with_beside (beside_at w number) (λ y. broadcast in_memory y datagram)) (ranged_at number x there)
            (λ m here. speaks.broadcasts number x m datagram are there here)).frames;
        asks = λ number x target there.
            (one_did x (Err asks_of.Halted) (with_beside (beside_at w number) (λ y. ask_path in_memory y target)) (ranged_at number x there)
            (λ m here. speaks.asks number x m target there here)).frames;
        choices = λ number k x psk there pair. (choice_ranged w o.stands.ok o.stands.speaks o.ranged number k x psk there).frames;
        commands = λ event number x octets got cost c h e.
            (one_did (left_hearing w x octets got cost) (Err (reach_drops.Known drops.Store))
            (with_beside (beside_at w number) (λ y. hear_command in_memory y c))
            (left_ranged event number x octets got cost h)
            (λ m here. speaks.commands event number x octets got cost c m h.says h.comes h.there h.is e here)).frames;
        acknowledges = λ event number x octets got cost reply h owed.
            (one_did (left_hearing w x octets got cost) (Err locals.Store) (λ m. acknowledges in_memory reply.to reply.number reply.origin m)
            (left_ranged event number x octets got cost h)
            (λ m here. speaks.acknowledges event number x octets got cost reply m h.says h.comes h.there h.is owed here)).frames;
      }

  in_range : IsInRange w
  in_range = record { ranged = o.ranged; sends = sends_sealed_units }

  at_home : (home : ℕ → ℕ) → home 0 ≡ 0 → HomedAt home w → AreAtHome home w
  at_home home first h = record {
    homes = λ number x address there is. ⊎_elim
        (λ (e : number ≡ 0). coordinator_address w (issued before) o.stands.ok o.keyed x address (ap (slice_get w.nodes) (sym e) ∙ there) is ∙ sym first
        ∙ ap home (sym e))
        (λ (ne : number ≢ 0).
        let inside = place_within w.nodes number x there in
        let c = at_length w.nodes 0 (omega arith) in
        sym (h.at number x c.one o.keyed.book address ne there c.is (o.keyed.coordinator c.one c.is).book_kept
        (meter_address w (issued before) o.stands.ok o.keyed number x address ne there is)))
        (cases_eq number 0);
  }

-- # Runs

range_along : (w : World) (before : List Entry) → Sound w before → (entries : List Entry) → AreEvents (events_of entries) → IsRun network w entries
    → HoldsAlong IsInRange w entries
range_along w before o [] says run = tt
range_along w before o (x ∷ xs) says run = (
  in_range w before o,
  λ honest. range_along x.after (before ++ x ∷ []) (sound_on w before o x (All-head IsEvent x.event (events_of xs) says) run.2 honest) xs
      (All-tail IsEvent x.event (events_of xs) says) run.3,
)

home_along : (home : ℕ → ℕ) → home 0 ≡ 0 → (w : World) (before : List Entry) → Sound w before → (entries : List Entry) → AreEvents (events_of entries)
    → IsRun network w entries → HomedAlong home w entries → HoldsAlong (λ v. IsInRange v × AreAtHome home v) w entries
home_along home first w before o [] says run along = tt
home_along home first w before o (x ∷ xs) says run along = (
  (in_range w before o, at_home w before o home first along.0),
  λ honest. home_along home first x.after (before ++ x ∷ []) (sound_on w before o x (All-head IsEvent x.event (events_of xs) says) run.2 honest) xs
      (All-tail IsEvent x.event (events_of xs) says) run.3 (along.1 honest),
)

pub every_walk : EveryWalkWasTaken
every_walk entries r =
    walked_in_range entries r.events r.run (every_run_holds entries r) (range_along start [] start_sound entries r.events r.run)

pub every_broadcast : EveryBroadcastIsOnce
every_broadcast entries r =
    let h = reach_homes start [] start_sound entries r.events r.run in
    broadcast_once h.home entries r.events r.run (every_run_holds entries r)
    (home_along h.home h.first start [] start_sound entries r.events r.run h.along)
