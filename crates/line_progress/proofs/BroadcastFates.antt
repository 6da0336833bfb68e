-- A broadcast that is handed up, by the rule of each command: only that of code 04 hands one up.
use Rattle.std.proofs.Common.{◌≡◌, ℕ, Bool, true, false, List, [], ◌∷◌, length, Option, Some, None, Result, Ok, Err, refl}
use Rattle.std.specs.Prelude.{nat_lt, ◌==◌, if◌then◌else◌}
use Rattle.std.specs.Option.{option_map_or}
use Rattle.plc_base.specs.declared.key.Key.{Key}
use Rattle.group_keys.specs.KeyRing as ring
use Rattle.mesh_header.specs.declared.unit.Unit.TheVariants as units
use Rattle.broadcast_log.specs.declared.broadcast.Broadcast.{Broadcast}
use Rattle.broadcast_log.specs.Grammar.{spelling}
use Rattle.broadcast_log.specs.Reader.{broadcast_in}
use Rattle.neighbour_checks.specs.Acks.{ack_in}
use Rattle.neighbour_checks.specs.Neighbours.{acked_after, is_awaited}
use Rattle.path_requests.specs.declared.message.PathMessage.{PathMessage}
use Rattle.path_requests.specs.declared.step.PathStep.{PathStep}
use Rattle.path_requests.specs.declared.step.PathStep.TheVariants.{Forward, Answer as Answers, Done}
use Rattle.path_requests.specs.declared.step.PathRefusal.{PathRefusal}
use Rattle.path_requests.specs.declared.step.PathRefusal.TheVariants as path_faults
use Rattle.path_requests.specs.Reader.{path_in}
use Rattle.path_requests.specs.PathSteps.{taken}
use Rattle.node_rules.specs.declared.refusal.Dropped.TheVariants as drops
use Rattle.node_rules.specs.Drafts.{Draft, checked, choose, counters_left, empty_draft, refused, sealed, sealed_by, sealed_units, sealing, sealing_key}
use Rattle.node_rules.specs.Frames.{to_all}
use Rattle.node_rules.specs.Memory.{Memory, address_of}
use Rattle.node_rules.specs.MemoryDrafts.{in_memory}
use Rattle.node_rules.specs.Plans.{resting}
use Rattle.reach_rules.specs.declared.heard.CommandHeard.{CommandHeard}
use Rattle.reach_rules.specs.declared.heard.CommandHeard.TheVariants as heard
use Rattle.reach_rules.specs.declared.refusal.ReachDropped.{ReachDropped}
use Rattle.reach_rules.specs.declared.refusal.ReachDropped.TheVariants as reach_drops
use Rattle.reach_rules.specs.Broadcasts.{admits_broadcast, broadcast_fault, goes_further, hear_broadcast, hear_broadcast_in, hop_less, with_broadcast_mark}
use Rattle.reach_rules.specs.CheckedReplies.{hear_acknowledgement, hear_acknowledgement_in}
use Rattle.reach_rules.specs.PathRequests.{follows_path, hear_path, hear_path_in, next_toward}
use Rattle.reach_rules.specs.ReachingNodes.{Beside, Commanding, Reaching, adds_local, drop_it, in_reach, reach_ends, remembers, with_checks}
use Rattle.reach_rules.specs.FurtherReceptions.{NeighbourCommand, hear_command_at}
use Rattle.line_progress.specs.BroadcastFates.{BroadcastsGoFurther, GoesFurther}

-- what is answered is handed up
abbrev Answer_is : Result CommandHeard ReachDropped → (origin number : ℕ) → List ℕ → Type 0
Answer_is a origin number octets = a ≡ Ok (heard.Broadcast origin number octets)

-- another answer than that
abbrev IsOther : CommandHeard → Type 0
IsOther word = (origin number : ℕ) (octets : List ℕ) → Answer_is (Ok word) origin number octets → ⊥

refusal_not : (reason : ReachDropped) (origin number : ℕ) (octets : List ℕ) → Answer_is (Err reason) origin number octets → ⊥
refusal_not reason origin number octets e = cc

same_origin : (d : Broadcast) (origin number : ℕ) (octets : List ℕ) → Answer_is (Ok (heard.Broadcast d.origin d.number d.octets)) origin number octets
    → (d.origin ≡ origin) × (d.number ≡ number) × (d.octets ≡ octets)
same_origin d origin number octets e = (cc, cc, cc)

-- of no units no frames are sealed
none_sealed : (r : ring.Ring) (first : ℕ) → sealed_by r first [] ≡ []
none_sealed None first = refl
none_sealed (Some g) first = by_key (sealing_key g)
  where
    by_key : (o : Option Key) → option_map_or (λ key. sealed_units g key first []) o [] ≡ []
    by_key None = refl
    by_key (Some key) = refl

module _ (m : Memory) (b : Beside) (c : NeighbourCommand) where
  abbrev y : Reaching Memory
  y = record { memory = m; beside = b }

  abbrev Goes : Commanding Memory → Type 0
  Goes p = (origin number : ℕ) (octets : List ℕ) → Answer_is p.answer origin number octets → GoesFurther m c origin number octets p

  drops_so : (reason : ReachDropped) → Goes (drop_it y reason)
  unfolding resting
  drops_so reason origin number octets e = absurd (refusal_not reason origin number octets e)

  keeps_so : (z : Reaching Memory) (word : CommandHeard) → IsOther word → Goes (remembers z word)
  unfolding resting
  keeps_so z word other origin number octets e = absurd (other origin number octets e)

  chosen : (t : Bool) (p q : Commanding Memory) → Goes p → Goes q → Goes (choose t p q)
  unfolding choose
  chosen true p q s t = s
  chosen false p q s t = t

  seals_so : (d : Draft (Reaching Memory)) (word : CommandHeard) → IsOther word → Goes (sealed (in_reach in_memory) reach_ends y d word)
  unfolding sealed resting
  seals_so d word other = by_test (nat_lt (counters_left m.station) (length d.units))
    where
      by_test : (t : Bool) → Goes (if t then refused reach_ends y reach_ends.spent else sealing (in_reach in_memory) reach_ends d word)
      by_test true origin number octets e = absurd (refusal_not reach_ends.spent origin number octets e)
      by_test false origin number octets e = absurd (other origin number octets e)

  bad : Goes (drop_it y (reach_drops.Known drops.BadUnit))
  bad = drops_so (reach_drops.Known drops.BadUnit)

  acked_other : IsOther heard.Acked
  acked_other origin number octets e = cc

  relayed_other : IsOther heard.Relayed
  relayed_other origin number octets e = cc

  answered_other : IsOther heard.Answered
  answered_other origin number octets e = cc

  path_other : (walk : List ℕ) → IsOther (heard.Path walk)
  path_other walk origin number octets e = cc

  acks : (o : Option (ℕ × ℕ)) → Goes (hear_acknowledgement_in y c.from o)
  acks None = bad
  acks (Some (number, origin)) = chosen (is_awaited b.checks c.from number origin)
      (remembers (with_checks (acked_after b.checks c.from number origin) y) heard.Acked) (drop_it y reach_drops.NotAwaited)
      (keeps_so (with_checks (acked_after b.checks c.from number origin) y) heard.Acked acked_other) (drops_so reach_drops.NotAwaited)

  admits : (d : Broadcast) → broadcast_in c.body ≡ Some d → Goes (admits_broadcast in_memory y d)
  unfolding sealed resting goes_further adds_local with_broadcast_mark empty_draft
  admits d read = by_room (nat_lt (counters_left m.station) (length draft.units))
    where
      draft : Draft (Reaching Memory)
      draft = goes_further d (with_broadcast_mark d.origin d.number (empty_draft y))

      by_hops : (t : Bool) → nat_lt d.hops 2 ≡ t
          → (sealing (in_reach in_memory) reach_ends (if t then with_broadcast_mark d.origin d.number (empty_draft y)
          else adds_local to_all 4 (spelling (hop_less d)) (with_broadcast_mark d.origin d.number (empty_draft y)))
          (heard.Broadcast d.origin d.number d.octets)).frames
          ≡ (if t then [] else sealed_by m.station.ring m.station.counter.next
          (record { to = to_all; unit = units.Local 4 (spelling (hop_less d)); note = 0 } ∷ []))
      by_hops true e = none_sealed m.station.ring m.station.counter.next
      by_hops false e = refl

      by_room : (t : Bool) → Goes (if t then refused reach_ends y reach_ends.spent
          else sealing (in_reach in_memory) reach_ends draft (heard.Broadcast d.origin d.number d.octets))
      by_room true origin number octets e = absurd (refusal_not reach_ends.spent origin number octets e)
      by_room false origin number octets e =
          let same = same_origin d origin number octets e in record {
            broadcast = d;
            read = read;
            origin_is = same.0;
            number_is = same.1;
            octets_are = same.2;
            frames = by_hops (nat_lt d.hops 2) refl;
          }

  spreads : (own : ℕ) (o : Option Broadcast) → broadcast_in c.body ≡ o → Goes (hear_broadcast_in in_memory y own o)
  unfolding checked
  spreads own None e = bad
  spreads own (Some d) e = by_fault (broadcast_fault own b.log d)
    where
      by_fault : (o : Option ReachDropped) → Goes (checked reach_ends y o (admits_broadcast in_memory y d))
      by_fault None = admits d e
      by_fault (Some reason) = drops_so reason

  follows : (o : Result PathStep PathRefusal) → Goes (follows_path in_memory y o)
  follows (Err path_faults.BadUnit) = bad
  follows (Err path_faults.NoRoute) = drops_so (reach_drops.Known drops.NoRoute)
  follows (Err path_faults.Revisited) = drops_so reach_drops.Revisited
  follows (Err path_faults.PathLong) = drops_so reach_drops.PathLong
  follows (Ok (Forward to more)) = seals_so _ heard.Relayed relayed_other
  follows (Ok (Answers to more)) = seals_so _ heard.Answered answered_other
  follows (Ok (Done walk)) = keeps_so y (heard.Path walk) (path_other walk)

  walks : (own : ℕ) (o : Option PathMessage) → Goes (hear_path_in in_memory y own c.from o)
  walks own None = bad
  walks own (Some message) = follows (taken own c.from (next_toward m.station message) message)

  heard_at : (own : ℕ) → Goes (hear_command_at in_memory y own c)
  heard_at own =
      let drop = drop_it y (reach_drops.Known drops.BadUnit) in
      let path = hear_path in_memory y own c.from c.to_all c.body in
      let spread = hear_broadcast in_memory y own c.to_all c.body in
      let ack = hear_acknowledgement y c.from c.to_all c.body in
      chosen (c.code == 3) ack (choose (c.code == 4) spread (choose (c.code == 5) path drop))
      (chosen c.to_all drop (hear_acknowledgement_in y c.from (ack_in c.body)) bad (acks (ack_in c.body)))
      (chosen (c.code == 4) spread (choose (c.code == 5) path drop)
      (chosen c.to_all (hear_broadcast_in in_memory y own (broadcast_in c.body)) drop (spreads own (broadcast_in c.body) refl) bad)
      (chosen (c.code == 5) path drop
      (chosen c.to_all drop (hear_path_in in_memory y own c.from (path_in c.body)) bad (walks own (path_in c.body)))
      bad))

  heard_so : (o : Option ℕ) → Goes (option_map_or (λ own. hear_command_at in_memory y own c) o (drop_it y (reach_drops.Known drops.BadUnit)))
  heard_so None = bad
  heard_so (Some own) = heard_at own

pub broadcasts_go : BroadcastsGoFurther
broadcasts_go m b c origin number octets e = heard_so m b c (address_of m.station) origin number octets e
