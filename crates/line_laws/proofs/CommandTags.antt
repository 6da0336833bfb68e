-- What a node does about a command for its neighbours makes no pair tag, whatever stands beside its memory.
use Rattle.std.proofs.Common.{◌≡◌, ⊎_elim, ℕ, Bool, true, false, [], Option, Some, None, Result, Ok, Err, refl, ◌∙◌}
use Rattle.std.specs.Prelude.{nat_lt, length, ◌==◌, if◌then◌else◌}
use Rattle.std.specs.Option.{option_map_or}
use Rattle.broadcast_log.specs.declared.broadcast.Broadcast.{Broadcast}
use Rattle.broadcast_log.specs.Grammar.{spelling}
use Rattle.broadcast_log.specs.Reader.{broadcast_in}
use Rattle.neighbour_checks.specs.Acks.{ack_in}
use Rattle.neighbour_checks.specs.Neighbours.{acked_after, is_awaited}
use Rattle.path_requests.specs.declared.message.PathMessage.{PathMessage}
use Rattle.path_requests.specs.declared.step.PathStep.{PathStep}
use Rattle.path_requests.specs.declared.step.PathStep.TheVariants.{Forward, Answer, Done}
use Rattle.path_requests.specs.declared.step.PathRefusal.{PathRefusal}
use Rattle.path_requests.specs.Messages.{path_spelling}
use Rattle.path_requests.specs.Reader.{path_in}
use Rattle.path_requests.specs.PathSteps.{taken}
use Rattle.node_rules.specs.declared.refusal.Dropped.TheVariants.{BadUnit}
use Rattle.node_rules.specs.Drafts.{Draft, checked, choose, counters_left, empty_draft, refused, sealed, sealing}
use Rattle.node_rules.specs.Frames.{to_all}
use Rattle.node_rules.specs.Laws.{IsCutOff, IsWhole}
use Rattle.node_rules.specs.Memory.{Memory, Node, address_of}
use Rattle.node_rules.specs.MemoryDrafts.{in_memory}
use Rattle.node_rules.specs.NodeSteps.{acts, left_by, stays}
use Rattle.node_rules.specs.Plans.{Plan, carry_out, resting}
use Rattle.node_rules.proofs.FailedWrites.{clean}
use Rattle.reach_rules.specs.declared.heard.CommandHeard.{CommandHeard}
use Rattle.reach_rules.specs.declared.heard.CommandHeard.TheVariants as heard_of
use Rattle.reach_rules.specs.declared.refusal.ReachDropped.{ReachDropped}
use Rattle.reach_rules.specs.declared.refusal.ReachDropped.TheVariants.{Known, NotAwaited}
use Rattle.reach_rules.specs.Broadcasts.{admits_broadcast, broadcast_fault, goes_further, hear_broadcast, hear_broadcast_in, hop_less, with_broadcast_mark}
use Rattle.reach_rules.specs.CheckedReplies.{hear_acknowledgement, hear_acknowledgement_in}
use Rattle.reach_rules.specs.PathRequests.{follows_path, hear_path, hear_path_in, next_toward, path_word}
use Rattle.reach_rules.specs.ReachingNodes.{Beside, Reaching, drop_it, in_reach, reach_ends, remembers, adds_local, with_checks}
use Rattle.reach_rules.specs.FurtherReceptions.{NeighbourCommand, hear_command, hear_command_at}
use Rattle.line_rules.specs.Further.{with_beside}

-- a node whose plan makes no tag makes none
pub acts_made : {A : Type 0} (x : Node) (halted : A) (plan : Memory → Plan Memory A) → ((m : Memory) → (plan m).made ≡ [])
    → (acts x halted plan).made ≡ []
unfolding acts
acts_made {A = A} x halted plan none = by_memory x.memory
  where
    by_memory : (o : Option Memory) → (option_map_or (λ m. left_by x (carry_out x.store.records x.store.cut (plan m))) o (stays x halted)).made ≡ []
    by_memory None = refl
    by_memory (Some m) = ⊎_elim
        (λ (w : IsWhole x.store.records x.store.cut (plan m) (carry_out x.store.records x.store.cut (plan m))). w.made ∙ none m)
        (λ (c : IsCutOff x.store.records x.store.cut (plan m) (carry_out x.store.records x.store.cut (plan m))). c.made)
        (clean x.store.records x.store.cut (plan m))

abbrev MakesNone : Plan (Reaching Memory) (Result CommandHeard ReachDropped) → Type 0
MakesNone p = p.made ≡ []

module _ (x : Reaching Memory) where
  drops : (reason : ReachDropped) → MakesNone (drop_it x reason)
  unfolding resting
  drops reason = refl

  keeps : (y : Reaching Memory) (heard : CommandHeard) → MakesNone (remembers y heard)
  unfolding resting
  keeps y heard = refl

  either : (t : Bool) (p q : Plan (Reaching Memory) (Result CommandHeard ReachDropped)) → MakesNone p → MakesNone q → MakesNone (choose t p q)
  unfolding choose
  either true p q s t = s
  either false p q s t = t

  seals : (d : Draft (Reaching Memory)) (word : CommandHeard) → d.made ≡ [] → MakesNone (sealed (in_reach in_memory) reach_ends x d word)
  unfolding sealed resting
  seals d word none = by_test (nat_lt (counters_left x.memory.station) (length d.units))
    where
      by_test : (t : Bool) → MakesNone (if t then refused reach_ends x reach_ends.spent else sealing (in_reach in_memory) reach_ends d word)
      by_test true = refl
      by_test false = none

  acks : (from : ℕ) (o : Option (ℕ × ℕ)) → MakesNone (hear_acknowledgement_in x from o)
  acks from None = drops (Known BadUnit)
  acks from (Some (number, origin)) =
      either (is_awaited x.beside.checks from number origin) (remembers (with_checks (acked_after x.beside.checks from number origin) x) heard_of.Acked)
      (drop_it x NotAwaited) (keeps (with_checks (acked_after x.beside.checks from number origin) x) heard_of.Acked) (drops NotAwaited)

  goes_on : (c : Broadcast) → (goes_further c (with_broadcast_mark c.origin c.number (empty_draft x))).made ≡ []
  unfolding goes_further with_broadcast_mark adds_local empty_draft
  goes_on c = by_hops (nat_lt c.hops 2)
    where
      marked : Draft (Reaching Memory)
      marked = with_broadcast_mark c.origin c.number (empty_draft x)

      by_hops : (t : Bool) → (if t then marked else adds_local to_all 4 (spelling (hop_less c)) marked).made ≡ []
      by_hops true = refl
      by_hops false = refl

  spreads : (own : ℕ) (o : Option Broadcast) → MakesNone (hear_broadcast_in in_memory x own o)
  unfolding checked
  spreads own None = drops (Known BadUnit)
  spreads own (Some c) = by_fault (broadcast_fault own x.beside.log c)
    where
      by_fault : (o : Option ReachDropped) → MakesNone (checked reach_ends x o (admits_broadcast in_memory x c))
      by_fault None = seals (goes_further c (with_broadcast_mark c.origin c.number (empty_draft x))) (heard_of.Broadcast c.origin c.number c.octets) (goes_on c)
      by_fault (Some reason) = drops reason

  sends_untagged : (to : ℕ) (message : PathMessage) → (adds_local to 5 (path_spelling message) (empty_draft x)).made ≡ []
  unfolding adds_local empty_draft
  sends_untagged to message = refl

  follows : (o : Result PathStep PathRefusal) → MakesNone (follows_path in_memory x o)
  follows (Err reason) = drops (path_word reason)
  follows (Ok (Forward to message)) = seals (adds_local to 5 (path_spelling message) (empty_draft x)) heard_of.Relayed (sends_untagged to message)
  follows (Ok (Answer to message)) = seals (adds_local to 5 (path_spelling message) (empty_draft x)) heard_of.Answered (sends_untagged to message)
  follows (Ok (Done walk)) = keeps x (heard_of.Path walk)

  paths : (own from : ℕ) (o : Option PathMessage) → MakesNone (hear_path_in in_memory x own from o)
  paths own from None = drops (Known BadUnit)
  paths own from (Some message) = follows (taken own from (next_toward x.memory.station message) message)

  heard_at : (own : ℕ) (c : NeighbourCommand) → MakesNone (hear_command_at in_memory x own c)
  heard_at own c =
      let bad = drop_it x (Known BadUnit) in
      let path = hear_path in_memory x own c.from c.to_all c.body in
      let spread = hear_broadcast in_memory x own c.to_all c.body in
      let ack = hear_acknowledgement x c.from c.to_all c.body in
      either (c.code == 3) ack (choose (c.code == 4) spread (choose (c.code == 5) path bad))
      (either c.to_all bad (hear_acknowledgement_in x c.from (ack_in c.body)) (drops (Known BadUnit)) (acks c.from (ack_in c.body)))
      (either (c.code == 4) spread (choose (c.code == 5) path bad)
      (either c.to_all (hear_broadcast_in in_memory x own (broadcast_in c.body)) bad (spreads own (broadcast_in c.body)) (drops (Known BadUnit)))
      (either (c.code == 5) path bad
      (either c.to_all bad (hear_path_in in_memory x own c.from (path_in c.body)) (drops (Known BadUnit)) (paths own c.from (path_in c.body)))
      (drops (Known BadUnit))))

-- what hears a command makes no pair tag
pub command_made : (b : Beside) (c : NeighbourCommand) (m : Memory) → (with_beside b (λ y. hear_command in_memory y c) m).made ≡ []
command_made b c m = by_address (address_of m.station)
  where
    y : Reaching Memory
    y = record { memory = m; beside = b }

    by_address : (o : Option ℕ) → MakesNone (option_map_or (λ own. hear_command_at in_memory y own c) o (drop_it y (Known BadUnit)))
    by_address None = drops y (Known BadUnit)
    by_address (Some own) = heard_at y own c
