-- Where a write fails, the plans of further reach answer Store.
use Rattle.std.proofs.Common.{◌≡◌, ℕ, Bool, true, false, List, length, Option, Some, None, Result, Ok, Err, refl}
use Rattle.std.specs.Prelude.{if◌then◌else◌, nat_lt}
use Rattle.std.specs.Option.{option_map_or}
use Rattle.broadcast_log.specs.declared.broadcast.Broadcast.{Broadcast}
use Rattle.broadcast_log.specs.Reader.{broadcast_in}
use Rattle.neighbour_checks.specs.Acks.{ack_in}
use Rattle.path_requests.specs.declared.message.PathMessage.{PathMessage}
use Rattle.path_requests.specs.declared.step.PathStep.{PathStep}
use Rattle.path_requests.specs.declared.step.PathStep.TheVariants.{Forward, Answer, Done}
use Rattle.path_requests.specs.declared.step.PathRefusal.{PathRefusal}
use Rattle.path_requests.specs.Reader.{path_in}
use Rattle.node_rules.specs.Drafts.{Draft, Ends, checked, choose, counters_left, refused, sealed, sealing}
use Rattle.node_rules.specs.Memory.{Memory, address_of, station_route}
use Rattle.node_rules.specs.MemoryDrafts.{in_memory}
use Rattle.node_rules.specs.Plans.{Plan, resting}
use Rattle.reach_rules.specs.declared.heard.CommandHeard.{CommandHeard}
use Rattle.reach_rules.specs.declared.refusal.ReachDropped.{ReachDropped}
use Rattle.reach_rules.specs.Broadcasts.{broadcast, broadcast_ends, hear_broadcast_in}
use Rattle.reach_rules.specs.CheckedReplies.{hear_acknowledgement_in}
use Rattle.reach_rules.specs.PathRequests.{ask_ends, ask_path, asks_by, follows_path, hear_path_in}
use Rattle.reach_rules.specs.ReachingNodes.{Reaching, in_reach, reach_ends}
use Rattle.reach_rules.specs.FurtherReceptions.{NeighbourCommand, hear_command, hear_command_at}

-- where a write of it fails, a plan says so
pub record FailsSo {H E : Type 0} (ends : Ends E) (p : Plan (Reaching Memory) (Result H E)) : Type 0 where
  pub failed : p.failed ≡ Err ends.store

module _ {H E : Type 0} (ends : Ends E) (x : Reaching Memory) where
  refuses : (reason : E) → FailsSo {H = H} ends (refused ends x reason)
  unfolding resting
  refuses reason = record { failed = refl }

  by_spent : (d : Draft (Reaching Memory)) (word : H) (b : Bool)
      → FailsSo {H = H} ends (if b then refused ends x ends.spent else sealing (in_reach in_memory) ends d word)
  by_spent d word true = refuses ends.spent
  by_spent d word false = record { failed = refl }

  seals : (d : Draft (Reaching Memory)) (word : H) → FailsSo {H = H} ends (sealed (in_reach in_memory) ends x d word)
  unfolding sealed
  seals d word = by_spent d word (nat_lt (counters_left x.memory.station) (length d.units))

  by_check : (o : Option E) (p : Plan (Reaching Memory) (Result H E)) → FailsSo ends p → FailsSo ends (checked ends x o p)
  unfolding checked
  by_check None p f = f
  by_check (Some reason) p f = refuses reason

  by_choice : (t : Bool) (p q : Plan (Reaching Memory) (Result H E)) → FailsSo ends p → FailsSo ends q → FailsSo ends (choose t p q)
  unfolding choose
  by_choice true p q f g = f
  by_choice false p q f g = g

  by_option : {X : Type 0} (f : X → Plan (Reaching Memory) (Result H E)) (o : Option X) (p : Plan (Reaching Memory) (Result H E))
      → ((y : X) → FailsSo ends (f y)) → FailsSo ends p → FailsSo ends (option_map_or f o p)
  by_option f None p g h = h
  by_option f (Some y) p g h = g y

module _ (x : Reaching Memory) where
  abbrev Fails : Plan (Reaching Memory) (Result CommandHeard ReachDropped) → Type 0
  Fails p = FailsSo reach_ends p

  acks : (from : ℕ) (o : Option (ℕ × ℕ)) → Fails (hear_acknowledgement_in x from o)
  unfolding resting
  acks from None = refuses reach_ends x _
  acks from (Some (number, origin)) = by_choice reach_ends x _ _ _ (record { failed = refl }) (refuses reach_ends x _)

  broadcasts : (own : ℕ) (o : Option Broadcast) → Fails (hear_broadcast_in in_memory x own o)
  broadcasts own None = refuses reach_ends x _
  broadcasts own (Some b) = by_check reach_ends x _ _ (seals reach_ends x _ _)

  follows : (r : Result PathStep PathRefusal) → Fails (follows_path in_memory x r)
  unfolding resting
  follows (Err reason) = refuses reach_ends x _
  follows (Ok (Forward to message)) = seals reach_ends x _ _
  follows (Ok (Answer to message)) = seals reach_ends x _ _
  follows (Ok (Done walk)) = record { failed = refl }

  paths_of : (own from : ℕ) (o : Option PathMessage) → Fails (hear_path_in in_memory x own from o)
  paths_of own from None = refuses reach_ends x _
  paths_of own from (Some message) = follows _

  by_code : (own : ℕ) (c : NeighbourCommand) → Fails (hear_command_at in_memory x own c)
  by_code own c =
      by_choice reach_ends x _ _ _ (by_choice reach_ends x _ _ _ (refuses reach_ends x _) (acks c.from (ack_in c.body)))
      (by_choice reach_ends x _ _ _ (by_choice reach_ends x _ _ _ (broadcasts own (broadcast_in c.body)) (refuses reach_ends x _))
      (by_choice reach_ends x _ _ _ (by_choice reach_ends x _ _ _ (refuses reach_ends x _) (paths_of own c.from (path_in c.body)))
      (refuses reach_ends x _)))

  pub commands_fail : (c : NeighbourCommand) → FailsSo reach_ends (hear_command in_memory x c)
  commands_fail c =
      by_option reach_ends x (λ own. hear_command_at in_memory x own c) (address_of x.memory.station) _ (λ own. by_code own c) (refuses reach_ends x _)

  pub broadcasts_fail : (datagram : List ℕ) → FailsSo broadcast_ends (broadcast in_memory x datagram)
  broadcasts_fail datagram =
      by_option broadcast_ends x _ (address_of x.memory.station) _ (λ own. by_check broadcast_ends x _ _ (seals broadcast_ends x _ _))
      (refuses broadcast_ends x _)

  asks_fail_by : (own target : ℕ) (o : Option ℕ) → FailsSo ask_ends (asks_by in_memory x own target o)
  asks_fail_by own target None = refuses ask_ends x _
  asks_fail_by own target (Some hop) = seals ask_ends x _ _

  pub asks_fail : (target : ℕ) → FailsSo ask_ends (ask_path in_memory x target)
  asks_fail target =
      by_option ask_ends x _ (address_of x.memory.station) _
      (λ own. by_choice ask_ends x _ _ _ (refuses ask_ends x _) (asks_fail_by own target (station_route x.memory.station target)))
      (refuses ask_ends x _)
