-- What a node keeps of all that its station holds, where it hears a command for the neighbours, acknowledges a reply, or accepts a frame: all of it.
use Rattle.std.proofs.Common.{◌≡◌, ℕ, Bool, true, false, List, Option, Some, None, Result, Ok, Err, refl}
use Rattle.std.specs.Prelude.{if◌then◌else◌, nat_lt}
use Rattle.plc_base.specs.declared.address.Eui.{Eui}
use Rattle.plc_base.specs.declared.key.Key.{Key}
use Rattle.mac_frames.specs.declared.head.MacHead.{MacHead}
use Rattle.mac_frames.specs.declared.head.MacHead.TheVariants as heads
use Rattle.broadcast_log.specs.declared.broadcast.Broadcast.{Broadcast}
use Rattle.broadcast_log.specs.Grammar.{spelling}
use Rattle.broadcast_log.specs.Reader.{broadcast_in}
use Rattle.frame_counters.specs.declared.fault.PeerFault.{PeerFault}
use Rattle.frame_counters.specs.PeerMarks as marks
use Rattle.group_keys.specs.KeyRing as rings
use Rattle.neighbour_checks.specs.Acks.{ack_in, ack_spelling}
use Rattle.path_requests.specs.declared.message.PathMessage.{PathMessage}
use Rattle.path_requests.specs.declared.step.PathStep.{PathStep}
use Rattle.path_requests.specs.declared.step.PathStep.TheVariants.{Forward, Answer, Done}
use Rattle.path_requests.specs.declared.step.PathRefusal.{PathRefusal}
use Rattle.path_requests.specs.Reader.{path_in}
use Rattle.node_rules.specs.Accepted.{Accepted}
use Rattle.node_rules.specs.declared.refusal.FrameRefusal.{FrameRefusal}
use Rattle.node_rules.specs.declared.refusal.FrameRefusal.TheVariants.{NotForMe}
use Rattle.node_rules.specs.Acceptance.{Accepting, accept, accept_head, admitted, is_for_me, marking, open_sealed, refuse, with_key}
use Rattle.node_rules.specs.Drafts.{Draft, alone, empty_draft, goes}
use Rattle.node_rules.specs.Frames.{Arrived, to_all}
use Rattle.node_rules.specs.Memory.{Memory, StationMemory, address_of}
use Rattle.node_rules.specs.MemoryDrafts.{in_memory}
use Rattle.node_rules.specs.Neighbours.{local_draft, local_ends}
use Rattle.node_rules.specs.Plans.{resting}
use Rattle.reach_rules.specs.declared.refusal.ReachDropped.{ReachDropped}
use Rattle.reach_rules.specs.Broadcasts.{goes_further, hear_broadcast_in, hop_less, with_broadcast_mark}
use Rattle.reach_rules.specs.CheckedReplies.{acknowledges, ends_check, hear_acknowledgement_in}
use Rattle.reach_rules.specs.PathRequests.{follows_path, hear_path_in}
use Rattle.reach_rules.specs.ReachingNodes.{Reaching, Commanding, adds_local, drop_it, reach_ends}
use Rattle.reach_rules.specs.FurtherReceptions.{NeighbourCommand, hear_command, hear_command_at}
use Rattle.line_progress.proofs.HeldKept.{PlanKeeps, DraftKeeps, there, same_held, by_choice, by_option, ends_so, says, stops, unnumbered}
use Rattle.line_progress.proofs.HeldKept as kept

-- # Commands for the neighbours

module _ (x : Reaching Memory) where
  abbrev Keeps : Commanding Memory → Type 0
  Keeps p = PlanKeeps (there x) x p

  drops : (reason : ReachDropped) → Keeps (drop_it x reason)
  drops reason = stops x reach_ends reason

  checks_end : (from number origin : ℕ) → Keeps (ends_check x from number origin)
  unfolding resting
  checks_end from number origin = by_choice (there x) x _ _ _ (record { held = same_held x.memory.station }) (drops _)

  acks : (from : ℕ) (o : Option (ℕ × ℕ)) → Keeps (hear_acknowledgement_in x from o)
  acks from None = drops _
  acks from (Some (number, origin)) = checks_end from number origin

  marked : (origin number : ℕ) → DraftKeeps (there x) x (with_broadcast_mark origin number (empty_draft x))
  unfolding with_broadcast_mark empty_draft
  marked origin number = record { held = same_held x.memory.station }

  further : (b : Broadcast) (d : Draft (Reaching Memory)) → DraftKeeps (there x) x d → DraftKeeps (there x) x (goes_further b d)
  unfolding goes_further adds_local
  further b d k = by_hops (nat_lt b.hops 2)
    where
      by_hops : (t : Bool) → DraftKeeps (there x) x (if t then d else adds_local to_all 4 (spelling (hop_less b)) d)
      by_hops true = k
      by_hops false = record { held = k.held }

  broadcasts : (own : ℕ) (o : Option Broadcast) → Keeps (hear_broadcast_in in_memory x own o)
  broadcasts own None = drops _
  broadcasts own (Some b) =
      kept.by_check (there x) (λ l n. refl) x reach_ends _ _ (says x reach_ends _ _ (further b _ (marked b.origin b.number)))

  follows : (r : Result PathStep PathRefusal) → Keeps (follows_path in_memory x r)
  unfolding resting
  follows (Err reason) = drops _
  follows (Ok (Forward to message)) = says x reach_ends _ _ (unnumbered x to 5 _)
  follows (Ok (Answer to message)) = says x reach_ends _ _ (unnumbered x to 5 _)
  follows (Ok (Done walk)) = record { held = same_held x.memory.station }

  paths_of : (own from : ℕ) (o : Option PathMessage) → Keeps (hear_path_in in_memory x own from o)
  paths_of own from None = drops _
  paths_of own from (Some message) = follows _

  by_code : (own : ℕ) (c : NeighbourCommand) → Keeps (hear_command_at in_memory x own c)
  by_code own c =
      by_choice (there x) x _ _ _ (by_choice (there x) x _ _ _ (drops _) (acks c.from (ack_in c.body)))
      (by_choice (there x) x _ _ _ (by_choice (there x) x _ _ _ (broadcasts own (broadcast_in c.body)) (drops _))
      (by_choice (there x) x _ _ _ (by_choice (there x) x _ _ _ (drops _) (paths_of own c.from (path_in c.body))) (drops _)))

  pub commands_keep : (c : NeighbourCommand) → PlanKeeps (there x) x (hear_command in_memory x c)
  commands_keep c =
      by_option (there x) x (λ own. hear_command_at in_memory x own c) (address_of x.memory.station) _ (λ own. by_code own c) (drops _)

-- # Acknowledgements

local_kept : (l : StationMemory) (code to : ℕ) (body : List ℕ) → DraftKeeps alone l (local_draft l code (Some to) body)
unfolding goes empty_draft
local_kept l code to body = record { held = same_held l }

pub acks_keep : (m : Memory) (to number origin : ℕ) → PlanKeeps in_memory m (acknowledges in_memory to number origin m)
acks_keep m to number origin =
    let k = ends_so alone (λ l n. refl) m.station local_ends (local_draft m.station 3 (Some to) (ack_spelling number origin)) tt
    (local_kept m.station 3 to (ack_spelling number origin)) in
    record { held = k.held }

-- # Accepting

-- A station as it was but for its marks, as far as datagrams go.
pub record IsMarked (l n : StationMemory) : Type 0 where
  pub waiting : n.waiting ≡ l.waiting
  pub reassemblies : n.reassemblies ≡ l.reassemblies
  pub ring : n.ring ≡ l.ring

-- what a station makes of octets that came
record Marks (l : StationMemory) (p : Accepting) : Type 0 where
  left : IsMarked l p.memory

module _ (l : StationMemory) where
  rests : (answer failed : Result Accepted FrameRefusal) → Marks l (resting l answer failed)
  unfolding resting
  rests answer failed = record { left = record { waiting = refl; reassemblies = refl; ring = refl } }

  marks_it : (from counter : ℕ) (got : Accepted) → Marks l (marking l from counter got)
  unfolding marking
  marks_it from counter got = record { left = record { waiting = refl; reassemblies = refl; ring = refl } }

  admits : (from counter : ℕ) (got : Accepted) (r : Result (Unit {0}) PeerFault) → Marks l (admitted l from counter got r)
  admits from counter got (Ok u) = marks_it from counter got
  admits from counter got (Err fault) = rests _ _

  opens : (to from counter : ℕ) (key : Key) (o : Option (List ℕ)) → Marks l (open_sealed l to from counter key o)
  opens to from counter key None = rests _ _
  opens to from counter key (Some payload) = admits from counter _ (marks.room_for l.marks from counter)

  by_key : (a : Arrived) (to from counter : ℕ) (o : Option Key) → Marks l (with_key l a to from counter o)
  by_key a to from counter None = rests _ _
  by_key a to from counter (Some key) = opens to from counter key (a.opened key)

  by_head : (a : Arrived) (h : MacHead) → Marks l (accept_head l a h)
  by_head a (heads.Sealed ack seq pan to from counter index) = by_key a to from counter (rings.key_in_ring l.ring index)
  by_head a (heads.Up ack version seq pan to from) = rests _ _
  by_head a (heads.Down ack version seq pan to from) = rests _ _

  by_own : (a : Arrived) (b : Bool) → Marks l (if b then accept_head l a a.head else refuse l NotForMe)
  by_own a true = by_head a a.head
  by_own a false = rests _ _

  accepts_so : (own : Eui) (o : Option Arrived) → Marks l (accept l own o)
  accepts_so own None = rests _ _
  accepts_so own (Some a) = by_own a (is_for_me l own a.head)

pub accepts_marks : (l : StationMemory) (own : Eui) (o : Option Arrived) → IsMarked l (accept l own o).memory
accepts_marks l own o = (accepts_so l own o).left
