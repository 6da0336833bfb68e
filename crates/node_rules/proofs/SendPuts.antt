-- What a station sends, and what the workshop gives it, puts three times at most, before the counter.
use Rattle.std.proofs.Common.{ℕ, Bool, true, false, List, length, Some, arith}
use Rattle.std.specs.Prelude.{if◌then◌else◌, nat_le}
use Rattle.node_rules.specs.Memory.{StationMemory, address_of, Load, Datagram, Command}
use Rattle.node_rules.specs.Drafts.{Draft, alone, empty_draft, refused, sets_out, with_next_tag, with_rank, with_ring}
use Rattle.plc_base.specs.Grant.{Granted}
use Rattle.node_rules.specs.Calls.{Sending, sending_ends, send_from, send, command_from, send_command, tag_taken, send_fault, how}
use Rattle.node_rules.specs.Calls.{ringing_ends, install, presetting_ends, preset_near, preset_fault, near_rank}
use Rattle.node_rules.specs.declared.refusal.SendRefusal.TheVariants as sends
use Rattle.node_rules.proofs.Shapes.{Shape, Rests, checked_shape, sealed_shape, sealing_shape, option_shape}
use Rattle.node_rules.proofs.PutCounts.{AtMost, Does, looser, begun_few, ringed_few, ranked_few, tagged_few, sets_out_few}

module _ (l : StationMemory) where
  abbrev SendFew : Sending → Type 0
  SendFew p = Shape alone sending_ends l Does p

  -- the tag is taken where the datagram is cut
  tag_few : (octets : List ℕ) → AtMost 1 (tag_taken octets (empty_draft l))
  tag_few octets = by_size (nat_le (length octets) 375)
    where
      by_size : (b : Bool) → AtMost 1 (if b then empty_draft l else with_next_tag (empty_draft l))
      by_size true = begun_few 1 l
      by_size false = tagged_few 0 (empty_draft l) (begun_few 0 l)

  own_few : (own to note : ℕ) (load : Load) (now : ℕ) (d : Draft StationMemory) → AtMost 1 d → Does (sets_out own to note load now d)
  own_few own to note load now d one = let two = sets_out_few 1 own to note load now d one in record { few = omega arith }

  from_few : (own to : ℕ) (datagram : List ℕ) (note now : ℕ) → SendFew (send_from l own to datagram note now)
  from_few own to datagram note now = checked_shape _ _ _ _ (send_fault l to datagram) _
      (sealed_shape alone sending_ends l Does (sets_out own to note (Datagram datagram l.next_tag) now (tag_taken datagram (empty_draft l))) (how l to)
      (own_few own to note (Datagram datagram l.next_tag) now (tag_taken datagram (empty_draft l)) (tag_few datagram)))

  pub send_few : (to : ℕ) (datagram : List ℕ) (note now : ℕ) → SendFew (send l to datagram note now)
  send_few to datagram note now = option_shape _ _ _ _ (λ own. send_from l own to datagram note now) (address_of l) (refused sending_ends l sends.NotJoined)
      (λ own. from_few own to datagram note now) (Rests _)

  pub command_few : (to : ℕ) (octets : List ℕ) (now : ℕ) → SendFew (send_command l to octets now)
  command_few to octets now = option_shape _ _ _ _ (λ own. command_from l own to octets now) (address_of l) (refused sending_ends l sends.NotJoined)
      (λ own. checked_shape _ _ _ _ _ _ (sealed_shape alone sending_ends l Does (sets_out own to 0 (Command octets) now (empty_draft l)) (how l to)
      (own_few own to 0 (Command octets) now (empty_draft l) (begun_few 1 l))))
      (Rests _)

  -- the grant and the neighbour of the workshop
  pub grant_few : (granted : Granted) → Shape alone ringing_ends l Does (install l granted)
  grant_few granted = sealing_shape alone ringing_ends l Does (with_ring (Some granted) (empty_draft l)) tt
      (record { few = ringed_few 2 (Some granted) (empty_draft l) (begun_few 2 l) })

  pub near_few : (to cost now : ℕ) → Shape alone presetting_ends l Does (preset_near l to cost now)
  near_few to cost now = checked_shape _ _ _ _ (preset_fault l to cost now) _
      (sealing_shape alone presetting_ends l Does (with_rank to (near_rank cost) to now (empty_draft l)) tt
      (looser (with_rank to (near_rank cost) to now (empty_draft l)) (ranked_few l to (near_rank cost) to now)))
