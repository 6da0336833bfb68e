-- Orders whose message goes in a command, of what the station does about the command.
use Rattle.std.proofs.Common.{◌≡◌, ℕ, Bool, true, false, List, length, Option, Some, None, Result, refl, sym, subst}
use Rattle.std.specs.Prelude.{if◌then◌else◌, nat_lt}
use Rattle.std.specs.Option.{option_map, option_map_or}
use Rattle.plc_base.specs.declared.out_frame.Out.{Out}
use Rattle.joining_messages.specs.declared.message.JoinMessage.{JoinMessage}
use Rattle.node_rules.specs.declared.heard.SentHow.{SentHow}
use Rattle.node_rules.specs.declared.refusal.SendRefusal.{SendRefusal}
use Rattle.node_rules.specs.declared.refusal.SendRefusal.TheVariants as sends
use Rattle.node_rules.specs.Memory.{StationMemory, Memory, Command, address_of, next_hop}
use Rattle.node_rules.specs.MemoryDrafts.{in_memory, with_station, on_station, is_commanded}
use Rattle.node_rules.specs.Plans.{Plan, within, resting}
use Rattle.node_rules.specs.Drafts.{Draft, Lack, OfRoom, OfNumbers, alone, empty_draft, sets_out, lack, is_awaited, counters_left, refused, sealing, sealed}
use Rattle.node_rules.specs.Drafts.{checked, waits, seeks_once, body_goes, goes, with_own_number}
use Rattle.node_rules.specs.Calls.{sending_ends, lacking, how, send_command, command_from}
use Rattle.node_rules.specs.JoiningPackets.{command_of}
use Rattle.node_rules.specs.Coordinators as rules
use Rattle.node_rules.specs.States.{State}
use Rattle.node_rules.specs.CarriedPlans.{Carries}
use Rattle.coordinator.specs.OrderAnswers.{order_answer}
use Rattle.coordinator.proofs.Within.{KeepsHome, counter_below, number_below, append_below}

-- # The plan of the order is that of the command

module _ (m : Memory) (to : ℕ) (join : JoinMessage) (now : ℕ) where
  -- what the station does, and what the coordinator does
  sending : ℕ → Draft StationMemory
  sending own = sets_out own to 0 (Command (command_of join)) now (empty_draft m.station)

  commanding : ℕ → Draft Memory
  commanding own = on_station (sets_out own to 0 (Command (command_of join)) now) (empty_draft m)

  by_few : (own : ℕ) (few : Bool) → within (λ l. with_station l m) order_answer
      (if few then refused sending_ends m.station sends.CounterSpent else sealing alone sending_ends (sending own) (how m.station to))
      ≡ (if few then refused rules.orders m rules.orders.spent else sealing in_memory rules.orders (commanding own) tt)
  unfolding sending commanding on_station empty_draft resting
  by_few own true = refl
  by_few own false = refl

  by_lack : (own : ℕ) (o : Option Lack) → within (λ l. with_station l m) order_answer
      (checked sending_ends m.station (option_map lacking o) (sealed alone sending_ends m.station (sending own) (how m.station to)))
      ≡ checked rules.orders m (option_map rules.lacking o) (sealed in_memory rules.orders m (commanding own) tt)
  unfolding checked sealed sending commanding on_station empty_draft by_few resting
  by_lack own None = by_few own (nat_lt (counters_left m.station) (length (sending own).units))
  by_lack own (Some OfRoom) = refl
  by_lack own (Some OfNumbers) = refl

  pub order_plan : address_of m.station ≡ Some 0
      → within (λ l. with_station l m) order_answer (send_command m.station to (command_of join) now) ≡ rules.activate_at m to join now
  unfolding sending commanding empty_draft is_commanded on_station
  order_plan home =
      rw home (by_lack 0 (lack m.station to (length (command_of join))))

-- the same answer, as it is given
pub said : {M A : Type 0} (s t : State M) (p : Plan M A) (x answer : A) (out : Out) → answer ≡ x → Carries s p x out t → Carries s p answer out t
said {M} {A} s t p x answer out is h = subst (λ (r : A). Carries s p r out t) (sym is) h

-- # What a command puts

module _ (l : StationMemory) (home : address_of l ≡ Some 0) where
  keeps_refused : (reason : SendRefusal) → KeepsHome (refused {H = SentHow} sending_ends l reason)
  unfolding resting
  keeps_refused reason = record { below = tt; home = home }

  module _ (own to : ℕ) (octets : List ℕ) (now : ℕ) where
    sent : Plan StationMemory (Result SentHow SendRefusal)
    sent = sealing alone sending_ends (sets_out own to 0 (Command octets) now (empty_draft l)) (how l to)

    keeps_by : (hop : ℕ) → next_hop l to ≡ Some hop → KeepsHome sent
    unfolding sent empty_draft body_goes
    keeps_by hop e = rw e (record { below = counter_below l.counter _; home = home })

    keeps_waiting : next_hop l to ≡ None → is_awaited l to ≡ true → KeepsHome sent
    unfolding sent empty_draft waits seeks_once
    keeps_waiting e awaited = rw (e, awaited) (record { below = counter_below l.counter 0; home = home })

    keeps_seeking : next_hop l to ≡ None → is_awaited l to ≡ false → KeepsHome sent
    unfolding sent empty_draft waits seeks_once goes with_own_number
    keeps_seeking e awaited = rw (e, awaited) (record { below = append_below _ _ (number_below l.own_number) (counter_below l.counter 1); home = home })

    keeps_awaited : (b : Bool) → is_awaited l to ≡ b → next_hop l to ≡ None → KeepsHome sent
    keeps_awaited true awaited e = keeps_waiting e awaited
    keeps_awaited false awaited e = keeps_seeking e awaited

    keeps_hop : (hop : Option ℕ) → next_hop l to ≡ hop → KeepsHome sent
    keeps_hop (Some hop) e = keeps_by hop e
    keeps_hop None e = keeps_awaited (is_awaited l to) refl e

    keeps_few : (few : Bool) → KeepsHome (if few then refused sending_ends l sends.CounterSpent else sent)
    keeps_few true = keeps_refused sends.CounterSpent
    keeps_few false = keeps_hop (next_hop l to) refl

    keeps_lack : (o : Option Lack) → KeepsHome
        (checked sending_ends l (option_map lacking o) (sealed alone sending_ends l (sets_out own to 0 (Command octets) now (empty_draft l)) (how l to)))
    unfolding checked sealed sent
    keeps_lack None = keeps_few (nat_lt (counters_left l) (length (sets_out own to 0 (Command octets) now (empty_draft l)).units))
    keeps_lack (Some reason) = keeps_refused (lacking reason)

  pub command_keeps : (to : ℕ) (octets : List ℕ) (now : ℕ) → KeepsHome (send_command l to octets now)
  command_keeps to octets now =
      subst (λ (o : Option ℕ). KeepsHome (option_map_or (λ own. command_from l own to octets now) o (refused sending_ends l sends.NotJoined))) (sym home)
      (keeps_lack 0 to octets now (lack l to (length octets)))
