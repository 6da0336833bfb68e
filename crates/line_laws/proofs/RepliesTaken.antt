-- A reply to one node is learned, sent on or refused; so the word of what a node made of it says whether its own rule refused it.
use Rattle.std.proofs.Common.{◌≡◌, ℕ, Bool, true, false, List, length, Option, Some, None, Result, Ok, Err, refl, sym, subst}
use Rattle.std.specs.Prelude.{if◌then◌else◌, is_ok, nat_lt, ◌==◌}
use Rattle.std.specs.Option.{option_and_then, option_map_or}
use Rattle.plc_base.specs.declared.key.Key.{Key}
use Rattle.mesh_header.specs.declared.unit.Unit.{Unit as MeshUnit}
use Rattle.mesh_header.specs.declared.unit.Unit.TheVariants as units
use Rattle.mesh_header.specs.Reader.{unit_in}
use Rattle.loadng_messages.specs.declared.message.Message.TheVariants.{Rrep}
use Rattle.loadng_messages.specs.Reader.{message_in}
use Rattle.routing_set.specs.declared.rank.Rank.{Rank}
use Rattle.node_rules.specs.declared.heard.Heard.{Heard}
use Rattle.node_rules.specs.declared.heard.Heard.TheVariants as heard_words
use Rattle.node_rules.specs.declared.heard.Path.TheVariants as paths
use Rattle.node_rules.specs.declared.refusal.Dropped.{Dropped}
use Rattle.node_rules.specs.declared.refusal.Dropped.TheVariants as drops
use Rattle.node_rules.specs.Coordinators as coordinator_rules
use Rattle.node_rules.specs.Drafts.{Draft, alone, checked, choose, counters_left, refused, sealed, sealing}
use Rattle.node_rules.specs.HearingRules.{Hearing, drop_it, dropped, ends, hear, hear_command, hear_message_in, hear_reply, hear_reply_for, hear_sealed}
use Rattle.node_rules.specs.HearingRules.{hear_unit_in, learns, passes_on, rank_fault, rank_over}
use Rattle.node_rules.specs.Memory.{StationMemory, address_of, next_hop}
use Rattle.node_rules.specs.MemoryDrafts.{unread}
use Rattle.node_rules.specs.Meters as meters
use Rattle.node_rules.specs.Plans.{resting}
use Rattle.node_rules.specs.Replies.{route_message}
use Rattle.line_rules.specs.Answers.{coordinator_reception, drop_word, meter_reception}
use Rattle.line_rules.specs.Further.{is_reply_taken}
use Rattle.line_laws.specs.OnePlan.{RepliesTakenAlike}

-- what a station answers to a reply
abbrev Replied : Result Heard Dropped → Type 0
Replied (Err reason) = Unit {0}
Replied (Ok heard_words.Learned) = Unit {0}
Replied (Ok heard_words.Relayed) = Unit {0}
Replied (Ok _) = ⊥

module _ (l : StationMemory) where
  refuses : (reason : Dropped) → Replied (drop_it l reason).answer
  unfolding resting
  refuses reason = tt

  ends_so : (d : Draft StationMemory) (word : Heard) → Replied (Ok word) → Replied (ends l d word).answer
  unfolding sealed resting
  ends_so d word h = by_test (nat_lt (counters_left l) (length d.units))
    where
      by_test : (t : Bool) → Replied (if t then refused dropped l dropped.spent else sealing alone dropped d word).answer
      by_test true = tt
      by_test false = h

  either_so : (t : Bool) (p q : Hearing) → Replied p.answer → Replied q.answer → Replied (choose t p q).answer
  unfolding choose
  either_so true p q s t = s
  either_so false p q s t = t

  outcome_of_checked : (o : Option Dropped) (p : Hearing) → Replied p.answer → Replied (checked dropped l o p).answer
  unfolding checked
  outcome_of_checked None p h = h
  outcome_of_checked (Some reason) p h = refuses reason

  for_so : (own by origin to : ℕ) (rank : Rank) (now : ℕ) (o : Option ℕ) → Replied (hear_reply_for l own by origin to rank now o).answer
  for_so own by origin to rank now None = refuses drops.NoRoute
  for_so own by origin to rank now (Some hop) =
      outcome_of_checked (rank_fault l own origin rank now) (passes_on l own by origin to hop rank now) (ends_so _ heard_words.Relayed tt)

  reply_so : (own by origin to : ℕ) (rank : Rank) (now : ℕ) → Replied (hear_reply l own by origin to rank now).answer
  reply_so own by origin to rank now =
      either_so (to == own) (checked dropped l (rank_fault l own origin rank now) (learns l own by origin rank now))
      (hear_reply_for l own by origin to rank now (next_hop l to))
      (outcome_of_checked (rank_fault l own origin rank now) (learns l own by origin rank now) (ends_so _ heard_words.Learned tt))
      (for_so own by origin to rank now (next_hop l to))

  -- of what comes in a frame to one node
  module _ (cost note now from number c origin to : ℕ) (key : Key) where
    command_so : (own code : ℕ) (body : List ℕ) (t : Bool) → (code == 1) ≡ t → (if t then message_in body else None) ≡ Some (Rrep number c origin to)
        → Replied (hear_command l own from false code body cost now).answer
    unfolding choose
    command_so own code body false is e = absurd (cc (e))
    command_so own code body true is e = rw is (subst (λ o. Replied (hear_message_in l own from false cost now o).answer) (sym e)
        (reply_so own from origin to (rank_over number c cost) now))

    unit_so : (o : Option MeshUnit) → option_and_then route_message o ≡ Some (Rrep number c origin to)
        → Replied (hear_unit_in l (paths.Sealed from false key) o cost note now).answer
    unit_so None e = absurd (cc (e))
    unit_so (Some (units.Whole mesh octets)) e = absurd (cc (e))
    unit_so (Some (units.Part mesh piece)) e = absurd (cc (e))
    unit_so (Some (units.Carried mesh body)) e = absurd (cc (e))
    unit_so (Some (units.Local code body)) e = by_address (address_of l)
      where
        by_address : (o : Option ℕ)
            → Replied (option_map_or (λ a. hear_sealed l a from false (units.Local code body) cost note now) o (drop_it l drops.BadUnit)).answer
        by_address None = refuses drops.BadUnit
        by_address (Some own) = command_so own code body (code == 1) refl e

drop_untaken : (reason : Dropped) → is_reply_taken (drop_word reason) ≡ false
drop_untaken drops.BadUnit = refl
drop_untaken drops.NoRoute = refl
drop_untaken drops.HopsSpent = refl
drop_untaken drops.NotBetter = refl
drop_untaken drops.CostSpent = refl
drop_untaken drops.RoutesFull = refl
drop_untaken drops.NotAllowed = refl
drop_untaken drops.NoSession = refl
drop_untaken drops.SessionsFull = refl
drop_untaken drops.NoRandom = refl
drop_untaken drops.Form = refl
drop_untaken drops.OtherSession = refl
drop_untaken drops.BadMac = refl
drop_untaken drops.BadChannel = refl
drop_untaken drops.NoSuccess = refl
drop_untaken drops.NotHeld = refl
drop_untaken drops.BufferFull = refl
drop_untaken drops.SeqSpent = refl
drop_untaken drops.CounterSpent = refl
drop_untaken drops.Store = refl

unread_none : (a : Result Heard Dropped) → Replied a → unread a ≡ None
unread_none (Err reason) h = refl
unread_none (Ok heard_words.Learned) h = refl
unread_none (Ok heard_words.Relayed) h = refl
unread_none (Ok _) h = absurd h

coordinator_alike : (a : Result Heard Dropped) → Replied a
    → is_reply_taken (coordinator_reception (coordinator_rules.heard_by_station a)).answer ≡ is_ok (coordinator_rules.heard_by_station a)
coordinator_alike (Err reason) h = drop_untaken reason
coordinator_alike (Ok heard_words.Learned) h = refl
coordinator_alike (Ok heard_words.Relayed) h = refl
coordinator_alike (Ok _) h = absurd h

meter_alike : (a : Result Heard Dropped) → Replied a → is_reply_taken (meter_reception (meters.heard_by_station a)).answer ≡ is_ok (meters.heard_by_station a)
meter_alike (Err reason) h = drop_untaken reason
meter_alike (Ok heard_words.Learned) h = refl
meter_alike (Ok heard_words.Relayed) h = refl
meter_alike (Ok _) h = absurd h

pub replies_taken_alike : RepliesTakenAlike
replies_taken_alike got cost note now from key number c origin to way e m = (
  λ own. subst (λ o. let a = (coordinator_rules.heard_by own m now p o).answer in is_reply_taken (coordinator_reception a).answer ≡ is_ok a)
      (sym (unread_none p.answer said)) (coordinator_alike p.answer said),
  λ own. subst (λ o. let a = (meters.heard_by own m now p o).answer in is_reply_taken (meter_reception a).answer ≡ is_ok a)
      (sym (unread_none p.answer said)) (meter_alike p.answer said),
)
  where
    p : Hearing
    p = hear m.station got cost note now

    said : Replied p.answer
    said = subst (λ w. Replied (hear_unit_in m.station w (unit_in got.payload) cost note now).answer) (sym way)
        (unit_so m.station cost note now from number c origin to key (unit_in got.payload) e)
