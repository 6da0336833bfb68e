-- A route reply that is heard sends at most what waits and one frame more.
use Rattle.std.proofs.Common.{◌≡◌, ℕ, ◌+◌, ◌≤◌, Bool, true, false, List, length, Option, Some, None, Result, Ok, Err, refl, sym, subst, arith}
use Rattle.std.specs.Prelude.{if◌then◌else◌}
use Rattle.std.specs.Option.{option_map_or, option_and_then}
use Rattle.std.proofs.lemmas.List.{length-append}
use Rattle.mesh_header.specs.declared.unit.Unit.{Unit as MeshUnit}
use Rattle.mesh_header.specs.declared.unit.Unit.TheVariants as units
use Rattle.mesh_header.specs.Reader.{unit_in}
use Rattle.loadng_messages.specs.declared.message.Message.{Message}
use Rattle.loadng_messages.specs.declared.message.Message.TheVariants.{Rrep}
use Rattle.loadng_messages.specs.Reader.{message_in}
use Rattle.routing_set.specs.declared.rank.Rank.{Rank}
use Rattle.node_rules.specs.declared.heard.Path.{Path}
use Rattle.node_rules.specs.declared.heard.Path.TheVariants as paths
use Rattle.node_rules.specs.declared.heard.Heard.{Heard}
use Rattle.node_rules.specs.declared.refusal.Dropped.TheVariants.{BadUnit}
use Rattle.node_rules.specs.Memory.{StationMemory, address_of, next_hop}
use Rattle.node_rules.specs.Plans.{resting}
use Rattle.node_rules.specs.Drafts.{alone, choose, empty_draft, with_rank, leave, sealed_by}
use Rattle.node_rules.specs.HearingRules.{Hearing, dropped, drop_it, hear_reply, hear_reply_for, hear_message, hear_message_in, hear_sealed}
use Rattle.node_rules.specs.HearingRules.{hear_plain, is_joining, hear_unit_in, hear, rank_over}
use Rattle.node_rules.specs.Laws.{WaitingFits, RepliesAreFew, AMetersRepliesAreFew, ACoordinatorsRepliesAreFew}
use Rattle.node_rules.specs.Meters as meters
use Rattle.node_rules.specs.Coordinators as coordinator_rules
use Rattle.node_rules.specs.MemoryDrafts.{unread}
use Rattle.node_rules.specs.declared.refusal.Dropped.{Dropped}
use Rattle.node_rules.specs.declared.heard.Heard.TheVariants as heard
use Rattle.plc_base.specs.declared.key.Key.{Key}
use Rattle.node_rules.proofs.OwnAnswers.{IsOwn, Own, ByAnswer, message_in_own, refused_own}
use Rattle.node_rules.specs.Replies.{route_message}
use Rattle.node_rules.proofs.Sizes.{pending_bound}
use Rattle.node_rules.proofs.Words.{Fits, begun_fresh, ranked_fresh, leave_fits, goes_fits, looser}
use Rattle.node_rules.proofs.Bounds.{sealed_few}
use Rattle.node_rules.proofs.Shapes.{Shape, Rests, Keeps, Ended, checked_shape, choose_shape, sealed_shape}

module _ (l : StationMemory) where
  -- what waits, and one more
  abbrev OneMore : Hearing → Type 0
  OneMore p = Shape alone dropped l (Fits l 1 3) p

  few : WaitingFits l → (p : Hearing) → OneMore p → length p.frames ≤ 22
  unfolding resting
  few w p (Rests answer) = omega arith
  few w p (Keeps n answer) = omega arith
  few w p (Ended d answer f) =
      let bound = pending_bound l w in
      let count = f.count in
      let sealed_units_few = sealed_few d.memory.ring d.memory.counter.next d.units in
      let both = length-append d.plain (sealed_by d.memory.ring d.memory.counter.next d.units) in
      omega arith

  offers_fits : (own origin : ℕ) (rank : Rank) (by now : ℕ) → Fits l 0 1 (leave own origin by (with_rank origin rank by now (empty_draft l)))
  offers_fits own origin rank by now = leave_fits l 1 own origin by _ (ranked_fresh l origin rank by now _ (begun_fresh l 0))

  by_hop : (own by origin to : ℕ) (rank : Rank) (now : ℕ) (hop : Option ℕ) → OneMore (hear_reply_for l own by origin to rank now hop)
  by_hop own by origin to rank now None = Rests _
  by_hop own by origin to rank now (Some hop) =
      checked_shape _ _ _ _ _ _ (sealed_shape _ _ _ _ _ _
      (looser l (0 + 1) 1 1 3 _ (omega arith) (omega arith) (goes_fits l 0 1 hop _ 0 _ (offers_fits own origin rank by now))))

  reply_more : (own by origin to : ℕ) (rank : Rank) (now : ℕ) → OneMore (hear_reply l own by origin to rank now)
  reply_more own by origin to rank now =
      choose_shape _ _ _ _ _ _ _
      (checked_shape _ _ _ _ _ _ (sealed_shape _ _ _ _ _ _ (looser l 0 1 1 3 _ (omega arith) (omega arith) (offers_fits own origin rank by now))))
      (by_hop own by origin to rank now (next_hop l to))

  module _ (number c origin to : ℕ) where
    message_more : (own by : ℕ) (all : Bool) (cost now : ℕ) → OneMore (hear_message l own by all cost now (Rrep number c origin to))
    message_more own by true cost now = Rests _
    message_more own by false cost now = reply_more own by origin to (rank_over number c cost) now

    by_code : (own by : ℕ) (all : Bool) (cost now : ℕ) (first : Bool) (m : Option Message) (other : Hearing)
        → (if first then m else None) ≡ Some (Rrep number c origin to) → OneMore (choose first (hear_message_in l own by all cost now m) other)
    unfolding choose
    by_code own by all cost now true m other e = rw e (message_more own by all cost now)
    by_code own by all cost now false m other e = absurd (cc)

    sealed_more : (own by : ℕ) (all : Bool) (unit : MeshUnit) (cost note now : ℕ) → route_message unit ≡ Some (Rrep number c origin to)
        → OneMore (hear_sealed l own by all unit cost note now)
    sealed_more own by all (units.Local code body) cost note now e = by_code own by all cost now _ (message_in body) _ e
    sealed_more own by all (units.Whole mesh octets) cost note now e = absurd (cc)
    sealed_more own by all (units.Part mesh piece) cost note now e = absurd (cc)
    sealed_more own by all (units.Carried mesh body) cost note now e = absurd (cc)

    addressed_more : (own : Option ℕ) (by : ℕ) (all : Bool) (unit : MeshUnit) (cost note now : ℕ) → route_message unit ≡ Some (Rrep number c origin to)
        → OneMore (option_map_or (λ a. hear_sealed l a by all unit cost note now) own (drop_it l BadUnit))
    addressed_more None by all unit cost note now e = Rests _
    addressed_more (Some own) by all unit cost note now e = sealed_more own by all unit cost note now e

    plain_more : (answer : List ℕ → Heard) (body : Option (List ℕ)) → OneMore (hear_plain l answer body)
    plain_more answer None = Rests _
    plain_more answer (Some body) = Rests _

    unit_more : (path : Path) (unit : Option MeshUnit) (cost note now : ℕ) → option_and_then route_message unit ≡ Some (Rrep number c origin to)
        → OneMore (hear_unit_in l path unit cost note now)
    unit_more path None cost note now e = absurd (cc)
    unit_more (paths.Sealed from all key) (Some unit) cost note now e = addressed_more (address_of l) from all unit cost note now e
    unit_more (paths.Up from) (Some unit) cost note now e = plain_more _ (is_joining unit)
    unit_more (paths.Down from) (Some unit) cost note now e = plain_more _ (is_joining unit)

pub replies_few : RepliesAreFew
replies_few l got cost note now number c origin to w e = few l w _ (unit_more l number c origin to got.path (unit_in got.payload) cost note now e)

-- # Meters and the coordinator

module _ (l : StationMemory) (number c origin to : ℕ) where
  code_own : (own by : ℕ) (all : Bool) (cost now : ℕ) (first : Bool) (m : Option Message) (other : Hearing)
      → (if first then m else None) ≡ Some (Rrep number c origin to) → Own (choose first (hear_message_in l own by all cost now m) other)
  unfolding choose
  code_own own by all cost now true m other e = message_in_own l own by all cost now m
  code_own own by all cost now false m other e = absurd (cc)

  sealed_unit_own : (own by : ℕ) (all : Bool) (unit : MeshUnit) (cost note now : ℕ) → route_message unit ≡ Some (Rrep number c origin to)
      → Own (hear_sealed l own by all unit cost note now)
  sealed_unit_own own by all (units.Local code body) cost note now e = code_own own by all cost now _ (message_in body) _ e
  sealed_unit_own own by all (units.Whole mesh octets) cost note now e = absurd (cc)
  sealed_unit_own own by all (units.Part mesh piece) cost note now e = absurd (cc)
  sealed_unit_own own by all (units.Carried mesh body) cost note now e = absurd (cc)

  addressed_own : (own : Option ℕ) (by : ℕ) (all : Bool) (unit : MeshUnit) (cost note now : ℕ) → route_message unit ≡ Some (Rrep number c origin to)
      → Own (option_map_or (λ a. hear_sealed l a by all unit cost note now) own (drop_it l BadUnit))
  addressed_own None by all unit cost note now e = refused_own l BadUnit
  addressed_own (Some own) by all unit cost note now e = sealed_unit_own own by all unit cost note now e

  unit_own : (path : Path) (unit : Option MeshUnit) (from : ℕ) (all : Bool) (key : Key) (cost note now : ℕ) → path ≡ paths.Sealed from all key
      → option_and_then route_message unit ≡ Some (Rrep number c origin to) → Own (hear_unit_in l path unit cost note now)
  unit_own path None from all key cost note now p e = absurd (cc)
  unit_own path (Some unit) from all key cost note now p e = rw p (addressed_own (address_of l) from all unit cost note now e)

own_unread : (p : Hearing) → Own p → unread p.answer ≡ None
own_unread p (ByAnswer q own) = by_answer q.answer own
  where
    by_answer : (r : Result Heard Dropped) → ((h : Heard) → r ≡ Ok h → IsOwn h) → unread r ≡ None
    by_answer (Err reason) own = refl
    by_answer (Ok (heard.Up from note octets)) own = refl
    by_answer (Ok heard.Held) own = refl
    by_answer (Ok heard.Relayed) own = refl
    by_answer (Ok heard.Answered) own = refl
    by_answer (Ok heard.Learned) own = refl
    by_answer (Ok heard.Broken) own = refl
    by_answer (Ok heard.Reported) own = refl
    by_answer (Ok (heard.Joining way body)) own = absurd (own _ refl)
    by_answer (Ok (heard.Local from all code body)) own = absurd (own _ refl)

pub meters_replies_few : AMetersRepliesAreFew
meters_replies_few x m got cost note now from all key number c origin to w path e =
    let own = own_unread _ (unit_own m.station number c origin to got.path (unit_in got.payload) from all key cost note now path e) in
    subst (λ o. length (meters.heard_by x m now (hear m.station got cost note now) o).frames ≤ 22) (sym own)
    (replies_few m.station got cost note now number c origin to w e)

pub coordinators_replies_few : ACoordinatorsRepliesAreFew
coordinators_replies_few x m got cost note now from all key number c origin to w path e =
    let own = own_unread _ (unit_own m.station number c origin to got.path (unit_in got.payload) from all key cost note now path e) in
    subst (λ o. length (coordinator_rules.heard_by x m now (hear m.station got cost note now) o).frames ≤ 22) (sym own)
    (replies_few m.station got cost note now number c origin to w e)
