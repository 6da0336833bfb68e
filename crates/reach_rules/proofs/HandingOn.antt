-- A station hands on no frame as a command for the neighbours but those that carry one: what it answers by its own rules hands nothing on.
use Rattle.std.proofs.Common.{◌≡◌, ℕ, Bool, true, false, List, Option, Some, None, Ok, Err}
use Rattle.std.specs.Prelude.{if◌then◌else◌}
use Rattle.std.specs.Option.{option_map_or}
use Rattle.mesh_header.specs.declared.unit.Unit.{Unit as MeshUnit}
use Rattle.mesh_header.specs.declared.unit.Unit.TheVariants as units
use Rattle.mesh_header.specs.Reader.{unit_in}
use Rattle.loadng_messages.specs.Reader.{message_in}
use Rattle.node_rules.specs.declared.heard.Path.{Path}
use Rattle.node_rules.specs.declared.heard.Path.TheVariants as paths
use Rattle.node_rules.specs.declared.heard.Way.{Way}
use Rattle.node_rules.specs.declared.heard.Way.TheVariants.{Air, Near, Mesh}
use Rattle.node_rules.specs.declared.heard.Heard.TheVariants as heard
use Rattle.node_rules.specs.declared.refusal.Dropped.TheVariants.{BadUnit, Store}
use Rattle.node_rules.specs.Memory.{StationMemory, address_of}
use Rattle.node_rules.specs.Plans.{resting}
use Rattle.node_rules.specs.Drafts.{choose}
use Rattle.node_rules.specs.HearingRules.{Hearing, drop_it, hear_sealed, hear_plain, is_joining, hear_unit_in}
use Rattle.reach_rules.specs.FurtherReceptions.{NeighbourCommand, command_with, command_on}
use Rattle.reach_rules.specs.Laws.{OnlyCommandsAreHandedOn}
use Rattle.node_rules.proofs.OwnAnswers.{Own, ByAnswer, choose_own, refused_own, resting_own, forward_own, gathered_own, message_in_own}

module _ (l : StationMemory) where
  -- Where the plan hands on a command for the neighbours, the frame carries it.
  record HandsOn (carried : Option NeighbourCommand) (p : Hearing) : Type 0 where
    carries : (from : ℕ) (all : Bool) (code : ℕ) (body : List ℕ) → p.answer ≡ Ok (heard.Local from all code body)
        → carried ≡ Some (record { from = from; to_all = all; code = code; body = body })

  by_own : (carried : Option NeighbourCommand) (p : Hearing) → Own p → HandsOn carried p
  by_own carried p (ByAnswer q own) = record { carries = λ from all code body e. absurd (own (heard.Local from all code body) e) }

  by_choice : (carried : Option NeighbourCommand) (test : Bool) (p q : Hearing) → HandsOn carried p → HandsOn carried q → HandsOn carried (choose test p q)
  unfolding choose
  by_choice carried true p q a b = a
  by_choice carried false p q a b = b

  dropped_on : (carried : Option NeighbourCommand) → HandsOn carried (drop_it l BadUnit)
  dropped_on carried = by_own carried _ (refused_own l BadUnit)

  joining_on : (carried : Option NeighbourCommand) (way : Way) (octets : List ℕ) → HandsOn carried (resting l (Ok (heard.Joining way octets)) (Err Store))
  unfolding resting
  joining_on carried way octets = record { carries = λ from all code body e. absurd (cc) }

  handed : (by : ℕ) (t : Bool) (k : ℕ) (octets : List ℕ)
      → HandsOn (Some (record { from = by; to_all = t; code = k; body = octets })) (resting l (Ok (heard.Local by t k octets)) (Err Store))
  unfolding resting
  handed by t k octets = record { carries = λ from all code body e. cc }

  by_code : (by : ℕ) (t : Bool) (k : ℕ) (octets : List ℕ) (one two : Bool) (p : Hearing) → Own p
      → HandsOn (if one then None else (if two then None else Some (record { from = by; to_all = t; code = k; body = octets })))
      (choose one p (choose two (drop_it l BadUnit) (resting l (Ok (heard.Local by t k octets)) (Err Store))))
  unfolding choose
  by_code by t k octets true two p own = by_own _ p own
  by_code by t k octets false true p own = dropped_on _
  by_code by t k octets false false p own = handed by t k octets

  sealed_on : (own by : ℕ) (t : Bool) (unit : MeshUnit) (cost note now : ℕ)
      → HandsOn (command_with by t (Some unit)) (hear_sealed l own by t unit cost note now)
  sealed_on own by t (units.Local code body) cost note now = by_code by t code body _ _ _ (message_in_own l own by t cost now (message_in body))
  sealed_on own by t (units.Whole mesh octets) cost note now =
      by_own _ _ (choose_own _ _ _ (refused_own l BadUnit) (choose_own _ _ _ (resting_own l _ tt) (forward_own l own mesh _ note)))
  sealed_on own by t (units.Part mesh piece) cost note now =
      by_own _ _ (choose_own _ _ _ (refused_own l BadUnit) (choose_own _ _ _ (gathered_own l mesh.origin _) (forward_own l own mesh _ note)))
  sealed_on own by t (units.Carried mesh body) cost note now =
      by_choice _ _ _ _ (dropped_on _) (by_choice _ _ _ _ (joining_on _ (Mesh mesh.origin) body) (by_own _ _ (forward_own l own mesh _ note)))

  by_address : (address : Option ℕ) (by : ℕ) (t : Bool) (unit : MeshUnit) (cost note now : ℕ)
      → HandsOn (command_with by t (Some unit)) (option_map_or (λ own. hear_sealed l own by t unit cost note now) address (drop_it l BadUnit))
  by_address None by t unit cost note now = dropped_on _
  by_address (Some own) by t unit cost note now = sealed_on own by t unit cost note now

  plain_on : (way : Way) (carried : Option NeighbourCommand) (body : Option (List ℕ)) → HandsOn carried (hear_plain l (λ octets. heard.Joining way octets) body)
  plain_on way carried None = dropped_on carried
  plain_on way carried (Some octets) = joining_on carried way octets

  unit_on : (path : Path) (unit : Option MeshUnit) (cost note now : ℕ) → HandsOn (command_on path unit) (hear_unit_in l path unit cost note now)
  unit_on (paths.Sealed from all key) None cost note now = dropped_on _
  unit_on (paths.Sealed from all key) (Some unit) cost note now = by_address (address_of l) from all unit cost note now
  unit_on (paths.Up from) None cost note now = dropped_on _
  unit_on (paths.Up from) (Some unit) cost note now = plain_on (Air from) _ (is_joining unit)
  unit_on (paths.Down from) None cost note now = dropped_on _
  unit_on (paths.Down from) (Some unit) cost note now = plain_on (Near from) _ (is_joining unit)

pub only_commands : OnlyCommandsAreHandedOn
only_commands l got cost note now from all code body e = (unit_on l got.path (unit_in got.payload) cost note now).carries from all code body e
