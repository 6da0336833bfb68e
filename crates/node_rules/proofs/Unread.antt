-- A joining command is handed on by the station without any change.
use Rattle.std.proofs.Common.{◌≡◌, ℕ, Bool, true, false, List, Option, Some, None, Result, Ok, Err, refl, sym, subst}
use Rattle.std.specs.Prelude.{IsSome}
use Rattle.std.specs.Option.{option_map, option_map_or}
use Rattle.plc_base.specs.Grant.{Granted}
use Rattle.group_keys.specs.KeyRing.{Ring}
use Rattle.mesh_header.specs.declared.unit.Unit.{Unit as MeshUnit}
use Rattle.mesh_header.specs.declared.unit.Unit.TheVariants as units
use Rattle.mesh_header.specs.Reader.{unit_in}
use Rattle.loadng_messages.specs.Reader.{message_in}
use Rattle.node_rules.specs.Accepted.{Accepted}
use Rattle.node_rules.specs.declared.heard.Path.{Path}
use Rattle.node_rules.specs.declared.heard.Path.TheVariants as paths
use Rattle.node_rules.specs.declared.heard.Way.{Way}
use Rattle.node_rules.specs.declared.heard.Way.TheVariants.{Air, Near, Mesh}
use Rattle.node_rules.specs.declared.heard.Heard.{Heard}
use Rattle.node_rules.specs.declared.heard.Heard.TheVariants as heard
use Rattle.node_rules.specs.declared.refusal.Dropped.{Dropped}
use Rattle.node_rules.specs.declared.refusal.Dropped.TheVariants.{BadUnit, Store}
use Rattle.node_rules.specs.Memory.{StationMemory}
use Rattle.node_rules.specs.Plans.{resting}
use Rattle.node_rules.specs.Drafts.{choose}
use Rattle.node_rules.specs.HearingRules.{Hearing, drop_it, hear_command, hear_over_mesh, hear_sealed, hear_plain, is_joining, hear_unit, hear_unit_in, hear}
use Rattle.node_rules.specs.ComposedPlans.{ComesSo}
use Rattle.node_rules.proofs.OwnAnswers.{Own, ByAnswer, choose_own, refused_own, resting_own, forward_own, gathered_own, message_in_own}

module _ (l : StationMemory) where
  -- Where the plan hands on a joining command, it does nothing else.
  pub record HandsOn (p : Hearing) : Type 0 where
    pub rests : (way : Way) (body : List ℕ) → p.answer ≡ Ok (heard.Joining way body) → ComesSo l way × (p ≡ resting l (Ok (heard.Joining way body)) (Err Store))

  from_own : (p : Hearing) → Own p → HandsOn p
  from_own p (ByAnswer q own) = record { rests = λ way body e. absurd (own (heard.Joining way body) e) }

  by_choice : (test : Bool) (p q : Hearing) → HandsOn p → HandsOn q → HandsOn (choose test p q)
  unfolding choose
  by_choice true p q a b = a
  by_choice false p q a b = b

  handed : (w : Way) (b : List ℕ) → ComesSo l w → HandsOn (resting l (Ok (heard.Joining w b)) (Err Store))
  unfolding resting
  handed w b comes = record {
    rests = λ way body e. (subst (λ (k : Way). ComesSo l k) (same_way way body e) comes, λ i. resting l (e i) (Err Store));
  }
    where
      same_way : (way : Way) (body : List ℕ) → ◌≡◌ {A = Result Heard Dropped} (Ok (heard.Joining w b)) (Ok (heard.Joining way body)) → w ≡ way
      same_way way body e = cc

  dropped_on : HandsOn (drop_it l BadUnit)
  dropped_on = from_own _ (refused_own l BadUnit)

  -- a command for the neighbours is handed on, but it is no joining command
  local_on : (by : ℕ) (all : Bool) (code : ℕ) (octets : List ℕ) → HandsOn (resting l (Ok (heard.Local by all code octets)) (Err Store))
  unfolding resting
  local_on by all code octets = record { rests = λ way body e. absurd (cc) }

  command_hands_on : (own by : ℕ) (all : Bool) (code : ℕ) (body : List ℕ) (cost now : ℕ) → HandsOn (hear_command l own by all code body cost now)
  command_hands_on own by all code body cost now =
      by_choice _ _ _ (from_own _ (message_in_own l own by all cost now (message_in body))) (by_choice _ _ _ dropped_on (local_on by all code body))

  mesh_hands_on : IsSome l.ring → (own : ℕ) (unit : MeshUnit) (note now : ℕ) → HandsOn (hear_over_mesh l own unit note now)
  mesh_hands_on ring own (units.Whole mesh octets) note now = from_own _ (choose_own _ _ _ (resting_own l _ tt) (forward_own l own mesh _ note))
  mesh_hands_on ring own (units.Part mesh piece) note now = from_own _ (choose_own _ _ _ (gathered_own l mesh.origin _) (forward_own l own mesh _ note))
  mesh_hands_on ring own (units.Carried mesh body) note now = by_choice _ _ _ (handed (Mesh mesh.origin) body ring) (from_own _ (forward_own l own mesh _ note))
  mesh_hands_on ring own (units.Local code body) note now = dropped_on

  sealed_hands_on : IsSome l.ring → (own by : ℕ) (all : Bool) (unit : MeshUnit) (cost note now : ℕ) → HandsOn (hear_sealed l own by all unit cost note now)
  sealed_hands_on ring own by all (units.Local code body) cost note now = command_hands_on own by all code body cost now
  sealed_hands_on ring own by all (units.Whole mesh octets) cost note now =
      by_choice _ _ _ dropped_on (mesh_hands_on ring own (units.Whole mesh octets) note now)
  sealed_hands_on ring own by all (units.Part mesh piece) cost note now = by_choice _ _ _ dropped_on (mesh_hands_on ring own (units.Part mesh piece) note now)
  sealed_hands_on ring own by all (units.Carried mesh body) cost note now =
      by_choice _ _ _ dropped_on (mesh_hands_on ring own (units.Carried mesh body) note now)

  by_ring : (r : Ring) → l.ring ≡ r → (by : ℕ) (all : Bool) (unit : MeshUnit) (cost note now : ℕ)
      → HandsOn (option_map_or (λ own. hear_sealed l own by all unit cost note now) (option_map (λ (g : Granted). g.address) r) (drop_it l BadUnit))
  by_ring None e by all unit cost note now = dropped_on
  by_ring (Some g) e by all unit cost note now = sealed_hands_on (subst (λ (k : Ring). IsSome k) (sym e) refl) g.address by all unit cost note now

  plain_hands_on : (answer : List ℕ → Heard) (body : Option (List ℕ)) → ((b : List ℕ) → HandsOn (resting l (Ok (answer b)) (Err Store)))
      → HandsOn (hear_plain l answer body)
  plain_hands_on answer None h = dropped_on
  plain_hands_on answer (Some body) h = h body

  unit_hands_on : (path : Path) (unit : MeshUnit) (cost note now : ℕ) → HandsOn (hear_unit l path unit cost note now)
  unit_hands_on (paths.Sealed from all key) unit cost note now = by_ring l.ring refl from all unit cost note now
  unit_hands_on (paths.Up from) unit cost note now = plain_hands_on _ (is_joining unit) (λ b. handed (Air from) b tt)
  unit_hands_on (paths.Down from) unit cost note now = plain_hands_on _ (is_joining unit) (λ b. handed (Near from) b tt)

  unit_in_hands_on : (path : Path) (unit : Option MeshUnit) (cost note now : ℕ) → HandsOn (hear_unit_in l path unit cost note now)
  unit_in_hands_on path None cost note now = dropped_on
  unit_in_hands_on path (Some unit) cost note now = unit_hands_on path unit cost note now

  pub hear_hands_on : (got : Accepted) (cost note now : ℕ) → HandsOn (hear l got cost note now)
  hear_hands_on got cost note now = unit_in_hands_on got.path (unit_in got.payload) cost note now
