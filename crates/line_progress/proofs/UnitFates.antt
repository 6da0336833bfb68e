-- What becomes of a datagram that is to be sent, and of a unit that a node has accepted.
use Rattle.std.proofs.Common.{◌≡◌, ◌≢◌, ℕ, Bool, true, false, List, [], ◌∷◌, length, Option, Some, None, refl, sym, subst}
use Rattle.std.proofs.Common.{◌∙◌}
use Rattle.std.specs.Prelude.{if◌then◌else◌, nat_lt, ◌==◌}
use Rattle.std.specs.Option.{option_map, option_map_or}
use Rattle.std.proofs.lemmas.Bool.{eqb-true, eqb-false}
use Rattle.plc_base.specs.Grant.{Granted}
use Rattle.mesh_header.specs.declared.unit.Mesh.{Mesh}
use Rattle.mesh_header.specs.declared.unit.Unit.{Unit as MeshUnit}
use Rattle.mesh_header.specs.declared.unit.Unit.TheVariants as units
use Rattle.mesh_header.specs.Pieces.{Placed}
use Rattle.loadng_messages.specs.declared.message.Message.TheVariants.{Rerr}
use Rattle.node_rules.specs.declared.heard.Heard.TheVariants as heard
use Rattle.node_rules.specs.declared.refusal.Dropped.TheVariants as drops
use Rattle.node_rules.specs.Drafts.{Draft, alone, choose, counters_left, empty_draft, goes, refused, sealed, sealing}
use Rattle.node_rules.specs.Drafts.{send_message}
use Rattle.node_rules.specs.HearingRules.{drop_it, dropped, forward, forward_by, forwards, gather, hands_up, hear, hear_sealed}
use Rattle.node_rules.specs.HearingRules.{hear_unit_in}
use Rattle.node_rules.specs.HearingRules.{is_spent, report_by}
use Rattle.node_rules.specs.Memory.{StationMemory, next_hop}
use Rattle.node_rules.specs.Plans.{resting}
use Rattle.line_progress.specs.UnitFates.{UnitFate, HandedUp, TakenIn, WentOn, Ended, Reported, UnitsHaveFates}
use Rattle.line_progress.specs.UnitFates.{IsOfDatagram, IsWhole, IsPiece, one_hop_less}

-- # Units

module _ (l : StationMemory) (own : ℕ) (mesh : Mesh) (u : MeshUnit) (note now : ℕ) where
  -- the unit as it goes on
  abbrev on : MeshUnit
  on = one_hop_less u

  by_counters : (away : mesh.to ≢ own) (hop : ℕ) → next_hop l mesh.to ≡ Some hop → (b : Bool)
      → UnitFate l own mesh u note now
      (if b then refused dropped l dropped.spent
      else sealing alone dropped (record (empty_draft l) { units = record { to = hop; unit = on; note = note } ∷ [] }) heard.Relayed)
  unfolding resting empty_draft
  by_counters away hop route true = Ended drops.CounterSpent refl refl refl
  by_counters away hop route false = WentOn hop away route refl refl

  by_hops : (away : mesh.to ≢ own) (hop : ℕ) → next_hop l mesh.to ≡ Some hop → (b : Bool)
      → UnitFate l own mesh u note now (choose b (drop_it l drops.HopsSpent) (forwards l hop on note))
  unfolding choose resting sealed goes empty_draft
  by_hops away hop route true = Ended drops.HopsSpent refl refl refl
  by_hops away hop route false = by_counters away hop route (nat_lt (counters_left l) 1)

  by_report_counters : (d : Draft StationMemory) (b : Bool)
      → UnitFate l own mesh u note now (if b then refused dropped l dropped.spent else sealing alone dropped d heard.Reported)
  unfolding resting
  by_report_counters d true = Ended drops.CounterSpent refl refl refl
  by_report_counters d false = Reported refl

  by_report : (o : Option ℕ) → UnitFate l own mesh u note now (report_by l mesh o)
  unfolding resting sealed
  by_report None = Ended drops.NoRoute refl refl refl
  by_report (Some hop) =
      let d : Draft StationMemory = send_message hop (Rerr mesh.to mesh.origin) (empty_draft l) in
      by_report_counters d (nat_lt (counters_left l) (length d.units))

  by_origin : (b : Bool) → UnitFate l own mesh u note now (choose b (drop_it l drops.NoRoute) (report_by l mesh (next_hop l mesh.origin)))
  unfolding choose resting
  by_origin true = Ended drops.NoRoute refl refl refl
  by_origin false = by_report (next_hop l mesh.origin)

  by_route : mesh.to ≢ own → (o : Option ℕ) → next_hop l mesh.to ≡ o → UnitFate l own mesh u note now (forward_by l own mesh on note o)
  by_route away None e = by_origin (mesh.origin == own)
  by_route away (Some hop) e = by_hops away hop e (is_spent mesh)

  pub unit_forwards : mesh.to ≢ own → UnitFate l own mesh u note now (forward l own mesh on note)
  unit_forwards away = by_route away (next_hop l mesh.to) refl

module _ (l : StationMemory) (own : ℕ) (mesh : Mesh) (note now : ℕ) where
  whole_fate : (octets : List ℕ) (b : Bool) → (mesh.to == own) ≡ b
      → UnitFate l own mesh (units.Whole mesh octets) note now
      (choose b (hands_up l mesh.origin note octets) (forward l own mesh (one_hop_less (units.Whole mesh octets)) note))
  unfolding choose resting
  whole_fate octets true e = HandedUp octets refl (eqb-true _ _ e) refl
  whole_fate octets false e = unit_forwards l own mesh (units.Whole mesh octets) note now (eqb-false _ _ e)

  piece_fate : (piece : Placed) (b : Bool) → (mesh.to == own) ≡ b
      → UnitFate l own mesh (units.Part mesh piece) note now
      (choose b (gather l mesh.origin piece note now) (forward l own mesh (one_hop_less (units.Part mesh piece)) note))
  unfolding choose
  piece_fate piece true e = TakenIn piece refl (eqb-true _ _ e) refl
  piece_fate piece false e = unit_forwards l own mesh (units.Part mesh piece) note now (eqb-false _ _ e)

  by_unit : (from cost : ℕ) (u : MeshUnit) → IsOfDatagram mesh u → UnitFate l own mesh u note now (hear_sealed l own from false u cost note now)
  unfolding choose
  by_unit from cost u (IsWhole octets) = whole_fate octets (mesh.to == own) refl
  by_unit from cost u (IsPiece piece) = piece_fate piece (mesh.to == own) refl

pub unit_fates : UnitsHaveFates
unit_fates l g got from key mesh u cost note now ring path unit of =
    let is : hear l got cost note now ≡ hear_sealed l g.address from false u cost note now =
    (λ i. hear_unit_in l (path i) (unit i) cost note now)
    ∙ (λ i. option_map_or (λ own. hear_sealed l own from false u cost note now) (option_map (λ (g : Granted). g.address) (ring i))
    (drop_it l drops.BadUnit)) in
    subst (λ p. UnitFate l g.address mesh u note now p) (sym is) (by_unit l g.address mesh note now from cost u of)
