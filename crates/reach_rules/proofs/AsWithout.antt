-- Where further reach is off, nodes do as they do without it.
use Rattle.std.proofs.Common.{◌≡◌, ℕ, Bool, true, false, List, [], Option, Some, None, Result, Ok, Err, refl, ap, ◌∙◌}
use Rattle.std.specs.Prelude.{if◌then◌else◌}
use Rattle.std.specs.Option.{option_map_or}
use Rattle.std.specs.Ordering.{nat_cmp}
use Rattle.std.specs.FinMap.{empty, get-empty}
use Rattle.store_tables.specs.SlotTables as slots
use Rattle.store_tables.proofs.OpenedTables.{opened_empty}
use Rattle.mesh_header.specs.declared.unit.Unit.{Unit as MeshUnit}
use Rattle.mesh_header.specs.declared.unit.Unit.TheVariants as units
use Rattle.mesh_header.specs.Reader.{unit_in}
use Rattle.neighbour_checks.specs.Acks.{ack_in}
use Rattle.neighbour_checks.specs.Neighbours.{Neighbours, is_awaited, acked_after}
use Rattle.store_tables.specs.Numberings.{counting_at, counting_from}
use Rattle.broadcast_log.specs.NextNumber.{numbering_in, limit_at, limit_in, limit_slot}
use Rattle.broadcast_log.specs.OriginMarks.{marks}
use Rattle.pan_discovery.specs.History.{Scanned}
use Rattle.pan_discovery.specs.Reader.{discovery_in}
use Rattle.pan_discovery.specs.declared.message.Discovery.{Discovery}
use Rattle.pan_discovery.specs.declared.message.Discovery.TheVariants as frames
use Rattle.node_rules.specs.Accepted.{Accepted}
use Rattle.node_rules.specs.declared.heard.Path.{Path}
use Rattle.node_rules.specs.declared.heard.Path.TheVariants as paths
use Rattle.node_rules.specs.declared.heard.Heard.TheVariants as heard
use Rattle.node_rules.specs.declared.refusal.Dropped.{Dropped}
use Rattle.node_rules.specs.declared.refusal.Dropped.TheVariants as drops
use Rattle.node_rules.specs.Memory.{StationMemory, Role, address_of}
use Rattle.node_rules.specs.Plans.{Plan, resting}
use Rattle.node_rules.specs.Drafts.{StationPlace, choose}
use Rattle.node_rules.specs.HearingRules.{Hearing, drop_it, hear_sealed, hear_unit_in}
use Rattle.node_rules.specs.MemoryDrafts.{in_memory}
use Rattle.node_rules.specs.Meters as meters
use Rattle.node_rules.specs.Coordinators as coordinator_rules
use Rattle.reach_rules.specs.declared.heard.CommandHeard.TheVariants.{Acked}
use Rattle.reach_rules.specs.declared.refusal.DiscoveryDropped.TheVariants as dropped
use Rattle.reach_rules.specs.declared.refusal.ReachDropped.TheVariants.{NotAwaited}
use Rattle.reach_rules.specs.ReachingNodes.{Reaching, with_checks, remembers}
use Rattle.reach_rules.specs.ReachingNodes as reaching
use Rattle.reach_rules.specs.CheckedReplies.{hear_acknowledgement, hear_acknowledgement_in}
use Rattle.reach_rules.specs.Beacons.{hear_discovery_in, cost_to_coordinator, beacons, is_foreign, takes_beacons, takes_beacon}
use Rattle.reach_rules.specs.Beacons as discovering
use Rattle.reach_rules.specs.FurtherReceptions.{NeighbourCommand, command_of, command_on, hear_by}
use Rattle.reach_rules.specs.Laws.{DoesAsWithout, HearsAsWithout, NodesHearAsWithout, CommandsAreHandedOn, NothingIsAwaited, NobodyIsListedByTime}
use Rattle.reach_rules.specs.Laws.{NoScanHearsNothing, AnEmptyStoreGivesNothing, unawaited}

-- # Frames

by_command : {M H : Type 0} (h : StationPlace M) (x : Reaching M) (got : Accepted) (now : ℕ) (p : Plan M (Result H Dropped)) (c : Option NeighbourCommand)
    → c ≡ None → DoesAsWithout x p (hear_by h false x got now p c)
unfolding choose
by_command h x got now p None e = record { answer = refl; failed = refl; puts = refl; memory = refl; beside = refl; frames = refl; made = refl; opened = refl }
by_command h x got now p (Some c) e = absurd (cc)

pub hears : {M H : Type 0} → HearsAsWithout M H
hears h x got now p e = by_command h x got now p (command_of got) e

pub nodes_hear : NodesHearAsWithout
nodes_hear x got cost note now e = (
  λ own. by_command in_memory x got now (meters.hear_meter own x.memory got cost note now) (command_of got) e,
  λ own. by_command in_memory x got now (coordinator_rules.hear_coordinator own x.memory got cost note now) (command_of got) e,
)

-- # Commands that are handed on

module _ (l : StationMemory) (c : NeighbourCommand) where
  abbrev unread : Hearing
  unread = resting l (Ok (heard.Local c.from c.to_all c.code c.body)) (Err drops.Store)

  by_code : (from : ℕ) (all : Bool) (code : ℕ) (body : List ℕ) (p q : Hearing) (one two : Bool)
      → (if one then None else (if two then None else Some (record { from = from; to_all = all; code = code; body = body }))) ≡ Some c
      → choose one p (choose two q (resting l (Ok (heard.Local from all code body)) (Err drops.Store))) ≡ unread
  unfolding choose
  by_code from all code body p q true two e = absurd (cc)
  by_code from all code body p q false true e = absurd (cc)
  by_code from all code body p q false false e = cc

  by_path : (own : ℕ) (path : Path) (unit : Option MeshUnit) (cost note now : ℕ) → address_of l ≡ Some own → command_on path unit ≡ Some c
      → hear_unit_in l path unit cost note now ≡ unread
  by_path own (paths.Sealed from all key) None cost note now a e = absurd (cc)
  by_path own (paths.Sealed from all key) (Some (units.Whole mesh octets)) cost note now a e = absurd (cc)
  by_path own (paths.Sealed from all key) (Some (units.Part mesh piece)) cost note now a e = absurd (cc)
  by_path own (paths.Sealed from all key) (Some (units.Carried mesh body)) cost note now a e = absurd (cc)
  by_path own (paths.Sealed from all key) (Some (units.Local code body)) cost note now a e =
      ap (λ address. option_map_or (λ own. hear_sealed l own from all (units.Local code body) cost note now) address (drop_it l drops.BadUnit)) a
      ∙ by_code from all code body _ _ _ _ e
  by_path own (paths.Up from) unit cost note now a e = absurd (cc)
  by_path own (paths.Down from) unit cost note now a e = absurd (cc)

pub handed_on : CommandsAreHandedOn
handed_on l own got c cost note now a e = by_path l c own got.path (unit_in got.payload) cost note now a e

-- # Checks that are off

pub nothing_is_awaited : {M : Type 0} → NothingIsAwaited M
unfolding choose
nothing_is_awaited x from all body none = by_all all
  where
    by_reading : (ack : Option (ℕ × ℕ)) → hear_acknowledgement_in x from ack ≡ reaching.drop_it x (unawaited false ack)
    by_reading None = refl
    by_reading (Some (number, origin)) =
        ap (λ (s : Neighbours). choose (is_awaited s from number origin) (remembers (with_checks (acked_after x.beside.checks from number origin) x) Acked)
        (reaching.drop_it x NotAwaited)) none

    by_all : (b : Bool) → hear_acknowledgement x from b body ≡ reaching.drop_it x (unawaited b (ack_in body))
    by_all true = refl
    by_all false = by_reading (ack_in body)

pub nobody_is_listed : NobodyIsListedByTime
nobody_is_listed now b none = rw none refl

-- # A scan that is off

module _ (role : Role) (l : StationMemory) (scan : Scanned) where
  beacons_stay : (own : ℕ) (cost : Option ℕ) → (beacons scan own cost).scan ≡ scan
  beacons_stay own None = refl
  beacons_stay own (Some cost) = refl

  request_stays : (address : Option ℕ)
      → (option_map_or (λ own. beacons scan own (cost_to_coordinator role l)) address (discovering.stays scan (Err dropped.NotForMe))).scan ≡ scan
  request_stays None = refl
  request_stays (Some own) = beacons_stay own (cost_to_coordinator role l)

  taken_stays : (t : Bool) (from cost link : ℕ) → scan.scanning ≡ false
      → (if t then takes_beacon scan from cost link else discovering.stays scan (Err dropped.NotScanning)).scan ≡ scan
  taken_stays true from cost link off = rw off refl
  taken_stays false from cost link off = refl

  beacon_stays : (foreign t : Bool) (from cost link : ℕ) → scan.scanning ≡ false
      → (if foreign then discovering.stays scan (Err dropped.NotForMe)
      else (if t then takes_beacon scan from cost link else discovering.stays scan (Err dropped.NotScanning))).scan ≡ scan
  beacon_stays true t from cost link off = refl
  beacon_stays false t from cost link off = taken_stays t from cost link off

  discovery_stays : (message : Option Discovery) (link : ℕ) → scan.scanning ≡ false → (hear_discovery_in role l scan message link).scan ≡ scan
  discovery_stays None link off = refl
  discovery_stays (Some (frames.Request seq)) link off = request_stays (address_of l)
  discovery_stays (Some (frames.Beacon seq pan from cost)) link off = beacon_stays (is_foreign l pan from) (takes_beacons l scan) from cost link off

pub no_scan : NoScanHearsNothing
no_scan role l scan octets link off = discovery_stays role l scan (discovery_in octets) link off

-- # A store without records

pub nothing_stored : AnEmptyStoreGivesNothing
nothing_stored =
    let number : numbering_in empty ≡ Ok (counting_at 0) = ap (λ o. counting_from limit_at (limit_in o)) (get-empty nat_cmp limit_slot) in
    let origins : slots.opened marks empty ≡ Ok [] = opened_empty marks in
    rw (number, origins) refl
