-- What a station stores and keeps of a frame that it hears: nothing at the slots of the book, and its address.
use Rattle.std.proofs.Common.{◌≡◌, ℕ, ◌≤◌, Bool, true, false, List, length, Option, Some, None, Result, refl, arith}
use Rattle.std.specs.Prelude.{if◌then◌else◌, unwrap_or}
use Rattle.std.specs.Option.{option_map_or}
use Rattle.store_tables.specs.Writes.{puts_of}
use Rattle.store_tables.proofs.SlotTables.{found}
use Rattle.mesh_header.specs.declared.unit.Mesh.{Mesh as MeshHeader}
use Rattle.mesh_header.specs.declared.unit.Unit.{Unit as MeshUnit}
use Rattle.mesh_header.specs.declared.unit.Unit.TheVariants as units
use Rattle.mesh_header.specs.Reader.{unit_in}
use Rattle.loadng_messages.specs.declared.message.Message.{Message}
use Rattle.loadng_messages.specs.declared.message.Message.TheVariants.{Rreq, Rrep, Rerr}
use Rattle.loadng_messages.specs.Reader.{message_in}
use Rattle.routing_set.specs.declared.entry.RoutingEntry.{RoutingEntry}
use Rattle.routing_set.specs.declared.rank.Rank.{Rank}
use Rattle.routing_set.specs.RoutingSet as routing
use Rattle.fragment_buffers.specs.PieceIntake as pieces
use Rattle.node_rules.specs.Accepted.{Accepted}
use Rattle.node_rules.specs.declared.heard.Path.{Path}
use Rattle.node_rules.specs.declared.heard.Path.TheVariants as paths
use Rattle.node_rules.specs.declared.heard.Heard.{Heard}
use Rattle.node_rules.specs.declared.refusal.Dropped.{Dropped}
use Rattle.node_rules.specs.declared.refusal.Dropped.TheVariants as drops
use Rattle.node_rules.specs.Memory.{StationMemory, address_of, next_hop}
use Rattle.node_rules.specs.Plans.{resting}
use Rattle.node_rules.specs.Drafts.{Draft, alone, empty_draft, with_rank, with_own_number, with_routing_by, goes, leave, refused, sealing, sealed, checked}
use Rattle.node_rules.specs.Drafts.{choose}
use Rattle.node_rules.specs.HearingRules.{Hearing, dropped, drop_it, hear_request, hear_reply_for, hear_reply, hear_error, pass_error_on, loses, forward_by}
use Rattle.node_rules.specs.HearingRules.{forward}
use Rattle.node_rules.specs.HearingRules.{report_by, gathered, hear_message, hear_message_in, hear_command, hear_over_mesh, hear_sealed, hear_plain, is_joining}
use Rattle.node_rules.specs.HearingRules.{hear_unit, hear_unit_in, hear}
use Rattle.coordinator.proofs.Within.{AreBelow, KeepsHome, append_below, number_below, counter_below}

-- the plan keeps the address, and puts below the book
pub data Kept : Hearing → Type 0 where
  ByPlan : (p : Hearing) → KeepsHome p → Kept p

pub kept_home : (p : Hearing) → Kept p → KeepsHome p
kept_home p (ByPlan q k) = k

-- so does what is done so far
data Drafted : Draft StationMemory → Type 0 where
  ByDraft : (d : Draft StationMemory) → AreBelow d.puts → address_of d.memory ≡ Some 0 → Drafted d

-- # Words

goes_drafted : (to : ℕ) (unit : MeshUnit) (note : ℕ) (d : Draft StationMemory) → Drafted d → Drafted (goes to unit note d)
unfolding goes
goes_drafted to unit note d (ByDraft e below home) = ByDraft _ below home

number_drafted : (d : Draft StationMemory) → Drafted d → Drafted (with_own_number d)
unfolding with_own_number
number_drafted d (ByDraft e below home) = ByDraft _ (append_below e.puts _ below (number_below e.memory.own_number)) home

leave_drafted : (own dest hop : ℕ) (d : Draft StationMemory) → Drafted d → Drafted (leave own dest hop d)
unfolding leave
leave_drafted own dest hop d (ByDraft e below home) = ByDraft _ below home

routing_drafted : (change : routing.Routing → routing.Routing) (d : Draft StationMemory) → Drafted d → Drafted (with_routing_by change d)
unfolding with_routing_by
routing_drafted change d (ByDraft e below home) = ByDraft _ below home

-- the place of a rank in a table that is not too long
place_low : (entries : List RoutingEntry) (key : ℕ) → length entries ≤ 64 → unwrap_or (routing.place_of entries key) (length entries) ≤ 64
place_low entries key short = by_place (routing.place_of entries key) refl
  where
    blank : RoutingEntry
    blank = record { address = 0; rank = record { number = 0; cost = 0 }; route = None }

    by_place : (o : Option ℕ) → routing.place_of entries key ≡ o → unwrap_or o (length entries) ≤ 64
    by_place None at = short
    by_place (Some place) at = let within = (found routing.ranks entries key place blank at).0 in omega (arith, within, short)

floors_below : (floors : List ℕ) (gone : Option RoutingEntry) → AreBelow (puts_of (routing.floors_due floors gone))
floors_below floors None = tt
floors_below floors (Some e) = by_rise (routing.raises floors e)
  where
    by_rise : (b : Bool) → AreBelow (puts_of (if b then Some (routing.floors_write (routing.raised floors e)) else None))
    by_rise true = (omega arith, tt)
    by_rise false = tt

offer_below : (r : routing.Routing) (dest : ℕ) (rank : Rank) (next now : ℕ) → length r.entries ≤ 64 → AreBelow (routing.offer_writes r dest rank next now)
unfolding routing.entry_writes
offer_below r dest rank next now short =
    let gone = routing.forgotten r dest now in
    let low = place_low r.entries (option_map_or (λ (e : RoutingEntry). e.address) gone dest) short in
    append_below (puts_of (routing.floors_due r.floors gone)) _ (floors_below r.floors gone) (omega (arith, low), tt)

module _ (l : StationMemory) (home : address_of l ≡ Some 0) (short : length l.routing.entries ≤ 64) where
  empty_drafted : Drafted (empty_draft l)
  unfolding empty_draft
  empty_drafted = ByDraft _ tt home

  rank_drafted : (dest : ℕ) (rank : Rank) (by now : ℕ) → Drafted (with_rank dest rank by now (empty_draft l))
  unfolding with_rank empty_draft
  rank_drafted dest rank by now = ByDraft _ (offer_below l.routing dest rank by now short) home

  -- # Plans

  refused_kept : (reason : Dropped) → Kept (refused dropped l reason)
  unfolding resting
  refused_kept reason = ByPlan _ (record { below = tt; home = home })

  resting_kept : (a f : Result Heard Dropped) → Kept (resting l a f)
  unfolding resting
  resting_kept a f = ByPlan _ (record { below = tt; home = home })

  checked_kept : (fault : Option Dropped) (p : Hearing) → Kept p → Kept (checked dropped l fault p)
  unfolding checked
  checked_kept None p k = k
  checked_kept (Some reason) p k = refused_kept reason

  sealing_kept : (d : Draft StationMemory) (h : Heard) → Drafted d → Kept (sealing alone dropped d h)
  sealing_kept d h (ByDraft e below at) = ByPlan _ (record { below = append_below e.puts _ below (counter_below e.memory.counter (length e.units)); home = at })

  sealed_when : (test : Bool) (d : Draft StationMemory) (h : Heard) → Drafted d
      → Kept (if test then refused dropped l dropped.spent else sealing alone dropped d h)
  sealed_when true d h k = refused_kept dropped.spent
  sealed_when false d h k = sealing_kept d h k

  sealed_kept : (d : Draft StationMemory) (h : Heard) → Drafted d → Kept (sealed alone dropped l d h)
  unfolding sealed
  sealed_kept d h k = sealed_when _ d h k

choose_kept : (test : Bool) (p q : Hearing) → Kept p → Kept q → Kept (choose test p q)
unfolding choose
choose_kept true p q a b = a
choose_kept false p q a b = b

module _ (l : StationMemory) (home : address_of l ≡ Some 0) (short : length l.routing.entries ≤ 64) where
  -- a rank that is offered, and what waits leaves
  offered_drafted : (own dest : ℕ) (rank : Rank) (by now : ℕ) → Drafted (leave own dest by (with_rank dest rank by now (empty_draft l)))
  offered_drafted own dest rank by now = leave_drafted own dest by _ (rank_drafted l home short dest rank by now)

  drop : (reason : Dropped) → Kept (refused dropped l reason)
  drop reason = refused_kept l home short reason

  request_kept : (own by origin dest : ℕ) (rank : Rank) (now : ℕ) → Kept (hear_request l own by origin dest rank now)
  request_kept own by origin dest rank now =
      checked_kept l home short _ _ (choose_kept _ _ _
      (choose_kept _ _ _ (drop _) (sealed_kept l home short _ _
      (goes_drafted _ _ _ _ (leave_drafted _ _ _ _ (number_drafted _ (rank_drafted l home short origin rank by now))))))
      (sealed_kept l home short _ _ (goes_drafted _ _ _ _ (offered_drafted own origin rank by now))))

  reply_for_kept : (own by origin to : ℕ) (rank : Rank) (now : ℕ) (hop : Option ℕ) → Kept (hear_reply_for l own by origin to rank now hop)
  reply_for_kept own by origin to rank now None = drop _
  reply_for_kept own by origin to rank now (Some hop) =
      checked_kept l home short _ _ (sealed_kept l home short _ _ (goes_drafted _ _ _ _ (offered_drafted own origin rank by now)))

  reply_kept : (own by origin to : ℕ) (rank : Rank) (now : ℕ) → Kept (hear_reply l own by origin to rank now)
  reply_kept own by origin to rank now =
      choose_kept _ _ _ (checked_kept l home short _ _ (sealed_kept l home short _ _ (offered_drafted own origin rank by now)))
      (reply_for_kept own by origin to rank now (next_hop l to))

  sends_drafted : (lost to by : ℕ) (hop : Option ℕ) → Drafted (pass_error_on lost to hop (loses lost by l))
  sends_drafted lost to by None = routing_drafted _ _ (empty_drafted l home short)
  sends_drafted lost to by (Some hop) = goes_drafted _ _ _ _ (routing_drafted _ _ (empty_drafted l home short))

  error_kept : (own by lost to : ℕ) → Kept (hear_error l own by lost to)
  error_kept own by lost to = sealed_kept l home short _ _ (sends_drafted lost to by _)

  report_kept : (mesh : MeshHeader) (hop : Option ℕ) → Kept (report_by l mesh hop)
  report_kept mesh None = drop _
  report_kept mesh (Some hop) = sealed_kept l home short _ _ (goes_drafted _ _ _ _ (empty_drafted l home short))

  forward_by_kept : (own : ℕ) (mesh : MeshHeader) (unit : MeshUnit) (note : ℕ) (hop : Option ℕ) → Kept (forward_by l own mesh unit note hop)
  forward_by_kept own mesh unit note None = choose_kept _ _ _ (drop _) (report_kept mesh (next_hop l mesh.origin))
  forward_by_kept own mesh unit note (Some hop) = choose_kept _ _ _ (drop _) (sealed_kept l home short _ _ (goes_drafted _ _ _ _ (empty_drafted l home short)))

  forward_kept : (own : ℕ) (mesh : MeshHeader) (unit : MeshUnit) (note : ℕ) → Kept (forward l own mesh unit note)
  forward_kept own mesh unit note = forward_by_kept own mesh unit note (next_hop l mesh.to)

  gathered_kept : (from : ℕ) (t : pieces.Taking) → Kept (gathered l from t)
  unfolding gathered resting
  gathered_kept from t = ByPlan _ (record { below = tt; home = home })

  message_kept : (own by : ℕ) (all : Bool) (cost now : ℕ) (message : Message) → Kept (hear_message l own by all cost now message)
  message_kept own by true cost now (Rreq number c origin dest) = request_kept own by origin dest _ now
  message_kept own by true cost now (Rrep number c origin to) = drop _
  message_kept own by true cost now (Rerr lost to) = drop _
  message_kept own by false cost now (Rreq number c origin dest) = drop _
  message_kept own by false cost now (Rrep number c origin to) = reply_kept own by origin to _ now
  message_kept own by false cost now (Rerr lost to) = error_kept own by lost to

  message_in_kept : (own by : ℕ) (all : Bool) (cost now : ℕ) (message : Option Message) → Kept (hear_message_in l own by all cost now message)
  message_in_kept own by all cost now None = drop _
  message_in_kept own by all cost now (Some message) = message_kept own by all cost now message

  command_kept : (own by : ℕ) (all : Bool) (code : ℕ) (body : List ℕ) (cost now : ℕ) → Kept (hear_command l own by all code body cost now)
  command_kept own by all code body cost now =
      choose_kept _ _ _ (message_in_kept own by all cost now (message_in body)) (choose_kept _ _ _ (drop _) (resting_kept l home short _ _))

  mesh_kept : (own : ℕ) (unit : MeshUnit) (note now : ℕ) → Kept (hear_over_mesh l own unit note now)
  mesh_kept own (units.Whole mesh octets) note now = choose_kept _ _ _ (resting_kept l home short _ _) (forward_kept own mesh _ note)
  mesh_kept own (units.Part mesh piece) note now = choose_kept _ _ _ (gathered_kept mesh.origin _) (forward_kept own mesh _ note)
  mesh_kept own (units.Carried mesh body) note now = choose_kept _ _ _ (resting_kept l home short _ _) (forward_kept own mesh _ note)
  mesh_kept own (units.Local code body) note now = drop _

  sealed_unit_kept : (own by : ℕ) (all : Bool) (unit : MeshUnit) (cost note now : ℕ) → Kept (hear_sealed l own by all unit cost note now)
  sealed_unit_kept own by all (units.Local code body) cost note now = command_kept own by all code body cost now
  sealed_unit_kept own by all (units.Whole mesh octets) cost note now = choose_kept _ _ _ (drop _) (mesh_kept own (units.Whole mesh octets) note now)
  sealed_unit_kept own by all (units.Part mesh piece) cost note now = choose_kept _ _ _ (drop _) (mesh_kept own (units.Part mesh piece) note now)
  sealed_unit_kept own by all (units.Carried mesh body) cost note now = choose_kept _ _ _ (drop _) (mesh_kept own (units.Carried mesh body) note now)

  plain_kept : (answer : List ℕ → Heard) (body : Option (List ℕ)) → Kept (hear_plain l answer body)
  plain_kept answer None = drop _
  plain_kept answer (Some body) = resting_kept l home short _ _

  addressed_kept : (own : Option ℕ) (by : ℕ) (all : Bool) (unit : MeshUnit) (cost note now : ℕ)
      → Kept (option_map_or (λ a. hear_sealed l a by all unit cost note now) own (drop_it l drops.BadUnit))
  addressed_kept None by all unit cost note now = drop _
  addressed_kept (Some own) by all unit cost note now = sealed_unit_kept own by all unit cost note now

  unit_kept : (path : Path) (unit : MeshUnit) (cost note now : ℕ) → Kept (hear_unit l path unit cost note now)
  unit_kept (paths.Sealed from all key) unit cost note now = addressed_kept (address_of l) from all unit cost note now
  unit_kept (paths.Up from) unit cost note now = plain_kept _ (is_joining unit)
  unit_kept (paths.Down from) unit cost note now = plain_kept _ (is_joining unit)

  unit_in_kept : (path : Path) (unit : Option MeshUnit) (cost note now : ℕ) → Kept (hear_unit_in l path unit cost note now)
  unit_in_kept path None cost note now = drop _
  unit_in_kept path (Some unit) cost note now = unit_kept path unit cost note now

  pub hear_keeps : (got : Accepted) (cost note now : ℕ) → KeepsHome (hear l got cost note now)
  hear_keeps got cost note now = kept_home _ (unit_in_kept got.path (unit_in got.payload) cost note now)
