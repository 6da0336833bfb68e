-- What a station hands on of octets that it accepted is octets, from one node where it came over the mesh.
use Rattle.std.proofs.Common.{◌≡◌, ℕ, ◌<◌, Bool, true, false, List, length, Option, Some, None, Result, Ok, Err, refl, subst}
use Rattle.std.specs.Prelude.{if◌then◌else◌, nat_lt, ◌==◌, IfSome}
use Rattle.std.specs.Option.{option_map_or}
use Rattle.std.proofs.lemmas.Option.{same_Some}
use Rattle.plc_base.specs.Fields.{AreOctets}
use Rattle.fragment_buffers.specs.PieceIntake as pieces
use Rattle.loadng_messages.specs.declared.message.Message.{Message}
use Rattle.loadng_messages.specs.declared.message.Message.TheVariants.{Rreq, Rrep, Rerr}
use Rattle.loadng_messages.specs.Reader.{message_in}
use Rattle.mesh_header.specs.declared.unit.Mesh.{Mesh}
use Rattle.mesh_header.specs.declared.unit.Unit.{Unit as MeshUnit}
use Rattle.mesh_header.specs.declared.unit.Unit.TheVariants as units
use Rattle.mesh_header.specs.Grammar.{IsUnit}
use Rattle.mesh_header.specs.Reader.{unit_in}
use Rattle.mesh_header.specs.Laws.{HasOctets}
use Rattle.mesh_header.proofs.Readings.{unit_spelled}
use Rattle.mesh_header.proofs.UnitOctets.{read_octets}
use Rattle.node_rules.specs.Accepted.{Accepted}
use Rattle.node_rules.specs.declared.heard.Heard.{Heard}
use Rattle.node_rules.specs.declared.heard.Heard.TheVariants as heard
use Rattle.node_rules.specs.declared.heard.Path.{Path}
use Rattle.node_rules.specs.declared.heard.Path.TheVariants as paths
use Rattle.node_rules.specs.declared.refusal.Dropped.{Dropped}
use Rattle.node_rules.specs.declared.refusal.Dropped.TheVariants.{BadUnit}
use Rattle.node_rules.specs.Memory.{StationMemory, address_of, next_hop}
use Rattle.node_rules.specs.Plans.{resting}
use Rattle.node_rules.specs.Drafts.{Draft, alone, sealed, sealing, checked, choose, counters_left}
use Rattle.node_rules.specs.HearingRules.{Hearing, dropped, drop_it, ends, rank_over, hear_reply_for, report_by, forward_by, gathered, hear_message}
use Rattle.node_rules.specs.HearingRules.{hear_message_in}
use Rattle.node_rules.specs.HearingRules.{hear_over_mesh, hear_sealed, is_joining, hear_plain, hear_unit, hear_unit_in, hear}
use Rattle.node_rules.specs.MemoryDrafts.{Unread, unread}
use Rattle.node_rules.specs.OctetLaws.{WayFits, UnreadFits, UnreadsAreOctets}

-- the octets that a unit brings, and from one node where it is a command
abbrev pub UnitBrings : MeshUnit → Type 0
UnitBrings (units.Whole mesh octets) = AreOctets octets
UnitBrings (units.Part mesh piece) = AreOctets piece.octets
UnitBrings (units.Carried mesh body) = AreOctets body × (mesh.origin < 0xFFFE)
UnitBrings (units.Local code body) = AreOctets body

pub unit_brings : (payload : List ℕ) (unit : MeshUnit) → AreOctets payload → unit_in payload ≡ Some unit → UnitBrings unit
unit_brings payload unit are e = by_unit unit (read_octets unit payload are e) (unit_spelled unit payload are e).0
  where
    by_unit : (unit : MeshUnit) → HasOctets unit → IsUnit unit → UnitBrings unit
    by_unit (units.Whole mesh octets) o f = o.1
    by_unit (units.Part mesh piece) o f = o.2
    by_unit (units.Carried mesh body) o f = (o.1, f.origin)
    by_unit (units.Local code body) o f = o.1

abbrev Brings : Heard → Type 0
Brings (heard.Joining way body) = AreOctets body × WayFits way
Brings _ = Unit {0}

abbrev AnswerBrings : Result Heard Dropped → Type 0
AnswerBrings (Ok said) = Brings said
AnswerBrings (Err reason) = Unit {0}

module _ (l : StationMemory) (cost note now : ℕ) where
  abbrev Is : Hearing → Type 0
  Is p = AnswerBrings p.answer

  drop_is : (reason : Dropped) → Is (drop_it l reason)
  unfolding resting
  drop_is reason = tt

  rest_is : (said : Heard) (failed : Result Heard Dropped) → Brings said → Is (resting l (Ok said) failed)
  unfolding resting
  rest_is said failed h = h

  checked_is : (fault : Option Dropped) (p : Hearing) → Is p → Is (checked dropped l fault p)
  unfolding checked
  checked_is None p h = h
  checked_is (Some reason) p h = drop_is reason

  choose_is : (test : Bool) (p q : Hearing) → Is p → Is q → Is (choose test p q)
  unfolding choose
  choose_is true p q h k = h
  choose_is false p q h k = k

  ends_is : (d : Draft StationMemory) (said : Heard) → Brings said → Is (ends l d said)
  unfolding sealed
  ends_is d said h = by_test (nat_lt (counters_left l) (length d.units))
    where
      by_test : (b : Bool) → Is (if b then drop_it l dropped.spent else sealing alone dropped d said)
      by_test true = drop_is dropped.spent
      by_test false = h

  message_is : (own by : ℕ) (all : Bool) (message : Message) → Is (hear_message l own by all cost now message)
  message_is own by true (Rreq number c origin dest) = checked_is _ _ (choose_is _ _ _ (choose_is _ _ _ (drop_is _) (ends_is _ _ tt)) (ends_is _ _ tt))
  message_is own by true (Rrep number c origin to) = drop_is _
  message_is own by true (Rerr lost to) = drop_is _
  message_is own by false (Rreq number c origin dest) = drop_is _
  message_is own by false (Rrep number c origin to) = choose_is _ _ _ (checked_is _ _ (ends_is _ _ tt)) (by_hop (next_hop l to))
    where
      by_hop : (hop : Option ℕ) → Is (hear_reply_for l own by origin to (rank_over number c cost) now hop)
      by_hop None = drop_is _
      by_hop (Some hop) = checked_is _ _ (ends_is _ _ tt)
  message_is own by false (Rerr lost to) = ends_is _ _ tt

  message_in_is : (own by : ℕ) (all : Bool) (message : Option Message) → Is (hear_message_in l own by all cost now message)
  message_in_is own by all None = drop_is _
  message_in_is own by all (Some message) = message_is own by all message

  report_is : (mesh : Mesh) (hop : Option ℕ) → Is (report_by l mesh hop)
  report_is mesh None = drop_is _
  report_is mesh (Some hop) = ends_is _ _ tt

  forward_is : (own : ℕ) (mesh : Mesh) (unit : MeshUnit) (hop : Option ℕ) → Is (forward_by l own mesh unit note hop)
  forward_is own mesh unit None = choose_is _ _ _ (drop_is _) (report_is mesh (next_hop l mesh.origin))
  forward_is own mesh unit (Some hop) = choose_is _ _ _ (drop_is _) (ends_is _ _ tt)

  gathered_is : (from : ℕ) (t : pieces.Taking) → Is (gathered l from t)
  unfolding gathered resting
  gathered_is from t = by_outcome t.outcome
    where
      by_outcome : (o : pieces.Outcome) → Is (gathered l from (record { held = t.held; outcome = o }))
      by_outcome pieces.Full = tt
      by_outcome pieces.Held = tt
      by_outcome (pieces.Whole n octets) = tt

  mesh_is : (own : ℕ) (unit : MeshUnit) → UnitBrings unit → Is (hear_over_mesh l own unit note now)
  mesh_is own (units.Whole mesh octets) are = choose_is _ _ _ (rest_is _ _ tt) (forward_is own mesh _ (next_hop l mesh.to))
  mesh_is own (units.Part mesh piece) are = choose_is _ _ _ (gathered_is mesh.origin _) (forward_is own mesh _ (next_hop l mesh.to))
  mesh_is own (units.Carried mesh body) are = choose_is _ _ _ (rest_is _ _ are) (forward_is own mesh _ (next_hop l mesh.to))
  mesh_is own (units.Local code body) are = drop_is _

  sealed_is : (own by : ℕ) (all : Bool) (unit : MeshUnit) → UnitBrings unit → Is (hear_sealed l own by all unit cost note now)
  sealed_is own by all (units.Local code body) are = choose_is _ _ _ (message_in_is own by all (message_in body)) (choose_is _ _ _ (drop_is _) (rest_is _ _ tt))
  sealed_is own by all (units.Whole mesh octets) are = choose_is _ _ _ (drop_is _) (mesh_is own (units.Whole mesh octets) are)
  sealed_is own by all (units.Part mesh piece) are = choose_is _ _ _ (drop_is _) (mesh_is own (units.Part mesh piece) are)
  sealed_is own by all (units.Carried mesh body) are = choose_is _ _ _ (drop_is _) (mesh_is own (units.Carried mesh body) are)

  plain_is : (answer : List ℕ → Heard) → ((body : List ℕ) → AreOctets body → Brings (answer body)) → (unit : MeshUnit) → UnitBrings unit
      → Is (hear_plain l answer (is_joining unit))
  plain_is answer f (units.Local code body) are = by_code (code == 2)
    where
      by_code : (b : Bool) → Is (hear_plain l answer (if b then Some body else None))
      by_code true = rest_is _ _ (f body are)
      by_code false = drop_is _
  plain_is answer f (units.Whole mesh octets) are = drop_is _
  plain_is answer f (units.Part mesh piece) are = drop_is _
  plain_is answer f (units.Carried mesh body) are = drop_is _

  unit_is : (path : Path) (unit : MeshUnit) → UnitBrings unit → Is (hear_unit l path unit cost note now)
  unit_is (paths.Sealed from all key) unit are = by_own (address_of l)
    where
      by_own : (own : Option ℕ) → Is (option_map_or (λ a. hear_sealed l a from all unit cost note now) own (drop_it l BadUnit))
      by_own None = drop_is _
      by_own (Some own) = sealed_is own from all unit are
  unit_is (paths.Up from) unit are = plain_is _ (λ body h. (h, tt)) unit are
  unit_is (paths.Down from) unit are = plain_is _ (λ body h. (h, tt)) unit are

  hear_names : (got : Accepted) → AreOctets got.payload → Is (hear l got cost note now)
  hear_names got are = by_unit (unit_in got.payload) refl
    where
      by_unit : (o : Option MeshUnit) → unit_in got.payload ≡ o → Is (hear_unit_in l got.path o cost note now)
      by_unit None e = drop_is _
      by_unit (Some unit) e = unit_is got.path unit (unit_brings got.payload unit are e)

-- what is handed on unread is octets, from one node where it came over the mesh
unread_fits : (l : StationMemory) (got : Accepted) (cost note now : ℕ) (u : Unread) → AreOctets got.payload → unread (hear l got cost note now).answer ≡ Some u
    → AreOctets u.body × WayFits u.way
unread_fits l got cost note now u are = by_answer (hear l got cost note now).answer (hear_names l cost note now got are)
  where
    by_answer : (r : Result Heard Dropped) → AnswerBrings r → unread r ≡ Some u → AreOctets u.body × WayFits u.way
    by_answer (Err reason) h e = absurd (cc)
    by_answer (Ok (heard.Joining way body)) h e = subst (λ (x : Unread). AreOctets x.body × WayFits x.way) (same_Some _ _ e) h
    by_answer (Ok _) h e = absurd (cc)

pub unreads_fit : UnreadsAreOctets
unreads_fit l got cost note now are = by_unread (unread (hear l got cost note now).answer) refl
  where
    by_unread : (o : Option Unread) → unread (hear l got cost note now).answer ≡ o → IfSome o UnreadFits
    by_unread None e = tt
    by_unread (Some u) e = unread_fits l got cost note now u are e
