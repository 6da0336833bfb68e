-- What a station makes of a frame that it accepted, as far as datagrams are handed up and gathered: by the rules, one after the other.
use Rattle.std.proofs.Common.{◌≡◌, ℕ, Bool, true, false, List, length, Option, Some, None, Result, Ok, Err, refl}
use Rattle.std.specs.Prelude.{if◌then◌else◌, nat_lt, ◌==◌}
use Rattle.std.specs.Option.{option_map_or}
use Rattle.std.proofs.lemmas.Bool.{eqb-true}
use Rattle.plc_base.specs.declared.key.Key.{Key}
use Rattle.mesh_header.specs.declared.unit.Mesh.{Mesh}
use Rattle.mesh_header.specs.declared.unit.Unit.{Unit as MeshUnit}
use Rattle.mesh_header.specs.declared.unit.Unit.TheVariants as units
use Rattle.mesh_header.specs.Pieces.{Placed}
use Rattle.mesh_header.specs.Reader.{unit_in}
use Rattle.loadng_messages.specs.declared.message.Message.{Message}
use Rattle.loadng_messages.specs.declared.message.Message.TheVariants.{Rreq, Rrep, Rerr}
use Rattle.loadng_messages.specs.Reader.{message_in}
use Rattle.routing_set.specs.declared.rank.Rank.{Rank}
use Rattle.node_rules.specs.Accepted.{Accepted}
use Rattle.node_rules.specs.declared.heard.Heard.{Heard}
use Rattle.node_rules.specs.declared.heard.Heard.TheVariants as heard
use Rattle.node_rules.specs.declared.heard.Path.{Path}
use Rattle.node_rules.specs.declared.heard.Path.TheVariants as paths
use Rattle.node_rules.specs.declared.refusal.Dropped.{Dropped}
use Rattle.node_rules.specs.declared.refusal.Dropped.TheVariants as drops
use Rattle.node_rules.specs.Drafts.{Draft, alone, choose, checked, counters_left, empty_draft, goes, leave, refused, sealed, sealing}
use Rattle.node_rules.specs.Drafts.{numbers_spent, with_own_number, with_rank, with_routing_by}
use Rattle.node_rules.specs.Frames.{to_all}
use Rattle.node_rules.specs.HearingRules.{Hearing, drop_it, dropped, ends, forward, forward_by, gather, hands_up, hear, hear_command}
use Rattle.node_rules.specs.HearingRules.{hear_message, hear_message_in}
use Rattle.node_rules.specs.HearingRules.{hear_over_mesh, hear_plain, hear_reply, hear_reply_for, hear_request, hear_sealed, hear_unit, hear_unit_in}
use Rattle.node_rules.specs.HearingRules.{is_joining}
use Rattle.node_rules.specs.HearingRules.{is_spent}
use Rattle.node_rules.specs.HearingRules.{error_hop, loses, offers, offers_numbered, pass_error_on, rank_fault, rank_over, report_by}
use Rattle.node_rules.specs.Memory.{StationMemory, address_of, next_hop}
use Rattle.node_rules.specs.Plans.{resting}

-- # Plans

-- whether a datagram is handed up
abbrev pub hands_up_one : Result Heard Dropped → Bool
hands_up_one (Ok (heard.Up origin note octets)) = true
hands_up_one _ = false

module _ (l : StationMemory) where
  -- No datagram is handed up, and all reassemblies are as they were.
  pub record IsQuiet (p : Hearing) : Type 0 where
    pub same : p.memory.reassemblies ≡ l.reassemblies
    pub none : hands_up_one p.answer ≡ false

  -- what is made of a unit over the mesh: a datagram for the node is handed up, a piece for it taken, and all else is quiet
  pub data Made (own : ℕ) (u : MeshUnit) (note now : ℕ) (p : Hearing) : Type 0 where
    Quietly : IsQuiet p → Made own u note now p
    HandsUp : (mesh : Mesh) (octets : List ℕ) → u ≡ units.Whole mesh octets → mesh.to ≡ own → p ≡ hands_up l mesh.origin note octets
        → Made own u note now p
    Takes : (mesh : Mesh) (piece : Placed) → u ≡ units.Part mesh piece → mesh.to ≡ own → p ≡ gather l mesh.origin piece note now → Made own u note now p

  -- what is made of a frame: one to this node alone may have such a unit
  pub data Heards (path : Path) (o : Option MeshUnit) (note now : ℕ) (p : Hearing) : Type 0 where
    Quiet : IsQuiet p → Heards path o note now p
    ByFrame : (own from : ℕ) (key : Key) (u : MeshUnit) → path ≡ paths.Sealed from false key → o ≡ Some u → address_of l ≡ Some own
        → Made own u note now p → Heards path o note now p

  rests : (answer failed : Result Heard Dropped) → hands_up_one answer ≡ false → IsQuiet (resting l answer failed)
  unfolding resting
  rests answer failed none = record { same = refl; none = none }

  drops_it : (reason : Dropped) → IsQuiet (drop_it l reason)
  drops_it reason = rests (Err reason) (Err drops.Store) refl

  seals : (d : Draft StationMemory) (word : Heard) → hands_up_one (Ok word) ≡ false → d.memory.reassemblies ≡ l.reassemblies → (spent : Bool)
      → IsQuiet (if spent then refused dropped l dropped.spent else sealing alone dropped d word)
  seals d word none k true = drops_it drops.CounterSpent
  seals d word none k false = record { same = k; none = none }

  ends_so : (d : Draft StationMemory) (word : Heard) → hands_up_one (Ok word) ≡ false → d.memory.reassemblies ≡ l.reassemblies → IsQuiet (ends l d word)
  unfolding sealed
  ends_so d word none k = seals d word none k (nat_lt (counters_left l) (length d.units))

  chosen : (t : Bool) (p q : Hearing) → IsQuiet p → IsQuiet q → IsQuiet (choose t p q)
  unfolding choose
  chosen true p q one other = one
  chosen false p q one other = other

  checked_so : (o : Option Dropped) (p : Hearing) → IsQuiet p → IsQuiet (checked dropped l o p)
  unfolding checked
  checked_so None p one = one
  checked_so (Some reason) p one = drops_it reason

  begun : (empty_draft l).memory.reassemblies ≡ l.reassemblies
  unfolding empty_draft
  begun = refl

  offered : (own origin : ℕ) (rank : Rank) (by now : ℕ) → (offers own origin rank by now l).memory.reassemblies ≡ l.reassemblies
  unfolding leave with_rank empty_draft
  offered own origin rank by now = refl

  numbered : (own origin : ℕ) (rank : Rank) (by now : ℕ) → (offers_numbered own origin rank by now l).memory.reassemblies ≡ l.reassemblies
  unfolding leave with_own_number with_rank empty_draft
  numbered own origin rank by now = refl

  lost : (address by : ℕ) → (loses address by l).memory.reassemblies ≡ l.reassemblies
  unfolding with_routing_by empty_draft
  lost address by = refl

  sends : (to : ℕ) (unit : MeshUnit) (note : ℕ) (d : Draft StationMemory) → d.memory.reassemblies ≡ l.reassemblies
      → (goes to unit note d).memory.reassemblies ≡ l.reassemblies
  unfolding goes
  sends to unit note d e = e

  requests : (own by origin dest : ℕ) (rank : Rank) (now : ℕ) → IsQuiet (hear_request l own by origin dest rank now)
  requests own by origin dest rank now =
      checked_so (rank_fault l own origin rank now) _
      (chosen (dest == own) _ _
      (chosen (numbers_spent l) _ _ (drops_it drops.SeqSpent) (ends_so _ heard.Answered refl (sends by _ 0 _ (numbered own origin rank by now))))
      (ends_so _ heard.Relayed refl (sends to_all _ 0 _ (offered own origin rank by now))))

  replies_for : (own by origin to : ℕ) (rank : Rank) (now : ℕ) (o : Option ℕ) → IsQuiet (hear_reply_for l own by origin to rank now o)
  replies_for own by origin to rank now None = drops_it drops.NoRoute
  replies_for own by origin to rank now (Some hop) =
      checked_so (rank_fault l own origin rank now) _ (ends_so _ heard.Relayed refl (sends hop _ 0 _ (offered own origin rank by now)))

  replies : (own by origin to : ℕ) (rank : Rank) (now : ℕ) → IsQuiet (hear_reply l own by origin to rank now)
  replies own by origin to rank now =
      chosen (to == own) _ _
      (checked_so (rank_fault l own origin rank now) _ (ends_so _ heard.Learned refl (offered own origin rank by now)))
      (replies_for own by origin to rank now (next_hop l to))

  errors_on : (by address to : ℕ) (o : Option ℕ) → IsQuiet (ends l (pass_error_on address to o (loses address by l)) heard.Broken)
  errors_on by address to None = ends_so _ heard.Broken refl (lost address by)
  errors_on by address to (Some hop) = ends_so _ heard.Broken refl (sends hop _ 0 _ (lost address by))

  messages : (own by : ℕ) (all : Bool) (cost now : ℕ) (message : Message) → IsQuiet (hear_message l own by all cost now message)
  messages own by true cost now (Rreq number c origin dest) = requests own by origin dest (rank_over number c cost) now
  messages own by true cost now (Rrep number c origin to) = drops_it drops.BadUnit
  messages own by true cost now (Rerr lost to) = drops_it drops.BadUnit
  messages own by false cost now (Rreq number c origin dest) = drops_it drops.BadUnit
  messages own by false cost now (Rrep number c origin to) = replies own by origin to (rank_over number c cost) now
  messages own by false cost now (Rerr lost to) = errors_on by lost to (error_hop l own by lost to)

  messages_in : (own by : ℕ) (all : Bool) (cost now : ℕ) (o : Option Message) → IsQuiet (hear_message_in l own by all cost now o)
  messages_in own by all cost now None = drops_it drops.BadUnit
  messages_in own by all cost now (Some message) = messages own by all cost now message

  commands : (own by : ℕ) (all : Bool) (code : ℕ) (body : List ℕ) (cost now : ℕ) → IsQuiet (hear_command l own by all code body cost now)
  commands own by all code body cost now =
      chosen (code == 1) _ _ (messages_in own by all cost now (message_in body))
      (chosen (code == 2) _ _ (drops_it drops.BadUnit) (rests (Ok (heard.Local by all code body)) (Err drops.Store) refl))

  reported : (mesh : Mesh) (o : Option ℕ) → IsQuiet (report_by l mesh o)
  reported mesh None = drops_it drops.NoRoute
  reported mesh (Some hop) = ends_so _ heard.Reported refl (sends hop _ 0 (empty_draft l) begun)

  forwarded_by : (own : ℕ) (mesh : Mesh) (unit : MeshUnit) (note : ℕ) (o : Option ℕ) → IsQuiet (forward_by l own mesh unit note o)
  forwarded_by own mesh unit note None = chosen (mesh.origin == own) _ _ (drops_it drops.NoRoute) (reported mesh (next_hop l mesh.origin))
  forwarded_by own mesh unit note (Some hop) =
      chosen (is_spent mesh) _ _ (drops_it drops.HopsSpent) (ends_so _ heard.Relayed refl (sends hop unit note (empty_draft l) begun))

  forwarded : (own : ℕ) (mesh : Mesh) (unit : MeshUnit) (note : ℕ) → IsQuiet (forward l own mesh unit note)
  forwarded own mesh unit note = forwarded_by own mesh unit note (next_hop l mesh.to)

  -- # Units for the node

  by_target : (own : ℕ) (u : MeshUnit) (note now : ℕ) (mesh : Mesh) (p q : Hearing) (b : Bool) → (mesh.to == own) ≡ b
      → (mesh.to ≡ own → Made own u note now p) → IsQuiet q → Made own u note now (choose b p q)
  unfolding choose
  by_target own u note now mesh p q true e here away = here (eqb-true _ _ e)
  by_target own u note now mesh p q false e here away = Quietly away

  over_mesh : (own : ℕ) (u : MeshUnit) (note now : ℕ) → Made own u note now (hear_over_mesh l own u note now)
  over_mesh own (units.Whole mesh octets) note now =
      by_target own (units.Whole mesh octets) note now mesh _ _ (mesh.to == own) refl (λ e. HandsUp mesh octets refl e refl) (forwarded own mesh _ note)
  over_mesh own (units.Part mesh piece) note now =
      by_target own (units.Part mesh piece) note now mesh _ _ (mesh.to == own) refl (λ e. Takes mesh piece refl e refl) (forwarded own mesh _ note)
  over_mesh own (units.Carried mesh body) note now =
      Quietly (chosen (mesh.to == own) _ _ (rests _ (Err drops.Store) refl) (forwarded own mesh _ note))
  over_mesh own (units.Local code body) note now = Quietly (drops_it drops.BadUnit)

  module _ (own from : ℕ) (key : Key) (here : address_of l ≡ Some own) (cost note now : ℕ) where
    abbrev HeardSo : Bool → MeshUnit → Hearing → Type 0
    HeardSo all u p = Heards (paths.Sealed from all key) (Some u) note now p

    by_all : (all : Bool) (u : MeshUnit) → HeardSo all u (choose all (drop_it l drops.BadUnit) (hear_over_mesh l own u note now))
    unfolding choose
    by_all true u = Quiet (drops_it drops.BadUnit)
    by_all false u = ByFrame own from key u refl refl here (over_mesh own u note now)

    seals_heard : (all : Bool) (u : MeshUnit) → HeardSo all u (hear_sealed l own from all u cost note now)
    seals_heard all (units.Local code body) = Quiet (commands own from all code body cost now)
    seals_heard all (units.Whole mesh octets) = by_all all (units.Whole mesh octets)
    seals_heard all (units.Part mesh piece) = by_all all (units.Part mesh piece)
    seals_heard all (units.Carried mesh body) = by_all all (units.Carried mesh body)

  plainly : (answer : List ℕ → Heard) (o : Option (List ℕ)) → ((body : List ℕ) → hands_up_one (Ok (answer body)) ≡ false) → IsQuiet (hear_plain l answer o)
  plainly answer None none = drops_it drops.BadUnit
  plainly answer (Some body) none = rests (Ok (answer body)) (Err drops.Store) (none body)

  by_address : (from : ℕ) (all : Bool) (key : Key) (u : MeshUnit) (cost note now : ℕ) (o : Option ℕ) → address_of l ≡ o
      → Heards (paths.Sealed from all key) (Some u) note now
      (option_map_or (λ own. hear_sealed l own from all u cost note now) o (drop_it l drops.BadUnit))
  by_address from all key u cost note now None e = Quiet (drops_it drops.BadUnit)
  by_address from all key u cost note now (Some own) e = seals_heard own from key e cost note now all u

  by_path : (path : Path) (u : MeshUnit) (cost note now : ℕ) → Heards path (Some u) note now (hear_unit l path u cost note now)
  by_path (paths.Sealed from all key) u cost note now = by_address from all key u cost note now (address_of l) refl
  by_path (paths.Up from) u cost note now = Quiet (plainly _ (is_joining u) (λ body. refl))
  by_path (paths.Down from) u cost note now = Quiet (plainly _ (is_joining u) (λ body. refl))

  by_unit : (path : Path) (o : Option MeshUnit) (cost note now : ℕ) → Heards path o note now (hear_unit_in l path o cost note now)
  by_unit path None cost note now = Quiet (drops_it drops.BadUnit)
  by_unit path (Some u) cost note now = by_path path u cost note now

  pub heard_so : (got : Accepted) (cost note now : ℕ) → Heards got.path (unit_in got.payload) note now (hear l got cost note now)
  heard_so got cost note now = by_unit got.path (unit_in got.payload) cost note now
