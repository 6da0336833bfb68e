-- How the plan of each rule of a station is made.
use Rattle.std.proofs.Common.{arith}
use Rattle.std.proofs.Common.{◌≡◌, ℕ, ◌+◌, ◌≤◌, Bool, true, false, List, [], ◌∷◌, Option, Some, None, refl, ap, ◌∙◌, subst}
use Rattle.std.specs.Prelude.{if◌then◌else◌, ◌==◌, ◌||◌, nat_lt, not}
use Rattle.std.specs.Option.{option_map_or}
use Rattle.std.proofs.lemmas.Bool.{ltb-false}
use Rattle.plc_base.specs.Faults.{◌then◌, ◌when◌}
use Rattle.fragment_buffers.specs.PieceIntake as pieces
use Rattle.fragment_buffers.specs.Reassembly.{PlacedPiece, Reassembly, placed, begun as piece_begun, datagram_of, repeats}
use Rattle.routing_set.specs.declared.rank.Rank.{Rank}
use Rattle.routing_set.specs.RoutingSet as routing
use Rattle.mesh_header.specs.Pieces.{Placed}
use Rattle.mesh_header.specs.declared.unit.Mesh.{Mesh}
use Rattle.mesh_header.specs.declared.unit.Unit.{Unit as MeshUnit}
use Rattle.mesh_header.specs.declared.unit.Unit.TheVariants as units
use Rattle.mesh_header.specs.Reader.{unit_in}
use Rattle.loadng_messages.specs.declared.message.Message.{Message}
use Rattle.loadng_messages.specs.declared.message.Message.TheVariants.{Rreq, Rrep, Rerr}
use Rattle.loadng_messages.specs.Grammar as messages
use Rattle.loadng_messages.specs.Reader.{message_in}
use Rattle.node_rules.specs.declared.heard.Path.{Path}
use Rattle.node_rules.specs.declared.heard.Path.TheVariants as paths
use Rattle.node_rules.specs.Accepted.{Accepted}
use Rattle.node_rules.specs.declared.heard.Heard.{Heard}
use Rattle.node_rules.specs.declared.heard.Heard.TheVariants as heard
use Rattle.node_rules.specs.declared.refusal.Dropped.TheVariants.{NotBetter, CostSpent, RoutesFull, BufferFull, BadUnit}
use Rattle.node_rules.specs.Frames.{to_all}
use Rattle.node_rules.specs.Memory.{StationMemory, address_of, next_hop}
use Rattle.node_rules.specs.Plans.{resting}
use Rattle.node_rules.specs.Drafts.{Draft, alone, empty_draft, with_rank, with_own_number, numbers_spent, leave, goes}
use Rattle.node_rules.specs.HearingRules.{Hearing, dropped, drop_it, rank_over, rank_fault, offers, offers_numbered, hear_request, hear_reply, hear_reply_for}
use Rattle.node_rules.specs.HearingRules.{hear_error, loses, pass_error_on, report_by, forward_by, gathered, gather, hear_message, hear_message_in}
use Rattle.node_rules.specs.HearingRules.{hear_over_mesh}
use Rattle.node_rules.specs.HearingRules.{hear_sealed, is_joining, hear_plain, hear_unit, hear_unit_in, hear}
use Rattle.node_rules.proofs.Words.{IsDone, learns_done, sends_on_done, answers_done, goes_done, error_done, error_on_done}
use Rattle.line_laws.proofs.Planned.{Planned, Refuses, Keeps, checked_planned, choose_planned, sealed_planned}
use Rattle.line_laws.proofs.Made.{RingWord, Given, IsCome, MessageCame, Offered, ByRequest, ByReply, IsLess, Whole, Part, Carried, RankFits, mesh_of, ByError}
use Rattle.line_laws.proofs.Made.{OnWay}
use Rattle.line_laws.proofs.Made.{IsAlone, Unnoted, Alone, Answers, Relays, Passes, SaysTheSame, Forwards, Made, Starts, Ranks, Numbers, Loses, Goes, Leaves}

-- # What a station answers beside the store

-- nothing is handed up
abbrev pub IsNoUp : Heard → Type 0
IsNoUp (heard.Up from note octets) = ⊥
IsNoUp _ = Unit {0}

-- what a piece leaves of the reassemblies, and what is handed up or on
pub data Handed (g : Given) (l : StationMemory) : StationMemory → Heard → Type 0 where
  HandsUp : (by own : ℕ) (mesh : Mesh) (octets : List ℕ) → IsCome g by false (units.Whole mesh octets) → address_of l ≡ Some own → (mesh.to == own) ≡ true
      → Handed g l l (heard.Up mesh.origin g.note octets)
  HandsOn : (answer : Heard) → IsNoUp answer → Handed g l l answer
  Gathers : (by own : ℕ) (mesh : Mesh) (piece : Placed) → IsCome g by false (units.Part mesh piece) → address_of l ≡ Some own → (mesh.to == own) ≡ true
      → (pieces.taken l.reassemblies mesh.origin piece g.note g.now).outcome ≡ pieces.Held
      → Handed g l (record l { reassemblies = (pieces.taken l.reassemblies mesh.origin piece g.note g.now).held }) heard.Held
  Completes : (by own : ℕ) (mesh : Mesh) (piece : Placed) (note : ℕ) (octets : List ℕ) → IsCome g by false (units.Part mesh piece) → address_of l ≡ Some own
      → (mesh.to == own) ≡ true
      → (pieces.taken l.reassemblies mesh.origin piece g.note g.now).outcome ≡ pieces.Whole note octets
      → Handed g l (record l { reassemblies = (pieces.taken l.reassemblies mesh.origin piece g.note g.now).held }) (heard.Up mesh.origin note octets)

-- # What a rank needs

-- What the tests of an offer say.
pub record RankPasses (l : StationMemory) (own origin : ℕ) (rank : Rank) (now : ℕ) : Type 0 where
  pub apart : (origin == own) ≡ false
  pub cost : rank.cost ≤ 65535
  pub fits : RankFits l.routing origin rank now

pub rank_passes : (l : StationMemory) (own origin : ℕ) (rank : Rank) (now : ℕ) → rank_fault l own origin rank now ≡ None → RankPasses l own origin rank now
unfolding rank_fault
rank_passes l own origin rank now =
    by_tests (origin == own) (routing.is_better l.routing origin rank) (nat_lt 65535 rank.cost) (routing.is_full l.routing origin now) refl refl refl refl
  where
    by_tests : (a b c d : Bool) → (origin == own) ≡ a → routing.is_better l.routing origin rank ≡ b → nat_lt 65535 rank.cost ≡ c
        → routing.is_full l.routing origin now ≡ d
        → (Some NotBetter when (a || not b) then Some CostSpent when c then Some RoutesFull when d) ≡ None → RankPasses l own origin rank now
    by_tests false true false false ea eb ec ed e = record { apart = ea; cost = ltb-false _ _ ec; fits = record { better = eb; room = ed } }
    by_tests true b c d ea eb ec ed e = absurd (cc)
    by_tests false false c d ea eb ec ed e = absurd (cc)
    by_tests false true true d ea eb ec ed e = absurd (cc)
    by_tests false true false true ea eb ec ed e = absurd (cc)

-- the answer of a piece that is taken in is never that there is no room
data Came (t : pieces.Taking) : Type 0 where
  IsHeld : t.outcome ≡ pieces.Held → Came t
  IsWhole : (note : ℕ) (octets : List ℕ) → t.outcome ≡ pieces.Whole note octets → Came t

settled_came : (whole : Option (List ℕ)) (r : Reassembly) (rest : List Reassembly) → Came (pieces.settled whole r rest)
settled_came None r rest = IsHeld refl
settled_came (Some octets) r rest = IsWhole _ _ refl

behind_came : (r : Reassembly) (t : pieces.Taking) → Came t → Came (pieces.behind r t)
behind_came r t (IsHeld e) = IsHeld e
behind_came r t (IsWhole note octets e) = IsWhole note octets e

either : (b : Bool) (s t : pieces.Taking) → Came s → Came t → Came (if b then s else t)
either true s t a b = a
either false s t a b = b

taken_came : (held : List Reassembly) (anew : Reassembly) (p : PlacedPiece) → Came (pieces.taken_in held anew p)
unfolding pieces.taken_in
taken_came [] anew p = settled_came (datagram_of anew) anew []
taken_came (r ∷ rest) anew p =
    either (pieces.same_name anew r) _ _
    (either (repeats r.pieces p) _ _ (IsHeld refl) (settled_came (datagram_of (pieces.grown r anew p)) (pieces.grown r anew p) rest))
    (behind_came r _ (taken_came rest anew p))

module _ (W : RingWord → Type 0) (g : Given) (l : StationMemory) where
  abbrev pub MadeOf : Draft StationMemory → Heard → Type 0
  MadeOf d said = Made W g (empty_draft l) d × IsDone l d × IsNoUp said

  abbrev pub Is : Hearing → Type 0
  Is p = Planned alone dropped l (Handed g l) MadeOf p

  -- # Offers

  offer_made : (own by origin : ℕ) (rank : Rank) → address_of l ≡ Some own → RankPasses l own origin rank g.now → Offered g (address_of l) by origin rank
      → Made W g (empty_draft l) (offers own origin rank by g.now l)
  unfolding empty_draft with_rank
  offer_made own by origin rank here p o = Leaves own origin by rank _ (Ranks by origin rank (empty_draft l) Starts o p.fits) here o

  numbered_made : (own by origin : ℕ) (rank : Rank) → address_of l ≡ Some own → RankPasses l own origin rank g.now → Offered g (address_of l) by origin rank
      → numbers_spent l ≡ false
      → Made W g (empty_draft l) (offers_numbered own origin rank by g.now l)
  unfolding empty_draft with_rank with_own_number
  numbered_made own by origin rank here p o left = Leaves own origin by rank _ (Numbers _ (Ranks by origin rank (empty_draft l) Starts o p.fits) left) here o

  answers_made : (own by origin n c dest : ℕ) (rank : Rank) → MessageCame g by true (Rreq n c origin dest) → address_of l ≡ Some own
      → RankPasses l own origin rank g.now → Offered g (address_of l) by origin rank → numbers_spent l ≡ false
      → Made W g (empty_draft l) (goes by (units.Local 1 (messages.spelling (Rrep (l.own_number.last + 1) 0 own origin))) 0
      (offers_numbered own origin rank by g.now l))
  unfolding empty_draft with_rank with_own_number leave
  answers_made own by origin n c dest rank came_so here p o left =
      Goes _ _ _ _ (numbered_made own by origin rank here p o left) (Answers own by origin _ n c dest here refl (omega arith) came_so) Unnoted

  offered_after : (own by origin : ℕ) (rank : Rank) → Offered g (address_of l) by origin rank
      → Offered g (address_of (offers own origin rank by g.now l).memory) by origin rank
  unfolding empty_draft with_rank leave
  offered_after own by origin rank o = o

  relays_made : (own by origin dest n c : ℕ) (rank : Rank) → MessageCame g by true (Rreq n c origin dest) → address_of l ≡ Some own
      → RankPasses l own origin rank g.now → Offered g (address_of l) by origin rank
      → Made W g (empty_draft l) (goes to_all (units.Local 1 (messages.spelling (Rreq rank.number rank.cost origin dest))) 0
      (offers own origin rank by g.now l))
  relays_made own by origin dest n c rank came_so here p o = Goes _ _ _ _ (offer_made own by origin rank here p o)
      (Relays by origin dest n c rank (offered_after own by origin rank o) (record { before = empty_draft l; own = own; is = refl }) came_so) Unnoted

  begun_hop : (to hop : ℕ) → next_hop l to ≡ Some hop → next_hop (empty_draft l).memory to ≡ Some hop
  unfolding empty_draft
  begun_hop to hop e = e

  passes_made : (own by origin to hop n c : ℕ) (rank : Rank) → MessageCame g by false (Rrep n c origin to) → next_hop l to ≡ Some hop → address_of l ≡ Some own
      → RankPasses l own origin rank g.now → Offered g (address_of l) by origin rank
      → Made W g (empty_draft l) (goes hop (units.Local 1 (messages.spelling (Rrep rank.number rank.cost origin to))) 0 (offers own origin rank by g.now l))
  passes_made own by origin to hop n c rank came_so there here p o = Goes _ _ _ _ (offer_made own by origin rank here p o)
      (Passes by origin to hop n c rank (offered_after own by origin rank o) (record { before = empty_draft l; own = own; is = refl }) came_so
      (begun_hop to hop there)) Unnoted

  -- # Route messages

  request_is : (own by number c origin dest : ℕ) → address_of l ≡ Some own → MessageCame g by true (Rreq number c origin dest)
      → Is (hear_request l own by origin dest (rank_over number c g.cost) g.now)
  request_is own by number c origin dest here came_so = checked_planned (λ e.
      let p = rank_passes l own origin (rank_over number c g.cost) g.now e in
      let o = ByRequest own number c origin dest here p.apart p.cost came_so in
      choose_planned (λ sought. choose_planned (λ spent. Refuses _)
      (λ left. sealed_planned _ _ (answers_made own by origin number c dest _ came_so here p o left, answers_done l own origin _ by g.now _ _ _, tt)))
      (λ other. sealed_planned _ _ (relays_made own by origin dest number c _ came_so here p o, sends_on_done l own origin _ by g.now _ _ _, tt)))

  reply_for_is : (own by number c origin to : ℕ) (hop : Option ℕ) → next_hop l to ≡ hop → address_of l ≡ Some own
      → MessageCame g by false (Rrep number c origin to)
      → Is (hear_reply_for l own by origin to (rank_over number c g.cost) g.now hop)
  reply_for_is own by number c origin to None there here came_so = Refuses _
  reply_for_is own by number c origin to (Some hop) there here came_so = checked_planned (λ e.
      let p = rank_passes l own origin (rank_over number c g.cost) g.now e in
      sealed_planned _ _ (
        passes_made own by origin to hop number c _ came_so there here p (ByReply own number c origin to here p.apart p.cost came_so),
        sends_on_done l own origin _ by g.now _ _ _,
        tt,
      ))

  reply_is : (own by number c origin to : ℕ) → address_of l ≡ Some own → MessageCame g by false (Rrep number c origin to)
      → Is (hear_reply l own by origin to (rank_over number c g.cost) g.now)
  reply_is own by number c origin to here came_so = choose_planned
      (λ mine. checked_planned (λ e.
      let p = rank_passes l own origin (rank_over number c g.cost) g.now e in
      sealed_planned _ _ (
        offer_made own by origin _ here p (ByReply own number c origin to here p.apart p.cost came_so),
        learns_done l own origin _ by g.now,
        tt,
      )))
      (λ other. reply_for_is own by number c origin to (next_hop l to) refl here came_so)

  loses_made : (lost by : ℕ) → Made W g (empty_draft l) (loses lost by l)
  loses_made lost by = Loses lost by (empty_draft l) Starts

  pass_error_on_made : (lost to by : ℕ) (hop : Option ℕ) → MessageCame g by false (Rerr lost to)
      → ((h : ℕ) → hop ≡ Some h → next_hop (loses lost by l).memory to ≡ Some h) → Made W g (empty_draft l) (pass_error_on lost to hop (loses lost by l))
  pass_error_on_made lost to by None came_so there = loses_made lost by
  pass_error_on_made lost to by (Some hop) came_so there =
      Goes hop _ 0 _ (loses_made lost by) (SaysTheSame hop lost to to (ByError by lost to came_so) (there hop refl)) Unnoted

  -- the hop that is left
  hop_left : (b : Bool) (lost to by h : ℕ) → (if b then None else next_hop (loses lost by l).memory to) ≡ Some h → next_hop (loses lost by l).memory to ≡ Some h
  hop_left true lost to by h e = absurd (cc)
  hop_left false lost to by h e = e

  pass_error_on_done : (lost to by : ℕ) (hop : Option ℕ) → IsDone l (pass_error_on lost to hop (loses lost by l))
  pass_error_on_done lost to by None = error_done l (λ r. routing.without_next_to r lost by)
  pass_error_on_done lost to by (Some hop) = error_on_done l hop _ 0 (λ r. routing.without_next_to r lost by)

  error_is : (own by lost to : ℕ) → MessageCame g by false (Rerr lost to) → Is (hear_error l own by lost to)
  error_is own by lost to came_so =
      sealed_planned _ _ (pass_error_on_made lost to by _ came_so (hop_left (to == own) lost to by), pass_error_on_done lost to by _, tt)

  message_is : (own by : ℕ) (all : Bool) (message : Message) → address_of l ≡ Some own → MessageCame g by all message
      → Is (hear_message l own by all g.cost g.now message)
  message_is own by true (Rreq number c origin dest) here came_so = request_is own by number c origin dest here came_so
  message_is own by true (Rrep number c origin to) here came_so = Refuses _
  message_is own by true (Rerr lost to) here came_so = Refuses _
  message_is own by false (Rreq number c origin dest) here came_so = Refuses _
  message_is own by false (Rrep number c origin to) here came_so = reply_is own by number c origin to here came_so
  message_is own by false (Rerr lost to) here came_so = error_is own by lost to came_so

  -- # Units over the mesh for other nodes

  report_is : (by : ℕ) (unit : MeshUnit) (mesh : Mesh) (hop : Option ℕ) → IsCome g by false unit → mesh_of unit ≡ Some mesh → next_hop l mesh.origin ≡ hop
      → Is (report_by l mesh hop)
  report_is by unit mesh None came has there = Refuses _
  report_is by unit mesh (Some hop) came has there = sealed_planned _ _ (
    Goes hop _ 0 _ Starts (SaysTheSame hop mesh.to mesh.origin mesh.origin (OnWay by unit mesh came has) (begun_hop mesh.origin hop there)) Unnoted,
    goes_done l hop _ 0,
    tt,
  )

  -- nothing was done before
  begun_alone : (note : ℕ) → IsAlone (empty_draft l) (empty_draft l) note
  unfolding empty_draft
  begun_alone note = Alone note refl tt

  forward_by_is : (own by : ℕ) (mesh : Mesh) (unit less : MeshUnit) (hop : Option ℕ) → next_hop l mesh.to ≡ hop → IsCome g by false unit
      → mesh_of unit ≡ Some mesh → IsLess unit less → Is (forward_by l own mesh less g.note hop)
  forward_by_is own by mesh unit less None there came has is =
      choose_planned (λ mine. Refuses _) (λ other. report_is by unit mesh (next_hop l mesh.origin) came has refl)
  forward_by_is own by mesh unit less (Some hop) there came has is = choose_planned (λ spent. Refuses _)
      (λ left. sealed_planned _ _ (
        Goes hop less g.note _ Starts (Forwards by hop mesh.to unit less came is (begun_hop mesh.to hop there)) (begun_alone g.note),
        goes_done l hop less g.note,
        tt,
      ))

  -- # Pieces

  came_is : (by own : ℕ) (mesh : Mesh) (piece : Placed) → address_of l ≡ Some own → (mesh.to == own) ≡ true → IsCome g by false (units.Part mesh piece)
      → (t : pieces.Taking) → pieces.taken l.reassemblies mesh.origin piece g.note g.now ≡ t → Came t → Is (gathered l mesh.origin t)
  unfolding gathered resting
  came_is by own mesh piece here mine came t is (IsHeld e) = rw e (Keeps (record l { reassemblies = t.held }) heard.Held
      (subst (λ (k : pieces.Taking). Handed g l (record l { reassemblies = k.held }) heard.Held) is
      (Gathers by own mesh piece came here mine (ap (λ (k : pieces.Taking). k.outcome) is ∙ e))))
  came_is by own mesh piece here mine came t is (IsWhole note octets e) = rw e (Keeps (record l { reassemblies = t.held }) (heard.Up mesh.origin note octets)
      (subst (λ (k : pieces.Taking). Handed g l (record l { reassemblies = k.held }) (heard.Up mesh.origin note octets)) is
      (Completes by own mesh piece note octets came here mine (ap (λ (k : pieces.Taking). k.outcome) is ∙ e))))

  full_is : (from : ℕ) → Is (gathered l from (record { held = l.reassemblies; outcome = pieces.Full }))
  unfolding gathered resting
  full_is from = Refuses BufferFull

  by_room : (by own : ℕ) (mesh : Mesh) (piece : Placed) → address_of l ≡ Some own → (mesh.to == own) ≡ true → (b : Bool) (t : pieces.Taking)
      → IsCome g by false (units.Part mesh piece)
      → pieces.taken l.reassemblies mesh.origin piece g.note g.now ≡ (if b then t else record { held = l.reassemblies; outcome = pieces.Full }) → Came t
      → Is (gathered l mesh.origin (if b then t else record { held = l.reassemblies; outcome = pieces.Full }))
  by_room by own mesh piece here mine true t came is c = came_is by own mesh piece here mine came t is c
  by_room by own mesh piece here mine false t came is c = full_is mesh.origin

  gather_is : (by own : ℕ) (mesh : Mesh) (piece : Placed) → IsCome g by false (units.Part mesh piece) → address_of l ≡ Some own → (mesh.to == own) ≡ true
      → Is (gather l mesh.origin piece g.note g.now)
  unfolding pieces.taken
  gather_is by own mesh piece came here mine =
      by_room by own mesh piece here mine (pieces.has_room l.reassemblies (piece_begun mesh.origin piece g.note g.now)) _ came refl
      (taken_came l.reassemblies (piece_begun mesh.origin piece g.note g.now) (placed piece))

  -- # All that is heard

  mesh_is : (own by : ℕ) (unit : MeshUnit) → address_of l ≡ Some own → IsCome g by false unit → Is (hear_over_mesh l own unit g.note g.now)
  mesh_is own by (units.Whole mesh octets) here came = choose_planned (λ mine. Keeps l _ (HandsUp by own mesh octets came here mine))
      (λ other. forward_by_is own by mesh _ _ (next_hop l mesh.to) refl came refl (Whole mesh octets))
  mesh_is own by (units.Part mesh piece) here came = choose_planned (λ mine. gather_is by own mesh piece came here mine)
      (λ other. forward_by_is own by mesh _ _ (next_hop l mesh.to) refl came refl (Part mesh piece))
  mesh_is own by (units.Carried mesh body) here came =
      choose_planned (λ mine. Keeps l _ (HandsOn _ tt)) (λ other. forward_by_is own by mesh _ _ (next_hop l mesh.to) refl came refl (Carried mesh body))
  mesh_is own by (units.Local code body) here came = Refuses _

  message_in_is : (own by : ℕ) (all : Bool) (code : ℕ) (body : List ℕ) (message : Option Message) → address_of l ≡ Some own
      → IsCome g by all (units.Local code body) → (code == 1) ≡ true
      → message_in body ≡ message → Is (hear_message_in l own by all g.cost g.now message)
  message_in_is own by all code body None here came first e = Refuses _
  message_in_is own by all code body (Some message) here came first e =
      message_is own by all message here (record { code = code; body = body; came = came; first = first; read = e })

  to_one : (all : Bool) (by : ℕ) (unit : MeshUnit) → all ≡ false → IsCome g by all unit → IsCome g by false unit
  to_one all by unit e came = subst (λ b. IsCome g by b unit) e came

  sealed_is : (own by : ℕ) (all : Bool) (unit : MeshUnit) → address_of l ≡ Some own → IsCome g by all unit
      → Is (hear_sealed l own by all unit g.cost g.note g.now)
  sealed_is own by all (units.Local code body) here came = choose_planned (λ first. message_in_is own by all code body (message_in body) here came first refl)
      (λ other. choose_planned (λ join. Refuses _) (λ local. Keeps l _ (HandsOn _ tt)))
  sealed_is own by all (units.Whole mesh octets) here came = choose_planned (λ every. Refuses _) (λ one. mesh_is own by _ here (to_one all by _ one came))
  sealed_is own by all (units.Part mesh piece) here came = choose_planned (λ every. Refuses _) (λ one. mesh_is own by _ here (to_one all by _ one came))
  sealed_is own by all (units.Carried mesh body) here came = choose_planned (λ every. Refuses _) (λ one. mesh_is own by _ here (to_one all by _ one came))

  plain_is : (answer : List ℕ → Heard) (body : Option (List ℕ)) → ((octets : List ℕ) → IsNoUp (answer octets)) → Is (hear_plain l answer body)
  plain_is answer None none = Refuses _
  plain_is answer (Some body) none = Keeps l _ (HandsOn _ (none body))

  addressed_is : (own : Option ℕ) (by : ℕ) (all : Bool) (unit : MeshUnit) → address_of l ≡ own → IsCome g by all unit
      → Is (option_map_or (λ a. hear_sealed l a by all unit g.cost g.note g.now) own (drop_it l BadUnit))
  addressed_is None by all unit here came = Refuses _
  addressed_is (Some own) by all unit here came = sealed_is own by all unit here came

  unit_is : (got : Accepted) (path : Path) (unit : MeshUnit) → g.got ≡ Some got → got.path ≡ path → unit_in got.payload ≡ Some unit
      → Is (hear_unit l path unit g.cost g.note g.now)
  unit_is got (paths.Sealed from all key) unit is way read =
      addressed_is (address_of l) from all unit refl (record { got = got; is = is; key = key; path = way; unit = read })
  unit_is got (paths.Up from) unit is way read = plain_is _ (is_joining unit) (λ octets. tt)
  unit_is got (paths.Down from) unit is way read = plain_is _ (is_joining unit) (λ octets. tt)

  unit_in_is : (got : Accepted) (unit : Option MeshUnit) → g.got ≡ Some got → unit_in got.payload ≡ unit → Is (hear_unit_in l got.path unit g.cost g.note g.now)
  unit_in_is got None is read = Refuses _
  unit_in_is got (Some unit) is read = unit_is got got.path unit is refl read

  pub hear_is : (got : Accepted) → g.got ≡ Some got → Is (hear l got g.cost g.note g.now)
  hear_is got is = unit_in_is got (unit_in got.payload) is refl
