-- What becomes of a body that waits for a route, where a frame is heard: it waits still, or all its units go out.
use Rattle.std.proofs.Common.{◌≡◌, ℕ, ◌+◌, Bool, true, false, List, [], ◌∷◌, ◌++◌, length, Option, Some, None, Result, Ok, Err, refl, sym, ap, subst, ◌∙◌}
use Rattle.std.specs.Prelude.{if◌then◌else◌, cond, nat_lt, not, ◌==◌}
use Rattle.std.specs.List.{filter, flat_map}
use Rattle.std.specs.Option.{option_map, option_map_or}
use Rattle.plc_base.specs.declared.key.Key.{Key}
use Rattle.plc_base.specs.Grant.{Granted}
use Rattle.mesh_header.specs.declared.unit.Mesh.{Mesh}
use Rattle.mesh_header.specs.declared.unit.Unit.{Unit as MeshUnit}
use Rattle.mesh_header.specs.declared.unit.Unit.TheVariants as units
use Rattle.mesh_header.specs.Reader.{unit_in}
use Rattle.loadng_messages.specs.declared.message.Message.{Message}
use Rattle.loadng_messages.specs.declared.message.Message.TheVariants.{Rreq, Rrep, Rerr}
use Rattle.loadng_messages.specs.Reader.{message_in}
use Rattle.routing_set.specs.declared.rank.Rank.{Rank}
use Rattle.routing_set.specs.RoutingSet as routing
use Rattle.fragment_buffers.specs.Loads.{UnsealedUnit}
use Rattle.fragment_buffers.specs.PieceIntake as pieces
use Rattle.fragment_buffers.specs.WaitingBodies.{units_by, waits_for}
use Rattle.node_rules.specs.declared.heard.Heard.{Heard}
use Rattle.node_rules.specs.declared.heard.Heard.TheVariants as heard
use Rattle.node_rules.specs.declared.heard.Path.{Path}
use Rattle.node_rules.specs.declared.heard.Path.TheVariants as paths
use Rattle.node_rules.specs.declared.refusal.Dropped.{Dropped}
use Rattle.node_rules.specs.declared.refusal.Dropped.TheVariants as drops
use Rattle.node_rules.specs.Drafts.{Draft, alone, choose, checked, counters_left, empty_draft, goes, leave, refused, sealed, sealed_by, sealed_units, sealing}
use Rattle.node_rules.specs.Drafts.{numbers_spent, sealing_key, with_own_number, with_rank, with_routing_by}
use Rattle.node_rules.specs.Frames.{Sent, to_all}
use Rattle.node_rules.specs.HearingRules.{Hearing, drop_it, dropped, ends, forward, forward_by, gathered, hear_command}
use Rattle.node_rules.specs.HearingRules.{hear_message, hear_message_in}
use Rattle.node_rules.specs.HearingRules.{hear_over_mesh, hear_plain, hear_reply, hear_reply_for, hear_request, hear_sealed, hear_unit, hear_unit_in}
use Rattle.node_rules.specs.HearingRules.{is_joining}
use Rattle.node_rules.specs.HearingRules.{is_spent}
use Rattle.node_rules.specs.HearingRules.{error_hop, loses, offers, offers_numbered, pass_error_on, rank_fault, rank_over, report_by}
use Rattle.node_rules.specs.Memory.{StationMemory, Body, next_hop}
use Rattle.node_rules.specs.Plans.{resting}
use Rattle.line_progress.specs.Lists.{Among, Here, Later}
use Rattle.line_progress.specs.BodyFates.{IsSentAs, BodyFate, WaitsOn, Leaves, BodiesHaveFates}
use Rattle.line_progress.proofs.PieceFates.{among_front}

-- # Lists

pub among_back : {A : Type 0} (x : A) (xs ys : List A) → Among x ys → Among x (xs ++ ys)
among_back x [] ys among = among
among_back x (y ∷ xs) ys among = Later y (xs ++ ys) (among_back x xs ys among)

pub kept_in : {A : Type 0} (test : A → Bool) (x : A) (xs : List A) → Among x xs → test x ≡ true → Among x (filter test xs)
kept_in test x xs (Here rest) e = subst (λ b. Among x (cond b (x ∷ filter test rest) (filter test rest))) (sym e) (Here (filter test rest))
kept_in test x xs (Later y rest more) e = by_test (test y) (kept_in test x rest more e)
  where
    by_test : (b : Bool) → Among x (filter test rest) → Among x (cond b (y ∷ filter test rest) (filter test rest))
    by_test true kept = Later y (filter test rest) kept
    by_test false kept = kept

in_all : {A B : Type 0} (f : A → List B) (x : A) (o : B) (xs : List A) → Among x xs → Among o (f x) → Among o (flat_map f xs)
in_all f x o xs (Here rest) here = among_front o (f x) (flat_map f rest) here
in_all f x o xs (Later y rest more) here = among_back o (f y) (flat_map f rest) (in_all f x o rest more here)

-- # Units that are sealed

module _ (g : Granted) (key : Key) where
  sealed_as : (o : UnsealedUnit) (units : List UnsealedUnit) (first : ℕ) → Among o units → IsSentAs g key o (sealed_units g key first units)
  sealed_as o units first (Here rest) = record { counter = first; is = Here (sealed_units g key (first + 1) rest) }
  sealed_as o units first (Later y rest more) =
      let sent = sealed_as o rest (first + 1) more in record { counter = sent.counter; is = Later _ (sealed_units g key (first + 1) rest) sent.is }

-- # Drafts

-- the body waits, or all its units are to go out
data Kept (own : ℕ) (b : Body) (waiting : List Body) (units : List UnsealedUnit) : Type 0 where
  StillThere : Among b waiting → Kept own b waiting units
  GoesOut : (hop : ℕ) → ((o : UnsealedUnit) → Among o (units_by own hop b) → Among o units) → Kept own b waiting units

-- The same in a draft, whose ring is as it was, and of which no plain frame goes out.
record Keeps (own : ℕ) (l : StationMemory) (b : Body) (d : Draft StationMemory) : Type 0 where
  ring : d.memory.ring ≡ l.ring
  plain : d.plain ≡ []
  body : Kept own b d.memory.waiting d.units

more_units : (own : ℕ) (b : Body) (waiting : List Body) (units more : List UnsealedUnit) → Kept own b waiting units → Kept own b waiting (units ++ more)
more_units own b waiting units more (StillThere among) = StillThere among
more_units own b waiting units more (GoesOut hop all) = GoesOut hop (λ o in_b. among_front o units more (all o in_b))

module _ (own : ℕ) (l : StationMemory) (b : Body) where
  keeps_empty : Among b l.waiting → Keeps own l b (empty_draft l)
  unfolding empty_draft
  keeps_empty among = record { ring = refl; plain = refl; body = StillThere among }

  keeps_rank : (dest : ℕ) (rank : Rank) (by now : ℕ) (d : Draft StationMemory) → Keeps own l b d → Keeps own l b (with_rank dest rank by now d)
  unfolding with_rank
  keeps_rank dest rank by now d k = record { ring = k.ring; plain = k.plain; body = k.body }

  keeps_number : (d : Draft StationMemory) → Keeps own l b d → Keeps own l b (with_own_number d)
  unfolding with_own_number
  keeps_number d k = record { ring = k.ring; plain = k.plain; body = k.body }

  keeps_routing : (change : routing.Routing → routing.Routing) (d : Draft StationMemory) → Keeps own l b d → Keeps own l b (with_routing_by change d)
  unfolding with_routing_by
  keeps_routing change d k = record { ring = k.ring; plain = k.plain; body = k.body }

  keeps_goes : (to : ℕ) (unit : MeshUnit) (note : ℕ) (d : Draft StationMemory) → Keeps own l b d → Keeps own l b (goes to unit note d)
  unfolding goes
  keeps_goes to unit note d k = record { ring = k.ring; plain = k.plain; body = more_units own b d.memory.waiting d.units _ k.body }

  leaves_so : (dest hop : ℕ) (waiting : List Body) (units : List UnsealedUnit) → Kept own b waiting units
      → Kept own b (filter (λ c. not (waits_for dest c)) waiting) (units ++ flat_map (units_by own hop) (filter (waits_for dest) waiting))
  leaves_so dest hop waiting units (GoesOut other all) = GoesOut other (λ o in_b. among_front o units _ (all o in_b))
  leaves_so dest hop waiting units (StillThere among) = by_test (waits_for dest b) refl
    where
      by_test : (t : Bool) → waits_for dest b ≡ t
          → Kept own b (filter (λ c. not (waits_for dest c)) waiting) (units ++ flat_map (units_by own hop) (filter (waits_for dest) waiting))
      by_test true e =
          GoesOut hop (λ o in_b. among_back o units _
          (in_all (units_by own hop) b o (filter (waits_for dest) waiting) (kept_in (waits_for dest) b waiting among e) in_b))
      by_test false e = StillThere (kept_in (λ c. not (waits_for dest c)) b waiting among (ap not e))

  keeps_leave : (dest hop : ℕ) (d : Draft StationMemory) → Keeps own l b d → Keeps own l b (leave own dest hop d)
  unfolding leave
  keeps_leave dest hop d k = record { ring = k.ring; plain = k.plain; body = leaves_so dest hop d.memory.waiting d.units k.body }

-- # Plans

module _ (l : StationMemory) (g : Granted) (key : Key) (b : Body) (ring : l.ring ≡ Some g) (keyed : sealing_key g ≡ Some key) (waits : Among b l.waiting) where
  rests : (answer failed : Result Heard Dropped) → BodyFate g key b (resting l answer failed)
  unfolding resting
  rests answer failed = WaitsOn waits

  drops_it : (reason : Dropped) → BodyFate g key b (drop_it l reason)
  drops_it reason = rests (Err reason) (Err drops.Store)

  frames_are : (units : List UnsealedUnit) (first : ℕ) (plain : List Sent) (r : Option Granted) → r ≡ l.ring → plain ≡ []
      → (o : UnsealedUnit) → Among o units → IsSentAs g key o (plain ++ sealed_by r first units)
  frames_are units first plain r same none o among =
      let is : plain ++ sealed_by r first units ≡ sealed_units g key first units =
      (λ i. none i ++ sealed_by ((same ∙ ring) i) first units)
      ∙ (λ i. option_map_or (λ k. sealed_units g k first units) (keyed i) []) in
      subst (IsSentAs g key o) (sym is) (sealed_as g key o units first among)

  seals : (d : Draft StationMemory) (word : Heard) → Keeps g.address l b d → (spent : Bool)
      → BodyFate g key b (if spent then refused dropped l dropped.spent else sealing alone dropped d word)
  seals d word k true = drops_it drops.CounterSpent
  seals d word k false = by_body k.body
    where
      by_body : Kept g.address b d.memory.waiting d.units → BodyFate g key b (sealing alone dropped d word)
      by_body (StillThere among) = WaitsOn among
      by_body (GoesOut hop all) =
          Leaves hop (λ o in_b. frames_are d.units d.memory.counter.next d.plain d.memory.ring k.ring k.plain o (all o in_b))

  ends_so : (d : Draft StationMemory) (word : Heard) → Keeps g.address l b d → BodyFate g key b (ends l d word)
  unfolding sealed
  ends_so d word k = seals d word k (nat_lt (counters_left l) (length d.units))

  chosen : (t : Bool) (p q : Hearing) → BodyFate g key b p → BodyFate g key b q → BodyFate g key b (choose t p q)
  unfolding choose
  chosen true p q one other = one
  chosen false p q one other = other

  checked_so : (o : Option Dropped) (p : Hearing) → BodyFate g key b p → BodyFate g key b (checked dropped l o p)
  unfolding checked
  checked_so None p one = one
  checked_so (Some reason) p one = drops_it reason

  abbrev own : ℕ
  own = g.address

  begun : Keeps own l b (empty_draft l)
  begun = keeps_empty own l b waits

  offered : (origin : ℕ) (rank : Rank) (by now : ℕ) → Keeps own l b (offers own origin rank by now l)
  offered origin rank by now =
      keeps_leave own l b origin by (with_rank origin rank by now (empty_draft l)) (keeps_rank own l b origin rank by now (empty_draft l) begun)

  numbered : (origin : ℕ) (rank : Rank) (by now : ℕ) → Keeps own l b (offers_numbered own origin rank by now l)
  numbered origin rank by now =
      keeps_leave own l b origin by (with_own_number (with_rank origin rank by now (empty_draft l)))
      (keeps_number own l b (with_rank origin rank by now (empty_draft l)) (keeps_rank own l b origin rank by now (empty_draft l) begun))

  requests : (by origin dest : ℕ) (rank : Rank) (now : ℕ) → BodyFate g key b (hear_request l own by origin dest rank now)
  requests by origin dest rank now =
      checked_so (rank_fault l own origin rank now) _
      (chosen (dest == own) _ _
      (chosen (numbers_spent l) _ _ (drops_it drops.SeqSpent) (ends_so _ heard.Answered (keeps_goes own l b by _ 0 _ (numbered origin rank by now))))
      (ends_so _ heard.Relayed (keeps_goes own l b to_all _ 0 _ (offered origin rank by now))))

  replies_for : (by origin to : ℕ) (rank : Rank) (now : ℕ) (o : Option ℕ) → BodyFate g key b (hear_reply_for l own by origin to rank now o)
  replies_for by origin to rank now None = drops_it drops.NoRoute
  replies_for by origin to rank now (Some hop) =
      checked_so (rank_fault l own origin rank now) _ (ends_so _ heard.Relayed (keeps_goes own l b hop _ 0 _ (offered origin rank by now)))

  replies : (by origin to : ℕ) (rank : Rank) (now : ℕ) → BodyFate g key b (hear_reply l own by origin to rank now)
  replies by origin to rank now =
      chosen (to == own) _ _
      (checked_so (rank_fault l own origin rank now) _ (ends_so _ heard.Learned (offered origin rank by now)))
      (replies_for by origin to rank now (next_hop l to))

  errors_on : (by lost to : ℕ) (o : Option ℕ) → BodyFate g key b (ends l (pass_error_on lost to o (loses lost by l)) heard.Broken)
  errors_on by lost to None = ends_so _ heard.Broken (keeps_routing own l b _ (empty_draft l) begun)
  errors_on by lost to (Some hop) = ends_so _ heard.Broken (keeps_goes own l b hop _ 0 _ (keeps_routing own l b _ (empty_draft l) begun))

  messages : (by : ℕ) (all : Bool) (cost now : ℕ) (message : Message) → BodyFate g key b (hear_message l own by all cost now message)
  messages by true cost now (Rreq number c origin dest) = requests by origin dest (rank_over number c cost) now
  messages by true cost now (Rrep number c origin to) = drops_it drops.BadUnit
  messages by true cost now (Rerr lost to) = drops_it drops.BadUnit
  messages by false cost now (Rreq number c origin dest) = drops_it drops.BadUnit
  messages by false cost now (Rrep number c origin to) = replies by origin to (rank_over number c cost) now
  messages by false cost now (Rerr lost to) = errors_on by lost to (error_hop l own by lost to)

  messages_in : (by : ℕ) (all : Bool) (cost now : ℕ) (o : Option Message) → BodyFate g key b (hear_message_in l own by all cost now o)
  messages_in by all cost now None = drops_it drops.BadUnit
  messages_in by all cost now (Some message) = messages by all cost now message

  commands : (by : ℕ) (all : Bool) (code : ℕ) (body : List ℕ) (cost now : ℕ) → BodyFate g key b (hear_command l own by all code body cost now)
  commands by all code body cost now =
      chosen (code == 1) _ _ (messages_in by all cost now (message_in body))
      (chosen (code == 2) _ _ (drops_it drops.BadUnit) (rests (Ok (heard.Local by all code body)) (Err drops.Store)))

  reported : (mesh : Mesh) (o : Option ℕ) → BodyFate g key b (report_by l mesh o)
  reported mesh None = drops_it drops.NoRoute
  reported mesh (Some hop) = ends_so _ heard.Reported (keeps_goes own l b hop _ 0 (empty_draft l) begun)

  forwarded_by : (mesh : Mesh) (unit : MeshUnit) (note : ℕ) (o : Option ℕ) → BodyFate g key b (forward_by l own mesh unit note o)
  forwarded_by mesh unit note None = chosen (mesh.origin == own) _ _ (drops_it drops.NoRoute) (reported mesh (next_hop l mesh.origin))
  forwarded_by mesh unit note (Some hop) =
      chosen (is_spent mesh) _ _ (drops_it drops.HopsSpent) (ends_so _ heard.Relayed (keeps_goes own l b hop unit note (empty_draft l) begun))

  forwarded : (mesh : Mesh) (unit : MeshUnit) (note : ℕ) → BodyFate g key b (forward l own mesh unit note)
  forwarded mesh unit note = forwarded_by mesh unit note (next_hop l mesh.to)

  gathers : (from : ℕ) (t : pieces.Taking) → BodyFate g key b (gathered l from t)
  unfolding gathered resting
  gathers from t = WaitsOn waits

  over_mesh : (unit : MeshUnit) (note now : ℕ) → BodyFate g key b (hear_over_mesh l own unit note now)
  over_mesh (units.Whole mesh octets) note now =
      chosen (mesh.to == own) _ _ (rests (Ok (heard.Up mesh.origin note octets)) (Err drops.Store)) (forwarded mesh _ note)
  over_mesh (units.Part mesh piece) note now =
      chosen (mesh.to == own) _ _ (gathers mesh.origin (pieces.taken l.reassemblies mesh.origin piece note now)) (forwarded mesh _ note)
  over_mesh (units.Carried mesh body) note now =
      chosen (mesh.to == own) _ _ (rests _ (Err drops.Store)) (forwarded mesh _ note)
  over_mesh (units.Local code body) note now = drops_it drops.BadUnit

  seals_heard : (by : ℕ) (all : Bool) (unit : MeshUnit) (cost note now : ℕ) → BodyFate g key b (hear_sealed l own by all unit cost note now)
  seals_heard by all (units.Local code body) cost note now = commands by all code body cost now
  seals_heard by all (units.Whole mesh octets) cost note now = chosen all _ _ (drops_it drops.BadUnit) (over_mesh (units.Whole mesh octets) note now)
  seals_heard by all (units.Part mesh piece) cost note now = chosen all _ _ (drops_it drops.BadUnit) (over_mesh (units.Part mesh piece) note now)
  seals_heard by all (units.Carried mesh body) cost note now = chosen all _ _ (drops_it drops.BadUnit) (over_mesh (units.Carried mesh body) note now)

  plainly : (answer : List ℕ → Heard) (o : Option (List ℕ)) → BodyFate g key b (hear_plain l answer o)
  plainly answer None = drops_it drops.BadUnit
  plainly answer (Some body) = rests (Ok (answer body)) (Err drops.Store)

  by_path : (path : Path) (unit : MeshUnit) (cost note now : ℕ) → BodyFate g key b (hear_unit l path unit cost note now)
  by_path (paths.Sealed from all k) unit cost note now =
      subst (λ r. BodyFate g key b (option_map_or (λ a. hear_sealed l a from all unit cost note now) (option_map (λ (h : Granted). h.address) r)
      (drop_it l drops.BadUnit))) (sym ring) (seals_heard from all unit cost note now)
  by_path (paths.Up from) unit cost note now = plainly _ (is_joining unit)
  by_path (paths.Down from) unit cost note now = plainly _ (is_joining unit)

  by_unit : (path : Path) (o : Option MeshUnit) (cost note now : ℕ) → BodyFate g key b (hear_unit_in l path o cost note now)
  by_unit path None cost note now = drops_it drops.BadUnit
  by_unit path (Some unit) cost note now = by_path path unit cost note now

pub body_fates : BodiesHaveFates
body_fates l g key got cost note now b ring keyed waits = by_unit l g key b ring keyed waits got.path (unit_in got.payload) cost note now
