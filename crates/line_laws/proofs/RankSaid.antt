-- The ranks that a node says are its own numbers at cost 0, or its kept ranks back them.
use Rattle.std.proofs.Common.{◌≡◌, inl, inr, ℕ, zero, suc, ◌+◌, ◌<◌, Bool, true, false, cond, List, [], ◌∷◌, ◌++◌, length, map, set, Option, Some, None, refl}
use Rattle.std.proofs.Common.{sym, ap, ◌∙◌, subst, arith}
use Rattle.std.specs.Prelude.{All, if◌then◌else◌, is_some, nat_le, nat_lt, ◌==◌, slice_get}
use Rattle.std.specs.List.{filter, flat_map, find, position_or_len}
use Rattle.std.specs.Option.{option_map, option_map_or, option_and_then, option_or}
use Rattle.std.proofs.lemmas.List.Folds.{find-set, find-append}
use Rattle.std.proofs.lemmas.List.Elements.{All-nil, All-cons, All-head, All-tail, All-push, All-append, All-map, All-weaker}
use Rattle.store_tables.proofs.SlotTables.{found}
use Rattle.plc_base.specs.Grant.{Granted}
use Rattle.plc_base.specs.declared.address.Eui.{Eui}
use Rattle.plc_base.specs.declared.key.Key.{Key}
use Rattle.mesh_header.specs.declared.unit.Unit.{Unit as MeshUnit}
use Rattle.mesh_header.specs.declared.unit.Unit.TheVariants as units
use Rattle.loadng_messages.specs.declared.message.Message.{Message}
use Rattle.loadng_messages.specs.declared.message.Message.TheVariants.{Rreq, Rrep, Rerr}
use Rattle.fragment_buffers.specs.Fragmentation as cutting
use Rattle.group_keys.specs.KeyRing as ring
use Rattle.routing_set.specs.declared.rank.Rank.{Rank}
use Rattle.routing_set.specs.declared.entry.RoutingEntry.{RoutingEntry}
use Rattle.routing_set.specs.Ranks.{IsAtLeast}
use Rattle.routing_set.specs.RoutingSet as routing
use Rattle.routing_set.specs.Histories.{IsRouting}
use Rattle.routing_set.proofs.Offers.{gone_among, place_there, entered_held, entered_new, entered_first, after_gone}
use Rattle.routing_set.proofs.LookUps.{is_at, is_at-true, entry_of-find}
use Rattle.node_rules.specs.Frames.{Sent, Sealed, Up as PlainUp, Down as PlainDown}
use Rattle.node_rules.specs.Memory.{StationMemory, Memory, Load, Datagram, Command, Body, address_of}
use Rattle.node_rules.specs.Drafts.{Draft, UnsealedUnit, empty_draft, with_rank, with_own_number, with_next_tag, with_ring, with_routing_by, goes, body_goes}
use Rattle.node_rules.specs.Drafts.{waits}
use Rattle.node_rules.specs.Drafts.{leave, waits_for, all_go, units_of, own_mesh, sealed_units, sealed_by, sealing_key}
use Rattle.node_rules.specs.MemoryDrafts.{on_station, station_part, with_memory_by, with_pair_tags, goes_up, goes_down}
use Rattle.node_rules.specs.Coordinators.{with_book_entry}
use Rattle.line_laws.proofs.Made.{RingWord, Install, Given, Offered, IsSaid, Seeks, Answers, Relays, Passes, SaysTheSame, Forwards, JustRanked, IsLess, Whole}
use Rattle.line_laws.proofs.Made.{Part}
use Rattle.line_laws.proofs.Made.{Carried, Made, Starts, Ranks, Numbers, Tags, Rings, Idles, Loses, Goes, Sends, Waits, Leaves}
use Rattle.line_laws.proofs.MadeIn.{unheard, MadeIn, Begins, Station, OnStation, Remembers, Tags as TagsIn, Enters, Up, Down}
use Rattle.line_laws.proofs.RankOrder.{at_least_trans}
use Rattle.line_laws.proofs.RankSteps.{held_kept}
use Rattle.line_laws.proofs.RankAccount.{offered_account, ended_account}
use Rattle.line_laws.proofs.RankFold.{IsAt, OfferFits, made_at, made_account, unheard_fits, beside_station, made_in_at, made_in_account}
pub use Rattle.line_laws.specs.Ranked.{IsSmall, RankBacked, MessageBacked, UnitBacked, Says, IsWhole, IsPart, IsCarried, IsOther}

-- # The rank that was offered last is kept

none_found : (entries : List RoutingEntry) (dest : ℕ) → routing.place_of entries dest ≡ None → find (is_at dest) entries ≡ None
none_found entries dest e = sym (entry_of-find entries dest) ∙ ap (option_and_then (slice_get entries)) e

first_place : (entries : List RoutingEntry) (dest place : ℕ) → routing.place_of entries dest ≡ Some place → place ≡ position_or_len (is_at dest) entries
first_place entries dest place e = by_within (nat_lt (position_or_len (is_at dest) entries) (length entries)) (position_or_len (is_at dest) entries) e
  where
    by_within : (within : Bool) (k : ℕ) → cond within (Some k) None ≡ Some place → place ≡ k
    by_within true k h = cc
    by_within false k h = absurd (cc (h))

set_new : (p : RoutingEntry → Bool) (entries : List RoutingEntry) (place : ℕ) (e : RoutingEntry) → find p entries ≡ None → place < length entries → p e ≡ true
    → find p (set entries place e) ≡ Some e
set_new p [] place e none within is = absurd (omega arith)
set_new p (x ∷ entries) zero e none within is = ap (λ (b : Bool). cond b (Some e) (find p entries)) is
set_new p (x ∷ entries) (suc place) e none within is = by_first (p x) refl (set_new p entries place e)
  where
    fails : (b : Bool) (o : Option RoutingEntry) → cond b (Some x) o ≡ None → (b ≡ false) × (o ≡ None)
    fails true o h = absurd (cc (h))
    fails false o h = (refl, h)

    by_first : (b : Bool) → p x ≡ b → (find p entries ≡ None → place < length entries → p e ≡ true → find p (set entries place e) ≡ Some e)
        → cond (p x) (Some x) (find p (set entries place e)) ≡ Some e
    by_first b same more =
        let f = fails (p x) (find p entries) none in
        ap (λ (c : Bool). cond c (Some x) (find p (set entries place e))) f.0 ∙ more f.1 (omega arith) is

push_new : (entries : List RoutingEntry) (e : RoutingEntry) → find (is_at e.address) entries ≡ None → find (is_at e.address) (entries ++ e ∷ []) ≡ Some e
push_new entries e none =
    find-append (is_at e.address) entries (e ∷ []) ∙ ap (λ o. option_or o (find (is_at e.address) (e ∷ []))) none
    ∙ ap (λ (b : Bool). cond b (Some e) None) (is_at-true e.address e refl)

pub entered_here : (r : routing.Routing) (e : RoutingEntry) (now : ℕ) → find (is_at e.address) (routing.entered r e now).entries ≡ Some e
entered_here r e now = by_place (routing.place_of r.entries e.address) refl
  where
    to : (s : routing.Routing) → routing.entered r e now ≡ s → find (is_at e.address) s.entries ≡ Some e
        → find (is_at e.address) (routing.entered r e now).entries ≡ Some e
    to s is h = subst (λ (t : routing.Routing). find (is_at e.address) t.entries ≡ Some e) (sym is) h

    by_given : routing.place_of r.entries e.address ≡ None → (g : RoutingEntry) → routing.first_to_go now r.entries ≡ Some g → (length r.entries == 64) ≡ true
        → (o : Option ℕ) → routing.place_of r.entries g.address ≡ o
        → is_some o ≡ true → find (is_at e.address) (routing.entered r e now).entries ≡ Some e
    by_given at g first whole None given there = absurd (cc (there))
    by_given at g first whole (Some k) given there =
        to _ (entered_first r e now at whole ∙ ap (λ (o : Option RoutingEntry). routing.after_of r o e) first ∙ after_gone r g e k given)
        (set_new (is_at e.address) r.entries k e (none_found r.entries e.address at) (found routing.ranks r.entries g.address k e given).0
        (is_at-true e.address e refl))

    by_gone : routing.place_of r.entries e.address ≡ None → (length r.entries == 64) ≡ true → (o : Option RoutingEntry) → routing.first_to_go now r.entries ≡ o
        → find (is_at e.address) (routing.entered r e now).entries ≡ Some e
    by_gone at whole None first =
        to (record { entries = r.entries ++ e ∷ []; floors = r.floors })
        (entered_first r e now at whole ∙ ap (λ (o : Option RoutingEntry). routing.after_of r o e) first
        ∙ ap (λ (o : Option ℕ). record { entries = option_map_or (λ place. set r.entries place e) o (r.entries ++ e ∷ []); floors = r.floors }) at)
        (push_new r.entries e (none_found r.entries e.address at))
    by_gone at whole (Some g) first =
        by_given at g first whole (routing.place_of r.entries g.address) refl (place_there r.entries g (gone_among now r.entries g first))

    by_length : routing.place_of r.entries e.address ≡ None → (whole : Bool) → (length r.entries == 64) ≡ whole
        → find (is_at e.address) (routing.entered r e now).entries ≡ Some e
    by_length at true is = by_gone at is (routing.first_to_go now r.entries) refl
    by_length at false is = to _ (entered_new r e now at is) (push_new r.entries e (none_found r.entries e.address at))

    by_place : (o : Option ℕ) → routing.place_of r.entries e.address ≡ o → find (is_at e.address) (routing.entered r e now).entries ≡ Some e
    by_place (Some k) at =
        to _ (entered_held r e now k at) (find-set (is_at e.address) r.entries k e (first_place r.entries e.address k at)
        (found routing.ranks r.entries e.address k e at).0 (is_at-true e.address e refl))
    by_place None at = by_length at (length r.entries == 64) refl

pub offered_held : (r : routing.Routing) (dest : ℕ) (rank : Rank) (by now : ℕ) → routing.held (routing.offered r dest rank by now) dest ≡ rank
unfolding routing.rank_of
offered_held r dest rank by now =
    let e : RoutingEntry = routing.offered_entry dest rank by now in
    held_kept (routing.offered r dest rank by now) dest rank
    (ap (option_map (λ (x : RoutingEntry). x.rank)) (entry_of-find (routing.offered r dest rank by now).entries dest ∙ entered_here r e now))

-- # What is said

-- a sealed frame has the own address and a unit that is backed
abbrev pub FrameBacked : (ℕ → Type 0) → routing.Routing → Sent → Type 0
FrameBacked At t (Sealed sealed_unit) = (At sealed_unit.from) × UnitBacked At t sealed_unit.unit
FrameBacked At t (PlainUp agent from message) = Unit {0}
FrameBacked At t (PlainDown from message) = Unit {0}

pub message_rises : (At : ℕ → Type 0) (t s : routing.Routing) (m : Message) → ((dest : ℕ) → IsAtLeast (routing.held s dest) (routing.held t dest))
    → MessageBacked At t m → MessageBacked At s m
message_rises At t s (Rreq number cost origin dest) up (inl same) = inl same
message_rises At t s (Rreq number cost origin dest) up (inr k) = inr (at_least_trans _ _ _ (up origin) k.0, k.1)
message_rises At t s (Rrep number cost origin to) up (inl same) = inl same
message_rises At t s (Rrep number cost origin to) up (inr k) = inr (at_least_trans _ _ _ (up origin) k.0, k.1)
message_rises At t s (Rerr lost to) up h = tt

pub unit_rises : (At : ℕ → Type 0) (t s : routing.Routing) (u : MeshUnit) → ((dest : ℕ) → IsAtLeast (routing.held s dest) (routing.held t dest))
    → UnitBacked At t u → UnitBacked At s u
unit_rises At t s u up (Says m h) = Says m (message_rises At t s m up h)
unit_rises At t s u up (IsWhole mesh octets) = IsWhole mesh octets
unit_rises At t s u up (IsPart mesh piece) = IsPart mesh piece
unit_rises At t s u up (IsCarried mesh body) = IsCarried mesh body
unit_rises At t s u up (IsOther code body other) = IsOther code body other

pub frame_rises : (At : ℕ → Type 0) (t s : routing.Routing) (f : Sent) → ((dest : ℕ) → IsAtLeast (routing.held s dest) (routing.held t dest))
    → FrameBacked At t f → FrameBacked At s f
frame_rises At t s (Sealed sealed_unit) up h = (h.0, unit_rises At t s sealed_unit.unit up h.1)
frame_rises At t s (PlainUp agent from message) up h = tt
frame_rises At t s (PlainDown from message) up h = tt

-- each unit on its way out is backed
abbrev pub Out : (ℕ → Type 0) → routing.Routing → UnsealedUnit → Type 0
Out At t o = UnitBacked At t o.unit

-- # Bodies

module _ (At : ℕ → Type 0) (t : routing.Routing) where
  load_backed : (from to : ℕ) (load : Load) → All (UnitBacked At t) (units_of from to load)
  load_backed from to (Datagram octets tag) = by_size (nat_le (length octets) 375)
    where
      by_size : (b : Bool) → All (UnitBacked At t)
          (if b then units.Whole (own_mesh from to) octets ∷ [] else map (λ piece. units.Part (own_mesh from to) piece) (cutting.pieces_cut octets tag))
      by_size true = All-push (UnitBacked At t) [] _ (All-nil (UnitBacked At t)) (IsWhole _ octets)
      by_size false = All-map (UnitBacked At t) (λ piece. units.Part (own_mesh from to) piece) (cutting.pieces_cut octets tag) (λ k d lt. IsPart _ _)
  load_backed from to (Command octets) = All-push (UnitBacked At t) [] _ (All-nil (UnitBacked At t)) (IsCarried _ _)

  go_backed : (hop note : ℕ) (us : List MeshUnit) → All (UnitBacked At t) us → All (Out At t) (all_go hop note us)
  go_backed hop note us all = All-map (Out At t) (λ unit. record { to = hop; unit = unit; note = note }) us all

  left_backed : (from hop : ℕ) (bodies : List Body) → All (Out At t) (flat_map (λ b. all_go hop b.note (units_of from b.to b.load)) bodies)
  left_backed from hop [] = All-nil (Out At t)
  left_backed from hop (b ∷ bodies) = All-append (Out At t) _ _ (go_backed hop b.note _ (load_backed from b.to b.load)) (left_backed from hop bodies)

  less_backed : (u v : MeshUnit) → IsLess u v → UnitBacked At t v
  less_backed u v (Whole mesh octets) = IsWhole _ octets
  less_backed u v (Part mesh piece) = IsPart _ piece
  less_backed u v (Carried mesh body) = IsCarried _ body

-- # A doing

module _ (At Own : ℕ → Type 0) (C : ℕ → ℕ → Rank → Type 0) (W : RingWord → Type 0) (g : Given)
    (installs : (granted : Granted) → W (Install granted) → At granted.address)
    (offers : (address : Option ℕ) → IsAt At address → (by origin : ℕ) (rank : Rank) → Offered g address by origin rank
    → OfferFits Own C by origin rank g.now) where
  just_held : (d : Draft StationMemory) (by origin : ℕ) (rank : Rank) → JustRanked g by origin rank d → routing.held d.memory.routing origin ≡ rank
  unfolding with_rank leave
  just_held d by origin rank j =
      ap (λ (x : Draft StationMemory). routing.held x.memory.routing origin) j.is ∙ offered_held j.before.memory.routing origin rank by g.now

  -- what is offered is small
  small : (d : Draft StationMemory) (by origin : ℕ) (rank : Rank) → IsAt At (address_of d.memory) → Offered g (address_of d.memory) by origin rank
      → IsSmall rank.number rank.cost origin
  small d by origin rank h o = let f = (offers (address_of d.memory) h by origin rank o).fits in let a = f.address in (f.number, f.cost, omega arith)

  said_backed : (s d : Draft StationMemory) (to : ℕ) (unit : MeshUnit) (note : ℕ) → IsSaid W g s d to unit note → IsAt At (address_of d.memory)
      → UnitBacked At d.memory.routing unit
  said_backed s d to unit note (Seeks x dest number n load here last some carried) h = Says (Rreq number 0 x dest) (inl (subst (IsAt At) here h, refl))
  said_backed s d to unit note (Answers x by origin number n c dest here last some came_so) h =
      Says (Rrep number 0 x origin) (inl (subst (IsAt At) here h, refl))
  said_backed s d to unit note (Relays by origin dest n c rank o just came_so) h =
      Says (Rreq rank.number rank.cost origin dest) (inr (inl (just_held d by origin rank just), small d by origin rank h o))
  said_backed s d to unit note (Passes by origin target hop n c rank o just came_so there) h =
      Says (Rrep rank.number rank.cost origin target) (inr (inl (just_held d by origin rank just), small d by origin rank h o))
  said_backed s d to unit note (SaysTheSame hop lost target dest why there) h = Says (Rerr lost target) tt
  said_backed s d to unit note (Forwards by hop dest u less came is there) h = less_backed At d.memory.routing u less is

  pub made_backed : (s d : Draft StationMemory) → Made W g s d → IsAt At (address_of s.memory) → IsRouting s.memory.routing
      → All (Out At s.memory.routing) s.units → All (Out At d.memory.routing) d.units
  unfolding with_rank with_own_number with_next_tag with_ring with_routing_by goes body_goes waits leave
  made_backed s d Starts h sound all = all
  made_backed s d (Ranks by origin rank e made o fits) h sound all =
      let a = made_account At Own C W g installs offers s e made h sound in
      let f = offers (address_of e.memory) (made_at At W installs g s e made h) by origin rank o in
      let b = offered_account {Own = Own} {C = C} e.memory.routing origin rank by g.now a.sound fits.better fits.room f.apart f.cause in
      All-weaker (Out At e.memory.routing) (Out At (routing.offered e.memory.routing origin rank by g.now))
      (λ u k. unit_rises At e.memory.routing (routing.offered e.memory.routing origin rank by g.now) u.unit b.above k) e.units
      (made_backed s e made h sound all)
  made_backed s d (Numbers e made left) h sound all = made_backed s e made h sound all
  made_backed s d (Tags e made first) h sound all = made_backed s e made h sound all
  made_backed s d (Rings r e made change) h sound all = made_backed s e made h sound all
  made_backed s d (Idles e made) h sound all =
      let b = ended_account {Own = Own} {C = C} e.memory.routing (λ _. true) (made_account At Own C W g installs offers s e made h sound).sound in
      All-weaker (Out At e.memory.routing) (Out At (routing.at_rest e.memory.routing))
      (λ u k. unit_rises At e.memory.routing (routing.at_rest e.memory.routing) u.unit b.above k) e.units (made_backed s e made h sound all)
  made_backed s d (Loses lost by e made) h sound all =
      let b = ended_account {Own = Own} {C = C} e.memory.routing _ (made_account At Own C W g installs offers s e made h sound).sound in
      All-weaker (Out At e.memory.routing) (Out At (routing.without_next_to e.memory.routing lost by))
      (λ u k. unit_rises At e.memory.routing (routing.without_next_to e.memory.routing lost by) u.unit b.above k) e.units (made_backed s e made h sound all)
  made_backed s d (Goes to unit note e made said alone) h sound all =
      All-push (Out At e.memory.routing) e.units _ (made_backed s e made h sound all) (said_backed s e to unit note said (made_at At W installs g s e made h))
  made_backed s d (Sends x hop to note load e made here there short carried alone) h sound all =
      All-append (Out At e.memory.routing) e.units _ (made_backed s e made h sound all)
      (go_backed At e.memory.routing hop note _ (load_backed At e.memory.routing x to load))
  made_backed s d (Waits to note load now e made none room short carried alone) h sound all = made_backed s e made h sound all
  made_backed s d (Leaves x dest hop rank e made here offered) h sound all =
      All-append (Out At e.memory.routing) e.units _ (made_backed s e made h sound all)
      (left_backed At e.memory.routing x hop (filter (waits_for dest) e.memory.waiting))

made_plain : (W : RingWord → Type 0) (g : Given) (s d : Draft StationMemory) → Made W g s d → d.plain ≡ s.plain
unfolding with_rank with_own_number with_next_tag with_ring with_routing_by goes body_goes waits leave
made_plain W g s d Starts = refl
made_plain W g s d (Ranks by origin rank e made o fits) = made_plain W g s e made
made_plain W g s d (Numbers e made left) = made_plain W g s e made
made_plain W g s d (Tags e made first) = made_plain W g s e made
made_plain W g s d (Rings r e made change) = made_plain W g s e made
made_plain W g s d (Idles e made) = made_plain W g s e made
made_plain W g s d (Loses lost by e made) = made_plain W g s e made
made_plain W g s d (Goes to unit note e made said alone) = made_plain W g s e made
made_plain W g s d (Sends x hop to note load e made here there short carried alone) = made_plain W g s e made
made_plain W g s d (Waits to note load now e made none room short carried alone) = made_plain W g s e made
made_plain W g s d (Leaves x dest hop rank e made here offered) = made_plain W g s e made

module _ (At Own : ℕ → Type 0) (C : ℕ → ℕ → Rank → Type 0) (W : RingWord → Type 0) (g : Given)
    (installs : (granted : Granted) → W (Install granted) → At granted.address)
    (offers : (address : Option ℕ) → IsAt At address → (by origin : ℕ) (rank : Rank) → Offered g address by origin rank
    → OfferFits Own C by origin rank g.now) where
  module _ (L : Granted → Type 0) (P : Eui → Key → Type 0) (E : Eui → Type 0) (m : Memory) where
    -- the plain frames are those of joining messages
    abbrev IsPlainFrame : Sent → Type 0
    IsPlainFrame (Sealed sealed_unit) = ⊥
    IsPlainFrame (PlainUp agent from message) = Unit {0}
    IsPlainFrame (PlainDown from message) = Unit {0}

    in_plain : (d : Draft Memory) → MadeIn W L P E g m d → All IsPlainFrame d.plain
    unfolding empty_draft on_station with_memory_by with_pair_tags with_book_entry goes_up goes_down
    in_plain d Begins = All-nil IsPlainFrame
    in_plain d (Station e made) = subst (All IsPlainFrame) (sym (made_plain W g (empty_draft m.station) e made)) (All-nil IsPlainFrame)
    in_plain d (OnStation word e made step) =
        subst (All IsPlainFrame) (sym (made_plain W (unheard g) (station_part e) (word (station_part e)) step)) (in_plain e made)
    in_plain d (Remembers change e made beside) = in_plain e made
    in_plain d (TagsIn made opened e x) = in_plain e x
    in_plain d (Enters x e made change) = in_plain e made
    in_plain d (Up agent x message e made) = All-push IsPlainFrame e.plain (PlainUp agent x message) (in_plain e made) tt
    in_plain d (Down x message e made) = All-push IsPlainFrame e.plain (PlainDown x message) (in_plain e made) tt

    in_backed : (d : Draft Memory) → MadeIn W L P E g m d → IsAt At (address_of m.station) → IsRouting m.station.routing
        → All (Out At d.memory.station.routing) d.units
    unfolding empty_draft on_station with_memory_by with_pair_tags with_book_entry goes_up goes_down
    in_backed d Begins h sound = All-nil (Out At m.station.routing)
    in_backed d (Station e made) h sound = made_backed At Own C W g installs offers (empty_draft m.station) e made h sound (All-nil (Out At m.station.routing))
    in_backed d (OnStation word e made step) h sound =
        let a = made_in_account At Own C W L P E g m installs offers e made h sound in
        made_backed At Own C W (unheard g) installs (unheard_fits At Own C g) (station_part e) (word (station_part e)) step
        (made_in_at At Own C W L P E g m installs offers e made h) a.sound (in_backed e made h sound)
    in_backed d (Remembers change e made beside) h sound =
        subst (λ (l : StationMemory). All (Out At l.routing) e.units) (sym (beside_station E e.memory (change e.memory) beside)) (in_backed e made h sound)
    in_backed d (TagsIn made opened e x) h sound = in_backed e x h sound
    in_backed d (Enters x e made change) h sound = in_backed e made h sound
    in_backed d (Up agent x message e made) h sound = in_backed e made h sound
    in_backed d (Down x message e made) h sound = in_backed e made h sound

    -- the letters that seal units
    sealed_units_backed : (t : routing.Routing) (gr : Granted) (key : Key) (first : ℕ) (us : List UnsealedUnit) → At gr.address → All (Out At t) us
        → All (FrameBacked At t) (sealed_units gr key first us)
    sealed_units_backed t gr key first [] is all = All-nil (FrameBacked At t)
    sealed_units_backed t gr key first (o ∷ us) is all =
        All-cons (FrameBacked At t) _ _ (is, All-head (Out At t) o us all) (sealed_units_backed t gr key (first + 1) us is (All-tail (Out At t) o us all))

    sealed_backed : (t : routing.Routing) (r : ring.Ring) (first : ℕ) (us : List UnsealedUnit) → IsAt At (option_map (λ (x : Granted). x.address) r)
        → All (Out At t) us → All (FrameBacked At t) (sealed_by r first us)
    sealed_backed t None first us h all = All-nil (FrameBacked At t)
    sealed_backed t (Some gr) first us h all = by_key (sealing_key gr)
      where
        by_key : (key : Option Key) → All (FrameBacked At t) (option_map_or (λ k. sealed_units gr k first us) key [])
        by_key None = All-nil (FrameBacked At t)
        by_key (Some key) = sealed_units_backed t gr key first us h all

    plain_backed : (t : routing.Routing) (f : Sent) → IsPlainFrame f → FrameBacked At t f
    plain_backed t (Sealed sealed_unit) h = absurd h
    plain_backed t (PlainUp agent from message) h = tt
    plain_backed t (PlainDown from message) h = tt

    -- all that goes out at the end of a doing
    pub frames_backed : (d : Draft Memory) (first : ℕ) → MadeIn W L P E g m d → IsAt At (address_of m.station) → IsRouting m.station.routing
        → All (FrameBacked At d.memory.station.routing) (d.plain ++ sealed_by d.memory.station.ring first d.units)
    frames_backed d first made h sound =
        let t = d.memory.station.routing in
        All-append (FrameBacked At t) d.plain _ (All-weaker IsPlainFrame (FrameBacked At t) (plain_backed t) d.plain (in_plain d made))
        (sealed_backed t d.memory.station.ring first d.units (made_in_at At Own C W L P E g m installs offers d made h) (in_backed d made h sound))
