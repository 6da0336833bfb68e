-- No word of the line doubles an octet of a datagram.
use Rattle.std.proofs.Common.{◌≡◌, ℕ, zero, suc, ◌+◌, ◌-◌, ◌*◌, ◌≤◌, ◌<◌, min, cond, eqb, Bool, true, false, not, List, [], ◌∷◌, length, take, drop, map, refl}
use Rattle.std.proofs.Common.{sym, ap, ◌∙◌, arith}
use Rattle.std.specs.Prelude.{nat_le}
use Rattle.std.specs.Int.{div_ceil}
use Rattle.std.specs.List.{filter, sum_by, flat_map, range_with_len}
use Rattle.std.proofs.lemmas.Bool.Decides.{nat_tests}
use Rattle.std.proofs.lemmas.List.{length-take, length-drop}
use Rattle.std.proofs.lemmas.List.Sums.{sum_by-cons, sum_by-append}
use Rattle.std.proofs.lemmas.List.Filters.{sum_by-filter_both}
use Rattle.mesh_header.specs.declared.unit.Unit.{Unit as MeshUnit}
use Rattle.mesh_header.specs.declared.unit.Unit.TheVariants as units
use Rattle.fragment_buffers.specs.Fragmentation.{piece_of, pieces_cut}
use Rattle.node_rules.specs.Memory.{StationMemory, Body, Load, Datagram, Command}
use Rattle.node_rules.specs.Drafts.{Draft, UnsealedUnit, own_mesh, units_of, all_go, waits_for, with_rank, with_own_number, with_next_tag, with_ring}
use Rattle.node_rules.specs.Drafts.{with_routing_by, goes, body_goes, waits, leave}
use Rattle.line_laws.specs.Custody.{weigh, below, covers, content_is, load_is, out_is, body_is}
use Rattle.line_laws.proofs.Made.{Given, IsCome, IsLess, Whole, Part, Carried, RingWord, Carry, AreUnnoted, IsAlone, Unnoted, Alone, IsSaid, Seeks, Answers}
use Rattle.line_laws.proofs.Made.{Relays, Passes, SaysTheSame, Forwards, Made, Starts, Ranks, Numbers, Tags, Rings, Idles, Loses, Goes, Sends, Waits, Leaves}

-- # A cut

split_covers : (i from one count : ℕ) → covers i from (min one count) + covers i (from + one) (count - one) ≤ covers i from count
split_covers i from one count = grind (arith, nat_tests)

covers_below : (i count : ℕ) → covers i 0 count ≤ below i count
covers_below i count = grind (arith, nat_tests)

module _ (i own to : ℕ) (d : List ℕ) (tag : ℕ) where
  abbrev part : ℕ → MeshUnit
  part k = units.Part (own_mesh own to) (piece_of d tag k)

  part_is : (k : ℕ) → content_is i (part k) ≡ covers i (368 * k) (min 368 (length d - 368 * k))
  part_is k =
      let len : length (take 368 (drop (368 * k) d))
      ≡ min 368 (length d - 368 * k) = length-take 368 (drop (368 * k) d) ∙ ap (min 368) (length-drop (368 * k) d) in
      let start : 46 * k * 8 ≡ 368 * k = omega arith in
      λ j. covers i (start j) (len j)

  -- the pieces from the k-th on
  cut_sum : (count k : ℕ) → sum_by (content_is i) (map (λ piece. units.Part (own_mesh own to) piece) (map (piece_of d tag) (range_with_len k count)))
      ≤ covers i (368 * k) (length d - 368 * k)
  cut_sum zero k = omega arith
  cut_sum (suc count) k =
      let rest : sum_by (content_is i) (map (λ piece. units.Part (own_mesh own to) piece) (map (piece_of d tag) (range_with_len (k + 1) count)))
      ≤ covers i (368 * (k + 1)) (length d - 368 * (k + 1)) = cut_sum count (k + 1) in
      let place : 368 * (k + 1) ≡ 368 * k + 368 = omega arith in
      let left : length d - 368 * (k + 1) ≡ length d - 368 * k - 368 = omega arith in
      let there : covers i (368 * (k + 1)) (length d - 368 * (k + 1))
      ≡ covers i (368 * k + 368) (length d - 368 * k - 368) = λ j. covers i (place j) (left j) in
      let one : content_is i (part k) ≡ covers i (368 * k) (min 368 (length d - 368 * k)) = part_is k in
      let split : covers i (368 * k) (min 368 (length d - 368 * k)) + covers i (368 * k + 368) (length d - 368 * k - 368)
      ≤ covers i (368 * k) (length d - 368 * k) = split_covers i (368 * k) 368 (length d - 368 * k) in
      rw (sum_by-cons (content_is i) (part k) (map (λ piece. units.Part (own_mesh own to) piece) (map (piece_of d tag) (range_with_len (k + 1) count))))
      (omega arith)

-- what a body is cut into has each of its octets once at most
units_sum : (i own to : ℕ) (load : Load) → sum_by (content_is i) (units_of own to load) ≤ load_is i load
unfolding pieces_cut
units_sum i own to (Command octets) = omega arith
units_sum i own to (Datagram octets tag) = by_size (nat_le (length octets) 375) refl
  where
    by_size : (b : Bool) → nat_le (length octets) 375 ≡ b → sum_by (content_is i) (units_of own to (Datagram octets tag)) ≤ below i (length octets)
    by_size true t = rw t (omega arith)
    by_size false t =
        let all : sum_by (content_is i) (map (λ piece. units.Part (own_mesh own to) piece)
        (map (piece_of octets tag) (range_with_len 0 (div_ceil (length octets) 368))))
        ≤ covers i (368 * 0) (length octets - 368 * 0) = cut_sum i own to octets tag (div_ceil (length octets) 368) 0 in
        let none : length octets - 368 * 0 ≡ length octets = omega arith in
        let same : covers i (368 * 0) (length octets - 368 * 0) ≡ covers i 0 (length octets) = ap (covers i 0) none in
        let whole : covers i 0 (length octets) ≤ below i (length octets) = covers_below i (length octets) in
        rw t (omega arith)

-- # Sums with notes

weigh_less : (b : Bool) (k m : ℕ) → k ≤ m → cond b k 0 ≤ cond b m 0
weigh_less true k m h = h
weigh_less false k m h = omega arith

all_go_sum : (n i hop note : ℕ) (b : Bool) → eqb note n ≡ b → (us : List MeshUnit)
    → sum_by (out_is n i) (all_go hop note us) ≡ cond b (sum_by (content_is i) us) 0
all_go_sum n i hop note true t [] = refl
all_go_sum n i hop note false t [] = refl
all_go_sum n i hop note true t (u ∷ us) = sum_by-cons (out_is n i) (record { to = hop; unit = u; note = note }) (all_go hop note us)
    ∙ (λ j. cond (t j) (content_is i u) 0 + all_go_sum n i hop note true t us j) ∙ sym (sum_by-cons (content_is i) u us)
all_go_sum n i hop note false t (u ∷ us) = sum_by-cons (out_is n i) (record { to = hop; unit = u; note = note }) (all_go hop note us)
    ∙ (λ j. cond (t j) (content_is i u) 0 + all_go_sum n i hop note false t us j)

-- a body weighs as much on its way as waiting, or less
pub body_out : (n i own hop to note : ℕ) (load : Load) → sum_by (out_is n i) (all_go hop note (units_of own to load)) ≤ weigh n note (load_is i load)
body_out n i own hop to note load =
    rw (all_go_sum n i hop note (eqb note n) refl (units_of own to load)) (weigh_less (eqb note n) _ _ (units_sum i own to load))

bodies_out : (n i own hop : ℕ) (bodies : List Body)
    → sum_by (out_is n i) (flat_map (λ b. all_go hop b.note (units_of own b.to b.load)) bodies) ≤ sum_by (body_is n i) bodies
bodies_out n i own hop [] = omega arith
bodies_out n i own hop (b ∷ bodies) =
    let one : sum_by (out_is n i) (all_go hop b.note (units_of own b.to b.load)) ≤ body_is n i b = body_out n i own hop b.to b.note b.load in
    let rest = bodies_out n i own hop bodies in
    rw (
      sum_by-append (out_is n i) (all_go hop b.note (units_of own b.to b.load)) (flat_map (λ b. all_go hop b.note (units_of own b.to b.load)) bodies),
      sum_by-cons (body_is n i) b bodies,
    ) (omega arith)

no_note : (n k : ℕ) → 0 < n → weigh n 0 k ≡ 0
no_note n k h = grind (arith, nat_tests)

unnoted_sum : (n i : ℕ) (us : List UnsealedUnit) → 0 < n → AreUnnoted us → sum_by (out_is n i) us ≡ 0
unnoted_sum n i [] some h = refl
unnoted_sum n i (o ∷ us) some h = sum_by-cons (out_is n i) o us ∙ (λ j. weigh n (h.0 j) (content_is i o.unit) + unnoted_sum n i us some h.1 j)
    ∙ omega (arith, no_note n (content_is i o.unit) some)

-- a unit weighs the same with one hop less
less_content : (i : ℕ) (u less : MeshUnit) → IsLess u less → content_is i less ≡ content_is i u
less_content i u less (Whole mesh octets) = refl
less_content i u less (Part mesh piece) = refl
less_content i u less (Carried mesh body) = refl

-- # The fold

-- What a call may bring: what came of a frame under its note, or the body that is sent out.
pub record Brings (W : RingWord → Type 0) (g : Given) (n i brought : ℕ) : Type 0 where
  pub comes : (by : ℕ) (u : MeshUnit) → IsCome g by false u → weigh n g.note (content_is i u) ≤ brought
  pub carries : (to note : ℕ) (load : Load) → W (Carry to note load) → weigh n note (load_is i load) ≤ brought

-- what waits and what goes out
abbrev pub moving : ℕ → ℕ → Draft StationMemory → ℕ
moving n i d = sum_by (body_is n i) d.memory.waiting + sum_by (out_is n i) d.units

module _ (W : RingWord → Type 0) (g : Given) (n i brought : ℕ) (some : 0 < n) (brings : Brings W g n i brought) (s : Draft StationMemory) where
  -- what is said weighs what came, and a route message nothing
  said_sum : (d : Draft StationMemory) (to : ℕ) (unit : MeshUnit) (note : ℕ) → IsSaid W g s d to unit note → weigh n note (content_is i unit) ≤ brought
  said_sum d to unit note (Seeks own dest number k load here last low carried) = omega (arith, no_note n 0 some)
  said_sum d to unit note (Answers own by origin number k c dest here last low came_so) = omega (arith, no_note n 0 some)
  said_sum d to unit note (Relays by origin dest k c rank o just came_so) = omega (arith, no_note n 0 some)
  said_sum d to unit note (Passes by origin t hop k c rank o just came_so there) = omega (arith, no_note n 0 some)
  said_sum d to unit note (SaysTheSame hop lost t dest why there) = omega (arith, no_note n 0 some)
  said_sum d to unit note (Forwards by hop dest u less came is there) =
      let one = brings.comes by u came in
      let same : weigh n g.note (content_is i less) ≡ weigh n g.note (content_is i u) = ap (weigh n g.note) (less_content i u less is) in omega arith

  -- what goes alone comes on top of what waited
  alone_sum : (d : Draft StationMemory) (note k : ℕ) → IsAlone s d note → weigh n note k ≤ brought → moving n i d ≤ moving n i s + brought
      → moving n i d + weigh n note k ≤ moving n i s + brought
  alone_sum d note k Unnoted one h = let zero_is = no_note n k some in omega arith
  alone_sum d note k (Alone _ same none) one h =
      let zero_is = unnoted_sum n i d.units some none in
      let waited : sum_by (body_is n i) d.memory.waiting ≡ sum_by (body_is n i) s.memory.waiting = ap (sum_by (body_is n i)) same in
      omega arith

  pub made_moves : (d : Draft StationMemory) → Made W g s d → moving n i d ≤ moving n i s + brought
  unfolding with_rank with_own_number with_next_tag with_ring with_routing_by goes body_goes waits leave
  made_moves d Starts = omega arith
  made_moves d (Ranks by origin rank e made o fits) = made_moves e made
  made_moves d (Numbers e made left) = made_moves e made
  made_moves d (Tags e made first) = made_moves e made
  made_moves d (Rings x e made change) = made_moves e made
  made_moves d (Idles e made) = let h = made_moves e made in omega arith
  made_moves d (Loses lost by e made) = made_moves e made
  made_moves d (Goes to unit note e made said alone) =
      let h = alone_sum e note (content_is i unit) alone (said_sum e to unit note said) (made_moves e made) in
      rw (sum_by-append (out_is n i) e.units (record { to = to; unit = unit; note = note } ∷ [])) (omega arith)
  made_moves d (Sends own hop to note load e made here there short carried alone) =
      let h = alone_sum e note (load_is i load) alone (brings.carries to note load carried) (made_moves e made) in
      let out = body_out n i own hop to note load in
      rw (sum_by-append (out_is n i) e.units (all_go hop note (units_of own to load))) (omega arith)
  made_moves d (Waits to note load now e made none room short carried alone) =
      let h = alone_sum e note (load_is i load) alone (brings.carries to note load carried) (made_moves e made) in
      rw (sum_by-append (body_is n i) e.memory.waiting (record { to = to; note = note; since = now; load = load } ∷ [])) (omega arith)
  made_moves d (Leaves own dest hop rank e made here o) =
      let h = made_moves e made in
      let out = bodies_out n i own hop (filter (waits_for dest) e.memory.waiting) in
      let both = sum_by-filter_both (waits_for dest) (λ b. not (waits_for dest b)) (λ b. refl) (body_is n i) e.memory.waiting in
      rw (sum_by-append (out_is n i) e.units (flat_map (λ b. all_go hop b.note (units_of own b.to b.load)) (filter (waits_for dest) e.memory.waiting)))
      (omega arith)
