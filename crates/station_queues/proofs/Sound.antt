-- What the bodies owe to their pool, over the calls that change both.
use Rattle.std.proofs.Common.{◌≡◌, ◌≢◌, ℕ, zero, suc, ◌+◌, ◌<◌, ◌≤◌, inl, inr, Bool, true, false, nat_lt, List, [], ◌∷◌, ◌++◌, length, map, get_or, Option}
use Rattle.std.proofs.Common.{Some, None, take, drop, refl, sym, ap, subst, ◌∙◌, arith}
use Rattle.std.proofs.lemmas.Bool.{cases_lt, ltb-false}
use Rattle.std.proofs.lemmas.List.{map-append}
use Rattle.std.proofs.lemmas.List.Sums.{sum_by_push, sum_by-remove, sum_by-cons}
use Rattle.std.proofs.lemmas.List.Edits.{get_or-remove_below, get_or-remove_above, length-remove}
use Rattle.std.proofs.lemmas.List.Elements.{All-nil, All-push, All-head, All-tail}
use Rattle.std.proofs.lemmas.List.Quantifiers.{all_pairs_push, all_pairs_remove}
use Rattle.std.specs.List.{All, remove, take-map, drop-map, list_any}
use Rattle.std.specs.Prelude.{◌==◌, ◌||◌, if◌then◌else◌}
use Rattle.fragment_buffers.specs.Reassembly.{Reassembly}
use Rattle.block_pool.specs.Pool.{PoolState, IsChain, chain_octets}
use Rattle.fragment_buffers.specs.PieceIntake.{blocks}
use Rattle.fragment_buffers.specs.Entries.{Entry, Keeps, Moves, IsOther, IsBounded, entry_at, reassemblies_in}
use Rattle.fragment_buffers.proofs.Octets.{map_same}
use Rattle.fragment_buffers.proofs.PieceWrites.{Stays}
use Rattle.fragment_buffers.proofs.PoolEntries.{kept_chain, gathered_same}
use Rattle.fragment_buffers.specs.Loads.{load_octets}
use Rattle.fragment_buffers.specs.WaitingBodies.{Body, waiting_blocks, no_room_in, is_awaited_in}
use Rattle.fragment_buffers.specs.Loads.{load_of}
use Rattle.station_queues.specs.Bodies.{Held, Slot}
use Rattle.station_queues.specs.BodiesInPool.{IsHeld, IsSound, body_in, bodies_in, blocks_of}

-- what a change makes of the chains that no reassembly has
abbrev pub Others : (p q : PoolState) (es fs : List Entry) → Type 0
Others p q es fs = (c : ℕ) → IsOther p es c → IsOther q fs c × (chain_octets q c ≡ chain_octets p c)

held_stays : (p q : PoolState) (es fs : List Entry) (w : Slot) → Others p q es fs → IsHeld p es w → IsHeld q fs w
held_stays p q es fs w others h =
    let stays = others w.chain h.other in
    record { other = stays.0; long = ap length stays.1 ∙ h.long; some = h.some; fits = h.fits; command = h.command }

body_same : (p q : PoolState) (w : Slot) → chain_octets q w.chain ≡ chain_octets p w.chain → body_in q w ≡ body_in p w
body_same p q w e = ap (λ os. record { to = w.to; note = w.note; since = w.since; load = load_of w.tag os }) e

pub bodies_same : (p q : PoolState) (es fs : List Entry) (ws : List Slot) → Others p q es fs → All (IsHeld p es) ws → bodies_in q ws ≡ bodies_in p ws
bodies_same p q es fs ws others waits = map_same (body_in q) (body_in p) ws (λ i d lt. body_same p q (get_or ws i d) (others _ (waits i d lt).other).1)

-- # Reassemblies change

pub sound_moves : (p q : PoolState) (es fs : List Entry) (ws : List Slot) → IsSound p es ws → Keeps q fs → IsBounded fs → Moves p q es fs → IsSound q fs ws
sound_moves p q es fs ws s keeps bounded moves = record {
  keeps = keeps;
  bounded = bounded;
  waits = λ i d lt. held_stays p q es fs (get_or ws i d) moves.others (s.waits i d lt);
  distinct = s.distinct;
  total = omega (arith, moves.free, s.total);
  few = s.few;
}

-- # A body more waits

-- a chain with these octets is taken from the pool
pub record Reserves (p q : PoolState) (w : Slot) (os : List ℕ) : Type 0 where
  pub new : IsChain p w.chain → ⊥
  pub there : IsChain q w.chain
  pub octets : chain_octets q w.chain ≡ os
  pub free : q.free + blocks w.size ≡ p.free
  pub others : (c : ℕ) → IsChain p c → Stays p q c

-- the body is as long as its octets, and has room
pub record HasRoom (ws : List Slot) (w : Slot) (os : List ℕ) : Type 0 where
  pub long : length os ≡ w.size
  pub some : 0 < w.size
  pub fits : w.size ≤ 1280
  pub command : w.tag ≡ None → w.size ≤ 374
  pub room : blocks_of ws + blocks w.size ≤ 80

others_reserved : (p q : PoolState) (es : List Entry) (w : Slot) (os : List ℕ) → Reserves p q w os → Others p q es es
others_reserved p q es w os r = λ c o. let stays = r.others c o.0 in ((stays.0, o.1), stays.1)

blocks_push : (ws : List Slot) (w : Slot) → blocks_of (ws ++ w ∷ []) ≡ blocks_of ws + blocks w.size
blocks_push ws w = sum_by_push (λ (v : Slot). blocks v.size) ws w

pub sound_push : (p q : PoolState) (es : List Entry) (ws : List Slot) (w : Slot) (os : List ℕ) → IsSound p es ws → Reserves p q w os → HasRoom ws w os
    → IsSound q es (ws ++ w ∷ [])
sound_push p q es ws w os s r room = record {
  keeps = record {
    lengths = λ i lt. ap length (r.others _ (kept_chain p es i s.keeps s.bounded.some lt)).1 ∙ s.keeps.lengths i lt;
    distinct = s.keeps.distinct;
    room = omega (arith, r.free, s.total, room.room);
  };
  bounded = s.bounded;
  waits = All-push (IsHeld q es) ws w (λ i d lt. held_stays p q es es (get_or ws i d) (others_reserved p q es w os r) (s.waits i d lt)) (record {
    other = (r.there, λ i lt same. r.new (subst (IsChain p) same (kept_chain p es i s.keeps s.bounded.some lt)));
    long = ap length r.octets ∙ room.long;
    some = room.some;
    fits = room.fits;
    command = room.command;
  });
  distinct = all_pairs_push (λ (v u : Slot). v.chain ≢ u.chain) ws w s.distinct (λ k d lt e. r.new (subst (IsChain p) e (s.waits k d lt).other.0));
  total = omega (arith, blocks_push ws w, r.free, s.total);
  few = omega (arith, blocks_push ws w, room.room);
}

pub gathered_push : (p q : PoolState) (es : List Entry) (ws : List Slot) (w : Slot) (os : List ℕ) → IsSound p es ws → Reserves p q w os
    → reassemblies_in q es ≡ reassemblies_in p es
gathered_push p q es ws w os s r = gathered_same p q es (λ i lt. (r.others _ (kept_chain p es i s.keeps s.bounded.some lt)).1)

pub bodies_push : (p q : PoolState) (es : List Entry) (ws : List Slot) (w : Slot) (os : List ℕ) → IsSound p es ws → Reserves p q w os
    → bodies_in q (ws ++ w ∷ []) ≡ bodies_in p ws ++ record { to = w.to; note = w.note; since = w.since; load = load_of w.tag os } ∷ []
bodies_push p q es ws w os s r =
    map-append (body_in q) ws (w ∷ [])
    ∙ (λ i. bodies_same p q es es ws (others_reserved p q es w os r) s.waits i
    ++ record { to = w.to; note = w.note; since = w.since; load = load_of w.tag (r.octets i) } ∷ [])

-- # A body less waits

-- the chain of the body at a place is given back
pub record Returns (p q : PoolState) (ws : List Slot) (i : ℕ) (w : Slot) : Type 0 where
  pub there : i < length ws
  pub is : (d : Slot) → get_or ws i d ≡ w
  pub free : q.free ≡ p.free + blocks w.size
  pub others : (c : ℕ) → (c ≡ w.chain → ⊥) → IsChain p c → Stays p q c

-- what is left at a place is held, and its chain is another one
record IsLeft (p : PoolState) (es : List Entry) (w v : Slot) : Type 0 where
  pub held : IsHeld p es v
  pub apart : v.chain ≡ w.chain → ⊥

left_at : (p q : PoolState) (es : List Entry) (ws : List Slot) (i : ℕ) (w : Slot) → IsSound p es ws → Returns p q ws i w
    → (j : ℕ) (d : Slot) → j < length (remove ws i) → IsLeft p es w (get_or (remove ws i) j d)
left_at p q es ws i w s r j d lt =
    let long : length (remove ws i) + 1 ≡ length ws = length-remove ws i r.there in
    elim (cases_lt j i) as (λ _. IsLeft p es w (get_or (remove ws i) j d)) [
      | inl less ↦ subst (IsLeft p es w) (sym (get_or-remove_below ws i d j less r.there)) (record {
        held = s.waits j d (omega (arith, long));
        apart = λ e. s.distinct j i d less r.there (e ∙ sym (ap (λ (v : Slot). v.chain) (r.is d)));
      })
      | inr more ↦ subst (IsLeft p es w) (sym (get_or-remove_above ws i d j more r.there)) (record {
        held = s.waits (j + 1) d (omega (arith, long));
        apart = λ e. s.distinct i (j + 1) d (omega (arith, more)) (omega (arith, long)) (ap (λ (v : Slot). v.chain) (r.is d) ∙ sym e);
      })
    ]

-- a chain of the pool that is not the one stays another one
other_stays : (p q : PoolState) (es : List Entry) (ws : List Slot) (i : ℕ) (w : Slot) → Returns p q ws i w → (c : ℕ) → (c ≡ w.chain → ⊥) → IsOther p es c
    → IsOther q es c × (chain_octets q c ≡ chain_octets p c)
other_stays p q es ws i w r c ne o = let stays = r.others c ne o.0 in ((stays.0, o.1), stays.1)

entry_apart : (p q : PoolState) (es : List Entry) (ws : List Slot) (i : ℕ) (w : Slot) → IsSound p es ws → Returns p q ws i w
    → (k : ℕ) → k < length es → (entry_at es k).chain ≡ w.chain → ⊥
entry_apart p q es ws i w s r k lt = (subst (IsHeld p es) (r.is w) (s.waits i w r.there)).other.1 k lt

pub sound_remove : (p q : PoolState) (es : List Entry) (ws : List Slot) (i : ℕ) (w : Slot) → IsSound p es ws → Returns p q ws i w → IsSound q es (remove ws i)
sound_remove p q es ws i w s r =
    let sum : blocks_of (remove ws i) + blocks w.size ≡ blocks_of ws =
    ap (λ (v : Slot). blocks_of (remove ws i) + blocks v.size) (sym (r.is w)) ∙ sum_by-remove (λ (v : Slot). blocks v.size) ws i w r.there in
    record {
      keeps = record {
        lengths = λ k lt. ap length (r.others _ (entry_apart p q es ws i w s r k lt) (kept_chain p es k s.keeps s.bounded.some lt)).1 ∙ s.keeps.lengths k lt;
        distinct = s.keeps.distinct;
        room = omega (arith, r.free, s.keeps.room);
      };
      bounded = s.bounded;
      waits = λ j d lt.
          let left = left_at p q es ws i w s r j d lt in
          let stays = other_stays p q es ws i w r _ left.apart left.held.other in
          record { other = stays.0; long = ap length stays.1 ∙ left.held.long; some = left.held.some; fits = left.held.fits; command = left.held.command };
      distinct = all_pairs_remove (λ (v u : Slot). v.chain ≢ u.chain) ws i r.there s.distinct;
      total = omega (arith, sum, r.free, s.total);
      few = omega (arith, sum, s.few);
    }

pub gathered_remove : (p q : PoolState) (es : List Entry) (ws : List Slot) (i : ℕ) (w : Slot) → IsSound p es ws → Returns p q ws i w
    → reassemblies_in q es ≡ reassemblies_in p es
gathered_remove p q es ws i w s r =
    gathered_same p q es (λ k lt. (r.others _ (entry_apart p q es ws i w s r k lt) (kept_chain p es k s.keeps s.bounded.some lt)).1)

bodies_left : (p q : PoolState) (es : List Entry) (ws : List Slot) (i : ℕ) (w : Slot) → IsSound p es ws → Returns p q ws i w
    → bodies_in q (remove ws i) ≡ bodies_in p (remove ws i)
bodies_left p q es ws i w s r =
    map_same (body_in q) (body_in p) (remove ws i) (λ j d lt.
    let left = left_at p q es ws i w s r j d lt in
    body_same p q (get_or (remove ws i) j d) (other_stays p q es ws i w r _ left.apart left.held.other).1)

pub bodies_remove : (p q : PoolState) (es : List Entry) (ws : List Slot) (i : ℕ) (w : Slot) → IsSound p es ws → Returns p q ws i w
    → bodies_in q (remove ws i) ≡ remove (bodies_in p ws) i
bodies_remove p q es ws i w s r = bodies_left p q es ws i w s r ∙ map_remove (body_in p) ws i
  where
    map_remove : (f : Slot → Body) (xs : List Slot) (k : ℕ) → map f (remove xs k) ≡ remove (map f xs) k
    map_remove f xs k = map-append f (take k xs) (drop (suc k) xs) ∙ ap (λ ys. ys ++ map f (drop (suc k) xs)) (sym (take-map f k xs))
        ∙ ap (λ ys. take k (map f xs) ++ ys) (sym (drop-map f (suc k) xs))

-- # Blocks

load_long : (pool : PoolState) (w : Slot) → length (load_octets (body_in pool w).load) ≡ length (chain_octets pool w.chain)
load_long pool w = by_tag w.tag
  where
    by_tag : (tag : Option ℕ) → length (load_octets (load_of tag (chain_octets pool w.chain))) ≡ length (chain_octets pool w.chain)
    by_tag None = refl
    by_tag (Some t) = refl

-- the blocks that the bodies fill are those of their chains
pub blocks_same : (p : PoolState) (es : List Entry) (ws : List Slot) → All (IsHeld p es) ws → waiting_blocks (bodies_in p ws) ≡ blocks_of ws
blocks_same p es [] h = refl
blocks_same p es (w ∷ ws) h =
    let held : IsHeld p es w = All-head (IsHeld p es) w ws h in
    sum_by-cons (λ (b : Body). blocks (length (load_octets b.load))) (body_in p w) (bodies_in p ws)
    ∙ (λ i. blocks ((load_long p w ∙ held.long) i) + blocks_same p es ws (All-tail (IsHeld p es) w ws h) i)
    ∙ sym (sum_by-cons (λ (v : Slot). blocks v.size) w ws)

-- where there is room for this many octets, there is
pub room_is : (p : PoolState) (es : List Entry) (ws : List Slot) (h : Held) (octets : ℕ)
    → record { reassemblies = reassemblies_in p es; waiting = bodies_in p ws } ≡ h
    → All (IsHeld p es) ws
    → no_room_in h.waiting octets ≡ false → blocks_of ws + blocks octets ≤ 80
room_is p es ws h octets view waits free =
    let same : waiting_blocks h.waiting ≡ blocks_of ws = ap (λ (k : Held). waiting_blocks k.waiting) (sym view) ∙ blocks_same p es ws waits in
    omega (arith, same, by_count (nat_lt (length h.waiting) 8) free)
  where
    by_count : (b : Bool) → (if b then nat_lt 80 (waiting_blocks h.waiting + blocks octets) else true) ≡ false → waiting_blocks h.waiting + blocks octets ≤ 80
    by_count true e = ltb-false _ _ e
    by_count false e = cc

-- what a contract sees after the reassemblies have changed
pub seen_moved : (p q : PoolState) (es fs : List Entry) (ws : List Slot) (h : Held) (rs : List Reassembly)
    → record { reassemblies = reassemblies_in p es; waiting = bodies_in p ws } ≡ h
    → IsSound p es ws → Moves p q es fs → reassemblies_in q fs ≡ rs
    → ◌≡◌ {A = Held} (record { reassemblies = reassemblies_in q fs; waiting = bodies_in q ws }) (record { reassemblies = rs; waiting = h.waiting })
seen_moved p q es fs ws h rs view s moves t =
    let same : bodies_in q ws ≡ h.waiting = bodies_same p q es fs ws moves.others s.waits ∙ ap (λ (k : Held). k.waiting) view in
    λ i. record { reassemblies = t i; waiting = same i }

-- and after the waiting bodies have
pub seen_waiting : (p q : PoolState) (es : List Entry) (ws vs : List Slot) (h : Held) (bs : List Body)
    → record { reassemblies = reassemblies_in p es; waiting = bodies_in p ws } ≡ h
    → reassemblies_in q es ≡ reassemblies_in p es → bodies_in q vs ≡ bs
    → ◌≡◌ {A = Held} (record { reassemblies = reassemblies_in q es; waiting = bodies_in q vs }) (record { reassemblies = h.reassemblies; waiting = bs })
seen_waiting p q es ws vs h bs view t b =
    let same : reassemblies_in q es ≡ h.reassemblies = t ∙ ap (λ (k : Held). k.reassemblies) view in
    λ i. record { reassemblies = same i; waiting = b i }

-- an address is awaited where a body for it waits
pub awaited_same : (p : PoolState) (ws : List Slot) (to : ℕ) → list_any (λ (w : Slot). w.to == to) ws ≡ is_awaited_in (bodies_in p ws) to
awaited_same p [] to = refl
awaited_same p (w ∷ ws) to = ap (λ b. (w.to == to) || b) (awaited_same p ws to)

pub bounded_none : (es : List Entry) → es ≡ [] → IsBounded es
bounded_none es e = subst IsBounded (sym e) (record { count = omega arith; blocks = omega arith; some = All-nil (λ (x : Entry). 0 < x.size) })

-- the body that stands at a place, whatever stands in for none
pub read_slot : (ws : List Slot) (i : ℕ) (w : Slot) → w ≡ get_or ws i w → i < length ws → (d : Slot) → get_or ws i d ≡ w
read_slot ws i w is lt d = any_or ws i d w lt ∙ sym is
  where
    any_or : (xs : List Slot) (k : ℕ) (d e : Slot) → k < length xs → get_or xs k d ≡ get_or xs k e
    any_or [] k d e lt = absurd (omega arith)
    any_or (x ∷ xs) zero d e lt = refl
    any_or (x ∷ xs) (suc k) d e lt = any_or xs k d e (omega arith)

-- the blocks, where a body more waits or a body less
pub blocks_more : (ws vs : List Slot) (w : Slot) → vs ≡ ws ++ w ∷ [] → blocks_of vs ≡ blocks_of ws + blocks w.size
blocks_more ws vs w e = ap blocks_of e ∙ blocks_push ws w

pub blocks_less : (ws vs : List Slot) (i : ℕ) (w : Slot) → vs ≡ remove ws i → i < length ws → ((d : Slot) → get_or ws i d ≡ w)
    → blocks_of vs + blocks w.size ≡ blocks_of ws
blocks_less ws vs i w e lt is =
    ap (λ us. blocks_of us + blocks w.size) e ∙ ap (λ (v : Slot). blocks_of (remove ws i) + blocks v.size) (sym (is w))
    ∙ sum_by-remove (λ (v : Slot). blocks v.size) ws i w lt
