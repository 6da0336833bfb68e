-- The units of the bodies that leave, one body after another.
use Rattle.std.proofs.Common.{◌≡◌, ℕ, suc, ◌+◌, ◌<◌, ◌≤◌, Bool, true, false, List, [], ◌∷◌, ◌++◌, Option, Some, None, length, take, drop, refl, sym, ap, ◌∙◌}
use Rattle.std.proofs.Common.{arith}
use Rattle.std.specs.Prelude.{if◌then◌else◌}
use Rattle.std.specs.List.{All, filter, flat_map}
use Rattle.std.proofs.Math.Seq.{take-suc}
use Rattle.std.proofs.lemmas.Grind.{flat_map-append}
use Rattle.std.proofs.lemmas.List.{length-append, length-map, take-append-drop, append-nil, take_all}
use Rattle.std.proofs.lemmas.List.Elements.{filter-append, All-nil, All-cons, All-head, All-tail}
use Rattle.block_pool.specs.Pool.{PoolState, chain_octets}
use Rattle.fragment_buffers.specs.Entries.{Entry, reassemblies_in}
use Rattle.fragment_buffers.specs.Loads.{IsShort, load_of, units_in}
use Rattle.fragment_buffers.specs.WaitingBodies.{Body, waits_for, units_by, leaving, pending_in}
use Rattle.fragment_buffers.proofs.Sizes.{length-all_go, length-units_of, leaving_units, few_pending}
use Rattle.station_queues.specs.Bodies.{Held, Slot}
use Rattle.station_queues.specs.BodiesInPool.{IsHeld, IsSound, body_in, bodies_in}
use Rattle.station_queues.specs.Frames.{body_at}
use Rattle.station_queues.proofs.Sound.{blocks_same}

pub leaving-append : (own dest hop : ℕ) (xs ys : List Body) → leaving own dest hop (xs ++ ys) ≡ leaving own dest hop xs ++ leaving own dest hop ys
unfolding leaving
leaving-append own dest hop xs ys = ap (flat_map (units_by own hop)) (filter-append (waits_for dest) xs ys)
    ∙ flat_map-append (units_by own hop) (filter (waits_for dest) xs) (filter (waits_for dest) ys)

pub leaving-suc : (own dest hop : ℕ) (ws : List Body) (k : ℕ) → k < length ws
    → leaving own dest hop (take (k + 1) ws) ≡ leaving own dest hop (take k ws) ++ leaving own dest hop (body_at ws k ∷ [])
leaving-suc own dest hop ws k lt = ap (λ n. leaving own dest hop (take n ws)) (one-more k) ∙ ap (leaving own dest hop) (take-suc ws k _ lt)
    ∙ leaving-append own dest hop (take k ws) (body_at ws k ∷ [])
  where
    one-more : (n : ℕ) → n + 1 ≡ suc n
    one-more n = omega arith

-- this many are not more than all
pub leaving-few : (own dest hop : ℕ) (ws : List Body) (k : ℕ) → length (leaving own dest hop (take k ws)) ≤ length (leaving own dest hop ws)
leaving-few own dest hop ws k =
    let all : leaving own dest hop ws ≡ leaving own dest hop (take k ws)
    ++ leaving own dest hop (drop k ws) = ap (leaving own dest hop) (sym (take-append-drop k ws)) ∙ leaving-append own dest hop (take k ws) (drop k ws) in
    omega (arith, ap length all, length-append (leaving own dest hop (take k ws)) (leaving own dest hop (drop k ws)))

pub one-leaves : (own dest hop : ℕ) (b : Body) → true ≡ waits_for dest b → units_by own hop b ≡ leaving own dest hop (b ∷ [])
unfolding leaving
one-leaves own dest hop b e = sym (append-nil (units_by own hop b)) ∙ ap (λ (t : Bool). flat_map (units_by own hop) (if t then b ∷ [] else [])) e

pub none-leaves : (own dest hop : ℕ) (b : Body) → false ≡ waits_for dest b → [] ≡ leaving own dest hop (b ∷ [])
unfolding leaving
none-leaves own dest hop b e = ap (λ (t : Bool). flat_map (units_by own hop) (if t then b ∷ [] else [])) e

pub length-units_by : (own hop : ℕ) (b : Body) → length (units_by own hop b) ≡ units_in b.load
length-units_by own hop b = length-all_go hop b.note _ ∙ length-units_of own b.to b.load

pub leaving-none : (own dest hop : ℕ) → [] ≡ leaving own dest hop []
unfolding leaving
leaving-none own dest hop = refl

pub leaving-all : (own dest hop : ℕ) (ws : List Body) (k : ℕ) → length ws ≤ k → leaving own dest hop (take k ws) ≡ leaving own dest hop ws
leaving-all own dest hop ws k le = ap (leaving own dest hop) (take_all k ws le)

-- there are never more than 21
short_loads : (p : PoolState) (es : List Entry) (ws : List Slot) → All (IsHeld p es) ws → All (λ (b : Body). IsShort b.load) (bodies_in p ws)
short_loads p es [] h = All-nil (λ (b : Body). IsShort b.load)
short_loads p es (w ∷ ws) h = All-cons (λ (b : Body). IsShort b.load) (body_in p w) (bodies_in p ws) (short (All-head (IsHeld p es) w ws h))
    (short_loads p es ws (All-tail (IsHeld p es) w ws h))
  where
    by_tag : (tag : Option ℕ) → length (chain_octets p w.chain) ≤ 1280 → IsShort (load_of tag (chain_octets p w.chain))
    by_tag None le = tt
    by_tag (Some t) le = le

    short : IsHeld p es w → IsShort (body_in p w).load
    short held = by_tag w.tag (omega (arith, held.long, held.fits))

pub few-units : (own dest hop : ℕ) (p : PoolState) (es : List Entry) (ws : List Slot) (h : Held)
    → record { reassemblies = reassemblies_in p es; waiting = bodies_in p ws } ≡ h → IsSound p es ws → length ws ≤ 8
    → length (leaving own dest hop h.waiting) ≤ 21
unfolding leaving
few-units own dest hop p es ws h view s count =
    let bodies : List Body = bodies_in p ws in
    let few : pending_in bodies ≤ 21 = few_pending bodies (omega (arith, count, length-map ws (body_in p))) (omega (arith, blocks_same p es ws s.waits, s.few))
    (short_loads p es ws s.waits) in
    omega (arith, ap (λ (k : Held). length (leaving own dest hop k.waiting)) view, leaving_units own dest hop bodies, few)
