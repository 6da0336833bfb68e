-- Before the first reassembly expires, none does.
use Rattle.std.proofs.Common.{◌≡◌, ℕ, ◌+◌, ◌<◌, ◌≤◌, Bool, true, false, cond, List, [], ◌∷◌, ◌++◌, Option, Some, None, refl, ap, ◌∙◌, arith}
use Rattle.std.specs.Prelude.{fold}
use Rattle.std.proofs.lemmas.Bool.{cond-true, lt-ltb}
use Rattle.std.proofs.lemmas.List.Elements.{All-cons, All-head, All-tail, All-map, All-filter}
use Rattle.plc_base.specs.Times.{is_within}
use Rattle.plc_base.proofs.EarlierEnds.{earlier, all_last}
use Rattle.block_pool.specs.Pool.{PoolState}
use Rattle.mesh_header.specs.Pieces.{Placed}
use Rattle.fragment_buffers.specs.Reassembly.{PlacedPiece, Reassembly, placed, begun, datagram_of, repeats, overlaps}
use Rattle.fragment_buffers.specs.PieceIntake.{Held, Full, taken, taken_in, has_room, same_name, grown, settled, joined, behind, unexpired}
use Rattle.fragment_buffers.specs.Entries.{Entry, reassemblies_in, reassembly_in}
use Rattle.fragment_buffers.specs.FirstEnd.{end_by, first_end, IsStill}
use Rattle.fragment_buffers.specs.declared.times.TheConstants.{REASSEMBLY_TIME}

-- what is computed is such a time
pub still : (pool : PoolState) (entries : List Entry) → IsStill (first_end entries) (reassemblies_in pool entries)
unfolding first_end
still pool entries =
    All-map (λ (r : Reassembly). fold end_by 18446744073709551615 entries ≤ r.since + REASSEMBLY_TIME) (reassembly_in pool) entries
    (all_last end_by (λ (time : ℕ) (e : Entry). time ≤ e.since + REASSEMBLY_TIME) (λ time e. earlier time (e.since + REASSEMBLY_TIME))
    (λ sooner later e le lasts. omega (arith, le, lasts)) entries 18446744073709551615).1

pub still_sooner : (a b : ℕ) (held : List Reassembly) → a ≤ b → IsStill b held → IsStill a held
still_sooner a b held le h = λ k d lt. omega (arith, le, h k d lt)

-- before the first end, a tick changes nothing
pub none_expires : (held : List Reassembly) (time now : ℕ) → now < time → IsStill time held → unexpired held now ≡ held
unfolding unexpired
none_expires [] time now lt h = refl
none_expires (r ∷ held) time now lt h =
    let one = All-head (λ (x : Reassembly). time ≤ x.since + REASSEMBLY_TIME) r held h in
    cond-true _ _ _ (lt-ltb now (r.since + REASSEMBLY_TIME) (omega (arith, lt, one)))
    ∙ ap (λ (rs : List Reassembly). r ∷ rs) (none_expires held time now lt (All-tail (λ (x : Reassembly). time ≤ x.since + REASSEMBLY_TIME) r held h))

pub still_unexpired : (held : List Reassembly) (time now : ℕ) → IsStill time held → IsStill time (unexpired held now)
unfolding unexpired
still_unexpired held time now h =
    All-filter (λ (r : Reassembly). is_within REASSEMBLY_TIME now r.since) (λ (r : Reassembly). time ≤ r.since + REASSEMBLY_TIME) held h

-- # A piece comes

more : (time : ℕ) (r : Reassembly) (rest : List Reassembly) → time ≤ r.since + REASSEMBLY_TIME → IsStill time rest → IsStill time (r ∷ rest)
more time r rest one h = All-cons (λ (x : Reassembly). time ≤ x.since + REASSEMBLY_TIME) r rest one h

still_settled : (o : Option (List ℕ)) (r : Reassembly) (rest : List Reassembly) (time : ℕ) → time ≤ r.since + REASSEMBLY_TIME → IsStill time rest
    → IsStill time (settled o r rest).held
still_settled None r rest time one h = more time r rest one h
still_settled (Some octets) r rest time one h = h

grown_lasts : (b : Bool) (r anew : Reassembly) (p : PlacedPiece) (time : ℕ) → time ≤ r.since + REASSEMBLY_TIME → time ≤ anew.since + REASSEMBLY_TIME
    → time ≤ (cond b anew (record r { pieces = r.pieces ++ p ∷ [] })).since + REASSEMBLY_TIME
grown_lasts true r anew p time old new = new
grown_lasts false r anew p time old new = old

still_joined : (b : Bool) (r anew : Reassembly) (p : PlacedPiece) (rest : List Reassembly) (time : ℕ) → time ≤ r.since + REASSEMBLY_TIME
    → time ≤ anew.since + REASSEMBLY_TIME
    → IsStill time rest
    → IsStill time (cond b (record { held = r ∷ rest; outcome = Held }) (settled (datagram_of (grown r anew p)) (grown r anew p) rest)).held
still_joined true r anew p rest time old new h = more time r rest old h
still_joined false r anew p rest time old new h =
    still_settled (datagram_of (grown r anew p)) (grown r anew p) rest time (grown_lasts (overlaps r.pieces p) r anew p time old new) h

still_named : (b : Bool) (r anew : Reassembly) (p : PlacedPiece) (rest : List Reassembly) (time : ℕ) → time ≤ r.since + REASSEMBLY_TIME
    → time ≤ anew.since + REASSEMBLY_TIME
    → IsStill time rest
    → IsStill time (taken_in rest anew p).held → IsStill time (cond b (joined r anew p rest) (behind r (taken_in rest anew p))).held
still_named true r anew p rest time old new h then = still_joined (repeats r.pieces p) r anew p rest time old new h
still_named false r anew p rest time old new h then = more time r (taken_in rest anew p).held old then

still_in : (held : List Reassembly) (anew : Reassembly) (p : PlacedPiece) (time : ℕ) → time ≤ anew.since + REASSEMBLY_TIME → IsStill time held
    → IsStill time (taken_in held anew p).held
unfolding taken_in
still_in [] anew p time new h = still_settled (datagram_of anew) anew [] time new h
still_in (r ∷ rest) anew p time new h =
    let old = All-head (λ (x : Reassembly). time ≤ x.since + REASSEMBLY_TIME) r rest h in
    let others = All-tail (λ (x : Reassembly). time ≤ x.since + REASSEMBLY_TIME) r rest h in
    still_named (same_name anew r) r anew p rest time old new others (still_in rest anew p time new others)

still_roomy : (b : Bool) (held : List Reassembly) (anew : Reassembly) (p : PlacedPiece) (time : ℕ) → IsStill time held
    → IsStill time (taken_in held anew p).held
    → IsStill time (cond b (taken_in held anew p) (record { held = held; outcome = Full })).held
still_roomy true held anew p time h then = then
still_roomy false held anew p time h then = h

-- a piece begins no reassembly that expires within its time
pub still_taken : (held : List Reassembly) (origin : ℕ) (piece : Placed) (note now time : ℕ) → time ≤ now + REASSEMBLY_TIME → IsStill time held
    → IsStill time (taken held origin piece note now).held
unfolding taken
still_taken held origin piece note now time new h =
    let anew = begun origin piece note now in
    still_roomy (has_room held anew) held anew (placed piece) time h (still_in held anew (placed piece) time new h)
