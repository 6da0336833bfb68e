-- Before the first of the bodies ends, none does.
use Rattle.std.proofs.Common.{◌≡◌, ℕ, true, suc, ◌+◌, ◌<◌, ◌≤◌, List, [], ◌∷◌, ◌++◌, take, drop, refl, sym, ap, subst, ◌∙◌, arith}
use Rattle.std.specs.Prelude.{fold}
use Rattle.std.specs.List.{All, filter, remove}
use Rattle.std.proofs.lemmas.Bool.{cond-true, lt-ltb, ltb-true}
use Rattle.std.proofs.lemmas.List.Folds.{fold-map}
use Rattle.std.proofs.lemmas.List.Elements.{All-nil, All-head, All-tail, All-map, All-push, All-append, All-take, All-drop, filter_passes}
use Rattle.plc_base.specs.Times.{earlier_end, is_within}
use Rattle.plc_base.proofs.EarlierEnds.{earlier, all_last, all_after}
use Rattle.block_pool.specs.Pool.{PoolState}
use Rattle.mesh_header.specs.Pieces.{Placed}
use Rattle.fragment_buffers.specs.Reassembly.{Reassembly}
use Rattle.fragment_buffers.specs.PieceIntake.{taken, unexpired}
use Rattle.fragment_buffers.specs.Entries.{Entry, reassemblies_in, reassembly_in}
use Rattle.fragment_buffers.specs.WaitingBodies.{Body, still_waiting}
use Rattle.fragment_buffers.specs.FirstEnd as pieces
use Rattle.fragment_buffers.proofs.FirstEnds.{none_expires, still_sooner, still_taken, still_unexpired}
use Rattle.station_queues.specs.Bodies.{Held, Slot}
use Rattle.station_queues.specs.BodiesInPool.{body_in, bodies_in}
use Rattle.station_queues.specs.FirstEnd.{end_by, first_end, IsStill}
use Rattle.fragment_buffers.specs.declared.times.TheConstants.{REASSEMBLY_TIME, WAITING_TIME}

slots_last : (ws : List Slot) (time : ℕ) → (fold end_by time ws ≤ time) × All (λ w. fold end_by time ws ≤ w.since + WAITING_TIME) ws
slots_last ws time = all_last end_by (λ (time : ℕ) (w : Slot). time ≤ w.since + WAITING_TIME) (λ time w. earlier time (w.since + WAITING_TIME))
    (λ sooner later w le lasts. omega (arith, le, lasts)) ws time

-- what is computed is such a time
pub still : (pool : PoolState) (es : List Entry) (ws : List Slot) (time : ℕ) → pieces.IsStill time (reassemblies_in pool es)
    → IsStill (fold end_by time ws) (record { reassemblies = reassemblies_in pool es; waiting = bodies_in pool ws })
still pool es ws time before = record {
  gathered = still_sooner (fold end_by time ws) time (reassemblies_in pool es) (slots_last ws time).0 before;
  waiting = All-map (λ (b : Body). fold end_by time ws ≤ b.since + WAITING_TIME) (body_in pool) ws (slots_last ws time).1;
}

-- what is computed is the first end
pub is_first : (pool : PoolState) (es : List Entry) (ws : List Slot)
    → fold end_by (pieces.first_end es) ws ≡ first_end (record { reassemblies = reassemblies_in pool es; waiting = bodies_in pool ws })
unfolding first_end pieces.first_end
is_first pool es ws =
    ap (λ (time : ℕ). fold end_by time ws)
    (sym (fold-map (λ (time : ℕ) (r : Reassembly). earlier_end REASSEMBLY_TIME time r.since) (reassembly_in pool) 18446744073709551615 es))
    ∙ sym (fold-map (λ (time : ℕ) (b : Body). earlier_end WAITING_TIME time b.since) (body_in pool) _ ws)

wait_sooner : (a b : ℕ) (bs : List Body) → a ≤ b → All (λ x. b ≤ x.since + WAITING_TIME) bs → All (λ x. a ≤ x.since + WAITING_TIME) bs
wait_sooner a b bs le h = λ k d lt. omega (arith, le, h k d lt)

-- # Something comes

pub still_taken_in : (h : Held) (origin : ℕ) (piece : Placed) (note now time first : ℕ) → first ≡ earlier_end REASSEMBLY_TIME time now → IsStill time h
    → IsStill first (record h { reassemblies = (taken h.reassemblies origin piece note now).held })
still_taken_in h origin piece note now time first is s =
    let one = earlier time (now + REASSEMBLY_TIME) in
    let before : first ≤ time = omega (arith, is, one.0) in
    record {
      gathered = still_taken h.reassemblies origin piece note now first (omega (arith, is, one.1)) (still_sooner first time h.reassemblies before s.gathered);
      waiting = wait_sooner first time h.waiting before s.waiting;
    }

pub still_pushed : (h : Held) (b : Body) (time first : ℕ) → first ≡ earlier_end WAITING_TIME time b.since → IsStill time h
    → IsStill first (record h { waiting = h.waiting ++ b ∷ [] })
still_pushed h b time first is s =
    let one = earlier time (b.since + WAITING_TIME) in
    let before : first ≤ time = omega (arith, is, one.0) in
    record {
      gathered = still_sooner first time h.reassemblies before s.gathered;
      waiting =
          All-push (λ (x : Body). first ≤ x.since + WAITING_TIME) h.waiting b (wait_sooner first time h.waiting before s.waiting) (omega (arith, is, one.1));
    }

-- # Something goes

pub still_removed : (h : Held) (index time : ℕ) → IsStill time h → IsStill time (record h { waiting = remove h.waiting index })
still_removed h index time s =
    let P : Body → Type 0 = λ b. time ≤ b.since + WAITING_TIME in
    record {
      gathered = s.gathered;
      waiting =
          All-append P (take index h.waiting) (drop (suc index) h.waiting) (All-take P index h.waiting s.waiting) (All-drop P (suc index) h.waiting s.waiting);
    }

pub still_cleared : (h : Held) (time : ℕ) → IsStill time h → IsStill time (record h { reassemblies = [] })
still_cleared h time s = record { gathered = All-nil (λ (r : Reassembly). time ≤ r.since + REASSEMBLY_TIME); waiting = s.waiting }

pub still_left : (h : Held) (now time : ℕ) → IsStill time h → IsStill time (record h { reassemblies = unexpired h.reassemblies now })
still_left h now time s = record { gathered = still_unexpired h.reassemblies time now s.gathered; waiting = s.waiting }

-- # A tick

all_wait : (bs : List Body) (time now : ℕ) → now < time → All (λ b. time ≤ b.since + WAITING_TIME) bs → still_waiting now bs ≡ bs
all_wait [] time now lt h = refl
all_wait (b ∷ bs) time now lt h =
    let one = All-head (λ (x : Body). time ≤ x.since + WAITING_TIME) b bs h in
    cond-true _ _ _ (lt-ltb now (b.since + WAITING_TIME) (omega (arith, lt, one)))
    ∙ ap (λ (xs : List Body). b ∷ xs) (all_wait bs time now lt (All-tail (λ (x : Body). time ≤ x.since + WAITING_TIME) b bs h))

-- before the first end, a tick changes nothing
pub none_ends : (h : Held) (time now : ℕ) → now < time → IsStill time h
    → ◌≡◌ {A = Held} (record { reassemblies = unexpired h.reassemblies now; waiting = still_waiting now h.waiting }) h
none_ends h time now lt s =
    λ i. record { reassemblies = none_expires h.reassemblies time now lt s.gathered i; waiting = all_wait h.waiting time now lt s.waiting i }

-- what began within this many seconds ends after now
pub ends_later : (seconds now time since : ℕ) → now < time → is_within seconds now since ≡ true → now < earlier_end seconds time since
ends_later seconds now time since after h = let within = ltb-true now (since + seconds) h in omega (arith, after, within)

-- Where a tick takes nothing of a list, all in it end after now.
pub all_later : {A : Type 0} (seconds now : ℕ) (since : A → ℕ) (xs : List A) (time : ℕ) → now < time
    → filter (λ x. is_within seconds now (since x)) xs ≡ xs
    → now < fold (λ until x. earlier_end seconds until (since x)) time xs
all_later {A} seconds now since xs time after same =
    let Young : A → Type 0 = λ x. is_within seconds now (since x) ≡ true in
    all_after (λ until x. earlier_end seconds until (since x)) Young now (λ until x. ends_later seconds now until (since x)) xs time after
    (subst (All Young) same (filter_passes (λ x. is_within seconds now (since x)) xs))

-- a tick that changes nothing is before the first end
pub ends_after : (h : Held) (now : ℕ) → now < 18446744073709551615
    → h ≡ record { reassemblies = unexpired h.reassemblies now; waiting = still_waiting now h.waiting }
    → now < first_end h
unfolding first_end unexpired
ends_after h now clock same =
    all_later WAITING_TIME now (λ (b : Body). b.since) h.waiting _
    (all_later REASSEMBLY_TIME now (λ (r : Reassembly). r.since) h.reassemblies 18446744073709551615 clock (λ i. (sym same i).reassemblies))
    (λ i. (sym same i).waiting)
