-- The loops of a drill.
use Rattle.std.proofs.Common.{◌≡◌, ℕ, suc, zero, ◌+◌, ◌-◌, ◌^◌, ◌<◌, ◌≤◌, ◌==◌, Bool, true, false, List, length, nat_lt, if◌then◌else◌, Option, Some, None}
use Rattle.std.proofs.Common.{refl, sym, ap, subst, ◌∙◌, arith}
use Rattle.std.specs.Prelude.{All, slice_get}
use Rattle.std.specs.Option.{option_map, option_map_or}
use Rattle.std.proofs.lemmas.Bool.{lt-ltb, ltb-true}
use Rattle.std.proofs.lemmas.Option.{slice_get_past}
use Rattle.node_rules.specs.Ciphers.{network}
use Rattle.line_events.specs.declared.event.Event.{Event}
use Rattle.line_events.specs.declared.event.Event.TheVariants as events
use Rattle.line_events.specs.declared.event.TheConstants.{MAX_EVENTS}
use Rattle.line_events.specs.Events.{IsEvent, IsLineOctets}
use Rattle.line_rules.specs.Worlds.{World, Flight, flight_at}
use Rattle.line_rules.specs.Further.{line_step}
use Rattle.line_replay.specs.Drills.{Drilling, after, world_by, each, bring_round, drain_one, drain_within}

-- # One event

-- none is taken once a run has all its events
pub not_after : (event : Event) (d : Drilling) → MAX_EVENTS ≤ d.world.events → d ≡ after event d
unfolding after
not_after event d full = by (nat_lt d.world.events MAX_EVENTS) refl
  where
    by : (b : Bool) → nat_lt d.world.events MAX_EVENTS ≡ b → d ≡ record d { world = if b then world_by d.world (line_step network d.world event) else d.world }
    by true is = absurd (let low = ltb-true d.world.events MAX_EVENTS is in omega (arith, low, full))
    by false is = refl

pub is_after : (event : Event) (d : Drilling) (next : World) → d.world.events < MAX_EVENTS → world_by d.world (line_step network d.world event) ≡ next
    → record d { world = next } ≡ after event d
unfolding after
is_after event d next room is = rw (lt-ltb d.world.events MAX_EVENTS room) (ap (λ (w : World). record d { world = w }) (sym is))

-- a reading is one that a line can say
pub says : (node zeros : ℕ) (shown octets : List ℕ) → node < 2 ^ 32 → shown ≡ octets → zeros ≤ 2044 → length octets ≡ 4 + zeros → All (λ x. x < 256) octets
    → IsEvent (events.Send node 0 shown)
says node zeros shown octets number is few long all =
    let line : IsLineOctets octets = (omega (arith, long), omega (arith, long, few), all) in
    (number, omega arith, subst IsLineOctets (sym is) line)

-- # What is done for each number

pub each_none : {A : Type 0} (f : ℕ → A → A) (a : A) → a ≡ each f (1 - 1) a
unfolding each
each_none f a = refl

pub each_more : {A : Type 0} (f : ℕ → A → A) (node : ℕ) (a b c : A) → 1 ≤ node → b ≡ each f (node - 1) a → c ≡ f node b → c ≡ each f ((node + 1) - 1) a
unfolding each
each_more f node a b c from so more =
    let here : (node + 1) - 1 ≡ suc (node - 1) = omega (arith, from) in
    let at : node ≡ suc (node - 1) = omega (arith, from) in
    rw here (more ∙ ap (f node) so ∙ ap (λ n. f n (each f (node - 1) a)) at)

pub each_all : {A : Type 0} (f : ℕ → A → A) (node last : ℕ) (a b : A) → node ≡ last + 1 → b ≡ each f (node - 1) a → b ≡ each f last a
each_all f node last a b at so =
    let here : node - 1 ≡ last = omega (arith, at) in
    so ∙ ap (λ n. each f n a) here

-- # Flights that are left

flight_past : (w : World) (n : ℕ) → length w.flights ≤ n → flight_at w (n + 1) ≡ None
flight_past w n past = by ((n + 1) == 0)
  where
    by : (b : Bool) → (if b then None else slice_get w.flights ((n + 1) - 1)) ≡ None
    by true = refl
    by false = let same : (n + 1) - 1 ≡ n = omega arith in rw same (slice_get_past w.flights n past)

none_left : (turns meters : ℕ) (d : Drilling) → flight_at d.world (d.drained + 1) ≡ None → drain_within turns meters d ≡ d
unfolding drain_within
none_left zero meters d none = refl
none_left (suc turns) meters d none = ap (λ (o : Option Flight). option_map_or (λ f. drain_within turns meters (drain_one meters f d)) o d) none

-- no flight is left where as many were drained as there are
pub all_drained : (turns meters : ℕ) (d : Drilling) → length d.world.flights ≤ d.drained → drain_within turns meters d ≡ d
all_drained turns meters d past = none_left turns meters d (flight_past d.world d.drained past)

no_flight : (o : Option Flight) → None ≡ option_map (λ (f : Flight). f.from) o → o ≡ None
no_flight None is = refl
no_flight (Some f) is = absurd (cc)

-- nor where none has the next number
pub none_next : (turns meters : ℕ) (d : Drilling) → None ≡ option_map (λ (f : Flight). f.from) (flight_at d.world (d.drained + 1))
    → drain_within turns meters d ≡ d
none_next turns meters d is = none_left turns meters d (no_flight (flight_at d.world (d.drained + 1)) is)

one_by : (turns meters : ℕ) (d : Drilling) (from : ℕ) (o : Option Flight) → Some from ≡ option_map (λ (f : Flight). f.from) o
    → option_map_or (λ f. drain_within turns meters (drain_one meters f d)) o d
    ≡ drain_within turns meters (record (bring_round meters (d.drained + 1) from d) { drained = d.drained + 1 })
one_by turns meters d from None is = absurd (cc)
one_by turns meters d from (Some f) is =
    let same : f.from ≡ from = cc in
    ap (λ n. drain_within turns meters (record (bring_round meters (d.drained + 1) n d) { drained = d.drained + 1 })) same

pub one_more : (max turn meters : ℕ) (d new : Drilling) (from : ℕ) → turn < max
    → Some from ≡ option_map (λ (f : Flight). f.from) (flight_at d.world (d.drained + 1))
    → new ≡ record (bring_round meters (d.drained + 1) from d) { drained = d.drained + 1 }
    → drain_within (max - turn) meters d ≡ drain_within (max - (turn + 1)) meters new
unfolding drain_within
one_more max turn meters d new from room is so =
    let left : max - turn ≡ suc (max - (turn + 1)) = omega (arith, room) in
    rw left (one_by (max - (turn + 1)) meters d from (flight_at d.world (d.drained + 1)) is ∙ ap (λ x. drain_within (max - (turn + 1)) meters x) (sym so))

-- no turn is left
pub no_turns : (max turn meters : ℕ) (d : Drilling) → max ≤ turn → drain_within (max - turn) meters d ≡ d
unfolding drain_within
no_turns max turn meters d past = let none : max - turn ≡ 0 = omega (arith, past) in rw none refl
