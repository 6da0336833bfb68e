-- An event of one node keeps custody: what the node has more was a live flight's or is sent out anew.
use Rattle.std.proofs.Common.{zero-le, ◌≡◌, ◌≢◌, ℕ, zero, suc, ◌+◌, ◌≤◌, ◌<◌, Bool, true, false, cond, List, [], ◌∷◌, ◌++◌, length, map, get_or, Option, Some}
use Rattle.std.proofs.Common.{None, refl, sym, ap, ◌∙◌, arith}
use Rattle.std.specs.Prelude.{slice_get, slice_set, All, AllPairs}
use Rattle.std.specs.List.{sum_by}
use Rattle.std.specs.Option.{option_map_or, option_and_then}
use Rattle.std.proofs.lemmas.Option.{same_Some, none-some}
use Rattle.std.proofs.lemmas.Bool.Decides.{nat_tests}
use Rattle.std.proofs.lemmas.List.Elements.{All-head, All-tail}
use Rattle.std.proofs.lemmas.List.Sums.{sum_by-cons, sum_by-append, sum_by-le-sum_by, get_or-le-sum_by}
use Rattle.plc_base.specs.declared.key.Key.{Key}
use Rattle.mesh_header.specs.Reader.{unit_in}
use Rattle.mesh_header.specs.Grammar.{spelling}
use Rattle.mac_frames.specs.Grammar.{header}
use Rattle.node_rules.specs.Ciphers.{Ciphers}
use Rattle.node_rules.specs.Frames.{Sent, Sealed, Up, Down, Arrived, arrived_with, head_of, spelled, arrived}
use Rattle.node_rules.specs.Memory.{Node}
use Rattle.line_rules.specs.Worlds.{Flight, World}
use Rattle.line_events.specs.declared.happenings.Handed.{Handed}
use Rattle.line_rules.specs.Steps.{flight_by}
use Rattle.node_rules.specs.Ciphers.{OpensWhatItSeals}
use Rattle.line_laws.specs.SealedUnits.{SpellsSealedUnit}
use Rattle.line_laws.specs.Custody.{weigh, below, content_is, sealed_unit_is, sent_is, keeps}
use Rattle.line_laws.specs.Places.{node_keeps, unit_of, flight_is, handed_is, live_is, places, issued, IsInCustody, OneNode, LiveFalls}
use Rattle.line_laws.proofs.LetterSeals.{sealed_unit_arrives, sealed_unit_opens, sealed_unit_unit}
use Rattle.line_laws.proofs.RangeFrames.{IsSent}
use Rattle.line_laws.proofs.CustodyCalls.{zero_weight}

-- # What a flight weighs

module _ (ciphers : Ciphers) (opens : OpensWhatItSeals ciphers) where
  -- the unit of a letter's flight is the letter's
  pub unit_back : (f : Flight) (key : Key) → f.key ≡ Some key → (s : SpellsSealedUnit ciphers f key) → unit_of ciphers f ≡ Some s.sealed_unit.unit
  unit_back f key e s =
      let came : Arrived = arrived_with ciphers (head_of s.sealed_unit) (header (head_of s.sealed_unit))
      (ciphers.seals s.sealed_unit.key (head_of s.sealed_unit) (spelling s.sealed_unit.unit)) in
      ap (option_and_then (λ (k : Key). option_and_then (λ (a : Arrived). option_and_then unit_in (a.opened k)) (arrived ciphers f.octets))) e
      ∙ ap (option_and_then (λ (a : Arrived). option_and_then unit_in (a.opened key)))
      (ap (arrived ciphers) s.octets ∙ sealed_unit_arrives ciphers opens s.sealed_unit s.fits)
      ∙ ap (λ (k : Key). option_and_then unit_in (came.opened k)) (sym s.key_is)
      ∙ ap (option_and_then unit_in) (sealed_unit_opens ciphers opens s.sealed_unit s.fits)
      ∙ sealed_unit_unit ciphers opens s.sealed_unit s.fits

  pub flight_weighs : (n i : ℕ) (f : Flight) (key : Key) → f.key ≡ Some key → (s : SpellsSealedUnit ciphers f key)
      → flight_is ciphers n i f ≡ sealed_unit_is n i s.sealed_unit
  flight_weighs n i f key e s = (λ j. weigh n (s.note j) (option_map_or (content_is i) (unit_back f key e s j) 0))

  -- what a node sends flies with the same weight
  one_flies : (n i number : ℕ) (f : Sent) → IsSent f → flight_is ciphers n i (flight_by number (spelled ciphers f)) ≤ sent_is n i f
  unfolding spelled
  one_flies n i number (Sealed l) h =
      let same = flight_weighs n i (flight_by number (spelled ciphers (Sealed l))) l.key refl
      (record { sealed_unit = l; fits = h; key_is = refl; octets = refl; note = refl }) in omega arith
  one_flies n i number (Up agent from message) h = zero_weight n 0
  one_flies n i number (Down from message) h = zero_weight n 0

  pub sent_flies : (n i number : ℕ) (frames : List Sent) → All IsSent frames
      → sum_by (flight_is ciphers n i) (map (λ frame. flight_by number (spelled ciphers frame)) frames) ≤ sum_by (sent_is n i) frames
  sent_flies n i number [] all = zero-le
  sent_flies n i number (f ∷ frames) all =
      let one = one_flies n i number f (All-head IsSent f frames all) in
      let rest = sent_flies n i number frames (All-tail IsSent f frames all) in
      rw (
        sum_by-cons (flight_is ciphers n i) (flight_by number (spelled ciphers f)) (map (λ frame. flight_by number (spelled ciphers frame)) frames),
        sum_by-cons (sent_is n i) f frames,
      ) (omega arith)

-- # Sums

-- one of a list is another one
pub set_sum : {X : Type 0} (f : X → ℕ) (xs : List X) (k : ℕ) (x y : X) → slice_get xs k ≡ Some x → sum_by f (slice_set xs k y) + f x ≡ sum_by f xs + f y
set_sum f [] k x y e = absurd (none-some x e)
set_sum f (z ∷ xs) zero x y e =
    let same : z ≡ x = same_Some z x e in
    let z_is : f z ≡ f x = ap f same in
    rw (sum_by-cons f y xs, sum_by-cons f z xs) (omega arith)
set_sum f (z ∷ xs) (suc k) x y e =
    let rest = set_sum f xs k x y e in
    rw (sum_by-cons f z (slice_set xs k y), sum_by-cons f z xs) (omega arith)

-- a sum falls by as much as one term
sum_falls : {X : Type 0} (f g : X → ℕ) → ((x : X) → f x ≤ g x) → (xs : List X) (place : ℕ) (y : X) (k : ℕ) → slice_get xs place ≡ Some y → f y + k ≤ g y
    → sum_by f xs + k ≤ sum_by g xs
sum_falls f g le [] place y k e h = absurd (none-some y e)
sum_falls f g le (x ∷ xs) zero y k e h =
    let same : x ≡ y = same_Some x y e in
    let rest : sum_by f xs ≤ sum_by g xs = sum_by-le-sum_by f g xs le in
    let f_is : f x ≡ f y = ap f same in
    let g_is : g x ≡ g y = ap g same in
    rw (sum_by-cons f x xs, sum_by-cons g x xs) (omega arith)
sum_falls f g le (x ∷ xs) (suc place) y k e h =
    let here : f x ≤ g x = le x in
    let rest : sum_by f xs + k ≤ sum_by g xs = sum_falls f g le xs place y k e h in
    rw (sum_by-cons f x xs, sum_by-cons g x xs) (omega arith)

if_live : (b : Bool) (k : ℕ) → cond b k 0 ≤ k
if_live true k = omega arith
if_live false k = zero-le

pub live_less : (a b : Bool) (k : ℕ) → (a ≡ true → b ≡ true) → cond a k 0 ≤ cond b k 0
live_less false b k h = zero-le
live_less true true k h = omega arith
live_less true false k h = let x = h refl in absurd (cc)

live_passed : (a b : Bool) (k : ℕ) → a ≡ false → b ≡ true → cond a k 0 + k ≤ cond b k 0
live_passed true b k e h = absurd (cc)
live_passed false false k e h = absurd (cc)
live_passed false true k e h = omega arith

-- # The step

-- what a flight that was opened brings
abbrev pub opened_is : Ciphers → ℕ → ℕ → List Flight → Option ℕ → ℕ
opened_is ciphers n i flights None = 0
opened_is ciphers n i flights (Some place) = option_map_or (flight_is ciphers n i) (slice_get flights place) 0

module _ (ciphers : Ciphers) (live : World → Flight → Bool) (n i : ℕ) (w v : World) where
  old_flights : (opened : Option ℕ) → LiveFalls live w v opened
      → sum_by (live_is ciphers (live v) n i) w.flights + opened_is ciphers n i w.flights opened ≤ sum_by (live_is ciphers (live w) n i) w.flights
  old_flights None falls =
      let all = sum_by-le-sum_by (live_is ciphers (live v) n i) (live_is ciphers (live w) n i) w.flights
      (λ f. live_less (live v f) (live w f) (flight_is ciphers n i f) (falls.falls f)) in omega arith
  old_flights (Some place) falls = by_flight (slice_get w.flights place) refl
    where
      less : (f : Flight) → live_is ciphers (live v) n i f ≤ live_is ciphers (live w) n i f
      less f = live_less (live v f) (live w f) (flight_is ciphers n i f) (falls.falls f)

      by_flight : (o : Option Flight) → slice_get w.flights place ≡ o
          → sum_by (live_is ciphers (live v) n i) w.flights + option_map_or (flight_is ciphers n i) o 0 ≤ sum_by (live_is ciphers (live w) n i) w.flights
      by_flight None e = let all = sum_by-le-sum_by (live_is ciphers (live v) n i) (live_is ciphers (live w) n i) w.flights less in omega arith
      by_flight (Some f) e =
          let passed = falls.passes place f refl e in
          sum_falls (live_is ciphers (live v) n i) (live_is ciphers (live w) n i) less w.flights place f (flight_is ciphers n i f) e
          (live_passed (live v f) (live w f) (flight_is ciphers n i f) passed.1 passed.0)

  -- What a node has and sends and hands up after an event was there before, was brought by the flight that was opened, or is sent out anew.
  pub record NodeKeeps (x y : Node) (new : List Flight) (ups : List Handed) (opened : Option ℕ) (anew : ℕ) : Type 0 where
    pub kept : (node_keeps n i y.memory + sum_by (flight_is ciphers n i) new) + sum_by (handed_is n i) ups
        ≤ (node_keeps n i x.memory + opened_is ciphers n i w.flights opened) + anew

  pub custody_after : (x y : Node) (new : List Flight) (before ups : List Handed) (opened : Option ℕ) (anew : ℕ) → OneNode w v x y new
      → LiveFalls live w v opened → NodeKeeps x y new ups opened anew
      → issued n w.sends + anew ≤ issued n v.sends → places ciphers live n i w before ≤ issued n w.sends
      → places ciphers live n i v (before ++ ups) ≤ issued n v.sends
  custody_after x y new before ups opened anew step falls keeps more h =
      let nodes : sum_by (λ (k : Node). node_keeps n i k.memory) v.nodes + node_keeps n i x.memory
      ≡ sum_by (λ (k : Node). node_keeps n i k.memory) w.nodes + node_keeps n i y.memory =
      rw step.nodes (set_sum (λ (k : Node). node_keeps n i k.memory) w.nodes step.number x y step.here) in
      let old = old_flights opened falls in
      let newer : sum_by (live_is ciphers (live v) n i) new ≤ sum_by (flight_is ciphers n i) new = sum_by-le-sum_by (live_is ciphers (live v) n i)
      (flight_is ciphers n i) new (λ f. if_live (live v f) (flight_is ciphers n i f)) in
      let flights : sum_by (live_is ciphers (live v) n i) v.flights
      ≡ sum_by (live_is ciphers (live v) n i) w.flights + sum_by (live_is ciphers (live v) n i) new =
      ap (sum_by (live_is ciphers (live v) n i)) step.flights ∙ sum_by-append (live_is ciphers (live v) n i) w.flights new in
      let handed : sum_by (handed_is n i) (before ++ ups)
      ≡ sum_by (handed_is n i) before + sum_by (handed_is n i) ups = sum_by-append (handed_is n i) before ups in
      let k = keeps.kept in
      omega arith

-- # Nothing is handed up twice

issued_once : (n sends : ℕ) → issued n sends ≤ 1
issued_once n sends = grind (arith, nat_tests)

pub up_itself : (n note size : ℕ) → note ≡ n → 0 < size → weigh n note (below 0 size) ≡ 1
up_itself n note size e h = grind (arith, nat_tests)

two_terms : {X : Type 0} (f : X → ℕ) (xs : List X) (i j : ℕ) (d : X) → i < j → j < length xs → f (get_or xs i d) + f (get_or xs j d) ≤ sum_by f xs
two_terms f [] i j d h k = absurd (omega arith)
two_terms f (x ∷ xs) i zero d h k = absurd (omega arith)
two_terms f (x ∷ xs) zero (suc j) d h k =
    let one : f (get_or xs j d) ≤ sum_by f xs = get_or-le-sum_by f xs j d (omega arith) in
    rw (sum_by-cons f x xs) (omega arith)
two_terms f (x ∷ xs) (suc i) (suc j) d h k =
    let rest : f (get_or xs i d) + f (get_or xs j d) ≤ sum_by f xs = two_terms f xs i j d (omega arith) (omega arith) in
    rw (sum_by-cons f x xs) (omega arith)

-- two ups that are not empty have different notes
pub ups_differ : (ciphers : Ciphers) (live : World → Flight → Bool) (w : World) (ups : List Handed) → IsInCustody ciphers live w ups
    → All (λ (u : Handed). (0 < u.note) × (0 < length u.octets)) ups
    → AllPairs (λ (u v : Handed). u.note ≢ v.note) ups
ups_differ ciphers live w ups custody some i j d h k same =
    let u : Handed = get_or ups i d in
    let v : Handed = get_or ups j d in
    let a = some i d (omega arith) in
    let b = some j d k in
    let two : handed_is u.note 0 u + handed_is u.note 0 v ≤ sum_by (handed_is u.note 0) ups = two_terms (handed_is u.note 0) ups i j d h k in
    let most = custody.at_most u.note 0 a.0 in
    let once = issued_once u.note w.sends in
    let first : handed_is u.note 0 u ≡ 1 = up_itself u.note u.note (length u.octets) refl a.1 in
    let second : handed_is u.note 0 v ≡ 1 = up_itself u.note v.note (length v.octets) (sym same) b.1 in
    omega arith
