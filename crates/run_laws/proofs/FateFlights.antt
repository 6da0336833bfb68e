-- One flight has some octets under a key: what a node accepts is the flight of those octets, and no event accepted a flight before it was sent.
use Rattle.std.proofs.Common.{◌≡◌, ◌⊎◌, inl, inr, ℕ, ◌+◌, ◌-◌, ◌≤◌, ◌<◌, Bool, true, false, List, [], ◌∷◌, ◌++◌, length, get_or}
use Rattle.std.proofs.Common.{Option, Some, None, Ok, refl, sym, ap, ◌∙◌, subst, arith}
use Rattle.std.specs.Prelude.{All, AllPairs, IfSome, if◌then◌else◌, is_some, slice_get, ◌==◌}
use Rattle.std.proofs.lemmas.Bool.{cases_order, eqb-true}
use Rattle.std.proofs.lemmas.Option.{slice_get_within, get_or_from_slice_get}
use Rattle.plc_base.specs.declared.key.Key.{Key}
use Rattle.node_rules.specs.Ciphers.{network}
use Rattle.line_rules.specs.Forgery.{AcceptsSealed, IsForged, ByFrame}
use Rattle.line_rules.specs.Further.{line_step}
use Rattle.line_rules.specs.Nonces.{HasAnotherNonce, IsSpelled, NonceParts, nonce_parts}
use Rattle.line_rules.specs.Runs.{Entry, last_world}
use Rattle.line_rules.specs.Worlds.{World, Flight, flight_at, is_forged_frame}
use Rattle.line_laws.proofs.CustodyDeliver.{WasFlown, flown}
use Rattle.line_laws.proofs.ForgeryRight.{none_flew}
use Rattle.line_laws.proofs.Worlds.{at_place}
use Rattle.line_progress.specs.EventFates.{EventsKeepFlights, FlightFateIn, IsLost, StillFlies}
use Rattle.run_laws.proofs.OctetPlaces.{numbered}
use Rattle.run_laws.specs.DatagramFates.{NoneAccepted}

-- # Places

pub there_flight : (w : World) (place : ℕ) (f : Flight) → slice_get w.flights place ≡ Some f → flight_at w (place + 1) ≡ Some f
there_flight w place f e = by_number ((place + 1) == 0) refl
  where
    back : place + 1 - 1 ≡ place
    back = omega arith

    by_number : (b : Bool) → ((place + 1) == 0) ≡ b → (if b then None else slice_get w.flights (place + 1 - 1)) ≡ Some f
    by_number true t = let none = eqb-true (place + 1) 0 t in absurd (omega arith)
    by_number false t = subst (λ k. slice_get w.flights k ≡ Some f) (sym back) e

-- # One flight of some octets under a key

has_nonce : (f : Flight) (key : Key) → IsSpelled network f → f.key ≡ Some key → is_some (nonce_parts f) ≡ true
has_nonce f key s e = (s.sealed key e).nonce

same_nonce : (f g : Flight) (key : Key) → f.key ≡ Some key → g.key ≡ Some key → f.octets ≡ g.octets → is_some (nonce_parts f) ≡ true
    → HasAnotherNonce f g → ⊥
same_nonce f g key ef eg octets some h = by_parts (nonce_parts f) refl some
  where
    same : nonce_parts f ≡ nonce_parts g
    same = ap (λ (os : List ℕ). nonce_parts (record f { octets = os })) octets

    differ : IfSome f.key (λ _. IfSome (nonce_parts f) (λ p. IfSome (nonce_parts g) (λ (q : NonceParts). p ≡ q → ⊥)))
    differ = h (ef ∙ sym eg)

    by_parts : (o : Option NonceParts) → nonce_parts f ≡ o → is_some o ≡ true → ⊥
    by_parts None e none = cc
    by_parts (Some p) e some =
        let keyed : IfSome (nonce_parts f) (λ p. IfSome (nonce_parts g) (λ (q : NonceParts). p ≡ q → ⊥)) =
        subst (λ k. IfSome k (λ _. IfSome (nonce_parts f) (λ p. IfSome (nonce_parts g) (λ (q : NonceParts). p ≡ q → ⊥)))) ef differ in
        let first : IfSome (nonce_parts g) (λ (q : NonceParts). p ≡ q → ⊥) =
        subst (λ k. IfSome k (λ p. IfSome (nonce_parts g) (λ (q : NonceParts). p ≡ q → ⊥))) e keyed in
        let both : p ≡ p → ⊥ = subst (λ k. IfSome k (λ (q : NonceParts). p ≡ q → ⊥)) (sym same ∙ e) first in
        both refl

module _ (fs : List Flight) (spelled : All (IsSpelled network) fs) (differ : AllPairs HasAnotherNonce fs) (key : Key) where
  not_later : (i j : ℕ) (f g : Flight) → slice_get fs i ≡ Some f → slice_get fs j ≡ Some g → f.key ≡ Some key → g.key ≡ Some key
      → f.octets ≡ g.octets → i < j → ⊥
  not_later i j f g ei ej ef eg octets lt =
      let h : HasAnotherNonce f g = subst (λ (y : Flight). HasAnotherNonce f y) (get_or_from_slice_get fs j g f ej)
      (subst (λ (x : Flight). HasAnotherNonce x (get_or fs j f)) (get_or_from_slice_get fs i f f ei)
      (differ i j f lt (slice_get_within fs j g ej))) in
      same_nonce f g key ef eg octets (has_nonce f key (at_place (IsSpelled network) fs i f ei spelled) ef) h

  pub one_place : (i j : ℕ) (f g : Flight) → slice_get fs i ≡ Some f → slice_get fs j ≡ Some g → f.key ≡ Some key → g.key ≡ Some key
      → f.octets ≡ g.octets → i ≡ j
  one_place i j f g ei ej ef eg octets = by_order (cases_order i j)
    where
      by_order : (i ≡ j) ⊎ ((i < j) ⊎ (j < i)) → i ≡ j
      by_order (inl e) = e
      by_order (inr (inl lt)) = absurd (not_later i j f g ei ej ef eg octets lt)
      by_order (inr (inr lt)) = absurd (not_later j i g f ej ei eg ef (sym octets) lt)

-- # Unforged events

-- octets that a node accepts in an event that is not forged were flown under their key
pub was_flown : (w : World) (x : Entry) → (IsForged network w x.event x.trace.opened → x.trace.happenings.forged ≡ true)
    → x.trace.happenings.forged ≡ false → (octets : List ℕ) (key : Key) → AcceptsSealed network w x.event octets key → WasFlown w.flights octets key
was_flown w x right honest octets key a = by_test (is_forged_frame w.flights octets key) refl
  where
    by_test : (b : Bool) → is_forged_frame w.flights octets key ≡ b → WasFlown w.flights octets key
    by_test true e = absurd (let forged = right (ByFrame octets key a (none_flew w.flights octets key e)) in cc)
    by_test false e = flown w.flights octets key e

-- # Flights stay

-- what a flight is in a later world, but for its being lost
pub record StillThere (w v : World) : Type 0 where
  pub there : (place : ℕ) (f : Flight) → slice_get w.flights place ≡ Some f
      → (g : Flight) × (slice_get v.flights place ≡ Some g) × (g.octets ≡ f.octets) × (g.key ≡ f.key)

pub stay : EventsKeepFlights → (w v : World) (x : Entry) → line_step network w x.event ≡ Ok (v, x.trace) → StillThere w v
stay keep w v x step = record {
  there = λ place f e.
      by_fate place f (keep network w v x.event x.trace step (place + 1) f (there_flight w place f e));
}
  where
    back : (place : ℕ) → place + 1 - 1 ≡ place
    back place = omega arith

    by_fate : (place : ℕ) (f : Flight) → FlightFateIn x.event (place + 1) f v
        → (g : Flight) × (slice_get v.flights place ≡ Some g) × (g.octets ≡ f.octets) × (g.key ≡ f.key)
    by_fate place f (StillFlies e) =
        (f, subst (λ k. slice_get v.flights k ≡ Some f) (back place) (numbered v (place + 1) f e).1, refl, refl)
    by_fate place f (IsLost is e) = (
      record f { lost = true },
      subst (λ k. slice_get v.flights k ≡ Some (record f { lost = true })) (back place)
          (numbered v (place + 1) (record f { lost = true }) e).1,
      refl,
      refl,
    )

-- # A flight that was not there before

-- no flight of a world has these octets under this key
pub record Fresh (f : Flight) (w : World) : Type 0 where
  pub none : (place : ℕ) (g : Flight) → slice_get w.flights place ≡ Some g → g.octets ≡ f.octets → g.key ≡ f.key → ⊥

-- What is known of the events of a run: flights stay, and what is accepted was flown.
abbrev pub Calm : World → List Entry → Type 0
Calm w [] = Unit {0}
Calm w (x ∷ xs) =
    StillThere w x.after × ((octets : List ℕ) (key : Key) → AcceptsSealed network w x.event octets key → WasFlown w.flights octets key) × Calm x.after xs

pub calm_push : (w : World) (xs : List Entry) (x : Entry) → Calm w xs → StillThere (last_world w xs) x.after
    → ((octets : List ℕ) (key : Key) → AcceptsSealed network (last_world w xs) x.event octets key → WasFlown (last_world w xs).flights octets key)
    → Calm w (xs ++ x ∷ [])
calm_push w [] x calm stays flew = (stays, flew, tt)
calm_push w (y ∷ ys) x calm stays flew = (calm.0, calm.1, calm_push y.after ys x calm.2 stays flew)

pub last_push : (w : World) (xs : List Entry) (x : Entry) → last_world w (xs ++ x ∷ []) ≡ x.after
last_push w [] x = refl
last_push w (y ∷ ys) x = last_push y.after ys x

fresh_back : (f : Flight) (w v : World) → StillThere w v → Fresh f v → Fresh f w
fresh_back f w v stays fresh = record {
  none = λ place g e octets key.
      let s = stays.there place g e in
      fresh.none place s.0 s.1 (s.2 ∙ octets) (s.3 ∙ key);
}

fresh_first : (f : Flight) (w : World) (xs : List Entry) → Calm w xs → Fresh f (last_world w xs) → Fresh f w
fresh_first f w [] calm fresh = fresh
fresh_first f w (x ∷ xs) calm fresh = fresh_back f w x.after calm.0 (fresh_first f x.after xs calm.2 fresh)

not_flown : (f : Flight) (w : World) (key : Key) → Fresh f w → f.key ≡ Some key → WasFlown w.flights f.octets key → ⊥
not_flown f w key fresh e was = fresh.none was.place was.flight was.there was.octets_are (was.key_is ∙ sym e)

-- no event accepted it: none before the one that sent it, nor that one
pub none_accepted : (f : Flight) (w : World) (xs : List Entry) (x : Entry) → Calm w (xs ++ x ∷ []) → Fresh f (last_world w xs)
    → NoneAccepted w (xs ++ x ∷ []) f
none_accepted f w [] x calm fresh = (λ key e a. not_flown f w key fresh e (calm.1 f.octets key a), tt)
none_accepted f w (y ∷ ys) x calm fresh =
    let first : Fresh f y.after = fresh_first f y.after ys (calm_front y.after ys x calm.2) fresh in
    (λ key e a. not_flown f w key (fresh_back f w y.after calm.0 first) e (calm.1 f.octets key a), none_accepted f y.after ys x calm.2 fresh)
  where
    calm_front : (v : World) (zs : List Entry) (z : Entry) → Calm v (zs ++ z ∷ []) → Calm v zs
    calm_front v [] z c = tt
    calm_front v (u ∷ us) z c = (c.0, c.1, calm_front u.after us z c.2)

-- a flight of the later places is new
pub fresh_new : (w v : World) (key : Key) → StillThere w v → All (IsSpelled network) v.flights → AllPairs HasAnotherNonce v.flights
    → (place : ℕ) (f : Flight) → slice_get v.flights place ≡ Some f → f.key ≡ Some key → length w.flights ≤ place → Fresh f w
fresh_new w v key stays spelled differ place f there keyed late = record {
  none = λ other g e octets same.
      let s = stays.there other g e in
      let here : other ≡ place =
      one_place v.flights spelled differ key other place s.0 f s.1 there (s.3 ∙ same ∙ keyed) keyed (s.2 ∙ octets) in
      let low = slice_get_within w.flights other g e in
      absurd (omega arith);
}

-- it stays unaccepted where another event does not accept it
pub still_unaccepted : (f g : Flight) → g.octets ≡ f.octets → g.key ≡ f.key → (w : World) (xs : List Entry) (x : Entry) → NoneAccepted w xs f
    → ((key : Key) → f.key ≡ Some key → AcceptsSealed network (last_world w xs) x.event f.octets key → ⊥) → NoneAccepted w (xs ++ x ∷ []) g
still_unaccepted f g octets key w [] x none now = (
  λ k e a.
      now k (sym key ∙ e) (subst (λ os. AcceptsSealed network w x.event os k) octets a),
  tt,
)
still_unaccepted f g octets key w (y ∷ ys) x none now = (
  λ k e a. none.0 k (sym key ∙ e) (subst (λ os. AcceptsSealed network w y.event os k) octets a),
  still_unaccepted f g octets key y.after ys x none.1 now,
)
