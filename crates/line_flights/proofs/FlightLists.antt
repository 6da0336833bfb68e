-- Flights by their octets and what is kept beside them.
use Rattle.std.proofs.Common.{◌≡◌, ℕ, zero, suc, ◌-◌, ◌<◌, true, false, List, [], ◌∷◌, ◌++◌, length, set, get_or, Some, None, refl, sym, ap, ◌∙◌, arith}
use Rattle.std.specs.Prelude.{slice_get, slice_set, MatchOption, ◌==◌}
use Rattle.std.proofs.lemmas.Option.{slice_get-get_or}
use Rattle.std.proofs.Math.Dec.{eqb-suc-zero}
use Rattle.line_flights.specs.Flights.{Flight}
use Rattle.line_flights.specs.declared.flights.Kept.{Kept}
use Rattle.line_flights.specs.Flown.{Flown, flight_in, not_lost}
use Rattle.line_flights.specs.KeptFlights.{flight_of, flights_of}

pub count_of : (strings : List (List ℕ)) (items : List Kept) → length strings ≡ length items → length (flights_of strings items) ≡ length items
count_of [] items e = e
count_of (s ∷ strings) [] e = refl
count_of (s ∷ strings) (k ∷ items) e = ap suc (count_of strings items (omega (arith, e)))

-- one more flight
pub flights_push : (strings : List (List ℕ)) (items : List Kept) (octets : List ℕ) (kept : Kept) → length strings ≡ length items
    → flights_of (strings ++ octets ∷ []) (items ++ kept ∷ []) ≡ flights_of strings items ++ flight_of octets kept ∷ []
flights_push [] [] octets kept e = refl
flights_push [] (k ∷ items) octets kept e = absurd (omega (arith, e))
flights_push (s ∷ strings) [] octets kept e = absurd (omega (arith, e))
flights_push (s ∷ strings) (k ∷ items) octets kept e = ap (λ (fs : List Flight). flight_of s k ∷ fs) (flights_push strings items octets kept (omega (arith, e)))

-- the flight at a place
pub flight_at : (strings : List (List ℕ)) (items : List Kept) (i : ℕ) (octets : List ℕ) (kept : Kept) → slice_get strings i ≡ Some octets
    → slice_get items i ≡ Some kept
    → slice_get (flights_of strings items) i ≡ Some (flight_of octets kept)
flight_at [] items i octets kept s k = absurd cc
flight_at (x ∷ strings) [] i octets kept s k = absurd cc
flight_at (x ∷ strings) (y ∷ items) zero octets kept s k =
    let string : x ≡ octets = cc in
    let item : y ≡ kept = cc in
    λ i. Some (flight_of (string i) (item i))
flight_at (x ∷ strings) (y ∷ items) (suc i) octets kept s k = flight_at strings items i octets kept s k

pub none_at : (strings : List (List ℕ)) (items : List Kept) (i : ℕ) → slice_get strings i ≡ None → slice_get (flights_of strings items) i ≡ None
none_at [] items i e = refl
none_at (x ∷ strings) [] i e = refl
none_at (x ∷ strings) (y ∷ items) zero e = absurd cc
none_at (x ∷ strings) (y ∷ items) (suc i) e = none_at strings items i e

pub octets_at : (strings : List (List ℕ)) (items : List Kept) (i : ℕ) (f : Flight) → slice_get (flights_of strings items) i ≡ Some f
    → slice_get strings i ≡ Some f.octets
octets_at [] items i f e = absurd cc
octets_at (x ∷ strings) [] i f e = absurd cc
octets_at (x ∷ strings) (y ∷ items) zero f e = let same : flight_of x y ≡ f = cc in ap (λ (g : Flight). Some g.octets) same
octets_at (x ∷ strings) (y ∷ items) (suc i) f e = octets_at strings items i f e

-- the flight at a place, by what is kept there
pub beside : (strings : List (List ℕ)) (items : List Kept) (i : ℕ) (kept : Kept) (f : Flight) → slice_get items i ≡ Some kept
    → slice_get (flights_of strings items) i ≡ Some f → f ≡ flight_of f.octets kept
beside strings items i kept f k e =
    let is : Some f ≡ Some (flight_of f.octets kept) = sym e ∙ flight_at strings items i f.octets kept (octets_at strings items i f e) k in cc

-- the item that was read at a place
pub item_at : (items : List Kept) (i : ℕ) (kept : Kept) → i < length items → kept ≡ get_or items i kept → slice_get items i ≡ Some kept
item_at items i kept within is = slice_get-get_or items i kept within ∙ ap Some (sym is)

eq_suc_zero : (n : ℕ) → (suc n == 0) ≡ false
eq_suc_zero n = eqb-suc-zero n

pub in_flights : (fs : List Flight) (n : ℕ) → 0 < n → flight_in fs n ≡ slice_get fs (n - 1)
in_flights fs zero some = absurd (omega (arith, some))
in_flights fs (suc n) some = rw (eq_suc_zero n) refl

-- a flight is lost
pub flights_lost : (strings : List (List ℕ)) (items : List Kept) (i : ℕ) (kept : Kept) (f : Flight) → slice_get items i ≡ Some kept
    → slice_get (flights_of strings items) i ≡ Some f
    → flights_of strings (set items i (record kept { lost = true })) ≡ set (flights_of strings items) i (record f { lost = true })
flights_lost [] items i kept f k e = refl
flights_lost (x ∷ strings) [] i kept f k e = refl
flights_lost (x ∷ strings) (y ∷ items) zero kept f k e =
    let same : f ≡ flight_of x kept = let is : Some (flight_of x y) ≡ Some f = e in let item : y ≡ kept = cc in cc in
    ap (λ (g : Flight). record g { lost = true } ∷ flights_of strings items) (sym same)
flights_lost (x ∷ strings) (y ∷ items) (suc i) kept f k e = ap (λ (fs : List Flight). flight_of x y ∷ fs) (flights_lost strings items i kept f k e)

pub lost_so : (old new : Flown) (number : ℕ) (f : Flight) → flight_in old.flights number ≡ Some f → f.lost ≡ false
    → new ≡ record old { flights = slice_set old.flights (number - 1) (record f { lost = true }) }
    → MatchOption (not_lost (flight_in old.flights number)) ((true ≡ false) × (new ≡ old))
    (λ f. (true ≡ true) × (new ≡ record old { flights = slice_set old.flights (number - 1) (record f { lost = true }) }))
lost_so old new number f there flies is = rw there (rw flies (refl, is))

-- the flight of some octets
pub record Here (fs : List Flight) (k : ℕ) (octets : List ℕ) : Type 0 where
  pub flight : Flight
  pub there : slice_get fs k ≡ Some flight
  pub same : flight.octets ≡ octets

pub flown_at : (strings : List (List ℕ)) (items : List Kept) (k : ℕ) (octets : List ℕ) → length strings ≡ length items → slice_get strings k ≡ Some octets
    → Here (flights_of strings items) k octets
flown_at [] items k octets count e = absurd cc
flown_at (x ∷ strings) [] k octets count e = absurd (omega (arith, count))
flown_at (x ∷ strings) (y ∷ items) zero octets count e = record { flight = flight_of x y; there = refl; same = cc }
flown_at (x ∷ strings) (y ∷ items) (suc k) octets count e =
    let rest = flown_at strings items k octets (omega (arith, count)) e in
    record { flight = rest.flight; there = rest.there; same = rest.same }
