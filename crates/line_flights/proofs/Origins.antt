-- Where octets come from, flight by flight.
use Rattle.std.proofs.Common.{◌≡◌, ℕ, zero, suc, ◌-◌, ◌<◌, ◌≤◌, Bool, true, false, List, [], ◌∷◌, length, take, drop, Some, refl, sym, ap, ◌∙◌, arith}
use Rattle.std.proofs.Common.{length-take}
use Rattle.std.specs.Prelude.{slice_get, if◌then◌else◌, not, ◌||◌}
use Rattle.std.specs.List.{list_any}
use Rattle.std.specs.Str.{bytes_eq}
use Rattle.std.specs.Cmp.Lexicographic.{bytes_decides}
use Rattle.std.proofs.lemmas.List.{drop_all}
use Rattle.octet_log.specs.Logs.{IsLast}
use Rattle.octet_log.proofs.Lasts.{got_take}
use Rattle.plc_base.specs.declared.key.Key.{Key}
use Rattle.line_flights.specs.Flights.{Flight, has_octets, note_of, is_forged_frame}
use Rattle.line_flights.specs.declared.flights.Kept.{Kept}
use Rattle.line_flights.specs.declared.flights.Origin.{Origin}
use Rattle.line_flights.specs.Flown.{is_under}
use Rattle.line_flights.specs.KeptFlights.{flights_of}
use Rattle.line_flights.proofs.FlightLists.{octets_at, count_of}

abbrev pub origin_of : List Flight → List ℕ → Key → Origin
origin_of fs octets key = record { is_forged = is_forged_frame fs octets key; note = note_of fs octets key }

-- what one flight gives, where `later` is what those after it give
abbrev pub origin_by : Bool → ℕ → Origin → Origin
origin_by b note later = if b then record { is_forged = false; note = note } else later

cons_by : (b any : Bool) (note rest : ℕ)
    → ◌≡◌ {A = Origin} (record { is_forged = not (b || any); note = if b then note else rest }) (origin_by b note (record { is_forged = not any; note = rest }))
cons_by true any note rest = refl
cons_by false any note rest = refl

pub origin_none : (octets : List ℕ) (key : Key) → origin_of [] octets key ≡ record { is_forged = true; note = 0 }
unfolding note_of
origin_none octets key = refl

origin_cons : (f : Flight) (fs : List Flight) (octets : List ℕ) (key : Key)
    → origin_of (f ∷ fs) octets key ≡ origin_by (has_octets octets key f) f.note (origin_of fs octets key)
unfolding note_of
origin_cons f fs octets key = cons_by (has_octets octets key f) (list_any (has_octets octets key) fs) f.note (note_of fs octets key)

module _ (octets : List ℕ) (key : Key) where
  other : (f : Flight) → (f.octets ≡ octets → ⊥) → has_octets octets key f ≡ false
  other f differs = by_test (bytes_eq f.octets octets) refl
    where
      by_test : (b : Bool) → bytes_eq f.octets octets ≡ b → has_octets octets key f ≡ false
      by_test true is = absurd (differs ((bytes_decides f.octets octets).0 is))
      by_test false is = rw is refl

  own : (f : Flight) → f.octets ≡ octets → has_octets octets key f ≡ is_under f.key key
  own f same = rw ((bytes_decides f.octets octets).1 same) refl

  -- flights with other octets tell nothing
  skip : (fs : List Flight) (p q : ℕ) → ((k : ℕ) → p ≤ k → k < q → (f : Flight) → slice_get fs k ≡ Some f → f.octets ≡ octets → ⊥) → p ≤ q
      → origin_of (drop p fs) octets key ≡ origin_of (drop q fs) octets key
  skip [] p q none order = ap (λ (l : List Flight). origin_of l octets key) (drop_all p [] (omega arith) ∙ sym (drop_all q [] (omega arith)))
  skip (f ∷ fs) zero zero none order = refl
  skip (f ∷ fs) zero (suc q) none order =
      origin_cons f fs octets key ∙ ap (λ b. origin_by b f.note (origin_of fs octets key)) (other f (none 0 (omega arith) (omega arith) f refl))
      ∙ skip fs zero q (λ k low high g e. none (suc k) (omega arith) (omega (arith, high)) g e) (omega arith)
  skip (f ∷ fs) (suc p) zero none order = absurd (omega (arith, order))
  skip (f ∷ fs) (suc p) (suc q) none order = skip fs p q (λ k low high g e. none (suc k) (omega (arith, low)) (omega (arith, high)) g e) (omega (arith, order))

  -- what a flight with these octets gives
  here : (fs : List Flight) (k : ℕ) (f : Flight) → slice_get fs k ≡ Some f → f.octets ≡ octets
      → origin_of (drop k fs) octets key ≡ origin_by (is_under f.key key) f.note (origin_of (drop (suc k) fs) octets key)
  here [] k f there same = absurd cc
  here (g ∷ fs) zero f there same =
      let is : g ≡ f = cc in
      ap (λ (h : Flight). origin_of (h ∷ fs) octets key) is ∙ origin_cons f fs octets key
      ∙ ap (λ b. origin_by b f.note (origin_of fs octets key)) (own f same)
  here (g ∷ fs) (suc k) f there same = here fs k f there same

  -- no flight after the last of these octets has them
  pub from_last : (strings : List (List ℕ)) (items : List Kept) (n : ℕ) → length strings ≡ length items → IsLast strings octets n
      → origin_of (drop n (flights_of strings items)) octets key ≡ record { is_forged = true; note = 0 }
  from_last strings items n count is =
      skip (flights_of strings items) n (length strings)
      (λ k low high f there same. is.none k low (octets_at strings items k f there ∙ ap Some same)) is.within
      ∙ ap (λ (l : List Flight). origin_of l octets key)
      (drop_all (length strings) (flights_of strings items) (omega (arith, count, count_of strings items count)))
      ∙ origin_none octets key

  -- one more of these octets
  pub from_before : (strings : List (List ℕ)) (items : List Kept) (n p : ℕ) (f : Flight) → 0 < n → n ≤ length strings
      → slice_get (flights_of strings items) (n - 1) ≡ Some f → f.octets ≡ octets
      → IsLast (take (n - 1) strings) octets p
      → origin_of (drop p (flights_of strings items)) octets key
      ≡ origin_by (is_under f.key key) f.note (origin_of (drop n (flights_of strings items)) octets key)
  from_before strings items n p f some within there same is =
      let fs = flights_of strings items in
      let cut : length (take (n - 1) strings) ≡ n - 1 = omega (arith, length-take (n - 1) strings, within) in
      let next : suc (n - 1) ≡ n = omega (arith, some) in
      skip fs p (n - 1)
      (λ k low high g at own. is.none k low (got_take (n - 1) strings k high ∙ octets_at strings items k g at ∙ ap Some own)) (omega (arith, is.within, cut))
      ∙ here fs (n - 1) f there same
      ∙ ap (λ m. origin_by (is_under f.key key) f.note (origin_of (drop m fs) octets key)) next
