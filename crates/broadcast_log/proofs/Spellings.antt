-- A broadcast has one spelling, which passes the test, and a spelling is of one broadcast.
use Rattle.std.proofs.Common.{◌≡◌, ℕ, ◌+◌, ◌<◌, ◌≤◌, ◌^◌, ◌%◌, Bool, true, false, List, [], ◌∷◌, ◌++◌, length, ◌-◌, Option, Some, None, if◌then◌else◌, refl}
use Rattle.std.proofs.Common.{sym, ap, subst, ◌∙◌, arith}
use Rattle.std.specs.Prelude.{◌==◌, nat_lt, IsSome, IsTrue, IfSome, ◌↔◌}
use Rattle.std.proofs.lemmas.Bool.{eqb-true, ltb-true, and_parts}
use Rattle.std.proofs.lemmas.Bool.Decides.{nat_tests}
use Rattle.byteorder.specs.Endian.{big_bytes}
use Rattle.plc_base.specs.Addresses.{IsAddress}
use Rattle.plc_base.specs.Fields.{AreOctets, after, octet, two, four}
use Rattle.plc_base.specs.Faults.{ReadsWhen}
use Rattle.plc_base.proofs.Places.{octet_behind, two_behind, four_behind, after_behind, first_is, one_then, two_then, number_stands, length-after}
use Rattle.plc_base.proofs.NumbersOfOctets.{below}
use Rattle.std.proofs.lemmas.List.Elements.{All-drop}
use Rattle.broadcast_log.specs.declared.broadcast.Broadcast.{Broadcast}
use Rattle.broadcast_log.specs.Grammar.{IsBroadcast, Spells, spelling, is_body, has_length, hops_stand, origin_stands, sequence_stands}
use Rattle.broadcast_log.specs.Reader.{fields_in, broadcast_in}
use Rattle.broadcast_log.specs.Laws.{BroadcastsAreRead, ReadBroadcastsAreSpelled}

-- # What is spelled is read

-- The fields stand at their places.
record StandsIn (b : Broadcast) (octets : List ℕ) : Type 0 where
  hops : octet 0 octets ≡ b.hops
  origin : two 1 octets ≡ b.origin
  dispatch : octet 3 octets ≡ 0x50
  sequence : octet 4 octets ≡ b.number % 256
  number : four 5 octets ≡ b.number
  datagram : after 9 octets ≡ b.octets
  long : length octets ≡ 9 + length b.octets

in_places : (b : Broadcast) → IsBroadcast b → StandsIn b (spelling b)
in_places b h = record {
  hops = octet_behind [] b.hops (big_bytes 2 b.origin ++ (0x50 ∷ b.number % 256 ∷ big_bytes 4 b.number ++ b.octets));
  origin = two_behind (b.hops ∷ []) b.origin (0x50 ∷ b.number % 256 ∷ big_bytes 4 b.number ++ b.octets) (omega (arith, h.origin));
  dispatch = octet_behind (b.hops ∷ big_bytes 2 b.origin) 0x50 (b.number % 256 ∷ big_bytes 4 b.number ++ b.octets);
  sequence = octet_behind (b.hops ∷ big_bytes 2 b.origin ++ (0x50 ∷ [])) (b.number % 256) (big_bytes 4 b.number ++ b.octets);
  number = four_behind (b.hops ∷ big_bytes 2 b.origin ++ (0x50 ∷ b.number % 256 ∷ [])) b.number b.octets h.number;
  datagram = after_behind (b.hops ∷ big_bytes 2 b.origin ++ (0x50 ∷ b.number % 256 ∷ big_bytes 4 b.number)) b.octets;
  long = omega arith;
}

spelled_fields : (b : Broadcast) → IsBroadcast b → fields_in (spelling b) ≡ b
spelled_fields b h =
    let s = in_places b h in
    λ i. record { hops = s.hops i; origin = s.origin i; number = s.number i; octets = s.datagram i }

lower : (a b : ℕ) → a < b → nat_lt a b ≡ true
lower a b h = grind (arith, nat_tests)

same : (a b : ℕ) → a ≡ b → (a == b) ≡ true
same a b h = grind (arith, nat_tests)

spelled_true : (b : Broadcast) → IsBroadcast b → is_body (spelling b) ≡ true
unfolding is_body has_length hops_stand origin_stands sequence_stands
spelled_true b h =
    let octets : List ℕ = spelling b in
    let s = in_places b h in
    rw (
      lower 9 (length octets) (omega (arith, s.long, h.some)),
      lower (length octets) 370 (omega (arith, s.long, h.fits)),
      lower 0 (octet 0 octets) (omega (arith, s.hops, h.hops.0)),
      lower (octet 0 octets) 15 (omega (arith, s.hops, h.hops.1)),
      lower (two 1 octets) 0xFFFE (omega (arith, s.origin, h.origin)),
      same (octet 3 octets) 0x50 s.dispatch,
      same (octet 4 octets) (four 5 octets % 256) (s.sequence ∙ ap (λ n. n % 256) (sym s.number)),
    ) refl

by_test : (test : Bool) (b : Broadcast) → test ≡ true → (if test then Some b else None) ≡ Some b
by_test true b e = refl
by_test false b e = cc

pub broadcast_read : BroadcastsAreRead
unfolding broadcast_in
broadcast_read b octets h =
    subst (λ o. broadcast_in o ≡ Some b) (sym h.1)
    (by_test (is_body (spelling b)) (fields_in (spelling b)) (spelled_true b h.0) ∙ ap Some (spelled_fields b h.0))

pub one_value : (a b : Broadcast) (octets : List ℕ) → Spells a octets → Spells b octets → a ≡ b
one_value a b octets ha hb = sym (spelled_fields a ha.0) ∙ ap fields_in (sym ha.1 ∙ hb.1) ∙ spelled_fields b hb.0

-- # What is read is spelled

four_then : (at : ℕ) (octets : List ℕ) → AreOctets octets → at + 4 ≤ length octets → after at octets ≡ big_bytes 4 (four at octets) ++ after (at + 4) octets
unfolding four
four_then at octets fits whole = (number_stands 4 at octets whole fits).parts

four_low : (at : ℕ) (octets : List ℕ) → AreOctets octets → four at octets < 2 ^ 32
unfolding four
four_low at octets fits =
    let rest = All-drop (λ x. x < 256) at octets fits in
    omega (arith, below _ rest 0, below _ rest 1, below _ rest 2, below _ rest 3)

body_spelled : (octets : List ℕ) → AreOctets octets → is_body octets ≡ true → Spells (fields_in octets) octets
unfolding is_body has_length hops_stand origin_stands sequence_stands octet
body_spelled octets fits e =
    let a = and_parts (has_length octets) _ e in
    let b = and_parts (hops_stand octets) _ a.1 in
    let c = and_parts (origin_stands octets) _ b.1 in
    let long = and_parts (nat_lt 9 (length octets)) _ a.0 in
    let hops = and_parts (nat_lt 0 (octet 0 octets)) _ b.0 in
    let seq = and_parts (octet 3 octets == 0x50) _ c.1 in
    let more : 9 < length octets = ltb-true _ _ long.0 in
    let less : length octets < 370 = ltb-true _ _ long.1 in
    let some : 0 < octet 0 octets = ltb-true _ _ hops.0 in
    let high : octet 0 octets < 15 = ltb-true _ _ hops.1 in
    let address : IsAddress (two 1 octets) = ltb-true _ _ c.0 in
    let dispatch : octet 3 octets ≡ 0x50 = eqb-true _ _ seq.0 in
    let sequence : octet 4 octets ≡ four 5 octets % 256 = eqb-true _ _ seq.1 in
    let rest : length (after 9 octets) ≡ length octets - 9 = length-after 9 octets in
    let e0 : octets ≡ octet 0 octets ∷ after 1 octets = first_is octets (omega arith) in
    let e1 = two_then 1 octets fits (omega arith) in
    let e3 = one_then 3 octets (omega arith) in
    let e4 = one_then 4 octets (omega arith) in
    let e5 = four_then 5 octets fits (omega arith) in (
      record {
        hops = (some, omega arith);
        origin = address;
        number = four_low 5 octets fits;
        some = omega arith;
        fits = omega arith;
      },
      cc (e0, e1, e3, e4, e5, dispatch, sequence),
    )

from_test : (test : Bool) (b v : Broadcast) → (if test then Some b else None) ≡ Some v → (test ≡ true) × (b ≡ v)
from_test true b v e = (refl, cc)
from_test false b v e = absurd (cc)

pub broadcast_spelled : ReadBroadcastsAreSpelled
unfolding broadcast_in
broadcast_spelled b octets fits is =
    let read = from_test (is_body octets) (fields_in octets) b is in
    subst (λ v. Spells v octets) read.1 (body_spelled octets fits read.0)

-- # What the reader answers

pub found_spelled : (octets : List ℕ) (r : Option Broadcast) → AreOctets octets → r ≡ broadcast_in octets → IfSome r (λ b. Spells b octets)
found_spelled octets (Some b) fits is = broadcast_spelled b octets fits (sym is)
found_spelled octets None fits is = tt

-- the value, by the test
pub value_by : (octets : List ℕ) (r : Option Broadcast) → ReadsWhen (is_body octets) r (λ b. b ≡ fields_in octets) → r ≡ broadcast_in octets
unfolding broadcast_in
value_by octets (Some b) h = ap Some h.1 ∙ sym (by_test (is_body octets) (fields_in octets) h.0)
value_by octets None h = rw h refl

pub exactly : (octets : List ℕ) (r : Option Broadcast) → r ≡ broadcast_in octets → IsSome r ↔ IsTrue (is_body octets)
unfolding broadcast_in
exactly octets r is = by_body (is_body octets) is
  where
    by_body : (test : Bool) → r ≡ (if test then Some (fields_in octets) else None) → IsSome r ↔ IsTrue test
    by_body true e = rw e (λ _. refl, λ _. refl)
    by_body false e = rw e (λ h. h, λ h. h)
