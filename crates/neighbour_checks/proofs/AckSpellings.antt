-- What is read out of octets is the acknowledgement that they spell, and the other way round.
use Rattle.std.proofs.Common.{◌≡◌, ◌≢◌, ℕ, ◌<◌, ◌==◌, Bool, true, false, List, [], ◌∷◌, length, Option, Some, None, if◌then◌else◌, refl, sym, ap, subst, ◌∙◌}
use Rattle.std.proofs.Common.{arith}
use Rattle.std.specs.Prelude.{IfSome, MatchOption, not}
use Rattle.std.proofs.lemmas.Bool.{eqb-true, eqb-false, ltb-true, and_parts}
use Rattle.std.proofs.lemmas.Option.{same_Some}
use Rattle.std.proofs.lemmas.Grind.{common_steps}
use Rattle.byteorder.specs.Endian.{big_bytes}
use Rattle.plc_base.specs.Addresses.{is_address}
use Rattle.plc_base.specs.Fields.{AreOctets, after, octet, two}
use Rattle.plc_base.proofs.Places.{after_all, first_is, two_behind, two_low, two_then}
use Rattle.neighbour_checks.specs.Acks.{IsAck, SpellsAck, ack_spelling, is_ack, ack_in}
use Rattle.neighbour_checks.specs.Laws.{AcksAreRead, ReadAcksAreSpelled}

first_two : (n a : ℕ) → n < 65536 → two 1 (ack_spelling n a) ≡ n
first_two n a low = two_behind (1 ∷ []) n (big_bytes 2 a) low

last_two : (n a : ℕ) → a < 65536 → two 3 (ack_spelling n a) ≡ a
last_two n a low = two_behind (1 ∷ big_bytes 2 n) a [] low

-- what is spelled passes the test
spelled_true : (n a : ℕ) → IsAck n a → is_ack (ack_spelling n a) ≡ true
unfolding octet
spelled_true n a h =
    let number : two 1 (ack_spelling n a) ≡ n = first_two n a h.1 in
    let origin : two 3 (ack_spelling n a) ≡ a = last_two n a (omega (arith, h.2)) in
    let some : (n == 0) ≡ false = grind (arith, common_steps) in
    let valid : is_address a ≡ true = grind (arith, common_steps) in
    rw (number, origin, some, valid) refl

pub acks_read : AcksAreRead
unfolding ack_in
acks_read n a octets h =
    let is : is_ack octets ≡ true = ap is_ack h.1 ∙ spelled_true n a h.0 in
    let number : two 1 octets ≡ n = ap (two 1) h.1 ∙ first_two n a h.0.1 in
    let origin : two 3 octets ≡ a = ap (two 3) h.1 ∙ last_two n a (omega (arith, h.0.2)) in
    rw (is, number, origin) refl

-- what passes the test is spelled
fields_spelled : (octets : List ℕ) → AreOctets octets → is_ack octets ≡ true → SpellsAck (two 1 octets) (two 3 octets) octets
unfolding octet
fields_spelled octets fits is =
    let a = and_parts (length octets == 5) _ is in
    let b = and_parts (octet 0 octets == 1) _ a.1 in
    let c = and_parts (not (two 1 octets == 0)) _ b.1 in
    let long : length octets ≡ 5 = eqb-true _ _ a.0 in
    let kind : octet 0 octets ≡ 1 = eqb-true _ _ b.0 in
    let other : two 1 octets ≢ 0 = eqb-false _ _ (grind (arith, common_steps)) in
    let low = two_low 1 octets fits in
    let e0 = first_is octets (omega arith) in
    let e1 = two_then 1 octets fits (omega arith) in
    let e2 = two_then 3 octets fits (omega arith) in
    let e3 : after 5 octets ≡ [] = after_all 5 octets (omega arith) in
    ((omega arith, low, ltb-true _ _ c.1), cc (e0, e1, e2, e3, kind))

read_only : (b : Bool) (v w : ℕ × ℕ) → (if b then Some v else None) ≡ Some w → (b ≡ true) × (v ≡ w)
read_only false v w e = absurd (cc)
read_only true v w e = (refl, same_Some _ _ e)

pub acks_spelled : ReadAcksAreSpelled
unfolding ack_in
acks_spelled n a octets fits e =
    let read = read_only (is_ack octets) _ (n, a) e in
    subst (λ (v : ℕ × ℕ). SpellsAck v.0 v.1 octets) read.1 (fields_spelled octets fits read.0)

-- # What the reader answers

pub one_value : (octets : List ℕ) (m a n b : ℕ) → SpellsAck m a octets → SpellsAck n b octets → (m ≡ n) × (a ≡ b)
one_value octets m a n b h k =
    let same : ack_spelling m a ≡ ack_spelling n b = sym h.1 ∙ k.1 in (
      sym (first_two m a h.0.1) ∙ ap (two 1) same ∙ first_two n b k.0.1,
      sym (last_two m a (omega (arith, h.0.2))) ∙ ap (two 3) same ∙ last_two n b (omega (arith, k.0.2)),
    )

not_in : (octets : List ℕ) → is_ack octets ≡ false → ack_in octets ≡ None
unfolding ack_in
not_in octets is = rw is refl

pub value_read : (octets : List ℕ) (r : Option (ℕ × ℕ)) → IfSome r (λ ack. SpellsAck ack.0 ack.1 octets)
    → MatchOption r (is_ack octets ≡ false) (λ _. is_ack octets ≡ true) → ack_in octets ≡ r
value_read octets (Some ack) found exact = acks_read ack.0 ack.1 octets found
value_read octets None found exact = not_in octets exact

pub only_read : (octets : List ℕ) (r : Option (ℕ × ℕ)) → IfSome r (λ ack. SpellsAck ack.0 ack.1 octets)
    → MatchOption r (is_ack octets ≡ false) (λ _. is_ack octets ≡ true)
    → (n a : ℕ) → SpellsAck n a octets → r ≡ Some (n, a)
only_read octets r found exact n a spells = sym (value_read octets r found exact) ∙ acks_read n a octets spells
