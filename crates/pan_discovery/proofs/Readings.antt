-- What is read out of octets is the request or the beacon that they spell, and the other way round.
use Rattle.std.proofs.Common.{◌≡◌, ◌<◌, ◌≤◌, ◌==◌, ℕ, ◌+◌, Bool, true, false, List, [], ◌∷◌, ◌++◌, length, drop, Option, Some, None, if◌then◌else◌, refl, sym}
use Rattle.std.proofs.Common.{ap, subst, ◌∙◌, arith}
use Rattle.std.specs.Prelude.{IfSome, slice_index}
use Rattle.std.proofs.lemmas.Bool.{and_parts, eqb-true, ltb-true}
use Rattle.std.proofs.lemmas.List.Elements.{All-drop}
use Rattle.std.proofs.lemmas.Option.{same_Some}
use Rattle.std.proofs.lemmas.Grind.{common_steps}
use Rattle.byteorder.specs.Endian.{big_bytes, little_bytes}
use Rattle.plc_base.specs.Addresses.{is_address}
use Rattle.plc_base.specs.Fields.{AreOctets, after, octet, two, little_two}
use Rattle.plc_base.proofs.Places.{after_all, after_none, little_stands, little_two_behind, octet_low, one_then, two_behind, two_low, two_then}
use Rattle.pan_discovery.specs.declared.message.Discovery.{Discovery}
use Rattle.pan_discovery.specs.declared.message.Discovery.TheVariants.{Request, Beacon}
use Rattle.pan_discovery.specs.Messages.{IsDiscovery, SpellsDiscovery, role, request_spelling, beacon_spelling, discovery_spelling}
use Rattle.pan_discovery.specs.Reader.{is_request, is_beacon, beacon_at, discovery_in}
use Rattle.pan_discovery.specs.Laws.{DiscoveriesAreRead, ReadDiscoveriesAreSpelled}

-- # What is spelled is read

request_read : (seq : ℕ) → discovery_in (request_spelling seq) ≡ Some (Request seq)
unfolding discovery_in is_request octet two
request_read seq = refl

beacon_read : (seq pan from cost : ℕ) → IsDiscovery (Beacon seq pan from cost)
    → discovery_in (beacon_spelling seq pan from cost) ≡ Some (Beacon seq pan from cost)
unfolding discovery_in is_beacon octet
beacon_read seq pan from cost h =
    let octets : List ℕ = beacon_spelling seq pan from cost in
    let end : List ℕ = 0xFF ∷ role from ∷ 0x00 ∷ 0x00 ∷ big_bytes 2 cost in
    let kind : two 0 octets ≡ 0x0080 = two_behind [] 0x0080 (seq ∷ little_bytes 2 pan ++ (little_bytes 2 from ++ end)) (omega arith) in
    let e0 : little_two 3 octets ≡ pan = little_two_behind (0x00 ∷ 0x80 ∷ seq ∷ []) pan (little_bytes 2 from ++ end) h.1 in
    let e1 : little_two 5 octets ≡ from = little_two_behind (0x00 ∷ 0x80 ∷ seq ∷ little_bytes 2 pan) from end (omega (arith, h.2)) in
    let lists : two 9 octets ≡ 0 = two_behind (0x00 ∷ 0x80 ∷ seq ∷ little_bytes 2 pan ++ (little_bytes 2 from ++ (0xFF ∷ role from ∷ []))) 0 (big_bytes 2 cost)
    (omega arith) in
    let e2 : two 11 octets ≡ cost = two_behind (0x00 ∷ 0x80 ∷ seq ∷ little_bytes 2 pan ++ (little_bytes 2 from ++ (0xFF ∷ role from ∷ 0x00 ∷ 0x00 ∷ []))) cost
    [] h.3 in
    let valid : is_address from ≡ true = grind (arith, common_steps) in
    let same : (role from == role from) ≡ true = grind (arith, common_steps) in
    rw (kind, e0, e1, valid, same, lists, e2) refl

spelled_read : (m : Discovery) → IsDiscovery m → discovery_in (discovery_spelling m) ≡ Some m
spelled_read (Request seq) h = request_read seq
spelled_read (Beacon seq pan from cost) h = beacon_read seq pan from cost h

pub discoveries_read : DiscoveriesAreRead
discoveries_read m octets h = ap discovery_in h.1 ∙ spelled_read m h.0

pub one_value : (octets : List ℕ) (a b : Discovery) → SpellsDiscovery a octets → SpellsDiscovery b octets → a ≡ b
one_value octets a b h k = same_Some _ _ (sym (discoveries_read a octets h) ∙ discoveries_read b octets k)

-- # What is read is spelled

little_two_then : (at : ℕ) (octets : List ℕ) → AreOctets octets → at + 2 ≤ length octets
    → after at octets ≡ little_bytes 2 (little_two at octets) ++ after (at + 2) octets
unfolding little_two
little_two_then at octets fits whole =
    let read = little_stands 2 at _ octets whole fits refl in
    read.1.parts ∙ ap (λ (n : ℕ). little_bytes 2 n ++ after (at + 2) octets) read.0

little_two_low : (at : ℕ) (octets : List ℕ) → AreOctets octets → little_two at octets < 65536
unfolding little_two octet
little_two_low at octets fits =
    let a : slice_index (drop at octets) 0 < 256 = octet_low 0 (drop at octets) (All-drop (λ x. x < 256) at octets fits) in
    let b : slice_index (drop at octets) 1 < 256 = octet_low 1 (drop at octets) (All-drop (λ x. x < 256) at octets fits) in
    omega arith

read_only : (b : Bool) (v w : Discovery) → (if b then Some v else None) ≡ Some w → (b ≡ true) × (v ≡ w)
read_only false v w e = absurd (cc)
read_only true v w e = (refl, same_Some _ _ e)

request_spelled : (octets : List ℕ) → AreOctets octets → is_request octets ≡ true → SpellsDiscovery (Request (octet 2 octets)) octets
unfolding is_request
request_spelled octets fits is =
    let a = and_parts (length octets == 8) _ is in
    let b = and_parts (two 0 octets == 0x0308) _ a.1 in
    let c = and_parts (two 3 octets == 0xFFFF) _ b.1 in
    let d = and_parts (two 5 octets == 0xFFFF) _ c.1 in
    let long : length octets ≡ 8 = eqb-true _ _ a.0 in
    let kind : big_bytes 2 (two 0 octets) ≡ 0x03 ∷ 0x08 ∷ [] = ap (big_bytes 2) (eqb-true _ _ b.0) in
    let network : big_bytes 2 (two 3 octets) ≡ 0xFF ∷ 0xFF ∷ [] = ap (big_bytes 2) (eqb-true _ _ c.0) in
    let nodes : big_bytes 2 (two 5 octets) ≡ 0xFF ∷ 0xFF ∷ [] = ap (big_bytes 2) (eqb-true _ _ d.0) in
    let command : octet 7 octets ≡ 0x07 = eqb-true _ _ d.1 in
    let e0 : after 0 octets ≡ big_bytes 2 (two 0 octets) ++ after 2 octets = two_then 0 octets fits (omega arith) in
    let e1 : after 2 octets ≡ octet 2 octets ∷ after 3 octets = one_then 2 octets (omega arith) in
    let e2 : after 3 octets ≡ big_bytes 2 (two 3 octets) ++ after 5 octets = two_then 3 octets fits (omega arith) in
    let e3 : after 5 octets ≡ big_bytes 2 (two 5 octets) ++ after 7 octets = two_then 5 octets fits (omega arith) in
    let e4 : after 7 octets ≡ octet 7 octets ∷ after 8 octets = one_then 7 octets (omega arith) in
    let e5 : after 8 octets ≡ [] = after_all 8 octets (omega arith) in
    let tail : after 3 octets ≡ 0xFF ∷ 0xFF ∷ 0xFF ∷ 0xFF ∷ 0x07 ∷ [] =
    e2 ∙ (λ i. network i ++ e3 i) ∙ (λ i. 0xFF ∷ 0xFF ∷ (nodes i ++ e4 i)) ∙ (λ i. 0xFF ∷ 0xFF ∷ 0xFF ∷ 0xFF ∷ command i ∷ e5 i) in
    (octet_low 2 octets fits, sym (after_none octets) ∙ e0 ∙ (λ i. kind i ++ e1 i) ∙ ap (λ (o : List ℕ). 0x03 ∷ 0x08 ∷ octet 2 octets ∷ o) tail)

beacon_spelled : (octets : List ℕ) → AreOctets octets → is_beacon octets ≡ true → SpellsDiscovery (beacon_at octets) octets
unfolding is_beacon
beacon_spelled octets fits is =
    let a = and_parts (length octets == 13) _ is in
    let b = and_parts (two 0 octets == 0x0080) _ a.1 in
    let c = and_parts (is_address (little_two 5 octets)) _ b.1 in
    let d = and_parts (octet 7 octets == 0xFF) _ c.1 in
    let f = and_parts (octet 8 octets == role (little_two 5 octets)) _ d.1 in
    let long : length octets ≡ 13 = eqb-true _ _ a.0 in
    let kind : big_bytes 2 (two 0 octets) ≡ 0x00 ∷ 0x80 ∷ [] = ap (big_bytes 2) (eqb-true _ _ b.0) in
    let frames : octet 7 octets ≡ 0xFF = eqb-true _ _ d.0 in
    let sender : octet 8 octets ≡ role (little_two 5 octets) = eqb-true _ _ f.0 in
    let lists : big_bytes 2 (two 9 octets) ≡ 0x00 ∷ 0x00 ∷ [] = ap (big_bytes 2) (eqb-true _ _ f.1) in
    let e0 : after 0 octets ≡ big_bytes 2 (two 0 octets) ++ after 2 octets = two_then 0 octets fits (omega arith) in
    let e1 : after 2 octets ≡ octet 2 octets ∷ after 3 octets = one_then 2 octets (omega arith) in
    let e2 : after 3 octets ≡ little_bytes 2 (little_two 3 octets) ++ after 5 octets = little_two_then 3 octets fits (omega arith) in
    let e3 : after 5 octets ≡ little_bytes 2 (little_two 5 octets) ++ after 7 octets = little_two_then 5 octets fits (omega arith) in
    let e4 : after 7 octets ≡ octet 7 octets ∷ after 8 octets = one_then 7 octets (omega arith) in
    let e5 : after 8 octets ≡ octet 8 octets ∷ after 9 octets = one_then 8 octets (omega arith) in
    let e6 : after 9 octets ≡ big_bytes 2 (two 9 octets) ++ after 11 octets = two_then 9 octets fits (omega arith) in
    let e7 : after 11 octets ≡ big_bytes 2 (two 11 octets) ++ after 13 octets = two_then 11 octets fits (omega arith) in
    let e8 : after 13 octets ≡ [] = after_all 13 octets (omega arith) in
    let tail : after 7 octets ≡ 0xFF ∷ role (little_two 5 octets) ∷ 0x00 ∷ 0x00 ∷ big_bytes 2 (two 11 octets) =
    e4 ∙ (λ i. frames i ∷ e5 i) ∙ (λ i. 0xFF ∷ sender i ∷ e6 i) ∙ (λ i. 0xFF ∷ role (little_two 5 octets) ∷ (lists i ++ e7 i))
    ∙ ap (λ (o : List ℕ). 0xFF ∷ role (little_two 5 octets) ∷ 0x00 ∷ 0x00 ∷ (big_bytes 2 (two 11 octets) ++ o)) e8 in
    let head : after 3 octets ≡ little_bytes 2 (little_two 3 octets)
    ++ (little_bytes 2 (little_two 5 octets) ++ (0xFF ∷ role (little_two 5 octets) ∷ 0x00 ∷ 0x00 ∷ big_bytes 2 (two 11 octets))) =
    e2 ∙ ap (λ (o : List ℕ). little_bytes 2 (little_two 3 octets) ++ o) (e3 ∙ ap (λ (o : List ℕ). little_bytes 2 (little_two 5 octets) ++ o) tail) in (
      (octet_low 2 octets fits, little_two_low 3 octets fits, ltb-true _ _ c.0, two_low 11 octets fits),
      sym (after_none octets) ∙ e0 ∙ (λ i. kind i ++ e1 i) ∙ ap (λ (o : List ℕ). 0x00 ∷ 0x80 ∷ octet 2 octets ∷ o) head,
    )

pub discoveries_spelled : ReadDiscoveriesAreSpelled
unfolding discovery_in
discoveries_spelled m octets fits = by_length (length octets == 8)
  where
    by_length : (b : Bool) → (if b then (if is_request octets then Some (Request (octet 2 octets)) else None)
        else (if is_beacon octets then Some (beacon_at octets) else None)) ≡ Some m
        → SpellsDiscovery m octets
    by_length true e =
        let read = read_only (is_request octets) _ m e in
        subst (λ v. SpellsDiscovery v octets) read.1 (request_spelled octets fits read.0)
    by_length false e =
        let read = read_only (is_beacon octets) _ m e in
        subst (λ v. SpellsDiscovery v octets) read.1 (beacon_spelled octets fits read.0)

-- # What the reader answers

pub found_read : (octets : List ℕ) (r : Option Discovery) → AreOctets octets → discovery_in octets ≡ r → IfSome r (λ m. SpellsDiscovery m octets)
found_read octets (Some m) fits is = discoveries_spelled m octets fits is
found_read octets None fits is = tt

pub only_read : (octets : List ℕ) (r : Option Discovery) → discovery_in octets ≡ r → (m : Discovery) → SpellsDiscovery m octets → r ≡ Some m
only_read octets r is m spells = sym is ∙ discoveries_read m octets spells
