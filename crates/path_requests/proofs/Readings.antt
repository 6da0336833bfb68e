-- What is read out of octets is the path message that they spell, and the other way round.
use Rattle.std.proofs.Common.{◌≡◌, ◌<◌, ◌==◌, ℕ, ◌+◌, ◌*◌, Bool, true, false, List, [], ◌∷◌, ◌++◌, length, Option, Some, None, if◌then◌else◌, refl, sym, ap}
use Rattle.std.proofs.Common.{subst, ◌∙◌, append-nil, arith}
use Rattle.std.specs.Prelude.{IfSome, nat_lt}
use Rattle.std.specs.List.{list_all}
use Rattle.std.proofs.lemmas.Bool.{and_parts, eqb-true, ltb-true}
use Rattle.std.proofs.lemmas.Option.{same_Some}
use Rattle.std.proofs.lemmas.Grind.{common_steps}
use Rattle.byteorder.specs.Endian.{big_bytes}
use Rattle.plc_base.specs.Addresses.{is_address}
use Rattle.plc_base.specs.Fields.{AreOctets, after, octet, two}
use Rattle.plc_base.proofs.Places.{after_all, first_is, one_then, two_behind, two_then}
use Rattle.path_requests.specs.declared.message.PathMessage.{PathMessage}
use Rattle.path_requests.specs.declared.message.PathMessage.TheVariants.{Ask, Tell}
use Rattle.path_requests.specs.Walks.{has, is_walk, walk_octets, walk_at}
use Rattle.path_requests.specs.Messages.{IsPath, SpellsPath, path_spelling}
use Rattle.path_requests.specs.Reader.{asked_walk, tell_walk, is_ask, is_tell, message_of, path_in}
use Rattle.path_requests.specs.Laws.{PathsAreRead, ReadPathsAreSpelled}
use Rattle.path_requests.proofs.WalkOctets.{length-walk_at, length-walk_octets, walk_behind, walk_then}

-- # What is spelled is read

walk_last : (front walk : List ℕ) → is_walk walk ≡ true → walk_at (length walk) (length front) (front ++ walk_octets walk) ≡ walk
walk_last front walk is =
    ap (λ (o : List ℕ). walk_at (length walk) (length front) (front ++ o)) (sym (append-nil (walk_octets walk)))
    ∙ walk_behind front walk [] (and_parts (list_all is_address walk) _ is).0

ask_read : (t : ℕ) (w : List ℕ) → IsPath (Ask t w) → message_of 1 (path_spelling (Ask t w)) ≡ Some (Ask t w)
unfolding is_ask octet
ask_read t w h =
    let octets : List ℕ = path_spelling (Ask t w) in
    let target : two 1 octets ≡ t = two_behind (1 ∷ []) t (length w ∷ walk_octets w) (omega arith) in
    let walk : asked_walk octets ≡ w = walk_last (1 ∷ big_bytes 2 t ++ (length w ∷ [])) w h.3 in
    let long : length octets ≡ 4 + 2 * length w = omega (arith, length-walk_octets w) in
    let there : nat_lt 3 (length octets) ≡ true = grind (arith, common_steps) in
    let valid : is_address t ≡ true = grind (arith, common_steps) in
    let some : nat_lt 0 (length w) ≡ true = grind (arith, common_steps) in
    let few : nat_lt (length w) 16 ≡ true = grind (arith, common_steps) in
    let whole : (length octets == 4 + 2 * length w) ≡ true = grind (arith, common_steps) in
    let is : is_ask octets ≡ true = rw (there, target, valid, some, few, whole, walk, h.3, h.4) refl in
    rw (is, target, walk) refl

tell_read : (w : List ℕ) → IsPath (Tell w) → message_of 2 (path_spelling (Tell w)) ≡ Some (Tell w)
unfolding is_tell octet
tell_read w h =
    let octets : List ℕ = path_spelling (Tell w) in
    let walk : tell_walk octets ≡ w = walk_last (2 ∷ length w ∷ []) w h.2 in
    let long : length octets ≡ 2 + 2 * length w = omega (arith, length-walk_octets w) in
    let there : nat_lt 1 (length octets) ≡ true = grind (arith, common_steps) in
    let some : nat_lt 1 (length w) ≡ true = grind (arith, common_steps) in
    let few : nat_lt (length w) 17 ≡ true = grind (arith, common_steps) in
    let whole : (length octets == 2 + 2 * length w) ≡ true = grind (arith, common_steps) in
    let is : is_tell octets ≡ true = rw (there, some, few, whole, walk, h.2) refl in
    rw (is, walk) refl

spelled_read : (m : PathMessage) → IsPath m → path_in (path_spelling m) ≡ Some m
unfolding path_in octet
spelled_read (Ask t w) h = ask_read t w h
spelled_read (Tell w) h = tell_read w h

pub paths_read : PathsAreRead
paths_read m octets h = ap path_in h.1 ∙ spelled_read m h.0

pub one_value : (octets : List ℕ) (a b : PathMessage) → SpellsPath a octets → SpellsPath b octets → a ≡ b
one_value octets a b h k = same_Some _ _ (sym (paths_read a octets h) ∙ paths_read b octets k)

-- # What is read is spelled

read_only : (b : Bool) (v w : PathMessage) → (if b then Some v else None) ≡ Some w → (b ≡ true) × (v ≡ w)
read_only false v w e = absurd (cc)
read_only true v w e = (refl, same_Some _ _ e)

ask_spelled : (octets : List ℕ) → AreOctets octets → octet 0 octets ≡ 1 → is_ask octets ≡ true → SpellsPath (Ask (two 1 octets) (asked_walk octets)) octets
unfolding is_ask octet
ask_spelled octets fits kind is =
    let walk : List ℕ = asked_walk octets in
    let count : ℕ = octet 3 octets in
    let a = and_parts (nat_lt 3 (length octets)) _ is in
    let b = and_parts (is_address (two 1 octets)) _ a.1 in
    let c = and_parts (nat_lt 0 count) _ b.1 in
    let d = and_parts (nat_lt count 16) _ c.1 in
    let e = and_parts (length octets == 4 + 2 * count) _ d.1 in
    let f = and_parts (is_walk walk) _ e.1 in
    let many : length walk ≡ count = length-walk_at count 4 octets in
    let there : 3 < length octets = ltb-true _ _ a.0 in
    let long : length octets ≡ 4 + 2 * count = eqb-true _ _ e.0 in
    let some : 0 < count = ltb-true _ _ c.0 in
    let few : count < 16 = ltb-true _ _ d.0 in
    let other : has (two 1 octets) walk ≡ false = grind (arith, common_steps) in
    let e0 : octets ≡ octet 0 octets ∷ after 1 octets = first_is octets (omega arith) in
    let e1 : after 1 octets ≡ big_bytes 2 (two 1 octets) ++ after 3 octets = two_then 1 octets fits (omega arith) in
    let e2 : after 3 octets ≡ count ∷ after 4 octets = one_then 3 octets (omega arith) in
    let e3 : after 4 octets ≡ walk_octets walk ++ after (4 + 2 * count) octets = walk_then count 4 octets fits (omega arith) in
    let e4 : after (4 + 2 * count) octets ≡ [] = after_all (4 + 2 * count) octets (omega arith) in
    let e5 : walk_octets walk ++ [] ≡ walk_octets walk = append-nil (walk_octets walk) in
    ((ltb-true _ _ b.0, omega arith, omega arith, f.0, other), cc (e0, e1, e2, e3, e4, e5, kind, many))

tell_spelled : (octets : List ℕ) → AreOctets octets → octet 0 octets ≡ 2 → is_tell octets ≡ true → SpellsPath (Tell (tell_walk octets)) octets
unfolding is_tell octet
tell_spelled octets fits kind is =
    let walk : List ℕ = tell_walk octets in
    let count : ℕ = octet 1 octets in
    let a = and_parts (nat_lt 1 (length octets)) _ is in
    let b = and_parts (nat_lt 1 count) _ a.1 in
    let c = and_parts (nat_lt count 17) _ b.1 in
    let d = and_parts (length octets == 2 + 2 * count) _ c.1 in
    let many : length walk ≡ count = length-walk_at count 2 octets in
    let there : 1 < length octets = ltb-true _ _ a.0 in
    let long : length octets ≡ 2 + 2 * count = eqb-true _ _ d.0 in
    let some : 1 < count = ltb-true _ _ b.0 in
    let few : count < 17 = ltb-true _ _ c.0 in
    let e0 : octets ≡ octet 0 octets ∷ after 1 octets = first_is octets (omega arith) in
    let e1 : after 1 octets ≡ count ∷ after 2 octets = one_then 1 octets (omega arith) in
    let e2 : after 2 octets ≡ walk_octets walk ++ after (2 + 2 * count) octets = walk_then count 2 octets fits (omega arith) in
    let e3 : after (2 + 2 * count) octets ≡ [] = after_all (2 + 2 * count) octets (omega arith) in
    let e4 : walk_octets walk ++ [] ≡ walk_octets walk = append-nil (walk_octets walk) in
    ((omega arith, omega arith, d.1), cc (e0, e1, e2, e3, e4, kind, many))

pub paths_spelled : ReadPathsAreSpelled
unfolding path_in
paths_spelled m octets fits = by_kind (octet 0 octets == 1) (octet 0 octets == 2) refl refl
  where
    by_kind : (a b : Bool) → (octet 0 octets == 1) ≡ a → (octet 0 octets == 2) ≡ b
        → (if a then (if is_ask octets then Some (Ask (two 1 octets) (asked_walk octets)) else None)
        else (if b then (if is_tell octets then Some (Tell (tell_walk octets)) else None) else None)) ≡ Some m
        → SpellsPath m octets
    by_kind true b ea eb e =
        let read = read_only (is_ask octets) _ m e in
        subst (λ v. SpellsPath v octets) read.1 (ask_spelled octets fits (eqb-true _ _ ea) read.0)
    by_kind false true ea eb e =
        let read = read_only (is_tell octets) _ m e in
        subst (λ v. SpellsPath v octets) read.1 (tell_spelled octets fits (eqb-true _ _ eb) read.0)
    by_kind false false ea eb e = absurd (cc)

-- # What the reader answers

pub found_read : (octets : List ℕ) (r : Option PathMessage) → AreOctets octets → path_in octets ≡ r → IfSome r (λ m. SpellsPath m octets)
found_read octets (Some m) fits is = paths_spelled m octets fits is
found_read octets None fits is = tt

pub only_read : (octets : List ℕ) (r : Option PathMessage) → path_in octets ≡ r → (m : PathMessage) → SpellsPath m octets → r ≡ Some m
only_read octets r is m spells = sym is ∙ paths_read m octets spells
