-- A grant has one spelling that passes the test, and a spelling one grant.
use Rattle.std.proofs.Common.{◌≡◌, ℕ, ◌+◌, ◌<◌, ◌≤◌, true, false, List, [], ◌∷◌, ◌++◌, length, Option, Some, None, refl, sym, ap, ◌∙◌, arith, length-append}
use Rattle.std.specs.Prelude.{IfSome, MatchOption}
use Rattle.std.proofs.lemmas.Grind.{common_steps}
use Rattle.byteorder.specs.Endian.{big_bytes}
use Rattle.plc_base.specs.Fields.{octet, two}
use Rattle.plc_base.specs.Addresses.{IsAddress}
use Rattle.plc_base.proofs.Places.{fronts_same, octet_past, two_behind, two_same}
use Rattle.plc_base.specs.Grant.{Granted, IsGrant}
use Rattle.plc_base.specs.declared.key.Key.{Key}
use Rattle.joining_messages.specs.Grants.{IsGranted, IsPlace, SpellsGrant, grant_spelling, key_then, stands, address_stands, index_stands, sixteen_stand}
use Rattle.joining_messages.specs.Grants.{head_stands, key_stands, keys_stand, is_parameter_list}

key_from : List ℕ → Key
key_from octets = record { 0 = octets }

key_same : (k l : Key) → k.0 ≡ l.0 → k ≡ l
unfolding key_from
key_same k l e = ap key_from e

-- the places for keys are known by what is spelled of them
second_same : (a b : Option Key) → IsPlace a → IsPlace b → key_then 1 a [] ≡ key_then 1 b [] → a ≡ b
second_same None None ha hb e = refl
second_same None (Some l) ha hb e = absurd cc
second_same (Some k) None ha hb e = absurd cc
second_same (Some k) (Some l) ha hb e =
    let tails : k.0 ++ [] ≡ l.0 ++ [] = cc in
    ap Some (key_same k l ((fronts_same k.0 l.0 [] [] (ha ∙ sym hb) tails).0))

places_same : (a b c d : Option Key) → IsPlace a → IsPlace b → IsPlace c → IsPlace d → key_then 0 a (key_then 1 b []) ≡ key_then 0 c (key_then 1 d [])
    → (a ≡ c) × (b ≡ d)
places_same None b None d ha hb hc hd e = (refl, second_same b d hb hd e)
places_same (Some k) b (Some l) d ha hb hc hd e =
    let tails : k.0 ++ key_then 1 b [] ≡ l.0 ++ key_then 1 d [] = cc in
    let parts = fronts_same k.0 l.0 (key_then 1 b []) (key_then 1 d []) (ha ∙ sym hc) tails in
    (ap Some (key_same k l parts.0), second_same b d hb hd parts.1)
places_same None None (Some l) d ha hb hc hd e = absurd cc
places_same None (Some k) (Some l) d ha hb hc hd e =
    let zero_one : ℕ = 1 in
    let heads : zero_one ≡ 0 = cc in
    absurd (omega arith)
places_same (Some k) b None None ha hb hc hd e = absurd cc
places_same (Some k) b None (Some l) ha hb hc hd e =
    let zero_one : ℕ = 0 in
    let heads : zero_one ≡ 1 = cc in
    absurd (omega arith)

granted_from : ℕ → ℕ → Option Key → Option Key → Granted
granted_from address active first second = record { address = address; active = active; key0 = first; key1 = second }

-- a spelling is of one grant
pub one_grant : (g h : Granted) → IsGranted g → IsGranted h → grant_spelling g ≡ grant_spelling h → g ≡ h
unfolding granted_from
one_grant g h hg hh e =
    let address : g.address ≡ h.address = two_same g.address h.address (omega (arith, hg.address)) (omega (arith, hh.address)) (cc) (cc) in
    let active : g.active ≡ h.active = cc in
    let places : key_then 0 g.key0 (key_then 1 g.key1 []) ≡ key_then 0 h.key0 (key_then 1 h.key1 []) = cc in
    let keys = places_same g.key0 g.key1 h.key0 h.key1 hg.first hg.second hh.first hh.second places in
    ap (λ (x : ℕ). granted_from x g.active g.key0 g.key1) address ∙ ap (λ (x : ℕ). granted_from h.address x g.key0 g.key1) active
    ∙ ap (λ (x : Option Key). granted_from h.address h.active x g.key1) keys.0 ∙ ap (λ (x : Option Key). granted_from h.address h.active h.key0 x) keys.1

-- a field that is as it should be passes its test
stands_true : (at x : ℕ) (octets : List ℕ) → at < length octets → octet at octets ≡ x → stands at x octets ≡ true
unfolding stands
stands_true at x octets within is = grind (arith, common_steps)

address_true : (at a : ℕ) (octets : List ℕ) → at + 1 < length octets → two at octets ≡ a → IsAddress a → address_stands at octets ≡ true
unfolding address_stands
address_true at a octets within is fits = grind (arith, common_steps)

index_true : (at : ℕ) (octets : List ℕ) → at < length octets → octet at octets ≤ 1 → index_stands at octets ≡ true
unfolding index_stands
index_true at octets within low = grind (arith, common_steps)

sixteen_true : (at : ℕ) (octets : List ℕ) → at + 15 < length octets → sixteen_stand at octets ≡ true
unfolding sixteen_stand
sixteen_true at octets within = grind (arith, common_steps)

head_true : (address active : ℕ) (rest : List ℕ) → IsAddress address → active ≤ 1 → head_stands (1 ∷ 2 ∷ big_bytes 2 address ++ (2 ∷ 1 ∷ active ∷ rest)) ≡ true
unfolding head_stands octet
head_true address active rest fits low =
    let octets : List ℕ = 1 ∷ 2 ∷ big_bytes 2 address ++ (2 ∷ 1 ∷ active ∷ rest) in
    let f0 : stands 0 1 octets ≡ true = stands_true 0 1 octets (omega arith) refl in
    let f1 : stands 1 2 octets ≡ true = stands_true 1 2 octets (omega arith) refl in
    let f2 : address_stands 2 octets
    ≡ true = address_true 2 address octets (omega arith) (two_behind (1 ∷ 2 ∷ []) address (2 ∷ 1 ∷ active ∷ rest) (omega arith)) fits in
    let f3 : stands 4 2 octets ≡ true = stands_true 4 2 octets (omega arith) refl in
    let f4 : stands 5 1 octets ≡ true = stands_true 5 1 octets (omega arith) refl in
    let f5 : index_stands 6 octets ≡ true = index_true 6 octets (omega arith) low in
    rw (f0, f1, f2, f3, f4, f5) refl

key_true : (front : List ℕ) (index : ℕ) (key rest : List ℕ) → length key ≡ 16
    → key_stands (length front) index (front ++ (3 ∷ 0x11 ∷ index ∷ key ++ rest)) ≡ true
unfolding key_stands octet
key_true front index key rest sixteen =
    let field : List ℕ = 3 ∷ 0x11 ∷ index ∷ key ++ rest in
    let octets : List ℕ = front ++ field in
    let len : length octets ≡ length front + (19 + length rest) = omega (arith, length-append front field, length-append key rest) in
    let at0 : octet (length front) octets
    ≡ 3 = ap (λ (n : ℕ). octet n octets) (let same : length front ≡ length front + 0 = omega arith in same) ∙ octet_past front field 0 in
    let f0 : stands (length front) 3 octets ≡ true = stands_true (length front) 3 octets (omega arith) at0 in
    let f1 : stands (length front + 1) 0x11 octets ≡ true = stands_true (length front + 1) 0x11 octets (omega arith) (octet_past front field 1) in
    let f2 : stands (length front + 2) index octets ≡ true = stands_true (length front + 2) index octets (omega arith) (octet_past front field 2) in
    let f3 : sixteen_stand (length front + 3) octets ≡ true = sixteen_true (length front + 3) octets (omega arith) in
    rw (f0, f1, f2, f3) refl

-- the keys of a grant stand after its head
head_of : ℕ → ℕ → List ℕ
head_of address active = 1 ∷ 2 ∷ big_bytes 2 address ++ (2 ∷ 1 ∷ active ∷ [])

one_true : (address active : ℕ) (key : Key) → length key.0 ≡ 16 → keys_stand (head_of address active ++ (3 ∷ 0x11 ∷ active ∷ key.0 ++ [])) ≡ true
unfolding head_of octet
one_true address active key sixteen =
    let octets : List ℕ = head_of address active ++ (3 ∷ 0x11 ∷ active ∷ key.0 ++ []) in
    let len : length octets ≡ 26 = omega (arith, length-append key.0 []) in
    let f : key_stands 7 active octets ≡ true = key_true (head_of address active) active key.0 [] sixteen in
    rw (len, f) refl

two_true : (address active : ℕ) (first second : Key) → length first.0 ≡ 16 → length second.0 ≡ 16
    → keys_stand (head_of address active ++ (3 ∷ 0x11 ∷ 0 ∷ first.0 ++ (3 ∷ 0x11 ∷ 1 ∷ second.0 ++ []))) ≡ true
unfolding head_of octet
two_true address active first second h k =
    let last : List ℕ = 3 ∷ 0x11 ∷ 1 ∷ second.0 ++ [] in
    let octets : List ℕ = head_of address active ++ (3 ∷ 0x11 ∷ 0 ∷ first.0 ++ last) in
    let front : List ℕ = head_of address active ++ (3 ∷ 0x11 ∷ 0 ∷ first.0) in
    let len : length octets ≡ 45 = omega (arith, length-append first.0 last, length-append second.0 []) in
    let before : length front ≡ 26 = omega (arith, h) in
    let f : key_stands 7 0 octets ≡ true = key_true (head_of address active) 0 first.0 last h in
    let g : key_stands 26 1 octets ≡ true = ap (λ (n : ℕ). key_stands n 1 octets) (sym before) ∙ key_true front 1 second.0 [] k in
    rw (len, f, g) refl

keys_true : (address active : ℕ) (first second : Option Key) → IsGrant (record { address = address; active = active; key0 = first; key1 = second })
    → IsPlace first → IsPlace second
    → keys_stand (head_of address active ++ key_then 0 first (key_then 1 second [])) ≡ true
unfolding head_of
keys_true address active None None h a b = let held = h.held in absurd (grind (arith, common_steps))
keys_true address active (Some k) None h a b =
    let zero : active ≡ 0 = let held = h.held in let index = h.index in grind (arith, common_steps) in
    rw zero (one_true address 0 k a)
keys_true address active None (Some k) h a b =
    let one : active ≡ 1 = let held = h.held in let index = h.index in grind (arith, common_steps) in
    rw one (one_true address 1 k b)
keys_true address active (Some k) (Some l) h a b = two_true address active k l a b

-- what is spelled passes the test
pub spelled_true : (g : Granted) → IsGranted g → is_parameter_list (grant_spelling g) ≡ true
unfolding head_of
spelled_true g h =
    let head : head_stands (grant_spelling g) ≡ true = head_true g.address g.active (key_then 0 g.key0 (key_then 1 g.key1 [])) h.address h.active.index in
    let keys : keys_stand (grant_spelling g) ≡ true = keys_true g.address g.active g.key0 g.key1 h.active h.first h.second in
    rw (head, keys) refl

pub only_granted : (octets : List ℕ) (r : Option Granted) → IfSome r (λ g. SpellsGrant g octets)
    → MatchOption r (is_parameter_list octets ≡ false) (λ g. is_parameter_list octets ≡ true)
    → (g : Granted) → SpellsGrant g octets → r ≡ Some g
only_granted octets (Some x) found exact g spells = ap Some (one_grant x g found.0 spells.0 (sym found.1 ∙ spells.1))
only_granted octets None found exact g spells = let passes = spelled_true g spells.0 in let same = ap is_parameter_list spells.1 in absurd cc
