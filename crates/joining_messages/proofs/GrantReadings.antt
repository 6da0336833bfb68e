-- What is read out of octets is the grant that they spell, and the other way round.
use Rattle.std.proofs.Common.{◌≡◌, ◌≢◌, ℕ, ◌+◌, ◌<◌, ◌≤◌, ◌==◌, Bool, true, false, List, [], ◌∷◌, ◌++◌, length, take, drop, Option, Some, None, if◌then◌else◌}
use Rattle.std.proofs.Common.{refl, sym, ap, subst, ◌∙◌, arith}
use Rattle.std.specs.Prelude.{IfSome, MatchOption, ◌&&◌, is_some, nat_lt}
use Rattle.std.proofs.Math.Seq.{drop-append_seam, take-append_seam}
use Rattle.std.proofs.lemmas.Bool.{eqb-true, eqb-false, ltb-true, and_parts}
use Rattle.std.proofs.lemmas.List.{drop-drop, length-append}
use Rattle.std.proofs.lemmas.Option.{same_Some}
use Rattle.std.proofs.lemmas.Grind.{common_steps}
use Rattle.byteorder.specs.Endian.{big_bytes}
use Rattle.plc_base.specs.Addresses.{IsAddress}
use Rattle.plc_base.specs.Fields.{AreOctets, after, octet, part, two}
use Rattle.plc_base.specs.Grant.{Granted}
use Rattle.plc_base.specs.declared.key.Key.{Key}
use Rattle.plc_base.proofs.Places.{after_all, after_none, length-part, one_then, part_then, two_behind, two_then}
use Rattle.joining_messages.specs.Grants.{IsGranted, SpellsGrant, grant_spelling, key_then, stands, address_stands, index_stands, sixteen_stand, head_stands}
use Rattle.joining_messages.specs.Grants.{key_stands, keys_stand, is_parameter_list}
use Rattle.joining_messages.specs.Reader.{granted_in, grant_in, key_at}
use Rattle.joining_messages.specs.Laws.{GrantsAreRead, ReadGrantsAreSpelled}
use Rattle.joining_messages.proofs.GrantLaws.{spelled_true}

-- # A grant that is spelled is read

key_part : (front : List ℕ) (key : Key) (rest : List ℕ) → length key.0 ≡ 16 → part (length front) 16 (front ++ (key.0 ++ rest)) ≡ key.0
unfolding part
key_part front key rest long =
    ap (take 16) (drop-append_seam front (key.0 ++ rest)) ∙ ap (λ n. take n (key.0 ++ rest)) (sym long) ∙ take-append_seam key.0 rest

key_past : (front : List ℕ) (k : ℕ) (a b : Key) (rest : List ℕ) → length a.0 ≡ 16 → length b.0 ≡ 16
    → part (length front + (16 + k)) 16 (front ++ (a.0 ++ rest)) ≡ part k 16 rest
unfolding part
key_past front k a b rest long other =
    ap (take 16) (sym (drop-drop (16 + k) (length front) (front ++ (a.0 ++ rest))) ∙ ap (drop (16 + k)) (drop-append_seam front (a.0 ++ rest))
    ∙ ap (λ n. drop (n + k) (a.0 ++ rest)) (sym long) ∙ sym (drop-drop k (length a.0) (a.0 ++ rest)) ∙ ap (drop k) (drop-append_seam a.0 rest))

granted_is : (address active address' active' : ℕ) (k l k' l' : Option Key) → address ≡ address' → active ≡ active' → k ≡ k' → l ≡ l'
    → let v : Granted = record { address = address; active = active; key0 = k; key1 = l } in
    v ≡ record { address = address'; active = active'; key0 = k'; key1 = l' }
granted_is address active address' active' k l k' l' a b c d = rw (a, b, c, d) refl

chosen_long : (n : ℕ) (a b : Granted) → n ≡ 45 → (if n == 45 then a else b) ≡ a
chosen_long n a b is = rw is refl

chosen_short : (n : ℕ) (a b : Granted) → n ≡ 26 → (if n == 45 then a else b) ≡ b
chosen_short n a b is = rw is refl

-- which index is active where one key is held
zero_if : (active : ℕ) (k : Key) → is_some (if active == 0 then Some k else None) ≡ true → active ≡ 0
zero_if active k held = grind (arith, common_steps)

one_if : (active : ℕ) (l : Key) → active ≤ 1 → is_some (if active == 0 then None else Some l) ≡ true → active ≡ 1
one_if active l low held = grind (arith, common_steps)

none_if : (b : Bool) → (let none : Option Key = None in is_some (if b then none else none) ≡ true) → ⊥
none_if true held = cc
none_if false held = cc

abbrev granted : ℕ → ℕ → Option Key → Option Key → Granted
granted address active k l = record { address = address; active = active; key0 = k; key1 = l }

-- what comes before the first key, at an index
abbrev in_front : ℕ → ℕ → ℕ → List ℕ
in_front address active index = 1 ∷ 2 ∷ big_bytes 2 address ++ (2 ∷ 1 ∷ active ∷ 3 ∷ 0x11 ∷ index ∷ [])

both_read : (address active : ℕ) (k l : Key) → IsAddress address → length k.0 ≡ 16 → length l.0 ≡ 16
    → granted_in (grant_spelling (granted address active (Some k) (Some l))) ≡ granted address active (Some k) (Some l)
unfolding octet
both_read address active k l low long other =
    let rest : List ℕ = 3 ∷ 0x11 ∷ 1 ∷ l.0 ++ [] in
    let octets : List ℕ = in_front address active 0 ++ (k.0 ++ rest) in
    chosen_long (length octets) _ _ (omega (arith, long, other, length-append k.0 rest, length-append l.0 []))
    ∙ granted_is _ _ _ _ _ _ _ _ (two_behind (1 ∷ 2 ∷ []) address (2 ∷ 1 ∷ active ∷ 3 ∷ 0x11 ∷ 0 ∷ k.0 ++ rest) (omega (arith, low))) refl
    (ap (λ x. let v : Key = record { 0 = x } in Some v) (key_part (in_front address active 0) k rest long))
    (ap (λ x. let v : Key = record { 0 = x } in Some v) (key_past (in_front address active 0) 3 k l rest long other ∙ key_part (3 ∷ 0x11 ∷ 1 ∷ []) l [] other))

first_read : (address : ℕ) (k : Key) → IsAddress address → length k.0 ≡ 16
    → granted_in (grant_spelling (granted address 0 (Some k) None)) ≡ granted address 0 (Some k) None
unfolding octet
first_read address k low long =
    let octets : List ℕ = in_front address 0 0 ++ (k.0 ++ []) in
    chosen_short (length octets) _ _ (omega (arith, long, length-append k.0 []))
    ∙ granted_is _ _ _ _ _ _ _ _ (two_behind (1 ∷ 2 ∷ []) address (2 ∷ 1 ∷ 0 ∷ 3 ∷ 0x11 ∷ 0 ∷ k.0 ++ []) (omega (arith, low))) refl
    (ap (λ x. let v : Key = record { 0 = x } in Some v) (key_part (in_front address 0 0) k [] long)) refl

second_read : (address : ℕ) (l : Key) → IsAddress address → length l.0 ≡ 16
    → granted_in (grant_spelling (granted address 1 None (Some l))) ≡ granted address 1 None (Some l)
unfolding octet
second_read address l low long =
    let octets : List ℕ = in_front address 1 1 ++ (l.0 ++ []) in
    chosen_short (length octets) _ _ (omega (arith, long, length-append l.0 []))
    ∙ granted_is _ _ _ _ _ _ _ _ (two_behind (1 ∷ 2 ∷ []) address (2 ∷ 1 ∷ 1 ∷ 3 ∷ 0x11 ∷ 1 ∷ l.0 ++ []) (omega (arith, low))) refl
    refl (ap (λ x. let v : Key = record { 0 = x } in Some v) (key_part (in_front address 1 1) l [] long))

abbrev IsRead : ℕ → ℕ → Option Key → Option Key → Type 0
IsRead address active k l = granted_in (grant_spelling (granted address active k l)) ≡ granted address active k l

by_keys : (address active : ℕ) (k l : Option Key) → IsGranted (granted address active k l) → IsRead address active k l
by_keys address active (Some k) (Some l) h = both_read address active k l h.address h.first h.second
by_keys address active (Some k) None h =
    subst (λ n. IsRead address n (Some k) None) (sym (zero_if active k h.active.held)) (first_read address k h.address h.first)
by_keys address active None (Some l) h =
    subst (λ n. IsRead address n None (Some l)) (sym (one_if active l h.active.index h.active.held)) (second_read address l h.address h.second)
by_keys address active None None h = absurd (none_if (active == 0) h.active.held)

grant_by : (b : Bool) (g : Granted) → b ≡ true → (if b then Some g else None) ≡ Some g
grant_by true g is = refl
grant_by false g is = cc

pub grant_read : GrantsAreRead
unfolding grant_in
grant_read g octets h =
    subst (λ o. grant_in o ≡ Some g) (sym h.1)
    (grant_by (is_parameter_list (grant_spelling g)) _ (spelled_true g h.0) ∙ ap Some (by_keys g.address g.active g.key0 g.key1 h.0))

-- # A grant that is read is spelled

octet_is : (at x : ℕ) (octets : List ℕ) → stands at x octets ≡ true → (at + 1 ≤ length octets) × (after at octets ≡ x ∷ after (at + 1) octets)
unfolding stands
octet_is at x octets e =
    let parts = and_parts (nat_lt at (length octets)) _ e in
    let within : at < length octets = ltb-true _ _ parts.0 in
    let is : octet at octets ≡ x = eqb-true _ _ parts.1 in
    (omega arith, one_then at octets (omega arith) ∙ ap (λ (y : ℕ). y ∷ after (at + 1) octets) is)

-- What the first parameters say.
record IsHead (octets : List ℕ) : Type 0 where
  address : IsAddress (two 2 octets)
  index : octet 6 octets ≤ 1
  spelled : octets ≡ 1 ∷ 2 ∷ big_bytes 2 (two 2 octets) ++ (2 ∷ 1 ∷ octet 6 octets ∷ after 7 octets)

head_is : (octets : List ℕ) → AreOctets octets → head_stands octets ≡ true → IsHead octets
unfolding head_stands address_stands index_stands
head_is octets fits e =
    let a = and_parts (stands 0 1 octets) _ e in
    let b = and_parts (stands 1 2 octets) _ a.1 in
    let c = and_parts (address_stands 2 octets) _ b.1 in
    let d = and_parts (stands 4 2 octets) _ c.1 in
    let f = and_parts (stands 5 1 octets) _ d.1 in
    let there = and_parts (nat_lt 3 (length octets)) _ c.0 in
    let four : 3 < length octets = ltb-true _ _ there.0 in
    let last = and_parts (nat_lt 6 (length octets)) _ f.1 in
    let seven : 6 < length octets = ltb-true _ _ last.0 in
    let low : octet 6 octets < 2 = ltb-true _ _ last.1 in
    let e0 : octets ≡ 1 ∷ after 1 octets = sym (after_none octets) ∙ (octet_is 0 1 octets a.0).1 in
    let e1 = (octet_is 1 2 octets b.0).1 in
    let e2 = two_then 2 octets fits (omega arith) in
    let e3 = (octet_is 4 2 octets d.0).1 in
    let e4 = (octet_is 5 1 octets f.0).1 in
    let e5 = one_then 6 octets (omega arith) in
    record { address = ltb-true _ _ there.1; index = omega arith; spelled = cc (e0, e1, e2, e3, e4, e5) }

-- What a key's parameter says.
record IsKey (at index : ℕ) (octets : List ℕ) : Type 0 where
  sixteen : length (part (at + 3) 16 octets) ≡ 16
  spelled : after at octets ≡ 3 ∷ 0x11 ∷ index ∷ part (at + 3) 16 octets ++ after (at + 19) octets

key_is : (at index : ℕ) (octets : List ℕ) → key_stands at index octets ≡ true → IsKey at index octets
unfolding key_stands sixteen_stand
key_is at index octets e =
    let a = and_parts (stands at 3 octets) _ e in
    let b = and_parts (stands (at + 1) 0x11 octets) _ a.1 in
    let c = and_parts (stands (at + 2) index octets) _ b.1 in
    let end : at + 3 + 15 < length octets = ltb-true _ _ c.1 in
    let e0 = (octet_is at 3 octets a.0).1 in
    let e1 = (octet_is (at + 1) 0x11 octets b.0).1 in
    let e2 = (octet_is (at + 2) index octets c.0).1 in
    let e3 = part_then (at + 3) 16 octets (omega arith) in
    let two : at + 1 + 1 ≡ at + 2 = omega arith in
    let three : at + 2 + 1 ≡ at + 3 = omega arith in
    let last : at + 3 + 16 ≡ at + 19 = omega arith in
    record {
      sixteen = length-part (at + 3) 16 octets (omega arith);
      spelled = e0 ∙ ap (λ (xs : List ℕ). 3 ∷ xs) (e1 ∙ ap (λ (n : ℕ). 0x11 ∷ after n octets) two)
          ∙ ap (λ (xs : List ℕ). 3 ∷ 0x11 ∷ xs) (e2 ∙ ap (λ (n : ℕ). index ∷ after n octets) three)
          ∙ ap (λ (xs : List ℕ). 3 ∷ 0x11 ∷ index ∷ xs) (e3 ∙ ap (λ (n : ℕ). part (at + 3) 16 octets ++ after n octets) last);
    }

-- a grant whose octets go on after the head as its keys are spelled
spelled_by : (octets : List ℕ) (address active : ℕ) (k l : Option Key) → octets ≡ 1 ∷ 2 ∷ big_bytes 2 address ++ (2 ∷ 1 ∷ active ∷ after 7 octets)
    → after 7 octets ≡ key_then 0 k (key_then 1 l []) → octets ≡ grant_spelling (granted address active k l)
spelled_by octets address active k l head keys = head ∙ ap (λ (xs : List ℕ). 1 ∷ 2 ∷ big_bytes 2 address ++ (2 ∷ 1 ∷ active ∷ xs)) keys

fields_granted : (octets : List ℕ) → AreOctets octets → is_parameter_list octets ≡ true → SpellsGrant (granted_in octets) octets
fields_granted octets fits e = by_length (length octets == 45) (length octets == 26) refl refl (head_is octets fits parts.0) parts.1
  where
    parts : (head_stands octets ≡ true) × (keys_stand octets ≡ true)
    parts = and_parts (head_stands octets) _ e

    by_length : (long short : Bool) → (length octets == 45) ≡ long → (length octets == 26) ≡ short → IsHead octets
        → (if short then key_stands 7 (octet 6 octets) octets else (if long then key_stands 7 0 octets && key_stands 26 1 octets else false)) ≡ true
        → SpellsGrant (if long then granted (two 2 octets) (octet 6 octets) (key_at 10 octets) (key_at 29 octets)
        else (if octet 6 octets == 0 then granted (two 2 octets) 0 (key_at 10 octets) None
        else granted (two 2 octets) (octet 6 octets) None (key_at 10 octets))) octets
    by_length true true el es h k =
        let n : length octets ≡ 45 = eqb-true _ _ el in
        let m : length octets ≡ 26 = eqb-true _ _ es in
        absurd (omega arith)
    by_length true false el es h k =
        let n : length octets ≡ 45 = eqb-true _ _ el in
        let both = and_parts (key_stands 7 0 octets) _ k in
        let first = key_is 7 0 octets both.0 in
        let second = key_is 26 1 octets both.1 in
        let end : after 45 octets ≡ [] = after_all 45 octets (omega arith) in
        let keys : after 7 octets ≡ key_then 0 (key_at 10 octets) (key_then 1 (key_at 29 octets) []) =
        first.spelled ∙ ap (λ (xs : List ℕ). 3 ∷ 0x11 ∷ 0 ∷ part 10 16 octets ++ xs)
        (second.spelled ∙ ap (λ (xs : List ℕ). 3 ∷ 0x11 ∷ 1 ∷ part 29 16 octets ++ xs) end) in (
          record {
            address = h.address;
            active = record { index = h.index; held = either_held (octet 6 octets == 0) };
            first = first.sixteen;
            second = second.sixteen;
          },
          spelled_by octets _ _ (key_at 10 octets) (key_at 29 octets) h.spelled keys,
        )
      where
        either_held : (b : Bool) → is_some (if b then key_at 10 octets else key_at 29 octets) ≡ true
        either_held true = refl
        either_held false = refl
    by_length false false el es h k = absurd (cc)
    by_length false true el es h k =
        let n : length octets ≡ 26 = eqb-true _ _ es in
        let key = key_is 7 (octet 6 octets) octets k in
        let end : after 26 octets ≡ [] = after_all 26 octets (omega arith) in
        let rest : after 7 octets ≡ 3 ∷ 0x11 ∷ octet 6 octets ∷ part 10 16 octets ++ [] = key.spelled
        ∙ ap (λ (xs : List ℕ). 3 ∷ 0x11 ∷ octet 6 octets ∷ part 10 16 octets ++ xs) end in
        by_active key.sixteen rest (octet 6 octets == 0) refl
      where
        by_active : length (part 10 16 octets) ≡ 16 → after 7 octets ≡ 3 ∷ 0x11 ∷ octet 6 octets ∷ part 10 16 octets ++ [] → (b : Bool)
            → (octet 6 octets == 0) ≡ b
            → SpellsGrant (if b then granted (two 2 octets) 0 (key_at 10 octets) None else granted (two 2 octets) (octet 6 octets) None (key_at 10 octets))
            octets
        by_active sixteen rest true is =
            let zero_is : octet 6 octets ≡ 0 = eqb-true _ _ is in (
              record { address = h.address; active = record { index = omega arith; held = refl }; first = sixteen; second = tt },
              spelled_by octets _ 0 (key_at 10 octets) None
                  (h.spelled ∙ ap (λ (x : ℕ). 1 ∷ 2 ∷ big_bytes 2 (two 2 octets) ++ (2 ∷ 1 ∷ x ∷ after 7 octets)) zero_is)
                  (rest ∙ ap (λ (x : ℕ). 3 ∷ 0x11 ∷ x ∷ part 10 16 octets ++ []) zero_is),
            )
        by_active sixteen rest false is =
            let other : octet 6 octets ≢ 0 = eqb-false _ _ is in
            let low = h.index in
            let one_is : octet 6 octets ≡ 1 = omega arith in (
              record { address = h.address; active = record { index = h.index; held = rw is refl }; first = tt; second = sixteen },
              spelled_by octets _ (octet 6 octets) None (key_at 10 octets) h.spelled (rest ∙ ap (λ (x : ℕ). 3 ∷ 0x11 ∷ x ∷ part 10 16 octets ++ []) one_is),
            )

pub grant_spelled : ReadGrantsAreSpelled
unfolding grant_in
grant_spelled g octets fits = by_list (is_parameter_list octets) refl
  where
    by_list : (b : Bool) → is_parameter_list octets ≡ b → (if b then Some (granted_in octets) else None) ≡ Some g → SpellsGrant g octets
    by_list false is e = absurd (cc)
    by_list true is e = let same : granted_in octets ≡ g = same_Some _ _ e in subst (λ v. SpellsGrant v octets) same (fields_granted octets fits is)

-- # What the reader answers

not_granted : (b : Bool) (g : Granted) → b ≡ false → (let none : Option Granted = None in (if b then Some g else none) ≡ none)
not_granted true g e = absurd (cc)
not_granted false g e = refl

pub value_granted : (octets : List ℕ) (r : Option Granted) → IfSome r (λ g. SpellsGrant g octets)
    → MatchOption r (is_parameter_list octets ≡ false) (λ g. is_parameter_list octets ≡ true) → grant_in octets ≡ r
unfolding grant_in
value_granted octets (Some g) found exact = grant_read g octets found
value_granted octets None found exact = not_granted (is_parameter_list octets) (granted_in octets) exact
