-- A joining message that is read is in its ranges, whatever was read.
use Rattle.std.proofs.Common.{◌≡◌, ◌≢◌, ℕ, zero, suc, ◌≤◌, ◌<◌, Bool, true, false, List, [], ◌∷◌, length, drop, Option, Some, None, refl, sym, ap, ◌∙◌, subst}
use Rattle.std.proofs.Common.{arith}
use Rattle.std.specs.Prelude.{◌==◌, if◌then◌else◌, is_some, nat_lt, slice_index}
use Rattle.std.proofs.lemmas.Bool.{eqb-true, eqb-false, ltb-true, ltb-false, and_parts, or_parts}
use Rattle.std.proofs.lemmas.Option.{same_Some}
use Rattle.std.proofs.lemmas.List.{length-take-le, length-drop}
use Rattle.plc_base.specs.declared.fields.Fault.{Fault}
use Rattle.plc_base.specs.Faults.{◌then◌, ◌when◌, fault_at, cut_off}
use Rattle.plc_base.specs.Fields.{octet, part, after}
use Rattle.joining_messages.specs.declared.message.JoinMessage.{JoinMessage}
use Rattle.joining_messages.specs.declared.message.JoinBody.{JoinBody}
use Rattle.joining_messages.specs.declared.message.JoinBody.TheVariants.{Join, Accept, Challenge, Decline, Kick, Activate}
use Rattle.joining_messages.specs.declared.fault.JoinFaultKind.{JoinFaultKind}
use Rattle.joining_messages.specs.declared.fault.JoinFaultKind.TheVariants as kinds
use Rattle.joining_messages.specs.Messages.{rest_of}
use Rattle.joining_messages.specs.Faults.{code_fault, eui_fault, join_rest_fault, accept_rest_fault, challenge_rest_fault, no_rest_fault, rest_fault}
use Rattle.joining_messages.specs.Faults.{join_fault, is_index, activate_rest_fault}
use Rattle.joining_messages.specs.Reader.{join_in, body_in}
use Rattle.joining_messages.specs.Laws.{ReadJoinsFit}

then_none : {F : Type 0} (a b : Option F) → (a then b) ≡ None → (a ≡ None) × (b ≡ None)
then_none None b e = (refl, e)
then_none (Some f) b e = absurd (cc)

when_none : {F : Type 0} (f : F) (t : Bool) → (Some f when t) ≡ None → t ≡ false
when_none f true e = absurd (cc)
when_none f false e = refl

-- What there is where a joining message was read.
record IsRead (octets : List ℕ) (join : JoinMessage) : Type 0 where
  none : join_fault octets ≡ None
  eui : part 1 8 octets ≡ join.eui.0
  body : body_in (octet 0 octets) octets ≡ join.body

is_read : (octets : List ℕ) (join : JoinMessage) → join_in octets ≡ Some join → IsRead octets join
unfolding join_in
is_read octets join = by_fault (join_fault octets) refl
  where
    by_fault : (o : Option (Fault JoinFaultKind)) → join_fault octets ≡ o
        → (if is_some o then None else Some (record { eui = record { 0 = part 1 8 octets }; body = body_in (octet 0 octets) octets })) ≡ Some join
        → IsRead octets join
    by_fault (Some f) is e = absurd (cc)
    by_fault None is e =
        let same = same_Some _ _ e in record { none = is; eui = ap (λ (j : JoinMessage). j.eui.0) same; body = ap (λ (j : JoinMessage). j.body) same }

long_enough : (octets : List ℕ) → eui_fault octets ≡ None → 9 ≤ length octets
unfolding eui_fault cut_off
long_enough octets e = ltb-false _ _ (when_none _ _ e)

eight : (octets : List ℕ) → 9 ≤ length octets → length (part 1 8 octets) ≡ 8
unfolding part
eight octets long = length-take-le 8 (drop 1 octets) (let less = length-drop 1 octets in omega arith)

front_of_rest : (n : ℕ) (xs : List ℕ) → slice_index (drop n xs) 0 ≡ slice_index xs n
front_of_rest zero xs = refl
front_of_rest (suc n) [] = refl
front_of_rest (suc n) (x ∷ xs) = front_of_rest n xs

index_low : (octets : List ℕ) → activate_rest_fault octets ≡ None → octet 9 octets ≤ 1
unfolding activate_rest_fault octet after
index_low octets = by_index (is_index (drop 9 octets)) refl
  where
    by_index : (b : Bool) → is_index (drop 9 octets) ≡ b → (if b then None else fault_at kinds.Body 9) ≡ None → slice_index octets 9 ≤ 1
    by_index false is e = absurd (cc)
    by_index true is e = let low : slice_index (drop 9 octets) 0 < 2 = ltb-true _ _ (and_parts _ _ is).1 in let same = front_of_rest 9 octets in omega arith

code_range : (octets : List ℕ) → code_fault octets ≡ None → (octet 0 octets ≢ 0) × (octet 0 octets ≤ 6)
unfolding code_fault
code_range octets e =
    let parts = or_parts _ _ (when_none _ _ (then_none _ _ e).1) in
    (eqb-false _ _ parts.0, ltb-false _ _ parts.1)

-- an ACTIVATE has the code 6
activates_low : (octets : List ℕ) (index : ℕ) → (octet 0 octets ≢ 0) × (octet 0 octets ≤ 6) → rest_fault (octet 0 octets) octets ≡ None
    → body_in (octet 0 octets) octets ≡ Activate index → index ≤ 1
activates_low octets index range = by_code (octet 0 octets == 1) (octet 0 octets == 2) (octet 0 octets == 3) (octet 0 octets == 4) (octet 0 octets == 5)
    (octet 0 octets == 6) refl refl refl refl refl refl
  where
    by_code : (a b c d e f : Bool) → (octet 0 octets == 1) ≡ a → (octet 0 octets == 2) ≡ b → (octet 0 octets == 3) ≡ c → (octet 0 octets == 4) ≡ d
        → (octet 0 octets == 5) ≡ e → (octet 0 octets == 6) ≡ f
        → rest_fault (octet 0 octets) octets ≡ None
        → (if a then Join (after 9 octets) else (if b then Accept (octet 10 octets)
        else (if c then Challenge (after 9 octets) else (if d then Decline else (if e then Kick else Activate (octet 9 octets)))))) ≡ Activate index
        → index ≤ 1
    by_code true b c d e f ea eb ec ed ee ef rest is = absurd (cc)
    by_code false true c d e f ea eb ec ed ee ef rest is = absurd (cc)
    by_code false false true d e f ea eb ec ed ee ef rest is = absurd (cc)
    by_code false false false true e f ea eb ec ed ee ef rest is = absurd (cc)
    by_code false false false false true f ea eb ec ed ee ef rest is = absurd (cc)
    by_code false false false false false false ea eb ec ed ee ef rest is =
        let a = eqb-false _ _ ea in let b = eqb-false _ _ eb in let c = eqb-false _ _ ec in let d = eqb-false _ _ ed in let e = eqb-false _ _ ee in
        let f = eqb-false _ _ ef in
        absurd (not_code (octet 0 octets) range.0 range.1 a b c d e f)
      where
        not_code : (n : ℕ) → n ≢ 0 → n ≤ 6 → n ≢ 1 → n ≢ 2 → n ≢ 3 → n ≢ 4 → n ≢ 5 → n ≢ 6 → ⊥
        not_code n z le a b c d e f = omega arith
    by_code false false false false false true ea eb ec ed ee ef rest is =
        let this : octet 9 octets ≡ index = cc in
        let six : octet 0 octets ≡ 6 = eqb-true _ _ ef in
        let low = index_low octets (subst (λ k. rest_fault k octets ≡ None) six rest) in
        omega arith

-- what stands after the EUI is no longer than a packet may be
rest_low : (octets : List ℕ) (a b c d e f : Bool)
    → (if a then join_rest_fault octets else (if b then accept_rest_fault octets
    else (if c then challenge_rest_fault octets else (if f then activate_rest_fault octets else no_rest_fault octets)))) ≡ None
    → length (rest_of (if a then Join (after 9 octets)
    else (if b then Accept (octet 10 octets)
    else (if c then Challenge (after 9 octets) else (if d then Decline else (if e then Kick else Activate (octet 9 octets))))))) ≤ 128
unfolding join_rest_fault challenge_rest_fault after
rest_low octets true b c d e f none = let few = ltb-false _ _ (when_none _ _ none) in let less = length-drop 9 octets in omega arith
rest_low octets false true c d e f none = omega arith
rest_low octets false false true d e f none = let few : length octets
    ≤ 137 = ltb-false 137 (length octets) (or_parts (nat_lt (length octets) 10) (nat_lt 137 (length octets)) (when_none _ _ none)).1 in
    let less = length-drop 9 octets in omega arith
rest_low octets false false false true e f none = omega arith
rest_low octets false false false false true f none = omega arith
rest_low octets false false false false false f none = omega arith

pub read_fits : ReadJoinsFit
read_fits join octets e =
    let r = is_read octets join e in
    let a = then_none _ _ r.none in
    let b = then_none _ _ a.1 in
    record {
      eui = ap length (sym r.eui) ∙ eight octets (long_enough octets b.0);
      index = λ n is. activates_low octets n (code_range octets a.0) b.1 (r.body ∙ is);
      rest = subst (λ (x : JoinBody). length (rest_of x) ≤ 128) r.body
          (rest_low octets (octet 0 octets == 1) (octet 0 octets == 2) (octet 0 octets == 3) (octet 0 octets == 4) (octet 0 octets == 5) (octet 0 octets == 6)
          b.1);
    }
