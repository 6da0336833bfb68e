-- What is read out of octets is the joining message that they spell, and the other way round.
use Rattle.std.proofs.Common.{◌≡◌, ◌≢◌, ℕ, zero, suc, ◌+◌, ◌<◌, ◌≤◌, Bool, true, false, List, [], ◌∷◌, ◌++◌, length, take, Some, None, Result, Ok, Err}
use Rattle.std.proofs.Common.{slice_index, refl, sym, ap, subst, ◌∙◌, arith}
use Rattle.std.specs.Prelude.{IfOk, MatchResult, ◌==◌, if◌then◌else◌}
use Rattle.std.specs.Result.{result_ok}
use Rattle.std.proofs.Math.Seq.{take-append_seam}
use Rattle.std.proofs.lemmas.Bool.{eqb-true, eqb-false, ltb-true, ltb-false, and_parts, or_parts}
use Rattle.plc_base.specs.Faults.{◌then◌, fault_at, cut_off}
use Rattle.plc_base.specs.Fields.{AreOctets, after, octet, part}
use Rattle.plc_base.specs.declared.address.Eui.{Eui}
use Rattle.plc_base.specs.declared.fields.Fault.{Fault}
use Rattle.plc_base.proofs.Faults.{then_none, when_none, is_whole, read_by, not_read, read_from}
use Rattle.plc_base.proofs.Places.{after_all, after_behind, first_is, length-after, length-part, octet_after, octet_low, octet_past, part_then}
use Rattle.joining_messages.specs.declared.fault.JoinFaultKind.{JoinFaultKind}
use Rattle.joining_messages.specs.declared.fault.JoinFaultKind.TheVariants.{Short, Body}
use Rattle.joining_messages.specs.declared.message.JoinMessage.{JoinMessage}
use Rattle.joining_messages.specs.declared.message.JoinBody.{JoinBody}
use Rattle.joining_messages.specs.declared.message.JoinBody.TheVariants.{Join, Accept, Challenge, Decline, Kick, Activate}
use Rattle.joining_messages.specs.Messages.{IsBody, Spells, code_of, rest_of, spelling}
use Rattle.joining_messages.specs.Faults.{code_fault, eui_fault, join_rest_fault, challenge_rest_fault, is_success, accept_rest_fault, is_index}
use Rattle.joining_messages.specs.Faults.{activate_rest_fault, no_rest_fault, rest_fault, join_fault}
use Rattle.joining_messages.specs.Reader.{body_in, join_in}
use Rattle.joining_messages.specs.Laws.{JoinsAreRead, ReadJoinsAreSpelled}
use Rattle.joining_messages.proofs.Rests.{one_is, four_are}
use Rattle.joining_messages.proofs.Spellings.{no_fault}

-- # A message that is spelled is read

join_eui : (code : ℕ) (eui : Eui) (rest : List ℕ) → length eui.0 ≡ 8 → part 1 8 (code ∷ eui.0 ++ rest) ≡ eui.0
unfolding part
join_eui code eui rest long = ap (λ n. take n (eui.0 ++ rest)) (sym long) ∙ take-append_seam eui.0 rest

join_after : (code : ℕ) (eui : Eui) (rest : List ℕ) → length eui.0 ≡ 8 → after 9 (code ∷ eui.0 ++ rest) ≡ rest
join_after code eui rest long =
    let nine : 9 ≡ length (code ∷ eui.0) = omega arith in ap (λ n. after n (code ∷ eui.0 ++ rest)) nine ∙ after_behind (code ∷ eui.0) rest

join_octet : (code : ℕ) (eui : Eui) (rest : List ℕ) (k : ℕ) → length eui.0 ≡ 8 → octet (9 + k) (code ∷ eui.0 ++ rest) ≡ octet k rest
join_octet code eui rest k long =
    let place : 9 + k ≡ length (code ∷ eui.0) + k = omega arith in ap (λ n. octet n (code ∷ eui.0 ++ rest)) place ∙ octet_past (code ∷ eui.0) rest k

join_body : (eui : Eui) (body : JoinBody) → length eui.0 ≡ 8 → body_in (code_of body) (spelling (record { eui = eui; body = body })) ≡ body
unfolding octet
join_body eui (Join eap) long = ap Join (join_after 1 eui eap long)
join_body eui (Accept identifier) long = ap Accept (join_octet 2 eui (3 ∷ identifier ∷ 0 ∷ 4 ∷ []) 1 long)
join_body eui (Challenge eap) long = ap Challenge (join_after 3 eui eap long)
join_body eui Decline long = refl
join_body eui Kick long = refl
join_body eui (Activate index) long = ap Activate (join_octet 6 eui (index ∷ []) 0 long)

join_is : (a b : List ℕ) (x y : JoinBody) → a ≡ b → x ≡ y → let v : JoinMessage = record { eui = record { 0 = a }; body = x } in
    v ≡ record { eui = record { 0 = b }; body = y }
join_is a b x y e f = ap (λ o. let v : JoinMessage = record { eui = record { 0 = o }; body = x } in v) e
    ∙ ap (λ z. let v : JoinMessage = record { eui = record { 0 = b }; body = z } in v) f

pub join_read : JoinsAreRead
unfolding join_in octet
join_read m octets h =
    subst (λ o. join_in o ≡ Some m) (sym h.1)
    (read_by (join_fault (spelling m)) _ (no_fault m h.0)
    ∙ ap Some (join_is _ _ _ _ (join_eui (code_of m.body) m.eui (rest_of m.body) h.0.0) (join_body m.eui m.body h.0.0)))

-- # A message that is read is spelled

-- What is said after the EUI, where it has no fault.
record IsSaid (code : ℕ) (body : JoinBody) (octets : List ℕ) : Type 0 where
  is : IsBody body
  kind : code_of body ≡ code
  rest : after 9 octets ≡ rest_of body

-- a test of what follows the EUI
test_holds : (b : Bool) → (if b then None else fault_at Body 9) ≡ None → b ≡ true
test_holds true e = refl
test_holds false e = absurd (cc)

join_said : (octets : List ℕ) → join_rest_fault octets ≡ None → IsSaid 1 (Join (after 9 octets)) octets
unfolding join_rest_fault
join_said octets e =
    let high : length octets ≤ 137 = ltb-false _ _ (when_none _ _ e) in
    let len = length-after 9 octets in
    record { is = omega arith; kind = refl; rest = refl }

challenge_said : (octets : List ℕ) → challenge_rest_fault octets ≡ None → IsSaid 3 (Challenge (after 9 octets)) octets
unfolding challenge_rest_fault
challenge_said octets e =
    let tests = or_parts _ _ (when_none _ _ e) in
    let low : 10 ≤ length octets = ltb-false _ _ tests.0 in
    let high : length octets ≤ 137 = ltb-false _ _ tests.1 in
    let len = length-after 9 octets in
    record { is = (omega arith, omega arith); kind = refl; rest = refl }

accept_said : (octets : List ℕ) → AreOctets octets → accept_rest_fault octets ≡ None → IsSaid 2 (Accept (octet 10 octets)) octets
unfolding accept_rest_fault
accept_said octets fits e =
    let rest : List ℕ = after 9 octets in
    let tests = and_parts (length rest == 4) _ (test_holds (is_success rest) e) in
    let more = and_parts (slice_index rest 0 == 3) _ tests.1 in
    let last = and_parts (slice_index rest 2 == 0) _ more.1 in
    let four : length rest ≡ 4 = eqb-true _ _ tests.0 in
    let first : slice_index rest 0 ≡ 3 = eqb-true _ _ more.0 in
    let third : slice_index rest 2 ≡ 0 = eqb-true _ _ last.0 in
    let fourth : slice_index rest 3 ≡ 4 = eqb-true _ _ last.1 in
    let named : slice_index rest 1 ≡ octet 10 octets = octet_after 9 1 octets in
    record {
      is = octet_low 10 octets fits;
      kind = refl;
      rest = four_are rest four ∙ (λ i. first i ∷ named i ∷ third i ∷ fourth i ∷ []);
    }

none_said : (octets : List ℕ) → no_rest_fault octets ≡ None → after 9 octets ≡ []
unfolding no_rest_fault
none_said octets e = after_all 9 octets (ltb-false _ _ (when_none _ _ e))

activate_said : (octets : List ℕ) → activate_rest_fault octets ≡ None → IsSaid 6 (Activate (octet 9 octets)) octets
unfolding activate_rest_fault
activate_said octets e =
    let rest : List ℕ = after 9 octets in
    let tests = and_parts (length rest == 1) _ (test_holds (is_index rest) e) in
    let one : length rest ≡ 1 = eqb-true _ _ tests.0 in
    let low : slice_index rest 0 < 2 = ltb-true _ _ tests.1 in
    let named : slice_index rest 0 ≡ octet 9 octets = octet_after 9 0 octets in
    record { is = omega arith; kind = refl; rest = one_is rest one ∙ ap (λ (x : ℕ). x ∷ []) named }

body_said : (code : ℕ) (octets : List ℕ) → AreOctets octets → 0 < code → code ≤ 6 → rest_fault code octets ≡ None → IsSaid code (body_in code octets) octets
body_said zero octets fits low high e = absurd (omega arith)
body_said (suc zero) octets fits low high e = join_said octets e
body_said (suc (suc zero)) octets fits low high e = accept_said octets fits e
body_said (suc (suc (suc zero))) octets fits low high e = challenge_said octets e
body_said (suc (suc (suc (suc zero)))) octets fits low high e = record { is = tt; kind = refl; rest = none_said octets e }
body_said (suc (suc (suc (suc (suc zero))))) octets fits low high e = record { is = tt; kind = refl; rest = none_said octets e }
body_said (suc (suc (suc (suc (suc (suc zero)))))) octets fits low high e = activate_said octets e
body_said (suc (suc (suc (suc (suc (suc (suc n))))))) octets fits low high e = absurd (omega arith)

code_is : (octets : List ℕ) → code_fault octets ≡ None → (0 < octet 0 octets) × (octet 0 octets ≤ 6)
unfolding code_fault
code_is octets e =
    let tests = or_parts _ _ (when_none _ _ (then_none (cut_off Short 1 octets) _ e).1) in
    let other : octet 0 octets ≢ 0 = eqb-false _ _ tests.0 in
    let high : octet 0 octets ≤ 6 = ltb-false _ _ tests.1 in
    (omega arith, high)

eui_is : (octets : List ℕ) → eui_fault octets ≡ None → 9 ≤ length octets
unfolding eui_fault
eui_is octets e = is_whole Short 9 octets e

first_then : (octets : List ℕ) → 0 < length octets → octets ≡ octet 0 octets ∷ after 1 octets
unfolding octet
first_then octets some = first_is octets some

fields_spelled : (octets : List ℕ) → AreOctets octets → join_fault octets ≡ None
    → let m : JoinMessage = record { eui = record { 0 = part 1 8 octets }; body = body_in (octet 0 octets) octets } in Spells m octets
fields_spelled octets fits e =
    let a = then_none (code_fault octets) _ e in
    let b = then_none (eui_fault octets) _ a.1 in
    let code = code_is octets a.0 in
    let long = eui_is octets b.0 in
    let said = body_said (octet 0 octets) octets fits code.0 code.1 b.1 in
    let parts : after 1 octets ≡ part 1 8 octets ++ after 9 octets = part_then 1 8 octets long in (
      (length-part 1 8 octets long, said.is),
      first_then octets (omega arith) ∙ (λ i. sym said.kind i ∷ (parts ∙ ap (λ (xs : List ℕ). part 1 8 octets ++ xs) said.rest) i),
    )

pub join_spelled : ReadJoinsAreSpelled
unfolding join_in
join_spelled m octets fits is =
    let read = read_from (join_fault octets) (record { eui = record { 0 = part 1 8 octets }; body = body_in (octet 0 octets) octets }) m is in
    subst (λ v. Spells v octets) read.1 (fields_spelled octets fits read.0)

-- # What the reader answers

pub value_read : (octets : List ℕ) (r : Result JoinMessage (Fault JoinFaultKind)) → IfOk r (λ m. Spells m octets)
    → MatchResult r (λ m. join_fault octets ≡ None) (λ e. join_fault octets ≡ Some e) → join_in octets ≡ result_ok r
unfolding join_in
value_read octets (Ok m) found exact = join_read m octets found
value_read octets (Err e) found exact =
    not_read (join_fault octets) e (record { eui = record { 0 = part 1 8 octets }; body = body_in (octet 0 octets) octets }) exact
