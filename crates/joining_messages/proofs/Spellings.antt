-- A joining message has one spelling without fault, and a spelling one message.
use Rattle.std.proofs.Common.{◌≡◌, ℕ, ◌+◌, ◌<◌, ◌≤◌, List, [], ◌∷◌, ◌++◌, length, Some, None, Result, Ok, Err, refl, sym, ap, ◌∙◌, arith, length-append}
use Rattle.std.specs.Prelude.{IfOk, MatchResult}
use Rattle.std.proofs.lemmas.Grind.{common_steps}
use Rattle.plc_base.specs.Fields.{after, octet}
use Rattle.plc_base.specs.Faults.{cut_off}
use Rattle.plc_base.proofs.Places.{after_behind, fronts_same, octet_behind}
use Rattle.plc_base.specs.declared.fields.Fault.{Fault}
use Rattle.joining_messages.specs.declared.fault.JoinFaultKind.{JoinFaultKind}
use Rattle.joining_messages.specs.declared.message.JoinMessage.{JoinMessage}
use Rattle.joining_messages.specs.declared.message.JoinBody.{JoinBody}
use Rattle.joining_messages.specs.declared.message.JoinBody.TheVariants.{Join, Accept, Challenge, Decline, Kick, Activate}
use Rattle.joining_messages.specs.Messages.{IsBody, IsMessage, Spells, code_of, rest_of, rest_length, spelling}
use Rattle.joining_messages.specs.Faults.{code_fault, eui_fault, join_rest_fault, challenge_rest_fault, accept_rest_fault, activate_rest_fault, no_rest_fault}
use Rattle.joining_messages.specs.Faults.{rest_fault, join_fault}

code_low : (body : JoinBody) → (0 < code_of body) × (code_of body ≤ 6)
code_low (Join eap) = (omega arith, omega arith)
code_low (Accept identifier) = (omega arith, omega arith)
code_low (Challenge eap) = (omega arith, omega arith)
code_low Decline = (omega arith, omega arith)
code_low Kick = (omega arith, omega arith)
code_low (Activate index) = (omega arith, omega arith)

length-rest_of : (body : JoinBody) → length (rest_of body) ≡ rest_length body
length-rest_of (Join eap) = refl
length-rest_of (Accept identifier) = refl
length-rest_of (Challenge eap) = refl
length-rest_of Decline = refl
length-rest_of Kick = refl
length-rest_of (Activate index) = refl

-- a field that is as it should be has no fault
code_none : (octets : List ℕ) → 1 ≤ length octets → 0 < octet 0 octets → octet 0 octets ≤ 6 → code_fault octets ≡ None
unfolding code_fault cut_off
code_none octets long low high = grind (arith, common_steps)

eui_none : (octets : List ℕ) → 9 ≤ length octets → eui_fault octets ≡ None
unfolding eui_fault cut_off
eui_none octets long = grind (arith, common_steps)

rest_none : (body : JoinBody) (octets : List ℕ) → IsBody body → length octets ≡ 9 + rest_length body → after 9 octets ≡ rest_of body
    → rest_fault (code_of body) octets ≡ None
unfolding join_rest_fault challenge_rest_fault accept_rest_fault activate_rest_fault no_rest_fault
rest_none (Join eap) octets h len is = grind (arith, common_steps)
rest_none (Accept identifier) octets h len is = rw is refl
rest_none (Challenge eap) octets h len is = grind (arith, common_steps)
rest_none Decline octets h len is = grind (arith, common_steps)
rest_none Kick octets h len is = grind (arith, common_steps)
rest_none (Activate index) octets h len is = rw is (grind (arith, common_steps))

-- what is spelled has no fault
pub no_fault : (message : JoinMessage) → IsMessage message → join_fault (spelling message) ≡ None
no_fault message h =
    let code : ℕ = code_of message.body in
    let octets : List ℕ = code ∷ message.eui.0 ++ rest_of message.body in
    let low = code_low message.body in
    let len : length octets ≡ 9 + rest_length message.body = omega
    (arith, length-append message.eui.0 (rest_of message.body), length-rest_of message.body, h.0) in
    let first : octet 0 octets ≡ code = octet_behind [] code (message.eui.0 ++ rest_of message.body) in
    let nine : length (code ∷ message.eui.0) ≡ 9 = omega (arith, h.0) in
    let rest : after 9 octets ≡ rest_of message.body = ap (λ (n : ℕ). after n octets) (sym nine) ∙ after_behind (code ∷ message.eui.0) (rest_of message.body) in
    let f1 : code_fault octets ≡ None = code_none octets (omega arith) (omega (arith, first, low.0)) (omega (arith, first, low.1)) in
    let f2 : eui_fault octets ≡ None = eui_none octets (omega arith) in
    rw (f1, f2, first) (rest_none message.body octets h.1 len rest)

-- the code gives the kind, and the rest the value
body_same : (a b : JoinBody) → code_of a ≡ code_of b → rest_of a ≡ rest_of b → a ≡ b
body_same (Join x) (Join y) code rest = ap Join rest
body_same (Accept x) (Accept y) code rest = cc
body_same (Challenge x) (Challenge y) code rest = ap Challenge rest
body_same Decline Decline code rest = refl
body_same Kick Kick code rest = refl
body_same (Activate x) (Activate y) code rest = cc
body_same a b code rest = absurd (omega arith)

message_from : List ℕ → JoinBody → JoinMessage
message_from octets body = record { eui = record { 0 = octets }; body = body }

-- a spelling is of one message
pub one_value : (a b : JoinMessage) → IsMessage a → IsMessage b → spelling a ≡ spelling b → a ≡ b
unfolding message_from
one_value a b ha hb e =
    let code : code_of a.body ≡ code_of b.body = cc in
    let tails : a.eui.0 ++ rest_of a.body ≡ b.eui.0 ++ rest_of b.body = cc in
    let parts = fronts_same a.eui.0 b.eui.0 (rest_of a.body) (rest_of b.body) (ha.0 ∙ sym hb.0) tails in
    let body : a.body ≡ b.body = body_same a.body b.body code parts.1 in
    ap (λ (xs : List ℕ). message_from xs a.body) parts.0 ∙ ap (λ (x : JoinBody). message_from b.eui.0 x) body

pub only_read : (octets : List ℕ) (r : Result JoinMessage (Fault JoinFaultKind)) → IfOk r (λ m. Spells m octets)
    → MatchResult r (λ m. join_fault octets ≡ None) (λ e. join_fault octets ≡ Some e)
    → (message : JoinMessage) → Spells message octets → r ≡ Ok message
only_read octets (Ok m) found exact message spells = ap Ok (one_value m message found.0 spells.0 (sym found.1 ∙ spells.1))
only_read octets (Err e) found exact message spells = let none = no_fault message spells.0 in let same = ap join_fault spells.1 in absurd cc
