-- What is read out of octets is the message that they spell, and the other way round.
use Rattle.std.proofs.Common.{◌≡◌, ◌≢◌, ℕ, ◌+◌, ◌<◌, ◌≤◌, ◌^◌, Bool, true, false, List, [], ◌∷◌, ◌++◌, length, Some, None, Result, Ok, Err, refl, sym, ap}
use Rattle.std.proofs.Common.{subst, ◌∙◌, arith}
use Rattle.std.specs.Prelude.{IfOk, MatchResult, ◌==◌, if◌then◌else◌}
use Rattle.std.specs.Result.{result_ok}
use Rattle.std.proofs.lemmas.Bool.{eqb-true, eqb-false, ltb-false}
use Rattle.byteorder.specs.Endian.{big_bytes}
use Rattle.plc_base.specs.Addresses.{IsAddress}
use Rattle.plc_base.specs.Faults.{◌then◌, fault_at, cut_off, address_fault}
use Rattle.plc_base.specs.Fields.{AreOctets, after, octet, two}
use Rattle.plc_base.specs.declared.fields.Fault.{Fault}
use Rattle.plc_base.proofs.Faults.{then_none, when_none, is_whole, is_node, read_by, not_read, read_from}
use Rattle.plc_base.proofs.Places.{after_all, first_is, two_behind, two_low, two_then}
use Rattle.loadng_messages.specs.declared.fault.MessageFaultKind.{MessageFaultKind}
use Rattle.loadng_messages.specs.declared.fault.MessageFaultKind.TheVariants.{Short, Kind, Address}
use Rattle.loadng_messages.specs.declared.message.Message.{Message}
use Rattle.loadng_messages.specs.declared.message.Message.TheVariants.{Rreq, Rrep, Rerr}
use Rattle.loadng_messages.specs.Grammar.{IsMessage, IsNumber, Spells, spelling}
use Rattle.loadng_messages.specs.Faults.{number_fault, long, route_fault, error_fault, kind_fault, message_fault}
use Rattle.loadng_messages.specs.Reader.{fields_in, message_in}
use Rattle.loadng_messages.specs.Laws.{MessagesAreRead, ReadMessagesAreSpelled}
use Rattle.loadng_messages.proofs.Spellings.{no_fault}

-- # What is spelled is read

fields_read : (m : Message) → IsMessage m → fields_in (octet 0 (spelling m)) (spelling m) ≡ m
unfolding octet
fields_read (Rreq n c o d) h =
    let octets : List ℕ = spelling (Rreq n c o d) in
    let e1 : two 1 octets ≡ n = two_behind (1 ∷ []) n (big_bytes 2 c ++ big_bytes 2 o ++ big_bytes 2 d) (omega arith) in
    let e2 : two 3 octets ≡ c = two_behind (1 ∷ big_bytes 2 n) c (big_bytes 2 o ++ big_bytes 2 d) (omega arith) in
    let e3 : two 5 octets ≡ o = two_behind (1 ∷ big_bytes 2 n ++ big_bytes 2 c) o (big_bytes 2 d) (omega arith) in
    let e4 : two 7 octets ≡ d = two_behind (1 ∷ big_bytes 2 n ++ big_bytes 2 c ++ big_bytes 2 o) d [] (omega arith) in
    λ i. Rreq (e1 i) (e2 i) (e3 i) (e4 i)
fields_read (Rrep n c o d) h =
    let octets : List ℕ = spelling (Rrep n c o d) in
    let e1 : two 1 octets ≡ n = two_behind (2 ∷ []) n (big_bytes 2 c ++ big_bytes 2 o ++ big_bytes 2 d) (omega arith) in
    let e2 : two 3 octets ≡ c = two_behind (2 ∷ big_bytes 2 n) c (big_bytes 2 o ++ big_bytes 2 d) (omega arith) in
    let e3 : two 5 octets ≡ o = two_behind (2 ∷ big_bytes 2 n ++ big_bytes 2 c) o (big_bytes 2 d) (omega arith) in
    let e4 : two 7 octets ≡ d = two_behind (2 ∷ big_bytes 2 n ++ big_bytes 2 c ++ big_bytes 2 o) d [] (omega arith) in
    λ i. Rrep (e1 i) (e2 i) (e3 i) (e4 i)
fields_read (Rerr l t) h =
    let octets : List ℕ = spelling (Rerr l t) in
    let e1 : two 1 octets ≡ l = two_behind (3 ∷ []) l (big_bytes 2 t) (omega arith) in
    let e2 : two 3 octets ≡ t = two_behind (3 ∷ big_bytes 2 l) t [] (omega arith) in
    λ i. Rerr (e1 i) (e2 i)

pub message_read : MessagesAreRead
unfolding message_in
message_read m octets h =
    subst (λ o. message_in o ≡ Some m) (sym h.1) (read_by (message_fault (spelling m)) _ (no_fault m h.0) ∙ ap Some (fields_read m h.0))

-- # What is read is spelled

number_is : (at : ℕ) (octets : List ℕ) → AreOctets octets → number_fault at octets ≡ None → (at + 2 ≤ length octets) × IsNumber (two at octets)
unfolding number_fault
number_is at octets fits e =
    let parts = then_none (cut_off Short (at + 2) octets) _ e in
    let other : two at octets ≢ 0 = eqb-false _ _ (when_none _ _ parts.1) in
    let low = two_low at octets fits in
    (is_whole Short (at + 2) octets parts.0, (omega arith, omega arith))

ends : (end : ℕ) (octets : List ℕ) → long end octets ≡ None → after end octets ≡ []
unfolding long
ends end octets e = after_all end octets (ltb-false _ _ (when_none _ _ e))

first_then : (octets : List ℕ) → 0 < length octets → octets ≡ octet 0 octets ∷ after 1 octets
unfolding octet
first_then octets some = first_is octets some

-- What route messages have where there is no fault.
record IsRoute (octets : List ℕ) : Type 0 where
  number : IsNumber (two 1 octets)
  cost : two 3 octets < 2 ^ 16
  origin : IsAddress (two 5 octets)
  last : IsAddress (two 7 octets)
  spelled : octets ≡ octet 0 octets ∷ big_bytes 2 (two 1 octets) ++ big_bytes 2 (two 3 octets) ++ big_bytes 2 (two 5 octets) ++ big_bytes 2 (two 7 octets)

route_is : (octets : List ℕ) → AreOctets octets → route_fault octets ≡ None → IsRoute octets
route_is octets fits e =
    let a = then_none (number_fault 1 octets) _ e in
    let b = then_none (cut_off Short 5 octets) _ a.1 in
    let c = then_none (address_fault Short Address 5 octets) _ b.1 in
    let d = then_none (address_fault Short Address 7 octets) _ c.1 in
    let n = number_is 1 octets fits a.0 in
    let o = is_node Short Address 5 octets c.0 in
    let t = is_node Short Address 7 octets d.0 in
    let e0 = first_then octets (omega arith) in
    let e1 = two_then 1 octets fits n.0 in
    let e2 = two_then 3 octets fits (is_whole Short 5 octets b.0) in
    let e3 = two_then 5 octets fits o.0 in
    let e4 = two_then 7 octets fits t.0 in
    let e5 : after 9 octets ≡ [] = ends 9 octets d.1 in
    record { number = n.1; cost = two_low 3 octets fits; origin = o.1; last = t.1; spelled = cc (e0, e1, e2, e3, e4, e5) }

error_is : (octets : List ℕ) → AreOctets octets → error_fault octets ≡ None
    → IsAddress (two 1 octets) × IsAddress (two 3 octets) × (octets ≡ octet 0 octets ∷ big_bytes 2 (two 1 octets) ++ big_bytes 2 (two 3 octets))
error_is octets fits e =
    let a = then_none (address_fault Short Address 1 octets) _ e in
    let b = then_none (address_fault Short Address 3 octets) _ a.1 in
    let l = is_node Short Address 1 octets a.0 in
    let t = is_node Short Address 3 octets b.0 in
    let e0 = first_then octets (omega arith) in
    let e1 = two_then 1 octets fits l.0 in
    let e2 = two_then 3 octets fits t.0 in
    let e3 : after 5 octets ≡ [] = ends 5 octets b.1 in
    (l.1, t.1, cc (e0, e1, e2, e3))

fields_spelled : (octets : List ℕ) → AreOctets octets → kind_fault (octet 0 octets) octets ≡ None → Spells (fields_in (octet 0 octets) octets) octets
fields_spelled octets fits = by_kind (octet 0 octets == 1) (octet 0 octets == 2) (octet 0 octets == 3) refl refl refl
  where
    by_kind : (a b c : Bool) → (octet 0 octets == 1) ≡ a → (octet 0 octets == 2) ≡ b → (octet 0 octets == 3) ≡ c
        → (if a then route_fault octets else (if b then route_fault octets else (if c then error_fault octets else fault_at Kind 0))) ≡ None
        → Spells (if a then Rreq (two 1 octets) (two 3 octets) (two 5 octets) (two 7 octets)
        else (if b then Rrep (two 1 octets) (two 3 octets) (two 5 octets) (two 7 octets) else Rerr (two 1 octets) (two 3 octets))) octets
    by_kind true b c ea eb ec e =
        let r = route_is octets fits e in
        let kind : octet 0 octets ≡ 1 = eqb-true _ _ ea in
        ((r.number, r.cost, r.origin, r.last), cc (r.spelled, kind))
    by_kind false true c ea eb ec e =
        let r = route_is octets fits e in
        let kind : octet 0 octets ≡ 2 = eqb-true _ _ eb in
        ((r.number, r.cost, r.origin, r.last), cc (r.spelled, kind))
    by_kind false false true ea eb ec e =
        let r = error_is octets fits e in
        let kind : octet 0 octets ≡ 3 = eqb-true _ _ ec in
        ((r.0, r.1), cc (r.2, kind))
    by_kind false false false ea eb ec e = absurd (cc)

pub message_spelled : ReadMessagesAreSpelled
unfolding message_in
message_spelled m octets fits is =
    let read = read_from (message_fault octets) (fields_in (octet 0 octets) octets) m is in
    subst (λ v. Spells v octets) read.1 (fields_spelled octets fits (then_none (cut_off Short 1 octets) _ read.0).1)

-- # What the reader answers

pub value_read : (octets : List ℕ) (r : Result Message (Fault MessageFaultKind)) → IfOk r (λ m. Spells m octets)
    → MatchResult r (λ m. message_fault octets ≡ None) (λ e. message_fault octets ≡ Some e) → message_in octets ≡ result_ok r
unfolding message_in
value_read octets (Ok m) found exact = message_read m octets found
value_read octets (Err e) found exact = not_read (message_fault octets) e (fields_in (octet 0 octets) octets) exact
