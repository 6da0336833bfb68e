-- A message has one spelling without fault, and a spelling one message.
use Rattle.std.proofs.Common.{◌≡◌, ℕ, ◌+◌, ◌≤◌, List, [], ◌∷◌, ◌++◌, length, Some, None, Result, Ok, Err, refl, sym, ap, ◌∙◌, arith}
use Rattle.std.specs.Prelude.{IfOk, MatchResult}
use Rattle.byteorder.specs.Endian.{big_bytes}
use Rattle.std.proofs.lemmas.Grind.{common_steps}
use Rattle.plc_base.specs.Addresses.{IsAddress}
use Rattle.plc_base.specs.Faults.{cut_off, address_fault}
use Rattle.plc_base.specs.declared.fields.Fault.{Fault}
use Rattle.plc_base.proofs.Faults.{cut_off-none, address_fault-none}
use Rattle.plc_base.proofs.Places.{octet_behind, two_behind, two_within, two_same}
use Rattle.loadng_messages.specs.declared.fault.MessageFaultKind.{MessageFaultKind}
use Rattle.loadng_messages.specs.declared.fault.MessageFaultKind.TheVariants.{Short, Address}
use Rattle.loadng_messages.specs.declared.message.Message.{Message}
use Rattle.loadng_messages.specs.declared.message.Message.TheVariants.{Rreq, Rrep, Rerr}
use Rattle.loadng_messages.specs.Grammar.{IsMessage, IsNumber, Spells, spelling}
use Rattle.loadng_messages.specs.Faults.{number_fault, long, message_fault, route_fault}

-- a field that is as it should be has no fault
pub short_none : (end : ℕ) (octets : List ℕ) → end ≤ length octets → cut_off Short end octets ≡ None
short_none end octets h = cut_off-none Short end octets h

pub long_none : (end : ℕ) (octets : List ℕ) → length octets ≤ end → long end octets ≡ None
unfolding long
long_none end octets h = grind (arith, common_steps)

pub number_none : (front : List ℕ) (n : ℕ) (rest : List ℕ) → IsNumber n → number_fault (length front) (front ++ (big_bytes 2 n ++ rest)) ≡ None
unfolding number_fault
number_none front n rest h =
    let whole = short_none (length front + 2) (front ++ (big_bytes 2 n ++ rest)) (two_within front n rest) in
    let is = two_behind front n rest h.1 in
    rw (whole, is) (grind (arith, common_steps))

pub address_none : (front : List ℕ) (a : ℕ) (rest : List ℕ) → IsAddress a → address_fault Short Address (length front) (front ++ (big_bytes 2 a ++ rest)) ≡ None
address_none front a rest h =
    address_fault-none Short Address (length front) a (front ++ (big_bytes 2 a ++ rest)) (two_within front a rest) (two_behind front a rest (omega arith)) h

-- a request's or a reply's fields have no fault
route_none : (kind n c o d : ℕ) → IsNumber n → IsAddress o → IsAddress d
    → route_fault (kind ∷ big_bytes 2 n ++ big_bytes 2 c ++ big_bytes 2 o ++ big_bytes 2 d) ≡ None
route_none kind n c o d hn ho hd =
    let octets : List ℕ = kind ∷ big_bytes 2 n ++ big_bytes 2 c ++ big_bytes 2 o ++ big_bytes 2 d in
    rw (
      number_none (kind ∷ []) n (big_bytes 2 c ++ big_bytes 2 o ++ big_bytes 2 d) hn,
      short_none 5 octets (omega arith),
      address_none (kind ∷ big_bytes 2 n ++ big_bytes 2 c) o (big_bytes 2 d) ho,
      address_none (kind ∷ big_bytes 2 n ++ big_bytes 2 c ++ big_bytes 2 o) d [] hd,
      long_none 9 octets (omega arith),
    ) refl

-- what is spelled has no fault
pub no_fault : (message : Message) → IsMessage message → message_fault (spelling message) ≡ None
no_fault (Rreq n c o d) h = rw (
  short_none 1 (spelling (Rreq n c o d)) (omega arith),
  octet_behind [] 1 (big_bytes 2 n ++ big_bytes 2 c ++ big_bytes 2 o ++ big_bytes 2 d),
) (route_none 1 n c o d h.0 h.2 h.3)
no_fault (Rrep n c o t) h = rw (
  short_none 1 (spelling (Rrep n c o t)) (omega arith),
  octet_behind [] 2 (big_bytes 2 n ++ big_bytes 2 c ++ big_bytes 2 o ++ big_bytes 2 t),
) (route_none 2 n c o t h.0 h.2 h.3)
no_fault (Rerr l t) h =
    let octets : List ℕ = spelling (Rerr l t) in
    rw (
      short_none 1 octets (omega arith),
      octet_behind [] 3 (big_bytes 2 l ++ big_bytes 2 t),
      address_none (3 ∷ []) l (big_bytes 2 t) h.0,
      address_none (3 ∷ big_bytes 2 l) t [] h.1,
      long_none 5 octets (omega arith),
    ) refl

-- a spelling is of one message
pub one_value : (a b : Message) → IsMessage a → IsMessage b → spelling a ≡ spelling b → a ≡ b
one_value (Rreq n c o d) (Rreq n' c' o' d') h h' e =
    let en = two_same n n' h.0.1 h'.0.1 (cc) (cc) in
    let ec = two_same c c' h.1 h'.1 (cc) (cc) in
    let eo = two_same o o' (omega arith) (omega arith) (cc) (cc) in
    let ed = two_same d d' (omega arith) (omega arith) (cc) (cc) in
    cc
one_value (Rrep n c o d) (Rrep n' c' o' d') h h' e =
    let en = two_same n n' h.0.1 h'.0.1 (cc) (cc) in
    let ec = two_same c c' h.1 h'.1 (cc) (cc) in
    let eo = two_same o o' (omega arith) (omega arith) (cc) (cc) in
    let ed = two_same d d' (omega arith) (omega arith) (cc) (cc) in
    cc
one_value (Rerr l t) (Rerr l' t') h h' e =
    let el = two_same l l' (omega arith) (omega arith) (cc) (cc) in
    let et = two_same t t' (omega arith) (omega arith) (cc) (cc) in
    cc
one_value (Rreq n c o d) (Rrep n' c' o' d') h h' e = absurd cc
one_value (Rreq n c o d) (Rerr l t) h h' e = absurd cc
one_value (Rrep n c o d) (Rreq n' c' o' d') h h' e = absurd cc
one_value (Rrep n c o d) (Rerr l t) h h' e = absurd cc
one_value (Rerr l t) (Rreq n c o d) h h' e = absurd cc
one_value (Rerr l t) (Rrep n c o d) h h' e = absurd cc

pub only_read : (octets : List ℕ) (r : Result Message (Fault MessageFaultKind)) → IfOk r (λ m. Spells m octets)
    → MatchResult r (λ m. message_fault octets ≡ None) (λ e. message_fault octets ≡ Some e)
    → (message : Message) → Spells message octets → r ≡ Ok message
only_read octets (Ok m) found exact message spells = ap Ok (one_value m message found.0 spells.0 (sym found.1 ∙ spells.1))
only_read octets (Err e) found exact message spells = let none = no_fault message spells.0 in let same = ap message_fault spells.1 in absurd cc
