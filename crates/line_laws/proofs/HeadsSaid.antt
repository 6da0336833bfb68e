-- What the head of a frame says of its nonce, as nodes spell it.
use Rattle.std.proofs.Common.{inl, ◌≡◌, ℕ, ◌<◌, ◌^◌, Bool, true, false, List, take, Option, Some, None, refl, sym, ap, ◌∙◌, subst}
use Rattle.std.specs.Prelude.{◌%◌, ◌==◌, not, IfSome, All, is_some, if◌then◌else◌}
use Rattle.std.proofs.lemmas.Option.{same_Some}
use Rattle.plc_base.specs.declared.fields.Fault.{Fault}
use Rattle.mac_frames.specs.declared.fault.FrameFaultKind.{FrameFaultKind}
use Rattle.mesh_header.specs.Grammar.{spelling}
use Rattle.plc_base.specs.declared.address.TheConstants.{PAN}
use Rattle.plc_base.specs.Fields.{octet, little_two, little_four}
use Rattle.plc_base.specs.declared.address.Eui.{Eui}
use Rattle.joining_messages.specs.declared.message.JoinMessage.{JoinMessage}
use Rattle.mac_frames.specs.declared.head.MacHead.TheVariants as heads
use Rattle.mac_frames.specs.Faults.{is_sealed, has_modes, frame_fault}
use Rattle.mac_frames.specs.Reader.{head_by, head_in, body_in}
use Rattle.mac_frames.specs.Laws.{SaysItsNonce}
use Rattle.mac_frames.proofs.HeadsSaid.{sealed_say, plain_say, nonces_in_range}
use Rattle.node_rules.specs.Ciphers.{Ciphers}
use Rattle.node_rules.specs.Frames.{Sent, Arrived, arrived, arrived_with, SealedUnit, Sealed, Up, Down, to_all, head_of, joining_unit, spelled}
use Rattle.line_rules.specs.Steps.{flight_by}
use Rattle.line_rules.specs.Nonces.{IsSealedUnder, IsPlainFrame, IsSpelled, NonceParts, nonce_in_head}
use Rattle.plc_base.specs.declared.key.Key.{Key}

-- the nonce of a sealed frame stands in its octets, and a plain one has none
said_nonce : (octets : List ℕ) → is_sealed octets ≡ true
    → nonce_in_head (head_in octets) ≡ Some (record { from = little_two 7 octets; counter = little_four 10 octets })
unfolding head_in
said_nonce octets e = ap (λ b. nonce_in_head (head_by b (has_modes 2 3 (octet 1 octets)) octets)) e

plain_nonce : (octets : List ℕ) → is_sealed octets ≡ false → nonce_in_head (head_in octets) ≡ None
unfolding head_in
plain_nonce octets e = ap (λ b. nonce_in_head (head_by b (has_modes 2 3 (octet 1 octets)) octets)) e ∙ by_modes (has_modes 2 3 (octet 1 octets))
  where
    by_modes : (b : Bool) → nonce_in_head (head_by false b octets) ≡ None
    by_modes true = refl
    by_modes false = refl

-- # What is spelled

sealed_unit_says : (ciphers : Ciphers) (l : SealedUnit) → SaysItsNonce l.from l.counter (spelled ciphers (Sealed l)).octets
unfolding spelled
sealed_unit_says ciphers l =
    sealed_say (not (l.to == to_all)) (l.counter % 256) PAN l.to l.from l.counter l.index (ciphers.seals l.key (head_of l) (spelling l.unit))

pub sealed_sender_is : (ciphers : Ciphers) (l : SealedUnit) → l.from < 2 ^ 16
    → IfSome (nonce_in_head (head_in (spelled ciphers (Sealed l)).octets)) (λ p. p.from ≡ l.from)
sealed_sender_is ciphers l fits =
    let s = sealed_unit_says ciphers l in
    subst (λ (o : Option NonceParts). IfSome o (λ p. p.from ≡ l.from)) (sym (said_nonce (spelled ciphers (Sealed l)).octets s.sealed)) (s.sender fits)

pub sealed_counter : (ciphers : Ciphers) (l : SealedUnit) → l.counter < 2 ^ 32
    → IfSome (nonce_in_head (head_in (spelled ciphers (Sealed l)).octets)) (λ p. p.counter ≡ l.counter)
sealed_counter ciphers l fits =
    let s = sealed_unit_says ciphers l in
    subst (λ (o : Option NonceParts). IfSome o (λ p. p.counter ≡ l.counter)) (sym (said_nonce (spelled ciphers (Sealed l)).octets s.sealed)) (s.number fits)

pub up_nonce : (ciphers : Ciphers) (agent : ℕ) (from : Eui) (message : JoinMessage)
    → nonce_in_head (head_in (spelled ciphers (Up agent from message)).octets) ≡ None
unfolding spelled
up_nonce ciphers agent from message = plain_nonce _ (plain_say (heads.Up true 1 0 PAN agent from) (spelling (joining_unit message)) tt)

pub down_nonce : (ciphers : Ciphers) (from : ℕ) (message : JoinMessage) → nonce_in_head (head_in (spelled ciphers (Down from message)).octets) ≡ None
unfolding spelled
down_nonce ciphers from message = plain_nonce _ (plain_say (heads.Down true 1 0 PAN message.eui from) (spelling (joining_unit message)) tt)

-- # What is read

pub head_ranges : (ciphers : Ciphers) (octets : List ℕ) (a : Arrived) (ack : Bool) (seq pan to from counter index : ℕ) → All (λ x. x < 256) octets
    → arrived ciphers octets ≡ Some a
    → a.head ≡ heads.Sealed ack seq pan to from counter index → (from < 0xFFFE) × (counter < 2 ^ 32)
unfolding arrived
head_ranges ciphers octets a ack seq pan to from counter index all = by_fault (frame_fault octets) refl
  where
    by_fault : (o : Option (Fault FrameFaultKind)) → frame_fault octets ≡ o
        → (if is_some o then None else Some (arrived_with ciphers (head_in octets) (take 15 octets) (body_in octets))) ≡ Some a
        → a.head ≡ heads.Sealed ack seq pan to from counter index → (from < 0xFFFE) × (counter < 2 ^ 32)
    by_fault (Some f) is e h = absurd (cc)
    by_fault None is e h = nonces_in_range octets ack seq pan to from counter index all is (ap (λ (x : Arrived). x.head) (same_Some _ _ e) ∙ h)

-- # Flights with a key

none_key : (k : Key) → None ≡ Some k → ⊥
none_key k e = cc

some_key : (k : Key) → Some k ≡ None → ⊥
some_key k e = cc

pub sealed_key : (ciphers : Ciphers) (l : SealedUnit) → Some l.key ≡ (spelled ciphers (Sealed l)).key
unfolding spelled
sealed_key ciphers l = refl

pub up_key : (ciphers : Ciphers) (agent : ℕ) (from : Eui) (message : JoinMessage) → None ≡ (spelled ciphers (Up agent from message)).key
unfolding spelled
up_key ciphers agent from message = refl

up_note : (ciphers : Ciphers) (agent : ℕ) (from : Eui) (message : JoinMessage) → (spelled ciphers (Up agent from message)).note ≡ 0
unfolding spelled
up_note ciphers agent from message = refl

pub down_key : (ciphers : Ciphers) (from : ℕ) (message : JoinMessage) → None ≡ (spelled ciphers (Down from message)).key
unfolding spelled
down_key ciphers from message = refl

down_note : (ciphers : Ciphers) (from : ℕ) (message : JoinMessage) → (spelled ciphers (Down from message)).note ≡ 0
unfolding spelled
down_note ciphers from message = refl

-- a sealed frame is a head and what its key seals, and its nonce is read back
sealed_under : (ciphers : Ciphers) (l : SealedUnit) → IsSealedUnder ciphers l.key (spelled ciphers (Sealed l)).octets
unfolding spelled
sealed_under ciphers l = record {
  head = head_of l;
  payload = spelling l.unit;
  sealed = tt;
  spelled = refl;
  nonce = ap is_some (said_nonce _ (sealed_unit_says ciphers l).sealed);
  opened = λ o. o.opens l.key (head_of l) (spelling l.unit);
}

up_plain : (ciphers : Ciphers) (agent : ℕ) (from : Eui) (message : JoinMessage) → IsPlainFrame (spelled ciphers (Up agent from message)).octets
unfolding spelled
up_plain ciphers agent from message = record {
  head = heads.Up true 1 0 PAN agent from;
  message = message;
  plain = tt;
  spelled = refl;
  nonce = plain_nonce _ (plain_say (heads.Up true 1 0 PAN agent from) (spelling (joining_unit message)) tt);
}

down_plain : (ciphers : Ciphers) (from : ℕ) (message : JoinMessage) → IsPlainFrame (spelled ciphers (Down from message)).octets
unfolding spelled
down_plain ciphers from message = record {
  head = heads.Down true 1 0 PAN message.eui from;
  message = message;
  plain = tt;
  spelled = refl;
  nonce = plain_nonce _ (plain_say (heads.Down true 1 0 PAN message.eui from) (spelling (joining_unit message)) tt);
}

-- what a node sends flies as what it is
pub spelled_well : (ciphers : Ciphers) (number : ℕ) (frame : Sent) → IsSpelled ciphers (flight_by number (spelled ciphers frame))
spelled_well ciphers number (Sealed l) = record {
  sealed = λ k e. subst (λ k. IsSealedUnder ciphers k (spelled ciphers (Sealed l)).octets) (key_same k e) (sealed_under ciphers l);
  plain = λ e. absurd (no_key e);
}
  where
    key_same : (k : Key) → (spelled ciphers (Sealed l)).key ≡ Some k → l.key ≡ k
    key_same k e = same_Some _ _ (sealed_key ciphers l ∙ e)

    no_key : (spelled ciphers (Sealed l)).key ≡ None → ⊥
    no_key e = some_key l.key (sealed_key ciphers l ∙ e)
spelled_well ciphers number (Up agent from message) = record {
  sealed = λ k e. absurd (none_key k (up_key ciphers agent from message ∙ e));
  plain = λ e. (inl (up_plain ciphers agent from message), up_note ciphers agent from message);
}
spelled_well ciphers number (Down from message) = record {
  sealed = λ k e. absurd (none_key k (down_key ciphers from message ∙ e));
  plain = λ e. (inl (down_plain ciphers from message), down_note ciphers from message);
}
