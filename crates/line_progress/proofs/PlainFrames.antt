-- A joining message in a plain frame comes to the node that it is for, which reads it.
use Rattle.std.proofs.Common.{◌≡◌, ℕ, ◌+◌, ◌≤◌, true, false, List, length, Option, Some, None, Ok, Err, refl, ap, ◌∙◌, arith}
use Rattle.std.specs.Prelude.{if◌then◌else◌, is_some, not, nat_lt, ◌==◌, ◌&&◌}
use Rattle.std.proofs.lemmas.Bool.{and_right}
use Rattle.std.proofs.lemmas.List.{length-append}
use Rattle.plc_base.specs.Addresses.{IsAddress}
use Rattle.plc_base.specs.Fields.{octet}
use Rattle.plc_base.specs.declared.address.Eui.{Eui}
use Rattle.plc_base.specs.declared.address.TheConstants.{PAN}
use Rattle.mac_frames.specs.declared.head.MacHead.{MacHead}
use Rattle.mac_frames.specs.declared.head.MacHead.TheVariants as heads
use Rattle.mac_frames.specs.Faults.{frame_fault}
use Rattle.mac_frames.specs.Grammar.{Frame, IsBody, IsEui, IsHead, IsTarget, header, header_then}
use Rattle.mac_frames.specs.Laws.{IsRead}
use Rattle.mac_frames.proofs.Headers.{header_then-append, length-header}
use Rattle.mac_frames.proofs.HeadsRead.{frame_read}
use Rattle.mesh_header.specs.Grammar.{spelling}
use Rattle.mesh_header.specs.Reader.{unit_in}
use Rattle.mesh_header.proofs.Readings.{unit_read}
use Rattle.joining_messages.specs.declared.message.JoinMessage.{JoinMessage}
use Rattle.joining_messages.specs.declared.message.JoinBody.{JoinBody}
use Rattle.joining_messages.specs.declared.message.JoinBody.TheVariants as body
use Rattle.joining_messages.specs.Messages as joining
use Rattle.joining_messages.specs.Reader.{join_in}
use Rattle.joining_messages.proofs.Readings.{join_read}
use Rattle.node_rules.specs.Accepted.{Accepted}
use Rattle.node_rules.specs.declared.heard.Path.{Path}
use Rattle.node_rules.specs.declared.heard.Path.TheVariants as paths
use Rattle.node_rules.specs.declared.refusal.FrameRefusal.TheVariants.{NotForMe, Store}
use Rattle.node_rules.specs.Acceptance.{accept, accept_head, is_own, refuse, same_eui}
use Rattle.node_rules.specs.Ciphers.{Ciphers}
use Rattle.node_rules.specs.Frames.{Up, Down, Arrived, arrived, arrived_with, joining_unit, spelled}
use Rattle.node_rules.specs.Memory.{StationMemory}
use Rattle.node_rules.specs.Plans.{resting}
use Rattle.reach_rules.specs.Beacons.{is_discovery}

-- # Messages in their ranges

rest_long : (b : JoinBody) → joining.IsBody b → length (joining.rest_of b) ≤ 128
rest_long (body.Join eap) fits = fits
rest_long (body.Accept identifier) fits = omega arith
rest_long (body.Challenge eap) fits = fits.1
rest_long body.Decline fits = omega arith
rest_long body.Kick fits = omega arith
rest_long (body.Activate index) fits = omega arith

module _ (m : JoinMessage) (fits : joining.IsMessage m) where
  -- the octets of its unit
  abbrev pub payload_of : List ℕ
  payload_of = spelling (joining_unit m)

  pub short : length payload_of ≤ 139
  short =
      let whole = length-append m.eui.0 (joining.rest_of m.body) in
      let eight = fits.0 in
      let rest = rest_long m.body fits.1 in
      omega (arith, whole, eight, rest)

  -- the unit is read out of them, and the message out of the unit
  pub unit_is : unit_in payload_of ≡ Some (joining_unit m)
  unit_is = unit_read (joining_unit m) payload_of ((omega arith, omega arith), refl)

  pub message_is : join_in (joining.spelling m) ≡ Some m
  message_is = join_read m (joining.spelling m) (fits, refl)

  -- # A frame

  module _ (head : MacHead) (head_fits : IsHead head) (body_fits : IsBody head payload_of) where
    abbrev octets : List ℕ
    octets = header_then head payload_of

    size : length octets ≤ 400
    size =
        let whole : length octets ≡ length (header head) + length payload_of = ap length (header_then-append head payload_of)
        ∙ length-append (header head) payload_of in
        let front = length-header head head_fits in
        omega (arith, whole, front, short)

    frame : Frame head payload_of octets
    frame = record { fields = head_fits; rest = body_fits; size = size; spelled = refl }

    is_read : IsRead head payload_of octets
    is_read = frame_read head payload_of octets frame

    by_fault : {F : Type 0} (o : Option F) (a : Arrived) → o ≡ None → (if is_some o then None else Some a) ≡ Some a
    by_fault o a none = rw none refl

    pub comes_whole : (ciphers : Ciphers) → arrived ciphers octets ≡ Some (arrived_with ciphers head (header head) payload_of)
    unfolding arrived
    comes_whole ciphers =
        by_fault (frame_fault octets) _ is_read.whole ∙ (λ i. Some (arrived_with ciphers (is_read.said i) (is_read.front i) (is_read.rest i)))

  -- # Up and down

  -- it came so to a node, unread
  abbrev pub got_by : Path → Accepted
  got_by path = record { path = path; payload = payload_of }

  module _ (ciphers : Ciphers) (l : StationMemory) (own : Eui) where
    pub accepts_up : (agent : ℕ) (from : Eui) → IsTarget agent → IsEui from → is_own l agent ≡ true → same_eui own from ≡ false
        → accept l own (arrived ciphers (spelled ciphers (Up agent from m)).octets) ≡ resting l (Ok (got_by (paths.Up from))) (Err Store)
    unfolding spelled
    accepts_up agent from target name here apart =
        let head : MacHead = heads.Up true 1 0 PAN agent from in
        let a : Arrived = arrived_with ciphers head (header head) payload_of in
        ap (accept l own) (comes_whole head (omega arith, omega arith, omega arith, target, name) tt ciphers)
        ∙ (λ i. if ((PAN == PAN) && (here i && not (apart i))) then accept_head l a head else refuse l NotForMe)

    pub accepts_down : (from : ℕ) → IsAddress from → IsEui m.eui → same_eui own m.eui ≡ true → is_own l from ≡ false
        → accept l own (arrived ciphers (spelled ciphers (Down from m)).octets) ≡ resting l (Ok (got_by (paths.Down from))) (Err Store)
    unfolding spelled
    accepts_down from address name here apart =
        let head : MacHead = heads.Down true 1 0 PAN m.eui from in
        let a : Arrived = arrived_with ciphers head (header head) payload_of in
        ap (accept l own) (comes_whole head (omega arith, omega arith, omega arith, name, address) tt ciphers)
        ∙ (λ i. if ((PAN == PAN) && (here i && not (apart i))) then accept_head l a head else refuse l NotForMe)

    -- neither is a frame of discovery
    pub up_is_none : (agent : ℕ) (from : Eui) → is_discovery (spelled ciphers (Up agent from m)).octets ≡ false
    unfolding spelled octet
    up_is_none agent from = and_right (nat_lt 0 (length (header_then (heads.Up true 1 0 PAN agent from) payload_of))) false refl

    pub down_is_none : (from : ℕ) → is_discovery (spelled ciphers (Down from m)).octets ≡ false
    unfolding spelled octet
    down_is_none from = and_right (nat_lt 0 (length (header_then (heads.Down true 1 0 PAN m.eui from) payload_of))) false refl
