use Rattle.std.proofs.Common.{◌≡◌, ◌∙◌, List, ℕ, length, arith}
use Rattle.plc_base.specs.Fields.{part}
use Rattle.eap_psk.specs.Messages.{head}
use Rattle.eap_psk.proofs.Fronts.{part_front}
use Rattle.eap_psk.proofs.reading.head_of.Goals as goal

pub returns : goal.returns
returns c =
    let f = c.in_ok-fields.ensures in
    let packet : List ℕ = c.args.packet.now in
    let front : List ℕ = head c.args.code c.in_ok-fields.fields.identifier (length packet) c.args.number c.in_ok-fields.fields.rand_s.0 in
    let len : length front ≡ 22 = omega (arith, f.3) in
    let named : part 0 22 packet ≡ front = part_front 22 packet front f.4 len in
    (f.0, f.1, f.2, f.3, c.in_ok-octets.ensures.0, c.in_ok-octets.ensures.0 ∙ named, f.4)
