use Rattle.std.proofs.Common.{◌≡◌, List, ℕ, slice_index}
use Rattle.plc_base.specs.Fields.{after}
use Rattle.eap_psk.specs.Keys.{transient_key, channel_tag, channel_text}
use Rattle.eap_psk.specs.Messages.{Fourth}
use Rattle.eap_psk.proofs.Relations.{fourth_read}
use Rattle.eap_psk.proofs.server.Server.take_fourth_with.Goals as goal

pub returns-clause-read : goal.returns-clause-read
returns-clause-read c =
    let f = c.in_ok-fourth.ensures in
    let g = c.in_ok-text.ensures in
    let packet : List ℕ = c.args.packet.now in
    let header : List ℕ = c.in_ok-fourth.fourth.head.octets in
    let tag : List ℕ = c.in_ok-fourth.fourth.tag in
    let rand_s : List ℕ = c.in_ok-fourth.fourth.head.rand_s.0 in
    let tek : List ℕ = transient_key c.args.keys.now.kdk c.args.rand_p.0 in
    let text : List ℕ = c.in_ok-text.text in
    let session : rand_s ≡ c.args.self.now.rand_s.0 = c.in_ok-check_same.ensures.1 in
    let tag_is : tag ≡ channel_tag tek 1 header (after 42 packet) = cc (g.1) in
    let text_is : text ≡ channel_text tek 1 (after 42 packet) = cc (g.2) in
    let success : slice_index text 0 ≡ 0x80 = cc (c.octets.ensures.value, c.if-octets.false) in
    let read : Fourth tek 2 rand_s packet = fourth_read tek header packet text rand_s tag f.7 f.1 f.3 tag_is text_is success in
    rw session at read
