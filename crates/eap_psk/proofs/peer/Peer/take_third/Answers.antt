use Rattle.std.proofs.Common.{◌≡◌, List, ℕ}
use Rattle.plc_base.specs.Fields.{after}
use Rattle.eap_psk.specs.Keys.{transient_key, channel_tag, channel_text, mac_s}
use Rattle.eap_psk.specs.Messages.{Third, granting_text}
use Rattle.eap_psk.proofs.Relations.{third_read}
use Rattle.eap_psk.proofs.peer.Peer.take_third.Goals as goal

pub returns-clause-read : goal.returns-clause-read
returns-clause-read c =
    let f = c.in_ok-third.ensures in
    let g = c.in_ok-text.ensures in
    let packet : List ℕ = c.args.packet.now in
    let peer = c.args.self.now in
    let ak : List ℕ = c.args.keys.now.ak in
    let header : List ℕ = c.in_ok-third.third.head.octets in
    let mac : List ℕ = c.in_ok-third.third.mac_s in
    let tag : List ℕ = c.in_ok-third.third.tag in
    let rand_s : List ℕ = c.in_ok-third.third.head.rand_s.0 in
    let identifier : ℕ = c.in_ok-third.third.head.identifier in
    let tek : List ℕ = transient_key c.args.keys.now.kdk c.args.self.now.rand_p.0 in
    let text : List ℕ = granting_text c.in_ok-grant.grant in
    let session : rand_s ≡ c.args.self.now.rand_s.0 = c.in_ok-check_same.ensures.1 in
    let mac_is : mac ≡ mac_s ak c.args.self.now.id_s.0 c.args.self.now.rand_p.0 = cc (c.in_ok-check_code.ensures.1) in
    let tag_is : tag ≡ channel_tag tek 0 header (after 58 packet) = cc (g.1) in
    let text_is : text ≡ channel_text tek 0 (after 58 packet) = cc (g.2, c.in_ok-grant.ensures.1) in
    let read : Third ak tek identifier rand_s c.args.self.now.rand_p.0 c.args.self.now.id_s.0 text packet =
    third_read ak tek header packet text rand_s c.args.self.now.rand_p.0 c.args.self.now.id_s.0 mac tag identifier f.10 f.3 f.2 mac_is tag_is text_is in
    let one : Third ak tek identifier c.args.self.now.rand_s.0 c.args.self.now.rand_p.0 c.args.self.now.id_s.0 text packet = rw session at read in
    rw f.5 at one

pub returns-clause-grant : goal.returns-clause-grant
returns-clause-grant c =
    let packet : List ℕ = c.args.packet.now in
    let tek : List ℕ = transient_key c.args.keys.now.kdk c.args.self.now.rand_p.0 in
    let text_is : c.in_ok-text.text ≡ channel_text tek 0 (after 58 packet) = cc (c.in_ok-text.ensures.2) in
    cc (c.in_ok-grant.ensures.2, text_is)
